-- A drain keeps the world: a plain one, one that decides the lane's call, and one that leaves the log empty.
use Rattle.std.proofs.Common.{◌≡◌, ℕ, ◌+◌, ◌<◌, ◌≤◌, ⊎_elim, Bool, true, false, not, ◌||◌, List, [], ◌∷◌, length, Option, Some, None, is_some, refl, sym, ap, ◌∙◌, subst, arith}
use Rattle.std.specs.List.{list_any, filter}
use Rattle.std.proofs.lemmas.Option.{none-some}
use Rattle.std.proofs.lemmas.Bool.{cases_Bool, cond-true, cond-false, or_cases, or_left, or_right, not-true, false≢true, false_from_ne_true, not_from_false}
use Rattle.std.proofs.lemmas.List.Elements.{All-filter, All-weaker}
use Rattle.solo_view.specs.declared.change.Change.{Change}
use Rattle.solo_view.specs.Changes.{is_in_line, drained}
use Rattle.solo_view.specs.Counts.{MayCount}
use Rattle.solo_view.specs.Log.{Phase, Log, no_log, log_drained}
use Rattle.solo_view.specs.Log.Phase.{Idle, Open, Drawn, Sealing, Applying, Clearing, Retiring}
use Rattle.solo_view.specs.Steps.Step.{Drain}
use Rattle.solo_view.specs.View.{View}
use Rattle.solo_view.specs.Views.{log_after_drain}
use Rattle.pm_image.specs.Logs.{slot_line}
use Rattle.solo_world.specs.Course.{flight_in, is_number, is_decided_by_drain}
use Rattle.solo_world.specs.Fits.{AppliedChange, OpenChange, RetiringChange, SealChange, LaneFits, PhaseFits}
use Rattle.solo_world.specs.History.{Entry, Flies, settled}
use Rattle.solo_world.specs.Laws.{Keeps, with_view}
use Rattle.solo_world.specs.Lawful.{FilledChange}
use Rattle.solo_world.specs.Memory.{Memory, IsSame}
use Rattle.solo_world.specs.Opening.{Opening}
use Rattle.solo_world.specs.Records.{is_drained_slot, is_logged}
use Rattle.solo_world.specs.Solo.{some_undrained}
use Rattle.solo_world.specs.World.{Views, World}
use Rattle.solo_world.proofs.Filled.{filled_again}
use Rattle.solo_world.proofs.Decided.{decides, seals}
use Rattle.solo_world.proofs.Emptied.{clears, gives_up}
use Rattle.solo_world.proofs.Recoursed.{Leaves, logged_more, open_again, recoursed}
use Rattle.solo_world.proofs.Worlds.{own, room_kept}

any_kept : (p q : Change → Bool) (changes : List Change) → list_any p (filter q changes) ≡ true → list_any p changes ≡ true
any_kept p q [] e = e
any_kept p q (c ∷ changes) e =
    ⊎_elim (λ (keeps : q c ≡ true). let f : list_any p (c ∷ filter q changes) ≡ true = ap (list_any p) (sym (cond-true (q c) (c ∷ filter q changes) (filter q changes) keeps)) ∙ e in
    ⊎_elim (λ (here : p c ≡ true). or_left (p c) (list_any p changes) here) (λ (later : list_any p (filter q changes) ≡ true). or_right (p c) (list_any p changes) (any_kept p q changes later)) (or_cases (p c) (list_any p (filter q changes)) f))
    (λ (drops : q c ≡ false). or_right (p c) (list_any p changes) (any_kept p q changes (ap (list_any p) (sym (cond-false (q c) (c ∷ filter q changes) (filter q changes) drops)) ∙ e)))
    (cases_Bool (q c))

fewer_kept : (q : Change → Bool) (changes : List Change) → length (filter q changes) ≤ length changes
fewer_kept q [] = omega arith
fewer_kept q (c ∷ changes) =
    let rest = fewer_kept q changes in
    ⊎_elim (λ (keeps : q c ≡ true). let e = ap length (cond-true (q c) (c ∷ filter q changes) (filter q changes) keeps) in omega arith)
    (λ (drops : q c ≡ false). let e = ap length (cond-false (q c) (c ∷ filter q changes) (filter q changes) drops) in omega arith)
    (cases_Bool (q c))

abbrev drained_view : View → Log → View
drained_view v log = record v { changes = drained v.changes; calls = v.calls + 1; log = log }

slots_drained : (v : View) (slot : ℕ) → is_drained_slot v slot ≡ true → is_drained_slot (drained_view v v.log) slot ≡ true
slots_drained v slot e = not_from_false _ (false_from_ne_true _ (λ any. false≢true (sym (not-true _ e) ∙ any_kept (λ c. is_in_line (slot_line v.lane slot) c) (λ c. not c.flushed) v.changes any)))

or_false : (b : Bool) → (b || false) ≡ b
or_false true = refl
or_false false = refl

module _ (o : Opening) (old : Memory) (views : Views) (log : List Entry) (decided : ℕ → Bool) (world : World o old views log decided) (k : ℕ) (inside : k < o.lanes) (v : View) (is : views k ≡ v)
    (new : Memory) (same : IsSame old new) (may : MayCount v) where
  mine : LaneFits o old (settled o log decided) (Flies log decided k) k v
  mine = own o old views log decided world k inside v is

  -- the log goes on as it is
  plain : World o new (with_view views k (drained_view v v.log)) log decided
  plain =
      let v' : View = drained_view v v.log in
      let logged : (w : ℕ) → is_logged v w ≡ true → is_logged v' w ≡ true = λ w e. logged_more v v' (slots_drained v) 0 v.log.records w e in
      let leaves : Leaves v v' (drained v.changes) = record {
        slots = slots_drained v;
        none = λ empty. ap drained empty;
        filled = λ all. All-filter (λ c. not c.flushed) (FilledChange v') v.changes (All-weaker (FilledChange v) (FilledChange v') (λ c of. filled_again v v' c (λ own. own) (λ silent. silent) of) v.changes all);
        open_ = λ all. All-filter (λ c. not c.flushed) (OpenChange v') v.changes (All-weaker (OpenChange v) (OpenChange v')
            (λ c of. open_again v v' c refl logged (λ own. record { reserved = own.reserved; plain = own.plain }) of) v.changes all);
        retiring = λ all. All-filter (λ c. not c.flushed) (RetiringChange v') v.changes (All-weaker (RetiringChange v) (RetiringChange v') (λ c of. record { whole = of.whole; of = of.of; before = of.before }) v.changes all);
        sealed = λ before all. All-filter (λ c. not c.flushed) (SealChange v' before) v.changes (All-weaker (SealChange v before) (SealChange v' before) (λ c of. record { whole = of.whole; of = of.of; before = of.before }) v.changes all);
        applied = λ count all. All-filter (λ c. not c.flushed) (AppliedChange v' count) v.changes (All-weaker (AppliedChange v count) (AppliedChange v' count) (λ c of. record { of = of.of; bits = of.bits; next = of.next }) v.changes all);
        fewer = fewer_kept (λ c. not c.flushed) v.changes;
      } in
      recoursed o old views log decided world k inside v is new (drained v.changes) (v.calls + 1) v.seen v.call v.actions same leaves
      (λ stop e. let due = may stop e in omega arith) (omega arith) (room_kept o old views log decided world k inside v is v' (λ can. can))

  redecided : (v' : View) (decided' decided'' : ℕ → Bool) → ((n : ℕ) → decided' n ≡ decided'' n) → World o new (with_view views k v') log decided' → World o new (with_view views k v') log decided''
  redecided v' decided' decided'' eq w = subst (World o new (with_view views k v') log) (λ i n. eq n i) w

  not_empty : 0 < length v.changes → v.changes ≡ [] → ⊥
  not_empty some empty = let none = ap length empty in omega arith

  drain_all : 0 < length v.changes → drained v.changes ≡ [] → (phase : Phase) → v.log.phase ≡ phase → (number : Option ℕ) → v.number ≡ number
      → World o new (with_view views k (record v { changes = []; calls = v.calls + 1; log = log_drained phase (is_some number) v.log })) log (λ n. decided n || is_number (flight_in phase number) n)
  drain_all some empty Idle e number f =
      redecided (record v { changes = []; calls = v.calls + 1; log = v.log }) decided (λ n. decided n || false) (λ n. sym (or_false (decided n)))
      (subst (λ changes. World o new (with_view views k (record v { changes = changes; calls = v.calls + 1; log = v.log })) log decided) empty plain)
  drain_all some empty (Open slot pair) e number f =
      redecided (record v { changes = []; calls = v.calls + 1; log = v.log }) decided (λ n. decided n || false) (λ n. sym (or_false (decided n)))
      (subst (λ changes. World o new (with_view views k (record v { changes = changes; calls = v.calls + 1; log = v.log })) log decided) empty plain)
  drain_all some empty Drawn e number f = absurd (not_empty some (subst (PhaseFits (Flies log decided k) v) e mine.phase).drained)
  drain_all some empty Sealing e None f = let fits = subst (PhaseFits (Flies log decided k) v) e mine.phase in absurd (none-some fits.number (sym f ∙ fits.drawn))
  drain_all some empty Sealing e (Some m) f = seals o old views log decided world k inside v is new same may e m f
  drain_all some empty (Applying applied) e number f =
      redecided (record v { changes = []; calls = v.calls + 1; log = v.log }) decided (λ n. decided n || false) (λ n. sym (or_false (decided n)))
      (subst (λ changes. World o new (with_view views k (record v { changes = changes; calls = v.calls + 1; log = v.log })) log decided) empty plain)
  drain_all some empty Clearing e number f =
      redecided (record v { changes = []; calls = v.calls + 1; log = no_log Idle }) decided (λ n. decided n || false) (λ n. sym (or_false (decided n))) (clears o old views log decided world k inside v is new same may e)
  drain_all some empty Retiring e None f =
      redecided (record v { changes = []; calls = v.calls + 1; log = no_log (Open [] []) }) decided (λ n. decided n || false) (λ n. sym (or_false (decided n))) (gives_up o old views log decided world k inside v is new same may e f)
  drain_all some empty Retiring e (Some m) f = decides o old views log decided world k inside v is new same may m e f

  drain_left : 0 < length v.changes → (left : List Change) → drained v.changes ≡ left
      → World o new (with_view views k (record v { changes = left; calls = v.calls + 1; log = log_after_drain left v })) log (λ n. decided n || is_decided_by_drain left v n)
  drain_left some [] e = drain_all some e v.log.phase refl v.number refl
  drain_left some (c ∷ left) e =
      redecided (record v { changes = c ∷ left; calls = v.calls + 1; log = v.log }) decided (λ n. decided n || false) (λ n. sym (or_false (decided n)))
      (subst (λ changes. World o new (with_view views k (record v { changes = changes; calls = v.calls + 1; log = v.log })) log decided) e plain)

pub drains : Keeps Drain
drains o old new views log decided k v world inside is lawful same = (drain_left o old views log decided world k inside v is new same (lawful.due refl) (some_undrained v.changes lawful.allowed) (drained v.changes) refl, tt)
