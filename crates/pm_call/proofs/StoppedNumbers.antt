-- WHAT A LANE THAT STOPPED HAS OF ITS LAST CALL; a lane stops before a counted step. A call that
-- is given up takes its number after its last counted step: it told nothing yet. A call that is
-- committed or published takes its number before its log is sealed or retired, and its lane is idle
-- with the last step of that: a lane that stopped with the number has a call to be decided or
-- applied.
use Rattle.std.proofs.Common.{◌≡◌, ◌≢◌, ◌⊎◌, ℕ, zero, suc, ◌+◌, ◌/◌, ◌<◌, ◌==◌, Bool, true, false, inl, inr, ⊎_elim, if◌then◌else◌, List, [], ◌∷◌, ◌++◌, length, map, take, refl, sym, ap, ◌∙◌, subst, arith, Option, None, Some}
use Rattle.std.specs.List.{AllByRecursion}
use Rattle.std.proofs.lemmas.Bool.{both_ways}
use Rattle.pm_layout.specs.Areas.{word_of_generation, word_of_seal}
use Rattle.pm_layout.specs.declared.shape.Shape.{Shape}
use Rattle.pm_model.specs.Pending.{SetWord}
use Rattle.pm_objects.specs.declared.calls.Operation.{Operation}
use Rattle.pm_objects.specs.declared.calls.Operation.TheVariants.{Commit, Publish}
use Rattle.pm_objects.specs.declared.history.Value.{Value}
use Rattle.pm_record.specs.declared.redo.Redo.{Redo}
use Rattle.pm_view.specs.declared.occ.Occ.{Occ}
use Rattle.pm_view.specs.Changes.{Undrained, drained}
use Rattle.pm_view.specs.Claims.{class}
use Rattle.pm_view.specs.Counts.{counted, is_counted}
use Rattle.pm_view.specs.Log.{Phase, Idle, Open, Drawn, Sealing, Applying, Clearing, Retiring, Voiding, Log, log_changed, log_drained, log_stored}
use Rattle.pm_view.specs.Parts.{Part, GenerationPart, SealPart, part_of}
use Rattle.pm_view.specs.Steps.{Step}
use Rattle.pm_view.specs.Steps.Step.{Store, Or, And, Flush, Drain, Occupy, Draw, NumberSeen, Tell}
use Rattle.pm_view.specs.View.{Constants, View}
use Rattle.pm_view.specs.Views.{after, after_all, log_left, occupied, part_in, shape_of}
use Rattle.pm_world.specs.LaneFields.{Standing}
use Rattle.pm_world.specs.Lawful.{MayStore, StoreFits}
use Rattle.pm_plan.specs.Plans.{Plan, Ready, in_turn, makes_room, one, persists, persists_all, stores}
use Rattle.pm_plan.proofs.AreaParts.{part_generation, part_seal}
use Rattle.pm_plan.proofs.Plans.{after_all-append, ready_left, ready_right}
use Rattle.pm_redo.specs.Plans.{applies, clears, performs, seals, writes_log, writes_seal}
use Rattle.pm_undo.specs.Plans.{ends_word, retires}
use Rattle.pm_call.specs.At.{set_entry}
use Rattle.pm_call.specs.Between.{MayOpen}
use Rattle.pm_call.specs.Plans.{commits, ends_call, ends_records, finishes, gives_up, logs_entries, performs_call, takes_back}
use Rattle.pm_call.specs.Publications.{publishes}
use Rattle.pm_crash.specs.Fates.{EndsOpen}
use Rattle.pm_call.proofs.SilentPlans.{AreSilent, IsAsTold, IsSilentPlan, is_silent, silent_applies, silent_back, silent_log, silent_persists, silent_room, silent_seal, silent_step, silent_steps, silent_store, told_same, told_then}

-- ---- A CALL THAT IS GIVEN UP

-- before each counted step of the plan nothing was told, and no number was taken
abbrev pub StopsUnnumbered : Plan → Type 0
StopsUnnumbered plan = (v : View) (made : ℕ)
    → counted (take (made + 1) (plan v)) ≡ counted (take made (plan v)) + 1
    → IsAsTold v (after_all v (take made (plan v)))

-- ---- SILENT STEPS, and steps after them that are not counted

abbrev AreUncounted : List Step → Type 0
AreUncounted steps = AllByRecursion (λ s. is_counted s ≡ false) steps

abbrev one_if : Bool → ℕ
one_if b = if b then 1 else 0

none_counted : (steps : List Step) (k : ℕ) → AreUncounted steps → counted (take k steps) ≡ 0
unfolding counted
none_counted steps zero are = refl
none_counted [] (suc k) are = refl
none_counted (s ∷ steps) (suc k) are =
    let one : one_if (is_counted s) ≡ 0 = ap one_if are.0 in
    let more = none_counted steps k are.1 in omega (arith, one, more)

before_counted : (v : View) (a b : List Step) (k : ℕ) → AreSilent a → AreUncounted b
    → counted (take (suc k) (a ++ b)) ≡ counted (take k (a ++ b)) + 1
    → IsAsTold v (after_all v (take k (a ++ b)))
unfolding after_all counted
before_counted v [] b k silent none due =
    let now = none_counted b k none in
    let next = none_counted b (suc k) none in absurd (omega (arith, due, now, next))
before_counted v (s ∷ a) b zero silent none due = told_same v
before_counted v (s ∷ a) b (suc k) silent none due = told_then v (after v s) _
    (silent_step v s silent.0)
    (before_counted (after v s) a b k silent.1 none (omega (arith, due)))

module _ (a : Plan) (silent : IsSilentPlan a) (op : Operation) (reply : Option Value) where
  due_next : (made : ℕ) (steps : List Step)
      → counted (take (made + 1) steps) ≡ counted (take made steps) + 1
      → counted (take (suc made) steps) ≡ counted (take made steps) + 1
  due_next made steps due =
      let same : made + 1 ≡ suc made = omega arith in
      subst (λ k. counted (take k steps) ≡ counted (take made steps) + 1) same due

  -- such steps, and the operation is told and its call takes its number
  ends_unnumbered : (n : ℕ) → StopsUnnumbered (in_turn a (ends_call op reply n))
  unfolding in_turn one
  ends_unnumbered n v made due = before_counted v (a v) (Tell op reply ∷ Draw n ∷ []) made
      (silent v) (refl, (refl, tt)) (due_next made (a v ++ Tell op reply ∷ Draw n ∷ []) due)

-- THE LAW: so a call that is given up
pub gives_up_unnumbered : (op : Operation) (reply : Option Value) (n : ℕ)
    → StopsUnnumbered (gives_up op reply n)
gives_up_unnumbered op reply n = ends_unnumbered takes_back silent_back op reply n

-- ---- A CALL THAT HAS ITS NUMBER is idle with its last step alone

abbrev NotIdle : View → Type 0
NotIdle v = v.log.phase ≢ Idle

-- before each of these steps
abbrev NeverIdle : View → List Step → Type 0
NeverIdle v steps = (k : ℕ) → k < length steps → NotIdle (after_all v (take k steps))

-- an idle lane is idle after a silent step
idle_drained : (v : View) (left : List Undrained) → v.log.phase ≡ Idle
    → (log_left left v.log).phase ≡ Idle
idle_drained v [] idle = ap (λ (ph : Phase). (log_drained ph v.log).phase) idle ∙ idle
idle_drained v (c ∷ left) idle = idle

idle_occupied : (won : Bool) (v : View) (at : Occ) (bits : ℕ) → v.log.phase ≡ Idle
    → (occupied won v at bits).log.phase ≡ Idle
idle_occupied true v at bits idle = idle
idle_occupied false v at bits idle = idle

idle_step : (v : View) (s : Step) → is_silent s ≡ true → v.log.phase ≡ Idle
    → (after v s).log.phase ≡ Idle
idle_step v (Store w x) e idle = ap (λ (ph : Phase).
    (log_stored (shape_of v) (class v.claims) ph (part_in v w) x v.log).phase) idle ∙ idle
idle_step v (Or w bits found) e idle =
    ap (λ (ph : Phase). (log_changed ph v.log).phase) idle ∙ idle
idle_step v (And w bits found) e idle =
    ap (λ (ph : Phase). (log_changed ph v.log).phase) idle ∙ idle
idle_step v Drain e idle = idle_drained v (drained v.changes) idle
idle_step v (Occupy at bits won) e idle = idle_occupied won v at bits idle
idle_step v (NumberSeen n) e idle = absurd (both_ways false refl e)
idle_step v (Draw n) e idle = absurd (both_ways false refl e)
idle_step v s e idle = idle

not_idle_before : (v : View) (steps : List Step) → AreSilent steps
    → NotIdle (after_all v steps) → NotIdle v
unfolding after_all
not_idle_before v [] are here idle = here idle
not_idle_before v (s ∷ steps) are here idle =
    not_idle_before (after v s) steps are.1 here (idle_step v s are.0 idle)

never_idle_then : (v : View) (a b : List Step) → AreSilent a → NotIdle (after_all v a)
    → NeverIdle (after_all v a) b → NeverIdle v (a ++ b)
unfolding after_all
never_idle_then v [] b silent here never k low = never k low
never_idle_then v (s ∷ a) b silent here never zero low = not_idle_before v (s ∷ a) silent here
never_idle_then v (s ∷ a) b silent here never (suc k) low =
    never_idle_then (after v s) a b silent.1 here never k (omega (arith, low))

-- ---- a store of the lane's seal or generation, where the lane may make it

abbrev Decides : Part → Type 0
Decides part = (v : View) (w x : ℕ) (ph : Phase) → StoreFits v w x ph part
    → (log_stored (shape_of v) (class v.claims) ph part x v.log).phase ≢ Idle

seal_decides : Decides SealPart
seal_decides v w x Idle fits e = absurd fits
seal_decides v w x Open fits e = absurd fits
seal_decides v w x (Drawn n) fits e = cc
seal_decides v w x (Sealing n) fits e = absurd fits
seal_decides v w x (Applying todo) fits e = cc
seal_decides v w x Clearing fits e = absurd fits
seal_decides v w x (Retiring n) fits e = absurd fits
seal_decides v w x Voiding fits e = absurd fits

generation_decides : Decides GenerationPart
generation_decides v w x Idle fits e = absurd fits
generation_decides v w x Open fits e = cc
generation_decides v w x (Drawn n) fits e = cc
generation_decides v w x (Sealing n) fits e = absurd fits
generation_decides v w x (Applying todo) fits e = cc
generation_decides v w x Clearing fits e = absurd fits
generation_decides v w x (Retiring n) fits e = absurd fits
generation_decides v w x Voiding fits e = absurd fits

flush_and_drain : (v : View) (line : ℕ) → NotIdle v → NeverIdle v (Flush line ∷ Drain ∷ [])
unfolding after_all
flush_and_drain v line here zero low = here
flush_and_drain v line here (suc zero) low = here
flush_and_drain v line here (suc (suc k)) low = absurd (omega (arith, low))

-- and the steps that make it persistent
word_decides : (v : View) (w x line : ℕ) → Decides (part_in v w)
    → Ready v (in_turn (stores w x) (persists line) v)
    → NotIdle v × NeverIdle v (in_turn (stores w x) (persists line) v)
unfolding in_turn one stores persists after_all Ready
word_decides v w x line decides ready =
    let r : List Step = makes_room v in
    let a : List Step = r ++ Store w x ∷ [] in
    let z : View = after_all v r in
    let may : MayStore z w x = (ready_right v r (Store w x ∷ [])
    (ready_left v a (Flush line ∷ Drain ∷ []) ready)).0 in
    let part : part_in z w ≡ part_in v w = ap (λ (c : Constants). part_of c.shape c.lane w)
    (silent_steps v r (silent_room v)).fixed in
    let stored : NotIdle (after z (Store w x)) =
    subst Decides (sym part) decides z w x z.log.phase may.fits in
    let here : NotIdle (after_all v a) =
    subst NotIdle (sym (after_all-append v r (Store w x ∷ []))) stored in
    let silent : AreSilent a = silent_store w x v in (
      not_idle_before v a silent here,
      never_idle_then v a (Flush line ∷ Drain ∷ []) silent here
          (flush_and_drain (after_all v a) line here),
    )

-- ---- so the steps that decide and apply a log, and those that retire it

clears_at_end : (v : View) → Ready v (clears v) → NotIdle v × NeverIdle v (clears v)
unfolding clears writes_seal
clears_at_end v ready =
    let sh : Shape = v.fixed.shape in
    let w : ℕ = word_of_seal sh v.fixed.lane in
    word_decides v w 0 (w / 8) (subst Decides (sym (part_seal sh v.fixed.lane w refl)) seal_decides)
    ready

retires_at_end : (v : View) → Ready v (retires v) → NeverIdle v (retires v)
unfolding retires ends_word
retires_at_end v ready =
    let w : ℕ = word_of_generation v.fixed.shape v.fixed.lane in
    (word_decides v w (v.log.generation + 1) (w / 8)
    (subst Decides (sym (part_generation v.fixed.shape v.fixed.lane)) generation_decides) ready).1

performs_at_end : (found : ℕ → ℕ) (v : View) → Ready v (performs found v)
    → NeverIdle v (performs found v)
unfolding performs in_turn seals
performs_at_end found v ready =
    let a : List Step = seals v in
    let u : View = after_all v a in
    let b : List Step = applies found u in
    let c : List Step = clears (after_all u b) in
    let silent : AreSilent b = silent_applies found u in
    let end = clears_at_end (after_all u b)
    (ready_right u b c (ready_right v a (b ++ c) ready)) in
    never_idle_then v a (b ++ c)
    (silent_seal (word_of_seal v.fixed.shape v.fixed.lane) (length v.log.entries) v)
    (not_idle_before u b silent end.0)
    (never_idle_then u b c silent end.0 end.1)

records_at_end : (v : View) → Ready v (ends_records v) → NeverIdle v (ends_records v)
records_at_end v = by (length v.log.records == 0) where
  by : (b : Bool) → Ready v (if b then [] else retires v)
      → NeverIdle v (if b then [] else retires v)
  by true ready k low = absurd (omega (arith, low))
  by false ready k low = retires_at_end v ready k low

-- ---- SO IS A PLAN: before each of its steps no number was taken, or the call is to be decided

abbrev IsUnended : View → Type 0
IsUnended v = (v.number ≡ None) ⊎ NotIdle v

abbrev AreUnended : View → List Step → Type 0
AreUnended v steps = (k : ℕ) → k < length steps → IsUnended (after_all v (take k steps))

abbrev pub StopsUnended : Plan → Type 0
StopsUnended plan = (v : View) → v.number ≡ None → Ready v (plan v) → AreUnended v (plan v)

unended_then : (v : View) (a b : List Step) → AreSilent a → v.number ≡ None
    → AreUnended (after_all v a) b → AreUnended v (a ++ b)
unfolding after_all
unended_then v [] b silent none more k low = more k low
unended_then v (s ∷ a) b silent none more zero low = inl none
unended_then v (s ∷ a) b silent none more (suc k) low = unended_then (after v s) a b silent.1
    ((silent_step v s silent.0).number ∙ none) more k (omega (arith, low))

turn_unended : (a plan : Plan) → IsSilentPlan a → StopsUnended plan
    → StopsUnended (in_turn a plan)
unfolding in_turn
turn_unended a plan silent stops v none ready =
    let u : View = after_all v (a v) in
    unended_then v (a v) (plan u) (silent v) none
    (stops u ((silent_steps v (a v) (silent v)).number ∙ none)
    (ready_right v (a v) (plan u) ready))

lone_unended : (op : Operation) (n : ℕ) → StopsUnended (ends_call op None n)
unfolding in_turn one after_all
lone_unended op n v none ready zero low = inl none
lone_unended op n v none ready (suc zero) low = inl none
lone_unended op n v none ready (suc (suc k)) low = absurd (omega (arith, low))

call_unended : (op : Operation) (n : ℕ) (b : Plan)
    → ((v : View) → Ready v (b v) → NeverIdle v (b v))
    → StopsUnended (in_turn (ends_call op None n) b)
unfolding in_turn one after_all Ready
call_unended op n b never v none ready zero low = inl none
call_unended op n b never v none ready (suc zero) low = inl none
call_unended op n b never v none ready (suc (suc k)) low =
    inr (never (after (after v (Tell op None)) (Draw n)) ready.2.2 k (omega (arith, low)))

logs_unended : (op : Operation) (entries : List Redo) (found : ℕ → ℕ) (n : ℕ)
    → StopsUnended (logs_entries op entries found n)
logs_unended op entries found n = turn_unended (writes_log entries) (performs_call op found n)
    (silent_log entries) (call_unended op n (performs found) (performs_at_end found))

-- THE LAWS: so a commit, and a publish outside a transaction
pub commits_unended : (entries : List Redo) (found : ℕ → ℕ) (n : ℕ)
    → StopsUnended (commits entries found n)
commits_unended entries found n =
    turn_unended persists_all (finishes entries found n) silent_persists (by entries)
  where
    by : (entries : List Redo) → StopsUnended (finishes entries found n)
    by [] = call_unended Commit n ends_records records_at_end
    by (e ∷ es) = logs_unended Commit (e ∷ es) found n

pub publishes_unended : (words : List SetWord) (found : ℕ → ℕ) (n : ℕ)
    → StopsUnended (publishes words found n)
publishes_unended [] found n = lone_unended Publish n
publishes_unended (a ∷ words) found n =
    logs_unended Publish (map set_entry (a ∷ words)) found n

-- ---- SO A LANE ENDS, where its field tells the number

pub ends_open : (d : Option ℕ) (v : View) → d ≡ v.number → IsUnended v → EndsOpen d v
ends_open None v is unended = inr (sym is)
ends_open (Some n) v is unended =
    ⊎_elim (λ none. absurd (let e = is ∙ none in cc)) (λ here. (sym is, here)) unended

pub ends_untold : (d : Option ℕ) (v : View) → d ≡ None → v.number ≡ None → EndsOpen d v
ends_untold d v told none = ends_open d v (told ∙ sym none) (inl none)

-- between two calls the last has ended, or one was opened in which nothing was done
pub may_open_ends : (s : Standing) → MayOpen s → EndsOpen None s.view
may_open_ends s may = ⊎_elim
    (λ is. subst (λ (t : Standing). EndsOpen None t.view) (sym is)
    (inl (ap (λ (l : Log). l.phase) may.between.over.log)))
    (λ opened. subst (λ (t : Standing). EndsOpen None t.view) (sym opened.1) (inr refl))
    may.since
