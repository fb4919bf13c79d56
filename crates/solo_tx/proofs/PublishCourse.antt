-- A call that publishes ends the generation once, as the last of its entries is applied, and once the number is drawn.
use Rattle.std.proofs.Common.{◌≡◌, ◌≢◌, inl, inr, ℕ, zero, suc, ◌+◌, ◌/◌, ◌<◌, ◌≤◌, Bool, true, false, cond, All, List, [], ◌∷◌, ◌++◌, is_some, length, length-append, take, None, refl, sym, ap, ◌∙◌, subst, arith, ne_eqb, slice_index}
use Rattle.std.proofs.lemmas.List.Elements.{All-head, All-tail, All-weaker}
use Rattle.pm_record.specs.declared.redo.Op.{Op}
use Rattle.pm_record.specs.declared.redo.Op.TheVariants.{Set, Or, And}
use Rattle.solo_crash.proofs.Raises.{raise_by}
use Rattle.solo_crash.specs.Alone.{raises}
use Rattle.pm_objects.specs.declared.calls.Operation.{Operation}
use Rattle.pm_record.specs.declared.redo.Redo.{Redo}
use Rattle.pm_record.specs.Redo.{op_code}
use Rattle.solo_redo.proofs.PairWords.{pair_part, seal_part}
use Rattle.solo_redo.proofs.Sealed.{seal_lawful}
use Rattle.solo_redo.proofs.Whole.{may_outside}
use Rattle.solo_redo.specs.Entering.{MayEnter, ending}
use Rattle.solo_redo.specs.Sequences.{applies, applies_each, applies_entry, ending_of, entry_at, logs, performs, performs_on, seals, stores_two, writes_entries, writes_log, writes_pair, writes_pairs, writes_seal, does}
use Rattle.solo_undo.proofs.Areas.{generation_word, other_part}
use Rattle.solo_undo.specs.Sequences.{persists}
use Rattle.solo_view.specs.declared.change.Change.{Change}
use Rattle.solo_view.specs.Area.{Part, area_word, is_in_area, part_of}
use Rattle.solo_view.specs.Area.Part.{EntryWord, GenerationWord, OtherWord, SealWord}
use Rattle.solo_view.specs.Changes.{drained}
use Rattle.solo_view.specs.Log.{Log, Phase, log_drained, log_drawn, log_stored, with_pair, log_changed}
use Rattle.solo_view.specs.Log.Phase.{Applying, Clearing, Drawn, Idle, Open, Sealing}
use Rattle.solo_view.specs.Steps.{Step}
use Rattle.solo_view.specs.Steps.Step.{Or as Or_step, And as And_step, Drain, Draw, Flush, Load, Store, Tell}
use Rattle.solo_view.specs.View.{View}
use Rattle.solo_view.specs.Views.{after, after_all, log_after_drain}
use Rattle.solo_world.specs.Entries.{entry_word}
use Rattle.solo_world.specs.Records.{generation_of}
use Rattle.solo_world.specs.Sequences.{Sequence, by_lane, by_view, counted, in_turn, makes_room, one, settles, stores, finds_in, ors, ands}
use Rattle.solo_tx.proofs.Courses.{Course, Throughout, course_counted, course_in_turn, course_of_kind, course_one, throughout_at, throughout_both}
use Rattle.solo_tx.proofs.Published.{perform_may, some_drawn, some_logged, written}
use Rattle.solo_tx.proofs.Retirement.{IsBeside, IsSteady, Stands, beside_keeps, none_raised, steady_open}
use Rattle.solo_tx.proofs.StepKinds.{HasOnly, HasQuietSteps, only_counted, only_in_turn, only_makes_room, only_one, only_persists, only_settles, only_stores, only_with_generation}
use Rattle.solo_tx.proofs.Unraised.{other_than_generation}
use Rattle.solo_tx.specs.Generations.{IsApplied, IsLogging, IsPublishing, IsUnapplied}
use Rattle.solo_tx.specs.Publishing.{MayPublish, logged_view, published_view}
use Rattle.solo_tx.specs.Sequences.{ends_call, performs_logged, publishes}

-- so many stores of the generation were made, the number is drawn or not, and this holds of the log's phase
abbrev InPhase : ℕ → Bool → (Phase → Type 0) → ℕ → View → Type 0
InPhase raised number F r w = (r ≡ raised) × (w.lane ≡ 0) × (is_some w.number ≡ number) × F w.log.phase

-- it holds of the phase behind a drain too
abbrev Lasts : (Phase → Type 0) → Type 0
Lasts F = (number : Bool) (log : Log) → F log.phase → F (log_drained log.phase number log).phase

-- a step that only looks or makes persistent
abbrev IsQuiet : Step → Type 0
IsQuiet (Load w x) = Unit {0}
IsQuiet (Flush line) = Unit {0}
IsQuiet Drain = Unit {0}
IsQuiet s = ⊥

quiet_steps : HasQuietSteps IsQuiet
quiet_steps = record { load = λ w x. tt; flush = λ line. tt; drain = tt }

module _ (raised : ℕ) (number : Bool) (F : Phase → Type 0) (lasts : Lasts F) where
  drained_lasts : (w : View) (changes : List Change) → F w.log.phase → F (log_after_drain changes w).phase
  drained_lasts w [] holds = lasts (is_some w.number) w.log holds
  drained_lasts w (c ∷ changes) holds = holds

  quiet_keeps : (r : ℕ) (w : View) (s : Step) → InPhase raised number F r w → IsQuiet s → InPhase raised number F (r + raise_by s) (after w s)
  quiet_keeps r w (Load word x) p quiet = (none_raised (Load word x) refl r raised p.0, p.1, p.2, p.3)
  quiet_keeps r w (Flush line) p quiet = (none_raised (Flush line) refl r raised p.0, p.1, p.2, p.3)
  quiet_keeps r w Drain p quiet = (none_raised Drain refl r raised p.0, p.1, p.2, drained_lasts w (drained w.changes) p.3)
  quiet_keeps r w s p quiet = absurd quiet

-- ---- the log is written

-- a step that looks, makes persistent, or stores a word of an entry's pair
abbrev IsEntering : Step → Type 0
IsEntering (Load w x) = Unit {0}
IsEntering (Store w x) = (w ≢ 512) × (part_of 0 w ≡ EntryWord)
IsEntering (Flush line) = Unit {0}
IsEntering Drain = Unit {0}
IsEntering s = ⊥

entering_steps : HasQuietSteps IsEntering
entering_steps = record { load = λ w x. tt; flush = λ line. tt; drain = tt }

logging_drained : (p : Phase) (number : Bool) (log : Log) → IsLogging p → IsLogging log.phase → IsLogging (log_drained p number log).phase
logging_drained (Open slot pair) number log is holds = holds
logging_drained p number log is holds = absurd is

logging_lasts : Lasts IsLogging
logging_lasts number log holds = logging_drained log.phase number log holds holds

pair_logging : (log : Log) (slot pair : List ℕ) → slot ≡ [] → IsLogging (with_pair log slot pair).phase
pair_logging log slot [] none = none
pair_logging log slot (a ∷ []) none = none
pair_logging log slot (a ∷ b ∷ []) none = none
pair_logging log slot (a ∷ b ∷ c ∷ pair) none = none

stored_logging : (p : Phase) (x : ℕ) (log : Log) → IsLogging p → IsLogging (log_stored p EntryWord x log).phase
stored_logging (Open slot pair) x log none = pair_logging log slot (pair ++ x ∷ []) none
stored_logging p x log none = absurd none

abbrev Logging : ℕ → View → Type 0
Logging = InPhase 0 false IsLogging

entering_keeps : (r : ℕ) (w : View) (s : Step) → Logging r w → IsEntering s → Logging (r + raise_by s) (after w s)
entering_keeps r w (Load word x) p entering = quiet_keeps 0 false IsLogging logging_lasts r w (Load word x) p tt
entering_keeps r w (Store word x) p entering = (
  none_raised (Store word x) (ap (λ (b : Bool). cond b 1 0) (ne_eqb word 512 entering.0)) r 0 p.0,
  p.1,
  p.2,
  subst (λ (part : Part). IsLogging (log_stored w.log.phase part x w.log).phase) (sym (ap (λ n. part_of n word) p.1 ∙ entering.1)) (stored_logging w.log.phase x w.log p.3),
)
entering_keeps r w (Flush line) p entering = quiet_keeps 0 false IsLogging logging_lasts r w (Flush line) p tt
entering_keeps r w Drain p entering = quiet_keeps 0 false IsLogging logging_lasts r w Drain p tt
entering_keeps r w s p entering = absurd entering

only_pair : (i : ℕ) (e : Redo) → i < 64 → HasOnly IsEntering (writes_pair 0 i e)
unfolding writes_pair stores_two
only_pair i e low =
    let word : ℕ = entry_word 0 i in
    let first : part_of 0 word ≡ EntryWord = (pair_part 0 i 0 word low (omega arith) (omega arith)).0 in
    let second : part_of 0 (word + 1) ≡ EntryWord = (pair_part 0 i 1 (word + 1) low (omega arith) refl).0 in
    only_in_turn IsEntering (stores word (e.place + op_code e.op)) (stores (word + 1) e.value)
    (only_stores IsEntering entering_steps word (e.place + op_code e.op) (λ same. omega (arith, same), first))
    (only_stores IsEntering entering_steps (word + 1) e.value (λ same. omega (arith, same), second))

only_entries : (all : List Redo) → length all ≤ 64 → HasOnly IsEntering (writes_entries 0 all)
unfolding writes_entries writes_pairs
only_entries all few =
    only_in_turn IsEntering (writes_pairs 0 all) settles
    (only_counted IsEntering (λ i. writes_pair 0 i (entry_at all i)) (length all) (λ i below. only_pair i (entry_at all i) (omega (arith, below, few))))
    (only_settles IsEntering entering_steps)

only_logs : (entries : List Redo) → length entries ≤ 63 → HasOnly IsEntering (logs entries)
unfolding logs
only_logs entries few =
    only_with_generation IsEntering entering_steps (writes_log entries)
    (λ x. only_entries (entries ++ ending_of 0 x ∷ []) (let more = length-append entries (ending_of 0 x ∷ []) in omega (arith, more, few)))

-- ---- it is performed

-- in this phase a drain changes nothing
drawn_lasts : Lasts (λ p. p ≡ Drawn)
drawn_lasts number log is = ap (λ (p : Phase). (log_drained p number log).phase) is ∙ is

applying_lasts : (k : ℕ) → Lasts (λ p. p ≡ Applying k)
applying_lasts k number log is = ap (λ (p : Phase). (log_drained p number log).phase) is ∙ is

-- the seal is stored, or drained
abbrev IsSealedIn : Phase → Type 0
IsSealedIn Sealing = Unit {0}
IsSealedIn (Applying applied) = applied ≡ 0
IsSealedIn phase = ⊥

sealed_drained : (p : Phase) (number : Bool) (log : Log) → IsSealedIn p → IsSealedIn log.phase → IsSealedIn (log_drained p number log).phase
sealed_drained Sealing number log is holds = refl
sealed_drained (Applying applied) number log is holds = holds
sealed_drained p number log is holds = absurd is

sealed_lasts : Lasts IsSealedIn
sealed_lasts number log holds = sealed_drained log.phase number log holds holds

-- and so it is with the seal that is cleared
abbrev IsClearedIn : Phase → Type 0
IsClearedIn Clearing = Unit {0}
IsClearedIn Idle = Unit {0}
IsClearedIn phase = ⊥

cleared_drained : (p : Phase) (number : Bool) (log : Log) → IsClearedIn p → IsClearedIn log.phase → IsClearedIn (log_drained p number log).phase
cleared_drained Clearing number log is holds = tt
cleared_drained Idle number log is holds = holds
cleared_drained p number log is holds = absurd is

cleared_lasts : Lasts IsClearedIn
cleared_lasts number log holds = cleared_drained log.phase number log holds holds

sealed_unapplied : (count : ℕ) (p : Phase) → IsSealedIn p → IsUnapplied count p
sealed_unapplied count Sealing is = tt
sealed_unapplied count (Applying applied) is = omega (arith, is)
sealed_unapplied count p is = absurd is

cleared_applied : (all : ℕ) (p : Phase) → IsClearedIn p → IsApplied all p
cleared_applied all Clearing is = tt
cleared_applied all Idle is = tt
cleared_applied all p is = absurd is

-- an entry of the front, and the one behind it
entry_of_front : (P : Redo → Type 0) (front more : List Redo) → All P front → (k : ℕ) → k < length front → P (entry_at (front ++ more) k)
entry_of_front P [] more each k low = absurd (omega (arith, low))
entry_of_front P (e ∷ front) more each zero low = All-head P e front each
entry_of_front P (e ∷ front) more each (suc k) low = entry_of_front P front more (All-tail P e front each) k (omega (arith, low))

entry_behind : (front : List Redo) (last : Redo) → entry_at (front ++ last ∷ []) (length front) ≡ last
entry_behind [] last = refl
entry_behind (e ∷ front) last = entry_behind front last

module _ (count : ℕ) where
  abbrev I : ℕ → View → Type 0
  I = IsPublishing count

  logging_so : (r : ℕ) (w : View) → Logging r w → I r w
  logging_so r w p = inl (p.0, inl (p.2, p.3))

  -- in such a phase the entry of the generation is not applied, or it is
  unapplied_so : (F : Phase → Type 0) → ((p : Phase) → F p → IsUnapplied count p) → (r : ℕ) (w : View) → InPhase 0 true F r w → I r w
  unapplied_so F so r w p = inl (p.0, inr (p.2, so w.log.phase p.3))

  applied_so : (F : Phase → Type 0) → ((p : Phase) → F p → IsApplied (count + 1) p) → (r : ℕ) (w : View) → InPhase 1 true F r w → I r w
  applied_so F so r w p = inr (p.0, p.2, so w.log.phase p.3)

  at_unapplied : (k : ℕ) → k ≤ count → (p : Phase) → p ≡ Applying k → IsUnapplied count p
  at_unapplied k few p is = subst (IsUnapplied count) (sym is) few

  at_applied : (p : Phase) → p ≡ Applying (count + 1) → IsApplied (count + 1) p
  at_applied p is = subst (IsApplied (count + 1)) (sym is) refl

  at_drawn : (p : Phase) → p ≡ Drawn → IsUnapplied count p
  at_drawn p is = subst (IsUnapplied count) (sym is) tt

  pub logs_course : (entries : List Redo) → length entries ≤ 63 → Course I Logging (logs entries) Logging
  logs_course entries few = course_of_kind I IsEntering Logging logging_so (λ r w p. p.1) entering_keeps (logs entries) (only_logs entries few)

  module _ (raised : ℕ) (F : Phase → Type 0) (lasts : Lasts F) (holds : (r : ℕ) (w : View) → InPhase raised true F r w → I r w) where
    quiet_course : (steps : Sequence) → HasOnly IsQuiet steps → Course I (InPhase raised true F) steps (InPhase raised true F)
    quiet_course steps only = course_of_kind I IsQuiet (InPhase raised true F) holds (λ r w p. p.1) (quiet_keeps raised true F lasts) steps only

    store_course : (Q : ℕ → View → Type 0) (word x : ℕ) → ((r : ℕ) (w : View) → Q r w → I r w) → ((r : ℕ) (w : View) → InPhase raised true F r w → Q (r + raise_by (Store word x)) (after w (Store word x)))
        → Course I (InPhase raised true F) (stores word x) Q
    unfolding stores
    store_course Q word x behind step =
        course_in_turn I (InPhase raised true F) (InPhase raised true F) Q makes_room (one (Store word x))
        (quiet_course makes_room (only_makes_room IsQuiet quiet_steps)) (course_one I (InPhase raised true F) Q (Store word x) holds behind step)

    -- bits of a word are set or cleared
    finds_course : (Q : ℕ → View → Type 0) (word : ℕ) (s : ℕ → Step) → ((r : ℕ) (w : View) → Q r w → I r w) → ((r : ℕ) (w : View) (x : ℕ) → InPhase raised true F r w → Q (r + raise_by (s x)) (after w (s x)))
        → Course I (InPhase raised true F) (in_turn makes_room (finds_in word s)) Q
    unfolding finds_in one
    finds_course Q word s behind step =
        course_in_turn I (InPhase raised true F) (InPhase raised true F) Q makes_room (finds_in word s)
        (quiet_course makes_room (only_makes_room IsQuiet quiet_steps)) found where
          found : Course I (InPhase raised true F) (finds_in word s) Q
          found r w p = course_one I (InPhase raised true F) Q (s (slice_index w.words word)) holds behind (λ q u. step q u (slice_index w.words word)) r w p

  -- the seal becomes another number, and that is made persistent
  seal_course : (raised : ℕ) (F G : Phase → Type 0) → Lasts F → Lasts G → ((r : ℕ) (w : View) → InPhase raised true F r w → I r w) → ((r : ℕ) (w : View) → InPhase raised true G r w → I r w) → (n : ℕ)
      → ((log : Log) → F log.phase → G (log_stored log.phase SealWord n log).phase) → Course I (InPhase raised true F) (writes_seal 0 n) (InPhase raised true G)
  unfolding writes_seal
  seal_course raised F G first second before behind n stored =
      let word : ℕ = area_word 0 + 1 in
      course_in_turn I (InPhase raised true F) (InPhase raised true G) (InPhase raised true G) (stores word n) (persists (area_word 0 / 8))
      (store_course raised F first before (InPhase raised true G) word n behind
      (λ r w p. (
        none_raised (Store word n) refl r raised p.0,
        p.1,
        p.2,
        subst (λ (part : Part). G (log_stored w.log.phase part n w.log).phase) (sym (ap (λ l. part_of l word) p.1 ∙ (seal_part 0).0)) (stored w.log p.3),
      )))
      (quiet_course raised G second behind (persists (area_word 0 / 8)) (only_persists IsQuiet quiet_steps (area_word 0 / 8)))

  seals_course : (n : ℕ) → Course I (InPhase 0 true (λ p. p ≡ Drawn)) (writes_seal 0 n) (InPhase 0 true IsSealedIn)
  seals_course n =
      seal_course 0 (λ p. p ≡ Drawn) IsSealedIn drawn_lasts sealed_lasts (unapplied_so (λ p. p ≡ Drawn) at_drawn) (unapplied_so IsSealedIn (sealed_unapplied count)) n
      (λ log is. subst (λ (p : Phase). IsSealedIn (log_stored p SealWord n log).phase) (sym is) tt)

  clears_course : Course I (InPhase 1 true (λ p. p ≡ Applying (count + 1))) (writes_seal 0 0) (InPhase 1 true IsClearedIn)
  clears_course =
      seal_course 1 (λ p. p ≡ Applying (count + 1)) IsClearedIn (applying_lasts (count + 1)) cleared_lasts (applied_so (λ p. p ≡ Applying (count + 1)) at_applied) (applied_so IsClearedIn (cleared_applied (count + 1))) 0
      (λ log is. subst (λ (p : Phase). IsClearedIn (log_stored p SealWord 0 log).phase) (sym is) tt)

  -- an entry of a word outside of the area is applied, and then the one of the generation
  one_course : (k : ℕ) → k < count → (e : Redo) → is_in_area 0 (e.place / 8) ≡ false → Course I (InPhase 0 true (λ p. p ≡ Applying k)) (applies_entry e) (InPhase 0 true (λ p. p ≡ Applying (k + 1)))
  unfolding applies_entry ors ands
  one_course k low e outside = by_op e.op where
    bits : (s : ℕ → Step) → ((x : ℕ) → raise_by (s x) ≡ 0) → ((w : View) (x : ℕ) → w.log.phase ≡ Applying k → (after w (s x)).log.phase ≡ Applying (k + 1)) → ((w : View) (x : ℕ) → (after w (s x)).lane ≡ w.lane)
        → ((w : View) (x : ℕ) → (after w (s x)).number ≡ w.number) → Course I (InPhase 0 true (λ p. p ≡ Applying k)) (in_turn makes_room (finds_in (e.place / 8) s)) (InPhase 0 true (λ p. p ≡ Applying (k + 1)))
    bits s none goes lane number =
        finds_course 0 (λ p. p ≡ Applying k) (applying_lasts k) (unapplied_so (λ p. p ≡ Applying k) (at_unapplied k (omega (arith, low)))) (InPhase 0 true (λ p. p ≡ Applying (k + 1))) (e.place / 8) s
        (unapplied_so (λ p. p ≡ Applying (k + 1)) (at_unapplied (k + 1) (omega (arith, low))))
        (λ r w x p. (none_raised (s x) (none x) r 0 p.0, lane w x ∙ p.1, ap is_some (number w x) ∙ p.2, goes w x p.3))

    by_op : (op : Op) → Course I (InPhase 0 true (λ p. p ≡ Applying k)) (does op (e.place / 8) e.value) (InPhase 0 true (λ p. p ≡ Applying (k + 1)))
    by_op Or = bits (Or_step (e.place / 8) e.value) (λ x. refl) (λ w x is. ap (λ (phase : Phase). (log_changed phase w.log).phase) is) (λ w x. refl) (λ w x. refl)
    by_op And = bits (And_step (e.place / 8) e.value) (λ x. refl) (λ w x is. ap (λ (phase : Phase). (log_changed phase w.log).phase) is) (λ w x. refl) (λ w x. refl)
    by_op Set =
        let word : ℕ = e.place / 8 in
        store_course 0 (λ p. p ≡ Applying k) (applying_lasts k) (unapplied_so (λ p. p ≡ Applying k) (at_unapplied k (omega (arith, low)))) (InPhase 0 true (λ p. p ≡ Applying (k + 1))) word e.value
        (unapplied_so (λ p. p ≡ Applying (k + 1)) (at_unapplied (k + 1) (omega (arith, low))))
        (λ r w p. (
          none_raised (Store word e.value) (ap (λ (b : Bool). cond b 1 0) (ne_eqb word 512 (other_than_generation word outside))) r 0 p.0,
          p.1,
          p.2,
          ap (λ (part : Part). (log_stored w.log.phase part e.value w.log).phase) (ap (λ l. part_of l word) p.1 ∙ other_part 0 word outside)
              ∙ ap (λ (phase : Phase). (log_stored phase OtherWord e.value w.log).phase) p.3,
        ))

  last_course : (g : ℕ) → Course I (InPhase 0 true (λ p. p ≡ Applying count)) (applies_entry (ending_of 0 g)) (InPhase 1 true (λ p. p ≡ Applying (count + 1)))
  unfolding applies_entry
  last_course g =
      let word : ℕ = (ending_of 0 g).place / 8 in
      store_course 0 (λ p. p ≡ Applying count) (applying_lasts count) (unapplied_so (λ p. p ≡ Applying count) (at_unapplied count (omega arith))) (InPhase 1 true (λ p. p ≡ Applying (count + 1))) word (g + 1)
      (applied_so (λ p. p ≡ Applying (count + 1)) at_applied)
      (λ r w p. (
        (let none = p.0 in let e : r + 1 ≡ 1 = omega (arith, none) in e),
        p.1,
        p.2,
        ap (λ (part : Part). (log_stored w.log.phase part (g + 1) w.log).phase) (ap (λ l. part_of l word) p.1 ∙ generation_word 0)
            ∙ ap (λ (phase : Phase). (log_stored phase GenerationWord (g + 1) w.log).phase) p.3,
      ))

module _ (entries : List Redo) (g : ℕ) (each : All (λ (e : Redo). is_in_area 0 (e.place / 8) ≡ false) entries) where
  abbrev count : ℕ
  count = length entries

  abbrev all : List Redo
  all = entries ++ ending_of 0 g ∷ []

  abbrev At : ℕ → ℕ → View → Type 0
  At k = InPhase 0 true (λ p. p ≡ Applying k)

  abbrev Done : ℕ → View → Type 0
  Done = InPhase 1 true (λ p. p ≡ Applying (count + 1))

  abbrev step : ℕ → Sequence
  step i = applies_entry (entry_at all i)

  front_course : Course (IsPublishing count) (At 0) (counted step count) (At count)
  front_course =
      course_counted (IsPublishing count) At step count (unapplied_so count (λ p. p ≡ Applying 0) (at_unapplied count 0 (omega arith)))
      (λ k low. one_course count k low (entry_at all k) (entry_of_front (λ (e : Redo). is_in_area 0 (e.place / 8) ≡ false) entries (ending_of 0 g ∷ []) each k low))

  all_course : Course (IsPublishing count) (At 0) (counted step (suc count)) Done
  unfolding counted
  all_course =
      course_in_turn (IsPublishing count) (At 0) (At count) Done (counted step count) (step count) front_course
      (subst (λ (e : Redo). Course (IsPublishing count) (At count) (applies_entry e) Done) (sym (entry_behind entries (ending_of 0 g))) (last_course count g))

  applies_course : Course (IsPublishing count) (At 0) (applies all) Done
  unfolding applies applies_each
  applies_course =
      course_in_turn (IsPublishing count) (At 0) Done Done (applies_each all) settles
      (subst (λ n. Course (IsPublishing count) (At 0) (counted step n) Done) (let many = length-append entries (ending_of 0 g ∷ []) in let e : suc count ≡ length all = omega (arith, many) in e) all_course)
      (quiet_course count 1 (λ p. p ≡ Applying (count + 1)) (applying_lasts (count + 1)) (applied_so count (λ p. p ≡ Applying (count + 1)) (at_applied count)) settles (only_settles IsQuiet quiet_steps))

  -- behind the seal
  rest_course : Course (IsPublishing count) (At 0) (in_turn (applies all) (writes_seal 0 0)) (InPhase 1 true IsClearedIn)
  rest_course = course_in_turn (IsPublishing count) (At 0) Done (InPhase 1 true IsClearedIn) (applies all) (writes_seal 0 0) applies_course (clears_course count)

  -- the seal, whose drain leaves nothing undrained, and what comes behind it
  pub performs_throughout : (r : ℕ) (d : View) → InPhase 0 true (λ p. p ≡ Drawn) r d → (after_all d (writes_seal 0 (length all) d)).log.phase ≡ Applying 0 → Throughout (IsPublishing count) r d (performs_on 0 all d)
  unfolding performs_on in_turn
  performs_throughout r d p sealed =
      let seal : List Step = writes_seal 0 (length all) d in
      let u : View = after_all d seal in
      let first = seals_course count (length all) r d p in
      throughout_both (IsPublishing count) r d seal (in_turn (applies all) (writes_seal 0 0) u) first.0 (rest_course (r + raises seal) u (first.1.0, first.1.1, first.1.2, sealed)).0

module _ (m : View) (entries : List Redo) (may : MayPublish m entries) (lane : m.lane ≡ 0) (operation : Operation) (n : ℕ) where
  abbrev logged : View
  logged = logged_view m entries

  abbrev d : View
  d = published_view m entries operation n

  abbrev Holds : ℕ → View → Type 0
  Holds = IsPublishing (length entries)

  abbrev Drawing : ℕ → View → Type 0
  Drawing = InPhase 0 true (λ p. p ≡ Drawn)

  log_steady : IsSteady logged.log.phase
  log_steady = subst IsSteady (sym (written m entries may).1.is_open) steady_open

  stands_so : (r : ℕ) (w : View) → Stands 0 logged.log false r w → Holds r w
  stands_so r w p = logging_so (length entries) r w (p.0, p.1, p.3, subst IsLogging (sym (ap (λ (l : Log). l.phase) p.2 ∙ (written m entries may).1.is_open)) refl)

  ends_course : Course Holds (Stands 0 logged.log false) (ends_call operation None n) Drawing
  unfolding ends_call
  ends_course =
      course_in_turn Holds (Stands 0 logged.log false) (Stands 0 logged.log false) Drawing (one (Tell operation None)) (one (Draw n))
      (course_of_kind Holds IsBeside (Stands 0 logged.log false) stands_so (λ r w p. p.1) (beside_keeps 0 logged.log false log_steady) (one (Tell operation None)) (only_one IsBeside (Tell operation None) tt))
      (course_one Holds (Stands 0 logged.log false) Drawing (Draw n) stands_so (unapplied_so (length entries) (λ p. p ≡ Drawn) (at_drawn (length entries)))
      (λ r w p. (
        none_raised (Draw n) refl r 0 p.0,
        p.1,
        refl,
        ap (λ (l : Log). (log_drawn l.phase l).phase) p.2
            ∙ (ap (λ (phase : Phase). (log_drawn phase logged.log).phase) (written m entries may).1.is_open ∙ some_drawn logged.log.records logged.log.entries (some_logged m entries may)),
      )))

  performing : (r : ℕ) → Drawing r d → Throughout Holds r d (performs_logged entries d)
  unfolding performs_logged performs seals by_lane by_view
  performing r p =
      let g : ℕ = generation_of d in
      let can = perform_may m entries may operation n in
      let sealed = (seal_lawful d (entries ++ ending d ∷ []) can.place can.drawn can.drained can.below can.entered).1 in
      subst (λ k. Throughout Holds r d (performs_on k (entries ++ ending_of k g ∷ []) d)) (sym p.1)
      (performs_throughout entries g (All-weaker (MayEnter m) (λ (e : Redo). is_in_area 0 (e.place / 8) ≡ false) (λ e o. ap (λ k. is_in_area k (e.place / 8)) (sym lane) ∙ may_outside m e o) entries may.each) r d p
      (subst (λ k. (after_all d (writes_seal k (length (entries ++ ending_of k g ∷ [])) d)).log.phase ≡ Applying 0) p.1 (ap (λ (l : Log). l.phase) sealed.log)))

  pub publishes_throughout : (r : ℕ) → r ≡ 0 → Throughout Holds r m (publishes entries operation n m)
  unfolding publishes in_turn
  publishes_throughout r none =
      let first : List Step = logs entries m in
      let ends : List Step = ends_call operation None n logged in
      let tail : List Step = performs_logged entries d in
      let open_there : IsLogging m.log.phase = subst IsLogging (sym may.ready.entering.is_open) refl in
      let logging = logs_course (length entries) entries may.few r m (none, lane, ap is_some may.ready.entering.undrawn, open_there) in
      let ended = ends_course (r + raises first) logged (logging.1.0, logging.1.1, refl, logging.1.2) in
      throughout_both Holds r m first (ends ++ tail) logging.0
      (throughout_both Holds (r + raises first) logged ends tail ended.0 (performing (r + raises first + raises ends) ended.1))

  pub publishes_so : (k : ℕ) → IsPublishing (length entries) (raises (take k (publishes entries operation n m))) (after_all m (take k (publishes entries operation n m)))
  publishes_so k =
      let steps : List Step = publishes entries operation n m in
      subst (λ r. Holds r (after_all m (take k steps))) (let e : 0 + raises (take k steps) ≡ raises (take k steps) = omega arith in e)
      (throughout_at Holds 0 m steps k (publishes_throughout 0 refl))
