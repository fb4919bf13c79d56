-- A lane that stands still in its log, and the course of the end of a generation.
use Rattle.std.proofs.Common.{◌≡◌, ◌⊎◌, inl, inr, ℕ, ◌+◌, ◌/◌, ◌<◌, Bool, true, false, cond, List, [], ◌∷◌, is_some, map, length, refl, sym, ap, ◌∙◌, subst, arith, ne_eqb}
use Rattle.std.proofs.lemmas.List.{get_or-map, length-map}
use Rattle.std.proofs.lemmas.Option.{get_or_from_slice_get, slice_get_within}
use Rattle.solo_crash.proofs.Raises.{raise_by}
use Rattle.solo_undo.proofs.Areas.{generation_word, other_part}
use Rattle.solo_undo.proofs.Kept.{covers_own, stands_at}
use Rattle.solo_undo.specs.Sequences.{ends_generation, no_span, persists, retires, span_at, with_generation}
use Rattle.solo_undo.specs.Working.{IsWorking}
use Rattle.solo_view.specs.declared.change.Change.{Change}
use Rattle.solo_view.specs.Area.{Part, area_word, is_in_area, part_of}
use Rattle.solo_view.specs.Area.Part.{GenerationWord, OtherWord}
use Rattle.solo_view.specs.Changes.{drained}
use Rattle.solo_view.specs.Log.{Log, Phase, Recorded, log_drained, log_stored, no_log}
use Rattle.solo_view.specs.Log.Phase.{Idle, Open, Drawn, Retiring}
use Rattle.solo_view.specs.Steps.{Step}
use Rattle.solo_view.specs.Steps.Step.{Load, Store, Flush, Drain, Tell}
use Rattle.solo_view.specs.View.{View}
use Rattle.solo_view.specs.Views.{after, log_after_drain}
use Rattle.solo_world.specs.Lanes.{span_of}
use Rattle.solo_world.specs.Sequences.{in_turn, looks, makes_room, one, stores, with_word}
use Rattle.solo_world.specs.declared.lane.Span.{Span}
use Rattle.solo_tx.proofs.Courses.{Course, course_by_lane, course_in_turn, course_of_kind, course_one, course_with_word}
use Rattle.solo_tx.proofs.StepKinds.{HasQuietSteps, only_looks, only_makes_room}
use Rattle.solo_tx.proofs.Unraised.{other_than_generation}

-- a step that lane 0 makes beside its log: it looks, tells, makes persistent, or stores a word outside of its area
abbrev pub IsBeside : Step → Type 0
IsBeside (Load w x) = Unit {0}
IsBeside (Store w x) = is_in_area 0 w ≡ false
IsBeside (Flush line) = Unit {0}
IsBeside Drain = Unit {0}
IsBeside (Tell operation reply) = Unit {0}
IsBeside s = ⊥

pub quiet_beside : HasQuietSteps IsBeside
quiet_beside = record { load = λ w x. tt; flush = λ line. tt; drain = tt }

-- a phase in which neither a drain nor a store beside the log changes it, and a store of the generation ends it
pub record IsSteady (p : Phase) : Type 0 where
  pub drains : (number : Bool) (log : Log) → log_drained p number log ≡ log
  pub stores : (x : ℕ) (log : Log) → log_stored p OtherWord x log ≡ log
  pub ends : (x : ℕ) (log : Log) → (log_stored p GenerationWord x log).phase ≡ Retiring

pub steady_open : IsSteady (Open [] [])
steady_open = record { drains = λ number log. refl; stores = λ x log. refl; ends = λ x log. refl }

pub steady_drawn : IsSteady Drawn
steady_drawn = record { drains = λ number log. refl; stores = λ x log. refl; ends = λ x log. refl }

-- so many stores of the generation were made, and the lane's log is this, its number drawn or not
abbrev pub Stands : ℕ → Log → Bool → ℕ → View → Type 0
Stands raised log number r w = (r ≡ raised) × (w.lane ≡ 0) × (w.log ≡ log) × (is_some w.number ≡ number)

-- the generation is ended, and that is not drained
abbrev pub Retires : Bool → ℕ → View → Type 0
Retires number r w = (r ≡ 1) × (w.lane ≡ 0) × (w.log.phase ≡ Retiring) × (is_some w.number ≡ number)

-- the log behind the drain of the next generation
abbrev pub log_ended : Bool → Log
log_ended true = no_log Idle
log_ended false = no_log (Open [] [])

-- the generation is ended, and that may be drained
abbrev pub HasRetired : Bool → ℕ → View → Type 0
HasRetired number r w = (r ≡ 1) × ((w.log.phase ≡ Retiring) ⊎ (w.log ≡ log_ended number)) × (is_some w.number ≡ number)

pub none_raised : (s : Step) → raise_by s ≡ 0 → (r raised : ℕ) → r ≡ raised → r + raise_by s ≡ raised
none_raised s none r raised is = (let e : r + raise_by s ≡ raised = omega (arith, none, is) in e)

module _ (raised : ℕ) (log : Log) (number : Bool) (steady : IsSteady log.phase) where
  drained_stands : (w : View) (changes : List Change) → w.log ≡ log → log_after_drain changes w ≡ log
  drained_stands w [] is = ap (λ (l : Log). log_drained l.phase (is_some w.number) l) is ∙ steady.drains (is_some w.number) log
  drained_stands w (c ∷ changes) is = is

  stored_stands : (w : View) (word x : ℕ) → w.lane ≡ 0 → w.log ≡ log → is_in_area 0 word ≡ false → log_stored w.log.phase (part_of w.lane word) x w.log ≡ log
  stored_stands w word x lane is outside =
      ap (λ (part : Part). log_stored w.log.phase part x w.log) (ap (λ n. part_of n word) lane ∙ other_part 0 word outside)
      ∙ (ap (λ (l : Log). log_stored l.phase OtherWord x l) is ∙ steady.stores x log)

  pub beside_keeps : (r : ℕ) (w : View) (s : Step) → Stands raised log number r w → IsBeside s → Stands raised log number (r + raise_by s) (after w s)
  beside_keeps r w (Load word x) p beside = (none_raised (Load word x) refl r raised p.0, p.1, p.2, p.3)
  beside_keeps r w (Store word x) p beside = (
    none_raised (Store word x) (ap (λ (b : Bool). cond b 1 0) (ne_eqb word 512 (other_than_generation word beside))) r raised p.0,
    p.1,
    stored_stands w word x p.1 p.2 beside,
    p.3,
  )
  beside_keeps r w (Flush line) p beside = (none_raised (Flush line) refl r raised p.0, p.1, p.2, p.3)
  beside_keeps r w Drain p beside = (none_raised Drain refl r raised p.0, p.1, drained_stands w (drained w.changes) p.2, p.3)
  beside_keeps r w (Tell operation reply) p beside = (none_raised (Tell operation reply) refl r raised p.0, p.1, p.2, p.3)
  beside_keeps r w s p beside = absurd beside

module _ (I : ℕ → View → Type 0) (log : Log) (number : Bool) (steady : IsSteady log.phase) where
  abbrev P : ℕ → View → Type 0
  P = Stands 0 log number

  abbrev Q : ℕ → View → Type 0
  Q = Retires number

  ended : (r : ℕ) (w : View) (x : ℕ) → P r w → Q (r + raise_by (Store (area_word 0) x)) (after w (Store (area_word 0) x))
  ended r w x p =
      let none = p.0 in (
        (let e : r + 1 ≡ 1 = omega (arith, none) in e),
        p.1,
        ap (λ (part : Part). (log_stored w.log.phase part x w.log).phase) (ap (λ n. part_of n (area_word 0)) p.1 ∙ generation_word 0)
            ∙ (ap (λ (l : Log). (log_stored l.phase GenerationWord x l).phase) p.2 ∙ steady.ends x log),
        p.3,
      )

  flushed_still : (line r : ℕ) (w : View) → Q r w → Q (r + raise_by (Flush line)) (after w (Flush line))
  flushed_still line r w q = (none_raised (Flush line) refl r 1 q.0, q.1, q.2, q.3)

  drained_log : (w : View) (changes : List Change) → w.log.phase ≡ Retiring → is_some w.number ≡ number → ((log_after_drain changes w).phase ≡ Retiring) ⊎ (log_after_drain changes w ≡ log_ended number)
  drained_log w [] phase is = inr (ap (λ (p : Phase). log_drained p (is_some w.number) w.log) phase ∙ (ap (λ (b : Bool). log_drained Retiring b w.log) is ∙ at number)) where
    at : (b : Bool) → log_drained Retiring b w.log ≡ log_ended b
    at true = refl
    at false = refl
  drained_log w (c ∷ changes) phase is = inl phase

  drained_then : (r : ℕ) (w : View) → Q r w → HasRetired number (r + raise_by Drain) (after w Drain)
  drained_then r w q = (none_raised Drain refl r 1 q.0, drained_log w (drained w.changes) q.2 q.3, q.3)

  module _ (before : (r : ℕ) (w : View) → P r w → I r w) (between : (r : ℕ) (w : View) → Q r w → I r w) (behind : (r : ℕ) (w : View) → HasRetired number r w → I r w) where
    ends_course : (x : ℕ) → Course I P (in_turn (looks (area_word 0)) (ends_generation 0 x)) (HasRetired number)
    unfolding ends_generation stores persists
    ends_course x =
        let word : ℕ = area_word 0 in
        let line : ℕ = area_word 0 / 8 in
        course_in_turn I P P (HasRetired number) (looks word) (in_turn (stores word (x + 1)) (persists line))
        (course_of_kind I IsBeside P before (λ r w p. p.1) (beside_keeps 0 log number steady) (looks word) (only_looks IsBeside quiet_beside word))
        (course_in_turn I P Q (HasRetired number) (stores word (x + 1)) (persists line)
        (course_in_turn I P P Q makes_room (one (Store word (x + 1)))
        (course_of_kind I IsBeside P before (λ r w p. p.1) (beside_keeps 0 log number steady) makes_room (only_makes_room IsBeside quiet_beside))
        (course_one I P Q (Store word (x + 1)) before between (λ r w p. ended r w (x + 1) p)))
        (course_in_turn I Q Q (HasRetired number) (one (Flush line)) (one Drain)
        (course_one I Q Q (Flush line) between between (flushed_still line))
        (course_one I Q (HasRetired number) Drain between behind drained_then)))

    pub retires_course : Course I P retires (HasRetired number)
    unfolding retires with_generation
    retires_course =
        course_by_lane I P (HasRetired number) (λ lane. with_word (area_word lane) (ends_generation lane)) (λ r w p. p.1)
        (course_with_word I P (HasRetired number) (area_word 0) (ends_generation 0) ends_course)

-- the words of a lane's records lie beside its log
pub records_beside : (v : View) → v.lane ≡ 0 → IsWorking v → (slot i x : ℕ) → slot < length (map span_of v.log.records) → i < (span_at (map span_of v.log.records) slot).count
    → IsBeside (Store ((span_at (map span_of v.log.records) slot).word + i) x)
records_beside v lane working slot i x low below =
    let t = stands_at v.log.records slot (let many = length-map v.log.records span_of in omega (arith, low, many)) in
    let r : Recorded = t.0 in
    let is : span_at (map span_of v.log.records) slot ≡ span_of r =
    get_or-map span_of v.log.records slot r no_span (slice_get_within v.log.records slot r t.1) ∙ ap span_of (get_or_from_slice_get v.log.records slot r r t.1) in
    let word = ap (λ (s : Span). s.word) is in
    let count = ap (λ (s : Span). s.count) is in
    let within : i < length r.old = omega (arith, below, count) in
    subst (λ n. is_in_area 0 (n + i) ≡ false) (sym word)
    (ap (λ n. is_in_area n (r.word + i)) (sym lane) ∙ (working.records.each slot r (r.word + i) t.1 (covers_own r i within)).outside)
