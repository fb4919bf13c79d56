-- Sequences of which each step is of one kind, from whatever view of lane 0 they are made.
use Rattle.std.proofs.Common.{◌≡◌, ℕ, zero, suc, ◌+◌, ◌<◌, Bool, true, false, cond, eqb, ltb, List, [], ◌∷◌, ◌++◌, map, take, length, slice_index, sym, ◌∙◌, subst, arith}
use Rattle.solo_view.proofs.SameLane.{same_lane-after_all}
use Rattle.solo_view.specs.Counts.{max_changes, unflushed_lines}
use Rattle.solo_view.specs.Steps.{Step}
use Rattle.solo_view.specs.Steps.Step.{Load, Store, Flush, Drain}
use Rattle.solo_view.specs.View.{View}
use Rattle.solo_view.specs.Views.{after_all}
use Rattle.solo_undo.specs.Sequences.{logs, logs_any, looks_from, persists, puts_back, recorded_in, restores, restores_all, restores_record, restores_word, snapshots, span_at, stores_from, with_generation, writes_all, writes_record, writes_records, writes_slot}
use Rattle.solo_undo.specs.Spans.{plan_of}
use Rattle.pm_image.specs.Logs.{slot_line}
use Rattle.solo_view.specs.Area.{area_word}
use Rattle.solo_world.specs.Records.{slot_word, spelled}
use Rattle.solo_world.specs.Sequences.{Sequence, by_lane, by_view, counted, drains, flushes, in_turn, looks, makes_room, nothing, one, settles, stores, with_word}
use Rattle.solo_world.specs.declared.lane.Span.{Span}

-- each of the steps is of the kind
unfoldable pub Each : (Step → Type 0) → List Step → Type 0
Each C [] = Unit {0}
Each C (s ∷ steps) = C s × Each C steps

-- each step of the sequence is, from whatever view of lane 0
abbrev pub HasOnly : (Step → Type 0) → Sequence → Type 0
HasOnly C steps = (v : View) → v.lane ≡ 0 → Each C (steps v)

-- the kind has all that changes no word
pub record HasQuietSteps (C : Step → Type 0) : Type 0 where
  pub load : (w x : ℕ) → C (Load w x)
  pub flush : (line : ℕ) → C (Flush line)
  pub drain : C Drain

pub each_more : (C D : Step → Type 0) → ((s : Step) → C s → D s) → (steps : List Step) → Each C steps → Each D steps
unfolding Each
each_more C D more [] each = tt
each_more C D more (s ∷ steps) each = (more s each.0, each_more C D more steps each.1)

module _ (C : Step → Type 0) where
  each_both : (xs ys : List Step) → Each C xs → Each C ys → Each C (xs ++ ys)
  unfolding Each
  each_both [] ys first second = second
  each_both (x ∷ xs) ys first second = (first.0, each_both xs ys first.1 second)

  pub each_first : (k : ℕ) (steps : List Step) → Each C steps → Each C (take k steps)
  unfolding Each
  each_first zero steps each = tt
  each_first (suc k) [] each = tt
  each_first (suc k) (s ∷ steps) each = (each.0, each_first k steps each.1)

  pub only_nothing : HasOnly C nothing
  unfolding Each nothing
  only_nothing v lane = tt

  pub only_one : (s : Step) → C s → HasOnly C (one s)
  unfolding Each one
  only_one s is v lane = (is, tt)

  pub only_in_turn : (s t : Sequence) → HasOnly C s → HasOnly C t → HasOnly C (in_turn s t)
  unfolding in_turn
  only_in_turn s t first second v lane =
      let m : View = after_all v (s v) in
      each_both (s v) (t m) (first v lane) (second m ((same_lane-after_all v (s v)).lane ∙ lane))

  pub only_counted : (steps : ℕ → Sequence) (n : ℕ) → ((i : ℕ) → i < n → HasOnly C (steps i)) → HasOnly C (counted steps n)
  unfolding counted
  only_counted steps zero each = only_nothing
  only_counted steps (suc n) each = only_in_turn (counted steps n) (steps n) (only_counted steps n (λ i below. each i (omega (arith, below)))) (each n (omega arith))

  pub only_by_view : (steps : View → Sequence) → ((u : View) → HasOnly C (steps u)) → HasOnly C (by_view steps)
  unfolding by_view
  only_by_view steps each v lane = each v v lane

  pub only_by_lane : (steps : ℕ → Sequence) → HasOnly C (steps 0) → HasOnly C (by_lane steps)
  unfolding by_lane by_view
  only_by_lane steps each v lane = subst (λ n. Each C (steps n v)) (sym lane) (each v lane)

  module _ (quiet : HasQuietSteps C) where
    pub only_looks : (w : ℕ) → HasOnly C (looks w)
    unfolding Each looks
    only_looks w v lane = (quiet.load w (slice_index v.words w), tt)

    pub only_with_word : (w : ℕ) (steps : ℕ → Sequence) → ((x : ℕ) → HasOnly C (steps x)) → HasOnly C (with_word w steps)
    unfolding with_word
    only_with_word w steps each = only_by_view (λ u. in_turn (looks w) (steps (slice_index u.words w))) (λ u. only_in_turn (looks w) (steps (slice_index u.words w)) (only_looks w) (each (slice_index u.words w)))

    each_flush : (lines : List ℕ) → Each C (map Flush lines)
    unfolding Each
    each_flush [] = tt
    each_flush (line ∷ lines) = (quiet.flush line, each_flush lines)

    only_flushes : HasOnly C flushes
    unfolding flushes
    only_flushes v lane = each_flush (unflushed_lines v.changes)

    only_drains : HasOnly C drains
    unfolding drains Each
    only_drains v lane = at (eqb (length v.changes) 0) where
      at : (b : Bool) → Each C (cond b [] (Drain ∷ []))
      at true = tt
      at false = (quiet.drain, tt)

    pub only_settles : HasOnly C settles
    unfolding settles
    only_settles = only_in_turn flushes drains only_flushes only_drains

    pub only_makes_room : HasOnly C makes_room
    unfolding makes_room Each
    only_makes_room v lane = at (ltb (length v.changes) max_changes) where
      at : (b : Bool) → Each C (cond b [] (settles v))
      at true = tt
      at false = only_settles v lane

    pub only_stores : (w x : ℕ) → C (Store w x) → HasOnly C (stores w x)
    unfolding stores
    only_stores w x is = only_in_turn makes_room (one (Store w x)) only_makes_room (only_one (Store w x) is)

    pub only_looks_from : (word count : ℕ) → HasOnly C (looks_from word count)
    unfolding looks_from
    only_looks_from word count = only_counted (λ i. looks (word + i)) count (λ i below. only_looks (word + i))

    pub only_persists : (line : ℕ) → HasOnly C (persists line)
    unfolding persists
    only_persists line = only_in_turn (one (Flush line)) (one Drain) (only_one (Flush line) (quiet.flush line)) (only_one Drain quiet.drain)

    pub only_with_generation : (rest : ℕ → ℕ → Sequence) → ((x : ℕ) → HasOnly C (rest 0 x)) → HasOnly C (with_generation rest)
    unfolding with_generation
    only_with_generation rest each = only_by_lane (λ lane. with_word (area_word lane) (rest lane)) (only_with_word (area_word 0) (rest 0) each)

    -- stores of slots are of the kind
    module _ (slots : (slot i x : ℕ) → C (Store (slot_word 0 slot + i) x)) where
      only_writes_slot : (slot : ℕ) (words : List ℕ) → HasOnly C (writes_slot 0 slot words)
      unfolding writes_slot stores_from
      only_writes_slot slot words =
          only_in_turn (stores_from (slot_word 0 slot) words) (one (Flush (slot_line 0 slot)))
          (only_counted (λ i. stores (slot_word 0 slot + i) (slice_index words i)) (length words) (λ i below. only_stores (slot_word 0 slot + i) (slice_index words i) (slots slot i (slice_index words i))))
          (only_one (Flush (slot_line 0 slot)) (quiet.flush (slot_line 0 slot)))

      only_writes_record : (generation slot : ℕ) (s : Span) → HasOnly C (writes_record 0 generation slot s)
      unfolding writes_record
      only_writes_record generation slot s =
          only_by_view (λ v. in_turn (looks_from s.word s.count) (writes_slot 0 slot (spelled generation (recorded_in v s))))
          (λ v. only_in_turn (looks_from s.word s.count) (writes_slot 0 slot (spelled generation (recorded_in v s))) (only_looks_from s.word s.count) (only_writes_slot slot (spelled generation (recorded_in v s))))

      only_writes_records : (generation slot : ℕ) (spans : List Span) → HasOnly C (writes_records 0 generation slot spans)
      unfolding writes_records
      only_writes_records generation slot spans =
          only_counted (λ i. writes_record 0 generation (slot + i) (span_at spans i)) (length spans) (λ i below. only_writes_record generation (slot + i) (span_at spans i))

      only_writes_all : (slot : ℕ) (spans : List Span) (generation : ℕ) → HasOnly C (writes_all slot spans 0 generation)
      unfolding writes_all
      only_writes_all slot spans generation =
          only_in_turn (writes_records 0 generation slot spans) (one Drain) (only_writes_records generation slot spans) (only_one Drain quiet.drain)

      only_logs_any : (slot : ℕ) (spans : List Span) → HasOnly C (logs_any slot spans)
      unfolding logs_any logs
      only_logs_any slot [] = only_nothing
      only_logs_any slot (s ∷ spans) = only_with_generation (writes_all slot (s ∷ spans)) (only_writes_all slot (s ∷ spans))

      pub only_snapshots : (spans : List Span) (place len : ℕ) → HasOnly C (snapshots spans place len)
      unfolding snapshots
      only_snapshots spans place len = only_logs_any (length spans) (plan_of spans place len)

    -- stores of the words of these spans are of the kind
    module _ (spans : List Span) (words : (slot i x : ℕ) → slot < length spans → i < (span_at spans slot).count → C (Store ((span_at spans slot).word + i) x)) where
      only_restores_record : (slot : ℕ) → slot < length spans → HasOnly C (restores_record 0 slot (span_at spans slot))
      unfolding restores_record restores_word
      only_restores_record slot low =
          let s : Span = span_at spans slot in
          only_counted (restores_word 0 slot s.word) s.count
          (λ i below. only_with_word (slot_word 0 slot + 3 + i) (stores (s.word + i)) (λ x. only_stores (s.word + i) x (words slot i x low below)))

      pub only_restores : HasOnly C (restores spans)
      unfolding restores restores_all puts_back
      only_restores =
          only_by_lane (restores_all spans)
          (only_in_turn (puts_back spans 0) settles (only_counted (λ slot. restores_record 0 slot (span_at spans slot)) (length spans) only_restores_record) only_settles)
