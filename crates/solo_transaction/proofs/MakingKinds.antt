-- The sequences that make a chunk a run and a block a new object store words of those alone, flush lines, drain, and give bits back.
use Rattle.std.proofs.Common.{◌≡◌, ℕ, ◌+◌, ◌*◌, ◌/◌, ◌<◌, Bool, true, false, cond, eqb, ltb, List, [], ◌∷◌, map, length, refl, ap, arith, ne_eqb}
use Rattle.solo_view.specs.Area.{is_in_area}
use Rattle.solo_view.specs.Blocks.{bitmap_word, descriptor_word}
use Rattle.solo_view.specs.Counts.{max_changes, unflushed_lines}
use Rattle.solo_view.specs.Steps.{Step}
use Rattle.solo_view.specs.Steps.Step.{Store, Flush, Drain, Vacate}
use Rattle.solo_world.specs.Sequences.{drains, flushes, in_turn, makes_room, one, settles, stores}
use Rattle.solo_undo.specs.Sequences.{persists}
use Rattle.solo_fresh.specs.Filling.{fills, fills_line, fills_lines, fresh_word, stores_fresh, stores_line}
use Rattle.solo_fresh.specs.Making.{behind_first, keeps_first, makes_run, run_at, run_descriptor, stores_persistent}
use Rattle.solo_crash.proofs.Raises.{raise_by}
use Rattle.solo_crash.specs.Alone.{is_raise, raises}
use Rattle.solo_tx.proofs.StepKinds.{Each, HasOnly, only_counted, only_in_turn, only_one}
use Rattle.solo_tx.proofs.StoreCounts.{HasStores, none_in_one, one_in_stores, stores_in_turn, stores_of_each}
use Rattle.solo_tx.proofs.Unraised.{other_than_generation}

-- a store of a word of this kind, a flush, a drain, or bits given back
abbrev pub IsMaking : (ℕ → Type 0) → Step → Type 0
IsMaking K (Store w x) = K w
IsMaking K (Flush line) = Unit {0}
IsMaking K Drain = Unit {0}
IsMaking K (Vacate at bits) = Unit {0}
IsMaking K s = ⊥

module _ (K : ℕ → Type 0) where
  abbrev C : Step → Type 0
  C = IsMaking K

  flushed_lines : (lines : List ℕ) → Each C (map Flush lines)
  unfolding Each
  flushed_lines [] = tt
  flushed_lines (line ∷ lines) = (tt, flushed_lines lines)

  only_settles : HasOnly C settles
  unfolding settles flushes drains Each
  only_settles = only_in_turn C flushes drains (λ v lane. flushed_lines (unflushed_lines v.changes)) (λ v lane. at (eqb (length v.changes) 0)) where
    at : (b : Bool) → Each C (cond b [] (Drain ∷ []))
    at true = tt
    at false = (tt, tt)

  only_room : HasOnly C makes_room
  unfolding makes_room Each
  only_room v lane = at (ltb (length v.changes) max_changes) where
    at : (b : Bool) → Each C (cond b [] (settles v))
    at true = tt
    at false = only_settles v lane

  only_stores : (w x : ℕ) → K w → HasOnly C (stores w x)
  unfolding stores
  only_stores w x is = only_in_turn C makes_room (one (Store w x)) only_room (only_one C (Store w x) is)

  only_persistent : (w x : ℕ) → K w → HasOnly C (stores_persistent w x)
  unfolding stores_persistent persists
  only_persistent w x is =
      only_in_turn C (stores w x) (persists (w / 8)) (only_stores w x is) (only_in_turn C (one (Flush (w / 8))) (one Drain) (only_one C (Flush (w / 8)) tt) (only_one C Drain tt))

  pub only_makes_run : (lanes page lines : ℕ) → K (bitmap_word page) → K (descriptor_word lanes page) → HasOnly C (makes_run lanes page lines)
  unfolding makes_run keeps_first
  only_makes_run lanes page lines bitmap descriptor =
      only_in_turn C (stores_persistent (bitmap_word page) 0) (in_turn (stores_persistent (descriptor_word lanes page) (run_descriptor lines)) (keeps_first page lines)) (only_persistent (bitmap_word page) 0 bitmap)
      (only_in_turn C (stores_persistent (descriptor_word lanes page) (run_descriptor lines)) (keeps_first page lines) (only_persistent (descriptor_word lanes page) (run_descriptor lines) descriptor)
      (only_one C (Vacate (run_at page) (behind_first lines)) tt))

  pub only_fills : (line lines kind size : ℕ) → ((place : ℕ) → place < 8 * lines → K (8 * line + place)) → HasOnly C (fills line lines kind size)
  unfolding fills fills_lines fills_line stores_line
  only_fills line lines kind size each =
      only_in_turn C (fills_lines line lines kind size) (one Drain)
      (only_counted C (fills_line line kind size) lines
      (λ i low. only_in_turn C (stores_line line kind size i) (one (Flush (line + i)))
      (only_counted C (λ j. stores_fresh line kind size (8 * i + j)) 8 (λ j near. only_stores (8 * line + (8 * i + j)) (fresh_word kind size (8 * i + j)) (each (8 * i + j) (omega (arith, low, near)))))
      (only_one C (Flush (line + i)) tt)))
      (only_one C Drain tt)

  -- ---- where no such word is of the area of lane 0

  module _ (outside : (w : ℕ) → K w → is_in_area 0 w ≡ false) where
    making_raise : (s : Step) → C s → is_raise s ≡ false
    making_raise (Store w x) is = ne_eqb w 512 (other_than_generation w (outside w is))
    making_raise (Flush line) is = refl
    making_raise Drain is = refl
    making_raise (Vacate at bits) is = refl
    making_raise s is = absurd is

    pub making_raises : (steps : List Step) → Each C steps → raises steps ≡ 0
    unfolding Each raises
    making_raises [] each = refl
    making_raises (s ∷ steps) each =
        let none : raise_by s ≡ 0 = ap (λ (b : Bool). cond b 1 0) (making_raise s each.0) in
        let rest = making_raises steps each.1 in omega (arith, none, rest)

-- ---- how many stores they make

persistent_stores : (w x : ℕ) → HasStores 1 (stores_persistent w x)
unfolding stores_persistent persists
persistent_stores w x =
    stores_in_turn 1 0 1 (stores w x) (persists (w / 8)) (omega arith) (one_in_stores w x)
    (stores_in_turn 0 0 0 (one (Flush (w / 8))) (one Drain) (omega arith) (none_in_one (Flush (w / 8)) refl) (none_in_one Drain refl))

pub run_stores : (lanes page lines : ℕ) → HasStores 2 (makes_run lanes page lines)
unfolding makes_run keeps_first
run_stores lanes page lines =
    stores_in_turn 1 1 2 (stores_persistent (bitmap_word page) 0) (in_turn (stores_persistent (descriptor_word lanes page) (run_descriptor lines)) (keeps_first page lines)) (omega arith) (persistent_stores (bitmap_word page) 0)
    (stores_in_turn 1 0 1 (stores_persistent (descriptor_word lanes page) (run_descriptor lines)) (keeps_first page lines) (omega arith) (persistent_stores (descriptor_word lanes page) (run_descriptor lines))
    (none_in_one (Vacate (run_at page) (behind_first lines)) refl))

line_stores : (line kind size i : ℕ) → HasStores 8 (fills_line line kind size i)
unfolding fills_line stores_line
line_stores line kind size i =
    stores_in_turn 8 0 8 (stores_line line kind size i) (one (Flush (line + i))) (omega arith)
    (stores_of_each (λ j. stores_fresh line kind size (8 * i + j)) 1 8 (λ j. one_in_stores (8 * line + (8 * i + j)) (fresh_word kind size (8 * i + j))))
    (none_in_one (Flush (line + i)) refl)

pub fill_stores : (line lines kind size : ℕ) → HasStores (lines * 8) (fills line lines kind size)
unfolding fills fills_lines
fill_stores line lines kind size =
    stores_in_turn (lines * 8) 0 (lines * 8) (fills_lines line lines kind size) (one Drain) (omega arith)
    (stores_of_each (fills_line line kind size) 8 lines (line_stores line kind size))
    (none_in_one Drain refl)
