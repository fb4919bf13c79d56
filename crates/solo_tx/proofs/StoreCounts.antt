-- How many stores sequences make, from whatever view.
use Rattle.std.proofs.Common.{◌≡◌, ℕ, zero, suc, ◌+◌, ◌*◌, ◌/◌, ◌≤◌, Bool, true, false, cond, eqb, ltb, List, [], ◌∷◌, ◌++◌, map, take, length, slice_index, refl, ap, ◌∙◌, arith, length-append}
use Rattle.std.specs.List.{range_with_len}
use Rattle.std.proofs.lemmas.List.FromFn.{length-map-range_with_len, length-range_with_len}
use Rattle.pm_record.specs.declared.redo.Op.{Op}
use Rattle.pm_record.specs.declared.redo.Op.TheVariants.{Set, Or, And}
use Rattle.solo_redo.specs.Sequences.{does}
use Rattle.pm_image.specs.Logs.{slot_line}
use Rattle.solo_undo.specs.Sequences.{ends_generation, logs, logs_any, looks_from, persists, puts_back, recorded_in, restores, restores_all, restores_record, restores_word, retires, snapshots, span_at, stores_from, with_generation, writes_all, writes_record, writes_records, writes_slot}
use Rattle.solo_undo.specs.Spans.{plan_of, words_in}
use Rattle.solo_undo.proofs.Slots.{length_spelled}
use Rattle.solo_view.specs.Area.{area_word}
use Rattle.solo_view.specs.Counts.{among, counted as calls_in, is_counted, is_store, max_changes, stores_among, unflushed_lines}
use Rattle.solo_view.specs.Steps.{Step}
use Rattle.solo_view.specs.Steps.Step.{Or as Or_step, And as And_step, Load, Store, Or, And, Flush, Drain}
use Rattle.solo_view.specs.View.{View}
use Rattle.solo_view.specs.Views.{after_all}
use Rattle.solo_world.specs.Records.{slot_word, spelled}
use Rattle.solo_world.specs.Sequences.{Sequence, by_lane, by_view, counted, drains, flushes, ands, finds_in, in_turn, looks, makes_room, nothing, one, ors, settles, stores, with_word}
use Rattle.solo_world.specs.declared.lane.Span.{Span}
use Rattle.solo_tx.proofs.PlannedWords.{planned_few}

-- the sequence makes so many stores
abbrev pub HasStores : ℕ → Sequence → Type 0
HasStores n steps = (v : View) → stores_among (steps v) ≡ n

pub stores_append : (xs ys : List Step) → stores_among (xs ++ ys) ≡ stores_among xs + stores_among ys
unfolding among
stores_append [] ys = (let e : stores_among ys ≡ 0 + stores_among ys = omega arith in e)
stores_append (x ∷ xs) ys = let rest = stores_append xs ys in omega (arith, rest)

-- the first of some steps make no more
pub stores_first : (k : ℕ) (steps : List Step) → stores_among (take k steps) ≤ stores_among steps
unfolding among
stores_first zero steps = omega arith
stores_first (suc k) [] = omega arith
stores_first (suc k) (s ∷ steps) = let rest = stores_first k steps in omega (arith, rest)

store_counts : (s : Step) → cond (is_store s) 1 0 ≤ cond (is_counted s) 1 0
store_counts (Load w x) = omega arith
store_counts (Store w x) = omega arith
store_counts (Or w bits found) = omega arith
store_counts (And w bits found) = omega arith
store_counts (Flush line) = omega arith
store_counts Drain = omega arith
store_counts s = omega arith

-- steps without counted calls make none
pub stores_counted : (steps : List Step) → stores_among steps ≤ calls_in steps
unfolding among calls_in
stores_counted [] = omega arith
stores_counted (s ∷ steps) = let one_ = store_counts s in let rest = stores_counted steps in omega (arith, one_, rest)

pub none_in_nothing : HasStores 0 nothing
unfolding nothing among
none_in_nothing v = refl

pub stores_in_turn : (a b n : ℕ) (s t : Sequence) → n ≡ a + b → HasStores a s → HasStores b t → HasStores n (in_turn s t)
unfolding in_turn
stores_in_turn a b n s t sum first second v =
    let m : View = after_all v (s v) in
    let both = stores_append (s v) (t m) in let one_ = first v in let two = second m in omega (arith, sum, both, one_, two)

-- the sum of the first so many numbers
sum_to : (ℕ → ℕ) → ℕ → ℕ
sum_to f zero = 0
sum_to f (suc n) = sum_to f n + f n

sum_front : (f : ℕ → ℕ) (n : ℕ) → sum_to f (suc n) ≡ f 0 + sum_to (λ i. f (suc i)) n
unfolding sum_to
sum_front f zero = omega arith
sum_front f (suc n) = let rest = sum_front f n in omega (arith, rest)

sum_same : (f : ℕ → ℕ) (k n : ℕ) → ((i : ℕ) → f i ≡ k) → sum_to f n ≡ n * k
unfolding sum_to
sum_same f k zero same = omega arith
sum_same f k (suc n) same = let rest = sum_same f k n same in let here = same n in let e : suc n * k ≡ n * k + k = grind arith in omega (arith, rest, here, e)

stores_counted_by : (steps : ℕ → Sequence) (f : ℕ → ℕ) (n : ℕ) → ((i : ℕ) → HasStores (f i) (steps i)) → HasStores (sum_to f n) (counted steps n)
unfolding counted sum_to
stores_counted_by steps f zero each = none_in_nothing
stores_counted_by steps f (suc n) each = stores_in_turn (sum_to f n) (f n) (sum_to f n + f n) (counted steps n) (steps n) refl (stores_counted_by steps f n each) (each n)

pub stores_of_each : (steps : ℕ → Sequence) (k n : ℕ) → ((i : ℕ) → HasStores k (steps i)) → HasStores (n * k) (counted steps n)
stores_of_each steps k n each v = stores_counted_by steps (λ i. k) n each v ∙ sum_same (λ i. k) k n (λ i. refl)

pub stores_by_view : (n : ℕ) (steps : View → Sequence) → ((u : View) → HasStores n (steps u)) → HasStores n (by_view steps)
unfolding by_view
stores_by_view n steps each v = each v v

pub stores_by_lane : (n : ℕ) (steps : ℕ → Sequence) → ((lane : ℕ) → HasStores n (steps lane)) → HasStores n (by_lane steps)
unfolding by_lane
stores_by_lane n steps each = stores_by_view n (λ v. steps v.lane) (λ u. each u.lane)

none_in_looks : (w : ℕ) → HasStores 0 (looks w)
unfolding looks among
none_in_looks w v = refl

pub stores_with_word : (n w : ℕ) (steps : ℕ → Sequence) → ((x : ℕ) → HasStores n (steps x)) → HasStores n (with_word w steps)
unfolding with_word
stores_with_word n w steps each =
    stores_by_view n (λ u. in_turn (looks w) (steps (slice_index u.words w)))
    (λ u. stores_in_turn 0 n n (looks w) (steps (slice_index u.words w)) (omega arith) (none_in_looks w) (each (slice_index u.words w)))

pub none_in_one : (s : Step) → is_store s ≡ false → HasStores 0 (one s)
unfolding one among
none_in_one s other v = ap (λ b. cond b 1 0 + 0) other

pub none_in_settles : HasStores 0 settles
unfolding settles flushes drains among
none_in_settles = stores_in_turn 0 0 0 flushes drains (omega arith) (λ v. of_lines (unflushed_lines v.changes)) (λ v. at (eqb (length v.changes) 0)) where
  of_lines : (lines : List ℕ) → stores_among (map Flush lines) ≡ 0
  of_lines [] = refl
  of_lines (line ∷ lines) = let rest = of_lines lines in omega (arith, rest)

  at : (b : Bool) → stores_among (cond b [] (Drain ∷ [])) ≡ 0
  at true = refl
  at false = refl

none_in_room : HasStores 0 makes_room
unfolding makes_room among
none_in_room v = at (ltb (length v.changes) max_changes) where
  at : (b : Bool) → stores_among (cond b [] (settles v)) ≡ 0
  at true = refl
  at false = none_in_settles v

pub one_in_stores : (w x : ℕ) → HasStores 1 (stores w x)
unfolding stores one among
one_in_stores w x = stores_in_turn 0 1 1 makes_room (one (Store w x)) (omega arith) none_in_room (λ v. refl)

-- bits of a word are set or cleared by one
pub one_in_does : (op : Op) (w x : ℕ) → HasStores 1 (does op w x)
unfolding ors ands finds_in among
one_in_does Set w x = one_in_stores w x
one_in_does Or w x = stores_in_turn 0 1 1 makes_room (finds_in w (Or_step w x)) (omega arith) none_in_room (λ v. refl)
one_in_does And w x = stores_in_turn 0 1 1 makes_room (finds_in w (And_step w x)) (omega arith) none_in_room (λ v. refl)

pub none_in_looks_from : (word count : ℕ) → HasStores 0 (looks_from word count)
unfolding looks_from
none_in_looks_from word count v = stores_of_each (λ i. looks (word + i)) 0 count (λ i. none_in_looks (word + i)) v ∙ (let e : count * 0 ≡ 0 = omega arith in e)

-- of the records' sequences: eight for each record
slot_stores : (lane slot : ℕ) (words : List ℕ) → HasStores (length words) (writes_slot lane slot words)
unfolding writes_slot stores_from
slot_stores lane slot words =
    stores_in_turn (length words * 1) 0 (length words) (stores_from (slot_word lane slot) words) (one (Flush (slot_line lane slot))) (omega arith)
    (stores_of_each (λ i. stores (slot_word lane slot + i) (slice_index words i)) 1 (length words) (λ i. one_in_stores (slot_word lane slot + i) (slice_index words i)))
    (none_in_one (Flush (slot_line lane slot)) refl)

record_stores : (lane generation slot : ℕ) (s : Span) → s.count ≤ 4 → HasStores 8 (writes_record lane generation slot s)
unfolding writes_record
record_stores lane generation slot s few =
    stores_by_view 8 (λ u. in_turn (looks_from s.word s.count) (writes_slot lane slot (spelled generation (recorded_in u s))))
    (λ u.
    let size : length (recorded_in u s).old ≡ s.count = length-map-range_with_len (slice_index u.words) s.word s.count in
    let eight = length_spelled generation (recorded_in u s) (omega (arith, size, few)) in
    stores_in_turn 0 (length (spelled generation (recorded_in u s))) 8 (looks_from s.word s.count) (writes_slot lane slot (spelled generation (recorded_in u s))) (omega (arith, eight))
    (none_in_looks_from s.word s.count) (slot_stores lane slot (spelled generation (recorded_in u s))))

records_stores : (lane generation slot : ℕ) (spans : List Span) → ((i : ℕ) → (span_at spans i).count ≤ 4) → HasStores (8 * length spans) (writes_records lane generation slot spans)
unfolding writes_records
records_stores lane generation slot spans few v =
    stores_of_each (λ i. writes_record lane generation (slot + i) (span_at spans i)) 8 (length spans) (λ i. record_stores lane generation (slot + i) (span_at spans i) (few i)) v
    ∙ (let e : length spans * 8 ≡ 8 * length spans = omega arith in e)

pub stores_with_generation : (n : ℕ) (rest : ℕ → ℕ → Sequence) → ((lane x : ℕ) → HasStores n (rest lane x)) → HasStores n (with_generation rest)
unfolding with_generation
stores_with_generation n rest each = stores_by_lane n (λ lane. with_word (area_word lane) (rest lane)) (λ lane. stores_with_word n (area_word lane) (rest lane) (each lane))

logs_stores : (slot : ℕ) (spans : List Span) → ((i : ℕ) → (span_at spans i).count ≤ 4) → HasStores (8 * length spans) (logs_any slot spans)
unfolding logs_any logs writes_all
logs_stores slot [] few = none_in_nothing
logs_stores slot (s ∷ spans) few =
    stores_with_generation (8 * length (s ∷ spans)) (writes_all slot (s ∷ spans))
    (λ lane x. stores_in_turn (8 * length (s ∷ spans)) 0 (8 * length (s ∷ spans)) (writes_records lane x slot (s ∷ spans)) (one Drain) (omega arith) (records_stores lane x slot (s ∷ spans) few) (none_in_one Drain refl))

pub snapshot_stores : (spans : List Span) (place len : ℕ) → HasStores (8 * length (plan_of spans place len)) (snapshots spans place len)
unfolding snapshots
snapshot_stores spans place len = logs_stores (length spans) (plan_of spans place len) (planned_few spans place len)

-- and one for each recorded word that is put back
abbrev count_at : List Span → ℕ → ℕ
count_at spans i = (span_at spans i).count

words_counted : (spans : List Span) → sum_to (count_at spans) (length spans) ≡ length (words_in spans)
unfolding words_in sum_to
words_counted [] = refl
words_counted (s ∷ spans) =
    let front = sum_front (count_at (s ∷ spans)) (length spans) in
    let rest = words_counted spans in
    let size = length-range_with_len s.word s.count in
    let both = length-append (range_with_len s.word s.count) (words_in spans) in
    omega (arith, front, rest, size, both)

pub put_back_stores : (spans : List Span) (lane : ℕ) → HasStores (length (words_in spans)) (puts_back spans lane)
unfolding puts_back restores_record restores_word
put_back_stores spans lane v =
    stores_counted_by (λ slot. restores_record lane slot (span_at spans slot)) (count_at spans) (length spans)
    (λ slot u.
    stores_of_each (restores_word lane slot (span_at spans slot).word) 1 (count_at spans slot)
    (λ i. stores_with_word 1 (slot_word lane slot + 3 + i) (stores ((span_at spans slot).word + i)) (λ x. one_in_stores ((span_at spans slot).word + i) x)) u
    ∙ (let e : count_at spans slot * 1 ≡ count_at spans slot = omega arith in e)) v
    ∙ words_counted spans

pub restore_stores : (spans : List Span) → HasStores (length (words_in spans)) (restores spans)
unfolding restores restores_all
restore_stores spans =
    stores_by_lane (length (words_in spans)) (restores_all spans)
    (λ lane. stores_in_turn (length (words_in spans)) 0 (length (words_in spans)) (puts_back spans lane) settles (omega arith) (put_back_stores spans lane) none_in_settles)

-- and one that ends a generation
pub retire_stores : HasStores 1 retires
unfolding retires ends_generation persists
retire_stores =
    stores_with_generation 1 ends_generation
    (λ lane x. stores_in_turn 1 0 1 (stores (area_word lane) (x + 1)) (persists (area_word lane / 8)) (omega arith) (one_in_stores (area_word lane) (x + 1))
    (stores_in_turn 0 0 0 (one (Flush (area_word lane / 8))) (one Drain) (omega arith) (none_in_one (Flush (area_word lane / 8)) refl) (none_in_one Drain refl)))
