-- Slots whose stray records are cleared, one after another.
use Rattle.std.proofs.Common.{◌≡◌, ◌≢◌, ◌⊎◌, ⊎_elim, inl, inr, ℕ, ◌+◌, ◌-◌, ◌*◌, ◌/◌, ◌%◌, ◌<◌, ◌≤◌, Bool, true, false, cond, leb, eqb, List, length, replicate, slice_index, slice_set, take, drop, get_or, get_or-set_same, length-set, Option, None, Some, refl, sym, ◌∙◌, ap, subst, arith}
use Rattle.std.specs.List.{slice_range}
use Rattle.std.specs.Option.{option_map_or}
use Rattle.std.proofs.lemmas.Bool.{cases_Bool, cases_lt, cond-false, cond-true, false_from_ne_true, false≢true, le-leb, leb-false, leb-true}
use Rattle.std.proofs.lemmas.List.{ext_get_or, get_or-drop, get_or-set_other, get_or-take, length-drop, length-take}
use Rattle.std.proofs.lemmas.Option.{cond_some}
use Rattle.pm_words.specs.Sums.{sum64}
use Rattle.pm_record.specs.Undo.{is_record, undo_in, undo_of}
use Rattle.pm_record.specs.declared.undo.Undo.{Undo}
use Rattle.pm_image.specs.Logs.{area_word, generation_word, slot_line, undo_slot}
use Rattle.pm_image.specs.Steps.{HasLanes}
use Rattle.pm_recover.specs.Recovery.{IsOfSlot, is_stray, without_stray}
use Rattle.pm_recover.specs.Steps.{AreCleared}

-- ---- a slot's words

pub slot_word : (image : List ℕ) (lane slot k : ℕ) → k < 8 → slice_index (undo_slot image lane slot) k ≡ slice_index image (8 * slot_line lane slot + k)
slot_word image lane slot k low =
    let a : ℕ = 8 * slot_line lane slot in
    let eight : a + 8 - a ≡ 8 = omega arith in
    ap (λ (n : ℕ). get_or (take n (drop a image)) k 0) eight ∙ (get_or-take 8 (drop a image) k 0 low ∙ get_or-drop a image k 0)

pub slot_long : (image : List ℕ) (lane slot : ℕ) → 8 * slot_line lane slot + 8 ≤ length image → length (undo_slot image lane slot) ≡ 8
slot_long image lane slot inside =
    let a : ℕ = 8 * slot_line lane slot in
    let dropped = length-drop a image in
    let taken = length-take (a + 8 - a) (drop a image) in
    omega (arith, dropped, taken)

-- two slots of the same words
slot_is : (image : List ℕ) (lane slot : ℕ) (words : List ℕ) → 8 * slot_line lane slot + 8 ≤ length image → length words ≡ 8
    → ((k : ℕ) → k < 8 → slice_index image (8 * slot_line lane slot + k) ≡ slice_index words k) → undo_slot image lane slot ≡ words
slot_is image lane slot words inside long same =
    let own = slot_long image lane slot inside in
    ext_get_or 0 (undo_slot image lane slot) words (own ∙ sym long) (λ k h. let low : k < 8 = omega (arith, own) in slot_word image lane slot k low ∙ same k low)

pub slot_kept : (old new : List ℕ) (lane slot : ℕ) → length new ≡ length old → 8 * slot_line lane slot + 8 ≤ length old
    → ((i : ℕ) → IsOfSlot lane slot i → slice_index new i ≡ slice_index old i) → undo_slot new lane slot ≡ undo_slot old lane slot
slot_kept old new lane slot as_long inside same =
    slot_is new lane slot (undo_slot old lane slot) (omega (arith, as_long)) (slot_long old lane slot inside)
    (λ k low. same (8 * slot_line lane slot + k) (omega arith, omega (arith, low)) ∙ sym (slot_word old lane slot k low))

zeros_at : (k : ℕ) → k < 8 → slice_index (replicate 8 0) k ≡ 0
zeros_at k low = grind arith

pub slot_cleared : (image : List ℕ) (lane slot : ℕ) → 8 * slot_line lane slot + 8 ≤ length image → ((k : ℕ) → k < 8 → slice_index image (8 * slot_line lane slot + k) ≡ 0) → undo_slot image lane slot ≡ replicate 8 0
slot_cleared image lane slot inside cleared = slot_is image lane slot (replicate 8 0) inside refl (λ k low. cleared k low ∙ sym (zeros_at k low))

-- ---- what a slot is without a stray record

pub stray_by : (g : ℕ) (slot : List ℕ) (o : Option Undo) → o ≡ undo_of slot → is_stray g slot ≡ option_map_or (λ (u : Undo). leb g u.generation) o false
stray_by g slot o is = ap (λ (x : Option Undo). option_map_or (λ (u : Undo). leb g u.generation) x false) (sym is)

pub kept_slot : (g : ℕ) (slot : List ℕ) → is_stray g slot ≡ false → without_stray g slot ≡ slot
kept_slot g slot is = cond-false (is_stray g slot) (replicate 8 0) slot is

pub cleared_slot : (g : ℕ) (slot : List ℕ) → is_stray g slot ≡ true → without_stray g slot ≡ replicate 8 0
cleared_slot g slot is = cond-true (is_stray g slot) (replicate 8 0) slot is

-- its record, if it has one, is of an earlier generation
old_record : (g : ℕ) (slot : List ℕ) (u : Undo) → is_stray g slot ≡ false → undo_of slot ≡ Some u → u.generation < g
old_record g slot u none is = let later = leb-false g u.generation (sym (stray_by g slot (Some u) (sym is)) ∙ none) in omega (arith, later)

zero_record : (u : Undo) → undo_of (replicate 8 0) ≡ Some u → u.generation ≡ 0
zero_record u is = ap (λ (v : Undo). v.generation) (sym (cond_some (is_record (replicate 8 0)) (undo_in (replicate 8 0)) u is).1)

pub earlier_without : (g : ℕ) (slot : List ℕ) (u : Undo) → 1 ≤ g → undo_of (without_stray g slot) ≡ Some u → u.generation < g
earlier_without g slot u some is = ⊎_elim
    (λ (stray : is_stray g slot ≡ true). let none = zero_record u (ap undo_of (sym (cleared_slot g slot stray)) ∙ is) in omega (arith, none, some))
    (λ (kept : is_stray g slot ≡ false). old_record g slot u kept (ap undo_of (sym (kept_slot g slot kept)) ∙ is))
    (cases_Bool (is_stray g slot))

zero_sum : is_record (replicate 8 0) ≡ true
unfolding sum64
zero_sum = refl

sum_of : (g : ℕ) (slot : List ℕ) (b : Bool) → is_record slot ≡ b → is_stray g slot ≡ true → b ≡ true
sum_of g slot true is stray = refl
sum_of g slot false is stray = absurd (false≢true (sym (ap (λ (c : Bool). option_map_or (λ (u : Undo). leb g u.generation) (cond c (Some (undo_in slot)) None) false) is) ∙ stray))

-- its sum is as true as it was
pub sum_without : (g : ℕ) (slot : List ℕ) → is_record (without_stray g slot) ≡ is_record slot
sum_without g slot = ⊎_elim
    (λ (stray : is_stray g slot ≡ true). ap is_record (cleared_slot g slot stray) ∙ zero_sum ∙ sym (sum_of g slot (is_record slot) refl stray))
    (λ (kept : is_stray g slot ≡ false). ap is_record (kept_slot g slot kept))
    (cases_Bool (is_stray g slot))

-- without any such record it is as it was
pub none_stray : (g : ℕ) (slot : List ℕ) → ((u : Undo) → undo_of slot ≡ Some u → u.generation < g) → without_stray g slot ≡ slot
none_stray g slot old = kept_slot g slot (by_record (undo_of slot) refl) where
  by_record : (o : Option Undo) → undo_of slot ≡ o → option_map_or (λ (u : Undo). leb g u.generation) o false ≡ false
  by_record None is = refl
  by_record (Some u) is = false_from_ne_true (leb g u.generation) (λ late. let from = leb-true g u.generation late in let before = old u is in omega (arith, from, before))

-- ---- slot by slot

module _ (old now new : List ℕ) (lanes n : ℕ) (has : HasLanes old lanes) (inside : n < 64 * lanes) (before : AreCleared old now n) (as_long : length new ≡ length now)
    (written : undo_slot new (n / 64) (n % 64) ≡ without_stray (generation_word now (n / 64)) (undo_slot now (n / 64) (n % 64))) (others : (i : ℕ) → (IsOfSlot (n / 64) (n % 64) i → ⊥) → slice_index new i ≡ slice_index now i) where
  long : 512 + 1024 * lanes ≤ length now
  long = let areas = has.areas in let same = before.as_long in omega (arith, areas, same)

  -- slots before this one stay, and this one was as it had been
  earlier : (k : ℕ) → k < n → undo_slot new (k / 64) (k % 64) ≡ without_stray (generation_word old (k / 64)) (undo_slot old (k / 64) (k % 64))
  earlier k near =
      let room = long in
      slot_kept now new (k / 64) (k % 64) as_long (omega (arith, room, near, inside)) (λ i of. others i (λ here. let from = of.0 in let to = of.1 in let low = here.0 in let high = here.1 in omega (arith, from, to, low, high, near)))
      ∙ before.slots k near

  this_one : undo_slot new (n / 64) (n % 64) ≡ without_stray (generation_word old (n / 64)) (undo_slot old (n / 64) (n % 64))
  this_one =
      let areas = has.areas in
      let generation : generation_word now (n / 64) ≡ generation_word old (n / 64) = before.others (area_word (n / 64)) (λ k near here. let low = here.0 in let high = here.1 in omega (arith, low, high)) in
      let slot : undo_slot now (n / 64) (n % 64) ≡ undo_slot old (n / 64) (n % 64) =
      slot_kept old now (n / 64) (n % 64) before.as_long (omega (arith, areas, inside)) (λ i of. before.others i (λ k near here. let from = of.0 in let to = of.1 in let low = here.0 in let high = here.1 in omega (arith, from, to, low, high, near))) in
      written ∙ (λ j. without_stray (generation j) (slot j))

  pub cleared_more : AreCleared old new (n + 1)
  cleared_more = record {
    as_long = as_long ∙ before.as_long;
    slots = λ k near. ⊎_elim (λ (low : k < n). earlier k low) (λ (last : n ≤ k). let same : n ≡ k = omega (arith, near, last) in subst (λ m. undo_slot new (m / 64) (m % 64) ≡ without_stray (generation_word old (m / 64)) (undo_slot old (m / 64) (m % 64))) same this_one) (cases_lt k n);
    others = λ i none. others i (none n (omega arith)) ∙ before.others i (λ k near. none k (omega (arith, near)));
  }

-- ---- word by word

-- so many words from one on are 0, and no other differs
pub record AreZeroed (from count : ℕ) (old new : List ℕ) : Type 0 where
  pub as_long : length new ≡ length old
  pub zero : (k : ℕ) → k < count → slice_index new (from + k) ≡ 0
  pub others : (i : ℕ) → (i < from) ⊎ (from + count ≤ i) → slice_index new i ≡ slice_index old i

pub none_zeroed : (from : ℕ) (old : List ℕ) → AreZeroed from 0 old old
none_zeroed from old = record { as_long = refl; zero = λ k low. omega (arith, low); others = λ i out. refl }

pub zeroed_more : (from count : ℕ) (old now new : List ℕ) → AreZeroed from count old now → from + count < length now → new ≡ slice_set now (from + count) 0 → AreZeroed from (count + 1) old new
zeroed_more from count old now new before inside is =
    let other : (i : ℕ) → i ≢ from + count → slice_index new i ≡ slice_index now i = λ i apart. ap (λ (ws : List ℕ). slice_index ws i) is ∙ get_or-set_other now (from + count) i 0 0 apart in
    record {
      as_long = ap (λ (ws : List ℕ). length ws) is ∙ (length-set now (from + count) 0 ∙ before.as_long);
      zero = λ k low. ⊎_elim
          (λ (early : k < count). other (from + k) (λ same. omega (arith, same, early)) ∙ before.zero k early)
          (λ (last : count ≤ k).
          let same : count ≡ k = omega (arith, low, last) in
          subst (λ j. slice_index new (from + j) ≡ 0) same (ap (λ (ws : List ℕ). slice_index ws (from + count)) is ∙ get_or-set_same now (from + count) 0 0 inside))
          (cases_lt k count);
      others = λ i out. ⊎_elim
          (λ (below : i < from). other i (λ same. omega (arith, same, below)) ∙ before.others i (inl below))
          (λ (above : from + (count + 1) ≤ i). other i (λ same. omega (arith, same, above)) ∙ before.others i (inr (omega (arith, above))))
          out;
    }

pub slot_zeroed : (lane slot : ℕ) (old new : List ℕ) → AreZeroed (8 * slot_line lane slot) 8 old new → (i : ℕ) → (IsOfSlot lane slot i → ⊥) → slice_index new i ≡ slice_index old i
slot_zeroed lane slot old new zeroed i out = zeroed.others i (⊎_elim
    (λ (below : i < 8 * slot_line lane slot). inl below)
    (λ (from : 8 * slot_line lane slot ≤ i). ⊎_elim (λ (to : i < 8 * slot_line lane slot + 8). absurd (out (from, to))) (λ (above : 8 * slot_line lane slot + 8 ≤ i). inr above) (cases_lt i (8 * slot_line lane slot + 8)))
    (cases_lt i (8 * slot_line lane slot)))

-- the slot has a stray record, and was cleared
pub stray_cleared : (old new : List ℕ) (lane slot : ℕ) (u : Undo) → length new ≡ length old → 8 * slot_line lane slot + 8 ≤ length old → undo_of (undo_slot old lane slot) ≡ Some u → generation_word old lane ≤ u.generation
    → ((k : ℕ) → k < 8 → slice_index new (8 * slot_line lane slot + k) ≡ 0) → undo_slot new lane slot ≡ without_stray (generation_word old lane) (undo_slot old lane slot)
stray_cleared old new lane slot u as_long inside reads late cleared =
    let g : ℕ = generation_word old lane in
    let stray : is_stray g (undo_slot old lane slot) ≡ true = stray_by g (undo_slot old lane slot) (Some u) (sym reads) ∙ le-leb g u.generation late in
    slot_cleared new lane slot (omega (arith, as_long, inside)) cleared ∙ sym (cleared_slot g (undo_slot old lane slot) stray)

pub none_cleared : (old : List ℕ) → AreCleared old old 0
none_cleared old = record { as_long = refl; slots = λ n low. absurd (omega (arith, low)); others = λ i none. refl }
