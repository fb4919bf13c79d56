-- While stray slots are cleared, the image means what it meant.
use Rattle.std.proofs.Common.{◌≡◌, ◌≢◌, ◌⊎◌, ⊎_elim, inl, inr, ℕ, ◌+◌, ◌*◌, ◌<◌, ◌≤◌, ◌&&◌, ◌||◌, Bool, true, false, not, ltb, List, length, take, slice_index, Option, Some, None, refl, sym, ◌∙◌, ap, subst, arith}
use Rattle.std.proofs.lemmas.Bool.{cases_Bool, false≢true, leb-true}
use Rattle.std.proofs.lemmas.List.{take_all}
use Rattle.std.proofs.lemmas.Option.{cond_some}
use Rattle.pm_record.specs.Undo.{is_record, undo_in, undo_of}
use Rattle.pm_record.specs.declared.redo.Redo.{Redo}
use Rattle.pm_record.specs.declared.undo.Undo.{Undo}
use Rattle.pm_objects.specs.declared.pool.PoolView.{PoolView}
use Rattle.pm_image.specs.Logs.{all_applied, area_word, generation, is_sealed, slot_line, undo_slot}
use Rattle.pm_image.specs.Means.{IsMeaning}
use Rattle.pm_image.specs.Steps.{valid_record}
use Rattle.pm_recover.specs.Recovery.{IsOfSlot, generation_after, has_record, has_torn_slot, is_raised, is_stray}
use Rattle.pm_recover.proofs.Clean.{after_raised}
use Rattle.pm_recover.proofs.Slots.{recorded, valid_if, valid_parts}
use Rattle.pm_recover.proofs.Strays.{slot_kept, slot_long, slot_word, stray_by}
use Rattle.pm_reopen.specs.Plan.{writes}
use Rattle.pm_reopen.specs.Premise.{HasNoTornClearing, HasWords, IsPartlyCleared}
use Rattle.pm_reopen.proofs.Beside.{IsBeside, IsPerformed, lanes_stay, logs_stay, page_stays}
use Rattle.pm_reopen.proofs.Less.{IsLess, SameHeapWords, few_of_lane, few_records, meaning_less, record_less}
use Rattle.pm_reopen.proofs.Phase1.{HasLogOf, before_word, heap_beside, rows, size, sound, still_entries, still_generation, still_good, still_rows, still_valid, targets}
use Rattle.pm_reopen.proofs.SameWords.{same_after}
use Rattle.pm_reopen.proofs.Surviving.{for_word}
use Rattle.pm_reopen.proofs.While.{own_word, untouched}

-- the slot has a stray record
abbrev pub IsStraySlot : List ℕ → ℕ → ℕ → Type 0
IsStraySlot X k slot = is_stray (generation_after X k) (undo_slot X k slot) ≡ true

-- the log's changes are in it, and of stray slots some words are 0
pub record IsClearing (X J : List ℕ) (k : ℕ) : Type 0 where
  pub as_long : length J ≡ length X
  pub kept : (w : ℕ) → w < length X → ((slot : ℕ) → slot < 64 → IsStraySlot X k slot → IsOfSlot k slot w → ⊥) → slice_index J w ≡ all_applied (for_word w (writes X k)) (slice_index X w)
  pub either : (w : ℕ) → w < length X → (slice_index J w ≡ all_applied (for_word w (writes X k)) (slice_index X w)) ⊎ (slice_index J w ≡ 0)

-- ---- a stray record that is valid is a sealed lane's

stray_some : (g : ℕ) (slot : List ℕ) → is_stray g slot ≡ true → (u : Undo) × ((undo_of slot ≡ Some u) × (g ≤ u.generation))
stray_some g slot is = go (undo_of slot) refl where
  go : (o : Option Undo) → undo_of slot ≡ o → (u : Undo) × ((undo_of slot ≡ Some u) × (g ≤ u.generation))
  go None none = absurd (false≢true (sym (stray_by g slot None (sym none)) ∙ is))
  go (Some u) some = (u, (some, leb-true g u.generation (sym (stray_by g slot (Some u) (sym some)) ∙ is)))

raised_if : (X : List ℕ) (k : ℕ) → is_sealed X k ≡ false → has_record X k ≡ true → is_raised X k ≡ true
unfolding is_raised
raised_if X k unsealed there =
    let last : Bool = ltb (generation X k) 4611686018427387904 && has_torn_slot X k in
    (λ j. not (unsealed j) && (there j || last))

sealed_if : (X : List ℕ) (k slot : ℕ) (u : Undo) → slot < 64 → undo_of (undo_slot X k slot) ≡ Some u → generation_after X k ≤ u.generation → u.generation ≡ generation X k → is_sealed X k ≡ true
sealed_if X k slot u few reads stray same = ⊎_elim
    (λ (sealed : is_sealed X k ≡ true). sealed)
    (λ (unsealed : is_sealed X k ≡ false).
    let valid : valid_record X k slot ≡ Some u = valid_if (generation X k) (undo_of (undo_slot X k slot)) u reads same in
    let there : has_record X k ≡ true = recorded X k slot few (λ none. let clash : None ≡ Some u = sym none ∙ valid in absurd cc) in
    let after = after_raised X k (raised_if X k unsealed there) in
    absurd (omega (arith, after, stray, same)))
    (cases_Bool (is_sealed X k))

-- the first word of a slot is its record's generation
first_word : (slot : List ℕ) (u : Undo) → undo_of slot ≡ Some u → (is_record slot ≡ true) × (slice_index slot 0 ≡ u.generation)
first_word slot u reads =
    let parts = cond_some (is_record slot) (undo_in slot) u reads in
    (parts.0, ap (λ (v : Undo). v.generation) parts.1)

-- ---- the second part

module _ (X J : List ℕ) (pool : PoolView) (is : IsMeaning X pool) (k : ℕ) (near : k < is.lanes) (words : HasWords X) (unsealed : (lane : ℕ) → lane < k → is_sealed X lane ≡ false) (whole : HasNoTornClearing X is.lanes) (part : IsClearing X J k) where
  abbrev pub L : ℕ
  L = is.lanes

  abbrev pub Z : ℕ
  Z = is.zones

  beside_slots : (w : ℕ) → IsBeside k w → (slot : ℕ) → slot < 64 → IsStraySlot X k slot → IsOfSlot k slot w → ⊥
  beside_slots w (inl low) slot few stray of = let from = of.0 in omega (arith, low, from)
  beside_slots w (inr high) slot few stray of = let to = of.1 in omega (arith, high, to, few)

  pub performed_2 : IsPerformed X J L k
  performed_2 = record {
    near = near;
    areas = (let all = size X pool is k near in omega (arith, all));
    targets = targets X pool is k near;
    as_long = part.as_long;
    each = λ w inside beside.
        (length (for_word w (writes X k)), part.kept w inside (beside_slots w beside) ∙ ap (λ (es : List Redo). all_applied es (slice_index X w)) (sym (take_all (length (for_word w (writes X k))) (for_word w (writes X k)) (omega arith))));
  }

  own_untouched : (w : ℕ) → area_word k ≤ w → w < area_word (k + 1) → w ≢ area_word k → all_applied (for_word w (writes X k)) (slice_index X w) ≡ slice_index X w
  own_untouched w from to other =
      ap (λ (es : List Redo). all_applied es (slice_index X w)) (untouched X L k w (writes X k) (targets X pool is k near) (λ heap. ⊎_elim (λ (root : w ≡ 64). omega (arith, root, from)) (λ (behind : 512 + 1024 * L ≤ w). omega (arith, behind, near, to)) heap) other)

  before_slots : (w : ℕ) → w < area_word k + 136 → (slot : ℕ) → slot < 64 → IsStraySlot X k slot → IsOfSlot k slot w → ⊥
  before_slots w low slot few stray of = let from = of.0 in omega (arith, low, from)

  pub log_2 : HasLogOf X J k
  log_2 =
      let all = size X pool is k near in
      let n : ℕ = length (for_word (area_word k) (writes X k)) in
      let own : slice_index J (area_word k) ≡ all_applied (take n (for_word (area_word k) (writes X k))) (slice_index X (area_word k)) =
      part.kept (area_word k) (omega (arith, all, near)) (before_slots (area_word k) (omega arith)) ∙ ap (λ (es : List Redo). all_applied es (slice_index X (area_word k))) (sym (take_all n (for_word (area_word k) (writes X k)) (omega arith))) in
      record {
        entries_are = λ i from to. sym (part.kept i (omega (arith, all, near, to)) (before_slots i to) ∙ own_untouched i (omega (arith, from)) (omega (arith, to)) (λ same. omega (arith, same, from)));
        seal = part.kept (area_word k + 1) (omega (arith, all, near)) (before_slots (area_word k + 1) (omega arith)) ∙ own_untouched (area_word k + 1) (omega arith) (omega arith) (λ same. omega (arith, same));
        generation_is = ⊎_elim
            (λ (same : all_applied (take n (for_word (area_word k) (writes X k))) (slice_index X (area_word k)) ≡ slice_index X (area_word k)). inl (own ∙ same))
            (λ (last : all_applied (take n (for_word (area_word k) (writes X k))) (slice_index X (area_word k)) ≡ generation X k). inr (own ∙ last))
            (own_word X L k (writes X k) n (slice_index X (area_word k)) near (targets X pool is k near));
      }

  -- a slot's words: each as it was, or 0
  slot_partly : (slot : ℕ) → slot < 64 → IsPartlyCleared (undo_slot J k slot) (undo_slot X k slot)
  slot_partly slot few =
      let all = size X pool is k near in
      let long = part.as_long in
      let long_X = slot_long X k slot (omega (arith, all, near, few)) in
      let long_J = slot_long J k slot (omega (arith, all, near, few, long)) in
      record {
        as_long = long_J ∙ sym long_X;
        each = λ i inside.
            let low : i < 8 = omega (arith, inside, long_X) in
            let w : ℕ = 8 * slot_line k slot + i in
            let same : all_applied (for_word w (writes X k)) (slice_index X w) ≡ slice_index X w = own_untouched w (omega arith) (omega (arith, few, low)) (λ at. omega (arith, at)) in
            ⊎_elim
            (λ (kept : slice_index J w ≡ all_applied (for_word w (writes X k)) (slice_index X w)). inl (slot_word J k slot i low ∙ kept ∙ same ∙ sym (slot_word X k slot i low)))
            (λ (zero_is : slice_index J w ≡ 0). inr (slot_word J k slot i low ∙ zero_is))
            (part.either w (omega (arith, all, near, few, low)));
      }

  slot_same : (slot : ℕ) → slot < 64 → (IsStraySlot X k slot → ⊥) → undo_slot J k slot ≡ undo_slot X k slot
  slot_same slot few none =
      let all = size X pool is k near in
      slot_kept X J k slot part.as_long (omega (arith, all, near, few)) (λ i of.
      let from = of.0 in let to = of.1 in
      part.kept i (omega (arith, all, near, few, to)) (λ other few_other stray at.
      let low = at.0 in let high = at.1 in
      let number : other ≡ slot = omega (arith, from, to, low, high) in
      none (subst (IsStraySlot X k) number stray))
      ∙ own_untouched i (omega (arith, from)) (omega (arith, to, few)) (λ same. omega (arith, same, from)))

  -- what is valid in it was valid, with the same words
  pub valid_same : (slot : ℕ) (u : Undo) → slot < 64 → valid_record J k slot ≡ Some u → undo_slot J k slot ≡ undo_slot X k slot
  valid_same slot u few valid = ⊎_elim
      (λ (stray : is_stray (generation_after X k) (undo_slot X k slot) ≡ true).
      let g = still_generation X J k log_2 in
      let parts = valid_parts (generation J k) (undo_of (undo_slot J k slot)) u valid in
      let first = first_word (undo_slot J k slot) u parts.0 in
      let is_g : slice_index (undo_slot J k slot) 0 ≡ generation X k = first.1 ∙ parts.1 ∙ g in
      let some = (sound X pool is k near).first_generation k near in
      let partly = slot_partly slot few in
      let all = size X pool is k near in
      let long_X = slot_long X k slot (omega (arith, all, near, few)) in
      let was = stray_some (generation_after X k) (undo_slot X k slot) stray in
      let first_X = first_word (undo_slot X k slot) was.0 was.1.0 in
      let same_first : slice_index (undo_slot X k slot) 0 ≡ generation X k = ⊎_elim
      (λ (same : slice_index (undo_slot J k slot) 0 ≡ slice_index (undo_slot X k slot) 0). sym same ∙ is_g)
      (λ (none : slice_index (undo_slot J k slot) 0 ≡ 0). absurd (omega (arith, none, is_g, some)))
      (partly.each 0 (omega (arith, long_X))) in
      let of_g : was.0.generation ≡ generation X k = sym first_X.1 ∙ same_first in
      whole.whole k slot was.0 (undo_slot J k slot) near few (sealed_if X k slot was.0 few was.1.0 was.1.1 of_g) (valid_if (generation X k) (undo_of (undo_slot X k slot)) was.0 was.1.0 of_g) partly first.0 is_g)
      (λ (none : is_stray (generation_after X k) (undo_slot X k slot) ≡ false). slot_same slot few (λ stray. false≢true (sym none ∙ stray)))
      (cases_Bool (is_stray (generation_after X k) (undo_slot X k slot)))

  slot_less_2 : (slot : ℕ) → slot < 64 → (valid_record J k slot ≡ valid_record X k slot) ⊎ (valid_record J k slot ≡ None)
  slot_less_2 slot few = go (valid_record J k slot) refl where
    go : (o : Option Undo) → valid_record J k slot ≡ o → (valid_record J k slot ≡ valid_record X k slot) ⊎ (valid_record J k slot ≡ None)
    go None none = inr none
    go (Some u) some = inl (still_valid X J k log_2 slot (valid_same slot u few some))

  pub less_2 : IsLess X J L Z k
  less_2 = record {
    as_long = part.as_long;
    page_is = page_stays X J L k performed_2;
    others = lanes_stay X J L k performed_2;
    entries_less = inl (still_entries X J k log_2);
    slots_less = slot_less_2;
    lane_good = still_good X J pool is k near log_2;
    entries_good = still_rows X J pool is k near log_2;
  }

  pub words_2 : SameHeapWords X J L Z
  words_2 i inside heap =
      let few = few_records X L (8 * i) ((rows X pool is k near).clash_row i inside) in
      same_after X J L k i (before_word X pool is k near words unsealed i inside) (logs_stay X J L k performed_2) (inl (still_entries X J k log_2))
      (record_less X J L Z k (8 * i) less_2 (few_of_lane X L k (8 * i) near few))
      (part.kept i inside (beside_slots i (heap_beside L Z k i near heap)))

  pub meaning_2 : IsMeaning J pool
  meaning_2 = meaning_less X J pool k is near less_2 words_2
