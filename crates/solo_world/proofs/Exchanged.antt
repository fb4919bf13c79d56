-- What a lane has as it gives back blocks of a run that it made: the run's blocks in place of the chunk.
use Rattle.std.proofs.Common.{◌≡◌, ◌≢◌, ℕ, ◌/◌, ◌^◌, ◌<◌, ◌⊎◌, inl, inr, ⊎_elim, Bool, true, false, eqb, List, [], ◌∷◌, ◌++◌, slice_index, find, All, Some, sym, ap, ◌∙◌, subst, arith, eq-eqb, ◌≤◌, ltb, refl}
use Rattle.std.specs.Int.{bit_at}
use Rattle.std.specs.List.{list_all, list_any}
use Rattle.std.specs.Option.{option_map_or}
use Rattle.std.proofs.Math.Pow.{pow-lt}
use Rattle.std.proofs.lemmas.Bool.{and_from, and_parts, cases_Bool, cases_eq, cases_lt, cond-false, cond-true, eqb-true, false≢true, or_cases, or_left, or_right, ltb-true}
use Rattle.std.proofs.lemmas.List.Elements.{All-append, All-cons, All-nil}
use Rattle.std.proofs.lemmas.List.Folds.{list_any-append}
use Rattle.std.proofs.lemmas.Nat.Bits.{bit_at-pow_other, bit_at-pow_same, bit_at_ones, bit_at_ones_above}
use Rattle.pm_layout.specs.Sizes.{blocks_by_class, blocks_of}
use Rattle.solo_view.specs.declared.occ.Occ.{Occ}
use Rattle.solo_view.specs.declared.occ.Occ.TheVariants.{Run, Zone}
use Rattle.solo_view.specs.Blocks.{covers, descriptor_word, zone_of}
use Rattle.solo_view.specs.Held.{is_reserved}
use Rattle.solo_view.specs.View.{View, Taken}
use Rattle.solo_view.specs.Views.{all_of_run, chunk_bit, exchanged, has_bit, is_made, is_same_occ, reserves, without_taken, zone_at}
use Rattle.solo_world.proofs.Vacated.{covered_still, vacated_after, vacated_all, vacated_before, vacated_gone, vacated_small}
use Rattle.solo_world.proofs.Reserved.{occ_same, same_occ}

-- the bit of a chunk stands in a word of 64 bits
pub chunk_small : (lanes page : ℕ) → 2 ^ chunk_bit lanes page < 2 ^ 64
chunk_small lanes page = let low : chunk_bit lanes page < 64 = omega arith in pow-lt {i = chunk_bit lanes page} {j = 64} low

is_zone : Occ → Bool
is_zone (Run place) = false
is_zone (Zone zone) = true

pub run_no_zone : (place zone : ℕ) → Run place ≡ Zone zone → ⊥
unfolding is_zone
run_no_zone place zone same = false≢true (ap is_zone same)

-- the number of blocks of no class is above 31
pub few_blocks : (lines : ℕ) → blocks_of lines < 64
few_blocks lines = by_class blocks_by_class refl where
  by_class : (entries : List (ℕ × ℕ)) → list_all (λ (e : ℕ × ℕ). ltb e.1 64) entries ≡ true → option_map_or (λ (e : ℕ × ℕ). e.1) (find (λ (e : ℕ × ℕ). eqb e.0 lines) entries) 0 < 64
  by_class [] all = omega arith
  by_class (e ∷ entries) all =
      let t = and_parts (ltb e.1 64) (list_all (λ (x : ℕ × ℕ). ltb x.1 64) entries) all in
      ⊎_elim (λ (here : eqb e.0 lines ≡ true). subst (λ o. option_map_or (λ (x : ℕ × ℕ). x.1) o 0 < 64) (sym (cond-true (eqb e.0 lines) (Some e) (find (λ (x : ℕ × ℕ). eqb x.0 lines) entries) here)) (ltb-true e.1 64 t.0))
      (λ (other : eqb e.0 lines ≡ false). subst (λ o. option_map_or (λ (x : ℕ × ℕ). x.1) o 0 < 64) (sym (cond-false (eqb e.0 lines) (Some e) (find (λ (x : ℕ × ℕ). eqb x.0 lines) entries) other)) (by_class entries t.1))
      (cases_Bool (eqb e.0 lines))

module _ (v : View) (place : ℕ) where
  abbrev page : ℕ
  page = place / 4096

  abbrev left : List Taken
  left = without_taken (zone_at v.lanes page) (2 ^ chunk_bit v.lanes page) v.reserved

  -- how many blocks the run has
  abbrev pub blocks_in : ℕ
  blocks_in = blocks_of (slice_index v.words (descriptor_word v.lanes (place / 4096)) / 256)

  pub run_small : (all_of_run v place).bits < 2 ^ 64
  run_small = let few = few_blocks (slice_index v.words (descriptor_word v.lanes page) / 256) in let big = pow-lt {i = blocks_in} {j = 64} few in omega (arith, big)

  exchanged_made : is_made v page ≡ true → exchanged v (Run place) ≡ left ++ all_of_run v place ∷ []
  exchanged_made made = cond-true (is_made v page) (left ++ all_of_run v place ∷ []) v.reserved made

  pub exchanged_same : is_made v page ≡ false → exchanged v (Run place) ≡ v.reserved
  exchanged_same none = cond-false (is_made v page) (left ++ all_of_run v place ∷ []) v.reserved none

  -- it is a block of the run that was made
  pub record IsNew (other : Occ) (bit : ℕ) : Type 0 where
    pub made : is_made v (place / 4096) ≡ true
    pub at : other ≡ Run place
    pub low : bit < blocks_of (slice_index v.words (descriptor_word v.lanes (place / 4096)) / 256)

  in_run_bit : (other : Occ) (bit : ℕ) → list_any (has_bit other bit) (all_of_run v place ∷ []) ≡ true → (other ≡ Run place) × (bit < blocks_in)
  in_run_bit other bit e =
      ⊎_elim (λ (here : has_bit other bit (all_of_run v place) ≡ true).
      let t = and_parts (is_same_occ other (Run place)) (eqb (bit_at (all_of_run v place).bits bit) 1) here in
      (occ_same other (Run place) t.0, ⊎_elim (λ (low : bit < blocks_in). low) (λ (high : blocks_in ≤ bit). absurd (let off = bit_at_ones_above blocks_in bit high in let on = eqb-true (bit_at (all_of_run v place).bits bit) 1 t.1 in omega (arith, off, on))) (cases_lt bit blocks_in)))
      (λ (none : false ≡ true). absurd (false≢true none)) (or_cases (has_bit other bit (all_of_run v place)) false e)

  run_bit : (bit : ℕ) → bit < blocks_in → has_bit (Run place) bit (all_of_run v place) ≡ true
  run_bit bit low = and_from (is_same_occ (Run place) (Run place)) (eqb (bit_at (all_of_run v place).bits bit) 1) (same_occ (Run place)) (eq-eqb (bit_at (all_of_run v place).bits bit) 1 (bit_at_ones blocks_in bit low))

  -- what it has then it had, or it is of the run
  pub exchanged_before : (other : Occ) (bit : ℕ) → list_any (has_bit other bit) (exchanged v (Run place)) ≡ true → (reserves v other bit ≡ true) ⊎ IsNew other bit
  exchanged_before other bit e =
      ⊎_elim
      (λ (made : is_made v page ≡ true).
      ⊎_elim (λ (before : list_any (has_bit other bit) left ≡ true). inl (vacated_before (zone_at v.lanes page) (2 ^ chunk_bit v.lanes page) (chunk_small v.lanes page) other bit v.reserved before))
      (λ (last : list_any (has_bit other bit) (all_of_run v place ∷ []) ≡ true). let t = in_run_bit other bit last in inr (record { made = made; at = t.0; low = t.1 }))
      (or_cases (list_any (has_bit other bit) left) (list_any (has_bit other bit) (all_of_run v place ∷ [])) (sym (list_any-append (has_bit other bit) left (all_of_run v place ∷ [])) ∙ (ap (list_any (has_bit other bit)) (sym (exchanged_made made)) ∙ e))))
      (λ (none : is_made v page ≡ false). inl (ap (list_any (has_bit other bit)) (sym (exchanged_same none)) ∙ e))
      (cases_Bool (is_made v page))

  -- what it had it has, or it is the chunk that it made a run
  pub exchanged_after : (other : Occ) (bit : ℕ) → bit < 64 → reserves v other bit ≡ true → (list_any (has_bit other bit) (exchanged v (Run place)) ≡ true) ⊎ ((is_made v (place / 4096) ≡ true) × (other ≡ zone_at v.lanes (place / 4096)) × (bit ≡ chunk_bit v.lanes (place / 4096)))
  exchanged_after other bit low has =
      ⊎_elim
      (λ (made : is_made v page ≡ true).
      ⊎_elim (λ (gone : (other ≡ zone_at v.lanes page) × (bit ≡ chunk_bit v.lanes page)). inr (made, gone.0, gone.1))
      (λ (apart : other ≡ zone_at v.lanes page → bit_at (2 ^ chunk_bit v.lanes page) bit ≢ 1).
      inl (ap (list_any (has_bit other bit)) (exchanged_made made)
      ∙ (list_any-append (has_bit other bit) left (all_of_run v place ∷ []) ∙ or_left (list_any (has_bit other bit) left) (list_any (has_bit other bit) (all_of_run v place ∷ []))
      (vacated_after (zone_at v.lanes page) (2 ^ chunk_bit v.lanes page) (chunk_small v.lanes page) other bit v.reserved low apart has))))
      (by_one other bit))
      (λ (none : is_made v page ≡ false). inl (ap (list_any (has_bit other bit)) (exchanged_same none) ∙ has))
      (cases_Bool (is_made v page))
    where
      by_one : (x : Occ) (i : ℕ) → ((x ≡ zone_at v.lanes page) × (i ≡ chunk_bit v.lanes page)) ⊎ (x ≡ zone_at v.lanes page → bit_at (2 ^ chunk_bit v.lanes page) i ≢ 1)
      by_one x i =
          ⊎_elim (λ (same : is_same_occ x (zone_at v.lanes page) ≡ true).
          ⊎_elim (λ (this : i ≡ chunk_bit v.lanes page). inl (occ_same x (zone_at v.lanes page) same, this))
          (λ (other_bit : i ≢ chunk_bit v.lanes page). inr (λ e' one. absurd (let off = bit_at-pow_other (chunk_bit v.lanes page) i other_bit in omega (arith, off, one)))) (cases_eq i (chunk_bit v.lanes page)))
          (λ (differ : is_same_occ x (zone_at v.lanes page) ≡ false). inr (λ e' one. absurd (false≢true (sym differ ∙ (ap (λ y. is_same_occ y (zone_at v.lanes page)) e' ∙ same_occ (zone_at v.lanes page))))))
          (cases_Bool (is_same_occ x (zone_at v.lanes page)))

  -- the run's blocks it has
  pub exchanged_new : (bit : ℕ) → is_made v (place / 4096) ≡ true → bit < blocks_of (slice_index v.words (descriptor_word v.lanes (place / 4096)) / 256) → list_any (has_bit (Run place) bit) (exchanged v (Run place)) ≡ true
  exchanged_new bit made low =
      ap (list_any (has_bit (Run place) bit)) (exchanged_made made)
      ∙ (list_any-append (has_bit (Run place) bit) left (all_of_run v place ∷ [])
      ∙ or_right (list_any (has_bit (Run place) bit) left) (list_any (has_bit (Run place) bit) (all_of_run v place ∷ [])) (or_left (has_bit (Run place) bit (all_of_run v place)) false (run_bit bit low)))

  -- and the chunk no longer
  pub exchanged_gone : is_made v (place / 4096) ≡ true → list_any (has_bit (zone_at v.lanes (place / 4096)) (chunk_bit v.lanes (place / 4096))) (exchanged v (Run place)) ≡ true → ⊥
  exchanged_gone made e =
      let bit : ℕ = chunk_bit v.lanes page in
      let at : Occ = zone_at v.lanes page in
      ⊎_elim (λ (before : list_any (has_bit at bit) left ≡ true). vacated_gone at (2 ^ bit) (chunk_small v.lanes page) bit v.reserved (omega arith) (bit_at-pow_same bit) before)
      (λ (last : list_any (has_bit at bit) (all_of_run v place ∷ []) ≡ true). run_no_zone place (zone_of v.lanes page) (sym (in_run_bit at bit last).0))
      (or_cases (list_any (has_bit at bit) left) (list_any (has_bit at bit) (all_of_run v place ∷ [])) (sym (list_any-append (has_bit at bit) left (all_of_run v place ∷ [])) ∙ (ap (list_any (has_bit at bit)) (sym (exchanged_made made)) ∙ e)))

  -- what holds of the occupancy words of its blocks holds of these
  pub exchanged_all : (P : Occ → Type 0) → P (Run place) → All (λ (t : Taken). P t.at) v.reserved → All (λ (t : Taken). P t.at) (exchanged v (Run place))
  exchanged_all P here all =
      ⊎_elim
      (λ (made : is_made v page ≡ true). subst (All (λ (t : Taken). P t.at)) (sym (exchanged_made made)) (All-append (λ (t : Taken). P t.at) left (all_of_run v place ∷ [])
      (vacated_all (zone_at v.lanes page) (2 ^ chunk_bit v.lanes page) (chunk_small v.lanes page) P v.reserved all) (All-cons (λ (t : Taken). P t.at) (all_of_run v place) [] here (All-nil (λ (t : Taken). P t.at)))))
      (λ (none : is_made v page ≡ false). subst (All (λ (t : Taken). P t.at)) (sym (exchanged_same none)) all)
      (cases_Bool (is_made v page))

  pub exchanged_small : All (λ (t : Taken). t.bits < 2 ^ 64) v.reserved → All (λ (t : Taken). t.bits < 2 ^ 64) (exchanged v (Run place))
  exchanged_small all =
      ⊎_elim
      (λ (made : is_made v page ≡ true). subst (All (λ (t : Taken). t.bits < 2 ^ 64)) (sym (exchanged_made made)) (All-append (λ (t : Taken). t.bits < 2 ^ 64) left (all_of_run v place ∷ [])
      (vacated_small (zone_at v.lanes page) (2 ^ chunk_bit v.lanes page) (chunk_small v.lanes page) v.reserved all) (All-cons (λ (t : Taken). t.bits < 2 ^ 64) (all_of_run v place) [] run_small (All-nil (λ (t : Taken). t.bits < 2 ^ 64)))))
      (λ (none : is_made v page ≡ false). subst (All (λ (t : Taken). t.bits < 2 ^ 64)) (sym (exchanged_same none)) all)
      (cases_Bool (is_made v page))

  -- a word of its blocks that is not of the chunk that it made a run is one still
  pub exchanged_covers : (w : ℕ) → (is_made v (place / 4096) ≡ true → covers v.lanes v.words (zone_at v.lanes (place / 4096)) (2 ^ chunk_bit v.lanes (place / 4096)) w ≡ false)
      → is_reserved v w ≡ true → list_any (λ (t : Taken). covers v.lanes v.words t.at t.bits w) (exchanged v (Run place)) ≡ true
  exchanged_covers w apart has =
      let P : Taken → Bool = λ t. covers v.lanes v.words t.at t.bits w in
      ⊎_elim
      (λ (made : is_made v page ≡ true). ap (list_any P) (exchanged_made made) ∙ (list_any-append P left (all_of_run v place ∷ []) ∙ or_left (list_any P left) (list_any P (all_of_run v place ∷ []))
      (covered_still (zone_at v.lanes page) (2 ^ chunk_bit v.lanes page) (chunk_small v.lanes page) v.lanes v.words w v.reserved (apart made) has)))
      (λ (none : is_made v page ≡ false). ap (list_any P) (exchanged_same none) ∙ has)
      (cases_Bool (is_made v page))

-- what it reserved of a run it has still
pub exchanged_has : (v : View) (at : Occ) (bit : ℕ) → bit < 64 → reserves v at bit ≡ true → list_any (has_bit at bit) (exchanged v at) ≡ true
exchanged_has v (Zone zone) bit low has = has
exchanged_has v (Run place) bit low has = ⊎_elim (λ (there : list_any (has_bit (Run place) bit) (exchanged v (Run place)) ≡ true). there)
    (λ gone. absurd (run_no_zone place (zone_of v.lanes (place / 4096)) gone.1)) (exchanged_after v place (Run place) bit low has)
