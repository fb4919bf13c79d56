-- What a lane reserved stays taken in its pictures.
use Rattle.std.proofs.Common.{◌≡◌, ◌≢◌, ◌⊎◌, inl, inr, ⊎_elim, ℕ, ◌*◌, ◌/◌, ◌^◌, ◌<◌, ◌||◌, eqb, true, false, IsTrue, All, List, [], ◌∷◌, length, length-set, set, slice_index, bit_or, sym, ap, ◌∙◌, subst, arith}
use Rattle.std.specs.Int.{bit_at}
use Rattle.std.specs.List.{list_any}
use Rattle.std.proofs.lemmas.Bool.{and_parts, cases_eq, eqb-true, false≢true, or_cases}
use Rattle.std.proofs.lemmas.List.{get_or-set_other, get_or-set_same}
use Rattle.std.proofs.lemmas.List.Elements.{All-head, All-tail}
use Rattle.std.proofs.lemmas.List.Folds.{list_any-append}
use Rattle.std.proofs.lemmas.Nat.Bits.{bit_at-pow_other}
use Rattle.pm_layout.specs.declared.shape.Shape.{Shape}
use Rattle.solo_view.specs.declared.occ.Occ.{Occ}
use Rattle.solo_view.specs.declared.occ.Occ.TheVariants.{Run, Zone}
use Rattle.solo_view.specs.Founds.{IsAlone}
use Rattle.solo_view.specs.Steps.{Step}
use Rattle.solo_view.specs.Steps.Step.{Load, Store, Or, And, Flush, Drain, TakeWrite, TakeRead, Raise, Give, ZoneTry, ZoneGive, Occupied, Occupy, Vacate, Draw, NumberSeen, StopSeen, SetStop, Tell}
use Rattle.solo_view.specs.View.{Taken, View}
use Rattle.solo_view.specs.Views.{after, chunk_bit, has_bit, is_same_occ, occ_in, reserves, vacated_word, zone_at}
use Rattle.solo_world.proofs.Exchanged.{chunk_small}
use Rattle.solo_world.proofs.Reserved.{occ_same}
use Rattle.solo_world.proofs.Searched.{kept_one, still_alone}
use Rattle.solo_world.proofs.Vacated.{or_bit_right, vacated_before}
use Rattle.solo_world.specs.Heap.{IsOcc}
use Rattle.solo_world.specs.Searches.{HasSearched, Searches, is_search}
use Rattle.solo_fresh.specs.Filled.{HasWholePool, IsFilled}
use Rattle.solo_fresh.specs.Made.{CanMakeRun, IsRunMade, first_block, without_chunk}
use Rattle.solo_fresh.specs.Making.{behind_first, run_at}
use Rattle.solo_blocks.proofs.SetBits.{all_set, all_taken}
use Rattle.solo_blocks.specs.NewRuns.{MayMakeRun}
use Rattle.solo_alloc.specs.NewObjects.{ArePictured}

abbrev IsSet : View → Occ → ℕ → Type 0
IsSet v o bit = bit_at (occ_in v o) bit ≡ 1

abbrev WasOr : View → View → ℕ → ℕ → Type 0
WasOr v w place bit = (reserves v (Run place) bit ≡ true) ⊎ IsSet w (Run place) bit

set_now : (words : List ℕ) (at bits bit : ℕ) → at < length words → bit_at bits bit ≡ 1 → bit_at (slice_index (set words at (bit_or (slice_index words at) bits)) at) bit ≡ 1
set_now words at bits bit inside set_bit = let x : ℕ = bit_or (slice_index words at) bits in ap (λ n. bit_at n bit) (get_or-set_same words at x 0 inside) ∙ or_bit_right (slice_index words at) bits bit set_bit

-- what a search reserves of a run it sets
one_taken : (v : View) (s : Step) → IsTrue (is_search s) → (place bit : ℕ) → place / 4096 < length v.run_words → reserves (after v s) (Run place) bit ≡ true → WasOr v (after v s) place bit
one_taken v (Occupy at bits true) is place bit inside has =
    let t : Taken = record { at = at; bits = bits } in
    ⊎_elim
    (λ (before : reserves v (Run place) bit ≡ true). inl before)
    (λ (now : (has_bit (Run place) bit t || false) ≡ true). inr (⊎_elim
    (λ (it : has_bit (Run place) bit t ≡ true).
    let both = and_parts (is_same_occ (Run place) at) (eqb (bit_at bits bit) 1) it in
    subst (λ o. IsSet (after v (Occupy o bits true)) (Run place) bit) (occ_same (Run place) at both.0)
    (set_now v.run_words (place / 4096) bits bit inside (eqb-true (bit_at bits bit) 1 both.1)))
    (λ (none : false ≡ true). absurd (false≢true none))
    (or_cases (has_bit (Run place) bit t) false now)))
    (or_cases (reserves v (Run place) bit) (has_bit (Run place) bit t || false) (sym (list_any-append (has_bit (Run place) bit) v.reserved (t ∷ [])) ∙ has))
one_taken v (Occupy at bits false) is place bit inside has = inl has
one_taken v (Occupied at found) is place bit inside has = inl has
one_taken v (Load w x) is place bit inside has = inl has
one_taken v (ZoneTry other won) is place bit inside has = inl has
one_taken v (ZoneGive other) is place bit inside has = inl has
one_taken v (Store w x) is place bit inside has = absurd (false≢true is)
one_taken v (Or w bits found) is place bit inside has = absurd (false≢true is)
one_taken v (And w bits found) is place bit inside has = absurd (false≢true is)
one_taken v (Flush line) is place bit inside has = absurd (false≢true is)
one_taken v Drain is place bit inside has = absurd (false≢true is)
one_taken v (TakeWrite line won) is place bit inside has = absurd (false≢true is)
one_taken v (TakeRead line won) is place bit inside has = absurd (false≢true is)
one_taken v (Raise line won) is place bit inside has = absurd (false≢true is)
one_taken v (Give line) is place bit inside has = absurd (false≢true is)
one_taken v (Vacate at bits) is place bit inside has = absurd (false≢true is)
one_taken v (Draw n) is place bit inside has = absurd (false≢true is)
one_taken v (NumberSeen n) is place bit inside has = absurd (false≢true is)
one_taken v (StopSeen set) is place bit inside has = absurd (false≢true is)
one_taken v SetStop is place bit inside has = absurd (false≢true is)
one_taken v (Tell operation reply) is place bit inside has = absurd (false≢true is)

all_taken_run : (v w : View) (steps : List Step) → Searches v steps w → IsAlone v → (place bit : ℕ) → place / 4096 < length v.run_words → reserves w (Run place) bit ≡ true → WasOr v w place bit
unfolding Searches
all_taken_run v w [] searches alone place bit inside has = inl (ap (λ (z : View). reserves z (Run place) bit) (sym searches) ∙ has)
all_taken_run v w (s ∷ steps) searches alone place bit inside has =
    let kept = kept_one v s searches.0 searches.2 in
    let alone_still : IsAlone (after v s) = still_alone v (after v s) kept alone in
    ⊎_elim
    (λ (mid : reserves (after v s) (Run place) bit ≡ true). ⊎_elim
    (λ (before : reserves v (Run place) bit ≡ true). inl before)
    (λ (now : IsSet (after v s) (Run place) bit). inr (all_set (after v s) w steps searches.4 alone_still (Run place) bit now))
    (one_taken v s searches.0 place bit inside mid))
    (λ (end : IsSet w (Run place) bit). inr end)
    (all_taken_run (after v s) w steps searches.4 alone_still place bit (subst (λ n. place / 4096 < n) (sym kept.run_words) inside) has)

-- what is reserved is of the pool
occ_of : (P : Occ → Type 0) (at : Occ) (bit : ℕ) (blocks : List Taken) → All (λ (t : Taken). P t.at) blocks → list_any (has_bit at bit) blocks ≡ true → P at
occ_of P at bit [] all has = absurd (false≢true has)
occ_of P at bit (t ∷ blocks) all has = ⊎_elim
    (λ (here : has_bit at bit t ≡ true). subst P (sym (occ_same at t.at (and_parts (is_same_occ at t.at) (eqb (bit_at t.bits bit) 1) here).0)) (All-head (λ (q : Taken). P q.at) t blocks all))
    (λ (later : list_any (has_bit at bit) blocks ≡ true). occ_of P at bit blocks (All-tail (λ (q : Taken). P q.at) t blocks all) later)
    (or_cases (has_bit at bit t) (list_any (has_bit at bit) blocks) has)

pub of_pool_reserved : (v : View) → HasWholePool v → (at : Occ) (bit : ℕ) → reserves v at bit ≡ true → IsOcc v.lanes v.zones at
of_pool_reserved v pool at bit has = occ_of (IsOcc v.lanes v.zones) at bit v.reserved pool.of_pool has

module _ (v : View) (shape : Shape) (may : MayMakeRun v shape) (pictured : ArePictured v) (at : View → Type 0) (more : List Taken) (Q : View → Type 0) (searched : HasSearched at v more Q) where
  abbrev w : View
  w = searched.view

  lanes_same : w.lanes ≡ v.lanes
  lanes_same = ap (λ (z : View). z.lanes) searched.kept.same

  zones_same : w.zones ≡ v.zones
  zones_same = ap (λ (z : View). z.zones) searched.kept.same

  pub pictured_still : HasWholePool w → ArePictured w
  pictured_still pool = record { runs = (let some = pictured.runs in let many = searched.kept.run_words in let lanes = lanes_same in let zones = zones_same in omega (arith, some, many, lanes, zones)); taken = taken } where
    taken : (o : Occ) (bit : ℕ) → reserves w o bit ≡ true → IsSet w o bit
    taken (Run place) bit has =
        let of = of_pool_reserved w pool (Run place) bit has in
        let below = of.2 in let some = pictured.runs in let lanes = lanes_same in let zones = zones_same in
        ⊎_elim
        (λ (before : reserves v (Run place) bit ≡ true). all_set v w searched.steps searched.searches may.alone (Run place) bit (pictured.taken (Run place) bit before))
        (λ (set : IsSet w (Run place) bit). set)
        (all_taken_run v w searched.steps searched.searches may.alone place bit (omega (arith, below, some, lanes, zones)) has)
    taken (Zone zone) bit has =
        let of = of_pool_reserved w pool (Zone zone) bit has in
        let some = may.pictured in let zones = zones_same in
        ⊎_elim
        (λ (before : reserves v (Zone zone) bit ≡ true). all_set v w searched.steps searched.searches may.alone (Zone zone) bit (pictured.taken (Zone zone) bit before))
        (λ (set : IsSet w (Zone zone) bit). set)
        (all_taken v w searched.steps searched.searches may.alone zone bit (omega (arith, of, some, zones)) has)

-- ---- a run is made

module _ (w u : View) (page lines : ℕ) (pictured : ArePictured w) (pool : HasWholePool w) (can : CanMakeRun w page lines) (made : IsRunMade w page lines u) (first : bit_at (occ_in u (run_at page)) 0 ≡ 1) where
  had : (o : Occ) (bit : ℕ) → reserves u o bit ≡ true → (reserves w o bit ≡ true) ⊎ (has_bit o bit (first_block page) ≡ true)
  had o bit has =
      let has_it = has_bit o bit in
      let blocks = without_chunk w page in
      ⊎_elim
      (λ (other : list_any has_it blocks ≡ true). inl (vacated_before (zone_at w.lanes page) (2 ^ chunk_bit w.lanes page) (chunk_small w.lanes page) o bit w.reserved other))
      (λ (now : (has_it (first_block page) || false) ≡ true). ⊎_elim (λ (t : has_it (first_block page) ≡ true). inr t) (λ (none : false ≡ true). absurd (false≢true none)) (or_cases (has_it (first_block page)) false now))
      (or_cases (list_any has_it blocks) (has_it (first_block page) || false) (sym (ap (list_any has_it) made.reserved ∙ list_any-append has_it blocks (first_block page ∷ [])) ∙ has))

  zero_bit : (bit : ℕ) → bit_at 1 bit ≡ 1 → bit ≡ 0
  zero_bit bit set = ⊎_elim
      (λ (same : bit ≡ 0). same)
      (λ (other : bit ≢ 0). let clear = bit_at-pow_other 0 bit other in absurd (omega (arith, set, clear)))
      (cases_eq bit 0)

  set_before : (o : Occ) (bit : ℕ) → reserves w o bit ≡ true → IsSet u o bit
  set_before (Run place) bit has =
      let of = of_pool_reserved w pool (Run place) bit has in
      let whole = of.0 in
      let other : place / 4096 ≢ page = λ same.
      let place_is : place ≡ 4096 * page = omega (arith, whole, same) in
      false≢true (sym (can.no_block bit) ∙ (ap (λ p. reserves w (Run p) bit) (sym place_is) ∙ has)) in
      ap (λ (ws : List ℕ). bit_at (slice_index ws (place / 4096)) bit) made.occupied
      ∙ (ap (λ n. bit_at n bit) (get_or-set_other w.run_words page (place / 4096) (vacated_word (behind_first lines) (slice_index w.run_words page)) 0 other) ∙ pictured.taken (Run place) bit has)
  set_before (Zone zone) bit has = ap (λ (z : View). bit_at (slice_index z.zone_words zone) bit) made.same ∙ pictured.taken (Zone zone) bit has

  pub pictured_made : ArePictured u
  pictured_made = record {
    runs =
        let some = pictured.runs in
        let lanes = ap (λ (z : View). z.lanes) made.same in let zones = ap (λ (z : View). z.zones) made.same in
        let many = ap (length {A = ℕ}) made.occupied ∙ length-set w.run_words page (vacated_word (behind_first lines) (slice_index w.run_words page)) in
        omega (arith, some, many, lanes, zones);
    taken = λ o bit has. ⊎_elim
        (λ (before : reserves w o bit ≡ true). set_before o bit before)
        (λ (now : has_bit o bit (first_block page) ≡ true).
        let both = and_parts (is_same_occ o (run_at page)) (eqb (bit_at 1 bit) 1) now in
        subst (λ q. IsSet u q bit) (sym (occ_same o (run_at page) both.0)) (subst (λ n. bit_at (occ_in u (run_at page)) n ≡ 1) (sym (zero_bit bit (eqb-true (bit_at 1 bit) 1 both.1))) first))
        (had o bit has);
  }

-- ---- a block is filled

pub pictured_filled : (x : View) (line lines kind size : ℕ) (y : View) → IsFilled x line lines kind size y → ArePictured x → ArePictured y
pictured_filled x line lines kind size y f pictured = record {
  runs = (let some = pictured.runs in let many = ap (length {A = ℕ}) f.run_words in let lanes = f.call.lane.lanes in let zones = f.call.lane.zones in omega (arith, some, many, lanes, zones));
  taken = λ o bit has. same o bit (pictured.taken o bit (ap (λ (ts : List Taken). list_any (has_bit o bit) ts) (sym f.call.reserved) ∙ has));
} where
  same : (o : Occ) (bit : ℕ) → IsSet x o bit → IsSet y o bit
  same (Run place) bit is = ap (λ (ws : List ℕ). bit_at (slice_index ws (place / 4096)) bit) f.run_words ∙ is
  same (Zone zone) bit is = ap (λ (ws : List ℕ). bit_at (slice_index ws zone) bit) f.zone_words ∙ is
