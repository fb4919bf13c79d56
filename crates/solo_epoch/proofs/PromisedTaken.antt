-- As its call draws, a lane's picture of the occupancy words promises what will be taken.
use Rattle.std.proofs.Common.{◌≡◌, ◌⊎◌, inl, inr, ⊎_elim, ℕ, ◌/◌, ◌<◌, true, false, ◌||◌, List, [], ◌∷◌, slice_index, refl, sym, ap, ◌∙◌, arith}
use Rattle.std.specs.Int.{bit_at}
use Rattle.std.specs.List.{list_any}
use Rattle.std.proofs.lemmas.Bool.{cases_Bool, false_from_ne_true, false≢true, or_cases, or_left, or_right}
use Rattle.solo_view.specs.declared.occ.Occ.{Occ}
use Rattle.solo_view.specs.declared.occ.Occ.TheVariants.{Run, Zone}
use Rattle.solo_view.specs.Occupancy.{is_taken}
use Rattle.solo_view.specs.Steps.Step.{Draw}
use Rattle.solo_view.specs.View.{View}
use Rattle.solo_view.specs.Views.{after, chunk_bit, has_bit, occ_in, reserves, zone_at}
use Rattle.solo_world.specs.Heap.{IsOcc, has_run_chunk, has_taken}
use Rattle.solo_crash.specs.Publishing.{Published}
use Rattle.solo_crash.specs.Publishing.Published.{Changes, Performs}
use Rattle.solo_crash.specs.Taken.{AllocatesBit, FreesBit, TakenBehindAll}
use Rattle.solo_reclaim.specs.KnownTaken.{KnowsTaken}
use Rattle.solo_epoch.specs.Epochs.{HandsOver, PromisesTaken, SomeAllocates, SomeFrees}
use Rattle.solo_reclaim.proofs.GivingBack.{chunk_taken}

-- ---- what is taken behind all of these

module _ (lanes : ℕ) (at : Occ) (bit : ℕ) where
  -- it was, or one of these makes it so
  taken_why : (all : List Published) (before : Type 0) → TakenBehindAll lanes all at bit before → before ⊎ SomeAllocates lanes all at bit
  unfolding TakenBehindAll
  taken_why [] before then = inl then
  taken_why (Performs action ∷ all) before then = taken_why all before then
  taken_why (Changes change ∷ all) before then = ⊎_elim
      (λ (is : (before × ¬ FreesBit lanes change at bit) ⊎ AllocatesBit lanes change at bit). ⊎_elim (λ (was : before × ¬ FreesBit lanes change at bit). inl was.0) (λ (made : AllocatesBit lanes change at bit). inr (inl made)) is)
      (λ (some : SomeAllocates lanes all at bit). inr (inr some))
      (taken_why all ((before × ¬ FreesBit lanes change at bit) ⊎ AllocatesBit lanes change at bit) then)

  -- and where one makes it free and none makes it taken it is not
  freed_not : (all : List Published) (before : Type 0) → SomeFrees lanes all at bit → ¬ SomeAllocates lanes all at bit → TakenBehindAll lanes all at bit before → ⊥
  unfolding TakenBehindAll
  freed_not [] before frees none then = frees
  freed_not (Performs action ∷ all) before frees none then = freed_not all before frees none then
  freed_not (Changes change ∷ all) before frees none then = ⊎_elim
      (λ (here : FreesBit lanes change at bit). ⊎_elim
      (λ (is : (before × ¬ FreesBit lanes change at bit) ⊎ AllocatesBit lanes change at bit). ⊎_elim (λ (was : before × ¬ FreesBit lanes change at bit). was.1 here) (λ (made : AllocatesBit lanes change at bit). none (inl made)) is)
      (λ (some : SomeAllocates lanes all at bit). none (inr some))
      (taken_why all ((before × ¬ FreesBit lanes change at bit) ⊎ AllocatesBit lanes change at bit) then))
      (λ (later : SomeFrees lanes all at bit). freed_not all ((before × ¬ FreesBit lanes change at bit) ⊎ AllocatesBit lanes change at bit) later (λ some. none (inr some)) then)
      frees

  -- where none makes it free it stays
  still_taken : (all : List Published) (before : Type 0) → before → ¬ SomeFrees lanes all at bit → TakenBehindAll lanes all at bit before
  unfolding TakenBehindAll
  still_taken [] before is none = is
  still_taken (Performs action ∷ all) before is none = still_taken all before is none
  still_taken (Changes change ∷ all) before is none =
      still_taken all ((before × ¬ FreesBit lanes change at bit) ⊎ AllocatesBit lanes change at bit) (inl (is, λ frees. none (inl frees))) (λ some. none (inr some))

  -- and what is made taken
  made_taken : (all : List Published) (before : Type 0) → SomeAllocates lanes all at bit → ¬ SomeFrees lanes all at bit → TakenBehindAll lanes all at bit before
  unfolding TakenBehindAll
  made_taken [] before makes none = absurd makes
  made_taken (Performs action ∷ all) before makes none = made_taken all before makes none
  made_taken (Changes change ∷ all) before makes none = ⊎_elim
      (λ (here : AllocatesBit lanes change at bit). still_taken all ((before × ¬ FreesBit lanes change at bit) ⊎ AllocatesBit lanes change at bit) (inr here) (λ some. none (inr some)))
      (λ (later : SomeAllocates lanes all at bit). made_taken all ((before × ¬ FreesBit lanes change at bit) ⊎ AllocatesBit lanes change at bit) later (λ some. none (inr some)))
      makes

-- ---- the draw

module _ (v : View) (n : ℕ) (all : List Published) (knows : KnowsTaken v) (none_freed : v.freed ≡ []) (hands : HandsOver v (after v (Draw n)) all) where
  abbrev w : View
  w = after v (Draw n)

  abbrev IsTaken : Occ → ℕ → Type 0
  IsTaken at bit = is_taken (slice_index v.words) v.lanes at bit ≡ true

  abbrev IsPromised : Occ → ℕ → Type 0
  IsPromised at bit = TakenBehindAll v.lanes all at bit (IsTaken at bit) ⊎ (has_taken w at bit ≡ true)

  -- nothing is freed that is reserved
  makes_none_free : (at : Occ) (bit : ℕ) → IsOcc v.lanes v.zones at → bit < 64 → SomeAllocates v.lanes all at bit → SomeFrees v.lanes all at bit → ⊥
  makes_none_free at bit of low makes frees = false≢true (sym (knows.apart at bit of low (inl (hands.own at bit of low makes))) ∙ hands.taken at bit of low frees)

  by_freed : (at : Occ) (bit : ℕ) → IsOcc v.lanes v.zones at → bit < 64 → IsTaken at bit → IsPromised at bit
  by_freed at bit of low taken = ⊎_elim
      (λ (freed : list_any (has_bit at bit) w.freed ≡ true). inr (or_right (reserves w at bit || has_run_chunk w at) (list_any (has_bit at bit) w.freed) freed))
      (λ (kept : list_any (has_bit at bit) w.freed ≡ false). inl (still_taken v.lanes at bit all (IsTaken at bit) taken (λ frees. false≢true (sym kept ∙ (hands.freed at bit of low).1 frees))))
      (cases_Bool (list_any (has_bit at bit) w.freed))

  forth : (at : Occ) (bit : ℕ) → IsOcc v.lanes v.zones at → bit < 64 → (IsTaken at bit ⊎ (has_taken v at bit ≡ true)) → IsPromised at bit
  forth at bit of low (inl taken) = by_freed at bit of low taken
  forth at bit of low (inr has) = by_kind (or_cases (reserves v at bit || has_run_chunk v at) (list_any (has_bit at bit) v.freed) has) where
    by_kind : ((reserves v at bit || has_run_chunk v at) ≡ true) ⊎ (list_any (has_bit at bit) v.freed ≡ true) → IsPromised at bit
    by_kind (inl some) = ⊎_elim
        (λ (reserved : reserves v at bit ≡ true). ⊎_elim
        (λ (left : reserves w at bit ≡ true). inr (or_left (reserves w at bit || has_run_chunk w at) (list_any (has_bit at bit) w.freed) (or_left (reserves w at bit) (has_run_chunk w at) left)))
        (λ (makes : SomeAllocates v.lanes all at bit). inl (made_taken v.lanes at bit all (IsTaken at bit) makes (makes_none_free at bit of low makes)))
        (hands.left at bit of low reserved))
        (λ (chunk : has_run_chunk v at ≡ true). by_freed at bit of low (chunk_taken v knows at bit of chunk))
        (or_cases (reserves v at bit) (has_run_chunk v at) some)
    by_kind (inr freed) = absurd (false≢true (sym (ap (list_any (has_bit at bit)) none_freed) ∙ freed))

  chunk_before : (at : Occ) → IsOcc v.lanes v.zones at → has_run_chunk w at ≡ true → has_run_chunk v at ≡ true
  chunk_before (Run place) of has = (hands.reserved (zone_at v.lanes (place / 4096)) (chunk_bit v.lanes (place / 4096)) (let chunk = of.1 in let low = of.2 in omega (arith, chunk, low)) (let chunk = of.1 in omega (arith, chunk)) has).0
  chunk_before (Zone zone) of has = absurd (false≢true has)

  back : (at : Occ) (bit : ℕ) → IsOcc v.lanes v.zones at → bit < 64 → IsPromised at bit → IsTaken at bit ⊎ (has_taken v at bit ≡ true)
  back at bit of low (inl then) = ⊎_elim (λ (was : IsTaken at bit). inl was)
      (λ (makes : SomeAllocates v.lanes all at bit). inr (or_left (reserves v at bit || has_run_chunk v at) (list_any (has_bit at bit) v.freed) (or_left (reserves v at bit) (has_run_chunk v at) (hands.own at bit of low makes))))
      (taken_why v.lanes at bit all (IsTaken at bit) then)
  back at bit of low (inr has) = by_kind (or_cases (reserves w at bit || has_run_chunk w at) (list_any (has_bit at bit) w.freed) has) where
    by_kind : ((reserves w at bit || has_run_chunk w at) ≡ true) ⊎ (list_any (has_bit at bit) w.freed ≡ true) → IsTaken at bit ⊎ (has_taken v at bit ≡ true)
    by_kind (inl some) = ⊎_elim
        (λ (reserved : reserves w at bit ≡ true). inr (or_left (reserves v at bit || has_run_chunk v at) (list_any (has_bit at bit) v.freed) (or_left (reserves v at bit) (has_run_chunk v at) (hands.reserved at bit of low reserved).0)))
        (λ (chunk : has_run_chunk w at ≡ true). inl (chunk_taken v knows at bit of (chunk_before at of chunk)))
        (or_cases (reserves w at bit) (has_run_chunk w at) some)
    by_kind (inr freed) = inl (hands.taken at bit of low ((hands.freed at bit of low).0 freed))

  same_picture : (at : Occ) → occ_in w at ≡ occ_in v at
  same_picture (Run place) = refl
  same_picture (Zone zone) = refl

  pub promises : PromisesTaken w all
  promises = record {
    pages = knows.pages;
    zone_count = knows.zone_count;
    bits = λ at bit of low. (
      λ one. forth at bit of low ((knows.bits at bit of low).0 (ap (λ x. bit_at x bit) (sym (same_picture at)) ∙ one)),
      λ is. ap (λ x. bit_at x bit) (same_picture at) ∙ (knows.bits at bit of low).1 (back at bit of low is),
    );
    apart = λ at bit of low kept then. ⊎_elim
        (λ (reserved : reserves w at bit ≡ true). let before = hands.reserved at bit of low reserved in ⊎_elim
        (λ (was : IsTaken at bit). false≢true (sym (knows.apart at bit of low (inl before.0)) ∙ was)) (λ (makes : SomeAllocates v.lanes all at bit). before.1 makes)
        (taken_why v.lanes at bit all (IsTaken at bit) then))
        (λ (freed : list_any (has_bit at bit) w.freed ≡ true). let frees = (hands.freed at bit of low).0 freed in
        freed_not v.lanes at bit all (IsTaken at bit) frees (λ makes. makes_none_free at bit of low makes frees) then)
        kept;
    once = λ at bit of low reserved. false_from_ne_true (list_any (has_bit at bit) w.freed) (λ freed.
        false≢true (sym (knows.apart at bit of low (inl (hands.reserved at bit of low reserved).0)) ∙ hands.taken at bit of low ((hands.freed at bit of low).0 freed)));
  }
