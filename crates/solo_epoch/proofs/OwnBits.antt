-- Changes of the heap that have no bit of an occupancy word in common are of blocks that lie apart, so that they may be published in any order.
use Rattle.std.proofs.Common.{◌≡◌, inl, inr, ℕ, zero, suc, ◌+◌, ◌*◌, ◌/◌, ◌%◌, ◌<◌, ◌≤◌, All, List, [], ◌∷◌, ◌++◌, map, None, refl, sym, subst, arith}
use Rattle.std.proofs.lemmas.List.Elements.{All-map}
use Rattle.pm_image.specs.Blocks.{chunk_word}
use Rattle.pm_image.specs.HeapFaults.{heap_fault}
use Rattle.solo_model.specs.Actions.{Action}
use Rattle.solo_view.specs.declared.occ.Occ.TheVariants.{Run, Zone}
use Rattle.solo_crash.specs.HeapChanges.{AreDisjoint, HeapChange, block_changed, MayChange}
use Rattle.solo_crash.specs.HeapChanges.HeapChange.{AllocatesChunks, AllocatesInRun, FreesChunks, FreesInRun}
use Rattle.solo_crash.specs.Lying.{InChunks, InRun}
use Rattle.solo_crash.specs.NewObjects.{block_of_chunks, block_of_run}
use Rattle.solo_crash.specs.Publishing.{AreInOrder, MayFollow}
use Rattle.solo_crash.specs.Publishing.Published.{Changes, Performs}
use Rattle.solo_crash.proofs.BlocksApart.{chunks_apart, free_in, run_chunks, runs_apart, whole_in}
use Rattle.solo_epoch.specs.Epochs.{AreOfOwnBits, ChangesBit, HasNoBitOf}

module _ (w : ℕ → ℕ) (lanes zones : ℕ) where
  -- ---- where the words have no fault

  module _ (none : heap_fault w lanes zones ≡ None) where
    -- what a change is of
    data Place (a : HeapChange) : Type 0 where
      AtRun : (c lines index : ℕ) → InRun w lanes c lines index → block_changed lanes a ≡ block_of_run lanes c lines index → ChangesBit lanes a (Run (8 * chunk_word lanes c)) index → Place a
      AtChunks : (c chunks : ℕ) → InChunks w lanes c chunks → block_changed lanes a ≡ block_of_chunks lanes c chunks → ((bit : ℕ) → c % 64 ≤ bit → bit < c % 64 + chunks → ChangesBit lanes a (Zone (c / 64)) bit) → Place a

    place_of : (a : HeapChange) → MayChange w lanes zones a → Place a
    place_of (AllocatesInRun c lines index kind bytes) can = AtRun c lines index (record { inside = can.inside; described = can.is_run }) refl (inl (refl, refl))
    place_of (AllocatesChunks c chunks kind bytes) can = AtChunks c chunks (free_in w lanes zones c chunks can.0 can.1) refl (λ bit from to. inl (refl, (from, to)))
    place_of (FreesInRun c lines index) can = AtRun c lines index (record { inside = can.inside; described = can.is_run }) refl (inr (refl, refl))
    place_of (FreesChunks c chunks) can = AtChunks c chunks (whole_in w lanes zones none c chunks can.in_zones can.is_first) refl (λ bit from to. inr (refl, (from, to)))

    turned : (a b : HeapChange) → AreDisjoint (block_changed lanes a) (block_changed lanes b) → AreDisjoint (block_changed lanes b) (block_changed lanes a)
    turned a b (inl before) = inr before
    turned a b (inr behind) = inl behind

    places_apart : (a b : HeapChange) → HasNoBitOf lanes a b → Place a → Place b → AreDisjoint (block_changed lanes a) (block_changed lanes b)
    places_apart a b own (AtRun c lines index one is bit) (AtRun d many i other too bit_too) =
        subst (λ x. AreDisjoint x (block_changed lanes b)) (sym is) (subst (AreDisjoint (block_of_run lanes c lines index)) (sym too)
        (runs_apart w lanes zones c lines index d many i one other (λ same equal. own (Run (8 * chunk_word lanes d)) i (subst (λ n. ChangesBit lanes a (Run (8 * chunk_word lanes n)) i) same (subst (ChangesBit lanes a (Run (8 * chunk_word lanes c))) equal bit)) bit_too)))
    places_apart a b own (AtRun c lines index one is bit) (AtChunks d chunks other too bits) =
        subst (λ x. AreDisjoint x (block_changed lanes b)) (sym is) (subst (AreDisjoint (block_of_run lanes c lines index)) (sym too) (run_chunks w lanes zones c lines index d chunks one other))
    places_apart a b own (AtChunks c chunks one is bits) (AtRun d many i other too bit) =
        turned b a (subst (λ x. AreDisjoint x (block_changed lanes a)) (sym too) (subst (AreDisjoint (block_of_run lanes d many i)) (sym is) (run_chunks w lanes zones d many i c chunks other one)))
    places_apart a b own (AtChunks c chunks one is bits) (AtChunks d count other too bits_too) =
        subst (λ x. AreDisjoint x (block_changed lanes b)) (sym is) (subst (AreDisjoint (block_of_chunks lanes c chunks)) (sym too)
        (chunks_apart w lanes zones c chunks d count one other (λ bit same from to from_too to_too. own (Zone (d / 64)) bit (subst (λ n. ChangesBit lanes a (Zone n) bit) same (bits bit from to)) (bits_too bit from_too to_too))))

    -- ---- lists

    all_follow : (a : HeapChange) (others : List HeapChange) → MayChange w lanes zones a → All (MayChange w lanes zones) others → All (HasNoBitOf lanes a) others → All (λ b. MayFollow lanes (Changes a) (Changes b)) others
    all_follow a [] can all own n d low = absurd (omega (arith, low))
    all_follow a (b ∷ others) can all own zero d low = places_apart a b (own 0 d low) (place_of a can) (place_of b (all 0 d low))
    all_follow a (b ∷ others) can all own (suc n) d low = all_follow a others can (λ k e near. all (suc k) e (omega (arith, near))) (λ k e near. own (suc k) e (omega (arith, near))) n d (omega (arith, low))

    changes_in_order : (changes : List HeapChange) → All (MayChange w lanes zones) changes → AreOfOwnBits lanes changes → AreInOrder lanes (map Changes changes)
    changes_in_order [] can own = tt
    changes_in_order (a ∷ changes) can own = (
      All-map (MayFollow lanes (Changes a)) Changes changes (all_follow a changes (can 0 a (omega arith)) (λ k e near. can (suc k) e (omega (arith, near))) own.0),
      changes_in_order changes (λ k e near. can (suc k) e (omega (arith, near))) own.1,
    )

    -- actions come first
    pub in_order : (actions : List Action) (changes : List HeapChange) → All (MayChange w lanes zones) changes → AreOfOwnBits lanes changes → AreInOrder lanes (map Performs actions ++ map Changes changes)
    in_order [] changes can own = changes_in_order changes can own
    in_order (x ∷ actions) changes can own = ((λ k e near. tt), in_order actions changes can own)
