-- The chunks of a pool are looked at in turn.
use Rattle.std.proofs.Common.{◌≡◌, ◌≢◌, inl, inr, ⊎_elim, ℕ, ◌+◌, ◌*◌, ◌^◌, ◌<◌, ◌≤◌, below_more, append-nil, bit_and, true, Contains, [], ◌∷◌, ◌++◌, Some, None, slice_index, refl, sym, ap, ◌∙◌, subst, arith}
use Rattle.std.specs.Int.{bit_at}
use Rattle.std.proofs.lemmas.Nat.{pow_below}
use Rattle.std.proofs.lemmas.List.Elements.{Contains-append_left}
use Rattle.pm_layout.specs.declared.shape.Shape.{Shape}
use Rattle.pm_layout.specs.Sizes.{blocks_of}
use Rattle.pm_image.specs.declared.block.Block.{Block}
use Rattle.solo_view.specs.Founds.{IsAlone}
use Rattle.solo_view.specs.Steps.{Step}
use Rattle.solo_view.specs.Steps.Step.{Load, Occupy}
use Rattle.solo_view.specs.View.{View}
use Rattle.solo_view.specs.Views.{after, occ_in}
use Rattle.solo_world.proofs.Searched.{kept_one, kept_then, searches_one, searches_then, still_alone}
use Rattle.solo_world.specs.Lawful.{MayOccupy}
use Rattle.solo_world.specs.Searches.{HasSearched}
use Rattle.solo_runs.specs.Looking.{HasGotIn, HasGotOf, HasLooked, HasNoFree, HasNoneOf, IsRunOf, LookedOn, SawNone}
use Rattle.solo_runs.specs.Runs.{HasFoundNone, HasGot, IsFree, IsLeast, MaySearch, descriptor_at, page_of, run_block, run_descriptor, run_of, taken_block}
use Rattle.solo_runs.proofs.Searched.{looked_none, looked_then}
use Rattle.solo_runs.proofs.SearchedRuns.{has_occ, may_still, occ_still, saw_still, seen_run, taken_before}
use Rattle.solo_runs.proofs.Rows.{index_low}
use Rattle.solo_runs.proofs.TriedBlocks.{clear_bit}

saw_none_still : (v w : View) → LookedOn v w → (lanes class chunk : ℕ) → SawNone lanes class chunk v → SawNone lanes class chunk w
saw_none_still v w looked lanes class chunk = ⊎_elim
    (λ (other : (found : ℕ) × (Contains v.seen (Load (descriptor_at lanes chunk) found) × (found ≢ run_descriptor class))). inl (other.0, (looked.kept.remembers _ other.1.0, other.1.1)))
    (λ taken. inr (λ k low. saw_still v w looked (run_of lanes chunk) k (taken k low)))

-- where the lane is alone, what it finds in the pool is as before
run_before : (v w : View) → LookedOn v w → IsAlone v → (lanes class chunk : ℕ) → IsRunOf w lanes class chunk → IsRunOf v lanes class chunk
run_before v w looked is lanes class chunk run = ap (λ words. slice_index words (descriptor_at lanes chunk)) (sym (looked.alone is).0) ∙ run

no_free_before : (v w : View) → LookedOn v w → (lanes class chunk : ℕ) → HasNoFree w lanes class chunk → HasNoFree v lanes class chunk
no_free_before v w looked lanes class chunk none is run k low =
    ap (λ x. bit_at x k) (sym (occ_still v w looked is (4096 * page_of lanes chunk)))
    ∙ none (still_alone v w looked.kept is) (ap (λ words. slice_index words (descriptor_at lanes chunk)) (looked.alone is).0 ∙ run) k low

-- of the first so many chunks none has a block
pub record InPool (at : View → Type 0) (v : View) (lanes class i : ℕ) : Type 0 where
  pub looks : HasLooked at v (λ w. (chunk : ℕ) → chunk < i → SawNone lanes class chunk w)
  pub none : (chunk : ℕ) → chunk < i → HasNoFree v lanes class chunk

pub in_pool_first : (at : View → Type 0) (v : View) (lanes class : ℕ) → at v → InPool at v lanes class 0
in_pool_first at v lanes class there = record {
  looks = record { view = v; looked = looked_none v; there = there; holds = λ chunk low. absurd (omega (arith, low)) };
  none = λ chunk low. absurd (omega (arith, low));
}

-- the search of one that is free is at an end
module _ (v : View) (shape : Shape) (may : MaySearch v shape) (class : ℕ) (at : View → Type 0) (i : ℕ) (so : InPool at v shape.lanes class i) where
  abbrev w : View
  w = so.looks.view

  pub in_pool_more : (new : View → Type 0) → HasNoneOf new w shape.lanes class i → InPool new v shape.lanes class (i + 1)
  in_pool_more new none =
      let u : View = none.looks.view in
      record {
        looks = record {
          view = u;
          looked = looked_then v w u so.looks.looked none.looks.looked;
          there = none.looks.there;
          holds = below_more (λ k. SawNone shape.lanes class k u) i (λ k low. saw_none_still w u none.looks.looked shape.lanes class k (so.looks.holds k low)) none.looks.holds;
        };
        none = below_more (λ k. HasNoFree v shape.lanes class k) i so.none (no_free_before v w so.looks.looked shape.lanes class i none.none);
      }

  pub found_none : 64 * shape.zones ≤ i → HasFoundNone at v class
  found_none all = record {
    view = w;
    steps = so.looks.looked.steps;
    searches = so.looks.looked.searches;
    kept = so.looks.looked.kept;
    there = so.looks.there;
    reserved = ap (λ (z : View). z.reserved) so.looks.looked.same ∙ sym (append-nil v.reserved);
    zones = ap (λ (z : View). z.zone_locks) so.looks.looked.same;
    holds = λ chunk low. subst (λ lanes. SawNone lanes class chunk w) (sym may.of_shape.lanes) (so.looks.holds chunk (let zones = may.of_shape.zones in omega (arith, zones, low, all)));
  }

  -- none is free among the first so many chunks
  not_free : IsAlone v → (chunk index : ℕ) → chunk < i → IsFree v class chunk index → ⊥
  not_free is chunk index low free =
      let lanes = may.of_shape.lanes in
      free.clear (ap (λ n. bit_at (occ_in v (run_of n chunk)) index) lanes
      ∙ so.none chunk low is (ap (λ n. slice_index v.words (descriptor_at n chunk)) (sym lanes) ∙ free.is_run) index free.in_run)

  pub least_none : 64 * shape.zones ≤ i → IsAlone v → IsLeast v class None
  least_none all is chunk index free = not_free is chunk index (let zones = may.of_shape.zones in let low = free.in_zones in omega (arith, zones, all, low)) free

  module _ (inside : i < 64 * shape.zones) (new : View → Type 0) (block : Block) (of : HasGotOf new w shape.lanes class i block) where
    abbrev got : HasGotIn new of.view shape.lanes class i block
    got = of.got

    to_chunk : LookedOn v of.view
    to_chunk = looked_then v w of.view so.looks.looked of.looked

    looked : LookedOn v got.from
    looked = looked_then v of.view got.from to_chunk got.looked

    abbrev taking : Step
    taking = Occupy (run_of shape.lanes i) (2 ^ got.index) true

    may_take : MayOccupy got.from (run_of shape.lanes i) (2 ^ got.index)
    may_take =
        let still = may_still v got.from shape looked may in
        record {
          there = has_occ got.from shape still i inside;
          small = pow_below got.index 64 (index_low class got.index got.in_run);
          one = (got.index, refl);
          locked = tt;
          run = seen_run got.from shape still i inside class got.run;
          early = still.early;
        }

    abbrev Saw : ℕ → View → Type 0
    Saw lanes z = Contains z.seen (Load (descriptor_at lanes i) (run_descriptor class))

    searched : HasSearched new v (taken_block shape.lanes i got.index ∷ []) (Saw shape.lanes)
    searched = record {
      view = after got.from taking;
      steps = looked.steps ++ taking ∷ [];
      searches = searches_then v got.from (after got.from taking) looked.steps (taking ∷ []) looked.searches (searches_one got.from taking refl may_take tt got.won.found);
      kept = kept_then v got.from (after got.from taking) looked.kept (kept_one got.from taking refl tt);
      there = got.won.there;
      reserved = ap (λ (z : View). z.reserved ++ taken_block shape.lanes i got.index ∷ []) looked.same;
      zones = ap (λ (z : View). z.zone_locks) looked.same;
      holds = Contains-append_left got.from.seen (taking ∷ []) _ (got.looked.kept.remembers _ of.saw);
    }

    same_class : block.lines ≡ class
    same_class = ap (λ (b : Block). b.lines) got.is_block

    pub has_got : HasGot new v block × (block.lines ≡ class)
    has_got = (
      record {
        chunk = i;
        index = got.index;
        in_zones = (let zones = may.of_shape.zones in omega (arith, zones, inside));
        in_run = subst (λ n. got.index < blocks_of n) (sym same_class) got.in_run;
        is_block = got.is_block ∙ ap (λ n. run_block n i class got.index) (sym may.of_shape.lanes) ∙ ap (λ n. run_block v.lanes i n got.index) (sym same_class);
        searched = subst (λ n. HasSearched new v (taken_block v.lanes i got.index ∷ []) (λ z. Contains z.seen (Load (descriptor_at v.lanes i) (run_descriptor n)))) (sym same_class)
            (subst (λ n. HasSearched new v (taken_block n i got.index ∷ []) (Saw n)) (sym may.of_shape.lanes) searched);
      },
      same_class,
    )

    -- where the lane is alone, the bit was clear, and those before it were set
    clear : IsAlone v → bit_at (occ_in v (run_of shape.lanes i)) got.index ≢ 1
    clear is set =
        let x : ℕ = occ_in got.from (run_of shape.lanes i) in
        let same : x ≡ occ_in v (run_of shape.lanes i) = occ_still v got.from looked is (4096 * page_of shape.lanes i) in
        let none : bit_and x (2 ^ got.index) ≡ 0 = (got.won.found (still_alone v got.from looked.kept is)).0 refl in
        clear_bit x got.index none (ap (λ y. bit_at y got.index) same ∙ set)

    lower : IsAlone v → (k : ℕ) → k < got.index → bit_at (occ_in v (run_of shape.lanes i)) k ≡ 1
    lower = taken_before v of.view to_chunk shape.lanes i got.index got.lower

    pub least_got : IsAlone v → IsLeast v class (Some block)
    least_got is =
        let lanes = may.of_shape.lanes in
        record {
          chunk = i;
          index = got.index;
          is_block = got.is_block ∙ ap (λ n. run_block n i class got.index) (sym lanes);
          free = record {
            in_zones = (let zones = may.of_shape.zones in omega (arith, zones, inside));
            is_run = ap (λ n. slice_index v.words (descriptor_at n i)) lanes ∙ run_before v w so.looks.looked is shape.lanes class i (of.is_run (still_alone v w so.looks.looked.kept is));
            in_run = got.in_run;
            clear = λ set. clear is (ap (λ n. bit_at (occ_in v (run_of n i)) got.index) (sym lanes) ∙ set);
          };
          least = λ other place.
              ⊎_elim (λ (low : other < i) (free : IsFree v class other place). not_free is other place low free)
              (λ (here : (other ≡ i) × (place < got.index)) (free : IsFree v class other place).
              free.clear (ap (λ n. bit_at (occ_in v (run_of n other)) place) lanes ∙ ap (λ n. bit_at (occ_in v (run_of shape.lanes n)) place) here.0 ∙ lower is place here.1));
        }
