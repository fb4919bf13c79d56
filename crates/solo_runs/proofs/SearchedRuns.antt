-- The blocks of a run are tried in turn, and a chunk is looked at.
use Rattle.std.proofs.Common.{◌≡◌, ◌≢◌, inl, inr, ⊎_elim, ℕ, ◌+◌, ◌*◌, ◌/◌, ◌%◌, ◌<◌, below_more, Contains, IfSome, Option, Some, None, length, slice_index, refl, sym, ap, ◌∙◌, subst, arith, eq-eqb, get_or-set_same}
use Rattle.std.specs.Int.{bit_at}
use Rattle.pm_layout.specs.declared.shape.Shape.{Shape}
use Rattle.pm_layout.specs.Sizes.{blocks_of}
use Rattle.pm_image.specs.declared.block.Block.{Block}
use Rattle.solo_view.specs.declared.occ.Occ.{Occ}
use Rattle.solo_view.specs.declared.occ.Occ.TheVariants.{Run}
use Rattle.solo_view.specs.Blocks.{descriptor_word, is_run}
use Rattle.solo_view.specs.Founds.{Found, FoundAlone, IsAlone}
use Rattle.solo_view.specs.Steps.Step.{Load, Occupied}
use Rattle.solo_view.specs.View.{View}
use Rattle.solo_view.specs.Views.{after, occ_in}
use Rattle.solo_world.proofs.Searched.{alone_before, early_still, saw_one, shape_still, still_alone}
use Rattle.solo_world.specs.Lawful.{HasOcc, IsSeenRun}
use Rattle.solo_world.specs.Searches.{SawTaken}
use Rattle.solo_runs.specs.Looking.{AreTaken, CanTry, HasGotIn, HasGotOf, HasLooked, HasLost, HasNoneBelow, HasNoneOf, HasWon, IsRunOf, LookedOn}
use Rattle.solo_runs.specs.Runs.{MaySearch, descriptor_at, page_of, run_block, run_descriptor, run_of}
use Rattle.solo_runs.proofs.Searched.{looked_load, looked_occupied, looked_then}

-- what follows for each value that may be there
pub if_some_weaker : {T : Type 0} (P Q : T → Type 0) → ((x : T) → P x → Q x) → (o : Option T) → IfSome o P → IfSome o Q
if_some_weaker P Q weaker (Some x) is = weaker x is
if_some_weaker P Q weaker None is = tt

pub may_still : (v w : View) (shape : Shape) → LookedOn v w → MaySearch v shape → MaySearch w shape
may_still v w shape looked may = record {
  of_shape = shape_still v w looked.kept shape may.of_shape;
  early = early_still v w looked.kept may.early;
}

pub saw_still : (v w : View) → LookedOn v w → (at : Occ) (bit : ℕ) → SawTaken v at bit → SawTaken w at bit
saw_still v w looked at bit = ⊎_elim (λ (found : (x : ℕ) × (Contains v.seen (Occupied at x) × (bit_at x bit ≡ 1))). inl (found.0, (looked.kept.remembers _ found.1.0, found.1.1)))
    (λ tried. inr (tried.0, (looked.kept.remembers _ tried.1.0, tried.1.1)))

-- where the lane is alone, the run's occupancy word is as before
pub occ_still : (v w : View) → LookedOn v w → IsAlone v → (place : ℕ) → occ_in w (Run place) ≡ occ_in v (Run place)
occ_still v w looked is place = ap (λ words. slice_index words (place / 4096)) (looked.alone is).1

pub taken_before : (v w : View) → LookedOn v w → (lanes chunk n : ℕ) → AreTaken w lanes chunk n → AreTaken v lanes chunk n
taken_before v w looked lanes chunk n taken is k low = ap (λ x. bit_at x k) (sym (occ_still v w looked is (4096 * page_of lanes chunk))) ∙ taken (still_alone v w looked.kept is) k low

-- ---- what the lane may ask for

module _ (v : View) (shape : Shape) (may : MaySearch v shape) (chunk : ℕ) (inside : chunk < 64 * shape.zones) where
  pub has_occ : HasOcc v (run_of shape.lanes chunk)
  has_occ =
      let lanes = may.of_shape.lanes in
      let zones = may.of_shape.zones in
      let size = may.of_shape.size in
      record {
        of_pool = (omega arith, (omega (arith, lanes), omega (arith, lanes)), omega (arith, lanes, zones, inside));
        inside = omega (arith, size, inside);
      }

  -- a run of a class is seen to be a run
  pub seen_run : (class : ℕ) → IsRunOf v shape.lanes class chunk → IsSeenRun v (run_of shape.lanes chunk)
  seen_run class run =
      let lanes = may.of_shape.lanes in
      let page : ℕ = page_of shape.lanes chunk in
      ap (λ n. is_run (slice_index v.words (descriptor_word n (4096 * page / 4096)))) lanes
      ∙ (ap (λ n. is_run (slice_index v.words (descriptor_word shape.lanes n))) (let e : 4096 * page / 4096 ≡ page = omega arith in e)
      ∙ (ap is_run run ∙ eq-eqb (run_descriptor class % 256) 1 (omega arith)))

  pub may_load : descriptor_at shape.lanes chunk < length v.words
  may_load = let size = may.of_shape.size in omega (arith, size, inside)

-- ---- the blocks of a run

-- the run's word was read, and the first so many blocks were seen taken; no word of the pool was looked at
pub record InRun (at : View → Type 0) (v : View) (lanes chunk found i : ℕ) : Type 0 where
  pub looks : HasLooked at v (λ w. (w.words ≡ v.words) × Contains w.seen (Occupied (run_of lanes chunk) found) × ((k : ℕ) → k < i → SawTaken w (run_of lanes chunk) k))
  pub found_so : IsAlone v → found ≡ occ_in v (run_of lanes chunk)
  pub taken : AreTaken v lanes chunk i

module _ (v : View) (shape : Shape) (may : MaySearch v shape) (chunk : ℕ) (inside : chunk < 64 * shape.zones) where
  pub in_run_first : (found : ℕ) → FoundAlone v (Occupied (run_of shape.lanes chunk) found) → (new : View → Type 0) → new (after v (Occupied (run_of shape.lanes chunk) found)) → InRun new v shape.lanes chunk found 0
  in_run_first found alone new there = record {
    looks = record {
      view = after v (Occupied (run_of shape.lanes chunk) found);
      looked = looked_occupied v (4096 * page_of shape.lanes chunk) found (has_occ v shape may chunk inside) alone;
      there = there;
      holds = (refl, saw_one (Occupied (run_of shape.lanes chunk) found) v.seen, λ k low. absurd (omega (arith, low)));
    };
    found_so = alone;
    taken = λ is k low. absurd (omega (arith, low));
  }

  module _ (at : View → Type 0) (found i : ℕ) (so : InRun at v shape.lanes chunk found i) where
    abbrev w : View
    w = so.looks.view

    run_still : (class : ℕ) → IsRunOf v shape.lanes class chunk → IsRunOf w shape.lanes class chunk
    run_still class run = ap (λ words. slice_index words (descriptor_at shape.lanes chunk)) so.looks.holds.0 ∙ run

    pub can_try : (class : ℕ) → IsRunOf v shape.lanes class chunk → CanTry w (4096 * page_of shape.lanes chunk) found
    can_try class run =
        let still = may_still v w shape so.looks.looked may in
        record {
          there = has_occ w shape still chunk inside;
          run = seen_run w shape still chunk inside class (run_still class run);
          early = still.early;
          saw = so.looks.holds.1;
          alone = λ is. let before = alone_before v w so.looks.looked.kept is in so.found_so before ∙ sym (occ_still v w so.looks.looked before (4096 * page_of shape.lanes chunk));
        }

    pub in_run_more : (new : View → Type 0) → HasLost new w (4096 * page_of shape.lanes chunk) i → InRun new v shape.lanes chunk found (i + 1)
    in_run_more new lost =
        let u : View = lost.looks.view in
        record {
          looks = record {
            view = u;
            looked = looked_then v w u so.looks.looked lost.looks.looked;
            there = lost.looks.there;
            holds = (
              lost.looks.holds.0 ∙ so.looks.holds.0,
              lost.looks.looked.kept.remembers _ so.looks.holds.1,
              below_more (λ k. SawTaken u (run_of shape.lanes chunk) k) i (λ k low. saw_still w u lost.looks.looked (run_of shape.lanes chunk) k (so.looks.holds.2 k low)) lost.looks.holds.1,
            );
          };
          found_so = so.found_so;
          taken = λ is.
              below_more (λ k. bit_at (occ_in v (run_of shape.lanes chunk)) k ≡ 1) i (so.taken is)
              (ap (λ x. bit_at x i) (sym (occ_still v w so.looks.looked is (4096 * page_of shape.lanes chunk))) ∙ lost.taken (still_alone v w so.looks.looked.kept is));
        }

    pub got_in_run : (class : ℕ) → IsRunOf v shape.lanes class chunk → i < blocks_of class → (new : View → Type 0) → HasWon new w (4096 * page_of shape.lanes chunk) i → (block : Block) → block ≡ run_block shape.lanes chunk class i → HasGotIn new v shape.lanes class chunk block
    got_in_run class run low new won block is = record { index = i; in_run = low; is_block = is; from = w; looked = so.looks.looked; run = run_still class run; won = won; lower = so.taken }

    pub none_in_run : (n : ℕ) → n ≡ i → HasNoneBelow at v shape.lanes chunk n
    none_in_run n is = subst (λ m. HasNoneBelow at v shape.lanes chunk m) (sym is) (record {
      looks = record { view = w; looked = so.looks.looked; there = so.looks.there; holds = so.looks.holds.2 };
      taken = so.taken;
    })

-- ---- a chunk

module _ (v : View) (shape : Shape) (may : MaySearch v shape) (chunk : ℕ) (inside : chunk < 64 * shape.zones) (class found : ℕ) (known : Found v (Load (descriptor_at shape.lanes chunk) found)) (alone : FoundAlone v (Load (descriptor_at shape.lanes chunk) found)) where
  abbrev word : ℕ
  word = descriptor_at shape.lanes chunk

  abbrev m : View
  m = after v (Load word found)

  pub looked_at_chunk : LookedOn v m
  looked_at_chunk = looked_load v word found (may_load v shape may chunk inside) known alone

  -- a run of the class is one by the view's words
  pub run_now : found ≡ run_descriptor class → IsRunOf m shape.lanes class chunk
  run_now run = get_or-set_same v.words word found 0 (may_load v shape may chunk inside) ∙ run

  -- no run of the class
  pub none_of_other : found ≢ run_descriptor class → (new : View → Type 0) → new m → HasNoneOf new v shape.lanes class chunk
  none_of_other other new there = record {
    looks = record { view = m; looked = looked_at_chunk; there = there; holds = inl (found, (saw_one (Load word found) v.seen, other)) };
    none = λ is run. absurd (other (alone is ∙ run));
  }

  -- a run of the class that has none left
  pub none_of_run : (new : View → Type 0) → HasNoneBelow new m shape.lanes chunk (blocks_of class) → HasNoneOf new v shape.lanes class chunk
  none_of_run new none = record {
    looks = record { view = none.looks.view; looked = looked_then v m none.looks.view looked_at_chunk none.looks.looked; there = none.looks.there; holds = inr none.looks.holds };
    none = λ is run. taken_before v m looked_at_chunk shape.lanes chunk (blocks_of class) none.taken is;
  }

  -- or of which one was got
  pub got_of_run : found ≡ run_descriptor class → (new : View → Type 0) (block : Block) → HasGotIn new m shape.lanes class chunk block → HasGotOf new v shape.lanes class chunk block
  got_of_run run new block got = record {
    view = m;
    looked = looked_at_chunk;
    saw = subst (λ x. Contains m.seen (Load word x)) run (saw_one (Load word found) v.seen);
    is_run = λ is. sym (alone is) ∙ run;
    got = got;
  }
