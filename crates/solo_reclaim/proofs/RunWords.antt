-- A chunk by its descriptor: of a run its bitmap is loaded, and tells which of its blocks are taken; of no run nothing is the lane's.
use Rattle.std.proofs.Common.{◌≡◌, ℕ, ◌*◌, ◌/◌, ◌<◌, ◌↔◌, ◌==◌, ◌||◌, not, nat_le, true, false, All, List, inl, length, slice_index, sym, ap, ◌∙◌, subst, arith}
use Rattle.std.specs.Int.{bit_at}
use Rattle.pm_layout.specs.Sizes.{blocks_of}
use Rattle.pm_image.specs.declared.block.Block.{Block}
use Rattle.pm_layout.specs.declared.shape.Shape.{Shape}
use Rattle.solo_view.specs.declared.occ.Occ.TheVariants.{Run}
use Rattle.solo_view.specs.Blocks.{descriptor_word, is_run}
use Rattle.solo_view.specs.Founds.{FoundAlone}
use Rattle.solo_view.specs.Steps.Step.{Load}
use Rattle.solo_view.specs.View.{View}
use Rattle.solo_view.specs.Views.{after}
use Rattle.solo_world.proofs.HeapWords.{no_run_taken}
use Rattle.solo_reclaim.specs.KeptBlocks.{Keeps}
use Rattle.solo_reclaim.specs.Reclaims.{HasReclaimed, IsDescribed, IsLeft, IsTold, Reclaims, RestsAlone, TellsTaken}
use Rattle.solo_reclaim.proofs.BlockBits.{kept_reserved}
use Rattle.solo_reclaim.proofs.Keeping.{keeps_still}
use Rattle.solo_reclaim.proofs.Rest.{left_from, left_of}
use Rattle.solo_reclaim.proofs.Steps.{may_still, reclaims_load, reclaims_none, reclaims_then, tells_still, there_still}

-- what was reclaimed from a view that a reclaim led to was so from the view before
pub reclaimed_behind : (at : View → Type 0) (v m : View) (Q : View → Type 0) → Reclaims v m → HasReclaimed at m Q → HasReclaimed at v Q
reclaimed_behind at v m Q first then = record { view = then.view; reclaims = reclaims_then v m then.view first then.reclaims; there = then.there; holds = then.holds }

-- by the descriptor and the bitmap the word has what is taken
abbrev pub AreBlocks : ℕ → ℕ → ℕ → Type 0
AreBlocks descriptor bitmap word =
    (bit : ℕ) → bit < 64 → (bit_at word bit ≡ 1) ↔ ((not (is_run descriptor) || nat_le (blocks_of (descriptor / 256)) bit || bit_at bitmap bit == 1) ≡ true)

module _ (v : View) (shape : Shape) (kept : List Block) (place descriptor : ℕ) (is : IsDescribed v shape kept place descriptor) where
  abbrev rests : RestsAlone v
  rests = is.rests.may.rests

  pub left_no_run : is_run descriptor ≡ false → (at : View → Type 0) → at v → HasReclaimed at v (λ w. IsLeft kept w (λ other. other ≡ Run place))
  left_no_run none at there = record {
    view = v;
    reclaims = reclaims_none v rests.taken;
    there = there;
    holds = left_of kept v (Run place) is.rests.keeps (left_from v kept (Run place) rests.taken is.rests.keeps is.there.of_pool (λ bit low one. inl (no_run_taken (slice_index v.words) v.lanes place bit (ap is_run is.described ∙ none))));
  }

  pub bitmap_there : place / 8 < length v.words
  bitmap_there = let of = is.there.of_pool.0 in let inside = is.there.inside in omega (arith, of, inside)

  module _ (bitmap : ℕ) (alone : FoundAlone v (Load (place / 8) bitmap)) where
    abbrev pub m : View
    m = after v (Load (place / 8) bitmap)

    pub bitmap_loaded : Reclaims v m
    bitmap_loaded = reclaims_load v (place / 8) bitmap rests bitmap_there alone

    tells : (word : ℕ) → AreBlocks descriptor bitmap word → TellsTaken v (Run place) word
    tells word are = λ bit low.
        let at : place / 8 ≡ 512 * (place / 4096) = (let of = is.there.of_pool.0 in omega (arith, of)) in
        subst (λ b. (bit_at word bit ≡ 1) ↔ ((not (is_run (slice_index v.words (descriptor_word v.lanes (place / 4096)))) || nat_le (blocks_of (slice_index v.words (descriptor_word v.lanes (place / 4096)) / 256)) bit || bit_at b bit == 1) ≡ true))
        (alone rests.alone ∙ ap (slice_index v.words) at)
        (subst (λ d. (bit_at word bit ≡ 1) ↔ ((not (is_run d) || nat_le (blocks_of (d / 256)) bit || bit_at bitmap bit == 1) ≡ true)) (sym is.described) (are bit low))

    keeps_loaded : All (Keeps m) kept
    keeps_loaded = keeps_still v m rests.taken bitmap_loaded kept is.rests.keeps (λ other bit its. (kept_reserved v rests.taken kept is.rests.keeps other bit its).reserved)

    pub blocks_told : (word : ℕ) → AreBlocks descriptor bitmap word → IsTold m shape kept (Run place) word
    blocks_told word are = record {
      rests = record { may = may_still v m bitmap_loaded shape is.rests.may; keeps = keeps_loaded };
      there = there_still v m bitmap_loaded (Run place) is.there;
      tells = tells_still v m bitmap_loaded (Run place) word (tells word are);
    }
