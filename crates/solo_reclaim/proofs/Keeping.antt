-- What a lane keeps it has still behind steps that left it each of its bits.
use Rattle.std.proofs.Common.{◌≡◌, inl, inr, ℕ, ◌+◌, ◌*◌, true, All, List, get_or, refl, sym, ap, subst, arith}
use Rattle.std.proofs.lemmas.List.{get_or_default}
use Rattle.std.proofs.lemmas.List.Elements.{All-from_get_or, All-get_or}
use Rattle.pm_image.specs.declared.block.Block.{Block}
use Rattle.solo_view.specs.declared.occ.Occ.{Occ}
use Rattle.solo_view.specs.declared.occ.Occ.TheVariants.{Run, Zone}
use Rattle.solo_view.specs.View.{View}
use Rattle.solo_view.specs.Views.{reserves}
use Rattle.solo_crash.specs.HeapChanges.{run_at}
use Rattle.solo_reclaim.specs.KeptBlocks.{IsBitOf, IsKeptBit, Keeps, KeepsChunks, KeepsInRun}
use Rattle.solo_reclaim.specs.KnownTaken.{KnowsTaken}
use Rattle.solo_reclaim.specs.Reclaims.{Reclaims}
use Rattle.solo_reclaim.proofs.BlockBits.{chunks_bits, kept_inside, run_bits}

-- the view but for what the lane has of the heap, what it knows and what it saw, as the other has that
abbrev pub beside : View → View → View
beside v w = record v { run_words = w.run_words; zone_words = w.zone_words; known = w.known; reserved = w.reserved; freed = w.freed; seen = w.seen }

module _ (v w : View) (knows : KnowsTaken v) (same : w ≡ beside v w) where
  module _ (block : Block) (stays : (at : Occ) (bit : ℕ) → IsBitOf v.lanes block at bit → reserves w at bit ≡ true) where
    run_beside : KeepsInRun v block → KeepsInRun (beside v w) block
    run_beside is = record {
      chunk = is.chunk;
      lines = is.lines;
      index = is.index;
      in_pool = is.in_pool;
      low = is.low;
      described = is.described;
      reserved = stays (run_at v.lanes is.chunk) is.index (subst (λ b. IsBitOf v.lanes b (run_at v.lanes is.chunk) is.index) (sym is.is_block)
          ((run_bits v.lanes is.chunk is.lines is.index (kept_inside v knows block is) (run_at v.lanes is.chunk) is.index).1 (ap Run (omega arith), refl)));
      is_block = is.is_block;
    }

    chunks_beside : KeepsChunks v block → KeepsChunks (beside v w) block
    chunks_beside is = record {
      zone = is.zone;
      first = is.first;
      count = is.count;
      in_pool = is.in_pool;
      low = is.low;
      fits = is.fits;
      unused = λ j few. record {
        reserved = stays (Zone is.zone) (is.first + j) (subst (λ b. IsBitOf v.lanes b (Zone is.zone) (is.first + j)) (sym is.is_block)
            ((chunks_bits v.lanes (64 * is.zone + is.first) is.count (Zone is.zone) (is.first + j)).1
            (ap Zone (let low = is.low in omega (arith, low)), ((let low = is.low in omega (arith, low)), (let low = is.low in omega (arith, low, few))))));
        undescribed = (is.unused j few).undescribed;
      };
      is_block = is.is_block;
    }

    block_still : Keeps v block → Keeps w block
    block_still (inl is) = subst (λ (z : View). Keeps z block) (sym same) (inl (run_beside is))
    block_still (inr is) = subst (λ (z : View). Keeps z block) (sym same) (inr (chunks_beside is))

  pub keeps_by : (kept : List Block) → All (Keeps v) kept → ((at : Occ) (bit : ℕ) → IsKeptBit v.lanes kept at bit → reserves w at bit ≡ true) → All (Keeps w) kept
  keeps_by kept keeps stays =
      let none : Block = record { place = 0; lines = 0 } in
      All-from_get_or (Keeps w) kept none (λ i low. block_still (get_or kept i none) (λ at bit is. stays at bit (i, get_or kept i none, low, get_or_default kept i (get_or kept i none) none low, is)) (All-get_or (Keeps v) kept i none low keeps))

pub keeps_still : (v w : View) → KnowsTaken v → Reclaims v w → (kept : List Block) → All (Keeps v) kept → ((at : Occ) (bit : ℕ) → IsKeptBit v.lanes kept at bit → reserves w at bit ≡ true) → All (Keeps w) kept
keeps_still v w knows reclaims = keeps_by v w knows reclaims.same
