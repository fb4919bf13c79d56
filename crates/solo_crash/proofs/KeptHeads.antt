-- What a change of the heap asks of blocks is told by the root's word, by descriptors and by bitmaps of runs.
use Rattle.std.proofs.Common.{◌≡◌, ℕ, ◌+◌, ◌*◌, ◌/◌, ◌%◌, ◌<◌, ◌≤◌, ◌&&◌, false, ltb, List, Some, inl, inr, refl, sym, ◌∙◌, ap, subst, arith}
use Rattle.std.specs.Int.{bit_at}
use Rattle.std.specs.List.{Contains, list_any, range_with_len}
use Rattle.std.proofs.lemmas.Bool.{or_parts}
use Rattle.pm_layout.specs.Sizes.{blocks_of, descriptor_of}
use Rattle.pm_layout.specs.declared.class.Class.TheVariants.{Lines}
use Rattle.pm_image.specs.declared.block.Block.{Block}
use Rattle.pm_image.specs.Blocks.{blocks, chunk_word, class_in, descriptor_word}
use Rattle.pm_image.specs.Contents.{data_words, size_in}
use Rattle.pm_image.specs.Reads.{AgreeOn, Reads}
use Rattle.solo_view.specs.Blocks.{is_huge, is_run, zone_page}
use Rattle.solo_view.specs.Occupancy.{is_in_block, reaches}
use Rattle.solo_crash.specs.HeapChanges.{CanChange, HasItsObject, HeapChange, MayChange}
use Rattle.solo_crash.specs.HeapChanges.HeapChange.{AllocatesChunks, AllocatesInRun, FreesChunks, FreesInRun}
use Rattle.solo_crash.specs.NewObjects.{AreFreeChunks}
use Rattle.solo_crash.proofs.ChangesApart.{free_still, some_of_object}
use Rattle.solo_crash.proofs.ChangesKept.{bitmap_outside, descriptor_same, root_outside}
use Rattle.solo_crash.proofs.Classes.{lines_of_class}
use Rattle.solo_crash.proofs.EmptyRuns.{class_of_run}

-- the two have the same root, the same descriptors and the same bitmaps of runs
pub record KeepsHeads (w v : ℕ → ℕ) (lanes zones : ℕ) : Type 0 where
  pub root : v 64 ≡ w 64
  pub descriptors : (k : ℕ) → k < 64 * zones → v (descriptor_word lanes k) ≡ w (descriptor_word lanes k)
  pub bitmaps : (k lines : ℕ) → k < 64 * zones → class_in (w (descriptor_word lanes k)) ≡ Some (Lines lines) → v (chunk_word lanes k) ≡ w (chunk_word lanes k)

-- so it is where they agree on what the meaning reads, and where they differ in blocks alone
pub heads_by_reads : (w v : ℕ → ℕ) (lanes zones : ℕ) → AgreeOn (Reads w lanes zones) w v → KeepsHeads w v lanes zones
heads_by_reads w v lanes zones agree = record {
  root = sym (agree.same 64 (inl refl));
  descriptors = λ k inside. sym (agree.same (descriptor_word lanes k) (inr (inl (record { chunk = k; in_range = inside; is_word = refl }))));
  bitmaps = λ k lines inside run. sym (agree.same (chunk_word lanes k) (inr (inr (inl (record { chunk = k; lines = lines; in_range = inside; is_run = run; is_word = refl })))));
}

pub heads_by_blocks : (w v : ℕ → ℕ) (lanes zones : ℕ) → ((i : ℕ) → is_in_block w lanes i ≡ false → v i ≡ w i) → KeepsHeads w v lanes zones
heads_by_blocks w v lanes zones same = record {
  root = same 64 (root_outside w lanes);
  descriptors = λ k inside. descriptor_same w v lanes zones same k;
  bitmaps = λ k lines inside run.
      let parts = lines_of_class (w (descriptor_word lanes k)) lines run in
      let low = parts.0 in let high = parts.1 in
      same (chunk_word lanes k) (bitmap_outside w lanes k lines (omega (arith, low, high)));
}

module _ (w v : ℕ → ℕ) (lanes zones : ℕ) (keeps : KeepsHeads w v lanes zones) where
  bitmap_same : (c lines index : ℕ) → c < 64 * zones → index < blocks_of lines → w (descriptor_word lanes c) ≡ descriptor_of (Lines lines) → v (chunk_word lanes c) ≡ w (chunk_word lanes c)
  bitmap_same c lines index in_zones inside is = keeps.bitmaps c lines in_zones (class_of_run (w (descriptor_word lanes c)) lines (omega (arith, is)) (omega (arith, inside)))

  -- what a change asks of the blocks
  pub may_kept : (a : HeapChange) → MayChange w lanes zones a → MayChange v lanes zones a
  may_kept (AllocatesInRun c lines index kind bytes) may = record {
    in_zones = may.in_zones;
    inside = may.inside;
    is_run = keeps.descriptors c may.in_zones ∙ may.is_run;
    is_clear = ap (λ (n : ℕ). bit_at n index) (bitmap_same c lines index may.in_zones may.inside may.is_run) ∙ may.is_clear;
  }
  may_kept (AllocatesChunks c chunks kind bytes) may =
      let free : AreFreeChunks w lanes zones c chunks = may.1 in
      let fits : c % 64 + chunks ≤ 64 = free.in_zone in
      let in_zones : c < 64 * zones = free.in_zones in (
        may.0,
        record {
          in_zones = free.in_zones;
          in_zone = free.in_zone;
          are_free = λ k near.
              let low : c % 64 + k < 64 = omega (arith, fits, near) in
              let before = free.are_free k near in
              let at : (j : ℕ) → j < 64 → v (512 * zone_page lanes (c / 64) + j) ≡ w (512 * zone_page lanes (c / 64) + j) =
              λ j small.
              let word : 512 * zone_page lanes (c / 64) + j ≡ descriptor_word lanes (64 * (c / 64) + j) = omega (arith, small) in
              ap v word ∙ (keeps.descriptors (64 * (c / 64) + j) (omega (arith, small, in_zones)) ∙ ap w (sym word)) in
              free_still w v lanes (c / 64) (c % 64 + k) before
              (ap is_run (at (c % 64 + k) low) ∙ (or_parts (is_run (w (512 * zone_page lanes (c / 64) + (c % 64 + k)))) (list_any (reaches w lanes (c / 64) (c % 64 + k)) (range_with_len 0 (c % 64 + k + 1))) before).0)
              (λ j below none. ap (λ (d : ℕ). is_huge d && ltb (c % 64 + k) (j + d / 256)) (at j (omega (arith, below, low))) ∙ none);
        },
      )
  may_kept (FreesInRun c lines index) may = record {
    in_zones = may.in_zones;
    inside = may.inside;
    is_run = keeps.descriptors c may.in_zones ∙ may.is_run;
    is_set = ap (λ (n : ℕ). bit_at n index) (bitmap_same c lines index may.in_zones may.inside may.is_run) ∙ may.is_set;
    not_root = λ root. may.not_root (sym keeps.root ∙ root);
  }
  may_kept (FreesChunks c chunks) may = record {
    in_zones = may.in_zones;
    is_first = keeps.descriptors c may.in_zones ∙ may.is_first;
    not_root = λ root. may.not_root (sym keeps.root ∙ root);
  }

-- a change may be made where the blocks allow it and what is new stands in its block
pub change_allowed : (w : ℕ → ℕ) (lanes zones : ℕ) (a : HeapChange) → MayChange w lanes zones a → HasItsObject w lanes a → CanChange w lanes zones a
change_allowed w lanes zones (AllocatesInRun c lines index kind bytes) may has = (may, has)
change_allowed w lanes zones (AllocatesChunks c chunks kind bytes) may has = (may.1, has)
change_allowed w lanes zones (FreesInRun c lines index) may has = may
change_allowed w lanes zones (FreesChunks c chunks) may has = may

pub allows_change : (w : ℕ → ℕ) (lanes zones : ℕ) (a : HeapChange) → CanChange w lanes zones a → MayChange w lanes zones a
allows_change w lanes zones (AllocatesInRun c lines index kind bytes) can = can.0
allows_change w lanes zones (AllocatesChunks c chunks kind bytes) can = (some_of_object w lanes c chunks kind bytes can.1, can.0)
allows_change w lanes zones (FreesInRun c lines index) can = can
allows_change w lanes zones (FreesChunks c chunks) can = can

pub has_object : (w : ℕ → ℕ) (lanes zones : ℕ) (a : HeapChange) → CanChange w lanes zones a → HasItsObject w lanes a
has_object w lanes zones (AllocatesInRun c lines index kind bytes) can = can.1
has_object w lanes zones (AllocatesChunks c chunks kind bytes) can = can.1
has_object w lanes zones (FreesInRun c lines index) can = tt
has_object w lanes zones (FreesChunks c chunks) can = tt

-- the meaning reads no other words where descriptors, blocks and sizes are the same
pub reads_back : (w v : ℕ → ℕ) (lanes zones i : ℕ) → ((k : ℕ) → k < 64 * zones → v (descriptor_word lanes k) ≡ w (descriptor_word lanes k)) → blocks v lanes zones ≡ blocks w lanes zones
    → ((block : Block) → Contains (blocks w lanes zones) block → size_in v block ≡ size_in w block) → Reads v lanes zones i → Reads w lanes zones i
reads_back w v lanes zones i descriptors same sizes (inl root) = inl root
reads_back w v lanes zones i descriptors same sizes (inr (inl descriptor)) = inr (inl descriptor)
reads_back w v lanes zones i descriptors same sizes (inr (inr (inl bitmap))) = inr (inr (inl (record {
  chunk = bitmap.chunk;
  lines = bitmap.lines;
  in_range = bitmap.in_range;
  is_run = sym (ap class_in (descriptors bitmap.chunk bitmap.in_range)) ∙ bitmap.is_run;
  is_word = bitmap.is_word;
})))
reads_back w v lanes zones i descriptors same sizes (inr (inr (inr contents))) =
    let there : Contains (blocks w lanes zones) contents.block = subst (λ (bs : List Block). Contains bs contents.block) same contents.is_there in
    inr (inr (inr (record {
      block = contents.block;
      is_there = there;
      is_read = record { from = contents.is_read.from; to = subst (λ (n : ℕ). i < contents.block.place / 8 + 8 + data_words n) (sizes contents.block there) contents.is_read.to };
    })))
