-- What is free by the occupancy words' rule may be allocated, and each block of the heap may be freed but the root's.
use Rattle.std.proofs.Common.{◌≡◌, ◌≢◌, ⊎_elim, ℕ, ◌+◌, ◌*◌, ◌/◌, ◌%◌, ◌<◌, ◌≤◌, ◌||◌, false, not, eqb, leb, ◌∙◌, sym, ap, subst, arith}
use Rattle.std.specs.Int.{bit_at}
use Rattle.std.specs.List.{Contains}
use Rattle.std.proofs.lemmas.Bool.{eqb-false, leb-false, or_parts}
use Rattle.std.proofs.lemmas.Nat.Bits.{bit_at-lt}
use Rattle.pm_layout.specs.Sizes.{blocks_of, descriptor_of}
use Rattle.pm_layout.specs.declared.class.Class.TheVariants.{Lines}
use Rattle.pm_image.specs.declared.block.Block.{Block}
use Rattle.pm_image.specs.Blocks.{blocks, chunk_word, descriptor_word}
use Rattle.pm_image.specs.Contents.{offset_in}
use Rattle.solo_view.specs.declared.occ.Occ.TheVariants.{Zone}
use Rattle.solo_view.specs.Blocks.{bitmap_word, descriptor_word as lane_descriptor, is_run}
use Rattle.solo_view.specs.Occupancy.{is_chunk_taken, is_taken}
use Rattle.solo_crash.specs.HeapChanges.{run_at, MayBeFreed}
use Rattle.solo_crash.specs.HeapChanges.HeapChange.{FreesChunks, FreesInRun}
use Rattle.solo_crash.specs.NewObjects.{AreFreeChunks, IsFreeInRun, MayFreeChunks, MayFreeInRun}
use Rattle.solo_crash.proofs.Classes.{chunks_of_class, lines_of_class}
use Rattle.solo_crash.proofs.FoundBlocks.{page_of_chunk, IsPageOf}
use Rattle.solo_crash.proofs.Standing.{block_stands, IsChunkBlock, IsRunBlock, Stands}

-- a block of a run whose bit is of something free
pub free_in_run : (w : ℕ → ℕ) (lanes zones c lines index : ℕ) → c < 64 * zones → w (descriptor_word lanes c) ≡ descriptor_of (Lines lines) → is_taken w lanes (run_at lanes c) index ≡ false → IsFreeInRun w lanes zones c lines index
free_in_run w lanes zones c lines index inside is free =
    let page : ℕ = 4096 * (2 + 2 * lanes + 65 * (c / 64) + c % 64) / 4096 in
    let of : IsPageOf lanes page c = page_of_chunk lanes page c (omega arith) in
    let d : ℕ = w (lane_descriptor lanes page) in
    let bitmap : ℕ = w (bitmap_word page) in
    let parts = or_parts (not (is_run d) || leb (blocks_of (d / 256)) index) (eqb (bit_at bitmap index) 1) free in
    let low = leb-false (blocks_of (d / 256)) index (or_parts (not (is_run d)) (leb (blocks_of (d / 256)) index) parts.0).1 in
    let own : w (descriptor_word lanes c) ≡ 1 + 256 * lines = is in
    let count : d / 256 ≡ lines = ap (λ (n : ℕ). w n / 256) of.descriptor ∙ (let e : w (descriptor_word lanes c) / 256 ≡ lines = omega arith in e) in
    let word : bit_at bitmap index ≡ bit_at (w (chunk_word lanes c)) index = ap (λ (n : ℕ). bit_at (w n) index) of.bitmap in
    let clear : bit_at bitmap index ≢ 1 = eqb-false (bit_at bitmap index) 1 parts.1 in
    let bound = bit_at-lt bitmap index in
    record {
      in_zones = inside;
      inside = subst (λ (n : ℕ). index < blocks_of n) count low;
      is_run = is;
      is_clear = sym word ∙ omega arith;
    }

-- chunks of a zone whose bits are
pub free_chunks : (w : ℕ → ℕ) (lanes zones zone first count : ℕ) → zone < zones → first < 64 → first + count ≤ 64 → ((k : ℕ) → k < count → is_taken w lanes (Zone zone) (first + k) ≡ false)
    → AreFreeChunks w lanes zones (64 * zone + first) count
free_chunks w lanes zones zone first count inside low fits free =
    let in_zone : (64 * zone + first) / 64 ≡ zone = omega arith in
    let number : (64 * zone + first) % 64 ≡ first = omega arith in
    record {
      in_zones = omega arith;
      in_zone = omega arith;
      are_free = λ k near. (λ j. is_chunk_taken w lanes (in_zone j) (number j + k)) ∙ free k near;
    }

-- a block of the heap
pub may_be_freed : (w : ℕ → ℕ) (lanes zones : ℕ) (block : Block) → Contains (blocks w lanes zones) block → w 64 ≢ offset_in block → MayBeFreed w lanes zones block
may_be_freed w lanes zones block there not_root =
    let stands : Stands w lanes zones block = block_stands w lanes zones block there in
    let c : ℕ = stands.chunk in
    ⊎_elim
    (λ (run : IsRunBlock w lanes c block).
    let class = lines_of_class (w (descriptor_word lanes c)) run.lines run.is_run in
    let low = class.0 in
    let high = class.1 in
    let can : MayFreeInRun w lanes zones c run.lines run.index =
    record { in_zones = stands.in_zones; inside = run.inside; is_run = omega arith; is_set = run.is_set; not_root = λ root. not_root (root ∙ ap (λ (b : Block). offset_in b) run.is_block) } in
    record { change = FreesInRun c run.lines run.index; can = can; frees = run.is_block })
    (λ (whole : IsChunkBlock w lanes c block).
    let class = chunks_of_class (w (descriptor_word lanes c)) whole.chunks whole.is_first in
    let low = class.0 in
    let high = class.1 in
    let can : MayFreeChunks w lanes zones c whole.chunks =
    record { in_zones = stands.in_zones; is_first = omega arith; not_root = λ root. not_root (root ∙ ap (λ (b : Block). offset_in b) whole.is_block) } in
    record { change = FreesChunks c whole.chunks; can = can; frees = whole.is_block })
    stands.is
