-- Where the heap has no fault, each chunk and each block passes its tests.
use Rattle.std.proofs.Common.{◌≡◌, ℕ, ◌*◌, ◌/◌, ◌%◌, Bool, true, false, not, List, Option, Some, None, refl, sym, ◌∙◌, ap}
use Rattle.std.specs.List.{Contains, find, range_with_len}
use Rattle.std.specs.Option.{option_or}
use Rattle.pm_layout.specs.declared.class.Class.{Class}
use Rattle.pm_image.specs.declared.block.Block.{Block}
use Rattle.pm_image.specs.declared.fault.ImageFault.{ImageFault}
use Rattle.pm_image.specs.declared.fault.ImageFault.TheVariants as fault
use Rattle.pm_image.specs.Blocks.{blocks, class_in, descriptor_word}
use Rattle.pm_image.specs.Contents.{offset_in}
use Rattle.pm_image.specs.HeapFaults.{bad_bitmap, bad_chunk, is_described, chunk_fault, bitmap_fault, good_block, block_fault, link_fault, root_fault, heap_fault}
use Rattle.pm_image.specs.Narrowings.{takes_links}
use Rattle.pm_image.proofs.Finding.{found_nothing}
use Rattle.pm_image.proofs.Members.{none_passes}

pub neither : {X : Type 0} (a b : Option X) → option_or a b ≡ None → (a ≡ None) × (b ≡ None)
neither None b none = (refl, none)
neither (Some x) b none = absurd cc

-- the parts of the heap's fault that are read one by one
pub record NoFaults (w : ℕ → ℕ) (lanes zones : ℕ) : Type 0 where
  pub chunks : chunk_fault w lanes zones ≡ None
  pub bitmaps : bitmap_fault w lanes zones ≡ None
  pub sizes : block_fault w (blocks w lanes zones) ≡ None
  pub links : link_fault w (blocks w lanes zones) ≡ None
  pub root : root_fault w (blocks w lanes zones) ≡ None

pub no_faults : (w : ℕ → ℕ) (lanes zones : ℕ) → heap_fault w lanes zones ≡ None → NoFaults w lanes zones
unfolding heap_fault
no_faults w lanes zones none =
    let bs : List Block = blocks w lanes zones in
    let after_links : Option ImageFault = option_or (link_fault w bs) (root_fault w bs) in
    let first = neither (chunk_fault w lanes zones) (option_or (bitmap_fault w lanes zones) (option_or (block_fault w bs) after_links)) none in
    let second = neither (bitmap_fault w lanes zones) (option_or (block_fault w bs) after_links) first.1 in
    let third = neither (block_fault w bs) after_links second.1 in
    let fourth = neither (link_fault w bs) (root_fault w bs) third.1 in
    record { chunks = first.0; bitmaps = second.0; sizes = third.0; links = fourth.0; root = fourth.1 }

not_not : (b : Bool) → not b ≡ false → b ≡ true
not_not true is = refl
not_not false is = absurd cc

pub links_taken : (w : ℕ → ℕ) (lanes zones : ℕ) (block : Block) → heap_fault w lanes zones ≡ None → Contains (blocks w lanes zones) block → takes_links w block ≡ true
unfolding link_fault
links_taken w lanes zones block none there =
    let nowhere : find (λ b. not (takes_links w b)) (blocks w lanes zones) ≡ None = found_nothing (λ b. fault.Link (offset_in b)) (find (λ b. not (takes_links w b)) (blocks w lanes zones)) (no_faults w lanes zones none).links in
    not_not (takes_links w block) (none_passes (λ b. not (takes_links w b)) (blocks w lanes zones) block nowhere there)

pub block_good : (w : ℕ → ℕ) (lanes zones : ℕ) (block : Block) → heap_fault w lanes zones ≡ None → Contains (blocks w lanes zones) block → good_block w block ≡ true
unfolding block_fault
block_good w lanes zones block none there =
    let nowhere : find (λ b. not (good_block w b)) (blocks w lanes zones) ≡ None = found_nothing (λ b. fault.Block (offset_in b)) (find (λ b. not (good_block w b)) (blocks w lanes zones)) (no_faults w lanes zones none).sizes in
    not_not (good_block w block) (none_passes (λ b. not (good_block w b)) (blocks w lanes zones) block nowhere there)

pub chunk_good : (w : ℕ → ℕ) (lanes zones c : ℕ) → heap_fault w lanes zones ≡ None → Contains (range_with_len 0 (64 * zones)) c → bad_chunk w lanes c ≡ false
unfolding chunk_fault
chunk_good w lanes zones c none there =
    let nowhere : find (bad_chunk w lanes) (range_with_len 0 (64 * zones)) ≡ None = found_nothing (λ k. fault.Chunk (k / 64) (k % 64)) (find (bad_chunk w lanes) (range_with_len 0 (64 * zones))) (no_faults w lanes zones none).chunks in
    none_passes (bad_chunk w lanes) (range_with_len 0 (64 * zones)) c nowhere there

-- and its descriptor is in the table, by what it makes of the chunk
pub described : (w : ℕ → ℕ) (lanes c : ℕ) (class : Option Class) → bad_chunk w lanes c ≡ false → class_in (w (descriptor_word lanes c)) ≡ class → is_described w (descriptor_word lanes c) c class ≡ true
unfolding bad_chunk
described w lanes c class good is =
    ap (is_described w (descriptor_word lanes c) c) (sym is) ∙ not_not (is_described w (descriptor_word lanes c) c (class_in (w (descriptor_word lanes c)))) good

pub bitmap_good : (w : ℕ → ℕ) (lanes zones c : ℕ) → heap_fault w lanes zones ≡ None → Contains (range_with_len 0 (64 * zones)) c → bad_bitmap w lanes c ≡ false
unfolding bitmap_fault
bitmap_good w lanes zones c none there =
    let nowhere : find (bad_bitmap w lanes) (range_with_len 0 (64 * zones)) ≡ None = found_nothing (λ k. fault.Bitmap (k / 64) (k % 64)) (find (bad_bitmap w lanes) (range_with_len 0 (64 * zones))) (no_faults w lanes zones none).bitmaps in
    none_passes (bad_bitmap w lanes) (range_with_len 0 (64 * zones)) c nowhere there
