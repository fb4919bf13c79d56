-- Heaps whose chunks have the same blocks and pass the same tests, and whose blocks and root have the same words, have the same fault and the same pool.
use Rattle.std.proofs.Common.{◌≡◌, ℕ, ◌+◌, ◌*◌, ◌/◌, ◌%◌, ◌<◌, ◌≤◌, false, not, cond, eqb, List, length, Some, None, ◌∙◌, ap, arith}
use Rattle.std.specs.List.{Contains, list_any, range_with_len}
use Rattle.std.specs.Option.{option_map, option_or}
use Rattle.pm_header.specs.declared.header.Header.{Header}
use Rattle.pm_image.specs.declared.block.Block.{Block}
use Rattle.pm_image.specs.declared.fault.ImageFault.TheVariants as fault
use Rattle.pm_image.specs.Blocks.{blocks, chunk_blocks}
use Rattle.pm_image.specs.Contents.{objects_in, object_in, offset_in}
use Rattle.pm_image.specs.HeapFaults.{bad_bitmap, bad_chunk, bad_root, bitmap_fault, block_fault, chunk_fault, good_block, heap_fault, link_fault, root_fault}
use Rattle.pm_image.specs.Means.{pool_in}
use Rattle.pm_image.specs.Narrowings.{takes_links}
use Rattle.pm_image.specs.Reads.{AgreeOn, ReadsBlock, SameHeap}
use Rattle.pm_image.proofs.FaultFree.{links_taken}
use Rattle.pm_image.proofs.Heads.{reads_header, ReadsHeader}
use Rattle.pm_image.proofs.Local.{flat_map_same}
use Rattle.pm_image.proofs.LocalHeap.{good_block_same, takes_links_same}
use Rattle.pm_image.proofs.LocalPool.{object_same}
use Rattle.pm_image.proofs.Members.{find_same, in_range, map_same}

-- chunk by chunk the same blocks and the same answers of the tests, block by block the same words, and the same root
pub record SameParts (w v : ℕ → ℕ) (lanes zones : ℕ) : Type 0 where
  pub blocks_of_chunk : (c : ℕ) → c < 64 * zones → chunk_blocks v lanes c ≡ chunk_blocks w lanes c
  pub test_of_chunk : (c : ℕ) → c < 64 * zones → bad_chunk v lanes c ≡ bad_chunk w lanes c
  pub test_of_bitmap : (c : ℕ) → c < 64 * zones → bad_bitmap v lanes c ≡ bad_bitmap w lanes c
  pub words_of_block : (block : Block) → Contains (blocks w lanes zones) block → AgreeOn (ReadsBlock w block) w v
  pub root : v 64 ≡ w 64

module _ (w v : ℕ → ℕ) (lanes zones : ℕ) (same : SameParts w v lanes zones) where
  blocks_same : blocks v lanes zones ≡ blocks w lanes zones
  unfolding blocks
  blocks_same = flat_map_same (chunk_blocks v lanes) (chunk_blocks w lanes) 0 (64 * zones) (λ c from to. same.blocks_of_chunk c (omega arith))

  below : (c : ℕ) → Contains (range_with_len 0 (64 * zones)) c → c < 64 * zones
  below c there = let within : (0 ≤ c) × (c < 0 + 64 * zones) = in_range 0 (64 * zones) c there in omega arith

  chunk_fault_same : chunk_fault v lanes zones ≡ chunk_fault w lanes zones
  unfolding chunk_fault
  chunk_fault_same =
      ap (option_map (λ c. fault.Chunk (c / 64) (c % 64))) (find_same (bad_chunk v lanes) (bad_chunk w lanes) (range_with_len 0 (64 * zones)) (λ c there. same.test_of_chunk c (below c there)))

  bitmap_fault_same : bitmap_fault v lanes zones ≡ bitmap_fault w lanes zones
  unfolding bitmap_fault
  bitmap_fault_same =
      ap (option_map (λ c. fault.Bitmap (c / 64) (c % 64))) (find_same (bad_bitmap v lanes) (bad_bitmap w lanes) (range_with_len 0 (64 * zones)) (λ c there. same.test_of_bitmap c (below c there)))

  header_same : (block : Block) → Contains (blocks w lanes zones) block → AgreeOn (ReadsHeader block) w v
  header_same block there = record { same = λ i read. (same.words_of_block block there).same i (reads_header w block i read) }

  block_fault_same : block_fault v (blocks w lanes zones) ≡ block_fault w (blocks w lanes zones)
  unfolding block_fault
  block_fault_same =
      ap (option_map (λ block. fault.Block (offset_in block))) (find_same (λ block. not (good_block v block)) (λ block. not (good_block w block)) (blocks w lanes zones) (λ block there.
      ap not (good_block_same w v block (header_same block there))))

  link_fault_same : link_fault v (blocks w lanes zones) ≡ link_fault w (blocks w lanes zones)
  unfolding link_fault
  link_fault_same =
      ap (option_map (λ block. fault.Link (offset_in block))) (find_same (λ block. not (takes_links v block)) (λ block. not (takes_links w block)) (blocks w lanes zones) (λ block there.
      ap not (takes_links_same w v block (header_same block there))))

  root_fault_same : (bs : List Block) → root_fault v bs ≡ root_fault w bs
  unfolding root_fault bad_root
  root_fault_same bs =
      ap (λ (root : ℕ). cond (cond (eqb root 0) false (not (list_any (λ block. eqb (offset_in block) root) bs))) (Some (fault.Root root)) None) same.root

  heap_fault_same : heap_fault v lanes zones ≡ heap_fault w lanes zones
  unfolding heap_fault
  heap_fault_same =
      ap (λ (bs : List Block). option_or (chunk_fault v lanes zones) (option_or (bitmap_fault v lanes zones) (option_or (block_fault v bs) (option_or (link_fault v bs) (root_fault v bs))))) blocks_same
      ∙ (λ j. option_or (chunk_fault_same j) (option_or (bitmap_fault_same j) (option_or (block_fault_same j) (option_or (link_fault_same j) (root_fault_same (blocks w lanes zones) j)))))

  objects_same : heap_fault w lanes zones ≡ None → objects_in v (blocks w lanes zones) ≡ objects_in w (blocks w lanes zones)
  unfolding objects_in
  objects_same none =
      let bs : List Block = blocks w lanes zones in
      map_same (λ block. (offset_in block, object_in v (length bs) block)) (λ block. (offset_in block, object_in w (length bs) block)) bs (λ block there.
      (λ j. (offset_in block, object_same w v block (length bs) (same.words_of_block block there) (links_taken w lanes zones block none there) j)))

  pool_same : heap_fault w lanes zones ≡ None → (header : Header) → pool_in v lanes zones header ≡ pool_in w lanes zones header
  pool_same none header =
      let objects : objects_in v (blocks v lanes zones) ≡ objects_in w (blocks w lanes zones) = ap (objects_in v) blocks_same ∙ objects_same none in
      (λ j. record { id = header.id; name = header.name; lanes = lanes; zones = zones; objects = objects j; root = cond (eqb (same.root j) 0) None (Some (same.root j)) })

  pub heap_of_parts : SameHeap w v lanes zones
  heap_of_parts = record { same_blocks = blocks_same; same_fault = heap_fault_same; same_pool = pool_same }
