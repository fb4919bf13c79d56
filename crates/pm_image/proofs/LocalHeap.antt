-- The blocks and the heap's fault depend on the root's word, descriptors, bitmaps of runs and header lines alone: on no object's bytes.
use Rattle.std.proofs.Common.{◌≡◌, inl, inr, ℕ, ◌+◌, ◌-◌, ◌*◌, ◌/◌, ◌%◌, ◌<◌, ◌≤◌, ◌&&◌, Bool, true, false, not, cond, eqb, leb, List, Option, Some, None, refl, sym, ◌∙◌, ap, arith}
use Rattle.std.specs.List.{Contains, list_any, range_with_len}
use Rattle.std.specs.Option.{option_map, option_or}
use Rattle.std.proofs.lemmas.Bool.{leb-true}
use Rattle.pm_layout.specs.Sizes.{class_of}
use Rattle.pm_layout.specs.declared.class.Class.{Class}
use Rattle.pm_layout.specs.declared.class.Class.TheVariants.{Lines, Chunks}
use Rattle.pm_objects.specs.Pool.{block_lines}
use Rattle.pm_image.specs.declared.block.Block.{Block}
use Rattle.pm_image.specs.declared.fault.ImageFault.TheVariants as fault
use Rattle.pm_image.specs.Blocks.{descriptor_word, chunk_word, class_in, run_blocks, blocks_in, chunk_blocks, blocks}
use Rattle.pm_image.specs.Contents.{offset_in, header_word, size_in}
use Rattle.pm_image.specs.HeapFaults.{zeros_behind, is_described, bad_chunk, chunk_fault, is_bad_bitmap, bad_bitmap, bitmap_fault, good_block, block_fault, link_fault, bad_root, root_fault, heap_fault}
use Rattle.pm_image.specs.Narrowings.{takes_links}
use Rattle.pm_image.specs.Reads.{Reads, ReadsBlock, AgreeOn}
use Rattle.pm_image.proofs.Local.{flat_map_same}
use Rattle.pm_image.proofs.Heads.{agree_on_header, head_same, ReadsHeader, ReadsHeads}
use Rattle.pm_image.proofs.Members.{find_same, list_all_same, in_range}

-- the descriptor of a chunk, and what it makes of it
pub descriptor_same : (w v : ℕ → ℕ) (lanes zones c : ℕ) → AgreeOn (ReadsHeads w lanes zones) w v → c < 64 * zones → v (descriptor_word lanes c) ≡ w (descriptor_word lanes c)
descriptor_same w v lanes zones c agree inside = sym (agree.same (descriptor_word lanes c) (inr (inl (record { chunk = c; in_range = inside; is_word = refl }))))

-- the bitmap of a run
bitmap_same : (w v : ℕ → ℕ) (lanes zones c lines : ℕ) → AgreeOn (ReadsHeads w lanes zones) w v → c < 64 * zones → class_in (w (descriptor_word lanes c)) ≡ Some (Lines lines)
    → v (chunk_word lanes c) ≡ w (chunk_word lanes c)
bitmap_same w v lanes zones c lines agree inside run =
    sym (agree.same (chunk_word lanes c) (inr (inr (inl (record { chunk = c; lines = lines; in_range = inside; is_run = run; is_word = refl })))))

-- the blocks of a chunk
blocks_in_same : (class : Option Class) (place a b : ℕ) → ((lines : ℕ) → class ≡ Some (Lines lines) → a ≡ b) → blocks_in class place a ≡ blocks_in class place b
blocks_in_same None place a b same = refl
blocks_in_same (Some (Lines lines)) place a b same = ap (λ (k : ℕ). run_blocks place k lines) (same lines refl)
blocks_in_same (Some (Chunks chunks)) place a b same = refl

chunk_blocks_same : (w v : ℕ → ℕ) (lanes zones c : ℕ) → AgreeOn (ReadsHeads w lanes zones) w v → c < 64 * zones → chunk_blocks v lanes c ≡ chunk_blocks w lanes c
unfolding chunk_blocks
chunk_blocks_same w v lanes zones c agree inside =
    ap (λ (d : ℕ). blocks_in (class_in d) (8 * chunk_word lanes c) (v (chunk_word lanes c))) (descriptor_same w v lanes zones c agree inside)
    ∙ blocks_in_same (class_in (w (descriptor_word lanes c))) (8 * chunk_word lanes c) (v (chunk_word lanes c)) (w (chunk_word lanes c)) (λ lines run. bitmap_same w v lanes zones c lines agree inside run)

pub blocks_same : (w v : ℕ → ℕ) (lanes zones : ℕ) → AgreeOn (ReadsHeads w lanes zones) w v → blocks v lanes zones ≡ blocks w lanes zones
unfolding blocks
blocks_same w v lanes zones agree = flat_map_same (chunk_blocks v lanes) (chunk_blocks w lanes) 0 (64 * zones) (λ c from to. chunk_blocks_same w v lanes zones c agree (omega arith))

-- the descriptors behind that of a chunk, in its zone
behind_same : (w v : ℕ → ℕ) (lanes zones c k : ℕ) → AgreeOn (ReadsHeads w lanes zones) w v → c < 64 * zones → c % 64 + 1 + k < 64 → v (descriptor_word lanes c + 1 + k) ≡ w (descriptor_word lanes c + 1 + k)
behind_same w v lanes zones c k agree inside in_zone =
    let zone : (c + 1 + k) / 64 ≡ c / 64 = omega arith in
    let chunk : (c + 1 + k) % 64 ≡ c % 64 + 1 + k = omega arith in
    let place : descriptor_word lanes c + 1 + k ≡ descriptor_word lanes (c + 1 + k) = omega arith in
    let fits : c + 1 + k < 64 * zones = omega arith in
    sym (agree.same (descriptor_word lanes c + 1 + k) (inr (inl (record { chunk = c + 1 + k; in_range = fits; is_word = place }))))

zeros_same : (w v : ℕ → ℕ) (lanes zones c chunks : ℕ) → AgreeOn (ReadsHeads w lanes zones) w v → c < 64 * zones → c % 64 + chunks ≤ 64 → zeros_behind v (descriptor_word lanes c) chunks ≡ zeros_behind w (descriptor_word lanes c) chunks
unfolding zeros_behind
zeros_same w v lanes zones c chunks agree inside fits =
    list_all_same (λ k. eqb (v (descriptor_word lanes c + 1 + k)) 0) (λ k. eqb (w (descriptor_word lanes c + 1 + k)) 0) (range_with_len 0 (chunks - 1)) (λ k there.
    let within : (0 ≤ k) × (k < 0 + (chunks - 1)) = in_range 0 (chunks - 1) k there in
    ap (λ (d : ℕ). eqb d 0) (behind_same w v lanes zones c k agree inside (omega arith)))

tested_same : (b : Bool) (x y : Bool) → (b ≡ true → x ≡ y) → cond b x false ≡ cond b y false
tested_same true x y same = same refl
tested_same false x y same = refl

described_same : (w v : ℕ → ℕ) (lanes zones c : ℕ) (class : Option Class) → AgreeOn (ReadsHeads w lanes zones) w v → c < 64 * zones → is_described v (descriptor_word lanes c) c class ≡ is_described w (descriptor_word lanes c) c class
described_same w v lanes zones c None agree inside = ap (λ (d : ℕ). eqb d 0) (descriptor_same w v lanes zones c agree inside)
described_same w v lanes zones c (Some (Lines lines)) agree inside = refl
described_same w v lanes zones c (Some (Chunks chunks)) agree inside =
    tested_same (leb (c % 64 + chunks) 64) (zeros_behind v (descriptor_word lanes c) chunks) (zeros_behind w (descriptor_word lanes c) chunks)
    (λ fits. zeros_same w v lanes zones c chunks agree inside (leb-true (c % 64 + chunks) 64 fits))

bad_chunk_same : (w v : ℕ → ℕ) (lanes zones c : ℕ) → AgreeOn (ReadsHeads w lanes zones) w v → c < 64 * zones → bad_chunk v lanes c ≡ bad_chunk w lanes c
unfolding bad_chunk
bad_chunk_same w v lanes zones c agree inside =
    ap (λ (d : ℕ). not (is_described v (descriptor_word lanes c) c (class_in d))) (descriptor_same w v lanes zones c agree inside)
    ∙ ap not (described_same w v lanes zones c (class_in (w (descriptor_word lanes c))) agree inside)

bad_bitmap_of_same : (class : Option Class) (a b : ℕ) → ((lines : ℕ) → class ≡ Some (Lines lines) → a ≡ b) → is_bad_bitmap class a ≡ is_bad_bitmap class b
bad_bitmap_of_same None a b same = refl
bad_bitmap_of_same (Some (Lines lines)) a b same = ap (λ (k : ℕ). is_bad_bitmap (Some (Lines lines)) k) (same lines refl)
bad_bitmap_of_same (Some (Chunks chunks)) a b same = refl

bad_bitmap_same : (w v : ℕ → ℕ) (lanes zones c : ℕ) → AgreeOn (ReadsHeads w lanes zones) w v → c < 64 * zones → bad_bitmap v lanes c ≡ bad_bitmap w lanes c
unfolding bad_bitmap
bad_bitmap_same w v lanes zones c agree inside =
    ap (λ (d : ℕ). is_bad_bitmap (class_in d) (v (chunk_word lanes c))) (descriptor_same w v lanes zones c agree inside)
    ∙ bad_bitmap_of_same (class_in (w (descriptor_word lanes c))) (v (chunk_word lanes c)) (w (chunk_word lanes c)) (λ lines run. bitmap_same w v lanes zones c lines agree inside run)

chunk_fault_same : (w v : ℕ → ℕ) (lanes zones : ℕ) → AgreeOn (ReadsHeads w lanes zones) w v → chunk_fault v lanes zones ≡ chunk_fault w lanes zones
unfolding chunk_fault
chunk_fault_same w v lanes zones agree =
    ap (option_map (λ c. fault.Chunk (c / 64) (c % 64))) (find_same (bad_chunk v lanes) (bad_chunk w lanes) (range_with_len 0 (64 * zones)) (λ c there.
    bad_chunk_same w v lanes zones c agree (let within : (0 ≤ c) × (c < 0 + 64 * zones) = in_range 0 (64 * zones) c there in omega arith)))

bitmap_fault_same : (w v : ℕ → ℕ) (lanes zones : ℕ) → AgreeOn (ReadsHeads w lanes zones) w v → bitmap_fault v lanes zones ≡ bitmap_fault w lanes zones
unfolding bitmap_fault
bitmap_fault_same w v lanes zones agree =
    ap (option_map (λ c. fault.Bitmap (c / 64) (c % 64))) (find_same (bad_bitmap v lanes) (bad_bitmap w lanes) (range_with_len 0 (64 * zones)) (λ c there.
    bad_bitmap_same w v lanes zones c agree (let within : (0 ≤ c) × (c < 0 + 64 * zones) = in_range 0 (64 * zones) c there in omega arith)))

-- what is read of each block
pub agree_on_block : (w v : ℕ → ℕ) (lanes zones : ℕ) (block : Block) → AgreeOn (Reads w lanes zones) w v → Contains (blocks w lanes zones) block → AgreeOn (ReadsBlock w block) w v
agree_on_block w v lanes zones block agree there =
    record { same = λ i read. agree.same i (inr (inr (inr (record { block = block; is_there = there; is_read = read })))) }

pub good_block_same : (w v : ℕ → ℕ) (block : Block) → AgreeOn (ReadsHeader block) w v → good_block v block ≡ good_block w block
unfolding good_block
good_block_same w v block agree =
    let size : size_in v block ≡ size_in w block = head_same w v block 1 (omega arith) agree in
    let sixth : header_word v block 6 ≡ header_word w block 6 = head_same w v block 6 (omega arith) agree in
    let seventh : header_word v block 7 ≡ header_word w block 7 = head_same w v block 7 (omega arith) agree in
    (λ j. leb 1 (size j) && leb (size j) 262080 && eqb (block_lines (class_of (size j))) block.lines && eqb (sixth j) 0 && eqb (seventh j) 0)

pub takes_links_same : (w v : ℕ → ℕ) (block : Block) → AgreeOn (ReadsHeader block) w v → takes_links v block ≡ takes_links w block
takes_links_same w v block agree =
    (λ j. eqb (head_same w v block 2 (omega arith) agree j) 0 && eqb (head_same w v block 3 (omega arith) agree j) 0
    && eqb (head_same w v block 4 (omega arith) agree j) 0 && eqb (head_same w v block 5 (omega arith) agree j) 0)

block_fault_same : (w v : ℕ → ℕ) (lanes zones : ℕ) → AgreeOn (ReadsHeads w lanes zones) w v → block_fault v (blocks w lanes zones) ≡ block_fault w (blocks w lanes zones)
unfolding block_fault
block_fault_same w v lanes zones agree =
    ap (option_map (λ block. fault.Block (offset_in block))) (find_same (λ block. not (good_block v block)) (λ block. not (good_block w block)) (blocks w lanes zones) (λ block there.
    ap not (good_block_same w v block (agree_on_header w v lanes zones block agree there))))

link_fault_same : (w v : ℕ → ℕ) (lanes zones : ℕ) → AgreeOn (ReadsHeads w lanes zones) w v → link_fault v (blocks w lanes zones) ≡ link_fault w (blocks w lanes zones)
unfolding link_fault
link_fault_same w v lanes zones agree =
    ap (option_map (λ block. fault.Link (offset_in block))) (find_same (λ block. not (takes_links v block)) (λ block. not (takes_links w block)) (blocks w lanes zones) (λ block there.
    ap not (takes_links_same w v block (agree_on_header w v lanes zones block agree there))))

-- the root's word
pub root_same : (w v : ℕ → ℕ) (lanes zones : ℕ) → AgreeOn (ReadsHeads w lanes zones) w v → v 64 ≡ w 64
root_same w v lanes zones agree = sym (agree.same 64 (inl refl))

root_fault_same : (w v : ℕ → ℕ) (lanes zones : ℕ) (bs : List Block) → AgreeOn (ReadsHeads w lanes zones) w v → root_fault v bs ≡ root_fault w bs
unfolding root_fault bad_root
root_fault_same w v lanes zones bs agree =
    ap (λ (root : ℕ). cond (cond (eqb root 0) false (not (list_any (λ block. eqb (offset_in block) root) bs))) (Some (fault.Root root)) None) (root_same w v lanes zones agree)

pub heap_fault_same : (w v : ℕ → ℕ) (lanes zones : ℕ) → AgreeOn (ReadsHeads w lanes zones) w v → heap_fault v lanes zones ≡ heap_fault w lanes zones
unfolding heap_fault
heap_fault_same w v lanes zones agree =
    let same : blocks v lanes zones ≡ blocks w lanes zones = blocks_same w v lanes zones agree in
    ap (λ (bs : List Block). option_or (chunk_fault v lanes zones) (option_or (bitmap_fault v lanes zones) (option_or (block_fault v bs) (option_or (link_fault v bs) (root_fault v bs))))) same
    ∙ (λ j. option_or (chunk_fault_same w v lanes zones agree j) (option_or (bitmap_fault_same w v lanes zones agree j)
    (option_or (block_fault_same w v lanes zones agree j) (option_or (link_fault_same w v lanes zones agree j) (root_fault_same w v lanes zones (blocks w lanes zones) agree j)))))
