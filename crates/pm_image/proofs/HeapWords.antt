-- Where the heap has no fault, the meaning reads the root's word and words of the zones alone.
use Rattle.std.proofs.Common.{◌≡◌, inl, inr, ℕ, ◌+◌, ◌*◌, ◌/◌, ◌%◌, ◌<◌, ◌≤◌, ◌&&◌, Bool, true, false, cond, eqb, leb, List, [], ◌∷◌, Option, Some, None, refl, subst, arith}
use Rattle.std.specs.Int.{bit_at}
use Rattle.std.specs.List.{Contains, filter, range_with_len}
use Rattle.std.proofs.lemmas.Bool.{false≢true, eqb-true, leb-true}
use Rattle.pm_layout.specs.Sizes.{block_place, blocks_of, class_of, lines_for}
use Rattle.pm_layout.specs.declared.class.Class.{Class}
use Rattle.pm_layout.specs.declared.class.Class.TheVariants.{Lines, Chunks}
use Rattle.pm_objects.specs.Pool.{block_lines}
use Rattle.pm_image.specs.declared.block.Block.{Block}
use Rattle.pm_image.specs.Blocks.{descriptor_word, chunk_word, class_in, run_blocks, blocks_in, chunk_blocks, blocks, pool_words}
use Rattle.pm_image.specs.Contents.{data_words, header_word, size_in}
use Rattle.pm_image.specs.HeapFaults.{bad_chunk, good_block, zeros_behind, heap_fault}
use Rattle.pm_image.specs.Reads.{IsContentsWord, Reads, ReadsBlock, IsHeapWord}
use Rattle.pm_image.proofs.FaultFree.{block_good, chunk_good, described}
use Rattle.pm_image.proofs.Members.{in_range, member_kept, member_made, member_of_part, no_member, only_member}
use Rattle.pm_image.proofs.Rooms.{lines_needed, run_fits, words_fit}

-- the block stands behind this word, and ends before that one
pub record StandsBetween (from to : ℕ) (block : Block) : Type 0 where
  pub begins : from ≤ block.place / 8
  pub ends : block.place / 8 + 8 * block.lines ≤ to

-- a block of a run
in_run : (word bitmap lines : ℕ) (block : Block) → Contains (run_blocks (8 * word) bitmap lines) block → StandsBetween word (word + 512) block
unfolding run_blocks
in_run word bitmap lines block there =
    let made : ℕ → Block = λ k. record { place = block_place (8 * word) lines k; lines = lines } in
    let kept : List ℕ = filter (λ k. eqb (bit_at bitmap k) 1) (range_with_len 0 (blocks_of lines)) in
    let found : (k : ℕ) × (Contains kept k × (made k ≡ block)) = member_made made kept block there in
    let within : (0 ≤ found.0) × (found.0 < 0 + blocks_of lines) = in_range 0 (blocks_of lines) found.0 (member_kept (λ k. eqb (bit_at bitmap k) 1) (range_with_len 0 (blocks_of lines)) found.0 found.1.0) in
    let fits : 1 + lines * found.0 + lines ≤ 64 = run_fits lines found.0 (omega arith) in
    let before : ℕ = lines * found.0 in
    let stands : StandsBetween word (word + 512) (made found.0) = record { begins = omega arith; ends = omega arith } in
    subst (StandsBetween word (word + 512)) found.1.1 stands

-- a block of whole chunks
of_chunks : (word chunks room : ℕ) (block : Block) → chunks ≤ room → Contains (record { place = 8 * word; lines = 64 * chunks } ∷ []) block → StandsBetween word (word + 512 * room) block
of_chunks word chunks room block fits there =
    let whole : Block = record { place = 8 * word; lines = 64 * chunks } in
    let stands : StandsBetween word (word + 512 * room) whole = record { begins = omega arith; ends = omega arith } in
    subst (StandsBetween word (word + 512 * room)) (only_member whole block there) stands

-- the chunks of a good descriptor are in its zone
pub both : (x y : Bool) → cond x y false ≡ true → (x ≡ true) × (y ≡ true)
both true y is = (refl, is)
both false y is = absurd (false≢true is)

pub chunks_fit : (w : ℕ → ℕ) (lanes c chunks : ℕ) → bad_chunk w lanes c ≡ false → class_in (w (descriptor_word lanes c)) ≡ Some (Chunks chunks) → c % 64 + chunks ≤ 64
chunks_fit w lanes c chunks good class =
    leb-true (c % 64 + chunks) 64 (both (leb (c % 64 + chunks) 64) (zeros_behind w (descriptor_word lanes c) chunks) (described w lanes c (Some (Chunks chunks)) good class)).0

-- a block of a chunk is in its zone
in_zone : (w : ℕ → ℕ) (lanes c bitmap : ℕ) (block : Block) (class : Option Class) → bad_chunk w lanes c ≡ false → class_in (w (descriptor_word lanes c)) ≡ class
    → Contains (blocks_in class (8 * chunk_word lanes c) bitmap) block → StandsBetween (chunk_word lanes c) (33792 + 1024 * lanes + 33280 * (c / 64)) block
in_zone w lanes c bitmap block None good is there = absurd (no_member block there)
in_zone w lanes c bitmap block (Some (Lines lines)) good is there =
    let run : StandsBetween (chunk_word lanes c) (chunk_word lanes c + 512) block = in_run (chunk_word lanes c) bitmap lines block there in
    record { begins = run.begins; ends = omega arith }
in_zone w lanes c bitmap block (Some (Chunks chunks)) good is there =
    let fit : c % 64 + chunks ≤ 64 = chunks_fit w lanes c chunks good is in
    let room : chunks ≤ chunks = omega arith in
    let whole : StandsBetween (chunk_word lanes c) (chunk_word lanes c + 512 * chunks) block = of_chunks (chunk_word lanes c) chunks chunks block room there in
    record { begins = whole.begins; ends = omega arith }

-- a block is in the zones
pub in_pool : (w : ℕ → ℕ) (lanes zones : ℕ) (block : Block) → heap_fault w lanes zones ≡ None → Contains (blocks w lanes zones) block → StandsBetween (512 + 1024 * lanes) (pool_words lanes zones) block
unfolding blocks chunk_blocks
in_pool w lanes zones block none there =
    let found : (c : ℕ) × (Contains (range_with_len 0 (64 * zones)) c × Contains (chunk_blocks w lanes c) block) = member_of_part (chunk_blocks w lanes) (range_with_len 0 (64 * zones)) block there in
    let c : ℕ = found.0 in
    let within : (0 ≤ c) × (c < 0 + 64 * zones) = in_range 0 (64 * zones) c found.1.0 in
    let stands : StandsBetween (chunk_word lanes c) (33792 + 1024 * lanes + 33280 * (c / 64)) block =
    in_zone w lanes c (w (chunk_word lanes c)) block (class_in (w (descriptor_word lanes c))) (chunk_good w lanes zones c none found.1.0) refl found.1.1 in
    record { begins = omega arith; ends = omega arith }

-- an object's words are in its block
middle : (a b c d : Bool) → (a && b && c && d) ≡ true → b ≡ true
middle true true c d is = refl
middle true false c d is = absurd (false≢true is)
middle false b c d is = absurd (false≢true is)

pub object_fits : (w : ℕ → ℕ) (block : Block) → good_block w block ≡ true → 8 + data_words (size_in w block) ≤ 8 * block.lines
unfolding good_block
object_fits w block good =
    let size : ℕ = size_in w block in
    let lines : block_lines (class_of size) ≡ block.lines = eqb-true (block_lines (class_of size)) block.lines
    (middle (leb 1 size && leb size 262080) (eqb (block_lines (class_of size)) block.lines) (eqb (header_word w block 6) 0) (eqb (header_word w block 7) 0) good) in
    words_fit size block.lines (subst (λ (n : ℕ). lines_for size ≤ n) lines (lines_needed size))

contents_in_pool : (w : ℕ → ℕ) (lanes zones i : ℕ) → heap_fault w lanes zones ≡ None → IsContentsWord w lanes zones i → (512 + 1024 * lanes ≤ i) × (i < pool_words lanes zones)
contents_in_pool w lanes zones i none is =
    let stands : StandsBetween (512 + 1024 * lanes) (pool_words lanes zones) is.block = in_pool w lanes zones is.block none is.is_there in
    let fits : 8 + data_words (size_in w is.block) ≤ 8 * is.block.lines = object_fits w is.block (block_good w lanes zones is.block none is.is_there) in
    let read : ReadsBlock w is.block i = is.is_read in
    (omega arith, omega arith)

pub reads_heap : (w : ℕ → ℕ) (lanes zones i : ℕ) → heap_fault w lanes zones ≡ None → Reads w lanes zones i → IsHeapWord lanes zones i
reads_heap w lanes zones i none (inl root) = inl root
reads_heap w lanes zones i none (inr (inl descriptor)) = inr (omega arith, omega arith)
reads_heap w lanes zones i none (inr (inr (inl bitmap))) = inr (omega arith, omega arith)
reads_heap w lanes zones i none (inr (inr (inr contents))) = inr (contents_in_pool w lanes zones i none contents)
