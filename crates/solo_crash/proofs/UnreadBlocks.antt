-- No meaning reads a word of a block that overlaps none of its blocks, if that is one of a run, or chunks none of which is a run.
use Rattle.std.proofs.Common.{◌≡◌, ◌≢◌, ◌⊎◌, inl, inr, ℕ, ◌+◌, ◌-◌, ◌*◌, ◌/◌, ◌%◌, ◌<◌, ◌≤◌, Some, None, sym, ◌∙◌, ap, subst, arith}
use Rattle.std.specs.List.{Contains}
use Rattle.pm_layout.specs.Sizes.{blocks_of}
use Rattle.pm_layout.specs.declared.class.Class.TheVariants.{Lines}
use Rattle.pm_image.specs.declared.block.Block.{Block}
use Rattle.pm_image.specs.Blocks.{blocks, chunk_word, class_in, descriptor_word}
use Rattle.pm_image.specs.Contents.{data_words, size_in}
use Rattle.pm_image.specs.HeapFaults.{heap_fault}
use Rattle.pm_image.specs.Reads.{Reads, ReadsBlock}
use Rattle.pm_image.proofs.FaultFree.{block_good}
use Rattle.pm_image.proofs.HeapWords.{object_fits}
use Rattle.solo_crash.specs.HeapChanges.{AreDisjoint}
use Rattle.solo_crash.specs.NewObjects.{block_of_chunks, block_of_run, IsChunkWord, IsWordOf}
use Rattle.solo_crash.proofs.OneChange.{chunks_block_words, run_block_words}
use Rattle.solo_crash.proofs.WordsOfNew.{words_apart}

-- the block is one of a run's; or it is whole chunks of a zone, none of which is a run by the words
pub record IsOneOfRun (lanes zones : ℕ) (block : Block) : Type 0 where
  pub chunk : ℕ
  pub lines : ℕ
  pub index : ℕ
  pub in_zones : chunk < 64 * zones
  pub inside : index < blocks_of lines
  pub is : block ≡ block_of_run lanes chunk lines index

pub record AreChunks (w : ℕ → ℕ) (lanes zones : ℕ) (block : Block) : Type 0 where
  pub zone : ℕ
  pub first : ℕ
  pub count : ℕ
  pub in_zones : zone < zones
  pub low : first < 64
  pub fits : first + count ≤ 64
  pub is : block ≡ block_of_chunks lanes (64 * zone + first) count
  pub plain : (j lines : ℕ) → j < count → class_in (w (descriptor_word lanes (64 * zone + (first + j)))) ≢ Some (Lines lines)

-- what a block reads is a word of it
pub read_of_block : (w : ℕ → ℕ) (lanes zones i : ℕ) (block : Block) → heap_fault w lanes zones ≡ None → Contains (blocks w lanes zones) block → ReadsBlock w block i → IsWordOf block i
read_of_block w lanes zones i block none there read =
    let fits : 8 + data_words (size_in w block) ≤ 8 * block.lines = object_fits w block (block_good w lanes zones block none there) in
    let to = read.to in
    record { from = read.from; to = omega (arith, fits, to) }

module _ (w : ℕ → ℕ) (lanes zones : ℕ) (none : heap_fault w lanes zones ≡ None) (block : Block) (apart : (b : Block) → Contains (blocks w lanes zones) b → AreDisjoint block b) where
  module _ (run : IsOneOfRun lanes zones block) (i : ℕ) (word : IsWordOf block i) where
    in_run : (chunk_word lanes run.chunk + 8 ≤ i) × (i < chunk_word lanes run.chunk + 512)
    in_run =
        let here : IsWordOf (block_of_run lanes run.chunk run.lines run.index) i = subst (λ (b : Block). IsWordOf b i) run.is word in
        run_block_words lanes run.chunk run.lines run.index i run.inside here.from here.to

    pub run_in_chunk : IsChunkWord lanes zones i
    run_in_chunk = let from = in_run.0 in record { chunk = run.chunk; in_zones = run.in_zones; from = omega (arith, from); to = in_run.1 }

    pub run_unread : Reads w lanes zones i → ⊥
    run_unread (inl root) = let from = in_run.0 in omega (arith, from, root)
    run_unread (inr (inl descriptor)) = let from = in_run.0 in let to = in_run.1 in let is = descriptor.is_word in omega (arith, from, to, is)
    run_unread (inr (inr (inl bitmap))) = let from = in_run.0 in let to = in_run.1 in let is = bitmap.is_word in omega (arith, from, to, is)
    run_unread (inr (inr (inr contents))) = words_apart block contents.block i (apart contents.block contents.is_there) word (read_of_block w lanes zones i contents.block none contents.is_there contents.is_read)

  module _ (has : AreChunks w lanes zones block) (i : ℕ) (word : IsWordOf block i) where
    abbrev c : ℕ
    c = 64 * has.zone + has.first

    in_chunks : (chunk_word lanes c ≤ i) × (i < chunk_word lanes c + 512 * has.count)
    in_chunks =
        let here : IsWordOf (block_of_chunks lanes c has.count) i = subst (λ (b : Block). IsWordOf b i) has.is word in
        chunks_block_words lanes c has.count i here.from here.to

    -- counted from the zone's first chunk
    begins : 1024 + 1024 * lanes + 33280 * has.zone + 512 * has.first ≤ i
    begins = let from = in_chunks.0 in let low = has.low in omega (arith, from, low)

    ends : i < 1024 + 1024 * lanes + 33280 * has.zone + 512 * (has.first + has.count)
    ends = let to = in_chunks.1 in let low = has.low in omega (arith, to, low)

    abbrev number : ℕ
    number = (i - (1024 + 1024 * lanes + 33280 * has.zone)) / 512

    pub chunks_in_chunk : IsChunkWord lanes zones i
    chunks_in_chunk =
        let from = begins in let to = ends in let fits = has.fits in let inside = has.in_zones in
        let low : number < 64 = omega (arith, from, to, fits) in
        record {
          chunk = 64 * has.zone + number;
          in_zones = omega (arith, low, inside);
          from = omega (arith, from, low);
          to = omega (arith, from, low);
        }

    pub chunks_unread : Reads w lanes zones i → ⊥
    chunks_unread (inl root) = let from = begins in omega (arith, from, root)
    chunks_unread (inr (inl descriptor)) = let from = begins in let to = ends in let fits = has.fits in let is = descriptor.is_word in omega (arith, from, to, fits, is)
    chunks_unread (inr (inr (inl bitmap))) =
        let from = begins in let to = ends in let fits = has.fits in let is = bitmap.is_word in
        let k : ℕ = bitmap.chunk in
        let of_zone : k / 64 ≡ has.zone = omega (arith, from, to, fits, is) in
        let after_first : has.first ≤ k % 64 = omega (arith, from, is, of_zone) in
        let before_last : k % 64 < has.first + has.count = omega (arith, to, is, of_zone) in
        let at : k ≡ 64 * has.zone + (has.first + (k % 64 - has.first)) = omega (arith, of_zone, after_first) in
        has.plain (k % 64 - has.first) bitmap.lines (omega (arith, after_first, before_last)) (ap (λ (n : ℕ). class_in (w (descriptor_word lanes n))) (sym at) ∙ bitmap.is_run)
    chunks_unread (inr (inr (inr contents))) = words_apart block contents.block i (apart contents.block contents.is_there) word (read_of_block w lanes zones i contents.block none contents.is_there contents.is_read)

-- so it is of either
pub free_in_chunk : (w : ℕ → ℕ) (lanes zones : ℕ) (block : Block) → IsOneOfRun lanes zones block ⊎ AreChunks w lanes zones block → heap_fault w lanes zones ≡ None
    → ((b : Block) → Contains (blocks w lanes zones) b → AreDisjoint block b) → (i : ℕ) → IsWordOf block i → IsChunkWord lanes zones i
free_in_chunk w lanes zones block (inl run) none apart i word = run_in_chunk w lanes zones none block apart run i word
free_in_chunk w lanes zones block (inr has) none apart i word = chunks_in_chunk w lanes zones none block apart has i word

pub free_unread : (w : ℕ → ℕ) (lanes zones : ℕ) (block : Block) → IsOneOfRun lanes zones block ⊎ AreChunks w lanes zones block → heap_fault w lanes zones ≡ None
    → ((b : Block) → Contains (blocks w lanes zones) b → AreDisjoint block b) → (i : ℕ) → IsWordOf block i → ¬ Reads w lanes zones i
free_unread w lanes zones block (inl run) none apart i word = run_unread w lanes zones none block apart run i word
free_unread w lanes zones block (inr has) none apart i word = chunks_unread w lanes zones none block apart has i word
