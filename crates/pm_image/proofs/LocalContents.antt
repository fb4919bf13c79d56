-- What stands in a block depends on the words of its header line and of its object's bytes alone.
use Rattle.std.proofs.Common.{◌≡◌, ℕ, ◌+◌, ◌/◌, ◌<◌, ◌≤◌, List, map, take, ap, ◌∙◌, sym, arith}
use Rattle.std.specs.List.{range_with_len}
use Rattle.pm_words.specs.Words.{bytes_of}
use Rattle.pm_image.specs.declared.block.Block.{Block}
use Rattle.pm_image.specs.Contents.{header_word, size_in, bytes_in, data_words}
use Rattle.pm_image.specs.Reads.{AgreeOn, ReadsBlock, SameContents}
use Rattle.pm_image.proofs.Members.{map_same, in_range}

-- word k of the header line
pub header_same : (w v : ℕ → ℕ) (block : Block) (k : ℕ) → k < 8 → AgreeOn (ReadsBlock w block) w v → header_word v block k ≡ header_word w block k
header_same w v block k inside agree = sym (agree.same (block.place / 8 + k) (record { from = omega arith; to = omega arith }))

bytes_same : (w v : ℕ → ℕ) (block : Block) → AgreeOn (ReadsBlock w block) w v → bytes_in v block ≡ bytes_in w block
unfolding bytes_in
bytes_same w v block agree =
    let first : ℕ = block.place / 8 + 8 in
    let words : map v (range_with_len first (data_words (size_in w block))) ≡ map w (range_with_len first (data_words (size_in w block))) =
    map_same v w (range_with_len first (data_words (size_in w block))) (λ i there.
    let within : (first ≤ i) × (i < first + data_words (size_in w block)) = in_range first (data_words (size_in w block)) i there in
    sym (agree.same i (record { from = omega arith; to = omega arith }))) in
    (λ j. take (header_same w v block 1 (omega arith) agree j) (bytes_of (map v (range_with_len first (data_words (header_same w v block 1 (omega arith) agree j))))))
    ∙ ap (λ (ws : List ℕ). take (size_in w block) (bytes_of ws)) words

pub contents_local : (w v : ℕ → ℕ) (block : Block) → AgreeOn (ReadsBlock w block) w v → SameContents w v block
contents_local w v block agree = record {
  same_kind = header_same w v block 0 (omega arith) agree;
  same_size = header_same w v block 1 (omega arith) agree;
  same_bytes = bytes_same w v block agree;
  same_first = header_same w v block 5 (omega arith) agree;
}
