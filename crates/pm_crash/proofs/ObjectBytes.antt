-- An object's bytes one by one: they stand from its offset on.
use Rattle.std.proofs.Common.{◌≡◌, ⊎_elim, ℕ, ◌+◌, ◌*◌, ◌/◌, ◌%◌, ◌<◌, ◌≤◌, List, length, take, drop, map, get_or, sym, ◌∙◌, ap, arith}
use Rattle.std.specs.List.{range_with_len}
use Rattle.std.proofs.lemmas.Bool.{cases_lt}
use Rattle.std.proofs.lemmas.Grind.{div_ceil_times}
use Rattle.std.proofs.lemmas.List.{ext_get_or, get_or-drop, get_or-take, length-drop, length-take-le}
use Rattle.std.proofs.lemmas.List.FromFn.{length-map-range_with_len}
use Rattle.pm_words.specs.Words.{bytes_of}
use Rattle.pm_words.proofs.Reading.{length-bytes_of}
use Rattle.pm_image.specs.declared.block.Block.{Block}
use Rattle.pm_image.specs.Contents.{bytes_in, data_words, offset_in, size_in}
use Rattle.pm_image.proofs.Pools.{length-bytes_in}
use Rattle.pm_model.specs.Items.{bytes_at}
use Rattle.pm_model.specs.Transaction.{covered_words}
use Rattle.pm_crash.proofs.Bytewise.{byte_at_place, byte_of_words}
use Rattle.pm_crash.proofs.Covered.{count_of, covers_some}

-- byte k of an object whose block begins a word
pub byte_of_object : (w : ℕ → ℕ) (block : Block) (k : ℕ) → block.place % 8 ≡ 0 → k < size_in w block → get_or (bytes_in w block) k 0 ≡ byte_at_place w (offset_in block + k)
unfolding bytes_in
byte_of_object w block k begins inside =
    let size : ℕ = size_in w block in
    let first : ℕ = block.place / 8 + 8 in
    let enough = div_ceil_times size 8 (omega arith) in
    get_or-take size (bytes_of (map w (range_with_len first (data_words size)))) k 0 inside
    ∙ byte_of_words w first (data_words size) k (offset_in block + k) (omega arith) (omega arith)

-- a range of no bytes, and one of some
none_read : (w : ℕ → ℕ) (at len : ℕ) (bytes words : List ℕ) → len ≡ 0 → bytes_at at len bytes ≡ take len words
none_read w at len bytes words none = (λ j. take (none j) (drop at bytes)) ∙ sym (ap (λ (n : ℕ). take n words) none)

some_read : (w : ℕ → ℕ) (at len : ℕ) (block : Block) → block.place % 8 ≡ 0 → at + len ≤ size_in w block → 0 < len
    → bytes_at at len (bytes_in w block) ≡ take len (drop (at % 8) (bytes_of (map w (covered_words (offset_in block + at) len))))
some_read w at len block begins inside some =
    let place : ℕ = offset_in block + at in
    let count : ℕ = count_of place len in
    let words : List ℕ = map w (range_with_len (place / 8) count) in
    let long : length words ≡ count = length-map-range_with_len w (place / 8) count in
    let bytes_long : length (bytes_of words) ≡ 8 * length words = length-bytes_of words in
    let size : length (bytes_in w block) ≡ size_in w block = length-bytes_in w block in
    let left = length-drop at (bytes_in w block) in
    let right = length-drop (at % 8) (bytes_of words) in
    let here : length (bytes_at at len (bytes_in w block)) ≡ len = length-take-le len (drop at (bytes_in w block)) (omega arith) in
    let there : length (take len (drop (at % 8) (bytes_of words))) ≡ len = length-take-le len (drop (at % 8) (bytes_of words)) (omega arith) in
    ext_get_or 0 (bytes_at at len (bytes_in w block)) (take len (drop (at % 8) (bytes_of words))) (here ∙ sym there)
    (λ k below.
    get_or-take len (drop at (bytes_in w block)) k 0 (omega arith)
    ∙ get_or-drop at (bytes_in w block) k 0
    ∙ byte_of_object w block (at + k) begins (omega arith)
    ∙ sym (get_or-take len (drop (at % 8) (bytes_of words)) k 0 (omega arith)
    ∙ get_or-drop (at % 8) (bytes_of words) k 0
    ∙ byte_of_words w (place / 8) count (at % 8 + k) (offset_in block + (at + k)) (omega arith) (omega arith)))
    ∙ ap (λ (is : List ℕ). take len (drop (at % 8) (bytes_of (map w is)))) (sym (covers_some place len some))

pub aligned_range : (w : ℕ → ℕ) (at len : ℕ) (block : Block) → block.place % 8 ≡ 0 → at + len ≤ size_in w block
    → bytes_at at len (bytes_in w block) ≡ take len (drop (at % 8) (bytes_of (map w (covered_words (offset_in block + at) len))))
aligned_range w at len block begins inside = ⊎_elim
    (λ (some : 0 < len). some_read w at len block begins inside some)
    (λ (none : len ≤ 0). none_read w at len (bytes_in w block) (drop (at % 8) (bytes_of (map w (covered_words (offset_in block + at) len)))) (omega arith))
    (cases_lt 0 len)
