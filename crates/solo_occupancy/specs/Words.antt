-- The occupancy words as the pool's words give them, as lists.
use Rattle.std.specs.Prelude.{◌≡◌, ◌↔◌, ℕ, zero, suc, ◌+◌, ◌*◌, ◌^◌, ◌<◌, ◌≤◌, nat_lt, Bool, true, if◌then◌else◌, List, map}
use Rattle.std.specs.Int.{bit_at}
use Rattle.std.specs.List.{list_any, range_with_len}
use Rattle.solo_view.specs.Blocks.{is_chunk}
use Rattle.solo_view.specs.Occupancy.{is_block_taken, is_chunk_taken, reaches}
use Rattle.solo_occupancy.specs.declared.taken.TakenChunks.{TakenChunks}

-- 1 for a bit that passes the test
abbrev pub bit_if : Bool → ℕ
bit_if passes = if passes then 1 else 0

-- the word that has, of so many bits, those that pass the test
unfoldable pub word_of_bits : (ℕ → Bool) → ℕ → ℕ
word_of_bits test zero = 0
word_of_bits test (suc n) = bit_if (test n) * 2 ^ n + word_of_bits test n

-- the word of a page, which is 0 where the page is no chunk, and that of a zone, which is 0 where the pool has it not
abbrev pub page_word_of : (ℕ → ℕ) → ℕ → ℕ → ℕ
page_word_of words lanes page = if is_chunk lanes page then word_of_bits (is_block_taken words lanes page) 64 else 0

abbrev pub zone_word_of : (ℕ → ℕ) → ℕ → ℕ → ℕ → ℕ
zone_word_of words lanes zones zone = if nat_lt zone zones then word_of_bits (is_chunk_taken words lanes zone) 64 else 0

-- those of all pages, and those of 32 zones
unfoldable pub run_words_of : (ℕ → ℕ) → ℕ → ℕ → List ℕ
run_words_of words lanes zones = map (page_word_of words lanes) (range_with_len 0 (1 + 2 * lanes + 65 * zones))

unfoldable pub zone_words_of : (ℕ → ℕ) → ℕ → ℕ → List ℕ
zone_words_of words lanes zones = map (zone_word_of words lanes zones) (range_with_len 0 32)

-- Of so many first chunks of a zone, this is what is taken by the words: up to where the huge blocks reach that begin there, and a bit for each of the chunks
-- that is taken, and no other.
pub record TellsChunks (words : ℕ → ℕ) (lanes zone count : ℕ) (taken : TakenChunks) : Type 0 where
  pub reached : (other : ℕ) → list_any (reaches words lanes zone other) (range_with_len 0 count) ≡ nat_lt other taken.end
  pub below : (chunk : ℕ) → chunk < count → (bit_at taken.bits chunk ≡ 1) ↔ (is_chunk_taken words lanes zone chunk ≡ true)
  pub above : (chunk : ℕ) → count ≤ chunk → bit_at taken.bits chunk ≡ 0
