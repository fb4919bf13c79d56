-- A word that is set is the eight bytes of its number, written at a multiple of eight.
use Rattle.std.proofs.Common.{◌≡◌, ℕ, zero, suc, ◌-◌, ◌*◌, ◌/◌, ◌%◌, ◌^◌, ◌<◌, eqb, List, [], ◌∷◌, take, drop, slice_index, refl, sym, ◌∙◌, ap, subst, arith}
use Rattle.std.specs.List.{Contains}
use Rattle.std.proofs.lemmas.Bool.{cond-false, cond-true, eq-eqb, ne_eqb}
use Rattle.pm_words.specs.Words.{AreBytes, AreWords, bytes_of, patched, word_at, words_of}
use Rattle.pm_words.proofs.Reading.{words_of-bytes_of}
use Rattle.solo_model.specs.Actions.{number_bytes}
use Rattle.solo_model.specs.Bytes.{covered_words}
use Rattle.solo_view.specs.Bits.{all_bits, with_bits}
use Rattle.solo_world.specs.Entries.{set_word}
use Rattle.solo_world.specs.History.{made_final}
use Rattle.solo_world.proofs.Differences.{made_whole}
use Rattle.solo_crash.specs.Writes.{IsWritten, written_word}
use Rattle.solo_crash.proofs.Covered.{byte_is_covered, covered_has_byte}

-- the bytes of a number, as a word has them
number_is_bytes : (value : ℕ) → number_bytes value ≡ bytes_of (value ∷ [])
unfolding bytes_of
number_is_bytes value =
    let first : value / 1 % 256 ≡ value % 256 = omega arith in
    (λ j. first j ∷ value / 256 % 256 ∷ value / 65536 % 256 ∷ value / 16777216 % 256 ∷ value / 4294967296 % 256 ∷ value / 1099511627776 % 256 ∷ value / 281474976710656 % 256 ∷ value / 72057594037927936 % 256 ∷ [])

pub number_has_bytes : (value : ℕ) → AreBytes (number_bytes value)
number_has_bytes value zero = omega arith
number_has_bytes value (suc zero) = omega arith
number_has_bytes value (suc (suc zero)) = omega arith
number_has_bytes value (suc (suc (suc zero))) = omega arith
number_has_bytes value (suc (suc (suc (suc zero)))) = omega arith
number_has_bytes value (suc (suc (suc (suc (suc zero))))) = omega arith
number_has_bytes value (suc (suc (suc (suc (suc (suc zero)))))) = omega arith
number_has_bytes value (suc (suc (suc (suc (suc (suc (suc zero))))))) = omega arith
number_has_bytes value (suc (suc (suc (suc (suc (suc (suc (suc i)))))))) = omega arith

word_alone : (value : ℕ) → value < 2 ^ 64 → AreWords (value ∷ [])
word_alone value small zero = small
word_alone value small (suc i) = omega arith

-- read back they are the number
number_is_word : (value : ℕ) → value < 2 ^ 64 → word_at (bytes_of (value ∷ [])) 0 ≡ value
unfolding words_of bytes_of
number_is_word value small = ap (λ (ws : List ℕ). slice_index ws 0) (words_of-bytes_of (value ∷ []) (word_alone value small))

-- written over a whole word they make it the number
patched_whole : (value x : ℕ) → value < 2 ^ 64 → patched 0 (number_bytes value) x ≡ value
unfolding patched word_at
patched_whole value x small = ap (λ (bytes : List ℕ). word_at bytes 0) (number_is_bytes value) ∙ number_is_word value small

written_whole : (place i value x : ℕ) → place ≡ 8 * i → value < 2 ^ 64 → written_word place (number_bytes value) i x ≡ value
written_whole place i value x at small =
    let before : place - 8 * i ≡ 0 = omega (arith, at) in
    let behind : 8 * i - place ≡ 0 = omega (arith, at) in
    (λ j. patched (before j) (take (8 - before j) (drop (behind j) (number_bytes value))) x) ∙ patched_whole value x small

-- so an entry that sets a word writes the number's bytes there
pub set_is_written : (w : ℕ → ℕ) (place value : ℕ) → place % 8 ≡ 0 → value < 2 ^ 64 → IsWritten w (λ i. made_final (set_word (place / 8) value ∷ []) i (w i)) place (number_bytes value)
unfolding made_final
set_is_written w place value aligned small =
    let word : ℕ = place / 8 in
    let begins : place ≡ 8 * word = omega arith in
    record {
      covered = λ i there.
          let has = covered_has_byte place 8 i there in
          let here : word ≡ i = omega (arith, has.1, has.2) in
          cond-true (eqb word i) (with_bits all_bits value (w i)) (w i) (eq-eqb word i here)
          ∙ made_whole (set_word word value) (w i) refl
          ∙ sym (written_whole place i value (w i) (begins ∙ ap (λ (n : ℕ). 8 * n) here) small);
      others = λ i none.
          cond-false (eqb word i) (with_bits all_bits value (w i)) (w i) (ne_eqb word i (λ here. none (subst (λ (n : ℕ). Contains (covered_words place 8) n) here (byte_is_covered place 8 word (omega arith) (omega (arith, begins)) (omega (arith, begins))))));
    }
