-- A WORD INTO WHICH BYTES ARE PUT is a word.
use Rattle.std.proofs.Common.{ℕ, zero, suc, ◌+◌, ◌-◌, ◌*◌, ◌^◌, ◌<◌, List, [], ◌∷◌, ◌++◌, length, take, drop, sym, subst, arith}
use Rattle.std.specs.Int.{byte_at, bytes_low_first}
use Rattle.pm_words.specs.Words.{AreBytes, bytes_of, patched, word_at}
use Rattle.pm_words.proofs.Patching.{AreBytes-drop, AreBytes-take, bytes_of-one}
use Rattle.pm_crash.specs.Writes.{written_word}

bytes_behind : (xs ys : List ℕ) → AreBytes xs → AreBytes ys → AreBytes (xs ++ ys)
bytes_behind [] ys first rest i = rest i
bytes_behind (x ∷ xs) ys first rest zero = first 0
bytes_behind (x ∷ xs) ys first rest (suc i) = bytes_behind xs ys (λ k. first (suc k)) rest i

low_byte : (j word : ℕ) → byte_at j word < 256
low_byte zero word = omega arith
low_byte (suc j) word = omega arith

low_bytes : (j n word : ℕ) → AreBytes (bytes_low_first j n word)
low_bytes j zero word i = omega arith
low_bytes j (suc n) word zero = low_byte j word
low_bytes j (suc n) word (suc i) = low_bytes (suc j) n word i

-- eight bytes spell a number below 2^64
eight_bytes : (bytes : List ℕ) → AreBytes bytes → word_at bytes 0 < 2 ^ 64
unfolding word_at
eight_bytes bytes all =
    let a = all 0 in let b = all 1 in let c = all 2 in let d = all 3 in let e = all 4 in let f = all 5 in let g = all 6 in let h = all 7 in
    omega (arith, a, b, c, d, e, f, g, h)

patched_small : (from : ℕ) (bytes : List ℕ) (word : ℕ) → AreBytes bytes → patched from bytes word < 2 ^ 64
unfolding patched
patched_small from bytes word fits =
    let old : AreBytes (bytes_of (word ∷ [])) = subst AreBytes (sym (bytes_of-one word)) (low_bytes 0 8 word) in
    eight_bytes (take from (bytes_of (word ∷ [])) ++ bytes ++ drop (from + length bytes) (bytes_of (word ∷ [])))
    (bytes_behind (take from (bytes_of (word ∷ [])) ++ bytes) (drop (from + length bytes) (bytes_of (word ∷ [])))
    (bytes_behind (take from (bytes_of (word ∷ []))) bytes (AreBytes-take from (bytes_of (word ∷ [])) old) fits) (AreBytes-drop (from + length bytes) (bytes_of (word ∷ [])) old))

pub written_small : (place : ℕ) (bytes : List ℕ) (i x : ℕ) → AreBytes bytes → written_word place bytes i x < 2 ^ 64
written_small place bytes i x fits = patched_small (place - 8 * i) (take (8 - (place - 8 * i)) (drop (8 * i - place) bytes)) x
    (AreBytes-take (8 - (place - 8 * i)) (drop (8 * i - place) bytes) (AreBytes-drop (8 * i - place) bytes fits))
