-- Bytes that are copied into a word's eight bytes make the patched word, and its bytes are those.
use Rattle.std.proofs.Common.{◌≡◌, ℕ, zero, suc, ◌+◌, ◌-◌, ◌<◌, ◌≤◌, List, [], ◌∷◌, ◌++◌, length, take, drop, refl, sym, ◌∙◌, ap, subst, arith, append_assoc, length-append}
use Rattle.std.proofs.lemmas.List.{drop-drop, get_or-drop, length-drop, length-take-le, take_all}
use Rattle.std.specs.Int.{w64, byte_at, bytes_low_first, from_le_bytes, to_le_bytes}
use Rattle.byteorder.specs.Endian.{little_bytes}
use borrow.Rule.Slice.PartMut.{put_mid}
use Rattle.pm_words.specs.Words.{word_at, bytes_of, patched, AreBytes}
use Rattle.pm_words.proofs.Reading.{bytes_of_word}

-- the number that eight bytes spell is their first word
first_word : (bytes : List ℕ) → from_le_bytes w64 bytes ≡ word_at bytes 0
unfolding word_at
first_word bytes = omega arith

-- `old` has the bytes of the word, and `part` stands in their place from byte `from` on
pub copied_is_patched : (from : ℕ) (bytes part old : List ℕ) (word : ℕ) → part ≡ bytes → old ≡ to_le_bytes w64 word
    → from_le_bytes w64 (put_mid from (from + length bytes - from) old part) ≡ patched from bytes word
unfolding patched bytes_of
copied_is_patched from bytes part old word same spelled =
    let count : from + length bytes - from ≡ length bytes = omega arith in
    (λ j. from_le_bytes w64 (put_mid from (count j) (spelled j) (same j)))
    ∙ ap (λ (rest : List ℕ). from_le_bytes w64 (take from (to_le_bytes w64 word) ++ (bytes ++ rest))) (drop-drop (length bytes) from (to_le_bytes w64 word))
    ∙ ap (from_le_bytes w64) (sym (append_assoc (take from (to_le_bytes w64 word)) bytes (drop (from + length bytes) (to_le_bytes w64 word))))
    ∙ first_word ((take from (to_le_bytes w64 word) ++ bytes) ++ drop (from + length bytes) (to_le_bytes w64 word))

-- parts of bytes, and bytes behind bytes, are bytes
pub AreBytes-take : (n : ℕ) (xs : List ℕ) → AreBytes xs → AreBytes (take n xs)
AreBytes-take zero xs fits i = omega arith
AreBytes-take (suc n) [] fits i = omega arith
AreBytes-take (suc n) (x ∷ xs) fits zero = fits 0
AreBytes-take (suc n) (x ∷ xs) fits (suc i) = AreBytes-take n xs (λ k. fits (suc k)) i

pub AreBytes-drop : (n : ℕ) (xs : List ℕ) → AreBytes xs → AreBytes (drop n xs)
AreBytes-drop n xs fits i = subst (λ (b : ℕ). b < 256) (sym (get_or-drop n xs i 0)) (fits (n + i))

AreBytes-append : (xs ys : List ℕ) → AreBytes xs → AreBytes ys → AreBytes (xs ++ ys)
AreBytes-append [] ys first rest i = rest i
AreBytes-append (x ∷ xs) ys first rest zero = first 0
AreBytes-append (x ∷ xs) ys first rest (suc i) = AreBytes-append xs ys (λ k. first (suc k)) rest i

byte_small : (j word : ℕ) → byte_at j word < 256
byte_small zero word = omega arith
byte_small (suc j) word = omega arith

AreBytes-word : (j n word : ℕ) → AreBytes (bytes_low_first j n word)
AreBytes-word j zero word i = omega arith
AreBytes-word j (suc n) word zero = byte_small j word
AreBytes-word j (suc n) word (suc i) = AreBytes-word (suc j) n word i

-- the bytes of one word
pub bytes_of-one : (word : ℕ) → bytes_of (word ∷ []) ≡ little_bytes 8 word
unfolding bytes_of
bytes_of-one word = refl

pub length-word : (word : ℕ) → length (bytes_of (word ∷ [])) ≡ 8
unfolding bytes_of
length-word word = refl

-- the bytes of a patched word are those of the word with the new ones in their place
pub bytes_of-patched : (from : ℕ) (bytes : List ℕ) (word : ℕ) → from + length bytes ≤ 8 → AreBytes bytes
    → bytes_of (patched from bytes word ∷ []) ≡ take from (bytes_of (word ∷ [])) ++ bytes ++ drop (from + length bytes) (bytes_of (word ∷ []))
unfolding patched
bytes_of-patched from bytes word room fits =
    let old : List ℕ = bytes_of (word ∷ []) in
    let new : List ℕ = take from old ++ bytes ++ drop (from + length bytes) old in
    let old_bytes : AreBytes old = subst AreBytes (sym (bytes_of-one word)) (AreBytes-word 0 8 word) in
    let new_bytes : AreBytes new = AreBytes-append (take from old ++ bytes) (drop (from + length bytes) old) (AreBytes-append (take from old) bytes (AreBytes-take from old old_bytes) fits) (AreBytes-drop (from + length bytes) old old_bytes) in
    let eight : length old ≡ 8 = length-word word in
    let before : length (take from old) ≡ from = length-take-le from old (omega arith) in
    let behind = length-drop (from + length bytes) old in
    let both = length-append (take from old) bytes in
    let all = length-append (take from old ++ bytes) (drop (from + length bytes) old) in
    let count : length new ≡ 8 = omega arith in
    bytes_of-one (word_at new 0) ∙ bytes_of_word new 0 new_bytes (omega arith) ∙ take_all 8 new (omega arith)
