-- The words of bytes and the bytes of words lead to one another.
use Rattle.std.proofs.Common.{◌≡◌, ℕ, zero, suc, ◌+◌, ◌*◌, ◌/◌, ◌%◌, ◌<◌, ◌≤◌, List, [], ◌∷◌, ◌++◌, length, get_or, drop, take, map, slice_index, refl, sym, ◌∙◌, ap, inl, inr, arith, length-append}
use Rattle.std.proofs.lemmas.List.{get_or-drop, get_or_past}
use Rattle.std.proofs.lemmas.List.FromFn.{fill_by_all}
use Rattle.std.specs.List.{flat_map, range_with_len}
use Rattle.byteorder.specs.Endian.{little_number, little_bytes}
use Rattle.byteorder.specs.Numbers.{little_number-reads_back}
use Rattle.std.proofs.Math.Seq.{drop-append-add}
use Rattle.std.proofs.lemmas.List.{drop_all, drop-drop, take-append-drop, get_or-take, length-take, length-drop}
use Rattle.std.proofs.lemmas.Grind.{flat_map-append}
use Rattle.std.proofs.lemmas.Nat.{le_bytes_8}
use Rattle.std.proofs.lemmas.Bool.{cases_lt}
use Rattle.pm_words.specs.Words.{word_at, words_of, bytes_of, AreBytes, AreWords}

-- what a reader of eight bytes finds at 8 i is word i
pub little_number-word_at : (bytes : List ℕ) (i : ℕ) → little_number 8 (drop (8 * i) bytes) ≡ word_at bytes i
unfolding word_at
little_number-word_at bytes i = simp get_or-drop (omega arith)

-- words that are read one by one are the words of the bytes
pub words_read : (bytes words : List ℕ) → length bytes ≡ 8 * length words → ((i : ℕ) → i < length words → slice_index words i ≡ little_number 8 (drop (8 * i) bytes)) → words ≡ words_of bytes
unfolding words_of
words_read bytes words long each =
    let count : length words ≡ length bytes / 8 = omega arith in
    fill_by_all (word_at bytes) words (length bytes / 8) 0 count (λ i h. each i (omega arith) ∙ little_number-word_at bytes i)

-- the bytes of word i stand at 8 i
little_number-flat_map : (words : List ℕ) (i : ℕ) → i < length words → AreWords words → little_number 8 (drop (8 * i) (flat_map (little_bytes 8) words)) ≡ get_or words i 0
little_number-flat_map [] i h fits = absurd (omega arith)
little_number-flat_map (w ∷ words) zero h fits = little_number-reads_back 8 w (flat_map (little_bytes 8) words) (fits 0)
little_number-flat_map (w ∷ words) (suc i) h fits =
    let rest : List ℕ = flat_map (little_bytes 8) words in
    let place : 8 * suc i ≡ length (little_bytes 8 w) + 8 * i = omega arith in
    let moved : drop (8 * suc i) (little_bytes 8 w ++ rest) ≡ drop (8 * i) rest = ap (λ (n : ℕ). drop n (little_bytes 8 w ++ rest)) place ∙ drop-append-add (little_bytes 8 w) rest (8 * i) in
    ap (little_number 8) moved ∙ little_number-flat_map words i (omega arith) (λ k. fits (suc k))

length-flat_map_bytes : (words : List ℕ) → length (flat_map (little_bytes 8) words) ≡ 8 * length words
length-flat_map_bytes [] = refl
length-flat_map_bytes (w ∷ words) = length-append (little_bytes 8 w) (flat_map (little_bytes 8) words) ∙ (let rest = length-flat_map_bytes words in omega (arith, rest))

pub length-bytes_of : (words : List ℕ) → length (bytes_of words) ≡ 8 * length words
unfolding bytes_of
length-bytes_of words = length-flat_map_bytes words

pub words_of-bytes_of : (words : List ℕ) → AreWords words → words_of (bytes_of words) ≡ words
unfolding bytes_of
words_of-bytes_of words fits = sym (words_read (flat_map (little_bytes 8) words) words (length-flat_map_bytes words) (λ i h. sym (little_number-flat_map words i h fits)))

-- the eight bytes of word i
pub bytes_of_word : (bytes : List ℕ) (i : ℕ) → AreBytes bytes → 8 * i + 8 ≤ length bytes → little_bytes 8 (word_at bytes i) ≡ take 8 (drop (8 * i) bytes)
unfolding word_at
bytes_of_word bytes i fits long =
    let here : List ℕ = take 8 (drop (8 * i) bytes) in
    let byte : (j : ℕ) → j < 8 → get_or here j 0 ≡ get_or bytes (8 * i + j) 0 = λ j h. get_or-take 8 (drop (8 * i) bytes) j 0 h ∙ get_or-drop (8 * i) bytes j 0 in
    let count : length here ≡ 8 = length-take 8 (drop (8 * i) bytes) ∙ (let rest = length-drop (8 * i) bytes in omega (arith, rest)) in
    le_bytes_8 here (word_at bytes i) count
    (λ j. elim (cases_lt j 8) [
      | inl h ↦ let b : get_or here j 0 ≡ get_or bytes (8 * i + j) 0 = byte j h in omega (arith, b, fits (8 * i + j))
      | inr h ↦ let past : get_or here j 0 ≡ 0 = get_or_past here j 0 (omega arith) in omega arith
    ])
    (let b0 = byte 0 (omega arith) in let b1 = byte 1 (omega arith) in let b2 = byte 2 (omega arith) in let b3 = byte 3 (omega arith) in
    let b4 = byte 4 (omega arith) in let b5 = byte 5 (omega arith) in let b6 = byte 6 (omega arith) in let b7 = byte 7 (omega arith) in
    omega (arith, b0, b1, b2, b3, b4, b5, b6, b7))

flat_map-words : (bytes : List ℕ) (a n : ℕ) → AreBytes bytes → length bytes ≡ 8 * (a + n) → flat_map (little_bytes 8) (map (word_at bytes) (range_with_len a n)) ≡ drop (8 * a) bytes
flat_map-words bytes a zero fits long = sym (drop_all (8 * a) bytes (omega arith))
flat_map-words bytes a (suc n) fits long =
    let rest : flat_map (little_bytes 8) (map (word_at bytes) (range_with_len (a + 1) n)) ≡ drop (8 * (a + 1)) bytes = flat_map-words bytes (a + 1) n fits (omega arith) in
    let place : 8 * a + 8 ≡ 8 * (a + 1) = omega arith in
    let behind : drop 8 (drop (8 * a) bytes) ≡ drop (8 * (a + 1)) bytes = drop-drop 8 (8 * a) bytes ∙ ap (λ (k : ℕ). drop k bytes) place in
    (λ k. bytes_of_word bytes a fits (omega arith) k ++ (rest ∙ sym behind) k) ∙ take-append-drop 8 (drop (8 * a) bytes)

pub bytes_of-words_of : (bytes : List ℕ) → AreBytes bytes → length bytes % 8 ≡ 0 → bytes_of (words_of bytes) ≡ bytes
unfolding bytes_of words_of
bytes_of-words_of bytes fits whole = flat_map-words bytes 0 (length bytes / 8) fits (omega arith)

pub bytes_of-append : (xs ys : List ℕ) → bytes_of (xs ++ ys) ≡ bytes_of xs ++ bytes_of ys
unfolding bytes_of
bytes_of-append xs ys = flat_map-append (little_bytes 8) xs ys
