-- The bytes of a pool one by one: what stands at each byte place, before and after bytes are written.
use Rattle.std.proofs.Common.{◌≡◌, ◌⊎◌, ⊎_elim, ℕ, zero, suc, ◌+◌, ◌-◌, ◌*◌, ◌/◌, ◌%◌, ◌<◌, ◌≤◌, List, [], ◌∷◌, ◌++◌, length, take, drop, map, get_or, ◌∙◌, ap, arith, length-append}
use Rattle.std.specs.List.{Contains, range_with_len}
use Rattle.std.proofs.lemmas.Bool.{cases_lt}
use Rattle.std.proofs.lemmas.List.{get_or-append_right, get_or-drop, get_or-take, get_or_append_left, length-drop, length-take-le, length-take, take_all}
use Rattle.pm_words.specs.Words.{bytes_of, AreBytes}
use Rattle.pm_words.proofs.Patching.{AreBytes-drop, AreBytes-take, bytes_of-patched, length-word}
use Rattle.pm_words.proofs.Reading.{bytes_of-append}
use Rattle.pm_model.specs.Items.{put_bytes}
use Rattle.pm_model.specs.Transaction.{covered_words}
use Rattle.pm_crash.specs.Writes.{written_word, IsWritten}
use Rattle.pm_crash.proofs.Covered.{byte_is_covered, covered_has_byte}

-- the byte at a place of the pool
abbrev pub byte_at_place : (ℕ → ℕ) → ℕ → ℕ
byte_at_place w n = get_or (bytes_of (w (n / 8) ∷ [])) (n % 8) 0

-- byte j of word i
pub byte_of_word : (w : ℕ → ℕ) (i j n : ℕ) → j < 8 → 8 * i + j ≡ n → get_or (bytes_of (w i ∷ [])) j 0 ≡ byte_at_place w n
byte_of_word w i j n small is =
    let word : i ≡ n / 8 = omega arith in
    let place : j ≡ n % 8 = omega arith in
    (λ k. get_or (bytes_of (w (word k) ∷ [])) (place k) 0)

-- byte k of the words from word a on
pub byte_of_words : (w : ℕ → ℕ) (a count k n : ℕ) → k < 8 * count → 8 * a + k ≡ n → get_or (bytes_of (map w (range_with_len a count))) k 0 ≡ byte_at_place w n
byte_of_words w a zero k n inside is = absurd (omega arith)
byte_of_words w a (suc count) k n inside is =
    let rest : List ℕ = map w (range_with_len (a + 1) count) in
    let parts : bytes_of (w a ∷ rest) ≡ bytes_of (w a ∷ []) ++ bytes_of rest = bytes_of-append (w a ∷ []) rest in
    let eight : length (bytes_of (w a ∷ [])) ≡ 8 = length-word (w a) in
    ap (λ (bytes : List ℕ). get_or bytes k 0) parts
    ∙ ⊎_elim
    (λ (first : k < 8). get_or_append_left (bytes_of (w a ∷ [])) (bytes_of rest) 0 k (omega arith) ∙ byte_of_word w a k n first is)
    (λ (later : 8 ≤ k). get_or-append_right (bytes_of (w a ∷ [])) (bytes_of rest) 8 k 0 eight later ∙ byte_of_words w (a + 1) count (k - 8) n (omega arith) (omega arith))
    (cases_lt k 8)

-- bytes put into others, as a whole
put_in : ℕ → List ℕ → List ℕ → List ℕ
put_in at new old = take at old ++ new ++ drop (at + length new) old

length-put_in : (at : ℕ) (new old : List ℕ) → at + length new ≤ length old → length (put_in at new old) ≡ length old
unfolding put_in
length-put_in at new old room =
    let front : length (take at old) ≡ at = length-take-le at old (omega arith) in
    let both = length-append (take at old) new in
    let behind = length-drop (at + length new) old in
    length-append (take at old ++ new) (drop (at + length new) old) ∙ omega arith

put_whole : (at : ℕ) (new old : List ℕ) → at + length new ≤ length old → put_bytes at new old ≡ put_in at new old
unfolding put_in
put_whole at new old room = take_all (length old) (take at old ++ new ++ drop (at + length new) old) (let z = length-put_in at new old room in omega arith)

-- before them, among them and behind them
in_before : (at : ℕ) (new old : List ℕ) (k : ℕ) → at ≤ length old → k < at → get_or (put_in at new old) k 0 ≡ get_or old k 0
unfolding put_in
in_before at new old k room before =
    let front : length (take at old) ≡ at = length-take-le at old room in
    let both = length-append (take at old) new in
    get_or_append_left (take at old ++ new) (drop (at + length new) old) 0 k (omega arith)
    ∙ get_or_append_left (take at old) new 0 k (omega arith)
    ∙ get_or-take at old k 0 before

in_among : (at : ℕ) (new old : List ℕ) (k : ℕ) → at ≤ length old → at ≤ k → k < at + length new → get_or (put_in at new old) k 0 ≡ get_or new (k - at) 0
unfolding put_in
in_among at new old k room from to =
    let front : length (take at old) ≡ at = length-take-le at old room in
    let both = length-append (take at old) new in
    get_or_append_left (take at old ++ new) (drop (at + length new) old) 0 k (omega arith)
    ∙ get_or-append_right (take at old) new at k 0 front from

in_behind : (at : ℕ) (new old : List ℕ) (k : ℕ) → at ≤ length old → at + length new ≤ k → get_or (put_in at new old) k 0 ≡ get_or old k 0
unfolding put_in
in_behind at new old k room behind =
    let front : length (take at old) ≡ at = length-take-le at old room in
    let both : length (take at old ++ new) ≡ at + length new = length-append (take at old) new ∙ omega arith in
    let place : at + length new + (k - (at + length new)) ≡ k = omega arith in
    get_or-append_right (take at old ++ new) (drop (at + length new) old) (at + length new) k 0 both behind
    ∙ get_or-drop (at + length new) old (k - (at + length new)) 0
    ∙ ap (λ (n : ℕ). get_or old n 0) place

-- and as many bytes as before
pub put_before : (at : ℕ) (new old : List ℕ) (k : ℕ) → at + length new ≤ length old → k < at → get_or (put_bytes at new old) k 0 ≡ get_or old k 0
put_before at new old k room before = ap (λ xs. get_or xs k 0) (put_whole at new old room) ∙ in_before at new old k (omega arith) before

pub put_among : (at : ℕ) (new old : List ℕ) (k : ℕ) → at + length new ≤ length old → at ≤ k → k < at + length new → get_or (put_bytes at new old) k 0 ≡ get_or new (k - at) 0
put_among at new old k room from to = ap (λ xs. get_or xs k 0) (put_whole at new old room) ∙ in_among at new old k (omega arith) from to

pub put_behind : (at : ℕ) (new old : List ℕ) (k : ℕ) → at + length new ≤ length old → at + length new ≤ k → get_or (put_bytes at new old) k 0 ≡ get_or old k 0
put_behind at new old k room behind = ap (λ xs. get_or xs k 0) (put_whole at new old room) ∙ in_behind at new old k (omega arith) behind

pub length-put : (at : ℕ) (new old : List ℕ) → at + length new ≤ length old → length (put_bytes at new old) ≡ length old
length-put at new old room = ap (λ xs. length xs) (put_whole at new old room) ∙ length-put_in at new old room

-- the part of the bytes that one word has, and its bytes with that part in them
part_of : ℕ → List ℕ → ℕ → List ℕ
part_of place bytes i = take (8 - (place - 8 * i)) (drop (8 * i - place) bytes)

length-part_of : (place : ℕ) (bytes : List ℕ) (i : ℕ) → (length (part_of place bytes i) ≤ 8 - (place - 8 * i)) × (length (part_of place bytes i) ≤ length bytes - (8 * i - place))
    × ((8 - (place - 8 * i) ≤ length (part_of place bytes i)) ⊎ (length bytes - (8 * i - place) ≤ length (part_of place bytes i)))
unfolding part_of
length-part_of place bytes i =
    let taken = length-take (8 - (place - 8 * i)) (drop (8 * i - place) bytes) in
    let dropped = length-drop (8 * i - place) bytes in
    (omega arith, omega arith, grind arith)

written_bytes : (place : ℕ) (bytes : List ℕ) (i x : ℕ) → AreBytes bytes → place < 8 * i + 8
    → bytes_of (written_word place bytes i x ∷ []) ≡ put_in (place - 8 * i) (part_of place bytes i) (bytes_of (x ∷ []))
unfolding part_of put_in
written_bytes place bytes i x fits above =
    let few = (length-part_of place bytes i).0 in
    bytes_of-patched (place - 8 * i) (part_of place bytes i) x (omega arith) (AreBytes-take (8 - (place - 8 * i)) (drop (8 * i - place) bytes) (AreBytes-drop (8 * i - place) bytes fits))

-- what stands at a place among the bytes written
pub byte_written : (w v : ℕ → ℕ) (place : ℕ) (bytes : List ℕ) (n : ℕ) → AreBytes bytes → IsWritten w v place bytes → place ≤ n → n < place + length bytes
    → byte_at_place v n ≡ get_or bytes (n - place) 0
unfolding part_of
byte_written w v place bytes n fits write from to =
    let i : ℕ = n / 8 in
    let j : ℕ = n % 8 in
    let at : ℕ = place - 8 * i in
    let lengths = length-part_of place bytes i in
    let old : List ℕ = bytes_of (w i ∷ []) in
    let eight : length old ≡ 8 = length-word (w i) in
    let word : v i ≡ written_word place bytes i (w i) = write.covered i (byte_is_covered place (length bytes) i (omega arith) (omega arith) (omega arith)) in
    let reach : j < at + length (part_of place bytes i) = grind arith in
    let index : 8 * i - place + (j - at) ≡ n - place = omega arith in
    ap (λ (x : ℕ). get_or (bytes_of (x ∷ [])) j 0) word
    ∙ ap (λ (xs : List ℕ). get_or xs j 0) (written_bytes place bytes i (w i) fits (omega arith))
    ∙ in_among at (part_of place bytes i) old j (omega arith) (omega arith) reach
    ∙ get_or-take (8 - at) (drop (8 * i - place) bytes) (j - at) 0 (omega arith)
    ∙ get_or-drop (8 * i - place) bytes (j - at) 0
    ∙ ap (λ (k : ℕ). get_or bytes k 0) index

-- and at every other place
other_byte : (w v : ℕ → ℕ) (place : ℕ) (bytes : List ℕ) (n : ℕ) → AreBytes bytes → IsWritten w v place bytes → (n < place) ⊎ (place + length bytes ≤ n)
    → 0 < length bytes → 8 * (n / 8) < place + length bytes → place < 8 * (n / 8) + 8 → byte_at_place v n ≡ byte_at_place w n
other_byte w v place bytes n fits write outside some below above =
    let i : ℕ = n / 8 in
    let j : ℕ = n % 8 in
    let at : ℕ = place - 8 * i in
    let lengths = length-part_of place bytes i in
    let old : List ℕ = bytes_of (w i ∷ []) in
    let eight : length old ≡ 8 = length-word (w i) in
    let word : v i ≡ written_word place bytes i (w i) = write.covered i (byte_is_covered place (length bytes) i some below above) in
    ap (λ (x : ℕ). get_or (bytes_of (x ∷ [])) j 0) word
    ∙ ap (λ (xs : List ℕ). get_or xs j 0) (written_bytes place bytes i (w i) fits above)
    ∙ ⊎_elim
    (λ (before : n < place). in_before at (part_of place bytes i) old j (omega arith) (omega arith))
    (λ (behind : place + length bytes ≤ n). in_behind at (part_of place bytes i) old j (omega arith) (omega arith))
    outside

pub byte_kept : (w v : ℕ → ℕ) (place : ℕ) (bytes : List ℕ) (n : ℕ) → AreBytes bytes → IsWritten w v place bytes → (n < place) ⊎ (place + length bytes ≤ n)
    → byte_at_place v n ≡ byte_at_place w n
byte_kept w v place bytes n fits write outside =
    let i : ℕ = n / 8 in
    let apart : (Contains (covered_words place (length bytes)) i → ⊥) → byte_at_place v n ≡ byte_at_place w n =
    λ never. ap (λ (x : ℕ). get_or (bytes_of (x ∷ [])) (n % 8) 0) (write.others i never) in
    ⊎_elim
    (λ (some : 0 < length bytes). ⊎_elim
    (λ (below : 8 * i < place + length bytes). ⊎_elim
    (λ (above : place < 8 * i + 8). other_byte w v place bytes n fits write outside some below above)
    (λ (past : 8 * i + 8 ≤ place). apart (λ there. let has = covered_has_byte place (length bytes) i there in omega arith))
    (cases_lt place (8 * i + 8)))
    (λ (past : place + length bytes ≤ 8 * i). apart (λ there. let has = covered_has_byte place (length bytes) i there in omega arith))
    (cases_lt (8 * i) (place + length bytes)))
    (λ (none : length bytes ≤ 0). apart (λ there. let has = covered_has_byte place (length bytes) i there in omega arith))
    (cases_lt 0 (length bytes))
