-- Bytes that are copied from a part of one list into a part of another.
use Rattle.std.proofs.Common.{◌≡◌, ℕ, ◌+◌, ◌-◌, ◌*◌, ◌/◌, ◌%◌, ◌<◌, ◌≤◌, Bool, true, false, cond, eqb, List, [], ◌∷◌, take, drop, get_or, slice_index, refl, sym, ap, ◌∙◌, arith}
use Rattle.std.proofs.lemmas.Bool.Decides.{nat_tests}
use Rattle.pm_words.specs.Words.{bytes_of}
use Rattle.solo_tx.specs.Sequences.{byte_in, word_count}
use Rattle.std.proofs.lemmas.List.{get_or-take, get_or-drop}

-- byte k of the part is that of the copied bytes
pub copied : (whole part bytes : List ℕ) (a n from k : ℕ) → a ≤ k → k < a + n → take n (drop a whole) ≡ part → part ≡ take n (drop from bytes) → get_or whole k 0 ≡ get_or bytes (from + (k - a)) 0
copied whole part bytes a n from k above below is copy =
    let at : k ≡ a + (k - a) = omega (arith, above) in
    let within : k - a < n = omega (arith, above, below) in
    ap (λ i. get_or whole i 0) at
    ∙ (sym (get_or-drop a whole (k - a) 0)
    ∙ (sym (get_or-take n (drop a whole) (k - a) 0 within)
    ∙ (ap (λ l. get_or l (k - a) 0) (is ∙ copy) ∙ (get_or-take n (drop from bytes) (k - a) 0 within ∙ get_or-drop from bytes (k - a) 0))))

-- byte p of the pool is in word w
pub byte_of_word : (words : List ℕ) (p w x : ℕ) → 8 * w ≤ p → p < 8 * w + 8 → x ≡ slice_index words w → slice_index (bytes_of (x ∷ [])) (p - 8 * w) ≡ byte_in words p
byte_of_word words p w x from to is =
    let word : w ≡ p / 8 = omega (arith, from, to) in
    let byte : p - 8 * w ≡ p % 8 = omega (arith, from, to) in
    ap (λ (y : ℕ). slice_index (bytes_of (y ∷ [])) (p - 8 * w)) (is ∙ ap (slice_index words) word) ∙ ap (slice_index (bytes_of (slice_index words (p / 8) ∷ []))) byte

-- a word that has some of the bytes is one of so many
pub counts_all : (place len k : ℕ) → k < len → place + k < 8 * (place / 8 + word_count place len)
counts_all place len k within = at (eqb len 0) refl where
  at : (b : Bool) → eqb len 0 ≡ b → place + k < 8 * (place / 8 + cond b 0 ((place + len - 1) / 8 + 1 - place / 8))
  at true e = absurd (let none : len ≡ 0 = grind (arith, nat_tests) in omega (arith, none, within))
  at false e = omega (arith, within)
