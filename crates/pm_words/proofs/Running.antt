-- The sum of running sums, one word more at the end.
use Rattle.std.proofs.Common.{◌≡◌, ℕ, ◌+◌, ◌*◌, ◌/◌, ◌%◌, ◌^◌, ◌<◌, ◌≤◌, List, [], ◌∷◌, ◌++◌, length, take, get_or, sum, bit_or, sym, ◌∙◌, ap, arith, length-append, append_assoc}
use Rattle.std.proofs.lemmas.List.{take_more, take_all}
use Rattle.std.proofs.lemmas.Nat.{or_shifted, shl_whole}
use Rattle.std.proofs.lemmas.List.Sums.{sum_by_push, sum_by-cons}
use Rattle.std.proofs.lemmas.Grind.{flat_map-append}
use Rattle.pm_words.specs.Sums.{halves, sum_of_sums, sum64}

sum-push : (xs : List ℕ) (y : ℕ) → sum (xs ++ y ∷ []) ≡ sum xs + y
sum-push xs y = sum_by_push (λ x. x) xs y

-- the last running sum is the whole sum
sum_of_sums-push : (xs : List ℕ) (y : ℕ) → sum_of_sums (xs ++ y ∷ []) ≡ sum_of_sums xs + sum (xs ++ y ∷ [])
sum_of_sums-push [] y = omega (arith, sum-push [] y)
sum_of_sums-push (x ∷ xs) y =
    let long : length (xs ++ y ∷ []) ≡ length xs + 1 = length-append xs (y ∷ []) in
    let all : sum (x ∷ (xs ++ y ∷ [])) ≡ x + sum (xs ++ y ∷ []) = sum_by-cons (λ n. n) x (xs ++ y ∷ []) in
    let here : (length (xs ++ y ∷ []) + 1) * x ≡ (length xs + 1) * x + x = rw long (omega arith) in
    omega (arith, sum_of_sums-push xs y, all, here)

halves_more : (words : List ℕ) (i : ℕ) → i < length words → halves (take (i + 1) words) ≡ halves (take i words) ++ (get_or words i 0 % 2 ^ 32 ∷ get_or words i 0 / 2 ^ 32 ∷ [])
halves_more words i h = ap halves (take_more words i 0 h) ∙ flat_map-append (λ w. w % 2 ^ 32 ∷ w / 2 ^ 32 ∷ []) (take i words) (get_or words i 0 ∷ [])

-- the low and the high half of a sum so far
pub record Sums (words : List ℕ) (low high : ℕ) : Type 0 where
  pub low_is : low ≡ sum (halves words) % 2 ^ 32
  pub high_is : high ≡ sum_of_sums (halves words) % 2 ^ 32

-- one word more
pub Sums_more : (words : List ℕ) (i low high a b : ℕ) → i < length words → a ≡ get_or words i 0 % 2 ^ 32 → b ≡ get_or words i 0 / 2 ^ 32 → Sums (take i words) low high
    → Sums (take (i + 1) words) (((low + a) % 2 ^ 32 + b) % 2 ^ 32) (((high + (low + a) % 2 ^ 32) % 2 ^ 32 + ((low + a) % 2 ^ 32 + b) % 2 ^ 32) % 2 ^ 32)
Sums_more words i low high a b h first second so_far =
    let hs : List ℕ = halves (take i words) in
    let all : halves (take (i + 1) words) ≡ (hs ++ a ∷ []) ++ b ∷ [] = halves_more words i h ∙ (λ k. hs ++ (sym first k ∷ sym second k ∷ [])) ∙ sym (append_assoc hs (a ∷ []) (b ∷ [])) in
    let sum_a = sum-push hs a in
    let sum_b = sum-push (hs ++ a ∷ []) b in
    let sums_a = sum_of_sums-push hs a in
    let sums_b = sum_of_sums-push (hs ++ a ∷ []) b in
    record {
      low_is = rw all (omega (arith, sum_a, sum_b, so_far.low_is));
      high_is = rw all (omega (arith, sum_a, sum_b, sums_a, sums_b, so_far.low_is, so_far.high_is));
    }

-- the two halves of the sum of all words, put into one word
pub sum64-Sums : (words : List ℕ) (i low high h l : ℕ) → length words ≤ i → Sums (take i words) low high → h ≡ high → l ≡ low → bit_or (h * 2 ^ 32 % 2 ^ 64) l ≡ sum64 words
unfolding sum64
sum64-Sums words i low high h l past sums h_is l_is =
    let all : take i words ≡ words = take_all i words past in
    let low_all : l ≡ sum (halves words) % 2 ^ 32 = l_is ∙ sums.low_is ∙ ap (λ (ws : List ℕ). sum (halves ws) % 2 ^ 32) all in
    let high_all : h ≡ sum_of_sums (halves words) % 2 ^ 32 = h_is ∙ sums.high_is ∙ ap (λ (ws : List ℕ). sum_of_sums (halves ws) % 2 ^ 32) all in
    let low_fits : l < 2 ^ 32 = omega arith in
    let high_fits : h < 2 ^ 32 = omega arith in
    ap (λ (n : ℕ). bit_or n l) (shl_whole h 32 32 64 high_fits (omega arith)) ∙ or_shifted h 32 l low_fits
    ∙ (λ k. high_all k * 2 ^ 32 + low_all k)
