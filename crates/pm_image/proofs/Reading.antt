-- An object's bytes word by word, and its members step by step.
use Rattle.std.proofs.Common.{◌≡◌, ◌≢◌, ◌⊎◌, inl, inr, ℕ, zero, suc, ◌+◌, ◌-◌, ◌/◌, ◌<◌, ◌≤◌, Bool, false, cond, eqb, List, [], ◌∷◌, ◌++◌, map, refl, sym, ◌∙◌, ap, arith}
use Rattle.std.specs.List.{range_with_len}
use Rattle.std.proofs.lemmas.List.{append-nil, append_assoc}
use Rattle.std.proofs.lemmas.List.FromFn.{map-range_with_len_more}
use Rattle.std.proofs.lemmas.Bool.Decides.{nat_tests}
use Rattle.pm_words.specs.Words.{bytes_of}
use Rattle.pm_words.proofs.Reading.{bytes_of-append}
use Rattle.pm_image.specs.Contents.{walk}

-- the bytes of one word more
pub word_more : (w : ℕ → ℕ) (from k : ℕ) → bytes_of (map w (range_with_len from (k + 1))) ≡ bytes_of (map w (range_with_len from k)) ++ bytes_of (w (from + k) ∷ [])
word_more w from k = ap bytes_of (map-range_with_len_more w from k (from + k) refl) ∙ bytes_of-append (map w (range_with_len from k)) (w (from + k) ∷ [])

pub no_words : (w : ℕ → ℕ) (from : ℕ) → [] ≡ bytes_of (map w (range_with_len from 0))
unfolding bytes_of
no_words w from = refl

walk_from : (w : ℕ → ℕ) (m off : ℕ) → off ≢ 0 → walk w (suc m) off ≡ off ∷ walk w m (w (off / 8 - 6))
unfolding walk
walk_from w m off there =
    let is : eqb off 0 ≡ false = grind (arith, nat_tests) in
    ap (λ (b : Bool). cond b [] (off ∷ walk w m (w (off / 8 - 6)))) is

pub walk_nowhere : (w : ℕ → ℕ) (m : ℕ) → walk w m 0 ≡ []
unfolding walk
walk_nowhere w zero = refl
walk_nowhere w (suc m) = refl

walk_done : (w : ℕ → ℕ) (m off : ℕ) → m ≡ 0 → walk w m off ≡ []
unfolding walk
walk_done w m off none = ap (λ (n : ℕ). walk w n off) none

-- one member more
pub walked_more : (w : ℕ → ℕ) (xs all : List ℕ) (count n off : ℕ) → n < count → off ≢ 0 → xs ++ walk w (count - n) off ≡ all
    → (xs ++ off ∷ []) ++ walk w (count - (n + 1)) (w (off / 8 - 6)) ≡ all
walked_more w xs all count n off inside there so_far =
    let m : ℕ = count - (n + 1) in
    let next : count - n ≡ suc m = omega arith in
    append_assoc xs (off ∷ []) (walk w m (w (off / 8 - 6)))
    ∙ ap (λ (ys : List ℕ). xs ++ ys) (sym (walk_from w m off there) ∙ ap (λ (k : ℕ). walk w k off) (sym next))
    ∙ so_far

-- the walk is over
pub walked_all : (w : ℕ → ℕ) (xs all : List ℕ) (count n off : ℕ) → (off ≡ 0) ⊎ (count ≤ n) → xs ++ walk w (count - n) off ≡ all → xs ≡ all
walked_all w xs all count n off (inl none) so_far =
    sym (append-nil xs) ∙ ap (λ (ys : List ℕ). xs ++ ys) (sym (ap (walk w (count - n)) none ∙ walk_nowhere w (count - n))) ∙ so_far
walked_all w xs all count n off (inr full) so_far =
    let done : count - n ≡ 0 = omega arith in
    sym (append-nil xs) ∙ ap (λ (ys : List ℕ). xs ++ ys) (sym (walk_done w (count - n) off done)) ∙ so_far
