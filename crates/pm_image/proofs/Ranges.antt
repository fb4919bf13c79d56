-- What holds of each number of a range, and lists made from its numbers, while a loop goes along.
use Rattle.std.proofs.Common.{◌≡◌, ℕ, ◌+◌, ◌<◌, ◌&&◌, Bool, true, false, cond, List, [], ◌∷◌, ◌++◌, length, map, refl, sym, ◌∙◌, ap, arith, zero-add}
use Rattle.std.specs.List.{filter, list_all, flat_map, range_with_len}
use Rattle.std.proofs.lemmas.List.{map-append, append-nil}
use Rattle.std.proofs.lemmas.List.Elements.{filter-append}
use Rattle.std.proofs.lemmas.List.Folds.{list_all-append, list_all_at}
use Rattle.std.proofs.lemmas.List.FromFn.{length-range_with_len, get_or-range_with_len}
use Rattle.std.proofs.lemmas.Grind.{flat_map-append}
use Rattle.pm_image.proofs.Redoing.{range_more}

-- of the numbers up to k, and of k
pub all_more : (p : ℕ → Bool) (k : ℕ) → list_all p (range_with_len 0 k) ≡ true → p k ≡ true → list_all p (range_with_len 0 (k + 1)) ≡ true
all_more p k before here =
    ap (list_all p) (range_more 0 k) ∙ list_all-append p (range_with_len 0 k) ((0 + k) ∷ [])
    ∙ ap (λ (b : Bool). b && list_all p ((0 + k) ∷ [])) before
    ∙ ap (λ (j : ℕ). list_all p (j ∷ [])) (zero-add k) ∙ ap (λ (b : Bool). b && true) here

-- not of k, so not of all
pub all_fails : (p : ℕ → Bool) (n k : ℕ) → k < n → p k ≡ false → list_all p (range_with_len 0 n) ≡ false
all_fails p n k inside here =
    let long : k < length (range_with_len 0 n) = omega (arith, length-range_with_len 0 n) in
    list_all_at p (range_with_len 0 n) k 0 long (ap p (get_or-range_with_len 0 n k 0 inside ∙ zero-add k) ∙ here)

-- the loop came to its end
pub all_at_end : (p : ℕ → Bool) (n k : ℕ) → k ≡ n → list_all p (range_with_len 0 k) ≡ true → list_all p (range_with_len 0 n) ≡ true
all_at_end p n k end all = ap (λ (m : ℕ). list_all p (range_with_len 0 m)) (sym end) ∙ all

-- one number more, where it passes and where it does not
pub kept_more : {X : Type 0} (p : ℕ → Bool) (f : ℕ → X) (k : ℕ) → map f (filter p (range_with_len 0 (k + 1))) ≡ map f (filter p (range_with_len 0 k)) ++ cond (p k) (f k ∷ []) []
kept_more {X = X} p f k =
    ap (λ (ks : List ℕ). map f (filter p ks)) (range_more 0 k)
    ∙ ap (map f) (filter-append p (range_with_len 0 k) ((0 + k) ∷ []))
    ∙ map-append f (filter p (range_with_len 0 k)) (filter p ((0 + k) ∷ []))
    ∙ ap (λ (ks : List X). map f (filter p (range_with_len 0 k)) ++ ks) (ap (λ (j : ℕ). map f (filter p (j ∷ []))) (zero-add k) ∙ one (p k)) where
      one : (b : Bool) → map f (cond b (k ∷ []) []) ≡ cond b (f k ∷ []) []
      one true = refl
      one false = refl

-- the parts for one number more
pub parts_more : {X : Type 0} (f : ℕ → List X) (k : ℕ) → flat_map f (range_with_len 0 (k + 1)) ≡ flat_map f (range_with_len 0 k) ++ f k
parts_more {X = X} f k =
    ap (flat_map f) (range_more 0 k) ∙ flat_map-append f (range_with_len 0 k) ((0 + k) ∷ [])
    ∙ ap (λ (xs : List X). flat_map f (range_with_len 0 k) ++ xs) (append-nil (f (0 + k)) ∙ ap f (zero-add k))
