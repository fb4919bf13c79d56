-- A list of pairs with rising keys is a map.
use Rattle.std.proofs.Common.{◌≡◌, ◌≢◌, ℕ, zero, suc, ◌+◌, ◌<◌, ◌≤◌, List, [], ◌∷◌, length, map, get_or, Option, Some, Bool, true, false, cond, eqb, refl, sym, ◌∙◌, ap, subst, arith}
use Rattle.std.specs.Map.{lookup}
use Rattle.std.specs.List.Sorted.{IsStrictlyIncreasing}
use Rattle.std.proofs.lemmas.Bool.{eq-eqb, ne_eqb}
use Rattle.std.proofs.lemmas.List.{get_or-map, length-map}

tail_rising : (x : ℕ) (xs : List ℕ) → IsStrictlyIncreasing (x ∷ xs) → IsStrictlyIncreasing xs
tail_rising x xs rising k h =
    let place : suc k + 1 ≡ suc (k + 1) = omega arith in
    subst (λ (n : ℕ). get_or xs k 0 < get_or (x ∷ xs) n 0) place (rising (suc k) (omega arith))

-- the first number is below every later one
first_below : (x : ℕ) (xs : List ℕ) (k : ℕ) → IsStrictlyIncreasing (x ∷ xs) → k < length xs → x < get_or xs k 0
first_below x xs zero rising inside = rising 0 (omega arith)
first_below x xs (suc k) rising inside =
    let before : x < get_or xs k 0 = first_below x xs k rising (omega arith) in
    let place : k + 1 ≡ suc k = omega arith in
    let step : get_or xs k 0 < get_or xs (suc k) 0 = subst (λ (n : ℕ). get_or xs k 0 < get_or xs n 0) place (tail_rising x xs rising k (omega arith)) in
    omega arith

pub lookup_rising : {X : Type 0} (entries : List (ℕ × X)) (k : ℕ) (d : ℕ × X) → IsStrictlyIncreasing (map (λ e. e.0) entries) → k < length entries
    → lookup (λ key. eqb key (get_or entries k d).0) entries ≡ Some (get_or entries k d).1
lookup_rising [] k d rising inside = absurd (omega arith)
lookup_rising {X = X} (e ∷ entries) zero d rising inside =
    ap (λ (b : Bool). cond b (Some e.1) (lookup (λ key. eqb key e.0) entries)) (eq-eqb e.0 e.0 refl)
lookup_rising {X = X} (e ∷ entries) (suc k) d rising inside =
    let keys : List ℕ = map (λ (p : ℕ × X). p.0) entries in
    let own : get_or keys k 0 ≡ (get_or entries k d).0 = get_or-map (λ (p : ℕ × X). p.0) entries k d 0 (omega arith) in
    let long : length keys ≡ length entries = length-map entries (λ (p : ℕ × X). p.0) in
    let below : e.0 < get_or keys k 0 = first_below e.0 keys k rising (omega arith) in
    let other : eqb e.0 (get_or entries k d).0 ≡ false = ne_eqb e.0 (get_or entries k d).0 (λ same. omega arith) in
    ap (λ (b : Bool). cond b (Some e.1) (lookup (λ key. eqb key (get_or entries k d).0) entries)) other
    ∙ lookup_rising entries k d (tail_rising e.0 keys rising) (omega arith)
