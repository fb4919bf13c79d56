-- The first number that passes a test, while a loop looks for it.
use Rattle.std.proofs.Common.{◌≡◌, ⊎_elim, ℕ, zero, suc, ◌+◌, ◌-◌, ◌<◌, ◌≤◌, Bool, true, false, cond, List, [], ◌∷◌, Option, Some, None, refl, sym, ◌∙◌, ap, subst, arith, zero-add}
use Rattle.std.specs.List.{All, find, range_with_len}
use Rattle.std.specs.Option.{option_or}
use Rattle.std.proofs.lemmas.Bool.{cases_lt}
use Rattle.std.proofs.lemmas.List.Folds.{find-append}
use Rattle.pm_image.proofs.Redoing.{range_more}
use Rattle.pm_image.proofs.Finding.{range_split}

-- none of the numbers up to k, nor k
pub none_more : (p : ℕ → Bool) (k : ℕ) → find p (range_with_len 0 k) ≡ None → p k ≡ false → find p (range_with_len 0 (k + 1)) ≡ None
none_more p k before here =
    ap (find p) (range_more 0 k) ∙ find-append p (range_with_len 0 k) ((0 + k) ∷ [])
    ∙ ap (λ (o : Option ℕ). option_or o (find p ((0 + k) ∷ []))) before
    ∙ ap (λ (j : ℕ). find p (j ∷ [])) (zero-add k) ∙ ap (λ (b : Bool). cond b (Some k) None) here

-- k, and none before
pub first_there : (p : ℕ → Bool) (n k : ℕ) → k < n → find p (range_with_len 0 k) ≡ None → p k ≡ true → find p (range_with_len 0 n) ≡ Some k
first_there p n k inside before here =
    let r : ℕ = n - k - 1 in
    let whole : n ≡ k + suc r = omega arith in
    ap (λ (m : ℕ). find p (range_with_len 0 m)) whole ∙ ap (find p) (range_split 0 k (suc r))
    ∙ find-append p (range_with_len 0 k) (range_with_len (0 + k) (suc r))
    ∙ ap (λ (o : Option ℕ). option_or o (find p (range_with_len (0 + k) (suc r)))) before
    ∙ ap (λ (j : ℕ). find p (range_with_len j (suc r))) (zero-add k) ∙ ap (λ (b : Bool). cond b (Some k) (find p (range_with_len (k + 1) r))) here

-- the loop came to its end
pub none_at_end : (p : ℕ → Bool) (n k : ℕ) → k ≡ n → find p (range_with_len 0 k) ≡ None → find p (range_with_len 0 n) ≡ None
none_at_end p n k all none = ap (λ (m : ℕ). find p (range_with_len 0 m)) (sym all) ∙ none

-- tests that agree on the numbers looked at find the same
pub same_first : (p q : ℕ → Bool) (n : ℕ) → ((k : ℕ) → k < n → p k ≡ q k) → find p (range_with_len 0 n) ≡ find q (range_with_len 0 n)
same_first p q n agree = from 0 n (λ k behind near. agree k (omega arith)) where
  from : (a m : ℕ) → ((k : ℕ) → a ≤ k → k < a + m → p k ≡ q k) → find p (range_with_len a m) ≡ find q (range_with_len a m)
  from a zero agree = refl
  from a (suc m) agree =
      let here : p a ≡ q a = agree a (omega arith) (omega arith) in
      (λ i. cond (here i) (Some a) (from (a + 1) m (λ k behind near. agree k (omega arith) (omega arith)) i))

-- a test that fails at each number finds none, and where none is found it fails at each
pub none_passes : (p : ℕ → Bool) (n : ℕ) → ((k : ℕ) → k < n → p k ≡ false) → find p (range_with_len 0 n) ≡ None
none_passes p n fails = same_first p (λ _. false) n fails ∙ nothing 0 n where
  nothing : (a m : ℕ) → find (λ (_ : ℕ). false) (range_with_len a m) ≡ None
  nothing a zero = refl
  nothing a (suc m) = nothing (a + 1) m

next_or_here : (p : ℕ → Bool) (a m k : ℕ) (b : Bool) → p a ≡ b → find p (range_with_len a (suc m)) ≡ None → a ≤ k
    → (find p (range_with_len (a + 1) m) ≡ None → a + 1 ≤ k → p k ≡ false) → p k ≡ false
next_or_here p a m k true is none behind later =
    absurd (let clash : Some a ≡ None = sym (ap (λ (b : Bool). cond b (Some a) (find p (range_with_len (a + 1) m))) is) ∙ none in cc)
next_or_here p a m k false is none behind later =
    ⊎_elim
    (λ (beyond : a < k). later (sym (ap (λ (b : Bool). cond b (Some a) (find p (range_with_len (a + 1) m))) is) ∙ none) (omega arith))
    (λ (at : k ≤ a). let here : k ≡ a = omega arith in ap p here ∙ is)
    (cases_lt a k)

fails_from : (p : ℕ → Bool) (a m : ℕ) → find p (range_with_len a m) ≡ None → (k : ℕ) → a ≤ k → k < a + m → p k ≡ false
fails_from p a zero none k behind near = absurd (omega arith)
fails_from p a (suc m) none k behind near = next_or_here p a m k (p a) refl none behind (λ rest beyond. fails_from p (a + 1) m rest k beyond (omega arith))

pub fails_at_each : (p : ℕ → Bool) (n : ℕ) → find p (range_with_len 0 n) ≡ None → (k : ℕ) → k < n → p k ≡ false
fails_at_each p n none k inside = fails_from p 0 n none k (omega arith) (omega arith)

-- what was found is one of those looked at
pub found_among : {X : Type 0} (P : X → Type 0) (p : X → Bool) (xs : List X) (x : X) → All P xs → find p xs ≡ Some x → P x
found_among P p [] x all is = absurd cc
found_among {X = X} P p (y ∷ ys) x all is = go (p y) refl (found_among P p ys x (λ k d inside. all (suc k) d (omega arith))) where
  go : (b : Bool) → p y ≡ b → (find p ys ≡ Some x → P x) → P x
  go true passes rest =
      let same : Some y ≡ Some x = sym (ap (λ (b : Bool). cond b (Some y) (find p ys)) passes) ∙ is in
      let one : y ≡ x = cc in
      subst P one (all 0 y (omega arith))
  go false fails rest = rest (sym (ap (λ (b : Bool). cond b (Some y) (find p ys)) fails) ∙ is)
