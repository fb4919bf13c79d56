-- What holds of each action of a list, or of some, found in its order; and so of the list as the plain model has it.
use Rattle.std.proofs.Common.{◌≡◌, ℕ, ◌+◌, ◌<◌, ◌≤◌, suc, All, List, [], ◌∷◌, length, map, take, get_or, sym, ap, ◌∙◌, subst, arith}
use Rattle.std.specs.List.{Any}
use Rattle.std.proofs.Math.Seq.{take-suc}
use Rattle.std.proofs.lemmas.List.{get_or-map, get_or_default, length-map, take_all}
use Rattle.std.proofs.lemmas.List.Elements.{All-append, All-cons, All-nil}

module _ {X : Type 0} (P : X → Type 0) where
  -- of one more
  pub all_further : (xs : List X) (i : ℕ) (d : X) → i < length xs → All P (take i xs) → P (get_or xs i d) → All P (take (i + 1) xs)
  all_further xs i d low front one =
      subst (λ n. All P (take n xs)) (let e : suc i ≡ i + 1 = omega arith in e)
      (subst (All P) (sym (take-suc xs i d low)) (All-append P (take i xs) (get_or xs i d ∷ []) front (All-cons P (get_or xs i d) [] one (All-nil P))))

  pub all_of_front : (xs : List X) (i : ℕ) → length xs ≤ i → All P (take i xs) → All P xs
  all_of_front xs i up front = subst (All P) (take_all i xs up) front

  pub some_at : (xs : List X) (i : ℕ) (d : X) → i < length xs → P (get_or xs i d) → Any P xs
  some_at xs i d low holds = (i, get_or xs i d, low, get_or_default xs i (get_or xs i d) d low, holds)

  pub some_mapped : {Y : Type 0} (f : Y → X) (ys : List Y) → Any (λ y. P (f y)) ys → Any P (map f ys)
  some_mapped f ys t = (t.0, f t.1, (let low = t.2 in let n = length-map ys f in omega (arith, low, n)), get_or-map f ys t.0 t.1 (f t.1) t.2 ∙ ap f t.3, t.4)
