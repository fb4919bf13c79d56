-- How many of some steps store the generation, of steps one after another and of the first of them.
use Rattle.std.proofs.Common.{◌≡◌, ℕ, zero, suc, ◌+◌, cond, List, [], ◌∷◌, ◌++◌, take, refl, arith}
use Rattle.solo_view.specs.Steps.{Step}
use Rattle.solo_crash.specs.Alone.{is_raise, raises}

-- by how much a step raises it
abbrev pub raise_by : Step → ℕ
raise_by s = cond (is_raise s) 1 0

pub raises_append : (xs ys : List Step) → raises (xs ++ ys) ≡ raises xs + raises ys
unfolding raises
raises_append [] ys = (let e : raises ys ≡ 0 + raises ys = omega arith in e)
raises_append (x ∷ xs) ys = let rest = raises_append xs ys in omega (arith, rest)

-- of steps that don't, no first part does
pub raises_first : (k : ℕ) (steps : List Step) → raises steps ≡ 0 → raises (take k steps) ≡ 0
unfolding raises
raises_first zero steps none = refl
raises_first (suc k) [] none = refl
raises_first (suc k) (s ∷ steps) none =
    let rest = raises_first k steps (let e : raises steps ≡ 0 = omega (arith, none) in e) in omega (arith, none, rest)
