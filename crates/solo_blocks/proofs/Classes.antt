-- Each class has blocks.
use Rattle.std.proofs.Common.{ℕ, zero, suc, ◌<◌, Contains, lit<, subst, arith}
use Rattle.pm_layout.specs.Sizes.{blocks_of, classes}

pub class_has : (lines : ℕ) → Contains classes lines → 0 < blocks_of lines
class_has lines (zero, low, e) = subst (λ n. 0 < blocks_of n) e (lit< tt)
class_has lines (suc zero, low, e) = subst (λ n. 0 < blocks_of n) e (lit< tt)
class_has lines (suc (suc zero), low, e) = subst (λ n. 0 < blocks_of n) e (lit< tt)
class_has lines (suc (suc (suc zero)), low, e) = subst (λ n. 0 < blocks_of n) e (lit< tt)
class_has lines (suc (suc (suc (suc zero))), low, e) = subst (λ n. 0 < blocks_of n) e (lit< tt)
class_has lines (suc (suc (suc (suc (suc zero)))), low, e) = subst (λ n. 0 < blocks_of n) e (lit< tt)
class_has lines (suc (suc (suc (suc (suc (suc zero))))), low, e) = subst (λ n. 0 < blocks_of n) e (lit< tt)
class_has lines (suc (suc (suc (suc (suc (suc (suc zero)))))), low, e) = subst (λ n. 0 < blocks_of n) e (lit< tt)
class_has lines (suc (suc (suc (suc (suc (suc (suc (suc i))))))), low, e) = absurd (omega (arith, low))
