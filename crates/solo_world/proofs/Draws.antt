-- How many lanes may draw.
use Rattle.std.proofs.Common.{◌≡◌, ◌≢◌, ℕ, zero, suc, ◌+◌, ◌<◌, ◌≤◌, ⊎_elim, Bool, true, false, cond, refl, sym, ap, ◌∙◌, arith}
use Rattle.std.proofs.lemmas.Bool.{cases_eq, false≢true}
use Rattle.solo_world.specs.World.{Views, may_draw, may_draw_count}

one_at_most : (b : Bool) → cond b 1 0 ≤ 1
one_at_most true = omega arith
one_at_most false = omega arith

no_more : (b c : Bool) → (b ≡ true → c ≡ true) → cond b 1 0 ≤ cond c 1 0
no_more true true then = omega arith
no_more true false then = absurd (false≢true (then refl))
no_more false c then = omega arith

one_if : (b : Bool) → b ≡ true → ◌≡◌ {A = ℕ} (cond b 1 0) 1
one_if b is = ap {B = ℕ} (λ c. cond c 1 0) is

none_if : (b : Bool) → b ≡ false → ◌≡◌ {A = ℕ} (cond b 1 0) 0
none_if b is = ap {B = ℕ} (λ c. cond c 1 0) is

pub draws_at_most : (views : Views) (n : ℕ) → may_draw_count views n ≤ n
unfolding may_draw_count
draws_at_most views zero = omega arith
draws_at_most views (suc n) = let rest = draws_at_most views n in let here = one_at_most (may_draw (views n)) in omega arith

pub draws_no_more : (views others : Views) (n : ℕ) → ((j : ℕ) → may_draw (others j) ≡ true → may_draw (views j) ≡ true) → may_draw_count others n ≤ may_draw_count views n
unfolding may_draw_count
draws_no_more views others zero then = omega arith
draws_no_more views others (suc n) then = let rest = draws_no_more views others n then in let here = no_more (may_draw (others n)) (may_draw (views n)) (then n) in omega arith

-- one lane fewer
pub draws_fewer : (views others : Views) (k n : ℕ) → k < n → ((j : ℕ) → may_draw (others j) ≡ true → may_draw (views j) ≡ true) → may_draw (views k) ≡ true → may_draw (others k) ≡ false
    → may_draw_count others n + 1 ≤ may_draw_count views n
unfolding may_draw_count
draws_fewer views others k zero inside then could cannot = absurd (omega arith)
draws_fewer views others k (suc n) inside then could cannot =
    ⊎_elim (λ (same : k ≡ n).
    let one : cond (may_draw (views n)) 1 0 ≡ 1 = one_if (may_draw (views n)) (ap (λ j. may_draw (views j)) (sym same) ∙ could) in
    let none : cond (may_draw (others n)) 1 0 ≡ 0 = none_if (may_draw (others n)) (ap (λ j. may_draw (others j)) (sym same) ∙ cannot) in
    let rest = draws_no_more views others n then in omega arith)
    (λ (differ : k ≢ n). let rest = draws_fewer views others k n (omega arith) then could cannot in let here = no_more (may_draw (others n)) (may_draw (views n)) (then n) in omega arith)
    (cases_eq k n)
