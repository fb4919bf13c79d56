-- Numbers and their bits.
use Rattle.std.proofs.Common.{◌≡◌, ℕ, zero, suc, ◌+◌, ◌*◌, ◌/◌, ◌%◌, ◌^◌, ◌<◌, ⊎_elim, cond, ◌==◌, sym, ap, ◌∙◌, arith, ne_eqb}
use Rattle.std.proofs.lemmas.Bool.{cases_eq}
use Rattle.std.proofs.Math.Nat.{div-div-eq-div-mul, pow-suc, mod-one, div-one, mod-eq_of_lt}
use Rattle.std.proofs.Math.Arith.{mod-mul}
use Rattle.pm_world.specs.States.{val}
use Rattle.pm_world.specs.Memory.{bit}

low_bit : (y : ℕ) → cond (y % 2 == 1) 1 0 ≡ y % 2
low_bit y = ⊎_elim (λ (e : y % 2 ≡ 1). ap (λ z. cond (z == 1) 1 0) e ∙ sym e) (λ (ne : ¬ (y % 2 ≡ 1)). ap (λ t. cond t 1 0) (ne_eqb (y % 2) 1 ne) ∙ omega arith) (cases_eq (y % 2) 1)

-- the bits of x from bit i on spell its digits from there
pub val_from : (x i n : ℕ) → val (bit x) i n ≡ x / 2 ^ i % 2 ^ n
val_from x i zero = sym (mod-one (x / 2 ^ i))
val_from x i (suc n) = let y = x / 2 ^ i in
    let a : x / 2 ^ suc i ≡ y / 2 = ap (λ z. x / z) (pow-suc 2 i) ∙ sym (div-div-eq-div-mul x (2 ^ i) 2) in
    let b : val (bit x) (suc i) n ≡ y / 2 % 2 ^ n = val_from x (suc i) n ∙ ap (λ z. z % 2 ^ n) a in
    let c : y % 2 ^ suc n ≡ y / 2 % 2 ^ n * 2 + y % 2 = ap (λ z. y % z) (pow-suc 2 n) ∙ mod-mul y {m = 2 ^ n} {c = 2} (pow_some n) (omega arith) in
    let d : cond (y % 2 == 1) 1 0 ≡ y % 2 = low_bit y in
    ap (λ z. z + 2 * val (bit x) (suc i) n) d ∙ (ap (λ z. y % 2 + 2 * z) b ∙ (omega arith ∙ sym c))
  where
    pow_some : (n : ℕ) → zero < 2 ^ n
    pow_some zero = omega arith
    pow_some (suc n) = let e = pow-suc 2 n in let l = pow_some n in omega arith

-- so all 64 of them spell a word
pub val_word : (x : ℕ) → x < 2 ^ 64 → val (bit x) 0 64 ≡ x
val_word x l = val_from x 0 64 ∙ (ap (λ z. z % 2 ^ 64) (div-one x) ∙ mod-eq_of_lt l)
