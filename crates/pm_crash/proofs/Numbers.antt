-- The number that bits spell has these bits.
use Rattle.std.proofs.Common.{◌≡◌, ◌⊎◌, ⊎_elim, ℕ, zero, suc, ◌+◌, ◌-◌, ◌*◌, ◌/◌, ◌%◌, ◌^◌, ◌<◌, ◌≤◌, ◌==◌, Bool, true, false, cond, refl, sym, ◌∙◌, ap, subst, arith}
use Rattle.std.specs.Int.{bit_at}
use Rattle.std.proofs.Math.Nat.{pow-suc}
use Rattle.std.proofs.lemmas.Nat.Bits.{bit_at-suc, bit_at_lowest}
use Rattle.pm_world.specs.States.{Word, val}
use Rattle.pm_world.specs.Memory.{bit}
use Rattle.pm_world.proofs.Values.{val_from}
use Rattle.pm_crash.specs.Spelled.{number}
use Rattle.pm_crash.proofs.Spelling.{same_number}

digit : Bool → ℕ
digit t = cond t 1 0

low_digit : (t : Bool) (r : ℕ) → ((cond t 1 0 + 2 * r) % 2 == 1) ≡ t
low_digit true r = ap (λ n. n == 1) (let e : (1 + 2 * r) % 2 ≡ 1 = omega arith in e)
low_digit false r = ap (λ n. n == 1) (let e : (0 + 2 * r) % 2 ≡ 0 = omega arith in e)

high_digits : (t : Bool) (r : ℕ) → (cond t 1 0 + 2 * r) / 2 ≡ r
high_digits true r = let e : (1 + 2 * r) / 2 ≡ r = omega arith in e
high_digits false r = let e : (0 + 2 * r) / 2 ≡ r = omega arith in e

val_bit : (f : Word) (i n b : ℕ) → b < n → bit (val f i n) b ≡ f (i + b)
val_bit f i zero b l = absurd (omega arith)
val_bit f i (suc n) zero l = ap (λ m. m == 1) (bit_at_lowest (cond (f i) 1 0 + 2 * val f (suc i) n)) ∙ (low_digit (f i) (val f (suc i) n) ∙ (let e : i ≡ i + 0 = omega arith in ap f e))
val_bit f i (suc n) (suc b) l = ap (λ m. m == 1) (bit_at-suc (cond (f i) 1 0 + 2 * val f (suc i) n) b ∙ ap (λ m. bit_at m b) (high_digits (f i) (val f (suc i) n)))
    ∙ (val_bit f (suc i) n b (omega arith) ∙ (let e : suc i + b ≡ i + suc b = omega arith in ap f e))

val_small : (f : Word) (i n : ℕ) → val f i n < 2 ^ n
val_small f i zero = omega arith
val_small f i (suc n) = let r = val_small f (suc i) n in let p = pow-suc 2 n in by_digit (f i) r p
  where
    by_digit : (t : Bool) → val f (suc i) n < 2 ^ n → 2 ^ suc n ≡ 2 ^ n * 2 → cond t 1 0 + 2 * val f (suc i) n < 2 ^ suc n
    by_digit true r p = omega arith
    by_digit false r p = omega arith

pub number_bit : (f : Word) (b : ℕ) → b < 64 → bit (number f) b ≡ f b
number_bit f b l = val_bit f 0 64 b l ∙ (let e : 0 + b ≡ b = omega arith in ap f e)

pub number_small : (f : Word) → number f < 2 ^ 64
number_small f = val_small f 0 64

-- its higher bits
pub number_high : (f : Word) → val f 8 56 ≡ number f / 256
number_high f = let s = number_small f in same_number f (bit (number f)) 8 56 (λ b l m. sym (number_bit f b (omega arith))) ∙ (val_from (number f) 8 56 ∙ omega arith)

-- it is small where the higher bits are not set
low_val : (f : Word) (i n m : ℕ) → m ≤ n → ((b : ℕ) → i + m ≤ b → b < i + n → f b ≡ false) → val f i n < 2 ^ m
low_val f i zero m l h = omega (arith, Rattle.std.proofs.Common.pow_pos m)
low_val f i (suc n) zero l h = let z = low_val f (suc i) n zero (omega arith) (λ b a c. h b (omega arith) (omega arith)) in
    let e = h i (omega arith) (omega arith) in
    subst (λ t. cond t 1 0 + 2 * val f (suc i) n < 2 ^ zero) (sym e) (omega arith)
low_val f i (suc n) (suc m) l h = let z = low_val f (suc i) n m (omega arith) (λ b a c. h b (omega arith) (omega arith)) in let p = pow-suc 2 m in by_digit (f i) z p
  where
    by_digit : (t : Bool) → val f (suc i) n < 2 ^ m → 2 ^ suc m ≡ 2 ^ m * 2 → cond t 1 0 + 2 * val f (suc i) n < 2 ^ suc m
    by_digit true r p = omega arith
    by_digit false r p = omega arith

pub number_low : (f : Word) (m : ℕ) → m ≤ 64 → ((b : ℕ) → m ≤ b → b < 64 → f b ≡ false) → number f < 2 ^ m
number_low f m l h = low_val f 0 64 m l (λ b a c. h b (omega arith) (omega arith))
