-- Bits that lie one after another in a word: the least of them, how many they are, and which.
use Rattle.std.specs.Int.{bit_at}
use Rattle.std.proofs.Common.{◌≡◌, ℕ, zero, suc, ◌+◌, ◌-◌, ◌*◌, ◌/◌, ◌%◌, ◌^◌, ◌<◌, ◌≤◌, ⊎_elim, nat_le, nat_lt, true, false, ◌==◌, ◌&&◌, refl, sym, ap, ◌∙◌, arith, eq-eqb, ne_eqb, pow-add}
use Rattle.std.proofs.lemmas.Bool.{cases_eq, cases_lt, le-leb, lt-ltb, leb-true, ltb-true, and_from, and_parts, and_left, and_right, cond-true, cond-false, false_from_ne_true}
use Rattle.std.proofs.lemmas.Nat.Bits.{bit_at_mask_inside, bit_at_mask_below, bit_at_mask_above}
use Rattle.std.proofs.Math.Nat.{pow-suc, mul_comm, mul_assoc, mul-suc}
use Rattle.pm_view.specs.Places.{in_span}
use Rattle.pm_view.specs.Claims.{lowest, ones}
use Rattle.pm_world.specs.Memory.{bit}

some_pow : (n : ℕ) → 1 ≤ 2 ^ n
some_pow zero = omega arith
some_pow (suc n) = let e = pow-suc 2 n in let l = some_pow n in omega arith

-- one place further, the row is doubled
row_next : (a y : ℕ) → 2 ^ suc a * y ≡ 2 * (2 ^ a * y)
row_next a y = ap (λ z. z * y) (pow-suc 2 a ∙ mul_comm (2 ^ a) 2) ∙ mul_assoc 2 (2 ^ a) y

pub lowest_row : (m a n : ℕ) → 1 ≤ n → a + n ≤ m → lowest m (2 ^ a * (2 ^ n - 1)) ≡ a
lowest_row zero a n one l = absurd (omega arith)
lowest_row (suc m) zero zero one l = absurd (omega arith)
lowest_row (suc m) zero (suc n) one l = let w = 2 ^ zero * (2 ^ suc n - 1) in let e = pow-suc 2 n in let s = some_pow n in let o : w % 2 ≡ 1 = omega arith in cond-true (w % 2 == 1) 0 (suc (lowest m (w / 2))) (eq-eqb (w % 2) 1 o)
lowest_row (suc m) (suc a) n one l = let y = 2 ^ n - 1 in let w = 2 ^ suc a * y in let r = row_next a y in let z = 2 ^ a * y in let o : w % 2 ≡ 0 = omega arith in let h : w / 2 ≡ z = omega arith in
    cond-false (w % 2 == 1) 0 (suc (lowest m (w / 2))) (ne_eqb (w % 2) 1 (λ e. omega arith)) ∙ ap (λ v. suc (lowest m v)) h ∙ ap suc (lowest_row m a n one (omega arith))

no_ones : (m : ℕ) → ones m 0 ≡ 0
no_ones zero = refl
no_ones (suc m) = let e = no_ones m in let q : 0 + ones m 0 ≡ 0 = omega arith in q

first_ones : (m n : ℕ) → n ≤ m → ones m (2 ^ n - 1) ≡ n
first_ones m zero l = no_ones m
first_ones zero (suc n) l = absurd (omega arith)
first_ones (suc m) (suc n) l = let w = 2 ^ suc n - 1 in let e = pow-suc 2 n in let s = some_pow n in let o : w % 2 ≡ 1 = omega arith in let h : w / 2 ≡ 2 ^ n - 1 = omega arith in ap (λ v. v + ones m (w / 2)) o ∙ (ap (λ v. 1 + ones m v) h ∙ (ap (λ v. 1 + v) (first_ones m n (omega arith)) ∙ omega arith))

pub ones_row : (m a n : ℕ) → a + n ≤ m → ones m (2 ^ a * (2 ^ n - 1)) ≡ n
ones_row m zero n l = ap (ones m) (omega arith) ∙ first_ones m n (omega arith)
ones_row zero (suc a) n l = absurd (omega arith)
ones_row (suc m) (suc a) n l = let y = 2 ^ n - 1 in let w = 2 ^ suc a * y in let r = row_next a y in let z = 2 ^ a * y in let o : w % 2 ≡ 0 = omega arith in let h : w / 2 ≡ z = omega arith in
    let t : ones m (w / 2) ≡ n = ap (ones m) h ∙ ones_row m a n (omega arith) in ap (λ v. v + ones m (w / 2)) o ∙ omega arith

pub row_bit : (a n j : ℕ) → bit (2 ^ a * (2 ^ n - 1)) j ≡ in_span a n j
row_bit a n j = let e : 2 ^ a * (2 ^ n - 1) ≡ 2 ^ (a + n) - 2 ^ a = mask in ap (λ w. bit w j) e ∙ ⊎_elim
    (λ (l : j < a). let z = bit_at_mask_below a (a + n) j l in ne_eqb (bit_at (2 ^ (a + n) - 2 ^ a) j) 1 (λ q. omega arith) ∙ sym (and_left (nat_le a j) (nat_lt j (a + n)) (false_from_ne_true (nat_le a j) (λ t. let q = leb-true a j t in omega arith))))
    (λ (l : a ≤ j). ⊎_elim (λ (m : j < a + n). eq-eqb (bit_at (2 ^ (a + n) - 2 ^ a) j) 1 (bit_at_mask_inside a (a + n) j l m) ∙ sym (and_from (nat_le a j) (nat_lt j (a + n)) (le-leb a j l) (lt-ltb j (a + n) m)))
    (λ (m : a + n ≤ j). let z = bit_at_mask_above a (a + n) j m in ne_eqb (bit_at (2 ^ (a + n) - 2 ^ a) j) 1 (λ q. omega arith) ∙ sym (and_right (nat_le a j) (nat_lt j (a + n)) (false_from_ne_true (nat_lt j (a + n)) (λ t. let q = ltb-true j (a + n) t in omega arith)))) (cases_lt j (a + n))) (cases_lt j a)
  where
    mask : 2 ^ a * (2 ^ n - 1) ≡ 2 ^ (a + n) - 2 ^ a
    mask = go (2 ^ a) (2 ^ n) (2 ^ (a + n)) (some_pow n) (pow-add 2 a n)
      where
        go : (x y z : ℕ) → 1 ≤ y → z ≡ x * y → x * (y - 1) ≡ z - x
        go x zero z l e = absurd (omega arith)
        go x (suc y) z l e = let q = mul-suc x y in let w : suc y - 1 ≡ y = omega arith in ap (λ v. x * v) w ∙ omega arith

-- the chunks of a row of a zone's bits
pub zone_row : (zone a n c : ℕ) → a + n ≤ 64 → ((c / 64 == zone) && in_span a n (c % 64)) ≡ in_span (64 * zone + a) n c
zone_row zone a n c l = ⊎_elim
    (λ (t : in_span (64 * zone + a) n c ≡ true). let y = and_parts (nat_le (64 * zone + a) c) (nat_lt c (64 * zone + a + n)) t in let p = leb-true (64 * zone + a) c y.0 in let q = ltb-true c (64 * zone + a + n) y.1 in
    and_from (c / 64 == zone) (in_span a n (c % 64)) (eq-eqb (c / 64) zone (omega arith)) (and_from (nat_le a (c % 64)) (nat_lt (c % 64) (a + n)) (le-leb a (c % 64) (omega arith)) (lt-ltb (c % 64) (a + n) (omega arith))) ∙ sym t)
    (λ (u : in_span (64 * zone + a) n c ≡ false). false_from_ne_true ((c / 64 == zone) && in_span a n (c % 64)) (λ t. let y = and_parts (c / 64 == zone) (in_span a n (c % 64)) t in let z = Rattle.std.proofs.lemmas.Bool.eqb-true (c / 64) zone y.0 in
    let w = and_parts (nat_le a (c % 64)) (nat_lt (c % 64) (a + n)) y.1 in let p = leb-true a (c % 64) w.0 in let q = ltb-true (c % 64) (a + n) w.1 in
    Rattle.std.proofs.lemmas.Bool.both_ways (in_span (64 * zone + a) n c) u (and_from (nat_le (64 * zone + a) c) (nat_lt c (64 * zone + a + n)) (le-leb (64 * zone + a) c (omega arith)) (lt-ltb c (64 * zone + a + n) (omega arith)))) ∙ sym u) (Rattle.std.proofs.lemmas.Bool.cases_Bool (in_span (64 * zone + a) n c))
