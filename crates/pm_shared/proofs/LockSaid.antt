-- What a lock word of the table says, after each call on it.
use Rattle.std.proofs.Common.{◌≡◌, ◌≢◌, ℕ, ◌+◌, ◌-◌, ◌*◌, ◌/◌, ◌%◌, ◌^◌, ◌<◌, ◌≤◌, ⊎_elim, ◌⊎◌, inl, inr, cond, bit_and, bit_or, Some, None, sym, ap, ◌∙◌, arith, eq-eqb, ne_eqb, pow_mono, pow_pos, pow-add}
use Rattle.std.specs.Int.{bit_at, bit_not, w64}
use Rattle.std.proofs.lemmas.Bool.{cases_eq, cases_lt}
use Rattle.std.proofs.lemmas.Nat.{or_lt, and_le_l, and_le_r}
use Rattle.std.proofs.lemmas.Nat.Bits.{bit_at_and, bit_at_or, bit_at_not, bit_at_above, bit_at_ones, bit_at_ones_above, bit_at-lt, bit_at-zero, bit_at-pow_same, bit_at-pow_other, bit_at_cat_low, bit_at_cat_high, same_from_bits}
use Rattle.pm_view.specs.LockWords.{reader_bit, writer_bit, with_writer, with_reader, with_raised, without_lane}
use Rattle.pm_shared.specs.Placing.{lock_said}

pub said_low : (x : ℕ) → x / 2 ^ 32 ≡ 0 → lock_said x ≡ x
said_low x low = ap (λ b. cond b x (x / 2 ^ 32 * 2 ^ 32)) (eq-eqb (x / 2 ^ 32) 0 low)

pub said_high : (x : ℕ) → x / 2 ^ 32 ≢ 0 → lock_said x ≡ x / 2 ^ 32 * 2 ^ 32
said_high x high = ap (λ b. cond b x (x / 2 ^ 32 * 2 ^ 32)) (ne_eqb (x / 2 ^ 32) 0 high)

said_whole : (x : ℕ) → x / 2 ^ 32 * 2 ^ 32 ≡ x → lock_said x ≡ x
said_whole x whole = ⊎_elim (λ (low : x / 2 ^ 32 ≡ 0). said_low x low) (λ (high : x / 2 ^ 32 ≢ 0). said_high x high ∙ whole) (cases_eq (x / 2 ^ 32) 0)

pub low_part : (x : ℕ) → x / 2 ^ 32 ≡ 0 → lock_said x / 2 ^ 32 ≡ 0
low_part x low = ap (λ y. y / 2 ^ 32) (said_low x low) ∙ low

pub high_part : (x : ℕ) → x / 2 ^ 32 ≢ 0 → lock_said x / 2 ^ 32 ≢ 0
high_part x high e = let s = said_high x high in high (omega arith)

power_below : (k n : ℕ) → k < n → 2 ^ k < 2 ^ n
power_below k n low = let more : k + 1 ≤ n = omega arith in let step : 2 ^ (k + 1) ≤ 2 ^ n = pow_mono {i = k + 1} {j = n} more in let some = pow_pos k in let twice : 2 ^ (k + 1) ≡ 2 ^ k * 2 = pow-add 2 k 1 in omega (arith, step, some, twice)

said_writer : (k : ℕ) → lock_said (writer_bit k) ≡ writer_bit k
said_writer k = let e : 2 ^ (32 + k) ≡ 2 ^ 32 * 2 ^ k = pow-add 2 32 k in said_whole (2 ^ (32 + k)) (let w : ℕ = 2 ^ (32 + k) in let p : ℕ = 2 ^ k in let f : w ≡ 2 ^ 32 * p = e in let g : w / 2 ^ 32 * 2 ^ 32 ≡ w = omega arith in g)

-- ---- taken for writing
pub write_won : (k r : ℕ) → r ≡ 0 → with_writer k (lock_said r) ≡ Some (lock_said (writer_bit k))
write_won k r zero_ = ap (λ x. with_writer k (lock_said x)) zero_ ∙ ap Some (sym (said_writer k))

pub write_lost : (k r : ℕ) → r ≢ 0 → with_writer k (lock_said r) ≡ None
write_lost k r some = ap (λ b. cond b (Some (writer_bit k)) None) (ne_eqb (lock_said r) 0 (λ e. ⊎_elim (λ (low : r / 2 ^ 32 ≡ 0). some (sym (said_low r low) ∙ e)) (λ (high : r / 2 ^ 32 ≢ 0). high_part r high (ap (λ y. y / 2 ^ 32) e)) (cases_eq (r / 2 ^ 32) 0)))

-- ---- taken for reading
or_high : (r b : ℕ) → b < 2 ^ 32 → bit_or r b / 2 ^ 32 ≡ r / 2 ^ 32
or_high r b small = let h : ℕ = r / 2 ^ 32 in let l : ℕ = r % 2 ^ 32 in let low : l < 2 ^ 32 = omega arith in let parts : r ≡ h * 2 ^ 32 + l = omega arith in let o : ℕ = bit_or l b in let less : o < 2 ^ 32 = or_lt 32 l b low small in
    let e : bit_or r b ≡ h * 2 ^ 32 + o = same_from_bits (bit_or r b) (h * 2 ^ 32 + o) (λ i. let x = bit_at_or r b i in let y = bit_at_or l b i in let z : bit_at r i ≡ bit_at (h * 2 ^ 32 + l) i = ap (λ n. bit_at n i) parts in
    ⊎_elim (λ (u : i < 32). let p = bit_at_cat_low h 32 l i u in let q = bit_at_cat_low h 32 o i u in omega (arith, x, y, z, p, q))
    (λ (u : 32 ≤ i). let p = bit_at_cat_high h 32 l i low u in let q = bit_at_cat_high h 32 o i less u in let n = bit_at_above b 32 i small u in omega (arith, x, z, p, q, n)) (cases_lt i 32)) in
    ap (λ n. n / 2 ^ 32) e ∙ (omega arith)

pub read_won : (k r : ℕ) → k < 32 → r / 2 ^ 32 ≡ 0 → with_reader k (lock_said r) ≡ Some (lock_said (bit_or r (reader_bit k)))
read_won k r few low = let small : 2 ^ k < 2 ^ 32 = power_below k 32 few in let high = or_high r (2 ^ k) small in
    ap (with_reader k) (said_low r low) ∙ (ap (λ b. cond b (Some (bit_or r (reader_bit k))) None) (eq-eqb (r / 2 ^ 32) 0 low) ∙ ap Some (sym (said_low (bit_or r (2 ^ k)) (high ∙ low))))

pub read_lost : (k r : ℕ) → r / 2 ^ 32 ≢ 0 → with_reader k (lock_said r) ≡ None
read_lost k r high = ap (λ b. cond b (Some (bit_or (lock_said r) (reader_bit k))) None) (ne_eqb (lock_said r / 2 ^ 32) 0 (high_part r high))

pub read_same : (k r : ℕ) → k < 32 → r / 2 ^ 32 ≢ 0 → lock_said (bit_or r (reader_bit k)) ≡ lock_said r
read_same k r few high = let small : 2 ^ k < 2 ^ 32 = power_below k 32 few in let same = or_high r (2 ^ k) small in
    said_high (bit_or r (2 ^ k)) (λ e. high (sym same ∙ e)) ∙ (ap (λ n. n * 2 ^ 32) same ∙ sym (said_high r high))

-- ---- raised
pub raise_won : (k r : ℕ) → k < 32 → r ≡ reader_bit k → with_raised k (lock_said r) ≡ Some (lock_said (writer_bit k))
raise_won k r few is = let small : 2 ^ k < 2 ^ 32 = power_below k 32 few in let low : r / 2 ^ 32 ≡ 0 = omega arith in
    ap (λ b. cond b (Some (writer_bit k)) None) (eq-eqb (lock_said r) (reader_bit k) (said_low r low ∙ is)) ∙ ap Some (sym (said_writer k))

pub raise_lost : (k r : ℕ) → k < 32 → r ≢ reader_bit k → with_raised k (lock_said r) ≡ None
raise_lost k r few other = let small : 2 ^ k < 2 ^ 32 = power_below k 32 few in ap (λ b. cond b (Some (writer_bit k)) None) (ne_eqb (lock_said r) (reader_bit k) (λ e. ⊎_elim (λ (low : r / 2 ^ 32 ≡ 0). other (sym (said_low r low) ∙ e))
    (λ (high : r / 2 ^ 32 ≢ 0). high_part r high (ap (λ y. y / 2 ^ 32) e ∙ (let z : 2 ^ k / 2 ^ 32 ≡ 0 = omega arith in z))) (cases_eq (r / 2 ^ 32) 0)))

-- ---- given back: by a reader its own bits, by a writer all readers' bits too
pub reader_gave : (k r : ℕ) → r / 2 ^ 32 ≡ 0 → lock_said (without_lane k r) ≡ without_lane k (lock_said r)
reader_gave k r low = let less : without_lane k r ≤ r = and_le_l r (bit_not w64 (bit_or (reader_bit k) (writer_bit k))) in said_low (without_lane k r) (omega arith) ∙ ap (without_lane k) (sym (said_low r low))

-- what a writer's call leaves of the word
abbrev pub writer_left : ℕ → ℕ → ℕ
writer_left k r = bit_and r (bit_not w64 (bit_or (2 ^ 32 - 1) (writer_bit k)))

pub writer_gave : (k r : ℕ) → k < 32 → r / 2 ^ 32 ≢ 0 → lock_said (writer_left k r) ≡ without_lane k (lock_said r)
writer_gave k r few high = said_whole new whole ∙ (same ∙ ap (without_lane k) (sym (said_high r high)))
  where
    h : ℕ
    h = r / 2 ^ 32

    l : ℕ
    l = r % 2 ^ 32

    parts : r ≡ h * 2 ^ 32 + l
    parts = omega arith

    low : l < 2 ^ 32
    low = omega arith

    mask : ℕ
    mask = bit_or (2 ^ 32 - 1) (2 ^ (32 + k))

    own : ℕ
    own = bit_or (2 ^ k) (2 ^ (32 + k))

    new : ℕ
    new = bit_and r (bit_not w64 mask)

    small : mask < 2 ^ 64
    small = or_lt 64 (2 ^ 32 - 1) (2 ^ (32 + k)) (omega arith) (power_below (32 + k) 64 (omega arith))

    small' : own < 2 ^ 64
    small' = or_lt 64 (2 ^ k) (2 ^ (32 + k)) (power_below k 64 (omega arith)) (power_below (32 + k) 64 (omega arith))

    new_low : (i : ℕ) → i < 32 → bit_at new i ≡ 0
    new_low i u = let a = bit_at_and r (bit_not w64 mask) i in let n = bit_at_not w64 mask i small (omega arith) in let o = bit_at_or (2 ^ 32 - 1) (2 ^ (32 + k)) i in let one = bit_at_ones 32 i u in let top = bit_at-lt (2 ^ (32 + k)) i in omega (arith, a, n, o, one, top)

    whole : new / 2 ^ 32 * 2 ^ 32 ≡ new
    whole = let q : ℕ = new / 2 ^ 32 in let z : ℕ = new % 2 ^ 32 in let zl : z < 2 ^ 32 = omega arith in let e : new ≡ q * 2 ^ 32 + z = omega arith in
        let none : z ≡ 0 = same_from_bits z 0 (λ i. let zero_ = bit_at-zero i in ⊎_elim (λ (u : i < 32). let c = bit_at_cat_low q 32 z i u in let b = new_low i u in let s = ap (λ n. bit_at n i) e in omega (arith, zero_, c, b, s)) (λ (u : 32 ≤ i). let a = bit_at_above z 32 i zl u in omega (arith, zero_, a)) (cases_lt i 32)) in omega arith

    at_low : (i : ℕ) → i < 32 → bit_at new i ≡ bit_at (bit_and (h * 2 ^ 32) (bit_not w64 own)) i
    at_low i u = let a = bit_at_and (h * 2 ^ 32) (bit_not w64 own) i in let c = bit_at_cat_low h 32 0 i u in let n = new_low i u in let zero_ = bit_at-zero i in let plus : h * 2 ^ 32 + 0 ≡ h * 2 ^ 32 = omega arith in let d = ap (λ n. bit_at n i) plus in omega (arith, a, c, n, zero_, d)

    at_high : (i : ℕ) → 32 ≤ i → i < 64 → bit_at new i ≡ bit_at (bit_and (h * 2 ^ 32) (bit_not w64 own)) i
    at_high i u v = let a = bit_at_and r (bit_not w64 mask) i in let b = bit_at_and (h * 2 ^ 32) (bit_not w64 own) i in let n = bit_at_not w64 mask i small v in let m = bit_at_not w64 own i small' v in
        let o = bit_at_or (2 ^ 32 - 1) (2 ^ (32 + k)) i in let p = bit_at_or (2 ^ k) (2 ^ (32 + k)) i in let x = bit_at_ones_above 32 i u in let y = bit_at-pow_other k i (λ e. absurd (omega arith)) in
        let c = bit_at_cat_high h 32 l i low u in let d = bit_at_cat_high h 32 0 i (omega arith) u in let plus : h * 2 ^ 32 + 0 ≡ h * 2 ^ 32 = omega arith in let e = ap (λ n. bit_at n i) plus in let f = ap (λ n. bit_at n i) parts in
        omega (arith, a, b, n, m, o, p, x, y, c, d, e, f)

    beyond : (i : ℕ) → 64 ≤ i → bit_at new i ≡ bit_at (bit_and (h * 2 ^ 32) (bit_not w64 own)) i
    beyond i u = let a = and_le_r r (bit_not w64 mask) in let b = and_le_r (h * 2 ^ 32) (bit_not w64 own) in let x : new < 2 ^ 64 = omega (arith, a) in let y : bit_and (h * 2 ^ 32) (bit_not w64 own) < 2 ^ 64 = omega (arith, b) in
        bit_at_above new 64 i x u ∙ sym (bit_at_above (bit_and (h * 2 ^ 32) (bit_not w64 own)) 64 i y u)

    same : new ≡ bit_and (h * 2 ^ 32) (bit_not w64 own)
    same = same_from_bits new (bit_and (h * 2 ^ 32) (bit_not w64 own)) (λ i. ⊎_elim (λ (u : i < 32). at_low i u) (λ (u : 32 ≤ i). ⊎_elim (λ (v : i < 64). at_high i u v) (λ (v : 64 ≤ i). beyond i v) (cases_lt i 64)) (cases_lt i 32))

-- a bit of it is clear, where no other lane writes
pub left_clear : (k r j : ℕ) → k < 32 → r < 2 ^ 64 → ((n : ℕ) → n ≢ k → j ≡ 32 + n → bit_at r j ≡ 0) → bit_at (writer_left k r) j ≡ 0
left_clear k r j few small none = let a = bit_at_and r (bit_not w64 mask) j in ⊎_elim
    (λ (far : 64 ≤ j). let b = bit_at_above r 64 j small far in omega (arith, a, b))
    (λ (near : j < 64). let n = bit_at_not w64 mask j fits near in let o = bit_at_or (2 ^ 32 - 1) (2 ^ (32 + k)) j in ⊎_elim
    (λ (low : j < 32). let one = bit_at_ones 32 j low in let top = bit_at-lt (2 ^ (32 + k)) j in omega (arith, a, n, o, one, top))
    (λ (high : 32 ≤ j). ⊎_elim
    (λ (here : j ≡ 32 + k). let p = ap (bit_at (2 ^ (32 + k))) here ∙ bit_at-pow_same (32 + k) in let top = bit_at-lt (2 ^ 32 - 1) j in omega (arith, a, n, o, p, top))
    (λ (other : j ≢ 32 + k). let c = none (j - 32) (λ e. other (omega (arith, high, e))) (omega (arith, high)) in omega (arith, a, c)) (cases_eq j (32 + k))) (cases_lt j 32)) (swap (cases_lt j 64))
  where
    mask : ℕ
    mask = bit_or (2 ^ 32 - 1) (2 ^ (32 + k))

    fits : mask < 2 ^ 64
    fits = or_lt 64 (2 ^ 32 - 1) (2 ^ (32 + k)) (omega arith) (power_below (32 + k) 64 (omega (arith, few)))

    swap : {X Y : Type 0} → X ⊎ Y → Y ⊎ X
    swap (inl x) = inr x
    swap (inr y) = inl y

-- a writer's bit is a high one
pub high_writer : (k : ℕ) → writer_bit k / 2 ^ 32 ≢ 0
high_writer k e = let p : ℕ = 2 ^ k in let w : ℕ = 2 ^ (32 + k) in let f : w ≡ 2 ^ 32 * p = pow-add 2 32 k in let some : 1 ≤ p = pow_pos k in let g : w / 2 ^ 32 ≡ 0 = e in absurd (omega (arith, f, some, g))
