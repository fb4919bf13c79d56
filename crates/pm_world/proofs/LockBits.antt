-- Lock words by their bits: a lane that takes a lock, raises it or gives it back changes its own bits alone.
use Rattle.std.proofs.Common.{◌≡◌, ◌≢◌, ℕ, ◌+◌, ◌*◌, ◌/◌, ◌^◌, ◌<◌, ◌≤◌, ◌⊎◌, ⊎_elim, nat_lt, max, Bool, true, false, ◌&&◌, eqb, ◌==◌, bit_and, bit_or, Some, refl, sym, ap, ◌∙◌, arith, eq-eqb, lt-ltb, le-ltb, pow_mono, pow_pos, pow-add}
use Rattle.std.specs.Int.{bit_at, bit_not, w64}
use Rattle.std.proofs.lemmas.Bool.{cases_eq, cases_lt, eqb-true, both_ways}
use Rattle.std.proofs.lemmas.Nat.{or_lt}
use Rattle.std.proofs.lemmas.Nat.Bits.{bit_at_and, bit_at_or, bit_at_not, bit_at_above, bit_at-lt, bit_at-zero, bit_at-pow_same, bit_at-pow_other}
use Rattle.std.proofs.lemmas.Option.{cond_some}
use Rattle.pm_view.specs.LockWords.{reader_bit, writer_bit, with_writer, with_reader, with_raised, without_lane}
use Rattle.pm_world.specs.Memory.{bit}

-- a lock word becomes another, of which lane k's bits are these and the other lanes' are as before
pub record WordMoves (k word new : ℕ) (w r : Bool) : Type 0 where
  pub writer_here : bit new (32 + k) ≡ w
  pub reader_here : (nat_lt k 32 && bit new k) ≡ r
  pub writer_else : (j : ℕ) → j ≢ k → (j < 32) ⊎ (bit word (32 + j) ≡ false) → bit new (32 + j) ≡ bit word (32 + j)
  pub reader_else : (j : ℕ) → j ≢ k → (nat_lt j 32 && bit new j) ≡ (nat_lt j 32 && bit word j)

-- and the others have no such lock
pub record NoneElse (k word : ℕ) : Type 0 where
  pub writer : (j : ℕ) → j ≢ k → bit word (32 + j) ≡ false

pub record NoReader (k word : ℕ) : Type 0 where
  pub reader : (j : ℕ) → j ≢ k → (nat_lt j 32 && bit word j) ≡ false

set_bit : (n b : ℕ) → bit_at n b ≡ 1 → bit n b ≡ true
set_bit n b e = eq-eqb (bit_at n b) 1 e

clear_bit : (n b : ℕ) → bit_at n b ≡ 0 → bit n b ≡ false
clear_bit n b e = ap (λ y. y == 1) e

same_bit : (n m b : ℕ) → bit_at n b ≡ bit_at m b → bit n b ≡ bit m b
same_bit n m b e = ap (λ y. y == 1) e

zero_bit : (b : ℕ) → bit 0 b ≡ false
zero_bit b = clear_bit 0 b (bit_at-zero b)

power_bit : (n b : ℕ) → b ≢ n → bit (2 ^ n) b ≡ false
power_bit n b ne = clear_bit (2 ^ n) b (bit_at-pow_other n b ne)

own_bit : (n : ℕ) → bit (2 ^ n) n ≡ true
own_bit n = set_bit (2 ^ n) n (bit_at-pow_same n)

-- reader's bits are below 32
below_32 : (j : ℕ) (a a' : Bool) → (j < 32 → a' ≡ a) → (nat_lt j 32 && a') ≡ (nat_lt j 32 && a)
below_32 j a a' u = ⊎_elim (λ (l : j < 32). ap (λ t. nat_lt j 32 && t) (u l)) (λ (l : 32 ≤ j). let e : nat_lt j 32 ≡ false = le-ltb j 32 l in ap (λ t. t && a') e ∙ sym (ap (λ t. t && a) e)) (cases_lt j 32)

none_below : (j : ℕ) (a : Bool) → (j < 32 → a ≡ false) → (nat_lt j 32 && a) ≡ false
none_below j a u = below_32 j false a u ∙ never (nat_lt j 32)
  where
    never : (t : Bool) → (t && false) ≡ false
    never true = refl
    never false = refl

pub clear_at : (n b : ℕ) → bit n b ≡ false → bit_at n b ≡ 0
clear_at n b z = let top = bit_at-lt n b in ⊎_elim (λ (q : bit_at n b ≡ 1). absurd (both_ways (bit n b) z (set_bit n b q))) (λ (ne : bit_at n b ≢ 1). omega (arith, top)) (cases_eq (bit_at n b) 1)

pub write_moves : (k word new : ℕ) → with_writer k word ≡ Some new → WordMoves k word new true false × NoneElse k word × NoReader k word
write_moves k word new e = let t = cond_some (eqb word 0) (writer_bit k) new e in let zero_ : word ≡ 0 = eqb-true word 0 t.0 in let is : new ≡ 2 ^ (32 + k) = sym t.1 in
    let old : (b : ℕ) → bit word b ≡ false = λ b. ap (λ n. bit n b) zero_ ∙ zero_bit b in
    let else_ : (b : ℕ) → b ≢ 32 + k → bit new b ≡ false = λ b ne. ap (λ n. bit n b) is ∙ power_bit (32 + k) b ne in (
      record {
        writer_here = ap (λ n. bit n (32 + k)) is ∙ own_bit (32 + k);
        reader_here = none_below k (bit new k) (λ l. else_ k (λ q. absurd (omega arith)));
        writer_else = λ j ne _. else_ (32 + j) (λ q. ne (omega arith)) ∙ sym (old (32 + j));
        reader_else = λ j ne. below_32 j (bit word j) (bit new j) (λ l. else_ j (λ q. absurd (omega arith)) ∙ sym (old j));
      },
      record { writer = λ j ne. old (32 + j) },
      record { reader = λ j ne. none_below j (bit word j) (λ l. old j) },
    )

pub read_moves : (k word new : ℕ) → k < 32 → with_reader k word ≡ Some new → WordMoves k word new false true × NoneElse k word
read_moves k word new low e = let t = cond_some (eqb (word / 2 ^ 32) 0) (bit_or word (reader_bit k)) new e in let none_ : word / 2 ^ 32 ≡ 0 = eqb-true (word / 2 ^ 32) 0 t.0 in
    let small : word < 2 ^ 32 = omega arith in let is : new ≡ bit_or word (2 ^ k) = sym t.1 in
    let high : (j : ℕ) → bit word (32 + j) ≡ false = λ j. clear_bit word (32 + j) (bit_at_above word 32 (32 + j) small (omega arith)) in
    let else_ : (b : ℕ) → b ≢ k → bit new b ≡ bit word b = λ b ne. ap (λ n. bit n b) is ∙ same_bit (bit_or word (2 ^ k)) word b (let a = bit_at_or word (2 ^ k) b in let z = bit_at-pow_other k b ne in omega (arith, a, z)) in
    let here : bit new k ≡ true = ap (λ n. bit n k) is ∙ set_bit (bit_or word (2 ^ k)) k (let a = bit_at_or word (2 ^ k) k in let o = bit_at-pow_same k in let top = bit_at-lt word k in omega (arith, a, o, top)) in (
      record {
        writer_here = else_ (32 + k) (λ q. absurd (omega arith)) ∙ high k;
        reader_here = ap (λ t. t && bit new k) (lt-ltb k 32 low) ∙ here;
        writer_else = λ j ne _. else_ (32 + j) (λ q. absurd (omega arith));
        reader_else = λ j ne. ap (λ t. nat_lt j 32 && t) (else_ j ne);
      },
      record { writer = λ j ne. high j },
    )

pub raise_moves : (k word new : ℕ) → k < 32 → with_raised k word ≡ Some new → WordMoves k word new true false × NoneElse k word × NoReader k word
raise_moves k word new low e = let t = cond_some (eqb word (reader_bit k)) (writer_bit k) new e in let was : word ≡ 2 ^ k = eqb-true word (2 ^ k) t.0 in let is : new ≡ 2 ^ (32 + k) = sym t.1 in
    let old : (b : ℕ) → b ≢ k → bit word b ≡ false = λ b ne. ap (λ n. bit n b) was ∙ power_bit k b ne in
    let else_ : (b : ℕ) → b ≢ 32 + k → bit new b ≡ false = λ b ne. ap (λ n. bit n b) is ∙ power_bit (32 + k) b ne in (
      record {
        writer_here = ap (λ n. bit n (32 + k)) is ∙ own_bit (32 + k);
        reader_here = none_below k (bit new k) (λ l. else_ k (λ q. absurd (omega arith)));
        writer_else = λ j ne _. else_ (32 + j) (λ q. ne (omega arith)) ∙ sym (old (32 + j) (λ q. absurd (omega arith)));
        reader_else = λ j ne. below_32 j (bit word j) (bit new j) (λ l. else_ j (λ q. absurd (omega arith)) ∙ sym (old j ne));
      },
      record { writer = λ j ne. old (32 + j) (λ q. absurd (omega arith)) },
      record { reader = λ j ne. none_below j (bit word j) (λ l. old j ne) },
    )

power_below : (k n : ℕ) → k < n → 2 ^ k < 2 ^ n
power_below k n low = let more : k + 1 ≤ n = omega arith in let step : 2 ^ (k + 1) ≤ 2 ^ n = pow_mono {i = k + 1} {j = n} more in let some = pow_pos k in let twice : 2 ^ (k + 1) ≡ 2 ^ k * 2 = pow-add 2 k 1 in omega (arith, step, some, twice)

pub give_moves : (k word : ℕ) → k < 32 → WordMoves k word (without_lane k word) false false
give_moves k word low = record {
  writer_here = clear_bit new (32 + k) (here (32 + k) (omega arith) (let o = bit_at-pow_same (32 + k) in let top = bit_at-lt (2 ^ k) (32 + k) in let b = both (32 + k) in omega (arith, o, b, top)));
  reader_here = none_below k (bit new k) (λ _. clear_bit new k (here k (omega arith) (let o = bit_at-pow_same k in let top = bit_at-lt (2 ^ (32 + k)) k in let b = both k in omega (arith, o, b, top))));
  writer_else = λ j ne u. ⊎_elim (λ (l : j < 32). same_bit new word (32 + j) (there (32 + j) (omega arith) (λ q. absurd (omega arith)) (λ q. ne (omega arith))))
      (λ (z : bit word (32 + j) ≡ false). stays_clear (32 + j) z) u;
  reader_else = λ j ne. below_32 j (bit word j) (bit new j) (λ l. same_bit new word j (there j (omega arith) ne (λ q. absurd (omega arith))));
}
  where
    mask : ℕ
    mask = bit_or (2 ^ k) (2 ^ (32 + k))

    new : ℕ
    new = bit_and word (bit_not w64 mask)

    small : mask < 2 ^ 64
    small = or_lt 64 (2 ^ k) (2 ^ (32 + k)) (power_below k 64 (omega arith)) (power_below (32 + k) 64 (omega arith))

    both : (b : ℕ) → bit_at mask b ≡ max (bit_at (2 ^ k) b) (bit_at (2 ^ (32 + k)) b)
    both b = bit_at_or (2 ^ k) (2 ^ (32 + k)) b

    here : (b : ℕ) → b < 64 → bit_at mask b ≡ 1 → bit_at new b ≡ 0
    here b l e = let a = bit_at_and word (bit_not w64 mask) b in let n = bit_at_not w64 mask b small l in omega (arith, a, n, e)

    there : (b : ℕ) → b < 64 → b ≢ k → b ≢ 32 + k → bit_at new b ≡ bit_at word b
    there b l ne ne' = let a = bit_at_and word (bit_not w64 mask) b in let n = bit_at_not w64 mask b small l in let x = bit_at-pow_other k b ne in let y = bit_at-pow_other (32 + k) b ne' in let m = both b in let top = bit_at-lt word b in omega (arith, a, n, x, y, m, top)

    stays_clear : (b : ℕ) → bit word b ≡ false → bit new b ≡ bit word b
    stays_clear b z = let o = clear_at word b z in let a = bit_at_and word (bit_not w64 mask) b in clear_bit new b (omega (arith, a, o)) ∙ sym z
