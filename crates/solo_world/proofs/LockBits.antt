-- The bits of a lock word: lane k's two, and those of the others.
use Rattle.std.proofs.Common.{◌≡◌, ◌≢◌, ℕ, ◌+◌, ◌-◌, ◌*◌, ◌/◌, ◌^◌, ◌<◌, ◌≤◌, ◌⊎◌, inl, inr, ⊎_elim, max, Bool, true, false, eqb, bit_and, bit_or, Some, sym, ap, ◌∙◌, arith, pow_mono, pow_pos, pow-add}
use Rattle.std.specs.Int.{bit_at, bit_not, w64}
use Rattle.std.proofs.lemmas.Bool.{cases_eq, cases_lt, eqb-true}
use Rattle.std.proofs.lemmas.Nat.{and_le_l, or_lt}
use Rattle.std.proofs.lemmas.Nat.Bits.{bit_at_and, bit_at_or, bit_at_not, bit_at_above, bit_at-lt, bit_at-zero, bit_at-pow_same, bit_at-pow_other}
use Rattle.std.proofs.lemmas.Option.{cond_some}
use Rattle.solo_memory.specs.LockWords.{reader_bit, writer_bit, with_writer, with_reader, without_lane}
use Rattle.solo_world.specs.Fits.{ShowsHold}
use Rattle.solo_world.specs.World.{hold_bit}
use Rattle.solo_world.proofs.Exclusion.{pow_injective}

pub pow_below : (k n : ℕ) → k < n → 2 ^ k < 2 ^ n
pow_below k n low =
    let more : k + 1 ≤ n = omega arith in
    let step : 2 ^ (k + 1) ≤ 2 ^ n = pow_mono {i = k + 1} {j = n} more in
    let some = pow_pos k in
    let twice : 2 ^ (k + 1) ≡ 2 ^ k * 2 = pow-add 2 k 1 in
    omega (arith, step, some, twice)

-- a lock word that shows a hold is of no other writer
pub no_two_holds : (a b word : ℕ) (write : Bool) → a ≢ b → ShowsHold a write word → word ≡ writer_bit b → ⊥
no_two_holds a b word true differ one two = differ (let e = pow_injective (32 + a) (32 + b) (sym one ∙ two) in omega arith)
no_two_holds a b word false differ one two =
    let small = one.1 in let more : 32 ≤ 32 + b = omega arith in let big : 2 ^ 32 ≤ 2 ^ (32 + b) = pow_mono {i = 32} {j = 32 + b} more in absurd (omega arith)

-- a free lock shows none
pub free_shows_none : (j : ℕ) (write : Bool) → ShowsHold j write 0 → ⊥
free_shows_none j true shows = let some = pow_pos (32 + j) in let none : 0 ≡ 2 ^ (32 + j) = shows in absurd (omega arith)
free_shows_none j false shows = let none = bit_at-zero j in let one = shows.0 in absurd (omega arith)

pub taken_write : (k old new : ℕ) → with_writer k old ≡ Some new → (old ≡ 0) × (new ≡ writer_bit k)
taken_write k old new e = let t = cond_some (eqb old 0) (writer_bit k) new e in (eqb-true old 0 t.0, sym t.1)

pub taken_read : (k old new : ℕ) → with_reader k old ≡ Some new → (old < 2 ^ 32) × (new ≡ bit_or old (reader_bit k))
taken_read k old new e =
    let t = cond_some (eqb (old / 2 ^ 32) 0) (bit_or old (reader_bit k)) new e in
    let none : old / 2 ^ 32 ≡ 0 = eqb-true (old / 2 ^ 32) 0 t.0 in
    let below : old < 2 ^ 32 = omega arith in
    (below, sym t.1)

-- the writer's bit is the only one
pub written_bits : (k new bit : ℕ) → new ≡ writer_bit k → bit_at new bit ≡ 1 → bit ≡ hold_bit k true
written_bits k new bit e one =
    ⊎_elim (λ (same : bit ≡ 32 + k). same) (λ (differ : bit ≢ 32 + k). let none = ap (λ n. bit_at n bit) e ∙ bit_at-pow_other (32 + k) bit differ in absurd (omega (arith, none, one))) (cases_eq bit (32 + k))

pub read_shows : (k old : ℕ) → k < 32 → old < 2 ^ 32 → ShowsHold k false (bit_or old (reader_bit k))
read_shows k old low small =
    let e = bit_at_or old (2 ^ k) k in let one = bit_at-pow_same k in let top = bit_at-lt old k in
    let here : bit_at (bit_or old (2 ^ k)) k ≡ 1 = omega (arith, e, one, top) in
    (here, or_lt 32 old (2 ^ k) small (pow_below k 32 low))

pub read_shows_on : (j k old : ℕ) (write : Bool) → k < 32 → old < 2 ^ 32 → ShowsHold j write old → ShowsHold j write (bit_or old (reader_bit k))
read_shows_on j k old true low small shows = let more : 32 ≤ 32 + j = omega arith in let big : 2 ^ 32 ≤ 2 ^ (32 + j) = pow_mono {i = 32} {j = 32 + j} more in let word : old ≡ 2 ^ (32 + j) = shows in absurd (omega (arith, big, word, small))
read_shows_on j k old false low small shows =
    let e = bit_at_or old (2 ^ k) j in let one = shows.0 in let top = bit_at-lt (2 ^ k) j in
    let here : bit_at (bit_or old (2 ^ k)) j ≡ 1 = omega (arith, e, one, top) in
    (here, or_lt 32 old (2 ^ k) small (pow_below k 32 low))

pub read_bits : (k old bit : ℕ) → bit_at (bit_or old (reader_bit k)) bit ≡ 1 → (bit ≡ hold_bit k false) ⊎ (bit_at old bit ≡ 1)
read_bits k old bit one =
    ⊎_elim (λ (same : bit ≡ k). inl same)
    (λ (differ : bit ≢ k). let e = bit_at_or old (2 ^ k) bit in let none = bit_at-pow_other k bit differ in let top = bit_at-lt old bit in let here : bit_at old bit ≡ 1 = omega (arith, e, none, top, one) in inr here)
    (cases_eq bit k)

-- the bits of a lane, as they are taken away
mask_small : (k : ℕ) → k < 32 → bit_or (reader_bit k) (writer_bit k) < 2 ^ 64
mask_small k low = or_lt 64 (2 ^ k) (2 ^ (32 + k)) (pow_below k 64 (omega arith)) (pow_below (32 + k) 64 (omega arith))

pub given_shows : (j k old : ℕ) → j < 32 → k < 32 → j ≢ k → ShowsHold j false old → ShowsHold j false (without_lane k old)
given_shows j k old small low differ shows =
    let mask : ℕ = bit_or (2 ^ k) (2 ^ (32 + k)) in
    let of = bit_at_and old (bit_not w64 mask) j in
    let free : bit_at (bit_not w64 mask) j ≡ 1 - bit_at mask j = bit_at_not w64 mask j (mask_small k low) (omega arith) in
    let both : bit_at mask j ≡ max (bit_at (2 ^ k) j) (bit_at (2 ^ (32 + k)) j) = bit_at_or (2 ^ k) (2 ^ (32 + k)) j in
    let one = bit_at-pow_other k j differ in let two = bit_at-pow_other (32 + k) j (λ same. absurd (omega arith)) in
    let set = shows.0 in let less = and_le_l old (bit_not w64 mask) in let bound = shows.1 in
    let here : bit_at (bit_and old (bit_not w64 mask)) j ≡ 1 = omega (arith, of, free, both, one, two, set) in
    (here, (let below : bit_and old (bit_not w64 mask) < 2 ^ 32 = omega (arith, less, bound) in below))

pub given_bits : (k old bit : ℕ) → k < 32 → bit_at (without_lane k old) bit ≡ 1 → (bit_at old bit ≡ 1) × (bit ≢ k) × (bit ≢ 32 + k)
given_bits k old bit low one =
    let mask : ℕ = bit_or (2 ^ k) (2 ^ (32 + k)) in
    let of = bit_at_and old (bit_not w64 mask) bit in
    let top = bit_at-lt old bit in let top' = bit_at-lt (bit_not w64 mask) bit in
    let set : bit_at old bit ≡ 1 = omega (arith, of, one, top, top') in
    let kept : bit_at (bit_not w64 mask) bit ≡ 1 = omega (arith, of, one, top, top') in
    let small : bit < 64 = ⊎_elim (λ (below : bit < 64). below)
    (λ (above : 64 ≤ bit). let all : bit_not w64 mask < 2 ^ 64 = omega arith in let none = bit_at_above (bit_not w64 mask) 64 bit all above in absurd (omega (arith, none, kept))) (cases_lt bit 64) in
    let free : bit_at (bit_not w64 mask) bit ≡ 1 - bit_at mask bit = bit_at_not w64 mask bit (mask_small k low) small in
    let both : bit_at mask bit ≡ max (bit_at (2 ^ k) bit) (bit_at (2 ^ (32 + k)) bit) = bit_at_or (2 ^ k) (2 ^ (32 + k)) bit in (
      set,
      (λ same. let here = ap (bit_at (2 ^ k)) same ∙ bit_at-pow_same k in absurd (omega (arith, kept, free, both, here))),
      (λ same. let here = ap (bit_at (2 ^ (32 + k))) same ∙ bit_at-pow_same (32 + k) in absurd (omega (arith, kept, free, both, here))),
    )
