use Rattle.std.proofs.Common.{rules, ◌≡◌, ⊎_elim, ℕ, ◌-◌, ◌*◌, ◌/◌, ◌%◌, ◌^◌, ◌<◌, ◌≤◌, ◌↔◌, ◌==◌, ◌||◌, Bool, not, nat_le, true, bit_or, sym, ap, ◌∙◌, arith, eq-eqb}
use Rattle.std.specs.Int.{bit_at}
use Rattle.std.proofs.lemmas.Bool.{cases_lt, eqb-true, false≢true, le-leb, leb-true, not_from_false, not_from_true, or_cases, or_left, or_right}
use Rattle.std.proofs.lemmas.Nat.Bits.{bit_at-lt, bit_at_mask_below, bit_at_mask_inside, bit_at_ones, bit_at_or, ones_shl}
use Rattle.pm_layout.specs.Sizes.{blocks_of}
use Rattle.solo_view.specs.Blocks.{is_run}
use Rattle.solo_occupancy.proofs.taken.taken_blocks.Goals as goal

-- the ones from a bit on
ones_inside : (k block : ℕ) → k ≤ 64 → k ≤ block → block < 64 → bit_at ((2 ^ 64 - 1) * 2 ^ k % 2 ^ 64) block ≡ 1
ones_inside k block within at low = ap (λ n. bit_at n block) (ones_shl 64 k within) ∙ bit_at_mask_inside k 64 block at low

ones_below : (k block : ℕ) → k ≤ 64 → block < k → bit_at ((2 ^ 64 - 1) * 2 ^ k % 2 ^ 64) block ≡ 0
ones_below k block within low = ap (λ n. bit_at n block) (ones_shl 64 k within) ∙ bit_at_mask_below k 64 block low

-- a run's word: its bitmap, and ones from the number of its blocks on
joined : (is_of : Bool) (bitmap k block : ℕ) → is_of ≡ true → k ≤ 64 → block < 64 → (bit_at (bit_or bitmap ((2 ^ 64 - 1) * 2 ^ k % 2 ^ 64)) block ≡ 1) ↔ ((not is_of || nat_le k block || bit_at bitmap block == 1) ≡ true)
joined is_of bitmap k block so within low =
    let both = bit_at_or bitmap ((2 ^ 64 - 1) * 2 ^ k % 2 ^ 64) block in
    let less = bit_at-lt bitmap block in (
      λ one. ⊎_elim
          (λ (before : block < k). let none = ones_below k block within before in or_right (not is_of || nat_le k block) (bit_at bitmap block == 1) (eq-eqb (bit_at bitmap block) 1 (omega (arith, one, both, none))))
          (λ (behind : k ≤ block). or_left (not is_of || nat_le k block) (bit_at bitmap block == 1) (or_right (not is_of) (nat_le k block) (le-leb k block behind)))
          (cases_lt block k),
      λ e. ⊎_elim
          (λ (left : (not is_of || nat_le k block) ≡ true). ⊎_elim
          (λ (other : not is_of ≡ true). absurd (false≢true (sym (not_from_true is_of so) ∙ other)))
          (λ (behind : nat_le k block ≡ true). let all = ones_inside k block within (leb-true k block behind) low in omega (arith, both, all, less))
          (or_cases (not is_of) (nat_le k block) left))
          (λ (set : (bit_at bitmap block == 1) ≡ true). let one = eqb-true (bit_at bitmap block) 1 set in let bound = bit_at-lt ((2 ^ 64 - 1) * 2 ^ k % 2 ^ 64) block in omega (arith, both, one, bound))
          (or_cases (not is_of || nat_le k block) (bit_at bitmap block == 1) e),
    )

pub returns-then-is_run : goal.returns-then-is_run
returns-then-is_run c = λ block low.
    let few : c.blocks_of.result ≤ 64 = search rules in
    rw (← c.blocks_of.ensures.value) (joined (is_run c.args.descriptor) c.args.bitmap c.blocks_of.result block (sym c.is_run.ensures ∙ c.if-is_run.true) few low)

pub returns-else-is_run : goal.returns-else-is_run
returns-else-is_run c = λ block low.
    let behind : Bool = nat_le (blocks_of (c.args.descriptor / 256)) block in
    let set : Bool = bit_at c.args.bitmap block == 1 in
    let other : not (is_run c.args.descriptor) ≡ true = not_from_false (is_run c.args.descriptor) (sym c.is_run.ensures ∙ c.if-is_run.false) in
    (λ _. or_left (not (is_run c.args.descriptor) || behind) set (or_left (not (is_run c.args.descriptor)) behind other), λ _. bit_at_ones 64 block low)
