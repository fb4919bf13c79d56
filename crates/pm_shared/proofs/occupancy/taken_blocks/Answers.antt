use Rattle.std.proofs.Common.{rules, ℕ, ◌-◌, ◌*◌, ◌/◌, ◌%◌, ◌^◌, ◌≤◌, ◌&&◌, ◌||◌, nat_lt, not, sym, ap, ◌∙◌, eq-eqb}
use Rattle.std.specs.Int.{bit_at}
use Rattle.std.proofs.lemmas.Nat.Bits.{bit_at_ones}
use Rattle.pm_layout.specs.Sizes.{blocks_of}
use Rattle.pm_world.proofs.WordPlaces.{or_bit}
use Rattle.pm_world.specs.Memory.{bit}
use Rattle.pm_shared.proofs.TakenChunks.{mask_bit}
use Rattle.pm_shared.proofs.occupancy.taken_blocks.Goals as goal

pub returns-then-is_run : goal.returns-then-is_run
returns-then-is_run c = λ i low.
    let few : c.blocks_of.result ≤ 64 = search rules in
    let mask : ℕ = (2 ^ 64 - 1) * 2 ^ c.blocks_of.result % 2 ^ 64 in
    or_bit c.args.bitmap mask i ∙ ap (λ t. t || bit c.args.bitmap i) (mask_bit c.blocks_of.result i few low
    ∙ (ap (λ k. not (nat_lt i k)) c.blocks_of.ensures.value ∙ ap (λ t. not (t && nat_lt i (blocks_of (c.args.descriptor / 256)))) (sym (sym c.is_run.ensures ∙ c.if-is_run.true))))

pub returns-else-is_run : goal.returns-else-is_run
returns-else-is_run c = λ i low. eq-eqb (bit_at (2 ^ 64 - 1) i) 1 (bit_at_ones 64 i low)
    ∙ ap (λ t. not (t && nat_lt i (blocks_of (c.args.descriptor / 256))) || bit c.args.bitmap i) (sym (sym c.is_run.ensures ∙ c.if-is_run.false))
