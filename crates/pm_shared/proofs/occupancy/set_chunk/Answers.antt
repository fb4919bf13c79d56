use Rattle.std.proofs.Common.{◌*◌, ◌/◌, ◌%◌, ◌^◌, slice_index, set, bit_or, ap, ◌∙◌, arith}
use Rattle.std.proofs.lemmas.Grind.{get_or_default_zero}
use Rattle.pm_world.specs.Memory.{bit}
use Rattle.pm_shared.proofs.TakenChunks.{set_bit, shifted}
use Rattle.pm_shared.proofs.occupancy.set_chunk.Goals as goal

pub returns-clause-bits : goal.returns-clause-bits
returns-clause-bits c = λ k. let zones = c.args.zones.now.items in let n = c.args.chunk in
    ap (λ x. bit (slice_index (set zones (n / 64) x) (k / 64)) (k % 64)) (ap (λ y. bit_or y (1 * 2 ^ (n % 64) % 2 ^ 64)) (c.index_mut.ensures.value ∙ get_or_default_zero zones (n / 64) c.index_mut.result.now c.requires) ∙ ap (bit_or (slice_index zones (n / 64))) (shifted (n % 64) (omega arith)))
    ∙ set_bit zones n k c.requires
