use Rattle.std.proofs.Common.{bit_or}
use Rattle.pm_lane_bench.proofs.Fillings.{any_step}
use Rattle.pm_lane_bench.proofs.raw.or_block.Goals as goal

pub fetch_or-all-requires : goal.fetch_or-all-requires
fetch_or-all-requires c = (c.loop-value.invariant, c.requires.word, any_step _ _ _ _ (λ n. bit_or n c.loop-value.value))
