use Rattle.pm_lane_bench.proofs.Fillings.{any_step}
use Rattle.pm_lane_bench.proofs.raw.store_round.Goals as goal

pub store-requires : goal.store-requires
store-requires c = (c.loop-value.invariant, c.requires.word, any_step _ _ _ _ (λ _. c.loop-value.value))
