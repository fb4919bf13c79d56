use Rattle.solo_crash.proofs.BorneOut.{borne_out_call_steps, pool_may_precede}
use Rattle.solo_crash.proofs.LyingStill.{free_within, reserved_lies_free}
use Rattle.solo_crash.proofs.alone.a_lane_alone_bears_out_its_call.Goals as goal

pub returns : goal.returns
returns c = record { precedes = pool_may_precede; steps = borne_out_call_steps; reserved = reserved_lies_free; free = free_within }
