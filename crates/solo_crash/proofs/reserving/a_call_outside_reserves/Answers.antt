use Rattle.solo_crash.proofs.ReservedOutside.{outside_put_is_step, outside_refusal_is_step, outside_reserve_steps}
use Rattle.solo_crash.proofs.reserving.a_call_outside_reserves.Goals as goal

pub returns-clause-reserves : goal.returns-clause-reserves
returns-clause-reserves c = outside_reserve_steps

pub returns-clause-refuses : goal.returns-clause-refuses
returns-clause-refuses c = outside_refusal_is_step

pub returns-clause-writes : goal.returns-clause-writes
returns-clause-writes c = outside_put_is_step
