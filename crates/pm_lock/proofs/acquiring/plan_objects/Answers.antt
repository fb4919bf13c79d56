use Rattle.std.proofs.Common.{length, ap, arith}
use Rattle.pm_lock.proofs.Acquired.{planned_at}
use Rattle.pm_lock.proofs.acquiring.plan_objects.Goals as goal

pub returns-clause-few : goal.returns-clause-few
returns-clause-few g c = let few = c.as_slice.ensures.fits in let same = ap length c.as_slice.ensures.value in omega (arith, few, same)

pub returns-clause-planned : goal.returns-clause-planned
returns-clause-planned g c = planned_at g.M.LaneMem.at c.args.lane.now c.args.new.now c.args.wants.now c.as_slice.result.now c.plan_wants.new.plan.items c.plan_wants.result c.as_slice.ensures.value c.plan_wants.ensures
