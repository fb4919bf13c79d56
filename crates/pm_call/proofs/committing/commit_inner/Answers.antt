use Rattle.std.proofs.Common.{None}
use Rattle.pm_objects.specs.declared.calls.Operation.TheVariants.{Commit}
use Rattle.pm_view.specs.Steps.Step.{Tell}
use Rattle.pm_call.proofs.InnerLanes.{committed_inner, may_tell_commit}
use Rattle.pm_call.proofs.committing.commit_inner.Goals as goal

pub tell-requires : goal.tell-requires
tell-requires g c = let t = may_tell_commit g.M.LaneMem.at c.args.lane.now c.requires in g.met.M.LawfulMem.meets c.args.lane.now.memory t.0 (Tell Commit None) t.1 t.2

pub returns : goal.returns
returns g c = committed_inner g.M.LaneMem.at c.args.lane.now g.M.LaneMem.may g.met.M.LawfulMem.grants c.tell.new.self c.tell.ensures
