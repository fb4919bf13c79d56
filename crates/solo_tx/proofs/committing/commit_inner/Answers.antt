use Rattle.std.proofs.Common.{None}
use Rattle.pm_objects.specs.declared.calls.Operation.TheVariants.{Commit}
use Rattle.solo_view.specs.Steps.Step.{Tell}
use Rattle.solo_tx.proofs.Committed.{inner_stays, made_told, may_tell}
use Rattle.solo_tx.proofs.committing.commit_inner.Goals as goal

pub tell-requires : goal.tell-requires
tell-requires g c =
    let is = c.requires.at_work in
    g.met.M.LawfulMem.meets c.args.lane.now.memory is.1.0 (Tell Commit None) is.1.1.seen.memory (may_tell g.M.LaneMem.at c.args.lane.now is.0 is.1.0 is.1.1)

pub returns-clause-made : goal.returns-clause-made
returns-clause-made g c = made_told (g.M.LaneMem.at c.args.lane.now.memory) (g.M.LaneMem.at c.tell.new.self) c.tell.ensures

pub returns-clause-stays : goal.returns-clause-stays
returns-clause-stays g c o v is inner = inner_stays g.M.LaneMem.at c.args.lane.now o v is inner c.tell.new.self (c.tell.ensures v is.seen.memory).0
