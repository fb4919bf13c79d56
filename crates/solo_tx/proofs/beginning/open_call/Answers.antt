use Rattle.std.proofs.Common.{None}
use Rattle.pm_objects.specs.declared.calls.Operation.TheVariants.{Begin}
use Rattle.solo_view.specs.Steps.Step.{Tell}
use Rattle.solo_lock.proofs.GivenBack.{made_one}
use Rattle.solo_tx.proofs.Beginnings.{may_tell, opened, opened_seen}
use Rattle.solo_tx.proofs.beginning.open_call.Goals as goal

pub tell_begin-requires : goal.tell_begin-requires
tell_begin-requires g c =
    let is = c.requires.begun in
    g.met.M.LawfulMem.meets c.args.lane.now.memory is.0 (Tell (Begin c.args.wants.now) None) is.1.seen.memory (may_tell g.M.LaneMem.at c.args.lane.now is.0 is.1)

pub returns-clause-made : goal.returns-clause-made
returns-clause-made g c = made_one (g.M.LaneMem.at c.args.lane.now.memory) (g.M.LaneMem.at c.tell_begin.new.self) (Tell (Begin c.args.wants.now) None) c.tell_begin.ensures

pub returns-clause-at_work : goal.returns-clause-at_work
returns-clause-at_work g c o v is sound finds zones objects takes =
    opened g.M.LaneMem.at c.args.lane.now v is o sound finds zones objects c.args.wants.now takes c.tell_begin.new.self (c.tell_begin.ensures v is.seen.memory).0

pub returns-clause-seen : goal.returns-clause-seen
returns-clause-seen g c v is = opened_seen g.M.LaneMem.at c.args.lane.now v is c.args.wants.now c.tell_begin.new.self (c.tell_begin.ensures v is.seen.memory).0
