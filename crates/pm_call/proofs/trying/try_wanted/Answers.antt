use Rattle.pm_call.proofs.WantedTried.{may_try, wanted_tried}
use Rattle.pm_call.proofs.trying.try_wanted.Goals as goal

pub try_objects-requires : goal.try_objects-requires
try_objects-requires g c = may_try g.M.LaneMem.at c.args.lane.now c.args.wants.now c.requires

pub returns : goal.returns
returns g c = wanted_tried g.M.LaneMem.at c.args.lane.now c.args.wants.now c.try_objects.new.lane c.try_objects.result c.try_objects.ensures
