use Rattle.std.proofs.Common.{rules}
use Rattle.pm_objects.specs.declared.calls.Operation.TheVariants.{Cancel}
use Rattle.pm_action.specs.Inside.{Cancelled}
use Rattle.pm_action.specs.Outside.{AskedOutside}
use Rattle.pm_action.proofs.OutsideLanes.{is_inside, is_outside}
use Rattle.pm_action.proofs.calls.cancel.Goals as goal

pub cancel_outside-requires : goal.cancel_outside-requires
cancel_outside-requires g c = c.requires.idle (search rules) (search rules)

pub returns-then-lane-eq0 : goal.returns-then-lane-eq0
returns-then-lane-eq0 g c =
    is_outside c.args.lane.now (AskedOutside g.M.LaneMem.at c.args.lane.now c.cancel_outside.new.lane Cancel c.cancel_outside.result) (Cancelled g.M.LaneMem.at c.args.lane.now c.cancel_outside.new.lane c.cancel_outside.result) (search rules) (search rules) c.cancel_outside.ensures

pub returns-else-not-lane : goal.returns-else-not-lane
returns-else-not-lane g c =
    is_inside c.args.lane.now (AskedOutside g.M.LaneMem.at c.args.lane.now c.cancel_inside.new.lane Cancel c.cancel_inside.result) (Cancelled g.M.LaneMem.at c.args.lane.now c.cancel_inside.new.lane c.cancel_inside.result) (search rules) c.cancel_inside.ensures
