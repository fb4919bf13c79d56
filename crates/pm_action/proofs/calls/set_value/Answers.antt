use Rattle.std.proofs.Common.{rules}
use Rattle.pm_objects.specs.declared.calls.Operation.TheVariants.{SetValue}
use Rattle.pm_action.specs.Actions.{Asked}
use Rattle.pm_action.specs.Outside.{AskedOutside}
use Rattle.pm_action.proofs.OutsideLanes.{is_inside, is_outside}
use Rattle.pm_action.proofs.calls.set_value.Goals as goal

pub set_outside-requires : goal.set_outside-requires
set_outside-requires g c = c.requires.idle (search rules) (search rules)

pub returns-then-lane-eq0 : goal.returns-then-lane-eq0
returns-then-lane-eq0 g c =
    is_outside c.args.lane.now (AskedOutside g.M.LaneMem.at c.args.lane.now c.set_outside.new.lane (SetValue c.args.id c.args.off c.args.value) c.set_outside.result) (Asked g.M.LaneMem.at c.args.lane.now c.set_outside.new.lane (SetValue c.args.id c.args.off c.args.value) c.set_outside.result) (search rules) (search rules) c.set_outside.ensures

pub returns-else-not-lane : goal.returns-else-not-lane
returns-else-not-lane g c =
    is_inside c.args.lane.now (AskedOutside g.M.LaneMem.at c.args.lane.now c.set_inside.new.lane (SetValue c.args.id c.args.off c.args.value) c.set_inside.result) (Asked g.M.LaneMem.at c.args.lane.now c.set_inside.new.lane (SetValue c.args.id c.args.off c.args.value) c.set_inside.result) (search rules) c.set_inside.ensures
