use Rattle.std.proofs.Common.{refl, ap, rules}
use Rattle.pm_world.specs.LaneFields.{fields_of}
use Rattle.pm_action.proofs.OutsideLanes.{finish_done, finish_stopped}
use Rattle.pm_action.proofs.outside.finish.Goals as goal

pub returns-then-lane : goal.returns-then-lane
returns-then-lane g c = finish_stopped g.M.LaneMem.at c.args.lane.now (search rules)

pub returns : goal.returns
returns g c = finish_done g.M.LaneMem.at c.args.lane.now (record c.args.lane.now { pending = c.clear.new.self }) (search rules) refl (ap (λ xs. record (fields_of c.args.lane.now) { pending = xs }) c.clear.ensures)
