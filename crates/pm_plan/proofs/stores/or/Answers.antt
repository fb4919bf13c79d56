use Rattle.pm_view.specs.Steps.Step.{Or}
use Rattle.pm_plan.specs.Plans.{makes_room, one, ors}
use Rattle.pm_plan.proofs.Finding.{ors_is, finding_err, finding_then, room_ready, step_ready}
use Rattle.pm_plan.proofs.stores.or.Goals as goal

pub make_room-requires : goal.make_room-requires
make_room-requires g c = room_ready (g.M.LaneMem.at c.args.mem.now) (ors c.args.word c.args.bits) (λ found. one (Or c.args.word c.args.bits found)) makes_room (ors_is c.args.word c.args.bits) c.requires

pub or_once-requires : goal.or_once-requires
or_once-requires g c = step_ready (g.M.LaneMem.at c.args.mem.now) (ors c.args.word c.args.bits) (λ found. one (Or c.args.word c.args.bits found)) makes_room (ors_is c.args.word c.args.bits) (Unit {0}) (g.M.LaneMem.at c.make_room.new.mem) tt c.requires c.in_ok-make_room.ensures

pub returns-in_err-make_room : goal.returns-in_err-make_room
returns-in_err-make_room g c = finding_err (g.M.LaneMem.at c.args.mem.now) (ors c.args.word c.args.bits) (λ found. one (Or c.args.word c.args.bits found)) makes_room (ors_is c.args.word c.args.bits) (Unit {0}) (g.M.LaneMem.at c.make_room.new.mem) c.in_err-make_room.field-0.0 c.from_residual.result c.from_residual.ensures.0 c.in_err-make_room.ensures

pub returns : goal.returns
returns g c = finding_then (g.M.LaneMem.at c.args.mem.now) (ors c.args.word c.args.bits) (λ found. one (Or c.args.word c.args.bits found)) makes_room (ors_is c.args.word c.args.bits) (Unit {0}) (g.M.LaneMem.at c.make_room.new.mem) (g.M.LaneMem.at c.or_once.new.mem) tt c.or_once.result c.in_ok-make_room.ensures c.or_once.ensures
