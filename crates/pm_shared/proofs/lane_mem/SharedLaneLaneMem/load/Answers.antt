use Rattle.std.proofs.Common.{refl}
use Rattle.pm_view.specs.Steps.Step.{Load}
use Rattle.pm_shared.proofs.Seats.{asks_plain, made_plain}
use Rattle.pm_shared.proofs.lane_mem.SharedLaneLaneMem.load.Goals as goal

pub loads-requires-clause-asks : goal.loads-requires-clause-asks
loads-requires-clause-asks g c = asks_plain c.args.self.now _ c.self.view_is (λ r. Load c.args.word r) c.requires (λ r. refl)

pub returns : goal.returns
returns g c = made_plain c.args.self.now _ c.self.view_is c.loads.new.seat.me (Load c.args.word c.loads.result) c.loads.ensures.made refl
