use Rattle.std.proofs.Common.{refl}
use Rattle.pm_view.specs.Steps.Step.{Load}
use Rattle.pm_shared.proofs.Seats.{asks_plain, made_plain, seen_now}
use Rattle.pm_shared.proofs.lawful.SharedLaneLawfulMem.see.Goals as goal

pub loads-requires-clause-asks : goal.loads-requires-clause-asks
loads-requires-clause-asks g c = asks_plain c.args.self.now _ c.self.view_is (λ r. Load c.args.word r) c.requires (λ r. refl)

pub returns-clause-made : goal.returns-clause-made
returns-clause-made g c = made_plain c.args.self.now _ c.self.view_is c.loads.new.seat.me (Load c.args.word c.loads.result) c.loads.ensures.made refl

pub returns-clause-world : goal.returns-clause-world
returns-clause-world g c v seen _ = c.loads.ensures.world v (seen_now c.args.self.now _ c.self.view_is v seen).knows
