use Rattle.std.proofs.Common.{refl}
use Rattle.std.specs.Option.{option_map}
use Rattle.pm_view.specs.Steps.Step.{Tell}
use Rattle.pm_world.specs.Lent.{operation_of, value_of}
use Rattle.pm_shared.proofs.Seats.{asks_plain, made_plain}
use Rattle.pm_shared.proofs.lawful.SharedLaneLawfulMem.tell.Goals as goal

pub tells-requires-clause-asks : goal.tells-requires-clause-asks
tells-requires-clause-asks g c = asks_plain c.args.self.now _ c.self.view_is (λ r. Tell (operation_of c.args.operation) (option_map value_of c.args.reply)) (λ r. c.requires) (λ r. refl)

pub returns : goal.returns
returns g c = made_plain c.args.self.now _ c.self.view_is c.tells.new.seat.me (Tell (operation_of c.args.operation) (option_map value_of c.args.reply)) c.tells.ensures.made refl
