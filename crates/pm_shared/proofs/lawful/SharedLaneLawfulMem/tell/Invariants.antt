use Rattle.std.specs.Option.{option_map}
use Rattle.pm_world.specs.Lent.{operation_of, value_of}
use Rattle.pm_shared.proofs.lawful.SharedLaneLawfulMem.tell.Given as goal

-- what was given is told
abbrev pub ghosts-tells : goal.ghosts-tells
ghosts-tells g a = record { operation = operation_of a._operation; reply = option_map value_of a._reply }
