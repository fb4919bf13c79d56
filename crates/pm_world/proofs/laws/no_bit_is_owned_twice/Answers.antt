use Rattle.pm_world.proofs.Worlds as worlds
use Rattle.pm_world.proofs.laws.no_bit_is_owned_twice.Goals as goal

pub returns : goal.returns
returns _ = λ o mem views g x j k ne p b. worlds.rights_apart o mem views g x j k ne p b
