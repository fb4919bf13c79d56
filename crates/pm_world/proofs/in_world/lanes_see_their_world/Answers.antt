use Rattle.pm_world.proofs.InWorlds as worlds
use Rattle.pm_world.proofs.in_world.lanes_see_their_world.Goals as goal

pub returns-clause-agrees : goal.returns-clause-agrees
returns-clause-agrees c = worlds.seen_agrees

pub returns-clause-sound : goal.returns-clause-sound
returns-clause-sound c = worlds.seen_is_sound
