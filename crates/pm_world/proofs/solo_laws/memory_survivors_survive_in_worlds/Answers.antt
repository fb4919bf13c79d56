use Rattle.pm_world.proofs.SoloWorlds.{survivors_are}
use Rattle.pm_world.proofs.solo_laws.memory_survivors_survive_in_worlds.Goals as goal

pub returns : goal.returns
returns c = survivors_are
