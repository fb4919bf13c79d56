use Rattle.pm_world.proofs.SoloMoves.{calls_move}
use Rattle.pm_world.proofs.SoloWorlds.{calls_keep_worlds, calls_keep_forms}
use Rattle.pm_world.proofs.solo_laws.solo_calls_keep_worlds.Goals as goal

pub returns-clause-moves : goal.returns-clause-moves
returns-clause-moves c = calls_move

pub returns-clause-worlds : goal.returns-clause-worlds
returns-clause-worlds c = calls_keep_worlds

pub returns-clause-formed : goal.returns-clause-formed
returns-clause-formed c = calls_keep_forms
