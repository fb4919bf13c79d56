use Rattle.pm_world.proofs.SoloStands.{opened_starts, opened_stands, stands_after, standing_survives}
use Rattle.pm_world.proofs.solo_laws.solo_memory_stands_in_its_world.Goals as goal

pub returns-clause-starts : goal.returns-clause-starts
returns-clause-starts c = opened_starts

pub returns-clause-opened : goal.returns-clause-opened
returns-clause-opened c = opened_stands

pub returns-clause-calls : goal.returns-clause-calls
returns-clause-calls c = stands_after

pub returns-clause-survivors : goal.returns-clause-survivors
returns-clause-survivors c = standing_survives
