use Rattle.pm_crash.proofs.Edited as edited
use Rattle.pm_crash.proofs.writes.blocks_are_edits.Goals as goal

pub returns : goal.returns
returns _ = edited.blocks_are_edits
