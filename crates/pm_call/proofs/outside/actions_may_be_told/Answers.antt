use Rattle.pm_call.proofs.LoneActions as lone
use Rattle.pm_call.proofs.outside.actions_may_be_told.Goals as goal

pub returns : goal.returns
returns c = lone.actions_may_be_told
