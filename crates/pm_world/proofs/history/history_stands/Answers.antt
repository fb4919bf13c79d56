use Rattle.pm_world.proofs.Histories as histories
use Rattle.pm_world.proofs.history.history_stands.Goals as goal

pub returns-clause-begins : goal.returns-clause-begins
returns-clause-begins _ = λ o g was ghosts e. histories.begins o g was ghosts e

pub returns-clause-goes_on : goal.returns-clause-goes_on
returns-clause-goes_on _ = histories.goes_on
