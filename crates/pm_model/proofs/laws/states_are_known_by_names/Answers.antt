use Rattle.pm_model.proofs.Frames.{same_state}
use Rattle.pm_model.proofs.laws.states_are_known_by_names.Goals as goal

pub returns : goal.returns
returns c = same_state
