use Rattle.pm_model.proofs.Frames.{change_places}
use Rattle.pm_model.proofs.laws.apart_calls_change_places.Goals as goal

pub returns : goal.returns
returns c = change_places
