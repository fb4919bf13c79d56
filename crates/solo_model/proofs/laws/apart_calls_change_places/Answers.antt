use Rattle.solo_model.proofs.Replaying.{change_places}
use Rattle.solo_model.proofs.laws.apart_calls_change_places.Goals as goal

pub returns : goal.returns
returns c = change_places
