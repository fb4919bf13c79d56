use Rattle.pm_model.proofs.Growing.{grow}
use Rattle.pm_model.proofs.laws.transactions_grow_at_their_end.Goals as goal

pub returns : goal.returns
returns c = grow
