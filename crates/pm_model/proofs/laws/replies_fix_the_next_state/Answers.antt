use Rattle.pm_model.proofs.Ends.{one_next}
use Rattle.pm_model.proofs.laws.replies_fix_the_next_state.Goals as goal

pub returns : goal.returns
returns c = one_next
