use Rattle.solo_epoch.proofs.OwnBits.{in_order}
use Rattle.solo_epoch.proofs.laws.changes_of_own_bits_are_in_order.Goals as goal

pub returns : goal.returns
returns c = λ w lanes zones actions changes none. in_order w lanes zones none actions changes
