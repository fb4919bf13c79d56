use Rattle.solo_reclaim.proofs.GivingBack.{giving_keeps}
use Rattle.solo_epoch.proofs.laws.giving_back_keeps_what_is_taken.Goals as goal

pub returns : goal.returns
returns c = giving_keeps
