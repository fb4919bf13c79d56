use Rattle.solo_epoch.proofs.DrawnCalls.{may_publish}
use Rattle.solo_epoch.proofs.laws.a_world_leads_to_what_is_published.Goals as goal

pub returns : goal.returns
returns c = may_publish
