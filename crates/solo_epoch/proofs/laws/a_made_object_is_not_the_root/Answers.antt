use Rattle.solo_epoch.proofs.NotTheRoot.{made_is_no_root}
use Rattle.solo_epoch.proofs.laws.a_made_object_is_not_the_root.Goals as goal

pub returns : goal.returns
returns c = λ o header pool start v steps id works borne_out made. made_is_no_root o header pool start v steps works id borne_out made
