use Rattle.solo_epoch.proofs.NewObjectViews.{object_leaves}
use Rattle.solo_epoch.proofs.laws.a_new_object_leaves_a_view.Goals as goal

pub returns : goal.returns
returns c = object_leaves
