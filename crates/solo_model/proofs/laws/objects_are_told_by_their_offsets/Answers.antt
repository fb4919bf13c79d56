use Rattle.solo_model.proofs.ObjectsByOffset.{fewer_elsewhere, fewer_rise, fewer_there, more_elsewhere, more_rise, more_there}
use Rattle.solo_model.proofs.laws.objects_are_told_by_their_offsets.Goals as goal

pub returns-clause-there : goal.returns-clause-there
returns-clause-there c = more_there

pub returns-clause-others : goal.returns-clause-others
returns-clause-others c = more_elsewhere

pub returns-clause-rising : goal.returns-clause-rising
returns-clause-rising c = more_rise

pub returns-clause-gone : goal.returns-clause-gone
returns-clause-gone c = fewer_there

pub returns-clause-others_stay : goal.returns-clause-others_stay
returns-clause-others_stay c = fewer_elsewhere

pub returns-clause-rising_still : goal.returns-clause-rising_still
returns-clause-rising_still c = fewer_rise
