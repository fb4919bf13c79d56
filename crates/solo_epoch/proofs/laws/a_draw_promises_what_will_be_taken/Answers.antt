use Rattle.solo_epoch.proofs.PromisedTaken.{promises}
use Rattle.solo_epoch.proofs.laws.a_draw_promises_what_will_be_taken.Goals as goal

pub returns : goal.returns
returns c = promises
