use Rattle.solo_redo.proofs.Entered.{put_lawful}
use Rattle.solo_redo.proofs.laws.entries_may_be_stored.Goals as goal

pub returns : goal.returns
returns c = λ v e entering free sets may. put_lawful v e entering free sets may
