use Rattle.pm_redo.proofs.Numbered.{numbered_lawful}
use Rattle.pm_redo.proofs.laws.numbered_logs_may_be_sealed.Goals as goal

pub returns : goal.returns
returns c v w entries n can is seal generation = numbered_lawful v w entries n can is seal
    generation
