use Rattle.pm_crash.proofs.TornSlots as torn
use Rattle.pm_crash.proofs.torn.no_record_is_torn.Goals as goal

pub returns : goal.returns
returns _ = torn.none_torn
