use Rattle.solo_epoch.proofs.EndedCalls.{ended_begins, ended_kept}
use Rattle.solo_epoch.proofs.laws.a_lane_whose_call_has_ended_begins_again.Goals as goal

pub returns : goal.returns
returns c = record { gives = ended_kept; begins = ended_begins }
