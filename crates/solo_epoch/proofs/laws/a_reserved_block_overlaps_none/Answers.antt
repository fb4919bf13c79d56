use Rattle.solo_crash.proofs.AloneCourse.{stands_at}
use Rattle.solo_crash.proofs.BorneOut.{overlaps_none}
use Rattle.solo_epoch.proofs.laws.a_reserved_block_overlaps_none.Goals as goal

pub returns : goal.returns
returns c = λ o header pool start v steps n b works none reserved there.
    overlaps_none o header pool v (stands_at o header pool start steps v works.begins works.leads works.numbered works.within) none n b reserved there
