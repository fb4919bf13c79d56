use Rattle.solo_transaction.proofs.EndingAlone.{may_allocate}
use Rattle.solo_transaction.proofs.laws.a_lane_alone_may_allocate.Goals as goal

pub returns : goal.returns
returns g c o header pool start v steps lane blocks works is = may_allocate o header pool g.M.LaneMem.at lane start v steps works blocks is
