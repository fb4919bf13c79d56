use Rattle.solo_transaction.proofs.BlocksAtWork.{may_publish_blocks}
use Rattle.solo_transaction.proofs.laws.a_lane_alone_may_publish_its_blocks.Goals as goal

pub returns : goal.returns
returns g c o header pool start v steps lane blocks works is = may_publish_blocks o g.M.LaneMem.at lane blocks header pool start v steps works is
