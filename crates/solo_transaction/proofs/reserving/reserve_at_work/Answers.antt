use Rattle.std.proofs.Common.{refl}
use Rattle.solo_transaction.proofs.RefusedAllocs.{came_at_once, not_a_stop}
use Rattle.solo_transaction.proofs.RefusedReserves.{refused_at_once}
use Rattle.solo_transaction.proofs.reserving.reserve_at_work.Goals as goal

pub returns-in-Err-clause-refuses : goal.returns-in-Err-clause-refuses
returns-in-Err-clause-refuses g c stays o v may are =
    refused_at_once o g.M.LaneMem.at c.args.lane.now (record c.args.lane.now { memory = c.tell_refused.new.mem }) c.args.blocks.now v may c.args.size c.args.kind c.in-Err.why (came_at_once v c.args.size c.in-Err.why c.in-Err.ensures.causes)
    (c.in-Err.ensures.reason _ are) refl c.tell_refused.ensures.told

pub returns-in-Err-clause-stopped : goal.returns-in-Err-clause-stopped
returns-in-Err-clause-stopped g c stopped o v may = absurd (not_a_stop c.in-Err.why c.in-Err.ensures.causes stopped)

pub returns-in-Err-clause-stopped_lane : goal.returns-in-Err-clause-stopped_lane
returns-in-Err-clause-stopped_lane g c stopped = absurd (not_a_stop c.in-Err.why c.in-Err.ensures.causes stopped)
