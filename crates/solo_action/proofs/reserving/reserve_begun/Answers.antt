use Rattle.std.proofs.Common.{refl}
use Rattle.solo_action.proofs.ReservedBegun.{refused_at_once}
use Rattle.solo_action.proofs.reserving.reserve_begun.Goals as goal

pub returns-in-Err-clause-refuses : goal.returns-in-Err-clause-refuses
returns-in-Err-clause-refuses g c other w b are =
    refused_at_once g.M.LaneMem.at c.args.lane.now c.args.lane.now w b g.met.M.ReservedMem.counts refl c.args.size c.args.kind b.begun c.in-Err.why c.in-Err.ensures.causes (c.in-Err.ensures.reason _ are) c.end_refused.new.lane
    c.end_refused.ensures.rests
