use Rattle.pm_memory.proofs.Undrained.{first-unflushed}
use Rattle.pm_shared.proofs.Seats.{seen_now}
use Rattle.pm_shared.proofs.lane_mem.SharedLaneLaneMem.unflushed.Goals as goal

pub returns : goal.returns
returns g c v seen = first-unflushed c.self.inside.tally.changes v.changes c.unflushed.result (seen_now c.args.self.now _ c.self.view_is v seen).tally.changes c.unflushed.ensures
