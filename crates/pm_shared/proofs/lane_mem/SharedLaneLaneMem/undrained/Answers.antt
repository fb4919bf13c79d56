use Rattle.std.proofs.Common.{length, ap, ◌∙◌}
use Rattle.pm_memory.proofs.Undrained.{undrained-length}
use Rattle.pm_shared.proofs.Seats.{seen_now}
use Rattle.pm_shared.proofs.lane_mem.SharedLaneLaneMem.undrained.Goals as goal

pub returns : goal.returns
returns g c v seen = ap length c.changes.ensures ∙ undrained-length c.self.inside.tally.changes v.changes (seen_now c.args.self.now _ c.self.view_is v seen).tally.changes
