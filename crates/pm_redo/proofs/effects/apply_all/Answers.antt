use Rattle.pm_redo.proofs.Engines.{applied_lane, apply_ready}
use Rattle.pm_redo.proofs.effects.apply_all.Goals as goal

pub apply_entries-requires : goal.apply_entries-requires
apply_entries-requires g c = apply_ready g.M.LaneMem.at c.args.lane.now c.requires
    c.as_slice.result.now c.as_slice.ensures.value

pub returns : goal.returns
returns g c = applied_lane g.M.LaneMem.at c.args.lane.now c.apply_entries.new.mem
    c.as_slice.result.now c.apply_entries.result c.as_slice.ensures.value c.apply_entries.ensures
