use Rattle.std.proofs.Common.{sym, subst, Ok}
use Rattle.pm_redo.proofs.Engines.{applied_lane, apply_ready}
use Rattle.pm_lane_bench.specs.Calls.{AreOrs}
use Rattle.pm_lane_bench.proofs.ors.apply.Goals as goal

pub apply_entries-requires-clause-are : goal.apply_entries-requires-clause-are
apply_entries-requires-clause-are g c = subst AreOrs (sym c.as_slice.ensures.value) c.requires.are

pub apply_entries-requires-clause-ready : goal.apply_entries-requires-clause-ready
apply_entries-requires-clause-ready g c = apply_ready g.M.LaneMem.at c.args.lane.now
    c.requires.may c.as_slice.result.now c.as_slice.ensures.value

pub returns : goal.returns
returns g c = applied_lane g.M.LaneMem.at c.args.lane.now c.apply_entries.new.mem
    c.as_slice.result.now (Ok tt) c.as_slice.ensures.value c.in_ok-took.ensures
