use Rattle.solo_world.proofs.Sequencing.{lane_ready, lane_runs}
use Rattle.solo_redo.specs.Sequences.{performs, performs_on}
use Rattle.solo_redo.proofs.performing.perform_entries.Goals as goal

pub perform_on-requires-clause-ready : goal.perform_on-requires-clause-ready
unfolding performs
perform_on-requires-clause-ready g c = lane_ready (g.M.LaneMem.at c.args.mem.now) c.lane-lane.result c.lane-lane.ensures (λ lane. performs_on lane c.args.entries.now) c.requires.ready

pub returns : goal.returns
unfolding performs
returns g c = lane_runs (g.M.LaneMem.at c.args.mem.now) c.lane-lane.result c.lane-lane.ensures (λ lane. performs_on lane c.args.entries.now) (g.M.LaneMem.at c.perform_on.new.mem) c.perform_on.result c.perform_on.ensures
