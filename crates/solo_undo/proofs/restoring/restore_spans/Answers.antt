use Rattle.std.proofs.Common.{sym, subst, ◌<◌}
use Rattle.solo_world.proofs.Sequencing.{lane_ready, lane_runs}
use Rattle.solo_undo.specs.Sequences.{restores_all, restores}
use Rattle.solo_undo.proofs.restoring.restore_spans.Goals as goal

pub restore_all-requires-clause-lane : goal.restore_all-requires-clause-lane
restore_all-requires-clause-lane g c = let seen = c.requires.area in subst (λ k. k < 32) (sym (c.lane-lane.ensures seen.0 seen.1.0)) seen.1.1.few

pub restore_all-requires-clause-ready : goal.restore_all-requires-clause-ready
unfolding restores
restore_all-requires-clause-ready g c = lane_ready (g.M.LaneMem.at c.args.mem.now) c.lane-lane.result c.lane-lane.ensures (restores_all c.args.spans.now) c.requires.ready

pub returns : goal.returns
unfolding restores
returns g c = lane_runs (g.M.LaneMem.at c.args.mem.now) c.lane-lane.result c.lane-lane.ensures (restores_all c.args.spans.now) (g.M.LaneMem.at c.restore_all.new.mem) c.restore_all.result c.restore_all.ensures
