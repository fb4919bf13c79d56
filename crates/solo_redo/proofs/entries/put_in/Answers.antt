use Rattle.std.proofs.Common.{sym, subst, ◌<◌}
use Rattle.solo_world.proofs.Sequencing.{lane_ready, lane_runs}
use Rattle.solo_redo.specs.Sequences.{puts, writes_pair}
use Rattle.solo_redo.proofs.entries.put_in.Goals as goal

pub write_pair-requires-clause-lane : goal.write_pair-requires-clause-lane
write_pair-requires-clause-lane g c = let seen = c.requires.area in subst (λ k. k < 32) (sym (c.lane-lane.ensures seen.0 seen.1.0)) seen.1.1.few

pub write_pair-requires-clause-ready : goal.write_pair-requires-clause-ready
unfolding puts
write_pair-requires-clause-ready g c = lane_ready (g.M.LaneMem.at c.args.mem.now) c.lane-lane.result c.lane-lane.ensures (λ lane. writes_pair lane c.args.i c.args.entry) c.requires.ready

pub returns : goal.returns
unfolding puts
returns g c = lane_runs (g.M.LaneMem.at c.args.mem.now) c.lane-lane.result c.lane-lane.ensures (λ lane. writes_pair lane c.args.i c.args.entry) (g.M.LaneMem.at c.write_pair.new.mem) c.write_pair.result c.write_pair.ensures
