use Rattle.std.proofs.Common.{sym, subst, ◌<◌}
use Rattle.solo_world.proofs.Sequencing.{lane_ready, lane_runs}
use Rattle.solo_redo.specs.Sequences.{clears, writes_seal}
use Rattle.solo_redo.proofs.sealing.clear_seal.Goals as goal

pub write_seal-requires-clause-lane : goal.write_seal-requires-clause-lane
write_seal-requires-clause-lane g c = let seen = c.requires.area in subst (λ k. k < 32) (sym (c.lane-lane.ensures seen.0 seen.1.0)) seen.1.1.few

pub write_seal-requires-clause-ready : goal.write_seal-requires-clause-ready
unfolding clears
write_seal-requires-clause-ready g c = lane_ready (g.M.LaneMem.at c.args.mem.now) c.lane-lane.result c.lane-lane.ensures (λ lane. writes_seal lane 0) c.requires.ready

pub returns : goal.returns
unfolding clears
returns g c = lane_runs (g.M.LaneMem.at c.args.mem.now) c.lane-lane.result c.lane-lane.ensures (λ lane. writes_seal lane 0) (g.M.LaneMem.at c.write_seal.new.mem) c.write_seal.result c.write_seal.ensures
