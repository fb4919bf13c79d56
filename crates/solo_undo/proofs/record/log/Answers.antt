use Rattle.std.proofs.Common.{sym, subst, ◌<◌}
use Rattle.solo_world.proofs.Sequencing.{lane_ready, lane_runs}
use Rattle.solo_view.specs.Area.{area_word}
use Rattle.solo_world.specs.Sequences.{with_word}
use Rattle.solo_undo.specs.Sequences.{writes_all, with_generation, logs}
use Rattle.solo_undo.proofs.record.log.Goals as goal

pub log_in-requires-clause-lane : goal.log_in-requires-clause-lane
log_in-requires-clause-lane g c = let seen = c.requires.area in subst (λ k. k < 32) (sym (c.lane-lane.ensures seen.0 seen.1.0)) seen.1.1.few

pub log_in-requires-clause-ready : goal.log_in-requires-clause-ready
unfolding logs with_generation
log_in-requires-clause-ready g c = lane_ready (g.M.LaneMem.at c.args.mem.now) c.lane-lane.result c.lane-lane.ensures (λ lane. with_word (area_word lane) (writes_all c.args.slot c.args.spans.now lane)) c.requires.ready

pub returns : goal.returns
unfolding logs with_generation
returns g c = lane_runs (g.M.LaneMem.at c.args.mem.now) c.lane-lane.result c.lane-lane.ensures (λ lane. with_word (area_word lane) (writes_all c.args.slot c.args.spans.now lane)) (g.M.LaneMem.at c.log_in.new.mem) c.log_in.result c.log_in.ensures
