use Rattle.std.proofs.Common.{sym, subst, ◌<◌}
use Rattle.solo_world.proofs.Sequencing.{lane_ready, lane_runs}
use Rattle.solo_view.specs.Area.{area_word}
use Rattle.solo_world.specs.Sequences.{with_word}
use Rattle.solo_redo.specs.Sequences.{logs, writes_log}
use Rattle.solo_undo.specs.Sequences.{with_generation}
use Rattle.solo_redo.proofs.logging.write_log.Goals as goal

pub write_in-requires-clause-lane : goal.write_in-requires-clause-lane
write_in-requires-clause-lane g c = let seen = c.requires.area in subst (λ k. k < 32) (sym (c.lane-number.ensures seen.0 seen.1.0)) seen.1.1.few

pub write_in-requires-clause-area : goal.write_in-requires-clause-area
write_in-requires-clause-area g c = let seen = c.requires.area in (seen.0, (seen.1.0, (seen.1.1, c.lane-number.ensures seen.0 seen.1.0)))

pub write_in-requires-clause-ready : goal.write_in-requires-clause-ready
unfolding logs with_generation
write_in-requires-clause-ready g c = lane_ready (g.M.LaneMem.at c.args.lane.now.memory) c.lane-number.result c.lane-number.ensures (λ lane. with_word (area_word lane) (writes_log c.args.lane.now.entries.items lane)) c.requires.ready

pub returns-clause-ran : goal.returns-clause-ran
unfolding logs with_generation
returns-clause-ran g c = lane_runs (g.M.LaneMem.at c.args.lane.now.memory) c.lane-number.result c.lane-number.ensures (λ lane. with_word (area_word lane) (writes_log c.args.lane.now.entries.items lane)) (g.M.LaneMem.at c.write_in.new.mem) c.write_in.result c.write_in.ensures.ran

pub returns-clause-listed : goal.returns-clause-listed
returns-clause-listed g c = λ v at. c.write_in.ensures.listed v at (c.lane-number.ensures v at)
