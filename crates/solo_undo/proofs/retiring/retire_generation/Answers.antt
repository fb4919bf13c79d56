use Rattle.std.proofs.Common.{sym, subst, ◌<◌}
use Rattle.solo_world.proofs.Sequencing.{lane_ready, lane_runs}
use Rattle.solo_view.specs.Area.{area_word}
use Rattle.solo_world.specs.Sequences.{with_word}
use Rattle.solo_undo.specs.Sequences.{ends_generation, with_generation, retires}
use Rattle.solo_undo.proofs.retiring.retire_generation.Goals as goal

pub retire_lane-requires-clause-lane : goal.retire_lane-requires-clause-lane
retire_lane-requires-clause-lane g c = let seen = c.requires.area in subst (λ k. k < 32) (sym (c.lane-lane.ensures seen.0 seen.1.0)) seen.1.1.few

pub retire_lane-requires-clause-ready : goal.retire_lane-requires-clause-ready
unfolding retires with_generation
retire_lane-requires-clause-ready g c = lane_ready (g.M.LaneMem.at c.args.mem.now) c.lane-lane.result c.lane-lane.ensures (λ lane. with_word (area_word lane) (ends_generation lane)) c.requires.ready

pub returns : goal.returns
unfolding retires with_generation
returns g c = lane_runs (g.M.LaneMem.at c.args.mem.now) c.lane-lane.result c.lane-lane.ensures (λ lane. with_word (area_word lane) (ends_generation lane)) (g.M.LaneMem.at c.retire_lane.new.mem) c.retire_lane.result c.retire_lane.ensures

pub retire_lane-requires-clause-area : goal.retire_lane-requires-clause-area
retire_lane-requires-clause-area g c = let seen = c.requires.area in (seen.0, (seen.1.0, (seen.1.1, c.lane-lane.ensures seen.0 seen.1.0)))
