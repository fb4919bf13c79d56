use Rattle.std.proofs.Common.{map, sym, ◌∙◌}
use Rattle.pm_calls.specs.LaneRooms.{lines_to_run}
use Rattle.pm_exec.proofs.LaneRuns.{came_closes, lane_idle, lane_ran, rests_closes}
use Rattle.pm_exec.proofs.run_work.LaneWorkWork.run.Goals.{in-Some, in_default}
use Rattle.pm_exec.proofs.run_work.LaneWorkWork.run.Goals as goal

pub close-self-requires : goal.close-self-requires
close-self-requires g c =
    let before = c.args.self.now in
    let new = c.requires.lane in
    elim c.match-take.branch [
      | in-Some w ↦ came_closes g.M.LaneMem.at c.match-take.lane w.run_calls-unanswered.new.lane before.names new.0 (map lines_to_run w.in-Some.calls.items)
          w.run_calls-unanswered.new.answers.items w.run_calls-unanswered.result.0 w.run_calls-unanswered.result.1 w.lane-is
          (w.run_calls-unanswered.ensures new.0 new.1)
      | in_default w ↦ rests_closes g.M.LaneMem.at c.match-take.lane c.args.lane.now new.0 w.lane-is new.1
    ]

pub returns : goal.returns
returns g c n new =
    let before = c.args.self.now in
    elim c.match-take.branch [
      | in-Some w ↦ lane_ran g.M.LaneMem.at before c.match-take.self c.match-take.lane c.close-self.new.lane n c.close-self.result c.close-self.ensures.closed c.close-self.ensures.spent
          w.in-Some.calls (sym c.take.ensures.value ∙ w.in-Some.is) c.take.new.self w.run_calls-unanswered.new.answers
          w.run_calls-unanswered.result.0 w.run_calls-unanswered.result.1 w.run_calls-unanswered.new.lane w.self-is w.lane-is
          (w.run_calls-unanswered.ensures n new)
      | in_default w ↦ lane_idle g.M.LaneMem.at before c.match-take.self c.match-take.lane c.close-self.new.lane n c.close-self.result c.close-self.ensures.closed c.close-self.ensures.spent
          (sym c.take.ensures.value ∙ w.in_default.is) c.args.lane.now w.lane-is new
    ]
