use Rattle.std.proofs.Common.{◌<◌, length, sym, ap, ◌∙◌, subst}
use Rattle.pm_calls.specs.LaneRooms.{lines_to_run}
use Rattle.pm_exec.specs.Running.{CallCame}
use Rattle.pm_exec.specs.declared.call_end.CallEnd.TheVariants as call_ends
use Rattle.pm_exec.specs.declared.line_end.LineEnd.TheVariants as ends
use Rattle.pm_exec.proofs.CallLines.{nothing_open, rests_plain}
use Rattle.pm_exec.proofs.RanCalls.{awaits_ends, given_up_came, line_at, over_came, ran_so}
use Rattle.pm_exec.proofs.RanCalls.{root_spent, root_stopped, spent_came, stopped_came}
use Rattle.pm_exec.proofs.running.run_call.Goals.{in-Spent, in_default-why}
use Rattle.pm_exec.proofs.running.run_call.Goals as goal

pub index-requires : goal.index-requires
index-requires g c = subst (λ n. 0 < n) (sym (ap length c.as_slice.ensures.value) ∙ c.as_slice.ensures.len) (line_at c.args.room.lines.items c.requires.made.whole)

pub returns-in-Err : goal.returns-in-Err
returns-in-Err g c h rests =
    let at = g.M.LaneMem.at in
    let lane = c.look_up_root.new.lane in
    let lines = lines_to_run c.args.room in
    let why = c.in-Err.why in
    let came = c.in-Err.ensures {u = tt} h rests in
    elim c.match-why.branch [
      | in-Spent w ↦ subst (CallCame at lane c.args.names h lines) (sym w.result-is)
          (root_spent at h lane why came w.in-Spent.is)
      | in_default-why w ↦ subst (CallCame at lane c.args.names h lines) (sym w.result-is)
          (root_stopped at h lane c.args.names lines why (rests_plain at _ h rests) (nothing_open at _ h rests) came w.in_default-why.not-Spent)
    ]

pub run_lines-line-requires-clause-rests : goal.run_lines-line-requires-clause-rests
run_lines-line-requires-clause-rests g c =
    let rests = c.requires.rests in (rests.0, c.in_default.ensures {u = tt} rests.0 rests.1)

pub returns-in-Over : goal.returns-in-Over
returns-in-Over g c h rests =
    let at = g.M.LaneMem.at in
    let here = c.in_default.ensures {u = tt} h rests in
    let names = c.args.names in
    let lines = c.args.room.lines in
    let values = c.run_lines-line.new.values in
    let lane = c.run_lines-line.new.lane in
    let line = c.run_lines-line.result.0 in
    let why = c.in-Over.why in
    let ran =
    ran_so at h names lines values lane _ line c.run_lines-line.result.1 (ends.Over why)
    c.args.room.fits.said_in (c.run_lines-line.ensures h here) c.in-Over.is in
    over_came at h names lines values c.requires.made.rising lane line why c.fate_of.result
    c.fate_of.ensures ran

pub end_levels-requires : goal.end_levels-requires
end_levels-requires g c =
    let at = g.M.LaneMem.at in
    let h = c.requires.rests.0 in
    let rests = c.requires.rests.1 in
    let here = c.in_default.ensures {u = tt} h rests in
    let names = c.args.names in
    let lines = c.args.room.lines in
    let values = c.run_lines-line.new.values in
    let lane = c.run_lines-line.new.lane in
    let line = c.run_lines-line.result.0 in
    let error = c.in-GivenUp.error in
    let ran =
    ran_so at h names lines values lane _ line c.run_lines-line.result.1 (ends.GivenUp error)
    c.args.room.fits.said_in (c.run_lines-line.ensures h here) c.in-GivenUp.is in
    awaits_ends at h names lines values c.requires.made.rising lane line error ran

pub returns-in-GivenUp : goal.returns-in-GivenUp
returns-in-GivenUp g c h rests =
    let at = g.M.LaneMem.at in
    let here = c.in_default.ensures {u = tt} h rests in
    let names = c.args.names in
    let lines = c.args.room.lines in
    let values = c.run_lines-line.new.values in
    let lane = c.run_lines-line.new.lane in
    let line = c.run_lines-line.result.0 in
    let error = c.in-GivenUp.error in
    let ran =
    ran_so at h names lines values lane _ line c.run_lines-line.result.1 (ends.GivenUp error)
    c.args.room.fits.said_in (c.run_lines-line.ensures h here) c.in-GivenUp.is in
    given_up_came at h names lines values c.requires.made.rising lane c.end_levels.new.lane
    line error ran c.end_levels.ensures

pub returns-in-Stopped : goal.returns-in-Stopped
returns-in-Stopped g c h rests =
    let at = g.M.LaneMem.at in
    let here = c.in_default.ensures {u = tt} h rests in
    let names = c.args.names in
    let lines = c.args.room.lines in
    let values = c.run_lines-line.new.values in
    let lane = c.run_lines-line.new.lane in
    let line = c.run_lines-line.result.0 in
    let ran =
    ran_so at h names lines values lane _ line c.run_lines-line.result.1 ends.Stopped
    c.args.room.fits.said_in (c.run_lines-line.ensures h here) c.in-Stopped.is in
    subst (λ end. CallCame at lane names h (lines_to_run c.args.room) (call_ends.Stopped end))
    (sym c.unanswered.ensures)
    (stopped_came at h names lines values c.requires.made.rising lane line ran)

pub returns-in-Spent-end : goal.returns-in-Spent-end
returns-in-Spent-end g c h rests =
    let at = g.M.LaneMem.at in
    let here = c.in_default.ensures {u = tt} h rests in
    let names = c.args.names in
    let lines = c.args.room.lines in
    let values = c.run_lines-line.new.values in
    let lane = c.run_lines-line.new.lane in
    let line = c.run_lines-line.result.0 in
    let ran =
    ran_so at h names lines values lane _ line c.run_lines-line.result.1 ends.Spent
    c.args.room.fits.said_in (c.run_lines-line.ensures h here) c.in-Spent-end.is in
    spent_came at h names lines values c.requires.made.rising c.look_up_root.new.lane lane line
    here ran

pub unreachable-requires : goal.unreachable-requires
unreachable-requires g c =
    let at = g.M.LaneMem.at in
    let h = c.requires.rests.0 in
    let rests = c.requires.rests.1 in
    let here = c.in_default.ensures {u = tt} h rests in
    let names = c.args.names in
    let lines = c.args.room.lines in
    let values = c.run_lines-line.new.values in
    let lane = c.run_lines-line.new.lane in
    let line = c.run_lines-line.result.0 in
    let ran =
    ran_so at h names lines values lane _ line c.run_lines-line.result.1 (ends.GoesOn c.in-GoesOn.field-0)
    c.args.room.fits.said_in (c.run_lines-line.ensures h here) c.in-GoesOn.is in
    ran.last
