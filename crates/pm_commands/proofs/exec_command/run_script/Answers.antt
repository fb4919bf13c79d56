use Rattle.std.proofs.Common.{ap, refl, subst, sym, ◌∙◌}
use Rattle.pm_script.specs.Stops.{stop_of}
use Rattle.pm_script.proofs.LaneCalls.{lane_calls}
use Rattle.pm_script.proofs.NamedLanes.{few_lanes, some_lane as some_lane_named}
use Rattle.pm_script.proofs.RisingLines.{lines_rise as script_lines_rise}
use Rattle.pm_script.specs.Words.{lines}
use Rattle.solo_script.proofs.NamedLanes.{some_lane}
use Rattle.solo_script.proofs.RisingLines.{lines_rise}
use Rattle.pm_options.specs.Asked.{exec_asked}
use Rattle.pm_commands.specs.Executed.{IsRunFault}
use Rattle.pm_commands.specs.LaneStops.{AreStopsFor}
use Rattle.pm_commands.specs.Ways.{IsWay}
use Rattle.pm_commands.proofs.OneLane.{calls_of_one_lane, letters_before}
use Rattle.pm_commands.proofs.Running.{lanes_left, no_image, no_memory_left, not_opened, not_opened_for_lanes, one_lane_left}
use Rattle.pm_commands.proofs.exec_command.run_script.Goals as goal

pub returns-in-Err-clause-cause : goal.returns-in-Err-clause-cause
returns-in-Err-clause-cause g c =
    subst (IsRunFault c.args.source.items c.args.text.now (exec_asked c.args.words.now)) (sym c.failure_of.ensures)
    (no_image c.args.source.items c.args.text.now (exec_asked c.args.words.now) c.in_ok-way.way c.in-Err.fault c.in_ok-way.ensures.way c.in-Err.ensures.fault)

-- ---- a single lane

pub exec-requires-clause-calls : goal.exec-requires-clause-calls
exec-requires-clause-calls g c = calls_of_one_lane _ _ (subst (IsWay (lines c.args.text.now)) c.in-OneLane.is c.in_ok-way.ensures.way).0

pub exec-requires-clause-rising : goal.exec-requires-clause-rising
exec-requires-clause-rising g c = lines_rise _ _ (subst (IsWay (lines c.args.text.now)) c.in-OneLane.is c.in_ok-way.ensures.way).0

pub exec-requires-clause-bound : goal.exec-requires-clause-bound
exec-requires-clause-bound g c = letters_before _ _ (subst (IsWay (lines c.args.text.now)) c.in-OneLane.is c.in_ok-way.ensures.way).0

pub exec-requires-clause-some : goal.exec-requires-clause-some
exec-requires-clause-some g c = some_lane _ _ (subst (IsWay (lines c.args.text.now)) c.in-OneLane.is c.in_ok-way.ensures.way).0

pub returns-in-OneLane-clause-cause : goal.returns-in-OneLane-clause-cause
returns-in-OneLane-clause-cause g c =
    subst (IsRunFault c.args.source.items c.args.text.now (exec_asked c.args.words.now)) (sym c.open_failure.ensures)
    (not_opened c.args.source.items c.args.text.now (exec_asked c.args.words.now) c.in-Ok.image _ c.args.words.now.layout c.in-Err-exec.fault
    c.in-Ok.ensures.in_words c.in-Ok.ensures.image (subst (IsWay (lines c.args.text.now)) c.in-OneLane.is c.in_ok-way.ensures.way) refl c.in-Err-exec.ensures.cause)

pub returns-in-Ok-exec-clause-ran : goal.returns-in-Ok-exec-clause-ran
returns-in-Ok-exec-clause-ran g c =
    one_lane_left (λ left. left.bytes.items) (λ left. left.report.items) c.left_of.result c.args.source.items c.args.text.now (exec_asked c.args.words.now) c.in-Ok.image c.in-Ok-exec.outcome.words.items _ c.in-Ok-exec.outcome.history.items c.in-Ok-exec.outcome.end c.in-Ok-exec.outcome.given.items _ _ c.stop_of-stop.result
    (c.stop_of-stop.ensures ∙ ap (stop_of 0) c.deref.ensures.value) c.in-Ok.ensures.in_words c.in-Ok.ensures.image (subst (IsWay (lines c.args.text.now)) c.in-OneLane.is c.in_ok-way.ensures.way)
    c.in-Ok-exec.ensures.opened c.in-Ok-exec.ensures.given c.in-Ok-exec.ensures.history c.in-Ok-exec.ensures.made c.in-Ok-exec.ensures.replay
    c.deref-in-Ok-exec.ensures.value c.deref-in-Ok-exec-2.ensures.value c.left_of.ensures.bytes c.left_of.ensures.report

pub returns-in-Ok-exec-clause-cause : goal.returns-in-Ok-exec-clause-cause
returns-in-Ok-exec-clause-cause g c = no_memory_left c.left_of.result c.args.source.items c.args.text.now (exec_asked c.args.words.now) c.left_of.ensures.cause

-- ---- lanes

pub exec-ran-requires-clause-calls : goal.exec-ran-requires-clause-calls
exec-ran-requires-clause-calls g c κs within = lane_calls _ _ (subst (IsWay (lines c.args.text.now)) c.in-Lanes.is c.in_ok-way.ensures.way).is_script

pub exec-ran-requires-clause-rising : goal.exec-ran-requires-clause-rising
exec-ran-requires-clause-rising g c κs within = script_lines_rise _ _ (subst (IsWay (lines c.args.text.now)) c.in-Lanes.is c.in_ok-way.ensures.way).is_script

pub exec-ran-requires-clause-lanes : goal.exec-ran-requires-clause-lanes
exec-ran-requires-clause-lanes g c κs within =
    let is = (subst (IsWay (lines c.args.text.now)) c.in-Lanes.is c.in_ok-way.ensures.way).is_script in (some_lane_named _ _ is, few_lanes _ _ is)

pub returns-in-Ok-ran-clause-ran : goal.returns-in-Ok-ran-clause-ran
returns-in-Ok-ran-clause-ran g c =
    lanes_left (λ left. left.bytes.items) (λ left. left.report.items) c.left_of-in-Ok-ran.result c.args.source.items c.args.text.now (exec_asked c.args.words.now) c.in-Ok.image _ c.lane_stops-stops.result c.in-Ok-ran.outcome _ _ _
    c.in-Ok.ensures.in_words c.in-Ok.ensures.image (subst (IsWay (lines c.args.text.now)) c.in-Lanes.is c.in_ok-way.ensures.way)
    (subst (λ given. AreStopsFor given c.lane_stops-stops.result) c.deref-in-Lanes.ensures.value c.lane_stops-stops.ensures) c.in-Ok-ran.ensures.ran
    c.deref-in-Ok-ran.ensures.value c.deref-in-Ok-ran-2.ensures.value c.deref-in-Ok-ran-3.ensures.value c.left_of-in-Ok-ran.ensures.bytes c.left_of-in-Ok-ran.ensures.report

pub returns-in-Ok-ran-clause-cause : goal.returns-in-Ok-ran-clause-cause
returns-in-Ok-ran-clause-cause g c = no_memory_left c.left_of-in-Ok-ran.result c.args.source.items c.args.text.now (exec_asked c.args.words.now) c.left_of-in-Ok-ran.ensures.cause

pub returns-clause-cause : goal.returns-clause-cause
returns-clause-cause g c =
    subst (IsRunFault c.args.source.items c.args.text.now (exec_asked c.args.words.now)) (sym c.lanes_failure.ensures)
    (not_opened_for_lanes c.args.source.items c.args.text.now (exec_asked c.args.words.now) c.in-Ok.image _ c.in-Err-ran.fault
    c.in-Ok.ensures.in_words c.in-Ok.ensures.image (subst (IsWay (lines c.args.text.now)) c.in-Lanes.is c.in_ok-way.ensures.way) c.in-Err-ran.ensures.cause)
