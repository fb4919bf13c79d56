use Rattle.std.proofs.Common.{◌≡◌, List, length, sym, subst, ◌∙◌}
use Rattle.pm_script.specs.declared.script.ScriptLine.{ScriptLine}
use Rattle.pm_calls.specs.LaneRooms.{AreRoomsFor}
use Rattle.pm_exec.specs.Reports.{AreWorksFor}
use Rattle.pm_exec.specs.Runs.{names_of}
use Rattle.pm_exec.specs.Works.{WorkLeft}
use Rattle.pm_exec.proofs.LaneWorks.{can_run, did_calls, have_calls, opened_names, works_for}
use Rattle.pm_exec.proofs.MadeCalls.{CallLaws, lines_run, rooms_made}
use Rattle.pm_exec.proofs.Ran.{PoolLaws, ran_on_lanes}
use Rattle.pm_exec.proofs.Stopped.{LaneLaws}
use Rattle.pm_exec.proofs.executing.exec.Goals as goal

pub run_works-requires-clause-works : goal.run_works-requires-clause-works
run_works-requires-clause-works g c κs within =
    let script = c.args.script.now in
    let b = c.in-Ok-open_in_place.beginning in
    let rooms = c.in-Ok.rooms.items in
    let works = c.in-Ok-works_of.works.items in
    let are : AreRoomsFor script.lines script.lanes rooms = subst (λ (l : List ScriptLine). AreRoomsFor l script.lanes rooms) c.as_slice.ensures c.in-Ok.ensures in (
      c.names_on.result,
      script.lines,
      subst (λ n. AreWorksFor c.names_on.result script.lines n works) (sym c.in-Ok-open_in_place.ensures.lanes)
          (works_for c.names_on.result script.lines script.lanes rooms works are c.in-Ok-works_of.ensures),
    )

pub run_works-requires-clause-calls : goal.run_works-requires-clause-calls
run_works-requires-clause-calls g c κs within =
    have_calls c.names_on.result c.in-Ok.rooms.items c.in-Ok-works_of.works.items c.in-Ok-works_of.ensures

pub run_works-requires-clause-can : goal.run_works-requires-clause-can
run_works-requires-clause-can g c κs within =
    let script = c.args.script.now in
    let rooms = c.in-Ok.rooms.items in
    let are : AreRoomsFor script.lines script.lanes rooms = subst (λ (l : List ScriptLine). AreRoomsFor l script.lanes rooms) c.as_slice.ensures c.in-Ok.ensures in
    let laws : CallLaws = record {
      whole = c.a_lanes_calls_are_whole.ensures.whole;
      among = c.a_lanes_calls_are_whole.ensures.among;
      rising = c.a_lanes_calls_are_whole.ensures.rising;
      lanes = c.a_lanes_calls_are_whole.ensures.lanes;
    } in
    can_run c.names_on.result rooms c.in-Ok-works_of.works.items c.in-Ok-works_of.ensures
    (rooms_made laws script.lines c.requires.rising c.requires.words c.requires.calls script.lanes rooms are)

pub returns-in-Ok-run_works-clause-ran : goal.returns-in-Ok-run_works-clause-ran
returns-in-Ok-run_works-clause-ran g c =
    let script = c.args.script.now in
    let b = c.in-Ok-open_in_place.beginning in
    let rooms = c.in-Ok.rooms.items in
    let works = c.in-Ok-works_of.works.items in
    let r = c.in-Ok-run_works.ensures in
    let laws : PoolLaws = record {
      means = c.closed_pools_mean_their_histories.ensures.means;
      replays = c.closed_pools_mean_their_histories.ensures.replays;
      others = c.open_calls_are_judged.ensures.others;
      judges = c.open_calls_are_judged.ensures.open_call;
    } in
    let are : AreRoomsFor script.lines script.lanes rooms = subst (λ (l : List ScriptLine). AreRoomsFor l script.lanes rooms) c.as_slice.ensures c.in-Ok.ensures in
    let opened = c.in-Ok-open_in_place.ensures.opened in
    let names = c.names_on.result in
    let named = opened_names c.args.image c.args.layout.now b opened names c.names_on.ensures.pool c.names_on.ensures.root in
    let for_ : AreWorksFor (names_of opened.pool) script.lines b.lanes works =
    subst (λ n. AreWorksFor (names_of opened.pool) script.lines n works) (sym c.in-Ok-open_in_place.ensures.lanes)
    (subst (λ ns. AreWorksFor ns script.lines script.lanes works) named
    (works_for names script.lines script.lanes rooms works are c.in-Ok-works_of.ensures)) in
    let count : length works ≡ b.lanes = c.in-Ok-works_of.ensures.count ∙ are.count ∙ sym c.in-Ok-open_in_place.ensures.lanes in
    let calls = have_calls names rooms works c.in-Ok-works_of.ensures in
    let more : LaneLaws = record {
      own = c.stops_are_reached.ensures.own;
      seen = c.stops_are_reached.ensures.seen;
      headers = c.headers_are_kept.ensures;
      drawn = c.numbers_are_shown.ensures.drawn;
      generation = c.numbers_are_shown.ensures.generation;
      busy = c.busy_calls_have_causes.ensures;
      missed = c.missed_calls_have_causes.ensures.causes;
      before = c.missed_calls_have_causes.ensures.before;
      listed = c.calls_are_listed.ensures;
    } in
    ran_on_lanes laws more c.args.image c.args.layout.now script c.args.failure.stops c.args.failure.keep c.in-Ok-run_works.outcome b works r.after r.flags WorkLeft
    opened c.in-Ok-open_in_place.ensures.lanes c.in-Ok-open_in_place.ensures.stops r.ran for_
    (λ k w low. did_calls b c.args.failure.keep works r.after c.in-Ok-run_works.outcome.image.items r.flags r.ran count calls k w low)
    r.order r.ends
    (lines_run c.a_lanes_calls_are_whole.ensures.among script.lines c.requires.words)
