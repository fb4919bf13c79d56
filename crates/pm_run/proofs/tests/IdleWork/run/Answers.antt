use Rattle.std.proofs.Common.{ap}
use Rattle.std.proofs.lemmas.Bool.{both_ways}
use Rattle.pm_call.specs.Histories.{LaneHistory}
use Rattle.pm_call.proofs.StoppedLanes.{may_open_facts}
use Rattle.pm_run.proofs.tests.IdleWork.run.Goals as goal

pub returns-then-idle : goal.returns-then-idle
returns-then-idle g c number stands =
    let idle = c.idle.ensures.0 c.if-idle.true in
    let here = stands.0.between idle.unstopped idle.level in (
      record {
        view = here.0.standing.view;
        seen = here.0.rests.memory;
        facts = may_open_facts here.0.standing here.0.between;
        due = λ e. absurd (both_ways c.args.lane.now.stopped idle.unstopped e);
      },
      ap (λ (h : LaneHistory). h.lane) here.1.is,
      ap (λ (h : LaneHistory). h.done) here.1.is,
    )
