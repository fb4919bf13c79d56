-- A CALL THAT ENDED AS Busy has its cause: a try of a lock that it wants was refused, and the run of
-- the lanes tells whose call had the lock.
use Rattle.std.proofs.Common.{◌≡◌, ℕ, ◌<◌}
use Rattle.pm_view.specs.View.{View}
use Rattle.pm_crash.specs.Answers.{ReportCauses}
use Rattle.pm_crash.specs.Facts.{HaveFacts, WasTried}
use Rattle.pm_model.specs.Inside.{wants_of}
use Rattle.pm_crash.proofs.EntryFacts.{histories_tried_locks}
use Rattle.pm_crash.proofs.Missing as missing
use Rattle.pm_shared.specs.Openings.{fixed_of, generation_of, opening_of}
use Rattle.pm_lanes.specs.Closed.{BusyCallsHaveCauses}
use Rattle.pm_lanes.proofs.Closed.{of_lanes}

pub have_causes : BusyCallsHaveCauses
have_causes b back words call op closed all each inside last =
    let now = closed.last in
    let run = closed.run in
    let begins = run.begins in
    let causes : ReportCauses (opening_of b) now.mem now.views now.past =
    missing.runs (opening_of b) (fixed_of b) (generation_of b) run.turns run.begun now begins.world
    begins.taken begins.no_call begins.views_are run.run in
    let tried : WasTried (wants_of op) (now.past.drew call).seen =
    histories_tried_locks (opening_of b) now.mem now.views now.past closed.world
    (of_lanes b back words closed HaveFacts all each) call inside op last in
    record {
      want = tried.want;
      among = tried.among;
      line = tried.line;
      before = tried.before;
      cause = causes.busy.drawn call tried.line inside tried.refused;
    }
