use Rattle.pm_world.proofs.LockHolders.{refusal_shows_lock}
use Rattle.pm_world.proofs.OccupancyShown.{load_shows_taken, taken_is_someones, refusal_shows_taken}
use Rattle.pm_world.proofs.report_laws.steps_show_causes.Goals as goal

pub returns-clause-lock : goal.returns-clause-lock
returns-clause-lock c = refusal_shows_lock

pub returns-clause-occupancy : goal.returns-clause-occupancy
returns-clause-occupancy c = load_shows_taken

pub returns-clause-taken : goal.returns-clause-taken
returns-clause-taken c = taken_is_someones

pub returns-clause-bits : goal.returns-clause-bits
returns-clause-bits c = refusal_shows_taken
