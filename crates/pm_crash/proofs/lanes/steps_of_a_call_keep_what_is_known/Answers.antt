use Rattle.pm_crash.proofs.CallRuns.{runs_grow}
use Rattle.pm_crash.proofs.RecordsKnown.{quiet_keeps_records, records_begin, records_stay_known}
use Rattle.pm_crash.proofs.SimSteps.{steps_grow, steps_keep_sims, still, voiding_grows}
use Rattle.pm_crash.proofs.lanes.steps_of_a_call_keep_what_is_known.Goals as goal

pub returns-clause-grow : goal.returns-clause-grow
returns-clause-grow c = steps_grow

pub returns-clause-sims : goal.returns-clause-sims
returns-clause-sims c = steps_keep_sims

pub returns-clause-voids : goal.returns-clause-voids
returns-clause-voids c = voiding_grows

pub returns-clause-quiet : goal.returns-clause-quiet
returns-clause-quiet c = still

pub returns-clause-records_begin : goal.returns-clause-records_begin
returns-clause-records_begin c = records_begin

pub returns-clause-records : goal.returns-clause-records
returns-clause-records c = records_stay_known

pub returns-clause-quiet_records : goal.returns-clause-quiet_records
returns-clause-quiet_records c = quiet_keeps_records

pub returns-clause-runs : goal.returns-clause-runs
returns-clause-runs c = runs_grow
