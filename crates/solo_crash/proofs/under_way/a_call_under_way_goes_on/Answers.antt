use Rattle.solo_crash.proofs.ActionsOn.{change_goes_on}
use Rattle.solo_crash.proofs.AddOn.{add_goes_on}
use Rattle.solo_crash.proofs.Begun.{begin_under_way}
use Rattle.solo_crash.proofs.Levels.{further_begin_goes_on, inner_commit_goes_on}
use Rattle.solo_crash.proofs.PublishOn.{publish_goes_on}
use Rattle.solo_crash.proofs.ReadOn.{read_goes_on}
use Rattle.solo_crash.proofs.Staying.{goes_on_learning}
use Rattle.solo_crash.proofs.WriteOn.{write_goes_on}
use Rattle.solo_crash.proofs.under_way.a_call_under_way_goes_on.Goals as goal

pub returns-clause-begins : goal.returns-clause-begins
returns-clause-begins c = begin_under_way

pub returns-clause-records : goal.returns-clause-records
returns-clause-records c = add_goes_on

pub returns-clause-writes : goal.returns-clause-writes
returns-clause-writes c = write_goes_on

pub returns-clause-reads : goal.returns-clause-reads
returns-clause-reads c = read_goes_on

pub returns-clause-begins_further : goal.returns-clause-begins_further
returns-clause-begins_further c = further_begin_goes_on

pub returns-clause-ends_inner : goal.returns-clause-ends_inner
returns-clause-ends_inner c = inner_commit_goes_on

pub returns-clause-pending : goal.returns-clause-pending
returns-clause-pending c = change_goes_on

pub returns-clause-publishes : goal.returns-clause-publishes
returns-clause-publishes c = publish_goes_on

pub returns-clause-quietly : goal.returns-clause-quietly
returns-clause-quietly c = goes_on_learning
