use Rattle.solo_crash.proofs.AllocOn.{alloc_goes_on}
use Rattle.solo_crash.proofs.NewRanges.{new_add_goes_on, new_read_goes_on}
use Rattle.solo_crash.proofs.NewWrites.{new_write_goes_on}
use Rattle.solo_crash.proofs.under_way.a_call_under_way_makes_objects.Goals as goal

pub returns-clause-allocates : goal.returns-clause-allocates
returns-clause-allocates c = alloc_goes_on

pub returns-clause-records : goal.returns-clause-records
returns-clause-records c = new_add_goes_on

pub returns-clause-writes : goal.returns-clause-writes
returns-clause-writes c = new_write_goes_on

pub returns-clause-reads : goal.returns-clause-reads
returns-clause-reads c = new_read_goes_on
