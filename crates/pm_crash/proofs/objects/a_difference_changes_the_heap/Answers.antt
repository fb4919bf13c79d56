use Rattle.pm_crash.proofs.ChangedHeaps as changed
use Rattle.pm_crash.proofs.objects.a_difference_changes_the_heap.Goals as goal

pub returns-clause-holds : goal.returns-clause-holds
returns-clause-holds _ = changed.changed_holds

pub returns-clause-blocks : goal.returns-clause-blocks
returns-clause-blocks _ = changed.changed_blocks

pub returns-clause-places : goal.returns-clause-places
returns-clause-places _ = changed.staying
