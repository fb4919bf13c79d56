use Rattle.pm_call.proofs.Standing.{ended_turns}
use Rattle.pm_tx.proofs.LockStanding.{begun_level_turns, lock_turns}
use Rattle.pm_tx.proofs.Standing.{aborted_turns, added_turns, committed_turns, incremented_turns, processed_turns, published_turns, read_turns, written_turns}
use Rattle.pm_tx.proofs.laws.lanes_stand.Goals as goal

pub returns-clause-add_range : goal.returns-clause-add_range
returns-clause-add_range g c id off len result old new h =
    added_turns g.M.LaneMem.at old new h id off len result

pub returns-clause-write : goal.returns-clause-write
returns-clause-write g c id off bytes result old new h =
    written_turns g.M.LaneMem.at old new h id off bytes result

pub returns-clause-read : goal.returns-clause-read
returns-clause-read g c id off len into result old new h =
    read_turns g.M.LaneMem.at old new h id off len into result

pub returns-clause-increment : goal.returns-clause-increment
returns-clause-increment g c id off by result old new h =
    incremented_turns g.M.LaneMem.at old new h id off by result

pub returns-clause-publish : goal.returns-clause-publish
returns-clause-publish g c result old new h = published_turns g.M.LaneMem.at old new h result

pub returns-clause-commit : goal.returns-clause-commit
returns-clause-commit g c result old new h = committed_turns g.M.LaneMem.at old new h result

pub returns-clause-process : goal.returns-clause-process
returns-clause-process g c result old new h = processed_turns g.M.LaneMem.at old new h result

pub returns-clause-abort : goal.returns-clause-abort
returns-clause-abort g c errnum result old new h =
    aborted_turns g.M.LaneMem.at old new h errnum result

pub returns-clause-end : goal.returns-clause-end
returns-clause-end g c result old new h = ended_turns g.M.LaneMem.at old new h result

pub returns-clause-lock : goal.returns-clause-lock
returns-clause-lock g c op wants result old new h =
    lock_turns g.M.LaneMem.at old new h op wants result

pub returns-clause-begin : goal.returns-clause-begin
returns-clause-begin g c wants result old new h =
    begun_level_turns g.M.LaneMem.at old new h wants result
