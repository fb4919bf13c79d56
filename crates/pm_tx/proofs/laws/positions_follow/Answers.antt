use Rattle.pm_objects.specs.declared.calls.Operation.TheVariants.{AddRange, Increment, Read, Write}
use Rattle.pm_call.specs.Adding.{HasCounted}
use Rattle.pm_call.specs.Incrementing.{HasSum}
use Rattle.pm_call.specs.Plans.{adds, gets, increments, puts}
use Rattle.pm_call.specs.Reading.{HasRead}
use Rattle.pm_call.proofs.Positions.{did_moves}
use Rattle.pm_tx.proofs.Positions.{aborted_moves, begun_level_moves, committed_moves, end_returns, ended_moves, lock_moves, processed_moves, published_moves}
use Rattle.pm_tx.proofs.laws.positions_follow.Goals as goal

pub returns-clause-add_range : goal.returns-clause-add_range
returns-clause-add_range g c id off len result old new h =
    did_moves g.M.LaneMem.at old new h (AddRange id off len) (λ v. adds id off len)
    (HasCounted id off len) result

pub returns-clause-write : goal.returns-clause-write
returns-clause-write g c id off bytes result old new h =
    did_moves g.M.LaneMem.at old new h (Write id off bytes) (λ v. puts id off bytes)
    (λ v (done : Unit {0}). Unit {0}) result

pub returns-clause-read : goal.returns-clause-read
returns-clause-read g c id off len into result old new h =
    did_moves g.M.LaneMem.at old new h (Read id off len) (λ v. gets id off len)
    (HasRead id off len into) result

pub returns-clause-increment : goal.returns-clause-increment
returns-clause-increment g c id off by result old new h =
    did_moves g.M.LaneMem.at old new h (Increment id off by) (λ v. increments id off by)
    (HasSum id off by) result

pub returns-clause-lock : goal.returns-clause-lock
returns-clause-lock g c op wants result old new h =
    lock_moves g.M.LaneMem.at old new h op wants result

pub returns-clause-publish : goal.returns-clause-publish
returns-clause-publish g c result old new h = published_moves g.M.LaneMem.at old new h result

pub returns-clause-commit : goal.returns-clause-commit
returns-clause-commit g c result old new h = committed_moves g.M.LaneMem.at old new h result

pub returns-clause-process : goal.returns-clause-process
returns-clause-process g c result old new h = processed_moves g.M.LaneMem.at old new h result

pub returns-clause-abort : goal.returns-clause-abort
returns-clause-abort g c errnum result old new h =
    aborted_moves g.M.LaneMem.at old new h errnum result

pub returns-clause-end : goal.returns-clause-end
returns-clause-end g c result old new h = ended_moves g.M.LaneMem.at old new h result

pub returns-clause-error : goal.returns-clause-error
returns-clause-error g c result old new h = end_returns g.M.LaneMem.at old new h result

pub returns-clause-begin : goal.returns-clause-begin
returns-clause-begin g c wants result old new h =
    begun_level_moves g.M.LaneMem.at old new h wants result
