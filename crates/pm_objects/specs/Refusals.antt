-- The numbers of refusals: docs/MODEL.md, "Refusals".
use Rattle.std.specs.Prelude.{ℕ}
use Rattle.pm_objects.specs.declared.refusal.Refusal.{Refusal}
use Rattle.pm_objects.specs.declared.refusal.Refusal.TheVariants.{NotWork, InTx, NoTx, BadSize, NoObject, NotLocked, OutOfRange, NotAdded, LogFull, ActionsFull, NoSpace, Listed, Busy, Spent, Stopped, NotInList, Short, RootKept, Deep, LocksFull, Unaligned, NotReserved}

-- the place of a refusal in the list of reasons, from 1
abbrev pub refusal_number : Refusal → ℕ
refusal_number NotWork = 1
refusal_number InTx = 2
refusal_number NoTx = 3
refusal_number BadSize = 4
refusal_number NoObject = 5
refusal_number NotLocked = 6
refusal_number OutOfRange = 7
refusal_number NotAdded = 8
refusal_number LogFull = 9
refusal_number ActionsFull = 10
refusal_number NoSpace = 11
refusal_number Listed = 12
refusal_number Busy = 13
refusal_number Spent = 14
refusal_number Stopped = 15
refusal_number NotInList = 16
refusal_number (Short members) = 17
refusal_number RootKept = 18
refusal_number Deep = 19
refusal_number LocksFull = 20
refusal_number Unaligned = 21
refusal_number NotReserved = 22
