-- Refusals and the errors of transactions as people read them: docs/MODEL.md, "Refusals".
use Rattle.std.specs.Prelude.{ℕ, List, ◌++◌, codes}
use Rattle.std.specs.Fmt.{decimal}
use Rattle.pm_objects.specs.declared.history.TxErr.{TxErr}
use Rattle.pm_objects.specs.declared.history.TxErr.TheVariants as error
use Rattle.pm_objects.specs.declared.refusal.Refusal.{Refusal}
use Rattle.pm_objects.specs.declared.refusal.Refusal.TheVariants.{NotWork, InTx, NoTx, BadSize, NoObject, NotLocked, OutOfRange, NotAdded, LogFull, ActionsFull, NoSpace, Listed, Busy, Spent, Stopped, NotInList, Short, RootKept, Deep, LocksFull, Unaligned, NotReserved}

abbrev pub refusal_text : Refusal → List ℕ
refusal_text NotWork = codes "NotWork"
refusal_text InTx = codes "InTx"
refusal_text NoTx = codes "NoTx"
refusal_text BadSize = codes "BadSize"
refusal_text NoObject = codes "NoObject"
refusal_text NotLocked = codes "NotLocked"
refusal_text OutOfRange = codes "OutOfRange"
refusal_text NotAdded = codes "NotAdded"
refusal_text LogFull = codes "LogFull"
refusal_text ActionsFull = codes "ActionsFull"
refusal_text NoSpace = codes "NoSpace"
refusal_text Listed = codes "Listed"
refusal_text Busy = codes "Busy"
refusal_text Spent = codes "Spent"
refusal_text Stopped = codes "Stopped"
refusal_text NotInList = codes "NotInList"
refusal_text (Short members) = codes "Short " ++ decimal members
refusal_text RootKept = codes "RootKept"
refusal_text Deep = codes "Deep"
refusal_text LocksFull = codes "LocksFull"
refusal_text Unaligned = codes "Unaligned"
refusal_text NotReserved = codes "NotReserved"

-- why a transaction was aborted
abbrev pub error_text : TxErr → List ℕ
error_text error.None = codes "no error"
error_text error.Canceled = codes "ECANCELED"
error_text (error.User number) = decimal number
error_text (error.Refused refusal) = refusal_text refusal
