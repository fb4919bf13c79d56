-- The fates of calls, by how they ended: for the crate's own functions.
use Rattle.std.specs.Prelude.{Bool, if◌then◌else◌, List, [], ◌∷◌, ◌++◌, Option, None, Some}
use Rattle.pm_objects.specs.declared.history.Entry.{Entry}
use Rattle.pm_objects.specs.declared.history.Fate.{Fate}
use Rattle.pm_objects.specs.declared.history.Fate.TheVariants as fate
use Rattle.pm_objects.specs.declared.history.TxErr.TheVariants as error
use Rattle.solo_exec.specs.declared.ending.CallAnswer.{CallAnswer}
use Rattle.solo_exec.specs.declared.ending.CallAnswer.TheVariants as answer

-- what became of a call that was answered so
abbrev pub settled_fate : CallAnswer → Fate
settled_fate (answer.Transaction error.None) = fate.Done
settled_fate (answer.Transaction e) = fate.Aborted e
settled_fate (answer.Outside None) = fate.Done
settled_fate (answer.Outside (Some r)) = fate.Refused r

-- what became of a call that was not answered, where its deciding store is left or not
abbrev pub open_fate : Bool → Fate
open_fate decided = if decided then fate.Kept else fate.Lost

-- a history with the call that was not answered, if it drew a number, by what became of it
abbrev pub closed_history : List Entry → Option Entry → Bool → List Entry
closed_history history None decided = history
closed_history history (Some e) decided = history ++ record e { fate = open_fate decided } ∷ []
