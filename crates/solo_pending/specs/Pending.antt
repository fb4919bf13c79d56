-- A lane's pending actions, as the plain model and a redo log have them.
use Rattle.std.specs.Prelude.{◌+◌, false, List, map, Option, None, Some, Result, Ok, Err}
use Rattle.pm_objects.specs.declared.refusal.Refusal.{Refusal}
use Rattle.pm_record.specs.declared.redo.Op.TheVariants.{Set}
use Rattle.pm_record.specs.declared.redo.Redo.{Redo}
use Rattle.solo_model.specs.Actions.{Action, Pending, only_sets}
use Rattle.solo_model.specs.Actions.Action.{SetWord}
use Rattle.solo_model.specs.Checks.{Seen}
use Rattle.solo_pending.specs.declared.actions.SetAction.{SetAction}

-- an action of the model's, and all of a list
abbrev pub action_of : SetAction → Action
action_of a = SetWord a.id a.off a.value

abbrev pub sets_of : List SetAction → List Action
sets_of actions = map action_of actions

-- what is pending where a list has all of it
abbrev pub pending_of : List SetAction → Pending
pending_of actions = only_sets (sets_of actions)

-- the redo entry that performs an action of the model's: it sets the word that the action is of
abbrev pub entry_of : Action → Redo
entry_of (SetWord id off value) = record { place = id.off + off; op = Set; value = value }

-- and one of the list's
abbrev pub redo_for : SetAction → Redo
redo_for a = entry_of (action_of a)

-- the reason of an answer that refuses
abbrev pub refusal_in : {T : Type 0} → Result T Refusal → Option Refusal
refusal_in (Ok done) = None
refusal_in (Err reason) = Some reason

-- the lane sees nothing that hinders the call: it has generations and numbers left, and misses no object
abbrev pub unhindered : Seen
unhindered = record { spent = false; busy = false; missing = false; full = false }
