-- What a lane has pending, as its calls leave it: words that are to be set, objects that are to be freed, and new ones that are reserved, until they are
-- published or given up (pmemobj_reserve(3), pmemobj_defer_free(3), pmemobj_set_value(3), pmemobj_publish(3), pmemobj_cancel(3)).
use Rattle.std.specs.Prelude.{ℕ, if◌then◌else◌, ◌==◌, List, [], ◌∷◌, ◌++◌, map, Option, Some, None}
use Rattle.pm_objects.specs.declared.calls.Operation.{Operation}
use Rattle.pm_objects.specs.declared.calls.Operation.TheVariants.{Cancel, DeferFree, Publish, Reserve, SetValue, WriteReserved}
use Rattle.pm_objects.specs.declared.history.Value.{Value}
use Rattle.pm_objects.specs.declared.history.Value.TheVariants.{Offset, Refused}
use Rattle.pm_objects.specs.declared.pool.PoolView.{PoolView}
use Rattle.solo_model.specs.Actions.{Action, Pending, none_pending, with_free, with_put, with_reservation, with_set}
use Rattle.solo_model.specs.Actions.Action.{SetWord}
use Rattle.solo_model.specs.Answers.{Told as Answered}
use Rattle.solo_model.specs.Step.{Act, State}
use Rattle.solo_view.specs.View.{Numbered, Told, View}
use Rattle.solo_world.specs.History.{Entry, entries_by}

-- what an operation with its reply leaves of what was pending: a refusal leaves it all, and a reservation tells where its object is to stand
abbrev pub pending_behind : Operation → Option Value → Pending → Pending
pending_behind op (Some (Refused r)) p = p
pending_behind (Reserve size kind) (Some (Offset off)) p = with_reservation off kind size p
pending_behind (WriteReserved id off bytes) reply p = with_put id.off off bytes p
pending_behind (DeferFree id) reply p = with_free id p
pending_behind (SetValue id off value) reply p = with_set (SetWord id off value) p
pending_behind Publish reply p = none_pending
pending_behind Cancel reply p = none_pending
pending_behind op reply p = p

-- and operations one after another
unfoldable pub pending_told : Pending → List Told → Pending
pending_told p [] = p
pending_told p (t ∷ told) = pending_told (pending_behind t.operation t.reply p) told

-- the words that an operation publishes of it
abbrev pub published_by : Operation → Option Value → Pending → List Action
published_by Publish None p = p.sets
published_by op reply p = []

-- and operations one after another: in a transaction all of these are set with its commit
unfoldable pub published_told : Pending → List Told → List Action
published_told p [] = []
published_told p (t ∷ told) = published_by t.operation t.reply p ++ published_told (pending_behind t.operation t.reply p) told

-- what a lane has pending behind its calls
unfoldable pub pending_from : Pending → List Numbered → Pending
pending_from p [] = p
pending_from p (e ∷ calls) = pending_from (pending_told p e.call) calls

-- what was pending as the lane's open call began: what the calls that drew their numbers left, where nothing was before the first
abbrev pub pending_before : View → Pending
pending_before v = pending_from none_pending v.entries

-- what is pending in its open call
abbrev pub pending_in : View → Pending
pending_in v = pending_told (pending_before v) v.call

-- the words of it that are to be set, as the call began and now
abbrev pub sets_before : View → List Action
sets_before v = (pending_before v).sets

abbrev pub sets_in : View → List Action
sets_in v = (pending_in v).sets

-- the words that its open call published
abbrev pub published_in : View → List Action
published_in v = published_told (pending_before v) v.call

-- the operations of a call with their replies, as the model has them
abbrev pub told_of : Told → Answered
told_of t = record { operation = t.operation; reply = t.reply }

-- the open call as the model's
abbrev pub told_in : View → List Answered
told_in v = map told_of v.call

abbrev pub act_of : View → Act
act_of v = record { lane = v.lane; actions = pending_before v; told = told_in v }

-- ---- the calls of a history

-- what a lane has pending behind these entries
abbrev pub pending_after : List Entry → ℕ → Pending
pending_after log lane = pending_from none_pending (entries_by lane log)

-- the call of an entry behind these as the model's
abbrev pub act_behind : List Entry → Entry → Act
act_behind log e = record { lane = e.lane; actions = pending_after log e.lane; told = map told_of e.call }

-- the calls of entries behind these
unfoldable pub acts_behind : List Entry → List Entry → List Act
acts_behind log [] = []
acts_behind log (e ∷ entries) = act_behind log e ∷ acts_behind (log ++ e ∷ []) entries

-- the calls of a history as the model's
abbrev pub acts_of : List Entry → List Act
acts_of entries = acts_behind [] entries

-- a pool, with what each lane has pending behind these entries
abbrev pub state_after : PoolView → List Entry → State
state_after pool log = record { pool = pool; actions = pending_after log }

-- ---- the calls of lane 0, where it is alone

-- its call behind these as the model's
abbrev pub act_alone : List Numbered → Numbered → Act
act_alone calls e = record { lane = 0; actions = pending_from none_pending calls; told = map told_of e.call }

-- its calls behind these
unfoldable pub acts_alone_behind : List Numbered → List Numbered → List Act
acts_alone_behind calls [] = []
acts_alone_behind calls (e ∷ entries) = act_alone calls e ∷ acts_alone_behind (calls ++ e ∷ []) entries

-- its calls as the model's
abbrev pub acts_alone : List Numbered → List Act
acts_alone entries = acts_alone_behind [] entries

-- a pool, with what the lane has pending behind these calls
abbrev pub state_alone : PoolView → List Numbered → State
state_alone pool calls = record { pool = pool; actions = λ lane. if lane == 0 then pending_from none_pending calls else none_pending }
