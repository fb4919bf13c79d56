-- How a step moves the history on: a draw adds an entry, and the drain of a deciding store decides one.
use Rattle.std.specs.Prelude.{ℕ, ◌==◌, ◌&&◌, ◌||◌, Bool, true, false, List, [], ◌∷◌, ◌++◌, Option, Some, None}
use Rattle.solo_view.specs.declared.change.Change.{Change}
use Rattle.solo_view.specs.Changes.{drained}
use Rattle.solo_view.specs.Log.{Phase, Final}
use Rattle.solo_view.specs.Log.Phase.{Drawn, Sealing, Retiring}
use Rattle.solo_view.specs.Steps.{Step}
use Rattle.solo_view.specs.Steps.Step.{Drain, Draw}
use Rattle.solo_view.specs.View.{View}
use Rattle.solo_world.specs.History.{Entry}
use Rattle.solo_world.specs.Records.{difference_of}

-- the number of a lane's call in flight: drawn, its deciding store not drained
abbrev pub flight_in : Phase → Option ℕ → Option ℕ
flight_in Drawn number = number
flight_in Sealing number = number
flight_in Retiring number = number
flight_in phase number = None

abbrev pub flight : View → Option ℕ
flight v = flight_in v.log.phase v.number

-- it is this number
abbrev pub is_number : Option ℕ → ℕ → Bool
is_number None n = false
is_number (Some number) n = number == n

-- the entry of the lane's call, as it draws
abbrev pub entry_of : View → ℕ → Entry
entry_of v n = record { number = n; lane = v.lane; call = v.call; difference = difference_of v }

-- the history after the step
abbrev pub log_after : List Entry → View → Step → List Entry
log_after log v (Draw n) = log ++ entry_of v n ∷ []
log_after log v s = log

-- a drain that leaves these changes decides the number
abbrev pub is_decided_by_drain : List Change → View → ℕ → Bool
is_decided_by_drain [] v n = is_number (flight v) n
is_decided_by_drain (c ∷ changes) v n = false

-- a call that makes nothing final is decided as it draws
abbrev pub is_empty : List Final → Bool
is_empty [] = true
is_empty (f ∷ difference) = false

-- which numbers are decided after the step
abbrev pub decided_after : (ℕ → Bool) → View → Step → ℕ → Bool
decided_after decided v Drain n = decided n || is_decided_by_drain (drained v.changes) v n
decided_after decided v (Draw number) n = decided n || (number == n && is_empty (difference_of v))
decided_after decided v s n = decided n
