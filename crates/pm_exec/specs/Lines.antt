-- WHAT A LINE ASKS of its lane, and what it comes to, by what its call returned.
use Rattle.std.specs.Prelude.{◌≡◌, ℕ, zero, suc, Option, Some, None, Result, Ok, Err}
use Rattle.pm_objects.specs.declared.calls.Operation.{Operation}
use Rattle.pm_objects.specs.declared.history.TxErr.TheVariants as error
use Rattle.pm_objects.specs.declared.history.Value.{Value}
use Rattle.pm_objects.specs.declared.history.Value.TheVariants.{Refused}
use Rattle.pm_objects.specs.declared.refusal.Refusal.{Refusal}
use Rattle.pm_objects.specs.declared.refusal.Refusal.TheVariants as refusal
use Rattle.pm_view.specs.View.{View}
use Rattle.pm_world.specs.declared.lane.Lane.{Lane}
use Rattle.pm_call.specs.Histories.{LaneHistory}
use Rattle.pm_call.specs.Positions.{Position, position_of, resting, working}
use Rattle.pm_call.specs.Standing.{StandsWith}
use Rattle.pm_exec.specs.Answers.{LineCame}
use Rattle.pm_exec.specs.declared.line_end.LineEnd.{LineEnd}
use Rattle.pm_exec.specs.declared.line_end.LineEnd.TheVariants as ends

-- the lane stands with some history
abbrev pub Awaits : {M : Type 0} → (M → View → Type 0) → Lane M → Type 0
Awaits at lane = (h : LaneHistory) × StandsWith at lane h

-- between two calls where no level is open, else at work at this level
abbrev pub at_level : ℕ → Position
at_level zero = resting
at_level (suc n) = working (suc n)

-- an operation of a transaction at work: it is done, with this reply; the lane stopped; or the
-- transaction is given up
abbrev pub end_at_work : Result (Option Value) Refusal → LineEnd
end_at_work (Ok reply) = ends.GoesOn reply
end_at_work (Err refusal.Stopped) = ends.Stopped
end_at_work (Err r) = ends.GivenUp (error.Refused r)

-- a call of one operation: done, or refused; or the lane stopped, or no number is left
abbrev pub end_alone : Result (Unit {0}) Refusal → LineEnd
end_alone (Ok done) = ends.Over None
end_alone (Err refusal.Stopped) = ends.Stopped
end_alone (Err refusal.Spent) = ends.Spent
end_alone (Err r) = ends.Over (Some r)

-- a call on what is pending alone makes no counted call, so it meets no stop
abbrev pub end_asked : Result (Unit {0}) Refusal → LineEnd
end_asked (Ok done) = ends.Over None
end_asked (Err refusal.Spent) = ends.Spent
end_asked (Err r) = ends.Over (Some r)

-- the begin of the outermost level
abbrev pub end_opened : Result (Unit {0}) Refusal → LineEnd
end_opened (Ok done) = ends.GoesOn None
end_opened (Err refusal.Stopped) = ends.Stopped
end_opened (Err refusal.Spent) = ends.Spent
end_opened (Err r) = ends.GivenUp (error.Refused r)

-- a word that is asked for in a transaction: a refusal is what the line gives
abbrev pub end_noted : Result (Unit {0}) Refusal → LineEnd
end_noted (Ok done) = ends.GoesOn None
end_noted (Err r) = ends.GoesOn (Some (Refused r))

-- THE LINE RAN, from wherever its lane stood with so many levels open, and came to this, with so many
-- open behind it where it goes on
abbrev pub LineRan : {M : Type 0} → (M → View → Type 0) → Lane M → Lane M → Operation → ℕ → ℕ
    → LineEnd → Type 0
LineRan at old new op level behind e = (h : LaneHistory) → StandsWith at old h
    → position_of old ≡ at_level level → LineCame at new op level behind h e

-- done without a reply
abbrev pub unvalued : Result (Unit {0}) Refusal → Result (Option Value) Refusal
unvalued (Ok done) = Ok None
unvalued (Err r) = Err r
