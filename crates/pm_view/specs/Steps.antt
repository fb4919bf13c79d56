-- The steps of a lane as data, each with what it was answered.
use Rattle.std.specs.Prelude.{ℕ, Bool, Option}
use Rattle.pm_objects.specs.declared.calls.Operation.{Operation}
use Rattle.pm_objects.specs.declared.history.Value.{Value}
use Rattle.pm_view.specs.declared.occ.Occ.{Occ}

-- Words and lines are given by their numbers.
pub data Step : Type 0 where
  -- a word, and what was found in it
  Load : ℕ → ℕ → Step
  -- a word, and what it becomes
  Store : ℕ → ℕ → Step
  -- a word, the operand, and what was found in the word
  Or : ℕ → ℕ → ℕ → Step
  And : ℕ → ℕ → ℕ → Step
  Flush : ℕ → Step
  Drain : Step
  -- the lock of a line, tried once for writing or for reading, or held for reading and tried for writing; whether it was got
  TakeWrite : ℕ → Bool → Step
  TakeRead : ℕ → Bool → Step
  Raise : ℕ → Bool → Step
  Give : ℕ → Step
  -- the lock of a zone, tried once; whether it was got
  ZoneTry : ℕ → Bool → Step
  ZoneGive : ℕ → Step
  -- an occupancy word, and what was found in it
  Occupied : Occ → ℕ → Step
  -- bits of it that are to be taken; whether all were free
  Occupy : Occ → ℕ → Bool → Step
  Vacate : Occ → ℕ → Step
  -- a commit number: how many were drawn before it
  Draw : ℕ → Step
  -- how many commit numbers were drawn so far, as seen
  NumberSeen : ℕ → Step
  -- whether the stop word is set, as seen
  StopSeen : Bool → Step
  SetStop : Step
  -- an operation of the open call, and its reply: a value, or none where it is just done
  Tell : Operation → Option Value → Step
