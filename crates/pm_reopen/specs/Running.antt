-- Memory calls made one after the other, all of them or the first of them up to a stop.
use Rattle.std.specs.Prelude.{◌≡◌, ◌⊎◌, ℕ, ◌/◌, List, [], ◌∷◌, take, Option, None, Some, Result, Ok, Err}
use Rattle.pm_record.specs.declared.redo.Op.{Op}
use Rattle.pm_record.specs.declared.redo.Op.TheVariants as op
use Rattle.pm_memory.specs.Keep.{IsKeptImage}
use Rattle.pm_memory.specs.Solo.{Solo, IsDue, IsSpent, after_and, after_drain, after_flush, after_or, after_store, opened, says_stopped}
use Rattle.pm_memory.specs.Survivors.{Survives}
use Rattle.pm_memory.specs.declared.lane_mem.Stopped.{Stopped}
use Rattle.pm_reopen.specs.Plan.{MemoryCall, plan}
use Rattle.pm_reopen.specs.Plan.MemoryCall.{Change, Flush, Drain}

-- the memory after a change of word w
abbrev pub after_change : Op → Solo → ℕ → ℕ → Solo
after_change op.Set m w x = after_store m w x
after_change op.Or m w bits = after_or m w bits
after_change op.And m w bits = after_and m w bits

-- and after a call, and calls
abbrev pub after_call : Solo → MemoryCall → Solo
after_call m (Change e) = after_change e.op m (e.place / 8) e.value
after_call m (Flush line) = after_flush m line
after_call m Drain = after_drain m

unfoldable pub after_calls : Solo → List MemoryCall → Solo
after_calls m [] = m
after_calls m (c ∷ calls) = after_calls (after_call m c) calls

-- all of these calls were made, each before the stop number
unfoldable pub Makes : Solo → Solo → List MemoryCall → Type 0
Makes old new [] = new ≡ old
Makes old new (c ∷ calls) = IsDue old × Makes (after_call old c) new calls

-- the first of these calls were made, and before one of them the stop number was reached
unfoldable pub Halts : Solo → Solo → List MemoryCall → Type 0
Halts old new [] = ⊥
Halts old new (c ∷ calls) = (IsSpent old × (new ≡ says_stopped old)) ⊎ (IsDue old × Halts (after_call old c) new calls)

-- the calls were made, or the first of them up to the stop
abbrev pub MakesOrHalts : {T : Type 0} → Solo → Solo → List MemoryCall → Result T Stopped → Type 0
MakesOrHalts old new calls (Ok answer) = Makes old new calls
MakesOrHalts old new calls (Err stopped) = Halts old new calls

-- ---- RECOVERY AS A WHOLE

-- the memory after so many calls of the recovery of an image of so many lanes
abbrev pub recovering : List ℕ → ℕ → Option ℕ → ℕ → Solo
recovering image lanes stop made = after_calls (opened image stop) (take made (plan image lanes))

-- the words that the whole plan leaves
abbrev pub words_left : List ℕ → ℕ → List ℕ
words_left image lanes = (after_calls (opened image None) (plan image lanes)).words

-- the image that recovery leaves where it makes at most so many calls and a power failure follows,
-- which keeps as many of the undrained changes as `keep` says
abbrev pub IsLeft : List ℕ → ℕ → ℕ → ℕ → List ℕ → Type 0
IsLeft image lanes stop keep left = let m = recovering image lanes (Some stop) stop in IsKeptImage keep m.words (m.changes ∷ []) left

-- an image that a power failure may leave after so many calls, whichever undrained changes it keeps
abbrev pub MayRemain : List ℕ → ℕ → ℕ → List ℕ → Type 0
MayRemain image lanes made left = let m = recovering image lanes None made in Survives m.words (m.changes ∷ []) left
