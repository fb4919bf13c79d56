-- What an engine does to a lane's memory: steps that follow from the lane's view before them (docs/FORMAT.md, "Sequences").
use Rattle.std.specs.Prelude.{◌≡◌, ℕ, zero, suc, IsTrue, ◌==◌, nat_lt, if◌then◌else◌, List, [], ◌∷◌, ◌++◌, length, map, slice_index, Result, Ok, Err}
use Rattle.solo_memory.specs.Runs.{Ran}
use Rattle.solo_memory.specs.declared.lane_mem.Stopped.{Stopped}
use Rattle.solo_view.specs.Counts.{max_changes, unflushed_lines}
use Rattle.solo_view.specs.Founds.{FoundAlone}
use Rattle.solo_view.specs.Held.{is_known}
use Rattle.solo_view.specs.Steps.{Step}
use Rattle.solo_view.specs.Steps.Step.{Load, Store, Or, And, Flush, Drain}
use Rattle.solo_view.specs.View.{View}
use Rattle.solo_view.specs.Views.{after, after_all}
use Rattle.solo_world.specs.Lawful.{Allowed}

-- steps, as a function of the view before them
abbrev pub Sequence : Type 0
Sequence = View → List Step

unfoldable pub nothing : Sequence
nothing v = []

unfoldable pub one : Step → Sequence
one s v = s ∷ []

-- the first sequence, and then the second
unfoldable pub in_turn : Sequence → Sequence → Sequence
in_turn first second v = first v ++ second (after_all v (first v))

-- so many sequences in turn: those of 0, 1 and so on
unfoldable pub counted : (ℕ → Sequence) → ℕ → Sequence
counted steps zero = nothing
counted steps (suc n) = in_turn (counted steps n) (steps n)

-- a sequence that is chosen by the view before it
unfoldable pub by_view : (View → Sequence) → Sequence
by_view steps v = steps v v

-- a load of a word that the view knows
unfoldable pub looks : ℕ → Sequence
looks w v = Load w (slice_index v.words w) ∷ []

-- a sequence that is chosen by the lane's number
unfoldable pub by_lane : (ℕ → Sequence) → Sequence
by_lane steps = by_view (λ v. steps v.lane)

-- a load of a word that the view knows, and what its value chooses
unfoldable pub with_word : ℕ → (ℕ → Sequence) → Sequence
with_word w steps = by_view (λ v. in_turn (looks w) (steps (slice_index v.words w)))

-- a flush of each line with an unflushed change, rising
unfoldable pub flushes : Sequence
flushes v = map Flush (unflushed_lines v.changes)

-- a drain, where anything is undrained
unfoldable pub drains : Sequence
drains v = if length v.changes == 0 then [] else Drain ∷ []

-- all that is undrained is made persistent
unfoldable pub settles : Sequence
settles = in_turn flushes drains

-- room for one more change: nothing, or all is made persistent where so many are undrained as may be
unfoldable pub makes_room : Sequence
makes_room v = if nat_lt (length v.changes) max_changes then [] else settles v

-- a store, with room made for its change
unfoldable pub stores : ℕ → ℕ → Sequence
stores w x = in_turn makes_room (one (Store w x))

-- a step on a word, which finds there what the view knows
unfoldable pub finds_in : ℕ → (ℕ → Step) → Sequence
finds_in w step v = step (slice_index v.words w) ∷ []

-- these bits of a word that the view knows are set, with room made for the change
unfoldable pub ors : ℕ → ℕ → Sequence
ors w bits = in_turn makes_room (finds_in w (Or w bits))

-- and its others are cleared
unfoldable pub ands : ℕ → ℕ → Sequence
ands w bits = in_turn makes_room (finds_in w (And w bits))

-- what the step answers is known before: a load is of a word that the view knows, and finds that, and any other step finds what it does where
-- the lane is alone
abbrev pub IsForeseen : View → Step → Type 0
IsForeseen v (Load w found) = IsTrue (is_known v w) × (found ≡ slice_index v.words w)
IsForeseen v s = FoundAlone v s

-- the lane may make these steps, one after another, and knows what they answer
unfoldable pub Ready : View → List Step → Type 0
Ready v [] = Unit {0}
Ready v (s ∷ steps) = Allowed v s × IsForeseen v s × Ready (after v s) steps

-- the memory may be seen as a view from which the lane may make the sequence
unfoldable pub IsReady : (View → Type 0) → Sequence → Type 0
IsReady old steps = (v : View) × (old v × Ready v (steps v))

-- from each such view the sequence was made, or the first steps of it up to the stop
unfoldable pub Runs : {T : Type 0} → (View → Type 0) → (View → Type 0) → Sequence → Result T Stopped → Type 0
Runs old new steps result = (v : View) → old v → Ready v (steps v) → Ran new v (steps v) result

-- from each such view the whole sequence was made: of calls that never stop
abbrev pub IsMade : (View → Type 0) → (View → Type 0) → Sequence → Type 0
IsMade old new steps = Runs {T = Unit {0}} old new steps (Ok tt)

-- from each such view the first steps of the sequence were made, up to the lane's stop
abbrev pub IsStopped : (View → Type 0) → (View → Type 0) → Sequence → Type 0
IsStopped old new steps = (stopped : Stopped) × Runs {T = Unit {0}} old new steps (Err stopped)
