-- PLANS: the exact memory calls of an operation, as a function of the lane's view before them (docs/FORMAT.md, "Sequences").
use Rattle.std.specs.Prelude.{◌≡◌, ◌⊎◌, ◌≤◌, ℕ, zero, suc, ◌+◌, ◌==◌, nat_lt, if◌then◌else◌, List, [], ◌∷◌, ◌++◌, length, map, slice_index, Some, unwrap_or, Result, Ok, Err}
use Rattle.pm_memory.specs.Runs.{Ran}
use Rattle.pm_memory.specs.declared.lane_mem.Stopped.{Stopped}
use Rattle.pm_view.specs.Changes.{Undrained}
use Rattle.pm_view.specs.Claims.{Claim, Drained}
use Rattle.pm_view.specs.Counts.{HasRoom, max_changes, unflushed_lines}
use Rattle.pm_view.specs.Founds.{knows}
use Rattle.pm_view.specs.Log.{Log}
use Rattle.pm_view.specs.Steps.{Step}
use Rattle.pm_view.specs.Steps.Step.{Load, Store, Or, And, Flush, Drain}
use Rattle.pm_view.specs.View.{View}
use Rattle.pm_view.specs.Views.{after, after_all, claims_drained, log_left}
use Rattle.pm_world.specs.Lawful.{Allowed}

abbrev pub Plan : Type 0
Plan = View → List Step

-- ---- how plans are put together

unfoldable pub nothing : Plan
nothing v = []

unfoldable pub one : Step → Plan
one s v = s ∷ []

-- the first plan, and then the second
unfoldable pub in_turn : Plan → Plan → Plan
in_turn first second v = first v ++ second (after_all v (first v))

-- so many plans in turn: those of 0, 1 and so on
unfoldable pub repeated : (ℕ → Plan) → ℕ → Plan
repeated plans zero = nothing
repeated plans (suc n) = in_turn (repeated plans n) (plans n)

-- a plan that is chosen by the view before it
unfoldable pub by_view : (View → Plan) → Plan
by_view choose v = choose v v

-- ---- loads of known words

-- the value that the lane knows of a word; 0 where it knows none
abbrev pub known_word : View → ℕ → ℕ
known_word v w = unwrap_or (knows v w) 0

unfoldable pub looks : ℕ → Plan
looks w v = Load w (known_word v w) ∷ []

-- ---- stores, and what makes them persistent

-- a flush of each line with an unflushed change, rising
unfoldable pub flushes : Plan
flushes v = map Flush (unflushed_lines v.changes)

-- a drain, where anything is undrained
unfoldable pub drains : Plan
drains v = if length v.changes == 0 then [] else Drain ∷ []

-- all that is undrained is flushed and drained
unfoldable pub persists_all : Plan
persists_all = in_turn flushes drains

-- a line is flushed, and drained
unfoldable pub persists : ℕ → Plan
persists line = in_turn (one (Flush line)) (one Drain)

-- room for one more change: nothing, or all is flushed and drained where so many are undrained as may be
unfoldable pub makes_room : Plan
makes_room v = if nat_lt (length v.changes) max_changes then [] else persists_all v

-- a store, with room made for its change
unfoldable pub stores : ℕ → ℕ → Plan
stores w x = in_turn makes_room (one (Store w x))

-- stores of consecutive words
unfoldable pub stores_from : ℕ → List ℕ → Plan
stores_from word values = repeated (λ i. stores (word + i) (slice_index values i)) (length values)

-- an OR or an AND of a word, with room made for its change: for what is found in the word
unfoldable pub ors : ℕ → ℕ → ℕ → Plan
ors w bits found = in_turn makes_room (one (Or w bits found))

unfoldable pub ands : ℕ → ℕ → ℕ → Plan
ands w bits found = in_turn makes_room (one (And w bits found))

-- what a lane's claims and its log become once these changes, if there are any, are drained
abbrev pub claims_persisted : List Undrained → Log → List Claim → List Claim
claims_persisted [] log claims = claims
claims_persisted (c ∷ changes) log claims = claims_drained [] log (Drained [] ∷ claims)

abbrev pub log_persisted : List Undrained → Log → Log
log_persisted [] log = log
log_persisted (c ∷ changes) log = log_left [] log

-- ALL IS PERSISTENT: nothing is undrained, the log goes on, and calls are counted
abbrev pub IsPersisted : View → View → Type 0
IsPersisted v w = w ≡ record v { claims = claims_persisted v.changes v.log v.claims; changes = []; calls = w.calls; log = log_persisted v.changes v.log }

-- one more change has room: nothing was done for it, or all was made persistent
abbrev pub HasMadeRoom : View → View → Type 0
HasMadeRoom v w = HasRoom w.changes × ((w ≡ v) ⊎ ((max_changes ≤ length v.changes) × IsPersisted v w))

-- ---- what a lane may do, and what it did

-- what a load finds is known before; what else a step is answered is its plan's to say
abbrev pub IsForeseen : View → Step → Type 0
IsForeseen v (Load w found) = knows v w ≡ Some found
IsForeseen v s = Unit {0}

-- THE LANE MAY MAKE THESE STEPS, one after another, and knows what its loads find
unfoldable pub Ready : View → List Step → Type 0
Ready v [] = Unit {0}
Ready v (s ∷ steps) = Allowed v s × IsForeseen v s × Ready (after v s) steps

-- the memory may be seen as a view from which the lane may carry out the plan
unfoldable pub IsReady : (View → Type 0) → Plan → Type 0
IsReady old plan = (v : View) × (old v × Ready v (plan v))

-- FROM EACH SUCH VIEW THE PLAN WAS CARRIED OUT, or the first steps of it up to the lane's stop
unfoldable pub Runs : {T : Type 0} → (View → Type 0) → (View → Type 0) → Plan → Result T Stopped → Type 0
Runs old new plan result = (v : View) → old v → Ready v (plan v) → Ran new v (plan v) result

-- the whole of it was: of calls that never stop
abbrev pub IsMade : (View → Type 0) → (View → Type 0) → Plan → Type 0
IsMade old new plan = Runs {T = Unit {0}} old new plan (Ok tt)

-- the first steps of it were, up to the lane's stop
abbrev pub IsStopped : (View → Type 0) → (View → Type 0) → Plan → Type 0
IsStopped old new plan = (stopped : Stopped) × Runs {T = Unit {0}} old new plan (Err stopped)

-- A STEP WAS MADE THAT FINDS SOMETHING: its plan for what was found was carried out; or, whatever would
-- have been found, the first steps up to the lane's stop
abbrev pub RunsFinding : (View → Type 0) → (View → Type 0) → (ℕ → Plan) → Result ℕ Stopped → Type 0
RunsFinding old new plans (Ok found) = Runs {T = ℕ} old new (plans found) (Ok found)
RunsFinding old new plans (Err stopped) = (found : ℕ) → Runs {T = ℕ} old new (plans found) (Err stopped)

-- ---- plans by what each of their ORs and ANDs finds: a function of its number

-- such a plan may be carried out, whatever is found
unfoldable pub IsReadyFor : (View → Type 0) → ((ℕ → ℕ) → Plan) → Type 0
IsReadyFor old plans = (found : ℕ → ℕ) → IsReady old (plans found)

-- for what was found it was carried out, or the first steps of it up to the lane's stop
unfoldable pub RunsFor : {T : Type 0} → (View → Type 0) → (View → Type 0) → ((ℕ → ℕ) → Plan)
    → Result T Stopped → Type 0
RunsFor old new plans result = (found : ℕ → ℕ) × Runs old new (plans found) result
