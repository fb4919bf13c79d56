-- Counted calls, the lane's stop number, and the bounds on undrained changes.
use Rattle.std.specs.Prelude.{◌≡◌, ℕ, ◌+◌, ◌/◌, ◌<◌, ◌≤◌, max, ◌&&◌, Bool, true, false, not, if◌then◌else◌, IsTrue, Any, List, [], ◌∷◌, length, Option, Some, None, IsSomeAnd}
use Rattle.std.specs.Option.{ForSome}
use Rattle.std.specs.List.{filter, list_any, range_with_len}
use Rattle.pm_view.specs.Changes.{Undrained, is_in_line}
use Rattle.pm_view.specs.Steps.{Step}
use Rattle.pm_view.specs.Steps.Step.{Store, Or, And, Flush, Drain}
use Rattle.pm_view.specs.View.{View}

-- the step is a counted call: a memory call other than a load
abbrev pub is_counted : Step → Bool
is_counted (Store w x) = true
is_counted (Or w bits found) = true
is_counted (And w bits found) = true
is_counted (Flush line) = true
is_counted Drain = true
is_counted s = false

-- the counted calls among these steps
unfoldable pub counted : List Step → ℕ
counted [] = 0
counted (s ∷ steps) = (if is_counted s then 1 else 0) + counted steps

-- the step is a store: of all bits of a word, or of some
abbrev pub is_store : Step → Bool
is_store (Store w x) = true
is_store (Or w bits found) = true
is_store (And w bits found) = true
is_store s = false

abbrev pub is_flush : Step → Bool
is_flush (Flush line) = true
is_flush s = false

abbrev pub is_drain : Step → Bool
is_drain Drain = true
is_drain s = false

-- how many of these steps are of a kind
unfoldable pub among : (Step → Bool) → List Step → ℕ
among kind [] = 0
among kind (s ∷ steps) = (if kind s then 1 else 0) + among kind steps

-- the lane may make one more counted call
abbrev pub MayCount : View → Type 0
MayCount v = ForSome v.fixed.stop (λ stop. length v.calls < stop)

-- the lane made as many counted calls as its stop number says
abbrev pub IsAtStop : View → Type 0
IsAtStop v = IsSomeAnd v.fixed.stop (λ stop. stop ≤ length v.calls)

-- so many changes of a lane may be undrained
abbrev pub max_changes : ℕ
max_changes = 512

-- one more change has room
abbrev pub HasRoom : List Undrained → Type 0
HasRoom changes = length changes < max_changes

-- a flush of the line is not idle: it has an unflushed change
abbrev pub FlushesSome : ℕ → List Undrained → Type 0
FlushesSome line changes = Any (λ (c : Undrained). IsTrue (is_in_line line c) × (c.flushed ≡ false)) changes

-- a drain is not idle: it makes a change persistent, which a flush has marked
abbrev pub DropsSome : List Undrained → Type 0
DropsSome changes = Any (λ (c : Undrained). c.flushed ≡ true) changes

-- the line has an unflushed change
abbrev pub is_unflushed : List Undrained → ℕ → Bool
is_unflushed changes line = list_any (λ (c : Undrained). is_in_line line c && not c.flushed) changes

-- one more than the greatest line of the changes; 0 where there are none
unfoldable pub lines_up_to : List Undrained → ℕ
lines_up_to [] = 0
lines_up_to (c ∷ changes) = max (c.word / 8 + 1) (lines_up_to changes)

-- the lines with an unflushed change, rising
unfoldable pub unflushed_lines : List Undrained → List ℕ
unflushed_lines changes = filter (is_unflushed changes) (range_with_len 0 (lines_up_to changes))

-- it is the least line with an unflushed change, or there is none
abbrev pub IsFirstUnflushed : List Undrained → Option ℕ → Type 0
IsFirstUnflushed changes None = (line : ℕ) → is_unflushed changes line ≡ false
IsFirstUnflushed changes (Some line) = (is_unflushed changes line ≡ true) × ((other : ℕ) → other < line → is_unflushed changes other ≡ false)
