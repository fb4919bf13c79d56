-- A lane's undrained changes as a memory keeps them, the oldest first, and as the lane's view has
-- them, the latest first.
use Rattle.std.specs.Prelude.{◌≡◌, ℕ, ◌/◌, ◌<◌, ◌==◌, ◌&&◌, Bool, true, false, not, if◌then◌else◌, IsTrue, Any, List, [], ◌∷◌, ◌++◌, length, map, Option, Some, None}
use Rattle.std.specs.List.{filter, list_any}
use Rattle.pm_view.specs.declared.change.Change.{Change}
use Rattle.pm_view.specs.Changes.{Undrained, IsUndrained}
use Rattle.pm_view.specs.Counts.{max_changes}

-- the change is of a word of this line
abbrev pub lies_in : ℕ → Change → Bool
lies_in line c = c.word / 8 == line

-- what a flush of the line makes of a change, and of a lane's changes
abbrev pub change_flushed : ℕ → Change → Change
change_flushed line c = if lies_in line c then record c { flushed = true } else c

abbrev pub changes_flushed : ℕ → List Change → List Change
changes_flushed line changes = map (change_flushed line) changes

-- what a drain leaves of a lane's changes: those that no flush has marked
abbrev pub changes_drained : List Change → List Change
changes_drained changes = filter (λ (c : Change). not c.flushed) changes

-- the changes of one word, in their order
abbrev pub changes_of : ℕ → List Change → List Change
changes_of w changes = filter (λ (c : Change). c.word == w) changes

-- one more change has room
abbrev pub CanAdd : List Change → Type 0
CanAdd changes = length changes < max_changes

-- a flush of the line is not idle: it has an unflushed change; a drain is not idle: there is a
-- change
abbrev pub CanFlush : ℕ → List Change → Type 0
CanFlush line changes = Any (λ (c : Change). IsTrue (lies_in line c) × (c.flushed ≡ false)) changes

abbrev pub CanDrain : List Change → Type 0
CanDrain changes = 0 < length changes

-- the line has an unflushed change; it is the least that has, or there is none
abbrev pub has_unflushed : List Change → ℕ → Bool
has_unflushed changes line = list_any (λ (c : Change). lies_in line c && not c.flushed) changes

abbrev pub IsLeastUnflushed : List Change → Option ℕ → Type 0
IsLeastUnflushed changes None = (line : ℕ) → has_unflushed changes line ≡ false
IsLeastUnflushed changes (Some line) = (has_unflushed changes line ≡ true) × ((other : ℕ) → other < line → has_unflushed changes other ≡ false)

-- the memory's changes are the view's: the last of them is the view's first
abbrev pub AreUndrained : List Change → List Undrained → Type 0
AreUndrained changes [] = changes ≡ []
AreUndrained changes (u ∷ seen) = (before : List Change) × (c : Change) × (changes ≡ before ++ c ∷ []) × IsUndrained c u × AreUndrained before seen
