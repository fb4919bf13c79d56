-- Recovery while it is made: for the crate's own functions.
use Rattle.std.specs.Prelude.{◌≡◌, ℕ, ◌/◌, ◌==◌, List, [], ◌∷◌, length, Option}
use Rattle.std.specs.List.{list_any}
use Rattle.pm_record.specs.declared.redo.Redo.{Redo}
use Rattle.pm_view.specs.declared.change.Change.{Change}
use Rattle.pm_memory.specs.Changes.{has_unflushed}
use Rattle.pm_memory.specs.Keep.{IsKeptImage}
use Rattle.pm_memory.specs.Solo.{Solo, opened}
use Rattle.pm_reopen.specs.declared.end.RecoverEnd.{RecoverEnd}
use Rattle.pm_reopen.specs.declared.end.RecoverEnd.TheVariants.{Whole, Stopped}
use Rattle.pm_reopen.specs.Plan.{plan}
use Rattle.pm_reopen.specs.Running.{Makes, Halts}

-- the changes are those of these entries, and no line of theirs was flushed
pub record AreUnflushed (es : List Redo) (changes : List Change) : Type 0 where
  pub as_many : length changes ≡ length es
  pub lines : (line : ℕ) → has_unflushed changes line ≡ list_any (λ (e : Redo). e.place / 64 == line) es

-- the memory of the image made the whole plan, and all is persistent; or the first calls of it
abbrev pub Ran : List ℕ → ℕ → Option ℕ → Solo → RecoverEnd → Type 0
Ran image lanes stop m (Whole calls) = Makes (opened image stop) m (plan image lanes) × (calls ≡ m.calls) × (m.changes ≡ [])
Ran image lanes stop m (Stopped calls) = Halts (opened image stop) m (plan image lanes) × (calls ≡ m.calls)

-- and this is what a power failure then left of it
pub record Leaves (image : List ℕ) (lanes : ℕ) (stop : Option ℕ) (keep : ℕ) (end : RecoverEnd) (left : List ℕ) : Type 0 where
  pub memory : Solo
  pub ran : Ran image lanes stop memory end
  pub is : IsKeptImage keep memory.words (memory.changes ∷ []) left
