-- A choice while it is made, pair by pair: for the crate's own functions.
use Rattle.std.specs.Prelude.{◌≡◌, ℕ, ◌+◌, ◌<◌, ◌==◌, if◌then◌else◌, List, length, slice_index}
use Rattle.pm_view.specs.declared.change.Change.{Change}
use Rattle.pm_memory.specs.Changes.{changes_of}
use Rattle.pm_memory.specs.declared.survivors.Kept.{Kept}
use Rattle.pm_memory.specs.declared.survivors.Kept.TheVariants.{Nothing, Everything, Drawn}
use Rattle.pm_memory.specs.Survivors.{survivor}
use Rattle.pm_memory.specs.Keep.{nth_number, kept_of, touched_below}

-- what is kept after so many pairs
abbrev pub kept_after : ℕ → ℕ → Kept
kept_after keep draws = if keep == 0 then Nothing else if keep == 1 then Everything else Drawn (nth_number keep draws)

-- how many of the lane's changes of the word are kept, where so many pairs come before the lane's
abbrev pub kept_by : ℕ → ℕ → List Change → ℕ → ℕ
kept_by keep draws changes w = kept_of keep (draws + touched_below w changes) (length (changes_of w changes))

-- in these words a lane's changes were taken back, where so many pairs come before the lane's
pub record IsTakenBack (keep draws : ℕ) (changes : List Change) (words left : List ℕ) : Type 0 where
  pub size : length left ≡ length words
  pub each : (w : ℕ) → w < length words → slice_index left w ≡ survivor (kept_by keep draws changes w) changes w (slice_index words w)
