-- WHICH OPEN CALLS AN IMAGE KEEPS, lane by lane: a flag each.
use Rattle.std.specs.Prelude.{◌≡◌, ℕ, ◌<◌, ◌==◌, ◌||◌, not, Bool, false, List, [], length}
use Rattle.std.specs.Prelude.{slice_index, slice_index_or}
use Rattle.pm_crash.specs.Fates.{drained_value, is_judged_kept}
use Rattle.pm_layout.specs.Areas.{word_of_generation, word_of_seal}
use Rattle.pm_layout.specs.declared.shape.Shape.{Shape}
use Rattle.pm_view.specs.declared.change.Change.{Change}
use Rattle.pm_run.specs.declared.fates.DrainedLog.{DrainedLog}

-- OF EACH LANE the flag says whether the image keeps its open call
pub record AreJudged (sh : Shape) (words : List ℕ) (undrained : List (List Change))
    (image : List ℕ) (flags : List Bool) : Type 0 where
  pub count : length flags ≡ length undrained
  pub each : (k : ℕ) → k < length undrained → slice_index_or flags k false
      ≡ is_judged_kept sh words (slice_index_or undrained k []) image k

-- ---- ON THE WAY: the drained seals and generations, which are noted before the words are lost

abbrev pub IsDrained : Shape → List ℕ → List Change → ℕ → DrainedLog → Type 0
IsDrained sh words changes lane log =
    (log.seal ≡ drained_value words changes (word_of_seal sh lane))
    × (log.generation ≡ drained_value words changes (word_of_generation sh lane))

-- lane k's log is the k-th
pub record AreDrained (sh : Shape) (words : List ℕ) (undrained : List (List Change))
    (logs : List DrainedLog) : Type 0 where
  pub count : length logs ≡ length undrained
  pub each : (k : ℕ) (log : DrainedLog) → k < length logs
      → IsDrained sh words (slice_index_or undrained k []) k (slice_index_or logs k log)

-- an image keeps the open call of the lane with this log
abbrev pub keeps_open : Shape → DrainedLog → List ℕ → ℕ → Bool
keeps_open sh log image lane = not (log.seal == 0)
    || not (slice_index image (word_of_seal sh lane) == 0)
    || not (slice_index image (word_of_generation sh lane) == log.generation)

pub record AreTold (sh : Shape) (logs : List DrainedLog) (image : List ℕ) (flags : List Bool)
    : Type 0 where
  pub count : length flags ≡ length logs
  pub each : (k : ℕ) (flag : Bool) (log : DrainedLog) → k < length flags
      → slice_index_or flags k flag ≡ keeps_open sh (slice_index_or logs k log) image k
