-- EACH RUN THAT A DESCRIPTOR TELLS OF is one of some class: as a world opens, and after every step.
use Rattle.std.specs.Prelude.{◌≡◌, ℕ, ◌/◌, ◌<◌, true, List, slice_index, None}
use Rattle.pm_layout.specs.Chunks.{chunks_of, word_of_descriptor}
use Rattle.pm_layout.specs.Sizes.{blocks_of}
use Rattle.pm_image.specs.HeapFaults.{heap_fault}
use Rattle.pm_view.specs.Claims.{is_run}
use Rattle.pm_view.specs.Steps.{Step}
use Rattle.pm_world.specs.Lawful.{IsLawful}
use Rattle.pm_world.specs.Memory.{Memory, PoolWord}
use Rattle.pm_world.specs.Moves.{Moves}
use Rattle.pm_world.specs.Runs.{IsRun, IsWorld, LaneStep, Moment}
use Rattle.pm_world.specs.World.{Opening, Views, Past, World}

-- in these words a descriptor that tells of a run tells of one that has blocks
abbrev pub HasClasses : Opening → (ℕ → ℕ) → Type 0
HasClasses o words = (c : ℕ) → c < chunks_of o.shape
    → is_run (words (word_of_descriptor o.shape c)) ≡ true
    → 0 < blocks_of (words (word_of_descriptor o.shape c) / 256)

abbrev pub MemoryHasClasses : Opening → Memory → Type 0
MemoryHasClasses o mem = HasClasses o (λ w. mem (PoolWord w))

abbrev pub ClassesBegin : Type 0
ClassesBegin = (o : Opening) (mem : Memory)
    → heap_fault (slice_index o.words) o.shape.lanes o.shape.zones ≡ None
    → ((w : ℕ) → mem (PoolWord w) ≡ slice_index o.words w) → MemoryHasClasses o mem

abbrev pub KeepsClasses : Step → Type 0
KeepsClasses s = (o : Opening) (old mem : Memory) (views : Views) (g : Past) (k : ℕ)
    → World o old views g → k < o.lanes → IsLawful (views k) s → Moves k s old mem
    → MemoryHasClasses o old → MemoryHasClasses o mem

abbrev pub RunsKeepClasses : Type 0
RunsKeepClasses = (o : Opening) (turns : List LaneStep) (old new : Moment) → IsWorld o old
    → IsRun o old turns new → MemoryHasClasses o old.mem → MemoryHasClasses o new.mem
