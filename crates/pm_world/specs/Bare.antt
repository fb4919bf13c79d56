-- A POOL WITHOUT OBJECTS: its words are 0 but for the lanes' generations, which are 1. Of its
-- occupancy words all bits of a page are taken, since the page is no run's, and none of a zone.
use Rattle.std.specs.Prelude.{◌≡◌, ◌≢◌, ℕ, ◌-◌, ◌/◌, ◌^◌, ◌<◌, ◌≤◌, List, length, slice_index}
use Rattle.pm_layout.specs.declared.shape.Shape.{Shape}
use Rattle.pm_layout.specs.Areas.{page_words, word_of_generation}
use Rattle.pm_layout.specs.Chunks.{words_of}
use Rattle.pm_view.specs.View.{Constants}
use Rattle.pm_world.specs.Memory.{Memory, RunWord, ZoneWord}
use Rattle.pm_world.specs.Opens.{IsStart, OpensIdle}
use Rattle.pm_world.specs.World.{Opening}

-- the words, where the generations of so many lanes are 1 yet
pub record AreBare (sh : Shape) (lanes : ℕ) (words : List ℕ) : Type 0 where
  pub size : length words ≡ words_of sh
  pub small : (w : ℕ) → slice_index words w < 2 ^ 64
  pub first : (lane : ℕ) → lane < lanes → slice_index words (word_of_generation sh lane) ≡ 1
  pub zero_ : (w : ℕ) → ((lane : ℕ) → lane < lanes → w ≢ word_of_generation sh lane)
      → slice_index words w ≡ 0

pub record IsBare (o : Opening) : Type 0 where
  pub some_lanes : 1 ≤ o.lanes
  pub most_lanes : o.lanes ≤ o.shape.lanes
  pub words : AreBare o.shape o.shape.lanes o.words

-- the occupancy words of pages and of zones
pub record IsUntaken (sh : Shape) (run zone : ℕ → ℕ) : Type 0 where
  pub full : (page : ℕ) → page < words_of sh / page_words → run page ≡ 2 ^ 64 - 1
  pub free : (n : ℕ) → zone n ≡ 0

-- SUCH WORDS OPEN A WORLD, in which each lane is at generation 1
abbrev pub BareOpens : Type 0
BareOpens = (o : Opening) (mem : Memory) (fixed : ℕ → Constants)
    → IsBare o → IsUntaken o.shape (λ p. mem (RunWord p)) (λ z. mem (ZoneWord z))
    → IsStart o mem fixed → OpensIdle o mem fixed (λ k. 1)
