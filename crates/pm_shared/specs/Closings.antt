-- WHAT IS KNOWN AT THE END: the words are those of a world, to which the lanes' steps led from the
-- moment in which they began, and each lane that came back has its view in it.
use Rattle.std.specs.Prelude.{◌≡◌, ℕ, ◌<◌, List, length, slice_index}
use mathlib.Core.Option.{some}
use lib.ListN.{get_elem?}
use Rattle.pm_layout.specs.Chunks.{words_of}
use Rattle.pm_view.specs.View.{View}
use Rattle.pm_world.specs.Memory.{PoolWord}
use Rattle.pm_world.specs.Runs.{IsWorld, Moment}
use Rattle.pm_shared.specs.declared.rule.Beginning.{Beginning}
use Rattle.pm_shared.specs.Openings.{idle_view, opening_of}
use Rattle.pm_shared.specs.TableRun.{HasRun}

-- A TABLE THAT BEGAN SO CLOSED with these words, and with the views of the lanes that came back
pub record Closes (b : Beginning) (back : List View) (words : List ℕ) : Type 0 where
  pub last : Moment
  pub world : IsWorld (opening_of b) last
  pub run : HasRun (opening_of b) (idle_view b) last
  pub size : length words ≡ words_of b.shape
  pub words_are : (w : ℕ) → w < words_of b.shape → slice_index words w ≡ last.mem (PoolWord w)
  pub lanes : (n : ℕ) (v : View) → get_elem? back n ≡ some v
      → (v.fixed.lane < b.lanes) × (last.views v.fixed.lane ≡ v)
