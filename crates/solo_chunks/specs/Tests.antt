-- What the tests speak of.
use Rattle.std.specs.Prelude.{◌≡◌, ℕ, false, [], slice_index}
use Rattle.pm_layout.specs.declared.shape.Shape.{Shape}
use Rattle.solo_memory.specs.Solo.{Sees, Solo}
use Rattle.solo_view.specs.Blocks.{descriptor_word, is_run}
use Rattle.solo_view.specs.Founds.{IsAlone}
use Rattle.solo_view.specs.Log.{no_log}
use Rattle.solo_view.specs.Log.Phase.{Idle}
use Rattle.solo_view.specs.View.{View}
use Rattle.solo_chunks.specs.Chunks.{MaySearch}

-- a lane alone, with nothing undrained and no call, may search a pool that has no run
pub record Rests (memory : Solo) (shape : Shape) : Type 0 where
  pub view : View
  pub sees : Sees memory view
  pub may : MaySearch view shape
  pub drained : view.changes ≡ []
  pub log : view.log ≡ no_log Idle
  pub alone : IsAlone view
  pub no_run : (page : ℕ) → is_run (slice_index view.words (descriptor_word view.lanes page)) ≡ false
