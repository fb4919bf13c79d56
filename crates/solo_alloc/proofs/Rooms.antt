-- A block for a new object, in a view that has reserved it.
use Rattle.std.proofs.Common.{◌≡◌, ℕ, Bool, ◌+◌, ◌*◌, ◌/◌, ◌<◌, ◌≤◌, true, false, slice_index, arith}
use Rattle.std.proofs.lemmas.Bool.{false_from_ne_true}
use Rattle.pm_image.specs.declared.block.Block.{Block}
use Rattle.pm_layout.specs.declared.shape.Shape.{Shape}
use Rattle.solo_view.specs.Blocks.{chunk_of, describes}
use Rattle.solo_view.specs.Held.{is_reserved}
use Rattle.solo_view.specs.View.{View}
use Rattle.solo_world.proofs.HeapWords.{described}
use Rattle.solo_fresh.specs.Filled.{HasWholePool}
use Rattle.solo_fresh.specs.Made.{touches}
use Rattle.solo_blocks.specs.NewRuns.{MayMakeRun}
use Rattle.solo_alloc.specs.NewObjects.{ArePictured, IsOfNewRun}

-- the lane may make the block a new object, which it reserved since the first view; no word changed but of a new run
pub record IsRoom (v x : View) (shape : Shape) (block : Block) : Type 0 where
  pub may : MayMakeRun x shape
  pub pool : HasWholePool x
  pub pictured : ArePictured x
  pub some : 1 ≤ block.lines
  pub fresh : (u : ℕ) → 8 * (block.place / 64) ≤ u → u < 8 * (block.place / 64 + block.lines) → is_reserved v u ≡ true → ⊥
  pub own : (u : ℕ) → 8 * (block.place / 64) ≤ u → u < 8 * (block.place / 64 + block.lines) → (is_reserved x u ≡ true) × (describes x.lanes u ≡ false)
  pub beside : (p : ℕ → Bool) → touches p v.changes ≡ false → touches p x.changes ≡ false
  pub others : (u : ℕ) → (IsOfNewRun v block u → ⊥) → slice_index x.words u ≡ slice_index v.words u

-- a chunk's words describe none
pub plain_word : (lanes u : ℕ) → 1 ≤ chunk_of lanes (u / 512) → describes lanes u ≡ false
plain_word lanes u some = false_from_ne_true (describes lanes u) (λ e. let first = (described lanes u e).first in absurd (omega (arith, first, some)))
