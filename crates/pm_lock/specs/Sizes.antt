-- THE SIZE of an object that a lane found: the second word of its header's line.
use Rattle.std.specs.Prelude.{◌≡◌, ℕ, ◌+◌, ◌*◌, ◌<◌, true, ◌∷◌, Some}
use Rattle.pm_layout.specs.declared.shape.Shape.{Shape}
use Rattle.pm_view.specs.Claims.{Knows}
use Rattle.pm_view.specs.Founds.{knows}
use Rattle.pm_view.specs.Log.{is_early}
use Rattle.pm_view.specs.Steps.Step.{Load}
use Rattle.pm_view.specs.View.{View}
use Rattle.pm_view.specs.Views.{after}
use Rattle.pm_lock.specs.Objects.{StandsAt, is_chunk_line}

abbrev pub word_of_size : ℕ → ℕ
word_of_size line = 8 * line + 1

-- the lane found an object at the line, which is of a chunk of the pool, and its call has no
-- number yet
pub record CanSize (v : View) (sh : Shape) (line : ℕ) : Type 0 where
  pub shape : v.fixed.shape ≡ sh
  pub lane : v.fixed.lane < sh.lanes
  pub early : is_early v.log.phase ≡ true
  pub chunk : is_chunk_line sh line ≡ true
  pub stands : StandsAt v line

-- IT KNOWS THE SIZE: the view is as it was, but for the word
pub record KnowsSizeAt (at : View → Type 0) (v : View) (line x : ℕ) : Type 0 where
  pub memory : at (after v (Load (word_of_size line) x))
  pub same : after v (Load (word_of_size line) x)
      ≡ record v { claims = Knows (word_of_size line) x ∷ v.claims }
  pub known : knows (after v (Load (word_of_size line) x)) (word_of_size line) ≡ Some x
  pub stands : StandsAt (after v (Load (word_of_size line) x)) line

unfoldable pub Sized : {M : Type 0} → (M → View → Type 0) → Shape → ℕ → M → M → ℕ → Type 0
Sized at sh line old new x = (v : View) → at old v → CanSize v sh line
    → KnowsSizeAt (at new) v line x
