-- What a recovered word depends on.
use Rattle.std.specs.Prelude.{◌≡◌, ℕ, ◌+◌, ◌*◌, ◌<◌, ◌≤◌, List, length, slice_index}

-- two images agree at this word and in the areas of so many lanes
pub record AgreeFor (one other : List ℕ) (lanes word : ℕ) : Type 0 where
  pub long : 512 + 1024 * lanes ≤ length one
  pub as_long : 512 + 1024 * lanes ≤ length other
  pub here : slice_index one word ≡ slice_index other word
  pub areas : (i : ℕ) → 512 ≤ i → i < 512 + 1024 * lanes → slice_index one i ≡ slice_index other i
