-- Loads of words that a lane may not know yet, whatever is found in them.
use Rattle.std.specs.Prelude.{◌≡◌, ℕ, zero, suc, ◌+◌, ◌<◌, length}
use Rattle.solo_view.specs.Founds.{FindsKnown, FoundAlone}
use Rattle.solo_view.specs.Steps.Step.{Load}
use Rattle.solo_view.specs.View.{View}
use Rattle.solo_view.specs.Views.{after}
use Rattle.solo_world.specs.Opening.{Opening}
use Rattle.solo_world.specs.declared.lane.Lane.{Lane}
use Rattle.solo_tx.specs.AtWork.{IsAtWork}

-- what a load finds: what the view has, where it knows the word or the lane is alone
abbrev pub Finds : View → ℕ → ℕ → Type 0
Finds v word x = FindsKnown v word x × FoundAlone v (Load word x)

-- the view after loads of so many words from the first on, in rising place, each with what it found
unfoldable pub Learns : ℕ → ℕ → View → View → Type 0
Learns first zero v w = w ≡ v
Learns first (suc n) v w = (m : View) × (x : ℕ) × Learns first n v m × Finds m (first + n) x × (w ≡ after m (Load (first + n) x))

-- the view after so many loads, each of a word of the pool, with what it found: none is of a word that tells of what is under a lock
unfoldable pub Looks : ℕ → View → View → Type 0
Looks zero v w = w ≡ v
Looks (suc n) v w = (m : View) × (word : ℕ) × (x : ℕ) × Looks n v m × (word < length m.words) × Finds m word x × (w ≡ after m (Load word x)) × (w.locks ≡ m.locks)

-- from the view before, the lane looked at some words at most, is at work still, and this holds of its view
pub record HasChecked {M : Type 0} (o : Opening) (at : M → View → Type 0) (lane : Lane M) (v : View) (Q : View → Type 0) : Type 0 where
  pub loads : ℕ
  pub view : View
  pub looks : Looks loads v view
  pub works : IsAtWork o at lane view
  pub holds : Q view
