-- Where a call begins, and where it cannot, since no generation or no number is left.
use Rattle.std.specs.Prelude.{◌≡◌, ◌⊎◌, ℕ, ◌≤◌}
use Rattle.solo_view.specs.View.{View}
use Rattle.solo_view.specs.Views.{after_all}
use Rattle.solo_world.specs.Lawful.{generation_limit}
use Rattle.solo_world.specs.Records.{generation_of}
use Rattle.solo_world.specs.Sequences.{Sequence, Ready}
use Rattle.solo_world.specs.declared.lane.Lane.{Lane}
use Rattle.solo_lock.specs.Begun.{IsBegun}
use Rattle.solo_lock.specs.Leading.{DrawEnded}
use Rattle.solo_lock.specs.Resting.{IsAtRest}
use Rattle.solo_tx.specs.Sequences.{sees_generation, starts}

-- the steps were made, without a draw, and the call has begun
pub record IsBegunBy {M : Type 0} (at : M → View → Type 0) (lane : Lane M) (v : View) (steps : Sequence) : Type 0 where
  pub ready : Ready v (steps v)
  pub draws : DrawEnded v (steps v)
  pub begun : IsBegun at lane (after_all v (steps v))
  pub entries : (after_all v (steps v)).entries ≡ v.entries

-- the steps were made, without a draw, and the lane rests
pub record RestsBehind {M : Type 0} (at : M → View → Type 0) (lane : Lane M) (v : View) (steps : Sequence) : Type 0 where
  pub ready : Ready v (steps v)
  pub draws : DrawEnded v (steps v)
  pub rests : IsAtRest at lane (after_all v (steps v))

-- no generation is left to the lane, or no number, as it saw
abbrev pub IsSpent : {M : Type 0} → (M → View → Type 0) → Lane M → View → Type 0
IsSpent at lane v = ((generation_limit ≤ generation_of v) × RestsBehind at lane v sees_generation) ⊎ ((n : ℕ) × ((generation_limit ≤ n) × RestsBehind at lane v (starts n)))
