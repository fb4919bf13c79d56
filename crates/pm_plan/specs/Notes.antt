-- WHAT A LANE HOLDS STAYS: claims that tell nothing new of blocks, and words past the lanes' areas.
use Rattle.std.specs.Prelude.{◌≡◌, ℕ, ◌*◌, ◌≤◌, false, List, [], ◌∷◌}
use Rattle.pm_layout.specs.declared.shape.Shape.{Shape}
use Rattle.pm_layout.specs.Chunks.{page_of_zone}
use Rattle.pm_view.specs.Changes.{Undrained}
use Rattle.pm_view.specs.Claims.{Claim, Knows, Drained, SawBitmap, class, making}
use Rattle.pm_view.specs.View.{View}

-- a word that is of no lane's area, nor before them
abbrev pub IsBeyond : Shape → ℕ → Type 0
IsBeyond sh w = 512 * page_of_zone sh 0 ≤ w

-- claims that tell nothing new of blocks
pub data Note : Type 0 where
  -- a word has this value
  Valued : ℕ → ℕ → Note
  -- a drain left these changes
  DrainedTo : List Undrained → Note
  -- the first word of a huge block's chunk was looked at
  Looked : ℕ → ℕ → Note

abbrev pub claim_of : Note → Claim
claim_of (Valued w x) = Knows w x
claim_of (DrainedTo left) = Drained left
claim_of (Looked c x) = SawBitmap c x

abbrev pub noted : List Note → List Claim → List Claim
noted [] t = t
noted (n ∷ notes) t = claim_of n ∷ noted notes t

-- a drain makes no run, and what was looked at is no run
abbrev pub IsNote : Shape → List Claim → Note → Type 0
IsNote sh t (Valued w x) = Unit {0}
IsNote sh t (DrainedTo left) = (c : ℕ) → making sh t c ≡ false
IsNote sh t (Looked c x) = class t c ≡ 0

abbrev pub AreNotes : Shape → List Claim → List Note → Type 0
AreNotes sh t [] = Unit {0}
AreNotes sh t (n ∷ notes) = IsNote sh (noted notes t) n × AreNotes sh t notes

-- THE LANE HOLDS WHAT IT HELD: its claims are those before, and such notes
pub record HasNoted (v w : View) : Type 0 where
  pub notes : List Note
  pub are : w.claims ≡ noted notes v.claims
  pub each : AreNotes v.fixed.shape v.claims notes
