-- What a step tells that a lane's view knows before.
use Rattle.std.specs.Prelude.{◌≡◌, ℕ, ◌^◌, ◌<◌, ◌≤◌, ◌↔◌, Bool, true, IsTrue, IfSome, All, bit_and, length}
use Rattle.pm_view.specs.Claims.{known}
use Rattle.pm_view.specs.Log.{Log}
use Rattle.pm_view.specs.Steps.{Step}
use Rattle.pm_view.specs.Steps.Step.{Load, Or, And, TakeWrite, TakeRead, Raise, ZoneTry, Occupied, Occupy, Draw, NumberSeen}
use Rattle.pm_view.specs.View.{View, Numbered, runs_one}
use Rattle.pm_view.specs.Views.{occupancy_of}

-- the value that the lane knows of a word
abbrev pub knows : View → ℕ → Rattle.std.specs.Prelude.Option ℕ
knows v w = known v.fixed.shape (runs_one v) v.claims w

-- a word that the view knows has the value that the view has
abbrev pub FindsKnown : View → ℕ → ℕ → Type 0
FindsKnown v w found = IfSome (knows v w) (λ x. found ≡ x)

-- where one lane runs, a lock that it does not hold is free, and bits are got exactly where they are clear
abbrev pub IsWonAlone : View → Bool → Type 0
IsWonAlone v won = IsTrue (runs_one v) → IsTrue won

-- what the step's reply says of the view before it: words that it knows have their values, and a lane's numbers rise, and are far below 2^64; where one lane runs, what
-- it finds is as it left it
abbrev pub Found : View → Step → Type 0
Found v (Load w found) = FindsKnown v w found
Found v (Or w bits found) = FindsKnown v w found
Found v (And w bits found) = FindsKnown v w found
Found v (TakeWrite line won) = IsWonAlone v won
Found v (TakeRead line won) = IsWonAlone v won
Found v (Raise line won) = IsWonAlone v won
Found v (ZoneTry zone won) = IsWonAlone v won
Found v (Occupied at found) = IsTrue (runs_one v) → IfSome (occupancy_of v.occupancy at) (λ x. found ≡ x)
Found v (Occupy at bits won) = IsTrue (runs_one v) → IfSome (occupancy_of v.occupancy at) (λ x. IsTrue won ↔ (bit_and x bits ≡ 0))
Found v (Draw n) = All (λ (e : Numbered). e.number ≤ n) v.entries × (IsTrue (runs_one v) → n ≡ length v.entries) × (n < 2 ^ 63)
Found v (NumberSeen n) = All (λ (e : Numbered). e.number ≤ n) v.entries × (IsTrue (runs_one v) → n ≡ length v.entries)
Found v s = Unit {0}
