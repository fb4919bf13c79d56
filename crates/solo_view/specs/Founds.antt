-- What a step tells that a lane's view knows before.
use Rattle.std.specs.Prelude.{◌≡◌, ℕ, ◌<◌, ◌≤◌, ◌↔◌, IsTrue, All, [], bit_and, length, slice_index}
use Rattle.solo_view.specs.Held.{is_known}
use Rattle.solo_view.specs.Steps.{Step}
use Rattle.solo_view.specs.Steps.Step.{Load, Or, And, TakeWrite, TakeRead, Raise, ZoneTry, Occupied, Occupy, Draw, NumberSeen}
use Rattle.solo_view.specs.View.{View, Numbered}
use Rattle.solo_view.specs.Views.{occ_in}

-- a word that the view knows has the value that the view has
abbrev pub FindsKnown : View → ℕ → ℕ → Type 0
FindsKnown v w found = IsTrue (is_known v w) → found ≡ slice_index v.words w

-- what the step's reply says of the view before it: words that it knows have its values, and a lane's numbers rise
abbrev pub Found : View → Step → Type 0
Found v (Load w found) = FindsKnown v w found
Found v (Or w bits found) = FindsKnown v w found
Found v (And w bits found) = FindsKnown v w found
Found v (Draw n) = All (λ (e : Numbered). e.number < n) v.entries
Found v (NumberSeen n) = All (λ (e : Numbered). e.number ≤ n) v.entries
Found v s = Unit {0}

-- the lane shares its words with no other: it is of no table
abbrev pub IsAlone : View → Type 0
IsAlone v = v.table ≡ []

-- what the step's reply says where the lane is alone: each word is as its view has it, an occupancy word too, no lock is refused, bits
-- are got exactly where all of them are clear, and the numbers drawn are its own
abbrev pub FoundAlone : View → Step → Type 0
FoundAlone v (Load w found) = IsAlone v → found ≡ slice_index v.words w
FoundAlone v (Or w bits found) = IsAlone v → found ≡ slice_index v.words w
FoundAlone v (And w bits found) = IsAlone v → found ≡ slice_index v.words w
FoundAlone v (TakeWrite line won) = IsAlone v → IsTrue won
FoundAlone v (TakeRead line won) = IsAlone v → IsTrue won
FoundAlone v (Raise line won) = IsAlone v → IsTrue won
FoundAlone v (ZoneTry zone won) = IsAlone v → IsTrue won
FoundAlone v (Occupied at found) = IsAlone v → found ≡ occ_in v at
FoundAlone v (Occupy at bits won) = IsAlone v → (IsTrue won ↔ (bit_and (occ_in v at) bits ≡ 0))
FoundAlone v (NumberSeen n) = IsAlone v → n ≡ length v.entries
FoundAlone v s = Unit {0}
