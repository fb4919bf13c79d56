-- What a call does to the outside of a program: to the named bytes of a shelf, and to the bytes of
-- a sink. A shelf or a sink that tells nothing of what it holds is seen as `None`.
use Rattle.std.specs.Prelude.{◌≡◌, ◌≢◌, ◌⊎◌, ℕ, ◌+◌, ◌^◌, ◌<◌, ◌≤◌, List, ◌++◌, length, take, Option, None, Some, IsSome, option_map}

-- what is held: for each name its bytes, or none where the name is not there
abbrev pub Held : Type 0
Held = List ℕ → Option (List ℕ)

-- a count of faults rose, or stands at the end of its type
abbrev pub Rose : ℕ → ℕ → Type 0
Rose old new = (old < new) ⊎ (2 ^ 64 ≤ new + 1)

-- these are all bytes of the name, and no more than the limit
abbrev pub IsWhole : Option Held → List ℕ → ℕ → List ℕ → Type 0
IsWhole None name limit bytes = length bytes ≤ limit
IsWhole (Some held) name limit bytes = (held name ≡ Some bytes) × (length bytes ≤ limit)

-- the name has more bytes than the limit, and these are its first, one more than the limit
abbrev pub IsFront : Option Held → List ℕ → ℕ → List ℕ → Type 0
IsFront None name limit bytes = length bytes ≡ limit + 1
IsFront (Some held) name limit bytes =
    (all : List ℕ) × (held name ≡ Some all) × (limit < length all) × (bytes ≡ take (limit + 1) all)

-- the shelf tells that the name is not there
abbrev pub IsMissing : Option Held → List ℕ → Type 0
IsMissing None name = ⊥
IsMissing (Some held) name = held name ≡ None

-- the shelf tells that the name is there
abbrev pub IsThere : Option Held → List ℕ → Type 0
IsThere None name = ⊥
IsThere (Some held) name = IsSome (held name)

-- the name was not there and has these bytes now, and every other name is as it was
pub record AddsName (old new : Held) (name bytes : List ℕ) : Type 0 where
  pub absent : old name ≡ None
  pub added : new name ≡ Some bytes
  pub others : (other : List ℕ) → other ≢ name → new other ≡ old other

-- the same, where the shelf tells what it holds
abbrev pub Adds : Option Held → Option Held → List ℕ → List ℕ → Type 0
Adds None None name bytes = Unit {0}
Adds None (Some new) name bytes = ⊥
Adds (Some old) None name bytes = ⊥
Adds (Some old) (Some new) name bytes = AddsName old new name bytes

-- the name is as it was, or it is new and has a front of these bytes; every other name is as it was
pub record MayAddPartOfName (old new : Held) (name bytes : List ℕ) : Type 0 where
  pub part : (new name ≡ old name) ⊎
      ((old name ≡ None) × ((k : ℕ) × (new name ≡ Some (take k bytes))))
  pub others : (other : List ℕ) → other ≢ name → new other ≡ old other

-- the same, where the shelf tells what it holds
abbrev pub MayAddPart : Option Held → Option Held → List ℕ → List ℕ → Type 0
MayAddPart None None name bytes = Unit {0}
MayAddPart None (Some new) name bytes = ⊥
MayAddPart (Some old) None name bytes = ⊥
MayAddPart (Some old) (Some new) name bytes = MayAddPartOfName old new name bytes

-- what is told after these bytes were put
abbrev pub gained : Option (List ℕ) → List ℕ → Option (List ℕ)
gained told bytes = option_map (λ held. held ++ bytes) told

-- a front of these bytes was put
abbrev pub GainedPart : Option (List ℕ) → Option (List ℕ) → List ℕ → Type 0
GainedPart old new bytes = (n : ℕ) × (new ≡ gained old (take n bytes))
