-- Calls of which each reads and changes a few names of a state alone, in general. `content` reads a
-- state name by name.
use Rattle.std.specs.Prelude.{◌≡◌, Bool, true, false, List, [], ◌∷◌}

module _ {S N X E : Type 0} where
  -- the call changes only what it writes, and goes alike from each state that has the same
  -- contents where it touches one
  pub record IsFramed (content : S → N → X) (steps : S → E → S → Type 0)
      (writes touches : E → N → Bool) (a : E) : Type 0 where
    pub keeps : (s t : S) → steps s a t → (n : N) → writes a n ≡ false → content t n ≡ content s n
    pub local : (s t other : S) → steps s a t
        → ((n : N) → touches a n ≡ true → content other n ≡ content s n)
        → (next : S) × steps other a next
        × ((n : N) → writes a n ≡ true → content next n ≡ content t n)

module _ {N E : Type 0} where
  -- neither call writes what the other touches
  pub record AreApart (writes touches : E → N → Bool) (a b : E) : Type 0 where
    pub first : (n : N) → writes a n ≡ true → touches b n ≡ false
    pub second : (n : N) → writes b n ≡ true → touches a n ≡ false

  -- each of these calls is apart from a
  abbrev pub AreAllApart : (E → N → Bool) → (E → N → Bool) → E → List E → Type 0
  AreAllApart writes touches a [] = Unit {0}
  AreAllApart writes touches a (b ∷ calls) =
      AreApart writes touches a b × AreAllApart writes touches a calls

  -- each of the calls that are left out is apart from all later ones
  abbrev pub MayBeLeftOut : (E → N → Bool) → (E → N → Bool) → (E → Bool) → List E → Type 0
  MayBeLeftOut writes touches left_out [] = Unit {0}
  MayBeLeftOut writes touches left_out (a ∷ calls) =
      (left_out a ≡ true → AreAllApart writes touches a calls)
      × MayBeLeftOut writes touches left_out calls

  -- none of the calls that are left out writes the name
  abbrev pub IsUnwritten : (E → N → Bool) → (E → Bool) → List E → N → Type 0
  IsUnwritten writes left_out [] n = Unit {0}
  IsUnwritten writes left_out (a ∷ calls) n =
      (left_out a ≡ true → writes a n ≡ false) × IsUnwritten writes left_out calls n

module _ {S E : Type 0} where
  -- the calls lead from one state to the other, one whole call after another
  abbrev pub Follows : (S → E → S → Type 0) → S → List E → S → Type 0
  Follows steps s [] t = t ≡ s
  Follows steps s (a ∷ calls) t = (m : S) × steps s a m × Follows steps m calls t
