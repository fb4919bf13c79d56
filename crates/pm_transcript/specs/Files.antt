-- Files by their names.
use Rattle.std.specs.Prelude.{◌≡◌, ◌≢◌, ℕ, List, Option, Some, option_map, vec_items}
use Rattle.std.specs.BTreeMap.{get_by_text}
use Rattle.pm_transcript.specs.declared.files.Files.{Files}

-- the bytes of a name, if it is there
abbrev pub held_by : Files → List ℕ → Option (List ℕ)
held_by files name = option_map vec_items (get_by_text files.files name)

-- the name has these bytes, or is not there; every other is as it was
pub record HasSet (old new : Files) (name : List ℕ) (bytes : Option (List ℕ)) : Type 0 where
  pub is_set : held_by new name ≡ bytes
  pub others : (other : List ℕ) → other ≢ name → held_by new other ≡ held_by old other
