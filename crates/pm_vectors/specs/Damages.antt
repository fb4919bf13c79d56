-- A damaged pool: a new pool with words written over it, of which the first bytes are left (docs/FORMAT.md, "Faults").
use Rattle.std.specs.Prelude.{ℕ, List, [], ◌∷◌, codes, length, slice_set, take}
use Rattle.pm_words.specs.Words.{bytes_of}
use Rattle.pm_pool.specs.Created.{created}
use Rattle.pm_vectors.specs.declared.damage.Lanes.{Lanes}
use Rattle.pm_vectors.specs.declared.damage.Lanes.TheVariants.{One, Two}

-- the words with some of them written over, one after the other: a word's number, and what it becomes
abbrev pub edited : List ℕ → List (ℕ × ℕ) → List ℕ
edited words [] = words
edited words (edit ∷ edits) = edited (slice_set words edit.0 edit.1) edits

abbrev pub lane_count : Lanes → ℕ
lane_count One = 1
lane_count Two = 2

-- the words of a new pool of so many lanes, with one zone, id 7, layout name `demo` and a root of 64 bytes
abbrev pub demo_pool : Lanes → List ℕ
demo_pool lanes = created (record { lanes = lane_count lanes; zones = 1; id = 7; layout = codes "demo"; root = 64 })

-- the bytes of such a pool, damaged
abbrev pub damaged : Lanes → List (ℕ × ℕ) → ℕ → List ℕ
damaged lanes edits bytes = take bytes (bytes_of (edited (demo_pool lanes) edits))
