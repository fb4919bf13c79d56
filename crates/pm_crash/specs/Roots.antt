-- THE ROOT WORD UNDER AN OBJECT'S LOCK: what a lane saw of the root word while it held the lock of
-- a line. Another lane sets the root word only while it holds for writing the lines of the object
-- that the word names and of the one that it comes to name; so the word comes to name no object of
-- a line that this lane holds, and names no other where it named that one.
use Rattle.std.specs.Prelude.{◌≡◌, ℕ, ◌==◌, ◌&&◌, ◌||◌, not, Bool, true, false, All, List, [], ◌∷◌, Some, IsSomeAnd}
use Rattle.std.specs.List.{list_any}
use Rattle.pm_layout.specs.declared.shape.Shape.{Shape}
use Rattle.pm_layout.specs.Chunks.{word_of_root}
use Rattle.pm_view.specs.Claims.{Claim, Took, Gave, Decided, Knows, holds, locked, pictured}
use Rattle.pm_view.specs.Entries.{Entry, Redo, redos}
use Rattle.pm_view.specs.Log.{Log, is_early}
use Rattle.pm_view.specs.Places.{RootWord, same_place}
use Rattle.pm_world.specs.Lanes.{all_held, is_decided}
use Rattle.pm_world.specs.States.{State, root_line}
use Rattle.pm_crash.specs.Spelled.{number}

-- a root word of this value names the object whose header is in the line
abbrev pub is_root_line : ℕ → ℕ → Bool
is_root_line value line = list_any (λ l. l == line) (root_line value)

-- some entry sets the root word
abbrev pub sets_root : List Redo → Bool
sets_root es = list_any (λ (e : Redo). same_place e.place RootWord) es

-- THE LANE SAW THE ROOT WORD SO, under the lock of the line, which it holds since. What it knows
-- of the word while it holds line 0 for writing is not counted here: then the word is its own.
-- Once its call that set the word is decided it is to look again
abbrev pub saw_root : Shape → List Claim → ℕ → ℕ → Bool
saw_root sh [] line value = false
saw_root sh (Knows w x ∷ t) line value =
    ((w == word_of_root sh) && ((x == value) && (holds t line && not (locked t 0))))
    || saw_root sh t line value
saw_root sh (Took m write ∷ t) line value = not (m == line) && saw_root sh t line value
saw_root sh (Gave m ∷ t) line value = not (m == line) && saw_root sh t line value
saw_root sh (Decided es ∷ t) line value = not (sets_root es) && saw_root sh t line value
saw_root sh (e ∷ t) line value = saw_root sh t line value

-- WHAT IT SAW IS SO of the bits: where the word named the line's object it is the same, and where
-- it did not it does not
pub record RootsAreSeen (sh : Shape) (t : List Claim) (s : State) : Type 0 where
  pub same : (line value : ℕ) → saw_root sh t line value ≡ true → is_root_line value line ≡ true
      → number (s RootWord) ≡ value
  pub other : (line value : ℕ) → saw_root sh t line value ≡ true → is_root_line value line ≡ false
      → is_root_line (number (s RootWord)) line ≡ false

-- ---- WHAT IS SO OF EACH LANE AT EVERY MOMENT, beside the world

-- it holds for writing the lines that guard a root word of this value
abbrev pub HoldsGuards : List Claim → ℕ → Type 0
HoldsGuards t value = all_held (locked t) (0 ∷ root_line value) ≡ true

-- a lane that makes this of the root word knows the word, and holds the guards of what it is and
-- of what it comes to be
abbrev pub HoldsRoots : Shape → List Claim → ℕ → Type 0
HoldsRoots sh t value = HoldsGuards t value
    × IsSomeAnd (pictured sh t (word_of_root sh)) (λ x. HoldsGuards t x)

-- the call did not set the root word yet: it has no number, or does not set it
abbrev pub leaves_root : Log → Bool
leaves_root log = is_early log.phase || not (sets_root (redos log.entries))

pub record HoldsItsRoots (sh : Shape) (t : List Claim) (log : Log) : Type 0 where
  pub entered : All (λ (e : Entry). e.place ≡ Some RootWord → HoldsRoots sh t e.value) log.entries
  -- what it saw before its call set the word is forgotten as that is decided
  pub dropped : is_decided log.phase ≡ true → sets_root (redos log.entries) ≡ true
      → (line value : ℕ) → saw_root sh t line value ≡ false
