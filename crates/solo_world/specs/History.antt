-- The history of a world: the calls that drew a number, with the words that each makes final.
use Rattle.std.specs.Prelude.{◌≡◌, ℕ, ◌+◌, ◌<◌, ◌==◌, Bool, true, false, if◌then◌else◌, Contains, List, [], ◌∷◌, slice_index}
use Rattle.std.specs.List.{list_any}
use Rattle.solo_view.specs.Bits.{with_bits}
use Rattle.solo_view.specs.Log.{Final}
use Rattle.solo_view.specs.View.{Told, Numbered}
use Rattle.solo_world.specs.Opening.{Opening}

-- a call with its number, counted from 1, its lane, and what it makes final: its difference
pub record Entry : Type 0 where
  pub number : ℕ
  pub lane : ℕ
  pub call : List Told
  pub difference : List Final

-- what a difference makes of word w, of value x
unfoldable pub made_final : List Final → ℕ → ℕ → ℕ
made_final [] w x = x
made_final (f ∷ difference) w x = made_final difference w (if f.word == w then with_bits f.mask f.bits x else x)

-- the difference is of word w
abbrev pub is_final : List Final → ℕ → Bool
is_final difference w = list_any (λ (f : Final). f.word == w) difference

-- what the entries whose number passes the test make of word w, one after the other
unfoldable pub replayed : (ℕ → Bool) → List Entry → ℕ → ℕ → ℕ
replayed keep [] w x = x
replayed keep (e ∷ log) w x = replayed keep log w (if keep e.number then made_final e.difference w x else x)

-- word w after the decided entries
abbrev pub settled : Opening → List Entry → (ℕ → Bool) → ℕ → ℕ
settled o log decided w = replayed decided log w (slice_index o.words w)

-- the entries have the numbers from this one on
unfoldable pub AreNumbered : ℕ → List Entry → Type 0
AreNumbered n [] = Unit {0}
AreNumbered n (e ∷ log) = (e.number ≡ n) × AreNumbered (n + 1) log

-- the calls of one lane
unfoldable pub entries_by : ℕ → List Entry → List Numbered
entries_by lane [] = []
entries_by lane (e ∷ log) = if e.lane == lane then record { number = e.number; call = e.call } ∷ entries_by lane log else entries_by lane log

-- the lane's call of this number and difference is drawn and not decided, and no later entry is of a word of it
pub record Flies (log : List Entry) (decided : ℕ → Bool) (lane number : ℕ) (difference : List Final) : Type 0 where
  pub entry : Entry
  pub there : Contains log entry
  pub has_number : entry.number ≡ number
  pub has_lane : entry.lane ≡ lane
  pub has_difference : entry.difference ≡ difference
  pub undecided : decided number ≡ false
  pub last : (later : Entry) (w : ℕ) → Contains log later → number < later.number → is_final difference w ≡ true → is_final later.difference w ≡ false
