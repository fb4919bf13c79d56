-- Undrained changes of words: libpmem(7). A line has eight words.
use Rattle.std.specs.Prelude.{◌≡◌, ℕ, ◌/◌, ◌^◌, ◌<◌, ◌==◌, Bool, true, false, not, if◌then◌else◌, List, map, bit_and}
use Rattle.std.specs.List.{filter}
use Rattle.std.specs.Int.{bit_not, w64}
use Rattle.solo_view.specs.declared.change.Change.{Change}
use Rattle.solo_view.specs.Bits.{all_bits, with_bits}

-- a change has a word's mask, and no bit outside of it
pub record IsFormed (c : Change) : Type 0 where
  pub mask : c.mask < 2 ^ 64
  pub old : bit_and c.old c.mask ≡ c.old
  pub new : bit_and c.new c.mask ≡ c.new

-- a store of x where the word was old
abbrev pub store_change : ℕ → ℕ → ℕ → Change
store_change w old x = record { word = w; mask = all_bits; old = old; new = x; flushed = false }

-- an OR of bits into the word found
abbrev pub or_change : ℕ → ℕ → ℕ → Change
or_change w bits found = record { word = w; mask = bits; old = bit_and found bits; new = bits; flushed = false }

-- an AND of bits into the word found
abbrev pub and_change : ℕ → ℕ → ℕ → Change
and_change w bits found = record { word = w; mask = bit_not w64 bits; old = bit_and found (bit_not w64 bits); new = 0; flushed = false }

-- the word with the change taken back: without the mask's bits, or the old ones
abbrev pub taken_back : Change → ℕ → ℕ
taken_back c word = with_bits c.mask c.old word

-- the change is of a word of this line
abbrev pub is_in_line : ℕ → Change → Bool
is_in_line line c = c.word / 8 == line

-- what a flush of the line makes of a change
abbrev pub mark : ℕ → Change → Change
mark line c = if is_in_line line c then record c { flushed = true } else c

-- what a flush of the line makes of a lane's changes
abbrev pub flushed : ℕ → List Change → List Change
flushed line changes = map (mark line) changes

-- what a drain leaves of a lane's changes: those that no flush has marked
abbrev pub drained : List Change → List Change
drained changes = filter (λ c. not c.flushed) changes

-- the changes of one word, in their order
abbrev pub changes_of : ℕ → List Change → List Change
changes_of w changes = filter (λ c. c.word == w) changes
