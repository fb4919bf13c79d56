-- Undrained changes of words: libpmem(7). A line has eight words. A memory keeps its lanes' changes, each with what it found; a lane's view
-- keeps what it knows of them.
use Rattle.std.specs.Prelude.{◌≡◌, ℕ, ◌/◌, ◌^◌, ◌<◌, ◌==◌, ◌&&◌, Bool, true, false, not, if◌then◌else◌, List, map, Option, IfSome, bit_and}
use Rattle.std.specs.List.{filter, list_any}
use Rattle.std.specs.Int.{bit_not, bit_at, w64}
use Rattle.pm_view.specs.declared.change.Change.{Change}
use Rattle.pm_view.specs.Bits.{all_bits, with_bits}

-- a change has a word's mask, and no bit outside of it
pub record IsFormed (c : Change) : Type 0 where
  pub mask : c.mask < 2 ^ 64
  pub old : bit_and c.old c.mask ≡ c.old
  pub new : bit_and c.new c.mask ≡ c.new

-- a store of x where the word was old
abbrev pub store_change : ℕ → ℕ → ℕ → Change
store_change w old x = record { word = w; mask = all_bits; old = old; new = x; flushed = false }

-- an OR of bits into the word found
abbrev pub or_change : ℕ → ℕ → ℕ → Change
or_change w bits found = record { word = w; mask = bits; old = bit_and found bits; new = bits; flushed = false }

-- an AND of bits into the word found
abbrev pub and_change : ℕ → ℕ → ℕ → Change
and_change w bits found = record { word = w; mask = bit_not w64 bits; old = bit_and found (bit_not w64 bits); new = 0; flushed = false }

-- the word with the change taken back: without the mask's bits, or the old ones
abbrev pub taken_back : Change → ℕ → ℕ
taken_back c word = with_bits c.mask c.old word

-- an undrained change as a view has it: of the bits of a word under a mask; what the word was, where the lane knew that
pub record Undrained : Type 0 where
  pub word : ℕ
  pub mask : ℕ
  pub old : Option ℕ
  pub flushed : Bool

-- the memory's change is the view's
pub record IsUndrained (c : Change) (u : Undrained) : Type 0 where
  pub word : c.word ≡ u.word
  pub mask : c.mask ≡ u.mask
  pub flushed : c.flushed ≡ u.flushed
  pub old : IfSome u.old (λ x. c.old ≡ x)

-- the change is of a word of this line
abbrev pub is_in_line : ℕ → Undrained → Bool
is_in_line line c = c.word / 8 == line

-- what a flush of the line makes of a change, and of a lane's changes
abbrev pub mark : ℕ → Undrained → Undrained
mark line c = if is_in_line line c then record c { flushed = true } else c

abbrev pub flushed : ℕ → List Undrained → List Undrained
flushed line changes = map (mark line) changes

-- what a drain leaves of a lane's changes: those that no flush has marked
abbrev pub drained : List Undrained → List Undrained
drained changes = filter (λ (c : Undrained). not c.flushed) changes

-- some change is of this word, or of this bit of it
abbrev pub is_dirty : List Undrained → ℕ → Bool
is_dirty changes w = list_any (λ (c : Undrained). c.word == w) changes

abbrev pub is_dirty_bit : List Undrained → ℕ → ℕ → Bool
is_dirty_bit changes w b = list_any (λ (c : Undrained). c.word == w && bit_at c.mask b == 1) changes
