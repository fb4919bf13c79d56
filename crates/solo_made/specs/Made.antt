-- Which objects a call made and freed: as its lists have them, and as the plain model's have them.
use Rattle.std.specs.Prelude.{◌≡◌, ℕ, ◌-◌, ◌*◌, ◌/◌, ◌%◌, ◌≤◌, ◌==◌, ◌&&◌, nat_le, Bool, List, map, slice_index}
use Rattle.std.specs.Int.{bit_at}
use Rattle.std.specs.List.{list_any}
use Rattle.solo_crash.specs.CallBlocks.{CallBlocks, NewObject, is_at}
use Rattle.solo_made.specs.declared.objects.Freed.{Freed}
use Rattle.solo_made.specs.declared.objects.Made.{Made}

-- an object that the call made, as the plain model has it
abbrev pub new_of : Made → NewObject
new_of m = record { off = m.off; kind = m.kind; size = m.size }

abbrev pub begins_at : ℕ → Made → Bool
begins_at off m = m.off == off

-- the line is in a set of lines: bit k of word p is that of line 64 * p + k
abbrev pub has_line : List ℕ → ℕ → Bool
has_line words line = bit_at (slice_index words (line / 64)) (line % 64) == 1

-- an object is, at this offset, by the line that its header is: that before the offset
abbrev pub has_object : List ℕ → ℕ → Bool
has_object words off = off % 64 == 0 && nat_le 64 off && has_line words (off / 64 - 1)

-- What a call's lists hold: the objects that it made and has, and those that it found and freed, each in the order in which it did, and the words of a set
-- of lines, by which it has the objects that it made and freed again
pub record BlockLists : Type 0 where
  pub made : List Made
  pub freed : List Freed
  pub dropped : List ℕ

-- they are those that the plain model has of the call
pub record ListsBlocks (b : BlockLists) (call : CallBlocks) : Type 0 where
  pub made : map new_of b.made ≡ call.made
  pub freed : map (λ (f : Freed). f.off) b.freed ≡ call.freed
  pub dropped : (off : ℕ) → has_object b.dropped off ≡ list_any (is_at off) call.dropped

-- an object may be at the offset in a pool of so many pages: it begins at a line, behind another that is its header's
pub record IsOffsetIn (pages off : ℕ) : Type 0 where
  pub aligned : off % 64 ≡ 0
  pub behind : 64 ≤ off
  pub inside : off ≤ 4096 * pages

-- so may this one, and it is of a size that a pool has
pub record FitsPages (pages : ℕ) (m : Made) : Type 0 where
  pub place : IsOffsetIn pages m.off
  pub most : m.size ≤ 262080
