-- The bits of words that a lane alone may change.
use Rattle.std.specs.Prelude.{◌≡◌, ℕ, ◌/◌, ◌%◌, ◌==◌, ◌&&◌, ◌||◌, nat_lt, Bool, if◌then◌else◌, ◌⊎◌, IsTrue, Any, ◌++◌, bit_and, is_some}
use Rattle.std.specs.List.{list_any}
use Rattle.std.specs.Int.{bit_at}
use Rattle.solo_view.specs.declared.change.Change.{Change}
use Rattle.solo_view.specs.declared.occ.Occ.{Occ}
use Rattle.solo_view.specs.declared.occ.Occ.TheVariants.{Run, Zone}
use Rattle.solo_view.specs.Area.{is_in_area}
use Rattle.solo_view.specs.Bits.{all_bits}
use Rattle.solo_view.specs.Blocks.{zone_page, bitmap_word}
use Rattle.solo_view.specs.Held.{is_under, is_reserved}
use Rattle.solo_view.specs.View.{View, Lock, Taken}

-- the word is guarded by a lock that the lane holds for writing, under which it found an object
abbrev pub is_written : View → ℕ → Bool
is_written v w = list_any (λ (l : Lock). l.write && is_some l.block && is_under w l) v.locks

-- all bits of the word are the lane's
abbrev pub is_own : View → ℕ → Bool
is_own v w = is_in_area v.lane w || is_reserved v w || is_written v w

-- the bits of word w that say whether these blocks are allocated: bits of a run's bitmap, or whole descriptors
abbrev pub allocation_bits : ℕ → Occ → ℕ → ℕ → ℕ
allocation_bits lanes (Run place) bits w = if w == bitmap_word (place / 4096) then bits else 0
allocation_bits lanes (Zone zone) bits w = if w / 512 == zone_page lanes zone && nat_lt (w % 512) 64 && bit_at bits (w % 512) == 1 then all_bits else 0

-- each bit of the mask is one of the other's
abbrev pub IsWithin : ℕ → ℕ → Type 0
IsWithin mask other = bit_and mask other ≡ mask

-- the lane alone may change these bits of the word: its area, the blocks that it reserved, what it locked for writing, and the bits
-- that say whether the blocks are allocated that it reserved or freed
abbrev pub HasRight : View → ℕ → ℕ → Type 0
HasRight v w mask = IsTrue (is_own v w) ⊎ Any (λ (t : Taken). IsWithin mask (allocation_bits v.lanes t.at t.bits w)) (v.reserved ++ v.freed)

-- the change is of bits that the lane alone may change
abbrev pub IsRightful : View → Change → Type 0
IsRightful v c = HasRight v c.word c.mask
