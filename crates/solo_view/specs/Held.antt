-- Which words stay as a lane's view has them, since no other lane may change them.
use Rattle.std.specs.Prelude.{ℕ, ◌+◌, ◌-◌, ◌*◌, ◌==◌, ◌&&◌, ◌||◌, nat_le, nat_lt, Bool, Option, Some, None}
use Rattle.std.specs.List.{list_any}
use Rattle.solo_view.specs.View.{View, Lock, Taken}
use Rattle.solo_view.specs.Area.{is_in_area}
use Rattle.solo_view.specs.Blocks.{covers}

-- the word of the root's offset
abbrev pub root_word : ℕ
root_word = 64

-- of a block's words those that its own lock guards: type, size, first member, and the data. A list's lock guards the links
abbrev pub is_guarded : ℕ → Bool
is_guarded offset = nat_lt offset 2 || offset == 5 || nat_le 8 offset

-- the word is guarded by the lock of this line, under which such a block was found: of line 0 it is the root word
abbrev pub is_under_found : ℕ → Option ℕ → ℕ → Bool
is_under_found line None w = line == 0 && w == root_word
is_under_found line (Some lines) w = nat_le (8 * line) w && nat_lt w (8 * (line + lines)) && is_guarded (w - 8 * line)

abbrev pub is_under : ℕ → Lock → Bool
is_under w lock = is_under_found lock.line lock.block w

-- the word is in a block that the lane reserved
abbrev pub is_reserved : View → ℕ → Bool
is_reserved v w = list_any (λ (t : Taken). covers v.lanes v.words t.at t.bits w) v.reserved

-- the word is the lane's own, or under a lock that it holds
abbrev pub is_held : View → ℕ → Bool
is_held v w = is_in_area v.lane w || list_any (is_under w) v.locks || is_reserved v w

-- the view has the word's value
abbrev pub is_known : View → ℕ → Bool
is_known v w = is_in_area v.lane w || list_any (λ other. other == w) v.known
