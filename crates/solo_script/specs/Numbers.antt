-- Numbers as people write them: docs/FORMAT.md, "Numbers".
use Rattle.std.specs.Prelude.{ℕ, ◌^◌, ◌&&◌, List, length, Option, None, Some, Bool, nat_lt, nat_le, if◌then◌else◌}
use Rattle.std.specs.Str.{all_ascii_digits}
use Rattle.std.specs.Str.Parse.{digits_value}

-- 1 to 20 decimal digits
abbrev pub is_numeral : List ℕ → Bool
is_numeral text = nat_lt 0 (length text) && nat_le (length text) 20 && all_ascii_digits text

-- the value of 1 to 20 decimal digits, where it is below 2 ^ 64
unfoldable pub number_of : List ℕ → Option ℕ
number_of text = if is_numeral text && nat_lt (digits_value 10 text) (2 ^ 64) then Some (digits_value 10 text) else None
