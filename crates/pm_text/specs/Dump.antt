-- The text of a pool, as it is dumped for people.
use Rattle.std.specs.Prelude.{ℕ, ◌+◌, ◌*◌, ◌/◌, ◌%◌, ◌==◌, nat_lt, if◌then◌else◌, List, [], ◌∷◌, ◌++◌, length, take, drop, codes, Option, None, Some}
use Rattle.std.specs.Fmt.{decimal}
use Rattle.std.specs.Int.{div_ceil}
use Rattle.std.specs.List.{flat_map, list_all, range_with_len}
use Rattle.pm_objects.specs.declared.pool.Object.{Object}
use Rattle.pm_objects.specs.declared.pool.PoolView.{PoolView}

-- the code of a hexadecimal digit, 0 to 15, in lower case
abbrev pub hex_digit : ℕ → ℕ
hex_digit digit = if nat_lt digit 10 then 48 + digit else 87 + digit

-- two hexadecimal digits for each byte, the high one first
unfoldable pub hex_of : List ℕ → List ℕ
hex_of bytes = flat_map (λ byte. hex_digit (byte / 16) ∷ hex_digit (byte % 16) ∷ []) bytes

-- the root's offset, or none
abbrev pub root_line : Option ℕ → List ℕ
root_line None = codes "root none\n"
root_line (Some off) = codes "root " ++ decimal off ++ codes "\n"

-- an object's offset, type and number of bytes
abbrev pub object_line : ℕ → Object → List ℕ
object_line off object =
    codes "object " ++ decimal off ++ codes " type " ++ decimal object.kind ++ codes " size " ++ decimal (length object.bytes) ++ codes "\n"

-- the bytes from 16 * k on, 16 at most
unfoldable pub piece : List ℕ → ℕ → List ℕ
piece bytes k = take 16 (drop (16 * k) bytes)

-- the line of these bytes at this place; nothing where each is 0
unfoldable pub line_of_piece : ℕ → List ℕ → List ℕ
line_of_piece at bytes = if list_all (λ byte. byte == 0) bytes then [] else codes "data " ++ decimal at ++ codes " " ++ hex_of bytes ++ codes "\n"

-- the line of piece k
abbrev pub data_line : List ℕ → ℕ → List ℕ
data_line bytes k = line_of_piece (16 * k) (piece bytes k)

-- the lines of all pieces, the last of which is shorter where the bytes end
unfoldable pub data_lines : List ℕ → List ℕ
data_lines bytes = flat_map (data_line bytes) (range_with_len 0 (div_ceil (length bytes) 16))

-- the members' offsets; nothing where there are none
abbrev pub members_line : List ℕ → List ℕ
members_line [] = []
members_line (off ∷ offs) = codes "members" ++ flat_map (λ member. codes " " ++ decimal member) (off ∷ offs) ++ codes "\n"

-- an object with its offset
abbrev pub object_text : ℕ × Object → List ℕ
object_text entry = object_line entry.0 entry.1 ++ data_lines entry.1.bytes ++ members_line entry.1.members

-- all that is printed of a pool
unfoldable pub dump_text : PoolView → List ℕ
dump_text pool = root_line pool.root ++ flat_map object_text pool.objects
