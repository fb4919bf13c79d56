-- The operands of a script's lines: docs/COMMANDS.md, "Scripts".
use Rattle.std.specs.Prelude.{ℕ, ◌*◌, ◌-◌, ◌^◌, ◌&&◌, Bool, true, false, nat_eq, nat_le, nat_lt, if◌then◌else◌, List, [], ◌∷◌, drop, length, codes, is_some, option_and_then, option_map, Option, Some, None}
use Rattle.std.specs.List.{starts_with}
use Rattle.std.specs.Option.{option_map_or}
use Rattle.std.specs.Result.{result_ok}
use Rattle.std.specs.Str.{bytes_eq}
use Rattle.hex.specs.Hex.{decode_of}
use Rattle.pm_script.specs.Contexts.{Context, bound_line}
use Rattle.pm_script.specs.Numbers.{number_of}
use Rattle.pm_script.specs.declared.script.ScriptId.{ScriptId}
use Rattle.pm_script.specs.declared.script.ScriptId.TheVariants.{Root, At, Bound}
use Rattle.pm_script.specs.declared.script.ScriptWant.{ScriptWant}

-- the bytes that a word writes: 1 to 4,096 bytes of two hexadecimal digits each, in either case
abbrev pub bytes_of : List ℕ → Option (List ℕ)
bytes_of word = if nat_le 1 (length word) && nat_le (length word) (2 * 4096) then result_ok (decode_of word) else None

-- the letter that a word is, from 0 for `a` to 25 for `z`
abbrev pub letter_of : List ℕ → Option ℕ
letter_of (b ∷ []) = if nat_le 97 b && nat_le b 122 then Some (b - 97) else None
letter_of word = None

-- the object that a word names in its place: `root`, an offset, or `$` and a letter, which stands for what the line gave that bound it last
abbrev pub id_of : Context → List ℕ → Option ScriptId
id_of context word =
    if bytes_eq word (codes "root") then Some Root
    else (if starts_with nat_eq word (codes "$") then option_map Bound (option_and_then (bound_line context) (letter_of (drop 1 word))) else option_map At (number_of word))

-- the object that a begin locks, for writing or not
abbrev pub wanted : Bool → ScriptId → ScriptWant
wanted write id = record { id = id; write = write }

-- what a word of a begin wants: `r:ID` to read the object, `ID` to write it
abbrev pub want_of : Context → List ℕ → Option ScriptWant
want_of context word = if starts_with nat_eq word (codes "r:") then option_map (wanted false) (id_of context (drop 2 word)) else option_map (wanted true) (id_of context word)

-- the object that a word names in its place, or nothing where it is `null`
abbrev pub dest_of : Context → List ℕ → Option (Option ScriptId)
dest_of context word = if bytes_eq word (codes "null") then Some None else option_map Some (id_of context word)

-- on which side of a member: true for `before`, false for `after`
abbrev pub side_of : List ℕ → Option Bool
side_of word = if bytes_eq word (codes "before") then Some true else (if bytes_eq word (codes "after") then Some false else None)

-- how many bytes a line reads: 1 to 4,096
abbrev pub size_in_range : ℕ → Option ℕ
size_in_range n = if nat_le 1 n && nat_le n 4096 then Some n else None

-- the length that a word of a read writes
abbrev pub size_of : List ℕ → Option ℕ
size_of word = option_and_then size_in_range (number_of word)

-- an error number: below 2 ^ 32
abbrev pub errnum_in_range : ℕ → Option ℕ
errnum_in_range n = if nat_lt n (2 ^ 32) then Some n else None

-- the error number that a word of an abort writes
abbrev pub errnum_of : List ℕ → Option ℕ
errnum_of word = option_and_then errnum_in_range (number_of word)

-- there are 32 lanes
abbrev pub is_lane : List ℕ → Bool
is_lane word = option_map_or (λ lane. nat_lt lane 32) (number_of word) false

-- each of the following: the word has the form
abbrev pub is_number : List ℕ → Bool
is_number word = is_some (number_of word)

abbrev pub is_size : List ℕ → Bool
is_size word = is_some (size_of word)

abbrev pub is_hex : List ℕ → Bool
is_hex word = is_some (bytes_of word)

abbrev pub is_id : Context → List ℕ → Bool
is_id context word = is_some (id_of context word)

abbrev pub is_letter : List ℕ → Bool
is_letter word = is_some (letter_of word)

abbrev pub is_want : Context → List ℕ → Bool
is_want context word = is_some (want_of context word)

abbrev pub is_dest : Context → List ℕ → Bool
is_dest context word = is_some (dest_of context word)

abbrev pub is_side : List ℕ → Bool
is_side word = is_some (side_of word)

abbrev pub is_errnum : List ℕ → Bool
is_errnum word = is_some (errnum_of word)
