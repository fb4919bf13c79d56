-- How a redo entry is spelled as a pair of words, and what it does to a word: docs/FORMAT.md, "Redo entries".
use Rattle.std.specs.Prelude.{ℕ, ◌+◌, ◌-◌, ◌*◌, ◌/◌, ◌%◌, ◌^◌, ◌==◌, List, [], ◌∷◌, slice_index, if◌then◌else◌, Option, Some, None, bit_and, bit_or}
use Rattle.std.specs.Option.{option_map}
use Rattle.pm_record.specs.declared.redo.Redo.{Redo}
use Rattle.pm_record.specs.declared.redo.Op.{Op}
use Rattle.pm_record.specs.declared.redo.Op.TheVariants.{Set, Or, And}

-- an operation's number, which the place's low three bits hold
abbrev pub op_code : Op → ℕ
op_code Set = 0
op_code Or = 1
op_code And = 2

-- the operation with this number, if there is one
abbrev pub op_of : ℕ → Option Op
op_of code = if code == 0 then Some Set else if code == 1 then Some Or else if code == 2 then Some And else None

-- the pair: the place with the operation's number in it, and the value
abbrev pub redo_words : Redo → List ℕ
redo_words e = (e.place + op_code e.op) ∷ e.value ∷ []

-- the entry in the pair, if its first word has an operation
abbrev pub redo_of : List ℕ → Option Redo
redo_of pair = option_map (λ op. record { place = slice_index pair 0 / 8 * 8; op = op; value = slice_index pair 1 }) (op_of (slice_index pair 0 % 8))

-- the bits that the operation sets or clears: all, the set ones of the value, or the clear ones of it
abbrev pub mask_of : Op → ℕ → ℕ
mask_of Set value = 2 ^ 64 - 1
mask_of Or value = value
mask_of And value = 2 ^ 64 - 1 - value

-- the entry's bits
abbrev pub redo_mask : Redo → ℕ
redo_mask e = mask_of e.op e.value

-- what the operation makes of a word
abbrev pub outcome : Op → ℕ → ℕ → ℕ
outcome Set value word = value
outcome Or value word = bit_or word value
outcome And value word = bit_and word value

-- the word with the entry applied to it
abbrev pub applied : Redo → ℕ → ℕ
applied e word = outcome e.op e.value word
