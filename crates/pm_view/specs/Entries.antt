-- Redo entries as a lane's view has them: each SETs a word, ORs bits into it, or ANDs bits of it away.
use Rattle.std.specs.Prelude.{ℕ, ◌+◌, ◌*◌, nat_lt, Bool, true, false, cond, ◌==◌, ◌&&◌, not, List, [], ◌∷◌, Option, None, Some}
use Rattle.std.specs.Int.{bit_at}
use Rattle.pm_record.specs.Redo.{op_code}
use Rattle.pm_record.specs.declared.redo.Op.{Op}
use Rattle.pm_record.specs.declared.redo.Op.TheVariants.{Set, Or, And}
use Rattle.pm_view.specs.Places.{Place, Block, Small, Big, Root, same_place, place_of, bit_of}

-- an entry of the pool's words: of a place, what is done, and with which value
pub record Redo : Type 0 where
  pub place : Place
  pub op : Op
  pub value : ℕ

-- an entry of the log: its word, and the place that it is; the entry of the lane's own generation has no place
pub record Entry : Type 0 where
  pub word : ℕ
  pub place : Option Place
  pub op : Op
  pub value : ℕ

-- the first word of the pair that spells it; the second is the value
abbrev pub entry_head : Entry → ℕ
entry_head e = 8 * e.word + op_code e.op

-- what an operation makes of bit b: a SET gives all bits, an OR its set bits, an AND its clear bits
abbrev pub op_bit : Op → ℕ → ℕ → Option Bool
op_bit Set value b = Some (bit_at value b == 1)
op_bit Or value b = cond (bit_at value b == 1) (Some true) None
op_bit And value b = cond (bit_at value b == 1) None (Some false)

abbrev pub given_bit : Op → ℕ → ℕ → Option Bool
given_bit op value b = cond (nat_lt b 64) (op_bit op value b) None

-- what an entry makes of each bit of each place
abbrev pub delta : Redo → Place → ℕ → Option Bool
delta e p b = cond (same_place e.place p) (given_bit e.op e.value b) None

-- the first of two, if there is one
abbrev pub first_of_two : {A : Type 0} → Option A → Option A → Option A
first_of_two None y = y
first_of_two (Some x) y = Some x

-- what a list of entries makes of each bit: the last one that gives it does
abbrev pub latest : List Redo → Place → ℕ → Option Bool
latest [] p b = None
latest (e ∷ t) p b = first_of_two (latest t p b) (delta e p b)

-- the entries of the pool's words
abbrev pub with_redo : Option Place → Entry → List Redo → List Redo
with_redo None e t = t
with_redo (Some p) e t = record { place = p; op = e.op; value = e.value } ∷ t

abbrev pub redos : List Entry → List Redo
redos [] = []
redos (e ∷ t) = with_redo e.place e (redos t)

-- what a difference does to a block: it allocates it, frees it, or neither
abbrev pub turn : (Place → ℕ → Option Bool) → Block → Option Bool
turn d (Small c i) = d (place_of (Small c i)) (bit_of (Small c i))
turn d (Big f) = d (place_of (Big f)) (bit_of (Big f))
turn d Root = None
