-- What the lines of a script so far leave to the next one: docs/COMMANDS.md, "Scripts".
use Rattle.std.specs.Prelude.{ℕ, ◌&&◌, ◌==◌, Bool, List, [], option_and_then, option_map, Option, None}
use Rattle.std.specs.List.{find}
use Rattle.solo_script.specs.declared.context.Binding.{Binding}
use Rattle.solo_script.specs.declared.context.OpenTransaction.{OpenTransaction}

-- what the lines so far leave: the present lane, if a line named one; one more than the greatest lane that was named, and at least 1;
-- the transactions that are open, each with its lane and the line of its begin;
-- the last binding of each letter by each lane, with its line, in the order of lines
pub record Context : Type 0 where
  pub lane : Option ℕ
  pub lanes : ℕ
  pub begun : List OpenTransaction
  pub bound : List Binding

-- nothing was read
abbrev pub start : Context
start = record { lane = None; lanes = 1; begun = []; bound = [] }

-- the lane binds the letter by it
abbrev pub binds : ℕ → ℕ → Binding → Bool
binds lane letter binding = binding.lane == lane && binding.letter == letter

-- the last binding of a letter by the present lane
abbrev pub present_binding : Context → ℕ → Option Binding
present_binding context letter = option_and_then (λ lane. find (binds lane letter) context.bound) context.lane

-- its line
abbrev pub bound_line : Context → ℕ → Option ℕ
bound_line context letter = option_map (λ binding. binding.line) (present_binding context letter)
