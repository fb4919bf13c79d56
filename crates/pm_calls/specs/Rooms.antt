-- THE ROOM THAT A CALL'S REPLY NEEDS, by what its lines say.
use Rattle.std.specs.Prelude.{◌≡◌, ℕ, ◌≤◌, List, [], length, vec_capacity, Vec}
use Rattle.std.specs.Global.{Global}
use Rattle.pm_objects.specs.declared.calls.Want.{Want}
use Rattle.pm_objects.specs.declared.history.Value.{Value}
use Rattle.pm_script.specs.declared.script.ScriptLine.{ScriptLine}
use Rattle.pm_script.specs.declared.script.ScriptOp.{ScriptOp}
use Rattle.pm_script.specs.declared.script.ScriptOp.TheVariants as op
use Rattle.pm_script.specs.declared.script.ScriptWant.{ScriptWant}

-- how many bytes a line reads, and how many locks it asks for as it begins a level
abbrev pub bytes_read : ScriptOp → ℕ
bytes_read (op.Read id off len) = len
bytes_read operation = 0

abbrev pub wants_begun : ScriptOp → List ScriptWant
wants_begun (op.Begin wants) = wants
wants_begun operation = []

-- room for an operation's locks, and for the bytes that it reads
pub record IsRoomFor (operation : ScriptOp) (wants : Vec Want Global)
    (bytes : Vec ℕ Global) : Type 0 where
  pub empty : wants.items ≡ []
  pub locks : length (wants_begun operation) ≤ vec_capacity wants
  pub read : length bytes.items ≡ bytes_read operation

-- the rooms are those of these lines, of which each is said in one, with room for a value of each
pub record RoomsFor (lines said : List ScriptLine) (values : Vec (ℕ × Value) Global) : Type 0 where
  pub said_in : said ≡ lines
  pub empty : values.items ≡ []
  pub room : length lines ≤ vec_capacity values
