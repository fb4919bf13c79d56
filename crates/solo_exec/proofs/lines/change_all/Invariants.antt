use Rattle.std.proofs.Common.{List, ◌++◌, take}
use Rattle.solo_script.specs.declared.script.ScriptLine.{ScriptLine}
use Rattle.solo_view.specs.View.{View}
use Rattle.solo_world.specs.Opening.{Opening}
use Rattle.solo_exec.specs.Letters.{KeepsLetters, offsets_in, resolved}
use Rattle.solo_exec.specs.Progress.{IsAtLine}
use Rattle.solo_exec.proofs.lines.change_all.Given as goal

abbrev pub invariant-loop-said : goal.invariant-loop-said
invariant-loop-said l =
    ((o : Opening) (first : View) (front : List ScriptLine) → IsAtLine o first l.fn.lane l.fn.blocks l.fn.pending l.names front l.fn.values.items
    → IsAtLine o first l.lane l.blocks l.pending l.names (front ++ resolved (l.given ++ offsets_in l.values.items) (take l.said-index l.lines)) l.values.items)
    × KeepsLetters l.lines l.fn.values.items l.values.items
