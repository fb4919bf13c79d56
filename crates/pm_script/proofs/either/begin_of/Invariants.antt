use Rattle.std.proofs.Common.{◌≡◌, true, take}
use Rattle.std.specs.List.{filter_map, list_all}
use Rattle.pm_script.specs.Operands.{is_want, want_of}
use Rattle.pm_script.specs.Words.{texts}
use Rattle.pm_script.proofs.either.begin_of.Given as goal

-- the operands so far are what the wants say
abbrev pub invariant-loop-operand : goal.invariant-loop-operand
invariant-loop-operand l =
    (l.wants.items ≡ filter_map (want_of l.context) (take l.operand-index (texts l.operands))) × (list_all (is_want l.context) (take l.operand-index (texts l.operands)) ≡ true)
