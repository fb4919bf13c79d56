use Rattle.std.proofs.Common.{◌≡◌, sym, rules}
use Rattle.pm_objects.specs.declared.history.Value.TheVariants.{Offset}
use Rattle.solo_exec.proofs.GivenLetters.{none_first, value_found, value_passed}
use Rattle.solo_exec.proofs.letters.offset_among.Goals as goal
use Rattle.solo_exec.proofs.letters.offset_among.Goals.{in-Offset+else-pair-line, in_default}

pub loop-pair-init : goal.loop-pair-init
loop-pair-init c = none_first c.args.line

pub returns-then-pair-line : goal.returns-then-pair-line
returns-then-pair-line c =
    let v = c.pair-item.result in
    let is_off : v.1 ≡ Offset c.in-Offset.off = search rules in
    let of_line : v.0 ≡ c.args.line = search rules in
    sym (value_found c.args.values.now c.args.line c.loop-pair.pair-index v c.loop-pair-test.true c.pair-item.is c.loop-pair.invariant c.in-Offset.off is_off of_line)

pub loop-pair-preserved : goal.loop-pair-preserved
loop-pair-preserved c =
    let v = c.pair-item.result in
    value_passed c.args.values.now c.args.line c.loop-pair.pair-index v c.loop-pair-test.true c.pair-item.is c.loop-pair.invariant
    (elim c.match-pair.branch [ in-Offset+else-pair-line w ↦ λ off is_off of_line. search rules | in_default w ↦ λ off is_off of_line. search rules ])
