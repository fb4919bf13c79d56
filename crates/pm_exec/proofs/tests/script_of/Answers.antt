use Rattle.std.proofs.Common.{arith}
use Rattle.pm_script.specs.Words.{lines}
use Rattle.pm_exec.proofs.tests.script_of.Goals as goal

pub returns-clause-rising : goal.returns-clause-rising
returns-clause-rising c = c.the_lines_of_a_script_rise.ensures (lines c.as_bytes.result.now) c.in_ok-script.script c.in_ok-script.ensures.script

pub returns-clause-lanes : goal.returns-clause-lanes
returns-clause-lanes c =
    let few = c.a_script_names_few_lanes.ensures (lines c.as_bytes.result.now) c.in_ok-script.script c.in_ok-script.ensures.script in
    let some = c.if-script-lt1.false in
    (omega (arith, some), few)
