use Rattle.std.proofs.Common.{rules, arith}
use Rattle.pm_record.proofs.Applying.{outside, inside}
use Rattle.pm_record.proofs.redo.apply.Goals as goal

pub returns-in-Set-clause-outside : goal.returns-in-Set-clause-outside
returns-in-Set-clause-outside c = outside c.args.op.now c.args.word _ (search rules) (omega arith)

pub returns-in-Or-clause-outside : goal.returns-in-Or-clause-outside
returns-in-Or-clause-outside c = outside c.args.op.now c.args.word _ (search rules) (omega arith)

pub returns-in-Or-clause-inside : goal.returns-in-Or-clause-inside
returns-in-Or-clause-inside c = inside c.args.op.now c.args.word _ (search rules) (omega arith)

pub returns-in-And-clause-outside : goal.returns-in-And-clause-outside
returns-in-And-clause-outside c = outside c.args.op.now c.args.word _ (search rules) (omega arith)

pub returns-in-And-clause-inside : goal.returns-in-And-clause-inside
returns-in-And-clause-inside c = inside c.args.op.now c.args.word _ (search rules) (omega arith)
