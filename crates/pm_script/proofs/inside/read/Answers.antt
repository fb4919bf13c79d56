use Rattle.std.proofs.Common.{arith}
use Rattle.std.proofs.lemmas.Grind.{common_steps}
use Rattle.pm_script.proofs.inside.read.Goals as goal

pub returns-in-Alloc : goal.returns-in-Alloc
returns-in-Alloc c = let read = c.alloc_of.ensures c.args.context.now in grind (arith, common_steps)

pub returns-in-Commit : goal.returns-in-Commit
returns-in-Commit c = let read = c.commit_of.ensures c.args.context.now in grind (arith, common_steps)

pub returns-in-Abort : goal.returns-in-Abort
returns-in-Abort c = let read = c.abort_of.ensures c.args.context.now in grind (arith, common_steps)
