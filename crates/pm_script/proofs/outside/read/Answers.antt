use Rattle.std.proofs.Common.{arith}
use Rattle.std.proofs.lemmas.Grind.{common_steps}
use Rattle.pm_script.proofs.outside.read.Goals as goal

pub returns-in-Root : goal.returns-in-Root
returns-in-Root c = let read = c.root_of.ensures c.args.context.now in grind (arith, common_steps)

pub returns-in-RootSize : goal.returns-in-RootSize
returns-in-RootSize c = let read = c.root_size_of.ensures c.args.context.now in grind (arith, common_steps)
