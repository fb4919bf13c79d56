use Rattle.std.proofs.Common.{arith}
use Rattle.std.proofs.lemmas.Grind.{common_steps}
use Rattle.pm_script.proofs.either.read.Goals as goal

pub returns-in-Publish : goal.returns-in-Publish
returns-in-Publish c = let read = c.publish_of.ensures c.args.context.now in grind (arith, common_steps)

pub returns-in-Reserve : goal.returns-in-Reserve
returns-in-Reserve c = let read = c.reserve_of.ensures c.args.context.now in grind (arith, common_steps)

pub returns-in-Cancel : goal.returns-in-Cancel
returns-in-Cancel c = let read = c.cancel_of.ensures c.args.context.now in grind (arith, common_steps)
