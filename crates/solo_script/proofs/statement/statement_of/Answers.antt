use Rattle.std.proofs.Common.{arith}
use Rattle.std.proofs.lemmas.Grind.{common_steps}
use Rattle.solo_script.proofs.statement.statement_of.Goals as goal

pub returns-in-Lane : goal.returns-in-Lane
returns-in-Lane c = let read = c.lane_of.ensures c.args.context.now in grind (arith, common_steps)

pub returns-in-Alloc : goal.returns-in-Alloc
returns-in-Alloc c = let read = c.alloc_of.ensures c.args.context.now in grind (arith, common_steps)

pub returns-in-Reserve : goal.returns-in-Reserve
returns-in-Reserve c = let read = c.reserve_of.ensures c.args.context.now in grind (arith, common_steps)

pub returns-in-Publish : goal.returns-in-Publish
returns-in-Publish c = let read = c.publish_of.ensures c.args.context.now in grind (arith, common_steps)

pub returns-in-Cancel : goal.returns-in-Cancel
returns-in-Cancel c = let read = c.cancel_of.ensures c.args.context.now in grind (arith, common_steps)

pub returns-in-Commit : goal.returns-in-Commit
returns-in-Commit c = let read = c.commit_of.ensures c.args.context.now in grind (arith, common_steps)
