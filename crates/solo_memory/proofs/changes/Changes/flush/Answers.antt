use Rattle.std.proofs.Common.{arith}
use Rattle.std.proofs.lemmas.List.Edits.{map_over_more}
use Rattle.std.proofs.lemmas.Grind.{common_steps}
use Rattle.solo_view.specs.Changes.{mark}
use Rattle.solo_memory.proofs.changes.Changes.flush.Goals as goal

pub loop-change-preserved : goal.loop-change-preserved
loop-change-preserved c = grind (arith, common_steps, map_over_more (mark c.args.line))
