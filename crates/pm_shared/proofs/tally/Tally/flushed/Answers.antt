use Rattle.std.proofs.Common.{arith}
use Rattle.std.proofs.lemmas.List.Edits.{map_over_more}
use Rattle.std.proofs.lemmas.Grind.{common_steps}
use Rattle.pm_memory.specs.Changes.{change_flushed}
use Rattle.pm_shared.proofs.tally.Tally.flushed.Goals as goal

pub loop-change-preserved : goal.loop-change-preserved
loop-change-preserved c = grind (arith, common_steps, map_over_more (change_flushed c.args.line))
