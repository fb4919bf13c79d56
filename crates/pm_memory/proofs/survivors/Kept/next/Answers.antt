use Rattle.std.proofs.Common.{sym, ◌∙◌}
use Rattle.pm_memory.proofs.Choosing.{drawn_kept, drawn_moved}
use Rattle.pm_memory.proofs.survivors.Kept.next.Goals as goal

pub returns-in-Drawn-clause-kept : goal.returns-in-Drawn-clause-kept
returns-in-Drawn-clause-kept c keep draws is = drawn_kept keep draws c.in-Drawn.last c.number_after-number.result c.args.changes c.number_after-number.ensures (sym c.in-Drawn.is ∙ is)

pub returns-in-Drawn-clause-moved : goal.returns-in-Drawn-clause-moved
returns-in-Drawn-clause-moved c keep draws is = drawn_moved keep draws c.in-Drawn.last c.number_after-number.result c.number_after-number.ensures (sym c.in-Drawn.is ∙ is)
