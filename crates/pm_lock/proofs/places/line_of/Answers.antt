use Rattle.std.proofs.Common.{sym, ◌∙◌}
use Rattle.pm_lock.proofs.CanBegin.{begins_high}
use Rattle.pm_lock.proofs.places.line_of.Goals as goal

pub overflow_sub-result : goal.overflow_sub-result
overflow_sub-result c = begins_high c.args.shape c.args.id.off (sym c.can_begin.ensures ∙ c.if-can_begin.true)
