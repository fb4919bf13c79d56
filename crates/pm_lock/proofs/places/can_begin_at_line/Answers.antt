use Rattle.std.proofs.Common.{sym, arith, ◌∙◌, ◌<◌, ◌||◌}
use Rattle.pm_lock.proofs.CanBegin.{at_line_0, behind_line_0}
use Rattle.pm_lock.proofs.places.can_begin_at_line.Goals as goal

pub returns-then-line-eq0 : goal.returns-then-line-eq0
returns-then-line-eq0 c = sym (at_line_0 c.args.line c.if-line-eq0.true)

pub returns : goal.returns
returns c =
    let some : 0 < c.args.line = (let more = c.if-line-eq0.false in omega (arith, more)) in
    (λ i. ((((((c.begins.ensures i || c.begins-2.ensures i) || c.begins-3.ensures i) || c.begins-4.ensures i) || c.begins-5.ensures i) || c.begins-6.ensures i) || c.begins-7.ensures i) || c.begins-8.ensures i)
    ∙ behind_line_0 c.args.line some
