use Rattle.std.proofs.Common.{◌≡◌, ◌+◌, ◌<◌, List, length, IsNone, IfSome, sym, ◌∙◌, subst}
use Rattle.pm_undo.specs.declared.spans.Span.{Span}
use Rattle.pm_undo.proofs.Planning.{plans_nothing, plans_words}
use Rattle.pm_undo.proofs.spans.plan.Goals as goal

pub returns-then-len-eq0-clause-some : goal.returns-then-len-eq0-clause-some
returns-then-len-eq0-clause-some c = c.new.ensures ∙ sym (plans_nothing c.args.records.now c.args.place c.args.len c.if-len-eq0.true)

pub returns-clause-some : goal.returns-clause-some
returns-clause-some c =
    subst (λ (spans : List Span). IfSome c.plan_words.result (λ new. new.items ≡ spans)) (sym (plans_words c.args.records.now c.args.place c.args.len c.if-len-eq0.false)) c.plan_words.ensures.some

pub returns-clause-none : goal.returns-clause-none
returns-clause-none c =
    subst (λ (spans : List Span). IsNone c.plan_words.result → 64 < length c.args.records.now + length spans) (sym (plans_words c.args.records.now c.args.place c.args.len c.if-len-eq0.false)) c.plan_words.ensures.none
