use Rattle.std.proofs.Common.{◌<◌, length, sym, ◌∙◌, ap, [], ◌∷◌, ◌++◌}
use Rattle.std.proofs.lemmas.Result.{err_from_is_err_and}
use Rattle.pm_script.specs.Words.{texts}
use Rattle.pm_script.proofs.Answering.{value_found, none_found}
use Rattle.pm_script.proofs.Wants.{wants_more, all_wants, no_want}
use Rattle.pm_script.proofs.WordLists.{text_at, text_inside}
use Rattle.pm_script.proofs.either.begin_of.Goals as goal

pub returns-in_err-want : goal.returns-in_err-want
returns-in_err-want c =
    let operands = c.args.operands.now in
    let k = c.loop-operand.operand-index in
    let inside : k < length operands = c.loop-operand-test.true in
    let none = none_found c.want_of.result _ c.in_err-want.field-0.0 (sym c.ok_or.ensures.value ∙ c.in_err-want.was) in
    let p = err_from_is_err_and c.from_residual.result c.from_residual.ensures.1 in
    rw (p.1, p.2, none.1) (no_want c.args.context.now (texts operands) k (text_inside operands k inside) _ (text_at operands k _ inside) (sym c.want_of.ensures ∙ none.0))

pub loop-operand-preserved : goal.loop-operand-preserved
loop-operand-preserved c =
    let operands = c.args.operands.now in
    let k = c.loop-operand.operand-index in
    let inside : k < length operands = c.loop-operand-test.true in
    let is = sym c.want_of.ensures ∙ value_found c.want_of.result _ c.in_ok-want.want (sym c.ok_or.ensures.value ∙ c.in_ok-want.was) in
    let here = text_at operands k _ inside in
    let low = text_inside operands k inside in (
      c.in_ok-push.ensures.items ∙ ap (λ ws. ws ++ c.in_ok-want.want ∷ []) c.loop-operand.invariant.0 ∙ sym (wants_more c.args.context.now (texts operands) k low _ here c.in_ok-want.want is),
      all_wants c.args.context.now (texts operands) k low _ here c.in_ok-want.want is c.loop-operand.invariant.1,
    )
