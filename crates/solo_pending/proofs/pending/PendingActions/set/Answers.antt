use Rattle.std.proofs.Common.{◌≡◌, None, sym, ◌∙◌, rules}
use Rattle.solo_crash.specs.OnActions.{set_refusal}
use Rattle.solo_pending.specs.Pending.{refusal_in}
use Rattle.solo_pending.proofs.AllRefused.{set_answers}
use Rattle.solo_pending.proofs.pending.PendingActions.set.Goals as goal

pub returns-in_err-check_set-clause-answers : goal.returns-in_err-check_set-clause-answers
returns-in_err-check_set-clause-answers c = λ pool p lists.
    let reason : refusal_in c.from_residual.result ≡ set_refusal c.args.action.off p = search rules in set_answers pool p c.args.action.id c.args.action.off c.args.action.value ∙ sym reason

pub returns-clause-answers : goal.returns-clause-answers
returns-clause-answers c = λ pool p lists.
    let reason : None ≡ set_refusal c.args.action.off p = search rules in set_answers pool p c.args.action.id c.args.action.off c.args.action.value ∙ sym reason
