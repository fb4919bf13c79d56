use Rattle.std.proofs.Common.{◌≡◌, None, sym, ◌∙◌, rules}
use Rattle.solo_crash.specs.OnActions.{defer_refusal}
use Rattle.solo_pending.specs.Pending.{refusal_in}
use Rattle.solo_pending.proofs.AllRefused.{defer_answers}
use Rattle.solo_pending.proofs.pending.PendingActions.defer_free.Goals as goal

pub returns-in_err-check_room-clause-answers : goal.returns-in_err-check_room-clause-answers
returns-in_err-check_room-clause-answers c = λ pool p lists.
    let reason : refusal_in c.from_residual.result ≡ defer_refusal p = search rules in defer_answers pool p c.args.id ∙ sym reason

pub returns-clause-answers : goal.returns-clause-answers
returns-clause-answers c = λ pool p lists.
    let reason : None ≡ defer_refusal p = search rules in defer_answers pool p c.args.id ∙ sym reason
