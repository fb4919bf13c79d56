use Rattle.std.proofs.Common.{◌≡◌, Err, rules}
use Rattle.solo_tx.proofs.Checked.{if_err, of_err}
use Rattle.solo_transaction.proofs.ranges.add_range.Goals as goal

pub returns-in_err-add_at_work-clause-given_up : goal.returns-in_err-add_at_work-clause-given_up
returns-in_err-add_at_work-clause-given_up g c =
    if_err _ c.from_residual-in_err-add_at_work.result (λ r is none. let e : c.add_at_work.result ≡ Err r = search rules in of_err _ c.add_at_work.result r e c.add_at_work.ensures.given_up)

pub returns-in_err-add_at_work-clause-stopped : goal.returns-in_err-add_at_work-clause-stopped
returns-in_err-add_at_work-clause-stopped g c =
    if_err _ c.from_residual-in_err-add_at_work.result (λ r is none. let e : c.add_at_work.result ≡ Err r = search rules in of_err _ c.add_at_work.result r e c.add_at_work.ensures.stopped)
