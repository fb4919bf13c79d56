use Rattle.std.proofs.Common.{◌≡◌, Err, rules}
use Rattle.solo_tx.proofs.Checked.{if_err, of_err}
use Rattle.solo_tx.proofs.reading.read.Goals as goal

pub returns-in_err-read_at_work-clause-given_up : goal.returns-in_err-read_at_work-clause-given_up
returns-in_err-read_at_work-clause-given_up g c =
    if_err _ c.from_residual-in_err-read_at_work.result (λ r is none. let e : c.read_at_work.result ≡ Err r = search rules in of_err _ c.read_at_work.result r e c.read_at_work.ensures.given_up)

pub returns-in_err-read_at_work-clause-stopped : goal.returns-in_err-read_at_work-clause-stopped
returns-in_err-read_at_work-clause-stopped g c =
    if_err _ c.from_residual-in_err-read_at_work.result (λ r is none. let e : c.read_at_work.result ≡ Err r = search rules in of_err _ c.read_at_work.result r e c.read_at_work.ensures.stopped)
