use Rattle.solo_tx.proofs.Committed.{on_err}
use Rattle.solo_tx.proofs.BorneOut.{gives_up_by_abort}
use Rattle.solo_tx.proofs.aborting.abort.Goals as goal

pub returns-in_err-give_up-clause-stops : goal.returns-in_err-give_up-clause-stops
returns-in_err-give_up-clause-stops g c =
    on_err _ c.from_residual-in_err-give_up.result
    (λ none o v is may. c.in_err-give_up.ensures.stops o v is (gives_up_by_abort o g.M.LaneMem.at c.args.lane.now v is may c.args.errnum c.aborted_with-error.result c.aborted_with-error.ensures))

pub returns-clause-ended : goal.returns-clause-ended
returns-clause-ended g c o v is may = c.in_ok-give_up.ensures.ended o v is (gives_up_by_abort o g.M.LaneMem.at c.args.lane.now v is may c.args.errnum c.aborted_with-error.result c.aborted_with-error.ensures)
