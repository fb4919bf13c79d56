use Rattle.std.proofs.Common.{◌≡◌, rules}
use Rattle.solo_tx.proofs.Committed.{on_err}
use Rattle.solo_tx.proofs.committing.commit.Goals as goal

pub returns-in_err-commit_outer-clause-stops : goal.returns-in_err-commit_outer-clause-stops
returns-in_err-commit_outer-clause-stops g c =
    on_err _ c.from_residual-in_err-commit_outer.result (λ none o v is keeps. c.in_err-commit_outer.ensures.stops o v is keeps (let outer : c.args.lane.now.level ≡ 1 = search rules in outer))
