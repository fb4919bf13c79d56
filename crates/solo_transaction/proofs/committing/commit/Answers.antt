use Rattle.std.proofs.Common.{◌≡◌, ap, rules}
use Rattle.solo_tx.proofs.Committed.{on_err}
use Rattle.solo_world.specs.declared.lane.Lane.{Lane}
use Rattle.solo_transaction.proofs.BlockCommits.{stays_with}
use Rattle.solo_transaction.proofs.committing.commit.Goals as goal

pub returns-in_ok-commit_outer-clause-committed : goal.returns-in_ok-commit_outer-clause-committed
returns-in_ok-commit_outer-clause-committed g c o v is can outer = c.in_ok-commit_outer.ensures.committed o v is can

pub returns-in_err-commit_outer-clause-stops_ended : goal.returns-in_err-commit_outer-clause-stops_ended
returns-in_err-commit_outer-clause-stops_ended g c =
    on_err _ c.from_residual-in_err-commit_outer.result (λ none o v is can no_block. c.in_err-commit_outer.ensures.stops_ended o v is can no_block (let outer : c.args.lane.now.level ≡ 1 = search rules in outer))

pub returns-else-lane-eq1-clause-inner_stays : goal.returns-else-lane-eq1-clause-inner_stays
returns-else-lane-eq1-clause-inner_stays g c o v is inner =
    stays_with o g.M.LaneMem.at c.args.lane.now c.args.blocks.now v is _ (ap (λ (lane : Lane g.row.M.Denot). lane.locks) c.commit_inner.ensures.lane) (c.commit_inner.ensures.stays o v is.work inner)
