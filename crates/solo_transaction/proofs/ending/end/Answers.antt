use Rattle.solo_transaction.proofs.Ended.{ended_with, keeps_given, may_reclaim, not_refused}
use Rattle.solo_transaction.proofs.PublishChecks.{ok_when}
use Rattle.solo_transaction.proofs.RangeOrigins.{on_ok}
use Rattle.std.proofs.Common.{rules, ◌≡◌, true}
use Rattle.std.specs.Result.{is_ok}
use Rattle.solo_tx.specs.Stages.{end_refusal}
use Rattle.solo_transaction.proofs.ending.end.Goals as goal

pub returns-then-is_ok-clause-ended : goal.returns-then-is_ok-clause-ended
returns-then-is_ok-clause-ended g c =
    let at = g.M.LaneMem.at in
    let next = c.end-ended.new.lane in
    on_ok _ _ (λ closes v may keeps outermost.
    let closed = closes v may.behind outermost in
    ended_with at c.args.lane.now next v may c.args.lane.now.locks.items c.args.kept.now closed c.reclaim.new.mem
    (c.reclaim.ensures _ closed.rests.seen.memory (may_reclaim at c.args.lane.now next v may c.args.lane.now.locks.items c.args.kept.now closed) (keeps_given at c.args.lane.now next v may c.args.lane.now.locks.items c.args.kept.now closed keeps))) c.end-ended.result c.end-ended.ensures.closed

pub reclaim-requires : goal.reclaim-requires
reclaim-requires g c =
    let at = g.M.LaneMem.at in
    let next = c.end-ended.new.lane in
    let locks = c.args.lane.now.locks.items in
    let kept = c.args.kept.now in
    let ok : is_ok c.end-ended.result ≡ true = search rules in
    let outermost : c.args.lane.now.level ≡ 1 = search rules in
    let may = c.requires.may (not_refused (end_refusal c.args.lane.now) c.end-ended.result c.end-ended.ensures.refused ok) outermost in
    let closed = ok_when c.end-ended.result _ ok c.end-ended.ensures.closed may.0 may.1.0.behind outermost in
    (_, (closed.rests.seen.memory, may_reclaim at c.args.lane.now next may.0 may.1.0 locks kept closed, keeps_given at c.args.lane.now next may.0 may.1.0 locks kept closed may.1.1))
