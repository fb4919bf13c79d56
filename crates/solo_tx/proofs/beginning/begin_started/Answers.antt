use Rattle.std.proofs.Common.{◌≡◌, Err, ap, refl, sym, ◌∙◌}
use Rattle.std.proofs.lemmas.Result.{IfErr-at_err}
use Rattle.solo_tx.proofs.BeganWanted.{unplanned_lacks, unplanned_reason}
use Rattle.solo_tx.proofs.BeginPlanned.{answered_cause, answered_fails, answered_leaves, no_object_goes, no_stop}
use Rattle.solo_tx.proofs.beginning.begin_started.Goals as goal

pub returns-in-Err-clause-fails : goal.returns-in-Err-clause-fails
returns-in-Err-clause-fails g c v is =
    let e = c.refuse_call.ensures in
    let cause = c.in-Err.ensures.causes in
    let reason = unplanned_reason c.args.lane.now.pool c.args.lane.now.shape.lanes c.args.lane.now.shape.zones v c.args.wants.now is.seen.pool is.seen.shape.lanes is.seen.shape.zones c.in-Err.why
    cause (λ same. c.in-Err.ensures.full (ap Err same)) (λ same. c.in-Err.ensures.no_object (ap Err same)) in
    answered_fails c.in-Err.why c.refuse_call.result cause e.answer g.M.LaneMem.at c.refuse_call.new.lane v c.args.wants.now
    (λ goes. (e.refused goes v is reason).refused) (λ stopped. e.stops (no_stop c.in-Err.why cause) stopped v is reason)

pub returns-in-Err-clause-lacks : goal.returns-in-Err-clause-lacks
returns-in-Err-clause-lacks g c same v is =
    let answer = IfErr-at_err (λ r. c.refuse_call.result ≡ r) same refl in
    let goes = no_object_goes c.refuse_call.result answer in
    unplanned_lacks c.args.lane.now.pool c.args.lane.now.shape.lanes c.args.lane.now.shape.zones v c.args.wants.now is.seen.pool is.seen.shape.lanes is.seen.shape.zones g.M.LaneMem.at c.refuse_call.new.lane c.in-Err.why
    (sym (c.refuse_call.ensures.answer goes) ∙ answer) (λ same. c.in-Err.ensures.no_object (ap Err same)) (c.refuse_call.ensures.refused goes v is)

pub returns-in-Err-clause-leaves : goal.returns-in-Err-clause-leaves
returns-in-Err-clause-leaves g c =
    let e = c.refuse_call.ensures in
    let cause = c.in-Err.ensures.causes in
    answered_leaves c.in-Err.why c.refuse_call.result cause e.answer c.args.lane.now c.args.lane.now c.refuse_call.new.lane refl c.requires.begun.1.unstopped e.lane (e.stopped_lane (no_stop c.in-Err.why cause))

pub returns-in-Err-clause-causes : goal.returns-in-Err-clause-causes
returns-in-Err-clause-causes g c = answered_cause c.in-Err.why c.refuse_call.result c.in-Err.ensures.causes c.refuse_call.ensures.answer
