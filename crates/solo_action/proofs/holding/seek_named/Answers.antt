use Rattle.std.proofs.Common.{◌≡◌, ◌+◌, Err, ap, subst, sym, take, ◌∙◌}
use Rattle.solo_model.specs.Actions.{wants_pending}
use Rattle.solo_action.specs.Holding.{IsHoldCause, named_in}
use Rattle.solo_action.proofs.RefusedHolding.{never_full, unplanned}
use Rattle.solo_action.proofs.holding.seek_named.Goals as goal

pub returns-in-Err-clause-sought : goal.returns-in-Err-clause-sought
returns-in-Err-clause-sought g c v is alone =
    let all : take (c.len.result + c.len-2.result) c.wants_of-wants.result ≡ wants_pending (named_in c.args.pending.now) = (λ i. take (c.len.ensures.value i + c.len-2.ensures.value i) c.wants_of-wants.result) ∙ c.wants_of-wants.ensures in
    unplanned g.M.LaneMem.at c.args.lane.now c.args.pending.now v is _ all c.in-Err.refusal
    (never_full c.args.lane.now.pool c.args.lane.now.shape.lanes c.args.lane.now.shape.zones c.args.pending.now _ c.in-Err.refusal all c.requires.few c.in-Err.ensures.causes (λ full. c.in-Err.ensures.full (ap Err full)))
    (λ none. (c.in-Err.ensures.no_object (ap Err none)).1)

pub returns-in-Err-clause-causes : goal.returns-in-Err-clause-causes
returns-in-Err-clause-causes g c =
    let all : take (c.len.result + c.len-2.result) c.wants_of-wants.result ≡ wants_pending (named_in c.args.pending.now) = (λ i. take (c.len.ensures.value i + c.len-2.ensures.value i) c.wants_of-wants.result) ∙ c.wants_of-wants.ensures in
    subst IsHoldCause
    (sym (never_full c.args.lane.now.pool c.args.lane.now.shape.lanes c.args.lane.now.shape.zones c.args.pending.now _ c.in-Err.refusal all c.requires.few c.in-Err.ensures.causes (λ full. c.in-Err.ensures.full (ap Err full))))
    tt
