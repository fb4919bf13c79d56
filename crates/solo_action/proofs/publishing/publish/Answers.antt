use Rattle.std.proofs.Common.{◌∙◌, None, inl, ap, subst, sym}
use Rattle.std.proofs.lemmas.Bool.{false≢true}
use Rattle.std.proofs.lemmas.Result.{err_from_is_err_and}
use Rattle.solo_epoch.proofs.RestingReservations.{begun_entries}
use Rattle.solo_epoch.specs.Reserving.{with_next_call}
use Rattle.pm_objects.specs.declared.calls.Operation.TheVariants.{Publish}
use Rattle.solo_pending.specs.AllPending.{IsPendingAs}
use Rattle.solo_world.specs.declared.lane.Lane.{Lane}
use Rattle.solo_tx.proofs.BeginPlanned.{no_locks}
use Rattle.solo_action.proofs.AloneAtRest.{rests_is_alone}
use Rattle.solo_action.proofs.BeginningAlone.{next_led}
use Rattle.solo_action.proofs.PublishEnds.{empty_whole, ends_further, missing_alone, past_alone, root_alone}
use Rattle.solo_action.proofs.PublishStarted.{begins_to_publish, none_listed}
use Rattle.solo_action.proofs.RestingAgain.{fields_kept, fields_rested}
use Rattle.solo_action.proofs.Started.{pending_started, told_at_once_since}
use Rattle.solo_action.proofs.ToldOutside.{begun_unlocked}
use Rattle.solo_action.proofs.publishing.publish.Goals as goal

pub returns-in_err-start-clause-ends : goal.returns-in_err-start-clause-ends
returns-in_err-start-clause-ends g c v r stays are =
    let p = err_from_is_err_and c.from_residual.result c.from_residual.ensures.1 in
    rw (p.1, p.2, c.in_err-start.ensures.causes) (c.in_err-start.ensures.spent v r.rests)

pub end_outside-requires : goal.end_outside-requires
end_outside-requires g c =
    let r = c.requires.rests c.if-lane.false in
    let s = c.in_ok-start.ensures.begun r.0 r.1.0.rests in
    record { begun = (_, (s.begun, begun_unlocked g.M.LaneMem.at c.start.new.lane _ s.begun (no_locks g.M.LaneMem.at c.args.lane.now c.start.new.lane r.0 c.in_ok-start.field-0 s r.1.0.rests c.start.ensures.else_same))) }

pub returns-then-count-eq0-clause-ends : goal.returns-then-count-eq0-clause-ends
returns-then-count-eq0-clause-ends g c v r stays are =
    let at = g.M.LaneMem.at in
    let n = c.in_ok-start.field-0 in
    let s = c.in_ok-start.ensures.begun v r.rests in
    let none = none_listed c.args.pending.now v are (sym c.count.ensures.listed ∙ c.if-count-eq0.true) in
    let free = no_locks at c.args.lane.now c.start.new.lane v n s r.rests c.start.ensures.else_same in
    inl (record {
      none = none;
      told = told_at_once_since at c.start.new.lane v n s c.end_outside.new.lane Publish None
          (c.end_outside.ensures.told _ s.begun (begun_unlocked at c.start.new.lane _ s.begun free) (inl (empty_whole at c.start.new.lane _ s.begun free (pending_started at c.start.new.lane v n s ∙ none))));
    })

pub returns-then-count-eq0-clause-emptied : goal.returns-then-count-eq0-clause-emptied
returns-then-count-eq0-clause-emptied g c =
    let r = c.requires.rests c.if-lane.false in
    subst (IsPendingAs c.args.pending.now) (none_listed c.args.pending.now r.0 r.1.2 (sym c.count.ensures.listed ∙ c.if-count-eq0.true)) r.1.2

pub returns-then-count-eq0-clause-lane : goal.returns-then-count-eq0-clause-lane
returns-then-count-eq0-clause-lane g c unstopped =
    let r = c.requires.rests c.if-lane.false in
    fields_kept g.M.LaneMem.at c.args.lane.now c.start.new.lane c.end_outside.new.lane r.0 c.in_ok-start.field-0 r.1.0.rests (c.in_ok-start.ensures.begun r.0 r.1.0.rests) c.start.ensures.else_same c.end_outside.ensures.free c.end_outside.ensures.lane

pub publish_begun-requires-clause-begun : goal.publish_begun-requires-clause-begun
publish_begun-requires-clause-begun g c =
    let r = c.requires.rests c.if-lane.false in
    let s = c.in_ok-start.ensures.begun r.0 r.1.0.rests in
    (with_next_call r.0, begins_to_publish g.M.LaneMem.at c.args.lane.now c.start.new.lane r.0 c.in_ok-start.field-0 r.1.0 s c.start.ensures.else_same r.1.1 c.args.pending.now r.1.2)

pub publish_begun-requires-clause-free : goal.publish_begun-requires-clause-free
publish_begun-requires-clause-free g c =
    let r = c.requires.rests c.if-lane.false in
    no_locks g.M.LaneMem.at c.args.lane.now c.start.new.lane r.0 c.in_ok-start.field-0 (c.in_ok-start.ensures.begun r.0 r.1.0.rests) r.1.0.rests c.start.ensures.else_same

pub returns-clause-ends : goal.returns-clause-ends
returns-clause-ends g c v r stays are =
    let at = g.M.LaneMem.at in
    let n = c.in_ok-start.field-0 in
    let s = c.in_ok-start.ensures.begun v r.rests in
    ends_further at c.publish_begun.new.lane v (with_next_call v) (rests_is_alone at c.args.lane.now v r) (next_led at c.args.lane.now c.start.new.lane v n r s) (begun_entries v) c.args.pending.now c.publish_begun.new.blocks c.publish_begun.result
    c.publish_begun.ensures.causes
    (c.publish_begun.ensures.ends (with_next_call v) (begins_to_publish at c.args.lane.now c.start.new.lane v n r s c.start.ensures.else_same stays c.args.pending.now are))

pub returns-clause-missing : goal.returns-clause-missing
returns-clause-missing g c is v r stays are =
    missing_alone g.M.LaneMem.at c.publish_begun.new.lane c.args.pending.now c.publish_begun.new.blocks v c.publish_begun.result (returns-clause-ends g c v r stays are) (rests_is_alone g.M.LaneMem.at c.args.lane.now v r) is

pub returns-clause-root_kept : goal.returns-clause-root_kept
returns-clause-root_kept g c is v r stays are =
    root_alone g.M.LaneMem.at c.publish_begun.new.lane c.args.pending.now c.publish_begun.new.blocks v c.publish_begun.result (returns-clause-ends g c v r stays are) (rests_is_alone g.M.LaneMem.at c.args.lane.now v r) is

pub returns-clause-past_end : goal.returns-clause-past_end
returns-clause-past_end g c is v r stays are =
    past_alone g.M.LaneMem.at c.publish_begun.new.lane c.args.pending.now c.publish_begun.new.blocks v c.publish_begun.result (returns-clause-ends g c v r stays are) (rests_is_alone g.M.LaneMem.at c.args.lane.now v r) is

pub returns-clause-lane : goal.returns-clause-lane
returns-clause-lane g c unstopped =
    let r = c.requires.rests c.if-lane.false in
    fields_rested g.M.LaneMem.at c.args.lane.now c.start.new.lane c.publish_begun.new.lane r.0 r.1.0.rests c.start.ensures.else_same
    (c.publish_begun.ensures.lane (λ is. false≢true (sym unstopped ∙ ap (λ (l : Lane g.row.M.Denot). l.stopped) (c.publish_begun.ensures.stopped_lane is))))
