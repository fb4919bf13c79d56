use Rattle.std.proofs.Common.{◌∙◌, refl, sym}
use Rattle.solo_crash.specs.OnActions.{set_refusal}
use Rattle.solo_crash.specs.Pending.{pending_before}
use Rattle.pm_objects.specs.declared.calls.Operation.TheVariants.{SetValue}
use Rattle.solo_tx.proofs.BeginPlanned.{no_locks}
use Rattle.solo_action.proofs.ToldOutside.{begun_unlocked}
use Rattle.solo_action.proofs.Answered.{answered_since, set_cause, set_of_pending}
use Rattle.solo_action.proofs.RestingAgain.{fields_kept}
use Rattle.solo_action.proofs.deferring.set_value.Goals as goal

pub answer_outside-requires : goal.answer_outside-requires
answer_outside-requires g c =
    let r = c.requires.rests c.if-lane.false in
    let s = c.in_ok-start.ensures.begun r.0 r.1 in
    record { begun = (_, (s.begun, begun_unlocked g.M.LaneMem.at c.start.new.lane _ s.begun (no_locks g.M.LaneMem.at c.args.lane.now c.start.new.lane r.0 c.in_ok-start.field-0 s r.1 c.start.ensures.else_same))) }

pub returns-clause-made : goal.returns-clause-made
returns-clause-made g c v rests list_is =
    let s = c.in_ok-start.ensures.begun v rests in
    rw c.answer_outside.ensures.answer
    (answered_since g.M.LaneMem.at c.start.new.lane c.answer_outside.new.lane v c.in_ok-start.field-0 s (SetValue c.args.action.id c.args.action.off c.args.action.value) c.set-answer.result (set_refusal c.args.action.off (pending_before v)) (set_of_pending c.set-answer.result c.set-answer.ensures.causes) (c.set-answer.ensures.reason (pending_before v) list_is) refl
    (λ w begun. c.answer_outside.ensures.told w begun (begun_unlocked g.M.LaneMem.at c.start.new.lane w begun (no_locks g.M.LaneMem.at c.args.lane.now c.start.new.lane v c.in_ok-start.field-0 s rests c.start.ensures.else_same))))

pub returns-clause-spent : goal.returns-clause-spent
returns-clause-spent g c spent = absurd ((set_of_pending c.set-answer.result c.set-answer.ensures.causes).unspent (sym c.answer_outside.ensures.answer ∙ spent))

pub returns-clause-lane : goal.returns-clause-lane
returns-clause-lane g c =
    let r = c.requires.rests c.if-lane.false in
    fields_kept g.M.LaneMem.at c.args.lane.now c.start.new.lane c.answer_outside.new.lane r.0 c.in_ok-start.field-0 r.1 (c.in_ok-start.ensures.begun r.0 r.1) c.start.ensures.else_same c.answer_outside.ensures.free c.answer_outside.ensures.lane

pub returns-clause-causes : goal.returns-clause-causes
returns-clause-causes g c = rw c.answer_outside.ensures.answer (set_cause c.args.lane.now.stopped c.args.action.off c.args.pending.now c.set-answer.result c.if-lane.false (set_of_pending c.set-answer.result c.set-answer.ensures.causes) c.set-answer.ensures.reason)
