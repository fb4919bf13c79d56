use Rattle.std.proofs.Common.{◌≡◌, ◌∙◌, ap, inr, refl}
use Rattle.std.proofs.lemmas.Result.{IfErr-at_err}
use Rattle.pm_objects.specs.declared.refusal.Refusal.TheVariants.{NoObject}
use Rattle.solo_world.specs.declared.lane.Lane.{Lane}
use Rattle.solo_lock.proofs.FoundObjects.{taken_lines}
use Rattle.solo_lock.proofs.GivenBack.{busy}
use Rattle.solo_tx.proofs.BeginPlanned.{answered_cause, answered_leaves, begun, missed, missing, no_object_goes, no_stop}
use Rattle.solo_tx.proofs.beginning.begin_planned.Goals as goal

pub returns-then-not-take_all-clause-fails : goal.returns-then-not-take_all-clause-fails
returns-then-not-take_all-clause-fails g c v is =
    let t = c.take_all.ensures.not_taken c.if-not-take_all.true v is in
    busy g.M.LaneMem.at c.take_all.new.lane c.give_back.new.lane v t (c.give_back.ensures.given t.view t.held)

pub find_objects-requires-clause-lines : goal.find_objects-requires-clause-lines
find_objects-requires-clause-lines g c =
    let r = c.requires.begun in
    let t = c.take_all.ensures.taken c.if-not-take_all.false r.0 r.1 in
    (t.view, (t.begun, taken_lines g.M.LaneMem.at c.take_all.new.lane r.0 c.args.plan.now t))

pub refuse_call-requires : goal.refuse_call-requires
refuse_call-requires g c =
    let r = c.requires.begun in
    let t = c.take_all.ensures.taken c.if-not-take_all.false r.0 r.1 in
    let f = c.find_objects.ensures.found t.view t.begun (taken_lines g.M.LaneMem.at c.take_all.new.lane r.0 c.args.plan.now t) in
    record { begun = (f.view, f.begun) }

pub returns-then-not-find_objects-clause-lacks : goal.returns-then-not-find_objects-clause-lacks
returns-then-not-find_objects-clause-lacks g c same v is =
    let t = c.take_all.ensures.taken c.if-not-take_all.false v is in
    let f = c.find_objects.ensures.found t.view t.begun (taken_lines g.M.LaneMem.at c.take_all.new.lane v c.args.plan.now t) in
    let goes = no_object_goes c.refuse_call.result (IfErr-at_err (λ r. c.refuse_call.result ≡ r) same refl) in
    missing g.M.LaneMem.at c.args.lane.now c.take_all.new.lane c.find_objects.new.lane c.args.wants.now c.args.plan.now c.requires.plan (ap (λ (l : Lane g.row.M.Denot). l.pool) c.find_objects.ensures.else_same ∙ ap (λ (l : Lane g.row.M.Denot). l.pool) c.take_all.ensures.else_same)
    (ap (λ (l : Lane g.row.M.Denot). l.shape) c.find_objects.ensures.else_same ∙ ap (λ (l : Lane g.row.M.Denot). l.shape) c.take_all.ensures.else_same) v t c.find_objects.result f
    c.if-not-find_objects.true c.refuse_call.new.lane (c.refuse_call.ensures.refused goes f.view f.begun)

pub returns-then-not-find_objects-clause-fails : goal.returns-then-not-find_objects-clause-fails
returns-then-not-find_objects-clause-fails g c v is =
    let t = c.take_all.ensures.taken c.if-not-take_all.false v is in
    let f = c.find_objects.ensures.found t.view t.begun (taken_lines g.M.LaneMem.at c.take_all.new.lane v c.args.plan.now t) in
    let e = c.refuse_call.ensures in
    missed g.M.LaneMem.at c.args.lane.now c.take_all.new.lane c.find_objects.new.lane c.args.wants.now c.args.plan.now c.requires.plan (ap (λ (l : Lane g.row.M.Denot). l.pool) c.find_objects.ensures.else_same ∙ ap (λ (l : Lane g.row.M.Denot). l.pool) c.take_all.ensures.else_same)
    (ap (λ (l : Lane g.row.M.Denot). l.shape) c.find_objects.ensures.else_same ∙ ap (λ (l : Lane g.row.M.Denot). l.shape) c.take_all.ensures.else_same) v t c.find_objects.result f
    c.if-not-find_objects.true c.refuse_call.new.lane c.refuse_call.result e.answer (λ goes reason. (e.refused goes f.view f.begun reason).refused) (λ stopped. e.stops (no_stop NoObject (inr refl)) stopped f.view f.begun)

pub returns-then-not-find_objects-clause-leaves : goal.returns-then-not-find_objects-clause-leaves
returns-then-not-find_objects-clause-leaves g c =
    let e = c.refuse_call.ensures in
    answered_leaves NoObject c.refuse_call.result (inr refl) e.answer c.args.lane.now c.find_objects.new.lane c.refuse_call.new.lane
    (c.find_objects.ensures.else_same ∙ ap (λ (l : Lane g.row.M.Denot). record l { memory = c.find_objects.new.lane.memory; locks = c.find_objects.new.lane.locks }) c.take_all.ensures.else_same) c.requires.begun.1.unstopped e.lane
    (e.stopped_lane (no_stop NoObject (inr refl)))

pub returns-then-not-find_objects-clause-causes : goal.returns-then-not-find_objects-clause-causes
returns-then-not-find_objects-clause-causes g c = answered_cause NoObject c.refuse_call.result (inr refl) c.refuse_call.ensures.answer

pub open_call-requires : goal.open_call-requires
open_call-requires g c =
    let r = c.requires.begun in
    let t = c.take_all.ensures.taken c.if-not-take_all.false r.0 r.1 in
    let f = c.find_objects.ensures.found t.view t.begun (taken_lines g.M.LaneMem.at c.take_all.new.lane r.0 c.args.plan.now t) in
    record { begun = (f.view, f.begun) }

pub returns-clause-begun : goal.returns-clause-begun
returns-clause-begun g c v is =
    let t = c.take_all.ensures.taken c.if-not-take_all.false v is in
    let f = c.find_objects.ensures.found t.view t.begun (taken_lines g.M.LaneMem.at c.take_all.new.lane v c.args.plan.now t) in
    begun g.M.LaneMem.at c.args.lane.now c.take_all.new.lane c.find_objects.new.lane c.args.wants.now c.args.plan.now c.requires.plan (ap (λ (l : Lane g.row.M.Denot). l.pool) c.find_objects.ensures.else_same ∙ ap (λ (l : Lane g.row.M.Denot). l.pool) c.take_all.ensures.else_same)
    (ap (λ (l : Lane g.row.M.Denot). l.shape) c.find_objects.ensures.else_same ∙ ap (λ (l : Lane g.row.M.Denot). l.shape) c.take_all.ensures.else_same) v t c.find_objects.result f
    c.if-not-find_objects.false c.open_call.new.lane (c.open_call.ensures.seen f.view f.begun) (λ o. c.open_call.ensures.at_work o f.view f.begun)
