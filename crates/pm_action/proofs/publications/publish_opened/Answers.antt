use Rattle.std.proofs.Common.{◌≡◌, ◌≢◌, ◌∙◌, ap, take, arith, rules}
use Rattle.std.proofs.lemmas.List.{length-take-le}
use Rattle.pm_objects.specs.declared.refusal.Refusal.TheVariants as refusal
use Rattle.pm_call.specs.PublicationParts.{wants_of_actions}
use Rattle.pm_action.proofs.PublicationLocks.{may_lock, may_look, may_refuse_locks, may_refuse_past, may_set, published, refused_locks, refused_past, stopped_waiting}
use Rattle.pm_action.proofs.publications.publish_opened.Goals as goal

pub lock_objects-requires : goal.lock_objects-requires
lock_objects-requires g c = may_lock g.M.LaneMem.at c.args.lane.now (take c.want_words-many.result c.want_words-many.new.wants) (c.want_words-many.ensures.wants ∙ ap wants_of_actions (let e : c.as_slice.result.now ≡ c.args.lane.now.pending.items = search rules in e)) c.requires

pub look_pending-requires : goal.look_pending-requires
look_pending-requires g c = may_look g.M.LaneMem.at c.args.lane.now (take c.want_words-many.result c.want_words-many.new.wants) (c.want_words-many.ensures.wants ∙ ap wants_of_actions (let e : c.as_slice.result.now ≡ c.args.lane.now.pending.items = search rules in e)) c.lock_objects.new.lane c.in-Ok.ensures c.requires

pub set_words-requires : goal.set_words-requires
set_words-requires g c = may_set g.M.LaneMem.at c.args.lane.now (take c.want_words-many.result c.want_words-many.new.wants) (c.want_words-many.ensures.wants ∙ ap wants_of_actions (let e : c.as_slice.result.now ≡ c.args.lane.now.pending.items = search rules in e)) c.lock_objects.new.lane c.in-Ok.ensures c.look_pending.new.lane c.requires c.if-look_pending.ensures

pub refuse_publish-requires : goal.refuse_publish-requires
refuse_publish-requires g c = may_refuse_past g.M.LaneMem.at c.args.lane.now (take c.want_words-many.result c.want_words-many.new.wants) (c.want_words-many.ensures.wants ∙ ap wants_of_actions (let e : c.as_slice.result.now ≡ c.args.lane.now.pending.items = search rules in e)) c.lock_objects.new.lane c.in-Ok.ensures c.look_pending.new.lane c.requires c.if-look_pending.ensures

pub refuse_publish-requires-in-Err : goal.refuse_publish-requires-in-Err
refuse_publish-requires-in-Err g c = may_refuse_locks g.M.LaneMem.at c.args.lane.now (take c.want_words-many.result c.want_words-many.new.wants) (c.want_words-many.ensures.wants ∙ ap wants_of_actions (let e : c.as_slice.result.now ≡ c.args.lane.now.pending.items = search rules in e)) c.lock_objects.new.lane (let long = c.want_words-many.array_long in let few = c.want_words-many.ensures.few in let e = length-take-le c.want_words-many.result c.want_words-many.new.wants (omega (arith, long, few)) in omega (arith, e, few)) c.in-Err.why (let ne : c.in-Err.why ≢ refusal.Stopped = search rules in ne) c.in-Err.ensures c.requires

pub returns-then-look_pending : goal.returns-then-look_pending
returns-then-look_pending g c = published g.M.LaneMem.at c.args.lane.now (take c.want_words-many.result c.want_words-many.new.wants) (c.want_words-many.ensures.wants ∙ ap wants_of_actions (let e : c.as_slice.result.now ≡ c.args.lane.now.pending.items = search rules in e)) c.lock_objects.new.lane c.in-Ok.ensures c.look_pending.new.lane c.if-look_pending.ensures c.set_words.new.lane c.set_words.result c.set_words.ensures

pub returns-else-look_pending : goal.returns-else-look_pending
returns-else-look_pending g c = refused_past g.M.LaneMem.at c.args.lane.now (take c.want_words-many.result c.want_words-many.new.wants) (c.want_words-many.ensures.wants ∙ ap wants_of_actions (let e : c.as_slice.result.now ≡ c.args.lane.now.pending.items = search rules in e)) c.lock_objects.new.lane c.in-Ok.ensures c.look_pending.new.lane c.if-look_pending.ensures c.refuse_publish.new.lane c.refuse_publish.ensures

pub returns-in-Err-Stopped : goal.returns-in-Err-Stopped
returns-in-Err-Stopped g c = stopped_waiting g.M.LaneMem.at c.args.lane.now (take c.want_words-many.result c.want_words-many.new.wants) (c.want_words-many.ensures.wants ∙ ap wants_of_actions (let e : c.as_slice.result.now ≡ c.args.lane.now.pending.items = search rules in e)) c.lock_objects.new.lane c.in-Err-Stopped.field-0 c.stop.result (search rules) c.in-Err-Stopped.ensures c.stop.new.lane c.stop.ensures.answer c.stop.ensures.lane

pub returns-in-Err : goal.returns-in-Err
returns-in-Err g c = refused_locks g.M.LaneMem.at c.args.lane.now (take c.want_words-many.result c.want_words-many.new.wants) (c.want_words-many.ensures.wants ∙ ap wants_of_actions (let e : c.as_slice.result.now ≡ c.args.lane.now.pending.items = search rules in e)) c.lock_objects.new.lane (let long = c.want_words-many.array_long in let few = c.want_words-many.ensures.few in let e = length-take-le c.want_words-many.result c.want_words-many.new.wants (omega (arith, long, few)) in omega (arith, e, few)) c.in-Err.why (let ne : c.in-Err.why ≢ refusal.Stopped = search rules in ne) c.in-Err.ensures c.refuse_publish-in-Err.new.lane c.refuse_publish-in-Err.ensures
