use Rattle.std.proofs.Common.{◌≡◌, ◌≤◌, get_or, length, ap, subst, refl, rules, take, All}
use Rattle.std.proofs.lemmas.List.Elements.{All-nil}
use Rattle.solo_world.specs.declared.lane.Lane.{Lane}
use Rattle.solo_pending.specs.Pending.{action_of}
use Rattle.solo_tx.proofs.Checked.{looks_call, looks_entries}
use Rattle.solo_tx.proofs.EachAction.{all_of_front}
use Rattle.solo_tx.proofs.PendingEntries.{no_action}
use Rattle.solo_transaction.proofs.PublishChecks.{SetsIn, objects_looked_at, passes_one, sets_further, unlooked}
use Rattle.solo_transaction.proofs.PublishKept.{left_kept}
use Rattle.solo_transaction.proofs.publish_checks.check_ends.Goals as goal

pub loop-action-init : goal.loop-action-init
loop-action-init g c = (refl, λ o v all. unlooked o g.M.LaneMem.at c.args.lane.now c.args.blocks.now v all (λ w. All (SetsIn w) (take 0 c.args.actions.now)) (All-nil (SetsIn v)))

pub ends_in_object-requires-clause-work : goal.ends_in_object-requires-clause-work
ends_in_object-requires-clause-work g c = let r = c.requires.work in let t = c.loop-action.invariant.1 r.0 r.1.0 r.1.1 in (r.0, (t.view, t.works))

pub returns-then-not-ends_in_object-clause-past : goal.returns-then-not-ends_in_object-clause-past
returns-then-not-ends_in_object-clause-past g c o v all left =
    let at = g.M.LaneMem.at in
    let actions = c.args.actions.now in
    let i = c.loop-action.action-index in
    let t = c.loop-action.invariant.1 o v all in
    let keeps = objects_looked_at o at c.args.lane.now c.loop-action.lane c.args.blocks.now v all (ap (λ (lane : Lane g.row.M.Denot). lane.locks) c.loop-action.invariant.0) (λ w. All (SetsIn w) (take c.loop-action.action-index c.args.actions.now)) t in
    let here = left_kept v t.view keeps (looks_entries t.loads v t.view t.looks) (looks_call t.loads v t.view t.looks) (action_of (get_or c.args.actions.now c.loop-action.action-index no_action)) (left i no_action c.loop-action-test.true) in
    passes_one o at c.args.blocks.now c.loop-action.lane c.ends_in_object.new.lane v actions i no_action (ap (λ (lane : Lane g.row.M.Denot). lane.locks) c.ends_in_object.ensures.else_same) c.loop-action-test.true t
    (c.if-not-ends_in_object.ensures.no_ refl o t.view t.works here)

pub loop-action-preserved : goal.loop-action-preserved
loop-action-preserved g c = (
  subst (λ (lane : Lane g.row.M.Denot). c.ends_in_object.new.lane ≡ record lane { memory = c.ends_in_object.new.lane.memory }) c.loop-action.invariant.0 c.ends_in_object.ensures.else_same,
  λ o v all.
      let t = c.loop-action.invariant.1 o v all in
      sets_further o g.M.LaneMem.at c.args.blocks.now c.loop-action.lane c.ends_in_object.new.lane v c.args.actions.now c.loop-action.action-index no_action (ap (λ (lane : Lane g.row.M.Denot). lane.locks) c.ends_in_object.ensures.else_same) c.loop-action-test.true t
      (c.if-not-ends_in_object.ensures.yes refl o t.view t.works),
)

pub returns-clause-ok : goal.returns-clause-ok
returns-clause-ok g c o v all =
    let up : length c.args.actions.now ≤ c.loop-action.action-index = search rules in
    let t = c.loop-action.invariant.1 o v all in
    record { loads = t.loads; view = t.view; looks = t.looks; works = t.works; holds = all_of_front (SetsIn t.view) c.args.actions.now c.loop-action.action-index up t.holds }

pub returns-clause-still : goal.returns-clause-still
returns-clause-still g c = let r = c.requires.work in let t = c.loop-action.invariant.1 r.0 r.1.0 r.1.1 in (r.0, (t.view, t.works))
