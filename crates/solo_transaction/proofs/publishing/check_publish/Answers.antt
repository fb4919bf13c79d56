use Rattle.std.proofs.Common.{◌≡◌, All, Err, List, ap, refl, subst, sym, rules}
use Rattle.std.specs.List.{Any}
use Rattle.pm_objects.specs.declared.ids.Oid.{Oid}
use Rattle.pm_objects.specs.declared.refusal.Refusal.{Refusal}
use Rattle.solo_pending.specs.declared.actions.SetAction.{SetAction}
use Rattle.solo_tx.proofs.Checked.{if_err, of_err}
use Rattle.solo_world.specs.declared.lane.Lane.{Lane}
use Rattle.solo_transaction.proofs.PublishAllReasons.{InRoot, NotInRoot, full, left_there, passed, past, refused_early, rooted}
use Rattle.solo_transaction.proofs.PublishChecks.{IsLeftFor, PassesEndIn, SetsIn, unlooked}
use Rattle.solo_transaction.specs.AtWork.{HasLookedWith}
use Rattle.solo_transaction.specs.Publishing.{IsPublishRefused}
use Rattle.solo_transaction.proofs.publishing.check_publish.Goals as goal

pub returns-in_err-check_objects-clause-refused : goal.returns-in_err-check_objects-clause-refused
returns-in_err-check_objects-clause-refused g c =
    if_err _ c.from_residual.result
    (λ r is o v all pending.
    let e : c.check_objects.result ≡ Err r = search rules in
    unlooked o g.M.LaneMem.at c.args.lane.now c.args.blocks.now v all (λ w. IsPublishRefused w r)
    (refused_early v r (of_err _ c.check_objects.result r e c.check_objects.ensures.causes) (of_err _ c.check_objects.result r e c.check_objects.ensures.refused o v all pending)))

pub returns-in_err-check_no_root-clause-refused : goal.returns-in_err-check_no_root-clause-refused
returns-in_err-check_no_root-clause-refused g c =
    if_err _ c.from_residual-in_err-check_no_root.result
    (λ r is o v all pending.
    let e : c.check_no_root.result ≡ Err r = search rules in
    subst (λ (r : Refusal). HasLookedWith o g.M.LaneMem.at c.check_no_root.new.lane c.args.blocks.now v (λ w. IsPublishRefused w r)) (sym (of_err _ c.check_no_root.result r e c.check_no_root.ensures.cause))
    (rooted o g.M.LaneMem.at c.args.lane.now c.check_no_root.new.lane c.check_no_root.new.lane c.args.blocks.now v all (ap (λ (lane : Lane g.row.M.Denot). lane.locks) c.check_no_root.ensures.else_same) refl c.args.pending.now pending (c.in_ok-check_objects.ensures.ok o v all pending)
    (subst (λ (ids : List Oid). HasLookedWith o g.M.LaneMem.at c.check_no_root.new.lane c.args.blocks.now v (λ w. InRoot w ids)) c.as_slice-frees.ensures.value (c.in_err-check_no_root.ensures.root o v all))))

pub returns-in_err-check_ends-clause-refused : goal.returns-in_err-check_ends-clause-refused
returns-in_err-check_ends-clause-refused g c =
    if_err _ c.from_residual-in_err-check_ends.result
    (λ r is o v all pending.
    let e : c.check_ends.result ≡ Err r = search rules in
    let at = g.M.LaneMem.at in
    let first = ap (λ (lane : Lane g.row.M.Denot). lane.locks) c.check_no_root.ensures.else_same in
    let then = ap (λ (lane : Lane g.row.M.Denot). lane.locks) c.check_ends.ensures.else_same in
    let left = c.in_ok-check_objects.ensures.ok o v all pending in
    let t = subst (λ (ids : List Oid). HasLookedWith o g.M.LaneMem.at c.check_no_root.new.lane c.args.blocks.now v (λ w. NotInRoot w ids)) c.as_slice-frees.ensures.value (c.in_ok-check_no_root.ensures.ok o v all) in
    subst (λ (r : Refusal). HasLookedWith o g.M.LaneMem.at c.check_ends.new.lane c.args.blocks.now v (λ w. IsPublishRefused w r)) (sym (of_err _ c.check_ends.result r e c.check_ends.ensures.cause))
    (past o at c.args.lane.now c.check_no_root.new.lane c.check_ends.new.lane c.args.blocks.now v all first then c.args.pending.now pending left t
    (subst (λ (actions : List SetAction). HasLookedWith o g.M.LaneMem.at c.check_ends.new.lane c.args.blocks.now t.view (λ w. Any (PassesEndIn w) actions)) c.as_slice-sets.ensures.value
    (c.in_err-check_ends.ensures.past o t.view t.works (subst (All (IsLeftFor t.view)) (sym c.as_slice-sets.ensures.value) (left_there o at c.args.lane.now c.check_no_root.new.lane c.check_ends.new.lane c.args.blocks.now v all first then c.args.pending.now pending left t))))))

pub returns-then-not-has_room_for-clause-refused : goal.returns-then-not-has_room_for-clause-refused
returns-then-not-has_room_for-clause-refused g c o v all pending =
    let at = g.M.LaneMem.at in
    let first = ap (λ (lane : Lane g.row.M.Denot). lane.locks) c.check_no_root.ensures.else_same in
    let then = ap (λ (lane : Lane g.row.M.Denot). lane.locks) c.check_ends.ensures.else_same in
    let left = c.in_ok-check_objects.ensures.ok o v all pending in
    let t = subst (λ (ids : List Oid). HasLookedWith o g.M.LaneMem.at c.check_no_root.new.lane c.args.blocks.now v (λ w. NotInRoot w ids)) c.as_slice-frees.ensures.value (c.in_ok-check_no_root.ensures.ok o v all) in
    let s = subst (λ (actions : List SetAction). HasLookedWith o g.M.LaneMem.at c.check_ends.new.lane c.args.blocks.now t.view (λ w. All (SetsIn w) actions)) c.as_slice-sets.ensures.value (c.in_ok-check_ends.ensures.ok o t.view t.works) in
    full o at c.args.lane.now c.check_no_root.new.lane c.check_ends.new.lane c.args.blocks.now v all first then c.args.pending.now pending left t s (λ w works is late. c.if-not-has_room_for.ensures.no_ refl o w works is late)

pub returns-clause-ok : goal.returns-clause-ok
returns-clause-ok g c o v all pending =
    let at = g.M.LaneMem.at in
    let first = ap (λ (lane : Lane g.row.M.Denot). lane.locks) c.check_no_root.ensures.else_same in
    let then = ap (λ (lane : Lane g.row.M.Denot). lane.locks) c.check_ends.ensures.else_same in
    let left = c.in_ok-check_objects.ensures.ok o v all pending in
    let t = subst (λ (ids : List Oid). HasLookedWith o g.M.LaneMem.at c.check_no_root.new.lane c.args.blocks.now v (λ w. NotInRoot w ids)) c.as_slice-frees.ensures.value (c.in_ok-check_no_root.ensures.ok o v all) in
    let s = subst (λ (actions : List SetAction). HasLookedWith o g.M.LaneMem.at c.check_ends.new.lane c.args.blocks.now t.view (λ w. All (SetsIn w) actions)) c.as_slice-sets.ensures.value (c.in_ok-check_ends.ensures.ok o t.view t.works) in
    passed o at c.args.lane.now c.check_no_root.new.lane c.check_ends.new.lane c.args.blocks.now v all first then c.args.pending.now pending left t s (λ w works is late. c.if-not-has_room_for.ensures.yes refl o w works is late)
