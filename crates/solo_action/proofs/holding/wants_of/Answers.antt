use Rattle.std.proofs.Common.{◌≡◌, ◌+◌, ◌++◌, List, length, map, take, ap, refl, subst, arith}
use Rattle.solo_model.specs.Actions.{wants_for}
use Rattle.pm_objects.specs.declared.ids.Oid.{Oid}
use Rattle.solo_pending.specs.Pending.{sets_of}
use Rattle.solo_pending.specs.declared.actions.SetAction.{SetAction}
use Rattle.solo_action.proofs.WantedObjects.{all_freed_listed, all_listed, freed_listed, set_listed, want_of}
use Rattle.solo_action.proofs.holding.wants_of.Goals as goal

pub loop-i-init : goal.loop-i-init
loop-i-init c = (refl, refl)

pub loop-i-preserved : goal.loop-i-preserved
loop-i-preserved c =
    let t = c.loop-i.invariant in
    let few = c.requires.few in
    let frees = ap (λ (ids : List Oid). length ids) c.as_slice-frees.ensures.value in
    let sets = ap (λ (xs : List SetAction). length xs) c.as_slice-sets.ensures.value in
    freed_listed c.as_slice-frees.result.now c.as_slice-sets.result.now (omega (arith, few, frees, sets)) c.loop-i.wants c.loop-i.i c.want_of.result t.0 c.loop-i-test.true c.want_of.ensures t.1

pub loop-j-init : goal.loop-j-init
loop-j-init c =
    let t = c.loop-i.invariant in
    let few = c.requires.few in
    let frees = ap (λ (ids : List Oid). length ids) c.as_slice-frees.ensures.value in
    let sets = ap (λ (xs : List SetAction). length xs) c.as_slice-sets.ensures.value in
    (t.0, all_freed_listed c.as_slice-frees.result.now c.as_slice-sets.result.now (omega (arith, few, frees, sets)) c.loop-i.wants c.loop-i.i c.loop-i-test.false c.loop-i.auto.i-end t.1)

pub loop-j-preserved : goal.loop-j-preserved
loop-j-preserved c =
    let t = c.loop-j.invariant in
    let few = c.requires.few in
    let frees = ap (λ (ids : List Oid). length ids) c.as_slice-frees.ensures.value in
    let sets = ap (λ (xs : List SetAction). length xs) c.as_slice-sets.ensures.value in
    set_listed c.as_slice-frees.result.now c.as_slice-sets.result.now (omega (arith, few, frees, sets)) c.loop-j.wants c.loop-j.j c.want_of-in-loop-j.result t.0 c.loop-j-test.true c.want_of-in-loop-j.ensures t.1

pub returns : goal.returns
returns c =
    let few = c.requires.few in
    let frees = ap (λ (ids : List Oid). length ids) c.as_slice-frees.ensures.value in
    let sets = ap (λ (xs : List SetAction). length xs) c.as_slice-sets.ensures.value in
    let all = all_listed c.as_slice-frees.result.now c.as_slice-sets.result.now (omega (arith, few, frees, sets)) c.loop-j.wants c.loop-j.j c.loop-j-test.false c.loop-j.auto.j-end c.loop-j.invariant.1 in
    subst (λ (ids : List Oid). take (length ids + length c.args.pending.now.sets.items) c.loop-j.wants ≡ map want_of ids ++ wants_for (sets_of c.args.pending.now.sets.items)) c.as_slice-frees.ensures.value
    (subst (λ (xs : List SetAction). take (length c.as_slice-frees.result.now + length xs) c.loop-j.wants ≡ map want_of c.as_slice-frees.result.now ++ wants_for (sets_of xs)) c.as_slice-sets.ensures.value all)
