use Rattle.std.proofs.Common.{◌≡◌, All, List, slice_index, sym, subst}
use Rattle.std.specs.List.{Any}
use Rattle.solo_crash.specs.CallBlocks.{FreeNoRoot}
use Rattle.solo_crash.specs.Reserved.{root_in}
use Rattle.pm_objects.specs.declared.ids.Oid.{Oid}
use Rattle.solo_pending.specs.declared.actions.SetAction.{SetAction}
use Rattle.solo_lock.proofs.FoundObjects.{taken_lines}
use Rattle.solo_lock.proofs.GivenBack.{busy}
use Rattle.solo_action.specs.Holding.{HasLookedAgain, HoldsEach}
use Rattle.solo_action.proofs.EachEnd.{Passes, Sets}
use Rattle.solo_action.proofs.Sought.{all_held, alone_there, each_there, late_found, none_found, past_end, root_found, works_there}
use Rattle.solo_action.proofs.holding.seek_objects.Goals as goal

pub returns-then-not-take_all-clause-sought : goal.returns-then-not-take_all-clause-sought
returns-then-not-take_all-clause-sought g c v is alone =
    let t = c.take_all.ensures.not_taken c.if-not-take_all.true v is in
    busy g.M.LaneMem.at c.take_all.new.lane c.give_back.new.lane v t (c.give_back.ensures.given t.view t.held)

pub find_objects-requires-clause-lines : goal.find_objects-requires-clause-lines
find_objects-requires-clause-lines g c =
    let r = c.requires.begun in
    let t = c.take_all.ensures.taken c.if-not-take_all.false r.0 r.1.0 in
    (t.view, (t.begun, taken_lines g.M.LaneMem.at c.take_all.new.lane r.0 c.args.plan.now t))

pub returns-then-not-find_objects-clause-sought : goal.returns-then-not-find_objects-clause-sought
returns-then-not-find_objects-clause-sought g c v is alone =
    let t = c.take_all.ensures.taken c.if-not-take_all.false v is in
    none_found g.M.LaneMem.at c.args.lane.now c.take_all.new.lane c.find_objects.new.lane c.args.pending.now c.args.plan.now c.requires.plan c.take_all.ensures.else_same c.find_objects.ensures.else_same v t c.find_objects.result
    (c.find_objects.ensures.found t.view t.begun (taken_lines g.M.LaneMem.at c.take_all.new.lane v c.args.plan.now t)) c.if-not-find_objects.true

pub returns-then-pending-clause-sought : goal.returns-then-pending-clause-sought
returns-then-pending-clause-sought g c v is alone =
    let t = c.take_all.ensures.taken c.if-not-take_all.false v is in
    late_found g.M.LaneMem.at c.args.lane.now c.take_all.new.lane c.find_objects.new.lane c.args.pending.now c.args.plan.now c.requires.plan c.take_all.ensures.else_same c.find_objects.ensures.else_same v t c.find_objects.result
    (c.find_objects.ensures.found t.view t.begun (taken_lines g.M.LaneMem.at c.take_all.new.lane v c.args.plan.now t)) c.if-not-find_objects.false c.if-pending.true

pub frees_root-requires : goal.frees_root-requires
frees_root-requires g c =
    let r = c.requires.begun in
    let t = c.take_all.ensures.taken c.if-not-take_all.false r.0 r.1.0 in
    let f = c.find_objects.ensures.found t.view t.begun (taken_lines g.M.LaneMem.at c.take_all.new.lane r.0 c.args.plan.now t) in
    let works = works_there g.M.LaneMem.at c.args.lane.now c.take_all.new.lane c.find_objects.new.lane c.args.pending.now c.args.plan.now c.requires.plan c.take_all.ensures.else_same c.find_objects.ensures.else_same r.0 t c.find_objects.result f in
    let alone = alone_there g.M.LaneMem.at c.args.lane.now c.take_all.new.lane c.find_objects.new.lane c.args.pending.now c.args.plan.now c.requires.plan c.take_all.ensures.else_same c.find_objects.ensures.else_same r.0 t c.find_objects.result f r.1.1 in
    record { alone = (f.view, (f.begun.seen.memory, works, alone)) }

pub returns-then-frees_root-clause-sought : goal.returns-then-frees_root-clause-sought
returns-then-frees_root-clause-sought g c v is alone =
    let t = c.take_all.ensures.taken c.if-not-take_all.false v is in
    let f = c.find_objects.ensures.found t.view t.begun (taken_lines g.M.LaneMem.at c.take_all.new.lane v c.args.plan.now t) in
    let works = works_there g.M.LaneMem.at c.args.lane.now c.take_all.new.lane c.find_objects.new.lane c.args.pending.now c.args.plan.now c.requires.plan c.take_all.ensures.else_same c.find_objects.ensures.else_same v t c.find_objects.result f in
    let there = alone_there g.M.LaneMem.at c.args.lane.now c.take_all.new.lane c.find_objects.new.lane c.args.pending.now c.args.plan.now c.requires.plan c.take_all.ensures.else_same c.find_objects.ensures.else_same v t c.find_objects.result f alone in
    root_found g.M.LaneMem.at c.args.lane.now c.take_all.new.lane c.find_objects.new.lane c.args.pending.now c.args.plan.now c.requires.plan c.take_all.ensures.else_same c.find_objects.ensures.else_same v t c.find_objects.result f c.if-not-find_objects.false
    c.if-pending.false c.frees_root.new.mem
    (subst (λ (ids : List Oid). HasLookedAgain (g.M.LaneMem.at c.frees_root.new.mem) f.view (λ u. Any (λ (id : Oid). slice_index u.words 64 ≡ id.off) ids)) c.as_slice.ensures.value (c.frees_root.ensures.root c.if-frees_root.true f.view f.begun.seen.memory works there))

pub check_ends-requires-clause-held : goal.check_ends-requires-clause-held
check_ends-requires-clause-held g c =
    let r = c.requires.begun in
    let t = c.take_all.ensures.taken c.if-not-take_all.false r.0 r.1.0 in
    let f = c.find_objects.ensures.found t.view t.begun (taken_lines g.M.LaneMem.at c.take_all.new.lane r.0 c.args.plan.now t) in
    let works = works_there g.M.LaneMem.at c.args.lane.now c.take_all.new.lane c.find_objects.new.lane c.args.pending.now c.args.plan.now c.requires.plan c.take_all.ensures.else_same c.find_objects.ensures.else_same r.0 t c.find_objects.result f in
    let there = alone_there g.M.LaneMem.at c.args.lane.now c.take_all.new.lane c.find_objects.new.lane c.args.pending.now c.args.plan.now c.requires.plan c.take_all.ensures.else_same c.find_objects.ensures.else_same r.0 t c.find_objects.result f r.1.1 in
    let s = c.frees_root.ensures.other c.if-frees_root.false f.view f.begun.seen.memory works there in
    let other = subst (λ (ids : List Oid). HasLookedAgain (g.M.LaneMem.at c.frees_root.new.mem) f.view (λ u. FreeNoRoot (root_in (slice_index u.words)) ids)) c.as_slice.ensures.value s in (
      other.view,
      (
        other.there,
        subst (HoldsEach other.view) (sym c.as_slice-2.ensures.value)
            (each_there g.M.LaneMem.at c.args.lane.now c.take_all.new.lane c.find_objects.new.lane c.args.pending.now c.args.plan.now c.requires.plan c.take_all.ensures.else_same c.find_objects.ensures.else_same r.0 t c.find_objects.result f c.if-not-find_objects.false
            c.if-pending.false c.frees_root.new.mem other),
      ),
    )

pub returns-then-not-check_ends-clause-sought : goal.returns-then-not-check_ends-clause-sought
returns-then-not-check_ends-clause-sought g c v is alone =
    let t = c.take_all.ensures.taken c.if-not-take_all.false v is in
    let f = c.find_objects.ensures.found t.view t.begun (taken_lines g.M.LaneMem.at c.take_all.new.lane v c.args.plan.now t) in
    let works = works_there g.M.LaneMem.at c.args.lane.now c.take_all.new.lane c.find_objects.new.lane c.args.pending.now c.args.plan.now c.requires.plan c.take_all.ensures.else_same c.find_objects.ensures.else_same v t c.find_objects.result f in
    let there = alone_there g.M.LaneMem.at c.args.lane.now c.take_all.new.lane c.find_objects.new.lane c.args.pending.now c.args.plan.now c.requires.plan c.take_all.ensures.else_same c.find_objects.ensures.else_same v t c.find_objects.result f alone in
    let s = c.frees_root.ensures.other c.if-frees_root.false f.view f.begun.seen.memory works there in
    let other = subst (λ (ids : List Oid). HasLookedAgain (g.M.LaneMem.at c.frees_root.new.mem) f.view (λ u. FreeNoRoot (root_in (slice_index u.words)) ids)) c.as_slice.ensures.value s in
    let each = each_there g.M.LaneMem.at c.args.lane.now c.take_all.new.lane c.find_objects.new.lane c.args.pending.now c.args.plan.now c.requires.plan c.take_all.ensures.else_same c.find_objects.ensures.else_same v t c.find_objects.result f
    c.if-not-find_objects.false c.if-pending.false c.frees_root.new.mem other in
    past_end g.M.LaneMem.at c.args.lane.now c.take_all.new.lane c.find_objects.new.lane c.args.pending.now c.args.plan.now c.requires.plan c.take_all.ensures.else_same c.find_objects.ensures.else_same v t c.find_objects.result f c.if-not-find_objects.false
    c.if-pending.false c.frees_root.new.mem other c.check_ends.new.mem
    (subst (λ (xs : List SetAction). HasLookedAgain (g.M.LaneMem.at c.check_ends.new.mem) other.view (λ u. Any (Passes u) xs)) c.as_slice-2.ensures.value
    (c.check_ends.ensures.past c.if-not-check_ends.true other.view other.there (subst (HoldsEach other.view) (sym c.as_slice-2.ensures.value) each)))

pub returns-clause-sought : goal.returns-clause-sought
returns-clause-sought g c v is alone =
    let t = c.take_all.ensures.taken c.if-not-take_all.false v is in
    let f = c.find_objects.ensures.found t.view t.begun (taken_lines g.M.LaneMem.at c.take_all.new.lane v c.args.plan.now t) in
    let works = works_there g.M.LaneMem.at c.args.lane.now c.take_all.new.lane c.find_objects.new.lane c.args.pending.now c.args.plan.now c.requires.plan c.take_all.ensures.else_same c.find_objects.ensures.else_same v t c.find_objects.result f in
    let there = alone_there g.M.LaneMem.at c.args.lane.now c.take_all.new.lane c.find_objects.new.lane c.args.pending.now c.args.plan.now c.requires.plan c.take_all.ensures.else_same c.find_objects.ensures.else_same v t c.find_objects.result f alone in
    let s = c.frees_root.ensures.other c.if-frees_root.false f.view f.begun.seen.memory works there in
    let other = subst (λ (ids : List Oid). HasLookedAgain (g.M.LaneMem.at c.frees_root.new.mem) f.view (λ u. FreeNoRoot (root_in (slice_index u.words)) ids)) c.as_slice.ensures.value s in
    let each = each_there g.M.LaneMem.at c.args.lane.now c.take_all.new.lane c.find_objects.new.lane c.args.pending.now c.args.plan.now c.requires.plan c.take_all.ensures.else_same c.find_objects.ensures.else_same v t c.find_objects.result f
    c.if-not-find_objects.false c.if-pending.false c.frees_root.new.mem other in
    all_held g.M.LaneMem.at c.args.lane.now c.take_all.new.lane c.find_objects.new.lane c.args.pending.now c.args.plan.now c.requires.plan c.take_all.ensures.else_same c.find_objects.ensures.else_same v t c.find_objects.result f c.if-not-find_objects.false
    c.if-pending.false c.frees_root.new.mem other c.check_ends.new.mem
    (subst (λ (xs : List SetAction). HasLookedAgain (g.M.LaneMem.at c.check_ends.new.mem) other.view (λ u. All (Sets u) xs)) c.as_slice-2.ensures.value
    (c.check_ends.ensures.inside c.if-not-check_ends.false other.view other.there (subst (HoldsEach other.view) (sym c.as_slice-2.ensures.value) each)))
