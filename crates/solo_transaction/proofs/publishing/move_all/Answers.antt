use Rattle.std.proofs.Common.{◌≡◌, ◌+◌, ◌^◌, ◌<◌, ◌≤◌, ◌++◌, All, List, None, length, map, refl, sym, ap, ◌∙◌, subst}
use Rattle.solo_crash.specs.CallBlocks.{blocks_in, with_all_freed}
use Rattle.solo_crash.specs.Pending.{pending_in}
use Rattle.solo_made.specs.Made.{BlockLists, FitsPages, ListsBlocks}
use Rattle.pm_objects.specs.declared.calls.Operation.TheVariants.{Publish}
use Rattle.pm_objects.specs.declared.ids.Oid.{Oid}
use Rattle.solo_pending.specs.Pending.{redo_for}
use Rattle.solo_pending.specs.declared.actions.SetAction.{SetAction}
use Rattle.solo_pending.specs.declared.pending.Reserved.{Reserved}
use Rattle.solo_view.specs.Steps.Step.{Tell}
use Rattle.solo_world.specs.declared.lane.HeldLock.{HeldLock}
use Rattle.solo_world.specs.declared.lane.Lane.{Lane}
use Rattle.solo_transaction.proofs.PublishEntries.{low_places}
use Rattle.solo_transaction.proofs.Publishes.{may_tell_publish}
use Rattle.solo_transaction.proofs.Publishes.{can_list_freed, each_sets, few_entries, few_made, fit_made, has_published_all, lists_mid}
use Rattle.solo_transaction.specs.AtWork.{IsHeldFreed}
use Rattle.solo_transaction.specs.PublishedLists.{CanListFreed, made_of}
use Rattle.solo_transaction.specs.Publishing.{HasPublishedWith}
use Rattle.solo_transaction.proofs.publishing.move_all.Goals as goal

pub tell-requires : goal.tell-requires
tell-requires g c =
    let r = c.requires.may in
    g.met.M.LawfulMem.meets c.args.lane.now.memory r.1.0 (Tell Publish None) r.1.1.0.work.seen.memory (may_tell_publish r.0 g.M.LaneMem.at c.args.lane.now c.args.blocks.now r.1.0 r.1.1.0)

pub list_entries-requires-clause-few : goal.list_entries-requires-clause-few
list_entries-requires-clause-few g c =
    let r = c.requires.may in
    subst (λ (actions : List SetAction). length c.args.lane.now.entries.items + length actions ≤ 63) (sym c.as_slice-sets.ensures.value)
    (few_entries r.0 g.M.LaneMem.at c.args.lane.now c.args.blocks.now r.1.0 r.1.1.0 c.args.pending.now r.1.1.1 r.1.1.2)

pub list_entries-requires-clause-places : goal.list_entries-requires-clause-places
list_entries-requires-clause-places g c =
    let r = c.requires.may in
    subst (All (λ (a : SetAction). a.id.off + a.off < 2 ^ 64)) (sym c.as_slice-sets.ensures.value)
    (low_places r.0 g.M.LaneMem.at c.args.lane.now c.args.blocks.now r.1.0 r.1.1.0 c.args.pending.now.sets.items (each_sets r.0 g.M.LaneMem.at c.args.lane.now c.args.blocks.now r.1.0 r.1.1.0 c.args.pending.now r.1.1.1 r.1.1.2))

pub move_frees-requires : goal.move_frees-requires
move_frees-requires g c =
    let r = c.requires.may in
    let locks : c.as_slice-locks.result.now ≡ c.args.lane.now.locks.items = c.as_slice-locks.ensures.value ∙ ap (λ (lane : Lane g.row.M.Denot). lane.locks.items) c.list_entries.ensures.else_same in
    record {
      can = (
        blocks_in r.1.0,
        subst (λ (ids : List Oid). CanListFreed c.as_slice-locks.result.now c.args.blocks.now (blocks_in r.1.0) ids) (sym c.as_slice-frees.ensures.value)
            (subst (λ (ls : List HeldLock). CanListFreed ls c.args.blocks.now (blocks_in r.1.0) c.args.pending.now.frees.items) (sym locks)
            (can_list_freed r.0 g.M.LaneMem.at c.args.lane.now c.args.blocks.now r.1.0 r.1.1.0 c.args.pending.now r.1.1.1 r.1.1.2)),
      );
    }

pub move_reserved-requires-clause-few : goal.move_reserved-requires-clause-few
move_reserved-requires-clause-few g c =
    let r = c.requires.may in
    subst (λ (rs : List Reserved). length c.move_frees.new.blocks.made + length rs ≤ 63) (sym c.as_slice-reserved.ensures.value)
    (few_made r.0 g.M.LaneMem.at c.args.lane.now c.args.blocks.now r.1.0 r.1.1.0 c.args.pending.now r.1.1.1 r.1.1.2 c.move_frees.new.blocks
    (λ call lists. subst (λ (ids : List Oid). ListsBlocks c.move_frees.new.blocks (with_all_freed ids call)) c.as_slice-frees.ensures.value (c.move_frees.ensures.of_call call lists)) c.move_frees.ensures.pages)

pub move_reserved-requires-clause-fit : goal.move_reserved-requires-clause-fit
move_reserved-requires-clause-fit g c =
    let r = c.requires.may in
    subst (All (λ (r : Reserved). FitsPages (length c.move_frees.new.blocks.dropped) (made_of r))) (sym c.as_slice-reserved.ensures.value)
    (fit_made r.0 g.M.LaneMem.at c.args.lane.now c.args.blocks.now r.1.0 r.1.1.0 c.args.pending.now r.1.1.1 r.1.1.2 c.move_frees.new.blocks
    (λ call lists. subst (λ (ids : List Oid). ListsBlocks c.move_frees.new.blocks (with_all_freed ids call)) c.as_slice-frees.ensures.value (c.move_frees.ensures.of_call call lists)) c.move_frees.ensures.pages)

pub returns-clause-done : goal.returns-clause-done
returns-clause-done g c o v all pending can =
    let at = g.M.LaneMem.at in
    let locks : c.as_slice-locks.result.now ≡ c.args.lane.now.locks.items = c.as_slice-locks.ensures.value ∙ ap (λ (lane : Lane g.row.M.Denot). lane.locks.items) c.list_entries.ensures.else_same in
    let mid = lists_mid o at c.args.lane.now c.args.blocks.now v all c.args.pending.now pending can c.move_frees.new.blocks
    (λ call lists. subst (λ (ids : List Oid). ListsBlocks c.move_frees.new.blocks (with_all_freed ids call)) c.as_slice-frees.ensures.value (c.move_frees.ensures.of_call call lists)) c.move_frees.ensures.pages in
    subst (λ (lane : Lane g.row.M.Denot). HasPublishedWith o g.M.LaneMem.at lane c.move_reserved.new.blocks v) (sym c.list_entries.ensures.else_same)
    (has_published_all o at c.args.lane.now c.args.blocks.now v all c.args.pending.now pending can (record c.args.lane.now { memory = c.tell.new.self; entries = c.list_entries.new.lane.entries })
    (record { pool = refl; shape = refl; locks = refl; entries = refl; level = refl; stage = refl; error = refl; drawn = refl; last = refl; stopped = refl }) refl (c.tell.ensures v all.work.seen.memory).0
    (c.list_entries.ensures.listed ∙ ap (λ (actions : List SetAction). c.args.lane.now.entries.items ++ map redo_for actions) c.as_slice-sets.ensures.value)
    c.move_reserved.new.blocks
    (c.move_reserved.ensures.of_call (with_all_freed (pending_in v).frees (blocks_in v)) (pending_in v).reserved (c.as_slice-reserved.ensures.value ∙ pending.reserved) mid)
    (ap (λ (b : BlockLists). length b.dropped) c.move_reserved.ensures.else_same ∙ c.move_frees.ensures.pages)
    (subst (λ (b : BlockLists). All (IsHeldFreed c.args.lane.now.locks.items) b.freed) (sym c.move_reserved.ensures.else_same)
    (subst (λ (ls : List HeldLock). All (IsHeldFreed ls) c.move_frees.new.blocks.freed) locks (c.move_frees.ensures.held (subst (λ (ls : List HeldLock). All (IsHeldFreed ls) c.args.blocks.now.freed) (sym locks) all.freed_held)))))

pub returns-clause-listed : goal.returns-clause-listed
returns-clause-listed g c = c.list_entries.ensures.listed ∙ ap (λ (actions : List SetAction). c.args.lane.now.entries.items ++ map redo_for actions) c.as_slice-sets.ensures.value
