use Rattle.std.proofs.Common.{◌+◌, ◌^◌, ◌<◌, All, List, length, length-append, map, refl, sym, ap, ◌∙◌, subst, arith}
use Rattle.std.proofs.lemmas.List.{length-map}
use Rattle.solo_crash.specs.CallBlocks.{no_blocks}
use Rattle.solo_made.specs.Entries.{IsBlockIn, block_freed, block_made}
use Rattle.solo_made.specs.Made.{FitsPages}
use Rattle.solo_made.specs.declared.objects.Freed.{Freed}
use Rattle.solo_made.specs.declared.objects.Made.{Made}
use Rattle.solo_pending.specs.Pending.{redo_for}
use Rattle.solo_pending.specs.declared.actions.SetAction.{SetAction}
use Rattle.solo_pending.specs.declared.pending.Reserved.{Reserved}
use Rattle.pm_record.specs.declared.redo.Redo.{Redo}
use Rattle.solo_world.specs.declared.lane.Lane.{Lane}
use Rattle.solo_transaction.specs.PublishedLists.{made_of}
use Rattle.solo_action.proofs.PendingLists.{few_blocks, few_reserved, fit_made, freed_in_pool, lists_moved, made_in_pool, may_move_frees, places}
use Rattle.solo_action.proofs.publishing_all.list_all.Goals as goal

pub list_entries-requires-clause-places : goal.list_entries-requires-clause-places
list_entries-requires-clause-places g c = subst (All (λ (a : SetAction). a.id.off + a.off < 2 ^ 64)) (sym c.as_slice-sets.ensures.value) (places c.requires.may.1.1.0)

pub move_frees-requires : goal.move_frees-requires
move_frees-requires g c =
    let h = c.requires.may.1.1.0 in
    let locks = c.as_slice-locks.ensures.value ∙ ap (λ (lane : Lane g.row.M.Denot). lane.locks.items) c.list_entries.ensures.else_same in
    record { can = (no_blocks, may_move_frees h c.clear.new.self c.clear.new.self c.as_slice-locks.result.now c.as_slice-frees.result.now c.args.pending.now.reserved.items locks c.as_slice-frees.ensures.value refl c.clear.ensures.none) }

pub move_reserved-requires-clause-few : goal.move_reserved-requires-clause-few
move_reserved-requires-clause-few g c =
    let h = c.requires.may.1.1.0 in
    let locks = c.as_slice-locks.ensures.value ∙ ap (λ (lane : Lane g.row.M.Denot). lane.locks.items) c.list_entries.ensures.else_same in
    few_reserved h c.clear.new.self c.move_frees.new.blocks c.as_slice-locks.result.now c.as_slice-frees.result.now c.as_slice-reserved.result.now locks c.as_slice-frees.ensures.value c.as_slice-reserved.ensures.value c.clear.ensures.none c.move_frees.ensures.of_call

pub move_reserved-requires-clause-fit : goal.move_reserved-requires-clause-fit
move_reserved-requires-clause-fit g c =
    let h = c.requires.may.1.1.0 in
    subst (All (λ (r : Reserved). FitsPages (length c.move_frees.new.blocks.dropped) (made_of r))) (sym c.as_slice-reserved.ensures.value)
    (fit_made h (length c.move_frees.new.blocks.dropped) (c.move_frees.ensures.pages ∙ (c.clear.ensures.pages ∙ c.requires.pages)))

pub returns-clause-lists : goal.returns-clause-lists
returns-clause-lists g c o v h =
    let locks = c.as_slice-locks.ensures.value ∙ ap (λ (lane : Lane g.row.M.Denot). lane.locks.items) c.list_entries.ensures.else_same in
    lists_moved h c.clear.new.self c.move_frees.new.blocks c.as_slice-locks.result.now c.as_slice-frees.result.now c.as_slice-reserved.result.now locks c.as_slice-frees.ensures.value c.as_slice-reserved.ensures.value c.clear.ensures.none c.move_frees.ensures.of_call
    c.move_reserved.new.blocks c.move_frees.ensures.held c.move_reserved.ensures.of_call c.move_reserved.ensures.else_same

pub list_entries-requires-2-clause-few : goal.list_entries-requires-2-clause-few
list_entries-requires-2-clause-few g c =
    let r = c.requires.may in
    let h = r.1.1.0 in
    let locks = c.as_slice-locks.ensures.value ∙ ap (λ (lane : Lane g.row.M.Denot). lane.locks.items) c.list_entries.ensures.else_same in
    let lists = lists_moved h c.clear.new.self c.move_frees.new.blocks c.as_slice-locks.result.now c.as_slice-frees.result.now c.as_slice-reserved.result.now locks c.as_slice-frees.ensures.value c.as_slice-reserved.ensures.value c.clear.ensures.none c.move_frees.ensures.of_call
    c.move_reserved.new.blocks c.move_frees.ensures.held c.move_reserved.ensures.of_call c.move_reserved.ensures.else_same in
    let few = few_blocks h lists in
    let none = ap (λ (es : List Redo). length es) h.unlisted in
    let sets = ap (λ (actions : List SetAction). length actions) c.as_slice-sets.ensures.value in
    let listed = ap (λ (es : List Redo). length es) c.list_entries.ensures.listed in
    let both = length-append c.args.lane.now.entries.items (map redo_for c.as_slice-sets.result.now) in
    let many = length-map c.as_slice-sets.result.now redo_for in
    omega (arith, few, none, sets, listed, both, many)

pub list_entries-requires-2-clause-freed : goal.list_entries-requires-2-clause-freed
list_entries-requires-2-clause-freed g c =
    let r = c.requires.may in
    let h = r.1.1.0 in
    let locks = c.as_slice-locks.ensures.value ∙ ap (λ (lane : Lane g.row.M.Denot). lane.locks.items) c.list_entries.ensures.else_same in
    let lists = lists_moved h c.clear.new.self c.move_frees.new.blocks c.as_slice-locks.result.now c.as_slice-frees.result.now c.as_slice-reserved.result.now locks c.as_slice-frees.ensures.value c.as_slice-reserved.ensures.value c.clear.ensures.none c.move_frees.ensures.of_call
    c.move_reserved.new.blocks c.move_frees.ensures.held c.move_reserved.ensures.of_call c.move_reserved.ensures.else_same in
    subst (λ (lane : Lane g.row.M.Denot). All (λ (f : Freed). IsBlockIn lane.shape.lanes lane.shape.zones (block_freed f)) c.move_reserved.new.blocks.freed) (sym c.list_entries.ensures.else_same)
    (freed_in_pool h lists (r.1.1.1 c.move_reserved.new.blocks lists))

pub list_entries-requires-2-clause-made : goal.list_entries-requires-2-clause-made
list_entries-requires-2-clause-made g c =
    let r = c.requires.may in
    let h = r.1.1.0 in
    let locks = c.as_slice-locks.ensures.value ∙ ap (λ (lane : Lane g.row.M.Denot). lane.locks.items) c.list_entries.ensures.else_same in
    let lists = lists_moved h c.clear.new.self c.move_frees.new.blocks c.as_slice-locks.result.now c.as_slice-frees.result.now c.as_slice-reserved.result.now locks c.as_slice-frees.ensures.value c.as_slice-reserved.ensures.value c.clear.ensures.none c.move_frees.ensures.of_call
    c.move_reserved.new.blocks c.move_frees.ensures.held c.move_reserved.ensures.of_call c.move_reserved.ensures.else_same in
    subst (λ (lane : Lane g.row.M.Denot). All (λ (m : Made). IsBlockIn lane.shape.lanes lane.shape.zones (block_made m)) c.move_reserved.new.blocks.made) (sym c.list_entries.ensures.else_same)
    (made_in_pool h lists (r.1.1.1 c.move_reserved.new.blocks lists))
