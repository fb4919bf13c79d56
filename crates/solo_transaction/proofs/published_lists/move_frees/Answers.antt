use Rattle.std.proofs.Common.{◌≤◌, List, length, take, sym, ◌∙◌, subst, rules}
use Rattle.std.proofs.lemmas.List.{take_all}
use Rattle.solo_crash.specs.CallBlocks.{with_all_freed}
use Rattle.solo_made.specs.Made.{ListsBlocks}
use Rattle.pm_objects.specs.declared.ids.Oid.{Oid}
use Rattle.solo_transaction.proofs.ListedInTurn.{freed_further, held_further, locked_freed, room_for_freed}
use Rattle.solo_transaction.proofs.PublishAllChecks.{no_id}
use Rattle.solo_transaction.proofs.published_lists.move_frees.Goals as goal

pub free-requires : goal.free-requires
free-requires c =
    let can = c.requires.can in
    record {
      few = λ none. room_for_freed c.args.locks.now c.args.blocks.now c.loop-id.blocks can.0 c.args.ids.now can.1 c.loop-id.id-index no_id c.loop-id-test.true (c.loop-id.invariant.0 can.0 can.1.lists) none;
    }

pub loop-id-preserved : goal.loop-id-preserved
loop-id-preserved c = (
  λ call lists.
      subst (ListsBlocks c.free.new.self) (sym (freed_further c.args.ids.now c.loop-id.id-index no_id call c.loop-id-test.true))
      (c.free.ensures.of_call (with_all_freed (take c.loop-id.id-index c.args.ids.now) call) (c.loop-id.invariant.0 call lists)),
  λ held.
      let can = c.requires.can in
      held_further c.args.locks.now _ _ _ _ (c.loop-id.invariant.1 held)
      (λ none. c.lines_held-lines.ensures.held can.1.found (locked_freed c.args.locks.now c.args.blocks.now c.loop-id.blocks can.0 c.args.ids.now can.1 c.loop-id.id-index no_id c.loop-id-test.true (c.loop-id.invariant.0 can.0 can.1.lists) none))
      c.free.ensures.freed,
  c.free.ensures.pages ∙ c.loop-id.invariant.2,
)

pub returns-clause-of_call : goal.returns-clause-of_call
returns-clause-of_call c call lists =
    let up : length c.args.ids.now ≤ c.loop-id.id-index = search rules in
    subst (λ (ids : List Oid). ListsBlocks c.loop-id.blocks (with_all_freed ids call)) (take_all c.loop-id.id-index c.args.ids.now up) (c.loop-id.invariant.0 call lists)
