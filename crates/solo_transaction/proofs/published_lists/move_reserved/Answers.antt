use Rattle.std.proofs.Common.{◌≤◌, List, [], ◌∷◌, get_or, length, sym, ap, ◌∙◌, subst, arith, rules}
use Rattle.std.proofs.lemmas.List.{length-append, length-map, take_all}
use Rattle.solo_crash.specs.CallBlocks.{with_all_made}
use Rattle.solo_made.specs.Made.{BlockLists, FitsPages, ListsBlocks}
use Rattle.solo_model.specs.Actions.{Reservation}
use Rattle.solo_pending.specs.AllPending.{reserved_as}
use Rattle.solo_pending.specs.declared.pending.Reserved.{Reserved}
use Rattle.solo_transaction.proofs.ListedInTurn.{lists_further, no_reserved}
use Rattle.solo_transaction.specs.PublishedLists.{made_of}
use Rattle.solo_transaction.proofs.published_lists.move_reserved.Goals as goal

pub add_made-requires-clause-few : goal.add_made-requires-clause-few
add_made-requires-clause-few c = let few = c.requires.few in let many = c.loop-one.invariant.2 in let low = c.loop-one-test.true in omega (arith, few, many, low)

pub add_made-requires-clause-fits : goal.add_made-requires-clause-fits
add_made-requires-clause-fits c =
    subst (λ (b : BlockLists). FitsPages (length b.dropped) (made_of (get_or c.args.reserved.now c.loop-one.one-index no_reserved))) (sym c.loop-one.invariant.1) (c.requires.fit c.loop-one.one-index no_reserved c.loop-one-test.true)

pub loop-one-preserved : goal.loop-one-preserved
loop-one-preserved c = (
  λ call rs are lists. lists_further c.loop-one.blocks c.add_made.new.self call c.args.reserved.now rs c.loop-one.one-index are c.loop-one-test.true c.add_made.ensures.of_call (c.loop-one.invariant.0 call rs are lists),
  c.add_made.ensures.listed ∙ (λ j. let b : BlockLists = c.loop-one.invariant.1 j in let n : BlockLists = record b { made = (sym c.add_made.ensures.listed j).made } in n),
  (let listed = ap (λ (b : BlockLists). length b.made) c.add_made.ensures.listed in let many = c.loop-one.invariant.2 in let more = length-append c.loop-one.blocks.made (made_of (get_or c.args.reserved.now c.loop-one.one-index no_reserved) ∷ []) in omega (arith, listed, many, more)),
)

pub returns-clause-of_call : goal.returns-clause-of_call
returns-clause-of_call c call rs are lists =
    let up : length c.args.reserved.now ≤ c.loop-one.one-index = search rules in
    let many = ap (λ (xs : List Reserved). length xs) are in
    let same = length-map rs reserved_as in
    subst (λ (xs : List Reservation). ListsBlocks c.loop-one.blocks (with_all_made xs call)) (take_all c.loop-one.one-index rs (omega (arith, up, many, same))) (c.loop-one.invariant.0 call rs are lists)
