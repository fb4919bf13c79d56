use Rattle.std.proofs.Common.{◌≡◌, ◌∷◌, ◌++◌, ◌+◌, ◌≤◌, [], List, ap, get_or, length, map, subst, sym, take, ◌∙◌, rules}
use Rattle.solo_crash.specs.CallBlocks.{block_of}
use Rattle.pm_image.specs.declared.block.Block.{Block}
use Rattle.solo_pending.specs.AllPending.{object_of}
use Rattle.solo_pending.specs.declared.pending.Reserved.{Reserved}
use Rattle.solo_exec.proofs.KeptBlocks.{all_blocks, next_behind, next_small, none_there, one_more}
use Rattle.solo_exec.proofs.ending.blocks_reserved.Goals as goal

pub block-requires-clause-behind : goal.block-requires-clause-behind
block-requires-clause-behind c =
    let r = c.requires in next_behind c.args.pending.now r.0 r.1 r.2 c.as_slice-reserved-items.result.now c.as_slice-reserved-items.ensures.value c.loop-reserved.reserved-index c.loop-reserved-test.true

pub block-requires-clause-size : goal.block-requires-clause-size
block-requires-clause-size c =
    let r = c.requires in next_small c.args.pending.now r.0 r.1 r.2 c.as_slice-reserved-items.result.now c.as_slice-reserved-items.ensures.value c.loop-reserved.reserved-index c.loop-reserved-test.true

pub loop-reserved-preserved : goal.loop-reserved-preserved
loop-reserved-preserved c =
    let i = c.loop-reserved.reserved-index in
    let items : List Reserved = c.as_slice-reserved-items.result.now in
    let same = c.as_slice-reserved-items.ensures.value in
    let next : Block = block_of (object_of (get_or items i none_there)) in
    subst (λ (rs : List Reserved). c.push.new.self.items ≡ map block_of (map object_of (take (i + 1) rs))) same
    (c.in_ok-push.ensures.items
    ∙ (ap (λ (b : Block). c.loop-reserved.all.items ++ b ∷ []) c.block.ensures
    ∙ (ap (λ (bs : List Block). bs ++ next ∷ []) (c.loop-reserved.invariant ∙ ap (λ (rs : List Reserved). map block_of (map object_of (take i rs))) (sym same)) ∙ one_more items i c.loop-reserved-test.true)))

pub returns : goal.returns
returns c p is =
    let up : length c.args.pending.now.reserved.items ≤ c.loop-reserved.reserved-index = search rules in
    c.loop-reserved.invariant ∙ all_blocks c.args.pending.now p c.loop-reserved.reserved-index up is
