use Rattle.std.proofs.Common.{◌≡◌, ◌≤◌, ◌∙◌, List, get_or, length, map, refl, rules, subst, sym, take, ap}
use Rattle.solo_blocks.specs.Giving.{MayGiveBackBlock, vacates_block}
use Rattle.solo_crash.specs.CallBlocks.{NewObject}
use Rattle.solo_epoch.specs.GivingBack.{MayGiveObjectBack, with_given_back}
use Rattle.pm_image.specs.declared.block.Block.{Block}
use Rattle.solo_memory.specs.Runs.{Made}
use Rattle.solo_view.specs.Views.{after_all}
use Rattle.solo_world.specs.Lanes.{IsOfShape}
use Rattle.solo_pending.specs.AllPending.{object_of}
use Rattle.solo_world.specs.declared.lane.Lane.{Lane}
use Rattle.solo_transaction.proofs.GivenInTurn.{all_taken, memory_again, next_behind, next_made, next_may, next_most, none_there}
use Rattle.solo_transaction.proofs.giving_back.give_back_each.Goals as goal

pub loop-one-init : goal.loop-one-init
unfolding after_all
loop-one-init g c = (λ v there same. there, refl)

pub block-requires-clause-behind : goal.block-requires-clause-behind
block-requires-clause-behind g c = let may = c.requires.may in next_behind c.args.reserved.now c.loop-one.one-index c.loop-one-test.true may.0 c.args.lane.now.shape may.1.1

pub block-requires-clause-size : goal.block-requires-clause-size
block-requires-clause-size g c = let may = c.requires.may in next_most c.args.reserved.now c.loop-one.one-index c.loop-one-test.true may.0 c.args.lane.now.shape may.1.1

pub give_back-requires : goal.give_back-requires
give_back-requires g c =
    let may = c.requires.may in
    let next : MayGiveObjectBack (with_given_back may.0 (map object_of (take c.loop-one.one-index c.args.reserved.now))) c.args.lane.now.shape (object_of (get_or c.args.reserved.now c.loop-one.one-index none_there)) = next_may c.args.reserved.now c.loop-one.one-index c.loop-one-test.true may.0 c.args.lane.now.shape may.1.1 in
    let shape : c.loop-one.lane.shape ≡ c.args.lane.now.shape = ap (λ (l : Lane g.row.M.Denot). l.shape) c.loop-one.invariant.1 in
    (_, (c.loop-one.invariant.0 may.0 may.1.0 may.1.1.of_shape.lanes, subst (IsOfShape _) (sym shape) next.0, subst (MayGiveBackBlock _) (sym c.block.ensures) next.1))

pub loop-one-preserved : goal.loop-one-preserved
loop-one-preserved g c =
    let shape : c.loop-one.lane.shape.lanes ≡ c.args.lane.now.shape.lanes = ap (λ (l : Lane g.row.M.Denot). l.shape.lanes) c.loop-one.invariant.1 in (
      λ v there same. next_made c.args.reserved.now c.loop-one.one-index c.loop-one-test.true (g.M.LaneMem.at c.loop-one.lane.memory) (g.M.LaneMem.at c.give_back.new.lane.memory) v c.loop-one.lane.shape.lanes (same ∙ sym shape)
          (c.loop-one.invariant.0 v there same)
          (subst (λ (b : Block). Made (g.M.LaneMem.at c.loop-one.lane.memory) (g.M.LaneMem.at c.give_back.new.lane.memory) (vacates_block c.loop-one.lane.shape.lanes b)) c.block.ensures c.give_back.ensures.given),
      memory_again c.args.lane.now c.loop-one.lane c.give_back.new.lane c.loop-one.invariant.1 c.give_back.ensures.else_same,
    )

pub returns-clause-given : goal.returns-clause-given
returns-clause-given g c v there same =
    let up : length c.args.reserved.now ≤ c.loop-one.one-index = search rules in
    subst (λ (ns : List NewObject). g.M.LaneMem.at c.loop-one.lane.memory (with_given_back v ns)) (all_taken c.args.reserved.now c.loop-one.one-index up) (c.loop-one.invariant.0 v there same)
