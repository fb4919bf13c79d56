use Rattle.std.proofs.Common.{◌^◌, slice_index_or, sym, ap, ◌∙◌, subst}
use Rattle.pm_image.specs.declared.block.Block.{Block}
use Rattle.pm_layout.specs.declared.shape.Shape.{Shape}
use Rattle.solo_memory.specs.Runs.{Made}
use Rattle.solo_memory.specs.Solo.{Sees}
use Rattle.solo_view.specs.Steps.Step.{Vacate}
use Rattle.solo_runs.proofs.Resting.{HoldsBehind, behind_given, holds_behind, in_its_run, is_its_block, may_give_back}
use Rattle.solo_runs.specs.Runs.{run_block, run_of}
use Rattle.solo_runs.proofs.tests.give_all_back.Goals as goal

pub loop-block-init : goal.loop-block-init
loop-block-init c = holds_behind c.args.lane.now.memory c.args.lane.now.shape c.requires.0 c.args.blocks.now c.requires.1

pub give_back-requires : goal.give_back-requires
give_back-requires c =
    let holds = c.loop-block.invariant in
    let mine = holds.mine c.loop-block.block-index _ c.loop-block-test.true c.if-block-last.false in
    (holds.rests.view, (holds.rests.sees, may_give_back c.loop-block.lane.memory c.loop-block.lane.shape holds.rests holds.class _ mine))

pub loop-block-preserved : goal.loop-block-preserved
loop-block-preserved c =
    let holds = c.loop-block.invariant in
    let rests = holds.rests in
    let none : Block = record { place = 0; lines = 0 } in
    let block : Block = slice_index_or c.args.blocks.now c.loop-block.block-index none in
    let shape = c.loop-block.lane.shape in
    let old = c.loop-block.lane.memory in
    let new = c.give_back.new.lane.memory in
    let mine = holds.mine c.loop-block.block-index none c.loop-block-test.true c.if-block-last.false in
    let lanes = rests.may.of_shape.lanes in
    let there = is_its_block old shape rests holds.class block mine ∙ ap (λ n. run_block n mine.chunk block.lines mine.index) lanes in
    let made = c.give_back.ensures.given mine.chunk mine.index (in_its_run old shape rests holds.class block mine) there in
    let given = subst (λ n. Made (Sees old) (Sees new) (Vacate (run_of n mine.chunk) (2 ^ mine.index))) (sym lanes) made in
    subst (λ (s : Shape). HoldsBehind new s c.args.blocks.now block.place) (sym (ap (λ l. l.shape) c.give_back.ensures.else_same))
    (behind_given old shape rests holds.class block mine c.args.blocks.now c.loop-block.last holds.mine c.if-block-last.false new (given rests.view rests.sees).0)
