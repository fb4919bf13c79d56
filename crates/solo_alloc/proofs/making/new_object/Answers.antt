use Rattle.std.proofs.Common.{sym, subst, inr}
use Rattle.pm_layout.specs.Sizes.{class_of}
use Rattle.solo_blocks.specs.declared.making.NoBlock.{NoBlock}
use Rattle.solo_blocks.proofs.Taking.{if_err}
use Rattle.solo_alloc.specs.NewObjects.{GivesNoObject}
use Rattle.solo_alloc.proofs.Objects.{has_new, has_object, is_ready, may_next, next_of, stops}
use Rattle.solo_alloc.proofs.making.new_object.Goals as goal

pub fill-requires : goal.fill-requires
fill-requires g c =
    let v = c.requires.may.0 in
    let can = c.requires.may.1.1 in
    is_ready v c.args.lane.now.shape can (g.M.LaneMem.at c.reserve.new.lane.memory) c.args.size c.args.kind c.in_ok-block.block (c.in_ok-block.ensures.got v c.requires.may.1.0 can.run)

pub returns-clause-got : goal.returns-clause-got
returns-clause-got g c v there can =
    has_new v c.args.lane.now.shape can (g.M.LaneMem.at c.reserve.new.lane.memory) c.args.size c.args.kind c.in_ok-block.block (c.in_ok-block.ensures.got v there can.run)
    (g.M.LaneMem.at c.fill.new.mem) c.in_ok-fill.ensures

pub returns-clause-made : goal.returns-clause-made
returns-clause-made g c v there can =
    has_object v c.args.lane.now.shape can (g.M.LaneMem.at c.reserve.new.lane.memory) c.args.size c.args.kind c.in_ok-block.block (c.in_ok-block.ensures.got v there can.run)
    (g.M.LaneMem.at c.fill.new.mem) c.in_ok-fill.ensures

pub returns-clause-next : goal.returns-clause-next
returns-clause-next g c v there can =
    may_next v c.args.lane.now.shape can (g.M.LaneMem.at c.reserve.new.lane.memory) c.args.size c.args.kind c.in_ok-block.block (c.in_ok-block.ensures.got v there can.run)
    (g.M.LaneMem.at c.fill.new.mem) c.in_ok-fill.ensures

pub returns-in_err-fill-clause-none : goal.returns-in_err-fill-clause-none
returns-in_err-fill-clause-none g c =
    if_err _ _ c.from_residual-in_err-fill.result c.from_residual-in_err-fill.ensures.1 (λ why is v there can.
    subst (λ (e : NoBlock). GivesNoObject (g.M.LaneMem.at c.fill.new.mem) v c.args.size c.args.kind e) (sym is)
    (inr (
      c.in_ok-block.block,
      stops v c.args.lane.now.shape can (g.M.LaneMem.at c.reserve.new.lane.memory) c.args.size c.args.kind c.in_ok-block.block (c.in_ok-block.ensures.got v there can.run)
          (g.M.LaneMem.at c.fill.new.mem) c.in_err-fill.field-0.0 c.in_err-fill.ensures,
    )))

pub returns-in_err-block-clause-next : goal.returns-in_err-block-clause-next
returns-in_err-block-clause-next g c v there can =
    next_of v c.args.lane.now.shape can (g.M.LaneMem.at c.reserve.new.lane.memory) (class_of c.args.size) c.from_residual.result c.in_err-block.field-0.0 c.from_residual.ensures.1
    (c.in_err-block.ensures.none v there can.run)
