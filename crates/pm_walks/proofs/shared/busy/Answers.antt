use Rattle.std.proofs.Common.{sym, ap, ◌∙◌, arith}
use Rattle.pm_layout.specs.declared.shape.Shape.{Shape}
use Rattle.pm_walks.proofs.shared.busy.Goals as goal

pub lane_of-requires : goal.lane_of-requires
lane_of-requires g c = (
  c.args.memory.table.shared.key,
  0,
  c.in_ok-first.ensures.lane,
  c.requires.id,
  c.requires.shape,
  let l = c.args.shape.lanes_from in omega (arith, l),
)

pub lane_of-requires-2 : goal.lane_of-requires-2
lane_of-requires-2 g c = (
  c.args.memory.table.shared.key,
  1,
  c.in_ok-second.ensures.lane,
  c.requires.id,
  c.requires.shape,
  let few = c.args.memory.lanes_in in let two = c.requires.lanes in
      let same = ap (λ (s : Shape). s.lanes) (sym c.args.memory.shaped ∙ c.requires.shape) in
      omega (arith, few, two, same),
)
