use Rattle.std.proofs.Common.{sym, ap, ◌∙◌, arith}
use Rattle.pm_layout.specs.declared.shape.Shape.{Shape}
use Rattle.pm_shared.specs.Openings.{fixed_of, generation_of}
use Rattle.pm_shared.specs.declared.rule.Beginning.{Beginning}
use Rattle.pm_lanes.proofs.tests.generations.Goals as goal

pub new-requires : goal.new-requires
new-requires g c = let key : Beginning = c.args.memory.table.shared.key in (
  fixed_of key 0,
  generation_of key 0,
  record {
    shape = c.requires.shape;
    lane = let l = c.args.shape.lanes_from in omega (arith, l);
    seen = c.in_ok-first.ensures.lane;
  },
)

pub new-requires-2 : goal.new-requires-2
new-requires-2 g c = let key : Beginning = c.args.memory.table.shared.key in (
  fixed_of key 1,
  generation_of key 1,
  record {
    shape = c.requires.shape;
    lane = let few = c.args.memory.lanes_in in let two = c.requires.lanes in
        let same = ap (λ (s : Shape). s.lanes) (sym c.args.memory.shaped ∙ c.requires.shape) in
        omega (arith, few, two, same);
    seen = c.in_ok-second.ensures.lane;
  },
)
