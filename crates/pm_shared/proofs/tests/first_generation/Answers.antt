use Rattle.std.proofs.Common.{arith}
use Rattle.pm_shared.specs.Openings.{fixed_of, generation_of}
use Rattle.pm_shared.specs.declared.rule.Beginning.{Beginning}
use Rattle.pm_shared.proofs.tests.first_generation.Goals as goal

pub new-requires : goal.new-requires
new-requires g c = let key : Beginning = c.args.memory.table.shared.key in (
  fixed_of key 0,
  generation_of key 0,
  record {
    shape = c.args.memory.shaped;
    lane = let l = c.args.memory.shape.lanes_from in
        omega (arith, l);
    seen = c.in_ok-seat.ensures.lane;
  },
)
