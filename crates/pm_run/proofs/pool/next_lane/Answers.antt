use Rattle.std.proofs.Common.{◌/◌, ap, refl, sym, ◌∙◌, arith}
use Rattle.pm_call.proofs.NewLanes.{new_lane_stands_with}
use Rattle.pm_call.proofs.Positions.{rests_between}
use Rattle.pm_layout.specs.Chunks.{words_of}
use Rattle.pm_layout.specs.declared.shape.Shape.{Shape}
use Rattle.pm_shared.specs.declared.rule.Beginning.{Beginning}
use Rattle.pm_shared.specs.Openings.{fixed_of, generation_of}
use Rattle.pm_shared.specs.Seats.{IsSeen}
use Rattle.pm_world.specs.LaneFields.{IsUnused}
use Rattle.pm_world.specs.OwnedBits.{none_owned}
use Rattle.pm_run.proofs.pool.next_lane.Goals as goal

pub new-requires : goal.new-requires
new-requires g c =
    let pool = c.args.pool.now in let key : Beginning = pool.memory.table.shared.key in (
      fixed_of key c.args.number,
      generation_of key c.args.number,
      record {
        shape = pool.shaped;
        lane = let n = c.requires.number in let few = pool.memory.lanes_in in
            let same = ap (λ (s : Shape). s.lanes) (sym pool.memory.shaped ∙ pool.shaped) in
            omega (arith, n, few, same);
        seen = c.in_ok-memory.ensures.lane;
      },
    )

pub returns-clause-lane : goal.returns-clause-lane
returns-clause-lane g c =
    let pool = c.args.pool.now in let key : Beginning = pool.memory.table.shared.key in
    let is : IsUnused IsSeen c.in_ok-memory.memory pool.shape (fixed_of key c.args.number)
    (generation_of key c.args.number) =
    record {
      shape = pool.shaped;
      lane = let n = c.requires.number in let few = pool.memory.lanes_in in
          let same = ap (λ (s : Shape). s.lanes) (sym pool.memory.shaped ∙ pool.shaped) in
          omega (arith, n, few, same);
      seen = c.in_ok-memory.ensures.lane;
    } in
    let rests = c.in_ok-new.ensures.unused (fixed_of key c.args.number)
    (generation_of key c.args.number) pool.named is in (
      new_lane_stands_with IsSeen c.in_ok-memory.memory pool.shape
          (none_owned (words_of pool.shape / 512)) c.in_ok-new.field-0 (fixed_of key c.args.number)
          (generation_of key c.args.number) is
          (λ u. c.in_ok-new.ensures.unused (fixed_of key c.args.number)
          (generation_of key c.args.number) pool.named u),
      rests_between IsSeen c.in_ok-new.field-0 _ refl rests,
    )
