use Rattle.std.proofs.Common.{◌≡◌}
use Rattle.pm_lane_bench.proofs.raw.or_block.Given as goal

abbrev pub invariant-loop-value : goal.invariant-loop-value
invariant-loop-value l = l.seat.table_id ≡ l.table.shared.table_id
