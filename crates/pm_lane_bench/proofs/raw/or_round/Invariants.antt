use Rattle.std.proofs.Common.{◌≡◌}
use Rattle.pm_lane_bench.proofs.raw.or_round.Given as goal

abbrev pub invariant-loop : goal.invariant-loop
invariant-loop l = l.seat.table_id ≡ l.table.shared.table_id
