use Rattle.std.proofs.Common.{◌≡◌, replicate}
use Rattle.pm_lane_bench.specs.Calls.{or_listed}
use Rattle.pm_lane_bench.proofs.ors.list.Given as goal

-- so many ORs are listed
abbrev pub invariant-loop : goal.invariant-loop
invariant-loop g l = (l.lane.entries.items ≡ replicate l.counter or_listed) × (l.lane ≡ record
    l.fn.lane { entries = l.lane.entries })
