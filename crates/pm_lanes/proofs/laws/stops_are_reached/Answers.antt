use Rattle.pm_lanes.proofs.Stops as stops
use Rattle.pm_lanes.proofs.laws.stops_are_reached.Goals as goal

pub returns-clause-own : goal.returns-clause-own
returns-clause-own _ = stops.own

pub returns-clause-seen : goal.returns-clause-seen
returns-clause-seen _ = stops.seen
