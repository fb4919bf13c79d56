use Rattle.solo_crash.proofs.InFlight.{past_calls_in_flight}
use Rattle.solo_crash.proofs.histories.a_lane_looks_past_calls_in_flight.Goals as goal

pub returns : goal.returns
returns c = past_calls_in_flight
