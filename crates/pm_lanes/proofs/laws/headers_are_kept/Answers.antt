use Rattle.pm_lanes.proofs.Headers.{kept}
use Rattle.pm_lanes.proofs.laws.headers_are_kept.Goals as goal

pub returns : goal.returns
returns c = kept
