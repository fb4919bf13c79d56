use Rattle.std.specs.Prelude.{ℕ, List, Option, Some}
use Rattle.pm_shelf.specs.Plan.{Plan}
use Rattle.pm_shelf.specs.declared.failing_sink.FailingSink.{FailingSink}

-- the puts, and those that are to fail
abbrev pub sink_plan : FailingSink → Plan
sink_plan sink = sink.plan

-- the bytes put so far
abbrev pub bytes_put : FailingSink → List ℕ
bytes_put sink = sink.sink

-- the same, as what the sink tells
abbrev pub failing_told : FailingSink → Option (List ℕ)
failing_told sink = Some (bytes_put sink)
