use Rattle.std.specs.Prelude.{ℕ}
use Rattle.pm_shelf.specs.declared.output_sink.OutputSink.{OutputSink}

-- how often a write of the output failed
abbrev pub sink_faults : {R : Type 0} → OutputSink R → ℕ
sink_faults sink = sink.faults
