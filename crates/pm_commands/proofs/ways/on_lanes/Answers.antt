use Rattle.std.proofs.Common.{ap, sym, ◌∙◌}
use Rattle.pm_calls.specs.Calls.{beyond_lanes}
use Rattle.pm_calls.proofs.LinesBeyond.{all_run}
use Rattle.pm_commands.proofs.ways.on_lanes.Goals as goal

pub returns-in-None-clause-script : goal.returns-in-None-clause-script
returns-in-None-clause-script c = record {
  is_script = c.in-Ok.ensures.script;
  runs = all_run c.in-Ok.script.lines (ap beyond_lanes (sym c.as_slice.ensures) ∙ sym c.line_beyond_lanes.ensures ∙ c.in-None.is);
  not_one = c.requires;
}
