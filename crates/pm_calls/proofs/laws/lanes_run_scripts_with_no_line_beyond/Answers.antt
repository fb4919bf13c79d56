use Rattle.pm_calls.proofs.LinesBeyond.{all_run}
use Rattle.pm_calls.proofs.laws.lanes_run_scripts_with_no_line_beyond.Goals as goal

pub returns : goal.returns
returns c = all_run
