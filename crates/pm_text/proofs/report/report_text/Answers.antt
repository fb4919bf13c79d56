use Rattle.std.proofs.Common.{rules, append_assoc}
use Rattle.pm_text.specs.Report.{report_text}
use Rattle.pm_text.proofs.report.report_text.Goals as goal

pub returns : goal.returns
unfolding report_text
returns c = search (rules, append_assoc)
