use Rattle.std.proofs.Common.{codes}
use Rattle.std.specs.Fmt.{decimal}
use Rattle.pm_text.proofs.Ends.{three}
use Rattle.pm_text.proofs.report.push_stopped.Goals as goal

pub returns : goal.returns
returns c = three c.args.out.now.items (codes " stopped after ") (decimal c.args.calls) (codes " calls\n") _ _ _ c.in_ok-extend_from_slice.ensures.items c.in_ok-push_decimal.ensures c.in_ok-extend_from_slice-2.ensures.items
