use Rattle.std.proofs.Common.{lit<}
use Rattle.std.proofs.lemmas.Str.Pattern.{split_once_first}
use Rattle.solo_script.proofs.StopLists.{nothing_split}
use Rattle.solo_script.proofs.stopping.stop_in.Goals as goal

pub returns-in_err-lane-clause-none : goal.returns-in_err-lane-clause-none
returns-in_err-lane-clause-none c =
    nothing_split c.args.text.now c.split_once.result _ c.from_residual.result (split_once_first 58 c.args.text.now c.split_once.result c.split_once.ensures.cases (lit< tt)) c.in_err-lane.was c.from_residual.ensures
