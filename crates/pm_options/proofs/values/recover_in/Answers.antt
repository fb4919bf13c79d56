use Rattle.pm_options.proofs.Usages.{usage_passed}
use Rattle.pm_options.proofs.values.recover_in.Goals as goal

pub returns-in_err-stop-clause-none : goal.returns-in_err-stop-clause-none
returns-in_err-stop-clause-none c =
    usage_passed c.from_residual-in_err-stop.result c.in_err-stop.field-0.0 _ _ (λ none asked has. none asked.stop has.stop) c.in_err-stop.ensures.none c.from_residual-in_err-stop.ensures.1

pub returns-in_err-keep-clause-none : goal.returns-in_err-keep-clause-none
returns-in_err-keep-clause-none c =
    usage_passed c.from_residual-in_err-keep.result c.in_err-keep.field-0.0 _ _ (λ none asked has. none asked.keep has.keep) c.in_err-keep.ensures.none c.from_residual-in_err-keep.ensures.1
