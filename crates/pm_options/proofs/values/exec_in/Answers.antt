use Rattle.pm_options.proofs.Usages.{usage_passed}
use Rattle.pm_options.proofs.values.exec_in.Goals as goal

pub returns-in_err-stops-clause-none : goal.returns-in_err-stops-clause-none
returns-in_err-stops-clause-none c =
    usage_passed c.from_residual-in_err-stops.result c.in_err-stops.field-0.0 _ _ (λ none asked has. none asked.stops has.stops) c.in_err-stops.ensures.none c.from_residual-in_err-stops.ensures.1

pub returns-in_err-keep-clause-none : goal.returns-in_err-keep-clause-none
returns-in_err-keep-clause-none c =
    usage_passed c.from_residual-in_err-keep.result c.in_err-keep.field-0.0 _ _ (λ none asked has. none asked.keep has.keep) c.in_err-keep.ensures.none c.from_residual-in_err-keep.ensures.1
