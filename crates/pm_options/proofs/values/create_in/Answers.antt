use Rattle.pm_options.proofs.Usages.{usage_passed}
use Rattle.pm_options.proofs.values.create_in.Goals as goal

pub returns-in_err-lanes-clause-none : goal.returns-in_err-lanes-clause-none
returns-in_err-lanes-clause-none c =
    usage_passed c.from_residual-in_err-lanes.result c.in_err-lanes.field-0.0 _ _ (λ none create has. none create.wanted.lanes has.lanes) c.in_err-lanes.ensures.none c.from_residual-in_err-lanes.ensures.1

pub returns-in_err-zones-clause-none : goal.returns-in_err-zones-clause-none
returns-in_err-zones-clause-none c =
    usage_passed c.from_residual-in_err-zones.result c.in_err-zones.field-0.0 _ _ (λ none create has. none create.wanted.zones has.zones) c.in_err-zones.ensures.none c.from_residual-in_err-zones.ensures.1

pub returns-in_err-id-clause-none : goal.returns-in_err-id-clause-none
returns-in_err-id-clause-none c =
    usage_passed c.from_residual-in_err-id.result c.in_err-id.field-0.0 _ _ (λ none create has. none create.wanted.id has.id) c.in_err-id.ensures.none c.from_residual-in_err-id.ensures.1

pub returns-in_err-root-clause-none : goal.returns-in_err-root-clause-none
returns-in_err-root-clause-none c =
    usage_passed c.from_residual-in_err-root.result c.in_err-root.field-0.0 _ _ (λ none create has. none create.wanted.root has.root) c.in_err-root.ensures.none c.from_residual-in_err-root.ensures.1
