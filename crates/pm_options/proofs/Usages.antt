-- What holds where the words are faulty.
use Rattle.std.proofs.Common.{◌≡◌, Result, Ok, Err, IfErr, IsErrAnd, sym, subst}
use Rattle.pm_options.specs.Asked.{IfUsage}
use Rattle.pm_options.specs.declared.fault.OptionsFault.{OptionsFault}
use Rattle.pm_options.specs.declared.fault.OptionsFault.TheVariants.{Usage, Memory}

pub usage_map : (e : OptionsFault) (P Q : Type 0) → (P → Q) → IfUsage e P → IfUsage e Q
usage_map (Usage text) P Q step holds = step holds
usage_map Memory P Q step holds = tt

-- what holds of a faulty line is handed on
pub usage_passed : {T : Type 0} (r : Result T OptionsFault) (e : OptionsFault) (P Q : Type 0) → (P → Q) → IfUsage e P → IsErrAnd r (λ y. y ≡ e) → IfErr r (λ f. IfUsage f Q)
usage_passed (Ok v) e P Q step holds is = tt
usage_passed (Err f) e P Q step holds is = subst (λ (x : OptionsFault). IfUsage x Q) (sym is) (usage_map e P Q step holds)
