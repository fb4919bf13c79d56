-- From what one call answers to what its caller answers with it.
use Rattle.std.proofs.Common.{◌≡◌, Option, None, Some, Result, Ok, Err, refl}
use Rattle.std.specs.Option.{ok_or}
use Rattle.std.specs.Result.{IfErr}
use Rattle.solo_script.specs.Scripts.{IfBad}
use Rattle.solo_script.specs.declared.fault.BadLine.{BadLine}
use Rattle.solo_script.specs.declared.fault.ScriptFault.{ScriptFault}
use Rattle.solo_script.specs.declared.fault.ScriptFault.TheVariants.{Bad, Memory}

-- a value was there
pub value_found : {A E : Type 0} (found : Option A) (fault : E) (value : A) → ok_or found fault ≡ Ok value → found ≡ Some value
value_found (Some x) fault value is = cc
value_found None fault value is = cc

-- no value was there, and the fault is the one for that
pub none_found : {A E : Type 0} (found : Option A) (fault other : E) → ok_or found fault ≡ Err other → (found ≡ None) × (other ≡ fault)
none_found (Some x) fault other is = cc
none_found None fault other is = (refl, cc)

-- what holds of each bad line of one kind holds of each of another
pub if_bad : {P Q : BadLine → Type 0} (fault : ScriptFault) → ((bad : BadLine) → P bad → Q bad) → IfBad fault P → IfBad fault Q
if_bad (Bad line) f p = f line p
if_bad (Memory error) f p = tt

pub if_err_bad : {T : Type 0} {P Q : BadLine → Type 0} (answer : Result T ScriptFault) → ((bad : BadLine) → P bad → Q bad) → IfErr answer (λ e. IfBad e P) → IfErr answer (λ e. IfBad e Q)
if_err_bad (Ok x) f p = tt
if_err_bad (Err e) f p = if_bad e f p
