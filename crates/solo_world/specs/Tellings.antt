-- What is told of an operation that may be refused.
use Rattle.std.specs.Prelude.{Option, Some, None}
use Rattle.pm_objects.specs.declared.history.Value.{Value}
use Rattle.pm_objects.specs.declared.history.Value.TheVariants.{Refused}
use Rattle.pm_objects.specs.declared.refusal.Refusal.{Refusal}

-- the refusal, or nothing where it was done
abbrev pub reply_of : Option Refusal → Option Value
reply_of None = None
reply_of (Some refusal) = Some (Refused refusal)
