-- What is told of an operation whose lists are lent.
use Rattle.std.specs.Prelude.{Option}
use Rattle.std.specs.Option.{option_map}
use Rattle.pm_objects.specs.declared.calls.Operation.{Operation}
use Rattle.pm_objects.specs.declared.calls.Operation.TheVariants as operation
use Rattle.pm_objects.specs.declared.history.Value.{Value}
use Rattle.pm_objects.specs.declared.history.Value.TheVariants as value
use Rattle.pm_view.specs.Steps.{Step}
use Rattle.pm_view.specs.Steps.Step.{Tell}
use Rattle.pm_world.specs.declared.lent.LentOperation.{LentOperation}
use Rattle.pm_world.specs.declared.lent.LentOperation.TheVariants.{Begin, Write, WriteReserved, Whole}
use Rattle.pm_world.specs.declared.lent.LentValue.{LentValue}
use Rattle.pm_world.specs.declared.lent.LentValue.TheVariants as lent

-- the operation, with what is lent
abbrev pub operation_of : LentOperation → Operation
operation_of (Begin wants) = operation.Begin wants.now
operation_of (Write id off bytes) = operation.Write id off bytes.now
operation_of (WriteReserved id off bytes) = operation.WriteReserved id off bytes.now
operation_of (Whole op) = op.now

-- the value, with what is lent
abbrev pub value_of : LentValue → Value
value_of (lent.Bytes bytes) = value.Bytes bytes.now
value_of (lent.Members offs) = value.Members offs.now
value_of (lent.Whole given) = given.now

-- the step that tells both
abbrev pub tells : LentOperation → Option LentValue → Step
tells op reply = Tell (operation_of op) (option_map value_of reply)
