use Rattle.pm_model.proofs.Example.{allocates}
use Rattle.pm_model.proofs.examples.a_call_by_example.Goals as goal

pub returns : goal.returns
returns c = allocates
