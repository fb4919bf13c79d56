use Rattle.solo_view.proofs.Finding.{survivor-lost, survivor-whole, survivor-bit}
use Rattle.solo_view.proofs.laws.survivors_are_found.Goals as goal

pub returns-clause-lost : goal.returns-clause-lost
returns-clause-lost c = survivor-lost

pub returns-clause-whole : goal.returns-clause-whole
returns-clause-whole c = survivor-whole

pub returns-clause-bit : goal.returns-clause-bit
returns-clause-bit c = survivor-bit
