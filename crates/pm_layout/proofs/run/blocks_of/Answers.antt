use Rattle.std.proofs.Common.{sym, lit<}
use Rattle.pm_layout.proofs.run.blocks_of.Goals as goal

pub returns-in-4-clause-of_classes : goal.returns-in-4-clause-of_classes
returns-in-4-clause-of_classes c = (λ _. (2, lit< tt, sym c.in-4.is), λ _. lit< tt)

pub returns-in-5-clause-of_classes : goal.returns-in-5-clause-of_classes
returns-in-5-clause-of_classes c = (λ _. (3, lit< tt, sym c.in-5.is), λ _. lit< tt)

pub returns-in-7-clause-of_classes : goal.returns-in-7-clause-of_classes
returns-in-7-clause-of_classes c = (λ _. (4, lit< tt, sym c.in-7.is), λ _. lit< tt)

pub returns-in-9-clause-of_classes : goal.returns-in-9-clause-of_classes
returns-in-9-clause-of_classes c = (λ _. (5, lit< tt, sym c.in-9.is), λ _. lit< tt)

pub returns-in-15-clause-of_classes : goal.returns-in-15-clause-of_classes
returns-in-15-clause-of_classes c = (λ _. (6, lit< tt, sym c.in-15.is), λ _. lit< tt)
