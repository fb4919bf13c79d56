use Rattle.pm_lanes.proofs.Numbers as numbers
use Rattle.pm_lanes.proofs.laws.numbers_are_shown.Goals as goal

pub returns-clause-drawn : goal.returns-clause-drawn
returns-clause-drawn _ = numbers.drawn

pub returns-clause-generation : goal.returns-clause-generation
returns-clause-generation _ = numbers.generation
