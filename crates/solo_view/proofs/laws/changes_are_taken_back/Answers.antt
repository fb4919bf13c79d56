use Rattle.solo_view.proofs.Forming.{or_formed, and_formed, bit_at-taken_back}
use Rattle.solo_view.proofs.laws.changes_are_taken_back.Goals as goal

pub returns-clause-of_or : goal.returns-clause-of_or
returns-clause-of_or c = or_formed

pub returns-clause-of_and : goal.returns-clause-of_and
returns-clause-of_and c = and_formed

pub returns-clause-bit : goal.returns-clause-bit
returns-clause-bit c = bit_at-taken_back
