use Rattle.solo_model.proofs.Aloneness.{answers_alone, offset_alone, place_alone, refused_alone, unreserved_alone}
use Rattle.solo_model.proofs.laws.answers_alone_are_answers.Goals as goal

pub returns-clause-answers : goal.returns-clause-answers
returns-clause-answers c = answers_alone

pub returns-clause-offset : goal.returns-clause-offset
returns-clause-offset c = offset_alone

pub returns-clause-refused : goal.returns-clause-refused
returns-clause-refused c = refused_alone

pub returns-clause-place : goal.returns-clause-place
returns-clause-place c = place_alone

pub returns-clause-unreserved : goal.returns-clause-unreserved
returns-clause-unreserved c = unreserved_alone
