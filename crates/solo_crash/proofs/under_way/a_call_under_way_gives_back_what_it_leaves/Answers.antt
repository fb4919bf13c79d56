use Rattle.solo_crash.proofs.GivenUnused.{before_unused, borne_unused, reserved_unused, under_way_unused}
use Rattle.solo_crash.proofs.under_way.a_call_under_way_gives_back_what_it_leaves.Goals as goal

pub returns-clause-under_way : goal.returns-clause-under_way
returns-clause-under_way c v next level at_stage e gives = under_way_unused v next gives level at_stage e

pub returns-clause-reserved : goal.returns-clause-reserved
returns-clause-reserved c = reserved_unused

pub returns-clause-borne_out : goal.returns-clause-borne_out
returns-clause-borne_out c = borne_unused

pub returns-clause-before : goal.returns-clause-before
returns-clause-before c v next w gives = before_unused v next gives w
