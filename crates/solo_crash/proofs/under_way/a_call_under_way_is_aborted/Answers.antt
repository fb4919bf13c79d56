use Rattle.solo_crash.proofs.PublishFound.{refused_publish_aborts}
use Rattle.solo_crash.proofs.GivenUp.{abort_aborts, refusal_aborts}
use Rattle.solo_crash.proofs.GoneRanges.{gone_range_aborts, new_range_aborts}
use Rattle.solo_crash.proofs.RefusedAlloc.{refused_alloc_aborts}
use Rattle.solo_crash.proofs.RefusedBegin.{level_aborted}
use Rattle.solo_crash.proofs.RefusedFree.{refused_free_aborts}
use Rattle.solo_crash.proofs.Staying.{aborted_learns, aborted_stays}
use Rattle.solo_crash.proofs.under_way.a_call_under_way_is_aborted.Goals as goal

pub returns-clause-by_range : goal.returns-clause-by_range
returns-clause-by_range c = refusal_aborts

pub returns-clause-by_gone : goal.returns-clause-by_gone
returns-clause-by_gone c = gone_range_aborts

pub returns-clause-by_new_range : goal.returns-clause-by_new_range
returns-clause-by_new_range c = new_range_aborts

pub returns-clause-by_begin : goal.returns-clause-by_begin
returns-clause-by_begin c = level_aborted

pub returns-clause-by_publish : goal.returns-clause-by_publish
returns-clause-by_publish c = refused_publish_aborts

pub returns-clause-by_alloc : goal.returns-clause-by_alloc
returns-clause-by_alloc c = refused_alloc_aborts

pub returns-clause-by_free : goal.returns-clause-by_free
returns-clause-by_free c = refused_free_aborts

pub returns-clause-asked : goal.returns-clause-asked
returns-clause-asked c = abort_aborts

pub returns-clause-taken_back : goal.returns-clause-taken_back
returns-clause-taken_back c = aborted_stays

pub returns-clause-quietly : goal.returns-clause-quietly
returns-clause-quietly c = aborted_learns
