use Rattle.solo_undo.proofs.Begun.{begin_works}
use Rattle.solo_undo.proofs.laws.a_begun_call_is_at_work.Goals as goal

pub returns : goal.returns
returns c = begin_works
