use Rattle.solo_fresh.proofs.MakingRuns.{make_lawful}
use Rattle.solo_fresh.proofs.laws.a_reserved_chunk_may_be_made_a_run.Goals as goal

pub returns : goal.returns
returns c = make_lawful
