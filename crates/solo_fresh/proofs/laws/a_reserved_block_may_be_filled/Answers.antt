use Rattle.solo_fresh.proofs.Filled.{fill_lawful}
use Rattle.solo_fresh.proofs.laws.a_reserved_block_may_be_filled.Goals as goal

pub returns : goal.returns
returns c v line lines kind size working some can = fill_lawful v line lines kind size working can some
