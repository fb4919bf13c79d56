use Rattle.solo_epoch.proofs.ClearChunks.{is_unused}
use Rattle.solo_epoch.proofs.laws.a_clear_chunk_is_unused.Goals as goal

pub returns : goal.returns
returns c = λ o mem views log decided k zone chunk world inside sees pictures plain. is_unused o mem views log decided k world inside sees pictures plain zone chunk
