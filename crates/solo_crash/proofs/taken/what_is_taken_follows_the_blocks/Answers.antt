use Rattle.solo_crash.proofs.TakenChanges.{chunks_give, chunks_take, freed_takes, made_takes}
use Rattle.solo_crash.proofs.TakenInTurn.{all_take}
use Rattle.solo_crash.proofs.taken.what_is_taken_follows_the_blocks.Goals as goal

pub returns : goal.returns
returns c = record {
  block = made_takes;
  chunks = chunks_take;
  freed_block = freed_takes;
  freed_chunks = chunks_give;
  all = all_take;
}
