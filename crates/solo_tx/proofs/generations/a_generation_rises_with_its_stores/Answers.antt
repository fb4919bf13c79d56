use Rattle.solo_tx.proofs.ReadyGenerations.{applies_none_first, looks_generation, raised_when_ready, ready_first_of, unraised_when_ready}
use Rattle.solo_tx.proofs.generations.a_generation_rises_with_its_stores.Goals as goal

pub returns : goal.returns
returns c = record {
  steps = λ v steps k lane ready none. raised_when_ready v _ lane (ready_first_of k v steps ready) (applies_none_first k v steps none);
  all = raised_when_ready;
  unraised = unraised_when_ready;
  looks = λ n v w looks. (looks_generation n v w looks).0;
}
