use Rattle.solo_tx.proofs.LineStores.{add_stores, commit_few, commit_listed_stores, give_up_few, publish_stores, read_stores, write_stores}
use Rattle.solo_tx.proofs.PlannedWords.{plan_short}
use Rattle.solo_tx.proofs.bounds.a_call_makes_few_stores.Goals as goal

pub returns : goal.returns
returns c = record { adds = add_stores; records = plan_short; writes = write_stores; reads = read_stores; commits = commit_few; performs = commit_listed_stores; publishes = publish_stores; gives_up = give_up_few }
