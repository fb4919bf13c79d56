use Rattle.solo_tx.proofs.CommitSteps.{commit_front, commit_last, commit_lawful, deciding_of}
use Rattle.solo_tx.proofs.laws.a_call_may_be_committed.Goals as goal

pub returns : goal.returns
returns c = record {
  over = λ v spans entries n working are can. commit_lawful v working spans entries n (deciding_of v working spans entries are can n);
  last = λ v spans entries n working are can. commit_last v working spans entries n (deciding_of v working spans entries are can n);
  stops = λ v spans entries n k working are can. commit_front v working spans entries n (deciding_of v working spans entries are can n) k;
}
