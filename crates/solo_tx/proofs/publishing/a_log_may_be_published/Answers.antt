use Rattle.solo_tx.proofs.Published.{logging_undrawn, performing_drawn, publish_drawn, publish_last, publish_lawful}
use Rattle.solo_tx.proofs.publishing.a_log_may_be_published.Goals as goal

pub returns : goal.returns
returns c = record {
  ended = λ v entries operation n may. publish_lawful v entries may operation n;
  draws = λ v entries operation n may own whole. publish_drawn v entries may operation n own whole;
  last = λ v entries operation n may. publish_last v entries may operation n;
  logging = λ v entries k may. logging_undrawn v entries may k;
  performing = λ v entries operation n k may. performing_drawn v entries may operation n k;
}
