use Rattle.solo_sealed.proofs.EndedLog.{clean, drained, words}
use Rattle.solo_sealed.proofs.laws.a_log_at_its_end_is_clean.Goals as goal

pub returns : goal.returns
returns c = record {
  words = words;
  drained = drained;
  clean = clean;
}
