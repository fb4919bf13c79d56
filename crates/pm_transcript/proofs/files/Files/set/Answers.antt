use Rattle.std.proofs.Common.{arith}
use Rattle.std.proofs.lemmas.Map.Text.{text_keys}
use Rattle.pm_transcript.proofs.files.Files.set.Goals as goal

pub returns-in-Ok : goal.returns-in-Ok
returns-in-Ok c = record {
  is_set = grind (arith, text_keys);
  others = λ other differs. grind (arith, text_keys);
}
