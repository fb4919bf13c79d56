use Rattle.std.proofs.Common.{arith}
use Rattle.std.proofs.lemmas.Map.Text.{text_keys}
use Rattle.pm_transcript.proofs.files.Files.remove.Goals as goal

pub returns : goal.returns
returns c = record {
  is_set = grind (arith, text_keys);
  others = λ other differs. grind (arith, text_keys);
}
