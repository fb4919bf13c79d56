use Rattle.std.proofs.Common.{◌∙◌}
use Rattle.pm_words.proofs.Patching.{copied_is_patched}
use Rattle.pm_words.proofs.words.patch.Goals as goal

pub returns : goal.returns
returns c = c.from_le_bytes.ensures ∙ copied_is_patched c.args.from c.args.bytes.now c.copy_from_slice.new.self c.to_le_bytes-whole.result c.args.word c.copy_from_slice.ensures.after c.to_le_bytes-whole.ensures
