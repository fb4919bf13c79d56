use Rattle.pm_layout.proofs.OneKind.{one_kind}
use Rattle.pm_layout.proofs.laws.one_kind_per_word.Goals as goal

pub returns : goal.returns
returns c = one_kind
