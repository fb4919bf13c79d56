use Rattle.std.proofs.Common.{refl, sym, ◌∙◌}
use Rattle.std.proofs.lemmas.Bool.{false≢true}
use Rattle.solo_transaction.proofs.published_lists.lines_held.Goals as goal

pub returns-in-None : goal.returns-in-None
returns-in-None c = record { held = λ found locked. absurd (false≢true (sym (c.in-None.ensures.none refl found) ∙ locked)) }
