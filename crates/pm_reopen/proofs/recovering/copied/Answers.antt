use Rattle.std.proofs.Common.{◌∙◌, arith}
use Rattle.std.proofs.lemmas.List.{take_all}
use Rattle.pm_reopen.proofs.recovering.copied.Goals as goal

pub loop-i-init : goal.loop-i-init
loop-i-init c = record { same = c.in_ok-words.ensures.items; small = λ w low. omega (arith, low) }

pub returns-clause-same : goal.returns-clause-same
returns-clause-same c = c.loop-i.invariant.same ∙ take_all _ c.args.image.now (omega arith)
