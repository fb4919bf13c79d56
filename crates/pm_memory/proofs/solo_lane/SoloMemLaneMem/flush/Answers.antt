use Rattle.pm_view.specs.Steps.Step.{Flush}
use Rattle.pm_memory.proofs.Seeing.{stopped_instead, flushed_made}
use Rattle.pm_memory.proofs.solo_lane.SoloMemLaneMem.flush.Goals as goal

pub returns-in_err-count-clause-made : goal.returns-in_err-count-clause-made
returns-in_err-count-clause-made c = stopped_instead c.args.self.now c.count.new.self (λ _. Flush c.args.line) c.from_residual.result c.from_residual.ensures.0 c.in_err-count.ensures.err c.in_err-count.ensures.stop

pub returns-clause-made : goal.returns-clause-made
returns-clause-made c v sees any = flushed_made c.args.self.now c.count.new.self _ c.in_ok-count.ensures.more c.in_ok-count.ensures.fits c.in_ok-count.ensures.ok c.args.line (cc) v sees
