use Rattle.std.proofs.Common.{arith}
use Rattle.pm_view.specs.Steps.Step.{Store}
use Rattle.pm_memory.proofs.Seeing.{stopped_instead, stored_made}
use Rattle.pm_memory.proofs.solo_lane.SoloMemLaneMem.store.Goals as goal

pub returns-in_err-count-clause-made : goal.returns-in_err-count-clause-made
returns-in_err-count-clause-made c = stopped_instead c.args.self.now c.count.new.self (λ _. Store c.args.word c.args.value) c.from_residual.result c.from_residual.ensures.0 c.in_err-count.ensures.err c.in_err-count.ensures.stop

pub returns-clause-made : goal.returns-clause-made
returns-clause-made c v sees any = stored_made c.args.self.now c.count.new.self c.make.new.self c.in_ok-count.ensures.more c.in_ok-count.ensures.fits c.in_ok-count.ensures.ok c.args.word c.args.value c.found.result c.stored.result (omega arith) c.requires.word c.found.ensures c.stored.ensures c.make.ensures v sees
