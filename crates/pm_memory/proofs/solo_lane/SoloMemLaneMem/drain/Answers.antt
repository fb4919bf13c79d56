use Rattle.std.proofs.Common.{List, ap, ◌∙◌}
use Rattle.pm_view.specs.declared.change.Change.{Change}
use Rattle.pm_memory.specs.Changes.{changes_drained}
use Rattle.pm_view.specs.Steps.Step.{Drain}
use Rattle.pm_memory.specs.Solo.{Solo}
use Rattle.pm_memory.specs.contracts.solo.SoloMem.{the_view}
use Rattle.pm_memory.proofs.Seeing.{stopped_instead, drained_made}
use Rattle.pm_memory.proofs.solo_lane.SoloMemLaneMem.drain.Goals as goal

pub returns-in_err-count-clause-made : goal.returns-in_err-count-clause-made
returns-in_err-count-clause-made c = stopped_instead c.args.self.now c.count.new.self (λ _. Drain) c.from_residual.result c.from_residual.ensures.0 c.in_err-count.ensures.err c.in_err-count.ensures.stop

pub returns-clause-made : goal.returns-clause-made
returns-clause-made c v sees any =
    let changes = ap (λ (left : List Change). the_view (record c.self.inside { changes = left })) c.drain.ensures in
    drained_made c.args.self.now c.count.new.self _ c.in_ok-count.ensures.more c.in_ok-count.ensures.fits c.in_ok-count.ensures.ok
    (changes ∙ ap (λ (before : Solo). record before { changes = changes_drained before.changes }) c.self.view_is) v sees
