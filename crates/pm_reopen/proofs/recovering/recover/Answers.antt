use Rattle.std.proofs.Common.{ℕ, List, sym, ◌∙◌, subst}
use Rattle.pm_recover.specs.Recovery.{IsRecovered}
use Rattle.pm_recover.proofs.Clean.{clean, none_to_come}
use Rattle.pm_recover.proofs.Sound.{sound_if_meaning}
use Rattle.pm_reopen.proofs.Short.{plan_short}
use Rattle.pm_reopen.proofs.Stopping.{left_whole, whole_calls}
use Rattle.pm_reopen.proofs.WholeRecovery.{recoverable_again, whole_recovers}
use Rattle.pm_reopen.proofs.recovering.recover.Goals as goal

pub returns-clause-calls : goal.returns-clause-calls
returns-clause-calls c = λ pool is.
    c.calls.ensures ∙ whole_calls c.args.image.now pool.lanes 0 c.in_ok-end.end c.run.new.image (plan_short c.args.image.now pool is) (c.in_ok-end.ensures.leaves pool is)

pub returns-clause-made : goal.returns-clause-made
returns-clause-made c = λ pool is. left_whole c.args.image.now pool.lanes 0 c.in_ok-end.end c.run.new.image (c.in_ok-end.ensures.leaves pool is)

pub returns-clause-recovered : goal.returns-clause-recovered
returns-clause-recovered c = λ pool is.
    subst (λ (ws : List ℕ). IsRecovered c.args.image.now ws pool.lanes) (sym (returns-clause-made c pool is)) (whole_recovers c.args.image.now pool c.in_ok-end.ensures.words is)

pub returns-clause-clean : goal.returns-clause-clean
returns-clause-clean c = λ pool is.
    none_to_come c.run.new.image pool.lanes (λ lane inside. clean c.args.image.now c.run.new.image pool.lanes lane (sound_if_meaning c.args.image.now pool is) (returns-clause-recovered c pool is) inside)

pub returns-clause-again : goal.returns-clause-again
returns-clause-again c = λ pool is. recoverable_again c.args.image.now c.run.new.image pool c.in_ok-end.ensures.words is (returns-clause-made c pool is)

pub returns-clause-as_long : goal.returns-clause-as_long
returns-clause-as_long c = let means = c.in_ok-end.ensures.done in (returns-clause-recovered c means.0 means.1).as_long
