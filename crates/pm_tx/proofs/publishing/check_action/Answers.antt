use Rattle.std.proofs.Common.{Err, refl, subst, sym}
use Rattle.pm_objects.specs.declared.calls.Operation.TheVariants.{Read}
use Rattle.pm_objects.specs.declared.refusal.Refusal.TheVariants as refusal
use Rattle.pm_tx.specs.Publishing.{ActionChecked}
use Rattle.pm_tx.proofs.CheckedWords.{action_held, action_unheld}
use Rattle.pm_tx.proofs.publishing.check_action.Goals as goal

pub returns-then-holds : goal.returns-then-holds
returns-then-holds g c =
    subst (λ a. ActionChecked g.M.LaneMem.at c.args.lane.now c.check_range-inside.new.lane a
    c.check_range-inside.result) (sym c.in-Set.is)
    (action_held g.M.LaneMem.at c.args.lane.now c.check_range-inside.new.lane
    c.in-Set.id c.in-Set.off c.in-Set.value c.check_range-inside.result c.holds.result
    (c.check_range-inside.ensures (Read c.in-Set.id c.in-Set.off 8) (refl, refl, refl, refl))
    c.holds.ensures.held c.if-holds.true)

pub returns-else-holds : goal.returns-else-holds
returns-else-holds g c =
    subst (λ a. ActionChecked g.M.LaneMem.at c.args.lane.now c.check_range-inside.new.lane a
    (Err refusal.NotLocked)) (sym c.in-Set.is)
    (action_unheld g.M.LaneMem.at c.args.lane.now c.check_range-inside.new.lane
    c.in-Set.id c.in-Set.off c.in-Set.value c.check_range-inside.result c.holds.result
    (c.check_range-inside.ensures (Read c.in-Set.id c.in-Set.off 8) (refl, refl, refl, refl))
    c.holds.ensures.held c.if-holds.false)

pub returns-in_default : goal.returns-in_default
unfolding ActionChecked
returns-in_default g c a is = absurd (c.in_default.not-Set a.id a.off a.value is)
