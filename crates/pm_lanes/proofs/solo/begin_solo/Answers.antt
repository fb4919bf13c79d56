use Rattle.std.proofs.Common.{ℕ, ◌-◌, List, ◌++◌, length, replicate, sym, ap, ◌∙◌, subst}
use Rattle.pm_memory.specs.Solo.{Solo}
use Rattle.pm_shared.specs.declared.rule.Beginning.{Beginning}
use Rattle.pm_lanes.specs.Opens.{StandsOpened}
use Rattle.pm_lanes.proofs.SoloOpened.{solo_stands}
use Rattle.pm_lanes.proofs.solo.begin_solo.Goals as goal

pub returns-clause-stands : goal.returns-clause-stands
returns-clause-stands c =
    let b : Beginning = c.in_ok-beginning.beginning in
    let zones : List ℕ = c.in_ok-zones.zones.items in
    subst (λ (m : Solo). StandsOpened m b.shape b.pool c.args.stop)
    (sym (c.new-2.ensures ∙ (c.with_occupancy-memory.ensures
    ∙ ap (λ (m : Solo). record m { runs = b.runs.items; zones = zones }) c.in_ok-new.ensures)))
    (solo_stands b c.in_ok-beginning.ensures.begins c.in_ok-beginning.ensures.lanes c.args.stop zones
    (c.in_ok-zones.ensures
    ∙ ap (λ (z : List ℕ). z ++ replicate (32 - length z) 0) c.deref.ensures.value))
