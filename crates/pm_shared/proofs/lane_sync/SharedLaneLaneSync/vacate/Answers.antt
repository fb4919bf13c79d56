use Rattle.std.proofs.Common.{refl, subst}
use Rattle.pm_view.specs.declared.occ.Occ.{Occ}
use Rattle.pm_view.specs.declared.occ.Occ.TheVariants.{Run, Zone}
use Rattle.pm_view.specs.Steps.Step.{Vacate}
use Rattle.pm_shared.specs.Seats.{IsAllowed}
use Rattle.pm_shared.proofs.Seats.{asks_plain}
use Rattle.pm_shared.proofs.lane_sync.SharedLaneLaneSync.vacate.Goals as goal

pub vacates_run-requires-clause-asks : goal.vacates_run-requires-clause-asks
vacates_run-requires-clause-asks g c = asks_plain c.args.self.now _ c.self.view_is (λ r. Vacate (Run c.in-Run.place) c.args.bits) (λ r. subst (λ (at : Occ). IsAllowed c.args.self.now (Vacate at c.args.bits)) c.in-Run.is (c.requires)) (λ r. refl)

pub vacates_zone-requires-clause-asks : goal.vacates_zone-requires-clause-asks
vacates_zone-requires-clause-asks g c = asks_plain c.args.self.now _ c.self.view_is (λ r. Vacate (Zone c.in-Zone.zone) c.args.bits) (λ r. subst (λ (at : Occ). IsAllowed c.args.self.now (Vacate at c.args.bits)) c.in-Zone.is (c.requires)) (λ r. refl)
