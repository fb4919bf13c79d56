use Rattle.std.proofs.Common.{bit_and, eqb, refl, subst}
use Rattle.pm_view.specs.declared.occ.Occ.{Occ}
use Rattle.pm_view.specs.declared.occ.Occ.TheVariants.{Run, Zone}
use Rattle.pm_view.specs.Steps.Step.{Occupy}
use Rattle.pm_shared.specs.Seats.{IsAllowed}
use Rattle.pm_shared.proofs.Seats.{asks_plain}
use Rattle.pm_shared.proofs.lane_sync.SharedLaneLaneSync.occupy.Goals as goal

pub occupies_run-requires-clause-asks : goal.occupies_run-requires-clause-asks
occupies_run-requires-clause-asks g c = asks_plain c.args.self.now _ c.self.view_is (λ r. Occupy (Run c.in-Run.place) c.args.bits (eqb (bit_and r c.args.bits) 0)) (λ r. subst (λ (at : Occ). IsAllowed c.args.self.now (Occupy at c.args.bits (eqb (bit_and r c.args.bits) 0))) c.in-Run.is (c.requires (eqb (bit_and r c.args.bits) 0))) (λ r. refl)

pub occupies_zone-requires-clause-asks : goal.occupies_zone-requires-clause-asks
occupies_zone-requires-clause-asks g c = asks_plain c.args.self.now _ c.self.view_is (λ r. Occupy (Zone c.in-Zone.zone) c.args.bits (eqb (bit_and r c.args.bits) 0)) (λ r. subst (λ (at : Occ). IsAllowed c.args.self.now (Occupy at c.args.bits (eqb (bit_and r c.args.bits) 0))) c.in-Zone.is (c.requires (eqb (bit_and r c.args.bits) 0))) (λ r. refl)
