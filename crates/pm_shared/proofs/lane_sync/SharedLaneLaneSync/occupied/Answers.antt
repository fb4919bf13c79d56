use Rattle.std.proofs.Common.{refl, sym, subst}
use Rattle.pm_memory.specs.Runs.{AnyStep, Made}
use Rattle.pm_view.specs.declared.occ.Occ.{Occ}
use Rattle.pm_view.specs.declared.occ.Occ.TheVariants.{Run, Zone}
use Rattle.pm_view.specs.Steps.Step.{Occupied}
use Rattle.pm_shared.specs.Seats.{IsSeen, IsAllowed}
use Rattle.pm_shared.proofs.Seats.{asks_plain, made_plain}
use Rattle.pm_shared.proofs.lane_sync.SharedLaneLaneSync.occupied.Goals as goal

pub sees_run-requires-clause-asks : goal.sees_run-requires-clause-asks
sees_run-requires-clause-asks g c = asks_plain c.args.self.now _ c.self.view_is (λ r. Occupied (Run c.in-Run.place) r) (λ r. subst (λ (at : Occ). IsAllowed c.args.self.now (Occupied at r)) c.in-Run.is (c.requires r)) (λ r. refl)

pub sees_zone-requires-clause-asks : goal.sees_zone-requires-clause-asks
sees_zone-requires-clause-asks g c = asks_plain c.args.self.now _ c.self.view_is (λ r. Occupied (Zone c.in-Zone.zone) r) (λ r. subst (λ (at : Occ). IsAllowed c.args.self.now (Occupied at r)) c.in-Zone.is (c.requires r)) (λ r. refl)

pub returns-in-Run : goal.returns-in-Run
returns-in-Run g c = subst (λ (at : Occ). Made AnyStep (IsSeen c.args.self.now) (IsSeen (record { shape = c.self.inside.memory.now.shape; lane = c.self.inside.lane; tally = c.self.inside.tally; me = c.sees_run.new.seat.me })) (Occupied at c.sees_run.result)) (sym c.in-Run.is)
    (made_plain c.args.self.now _ c.self.view_is c.sees_run.new.seat.me (Occupied (Run c.in-Run.place) c.sees_run.result) c.sees_run.ensures.made refl)

pub returns-in-Zone : goal.returns-in-Zone
returns-in-Zone g c = subst (λ (at : Occ). Made AnyStep (IsSeen c.args.self.now) (IsSeen (record { shape = c.self.inside.memory.now.shape; lane = c.self.inside.lane; tally = c.self.inside.tally; me = c.sees_zone.new.seat.me })) (Occupied at c.sees_zone.result)) (sym c.in-Zone.is)
    (made_plain c.args.self.now _ c.self.view_is c.sees_zone.new.seat.me (Occupied (Zone c.in-Zone.zone) c.sees_zone.result) c.sees_zone.ensures.made refl)
