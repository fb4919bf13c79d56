use Rattle.std.proofs.Common.{◌<◌, ◌-◌, ap}
use mathlib.Core.Option.{none}
use Rattle.atomic_table.specs.Table.{step}
use Rattle.pm_layout.specs.declared.shape.Shape.{Shape}
use Rattle.pm_view.specs.declared.occ.Occ.TheVariants.{Zone}
use Rattle.pm_view.specs.Steps.Step.{Occupied}
use Rattle.pm_world.specs.Memory.{ZoneWord}
use Rattle.pm_shared.specs.Placing.{start_of}
use Rattle.pm_shared.proofs.Asked.{asked, gave, in_shape, at_inside, below_place, number_is}
use Rattle.pm_shared.proofs.Moving as moves
use Rattle.pm_shared.proofs.mem.SharedMem.sees_zone.Goals as goal

pub zone_at-requires : goal.zone_at-requires
zone_at-requires c = (in_shape _ _ _ _ c.requires.asks (λ (sh : Shape). c.args.zone < sh.zones) (c.requires.asks.lawful 0).allowed)

pub load-requires-clause-word : goal.load-requires-clause-word
load-requires-clause-word c = at_inside c.args.self.now.shape (ZoneWord c.args.zone) c.zone_at.result c.zone_at.ensures (in_shape _ _ _ _ c.requires.asks (λ (sh : Shape). c.args.zone < sh.zones) (c.requires.asks.lawful 0).allowed)

pub load-requires-clause-step : goal.load-requires-clause-step
load-requires-clause-step c = asked c.args.self.now c.args.lane c.args.seat.now.me (λ v st r. Occupied (Zone (st.word - start_of v.fixed.shape 3)) r) (step 0 c.zone_at.result 0 0 none) (λ r. Occupied (Zone c.args.zone) r) c.requires.asks
    (λ v s l r. ap (λ n. Occupied (Zone n) r) (number_is c.args.self.now.shape (ZoneWord c.args.zone) c.zone_at.result c.zone_at.ensures (in_shape _ _ _ _ c.requires.asks (λ (sh : Shape). c.args.zone < sh.zones) (c.requires.asks.lawful 0).allowed) v.fixed.shape s))
    c.args.seat.now.id c.zone_at.result (λ n. n)
    (λ words size B fits. moves.see_moves c.args.self.now.shape words c.zone_at.result c.args.lane (Zone c.args.zone) (record { is = c.zone_at.ensures; inside = below_place c.args.self.now.shape (ZoneWord c.args.zone) (in_shape _ _ _ _ c.requires.asks (λ (sh : Shape). c.args.zone < sh.zones) (c.requires.asks.lawful 0).allowed); size = size }))

pub returns-clause-made : goal.returns-clause-made
returns-clause-made c = gave c.args.self.now c.args.lane c.args.seat.now.me (λ v st r. Occupied (Zone (st.word - start_of v.fixed.shape 3)) r) (step 0 c.zone_at.result 0 0 none) (λ r. Occupied (Zone c.args.zone) r) c.requires.asks
    (λ v s l r. ap (λ n. Occupied (Zone n) r) (number_is c.args.self.now.shape (ZoneWord c.args.zone) c.zone_at.result c.zone_at.ensures (in_shape _ _ _ _ c.requires.asks (λ (sh : Shape). c.args.zone < sh.zones) (c.requires.asks.lawful 0).allowed) v.fixed.shape s))
    c.load.result c.load.new.seat.me c.load.ensures.told
