use Rattle.std.proofs.Common.{◌<◌}
use Rattle.pm_layout.specs.declared.shape.Shape.{Shape}
use Rattle.pm_world.specs.Memory.{ZoneWord}
use Rattle.pm_shared.proofs.Asked.{in_shape, at_inside}
use Rattle.pm_shared.proofs.Looks.{looks_zone, takes_zone, refused_zone, taken_zone}
use Rattle.pm_shared.proofs.mem.SharedMem.occupies_zone.Goals as goal

pub zone_at-at-requires : goal.zone_at-at-requires
zone_at-at-requires c = (in_shape _ _ _ _ c.requires.asks (λ (sh : Shape). c.args.zone < sh.zones) (c.requires.asks.lawful 0).allowed.there)

pub pulse-requires-clause-word : goal.pulse-requires-clause-word
pulse-requires-clause-word c = at_inside c.args.self.now.shape (ZoneWord c.args.zone) c.zone_at-at.result c.zone_at-at.ensures (in_shape _ _ _ _ c.requires.asks (λ (sh : Shape). c.args.zone < sh.zones) (c.requires.asks.lawful 0).allowed.there)

pub pulse-requires-clause-step : goal.pulse-requires-clause-step
pulse-requires-clause-step c = looks_zone c.args.self.now c.args.lane c.args.seat.now.me c.args.zone c.args.bits c.zone_at-at.result c.requires.asks (in_shape _ _ _ _ c.requires.asks (λ (sh : Shape). c.args.zone < sh.zones) (c.requires.asks.lawful 0).allowed.there) c.zone_at-at.ensures c.args.seat.now.id

pub returns-then-pulse-bits-ne0-clause-made : goal.returns-then-pulse-bits-ne0-clause-made
returns-then-pulse-bits-ne0-clause-made c = refused_zone c.args.self.now c.args.lane c.args.seat.now.me c.args.zone c.args.bits c.zone_at-at.result c.requires.asks (in_shape _ _ _ _ c.requires.asks (λ (sh : Shape). c.args.zone < sh.zones) (c.requires.asks.lawful 0).allowed.there) c.zone_at-at.ensures c.pulse.result c.pulse.new.seat.me c.pulse.ensures.told c.if-pulse-bits-ne0.true

pub or-requires-clause-word : goal.or-requires-clause-word
or-requires-clause-word c = at_inside c.args.self.now.shape (ZoneWord c.args.zone) c.zone_at-at.result c.zone_at-at.ensures (in_shape _ _ _ _ c.requires.asks (λ (sh : Shape). c.args.zone < sh.zones) (c.requires.asks.lawful 0).allowed.there)

pub or-requires-clause-step : goal.or-requires-clause-step
or-requires-clause-step c = takes_zone c.args.self.now c.args.lane c.args.seat.now.me c.args.zone c.args.bits c.zone_at-at.result c.requires.asks (in_shape _ _ _ _ c.requires.asks (λ (sh : Shape). c.args.zone < sh.zones) (c.requires.asks.lawful 0).allowed.there) c.zone_at-at.ensures c.pulse.new.seat.id c.pulse.result c.pulse.new.seat.me c.pulse.ensures.told c.if-pulse-bits-ne0.false

pub returns-clause-made : goal.returns-clause-made
returns-clause-made c = taken_zone c.args.self.now c.args.lane c.args.seat.now.me c.args.zone c.args.bits c.zone_at-at.result c.requires.asks (in_shape _ _ _ _ c.requires.asks (λ (sh : Shape). c.args.zone < sh.zones) (c.requires.asks.lawful 0).allowed.there) c.zone_at-at.ensures c.pulse.result c.or.result c.pulse.new.seat.me c.or.new.seat.me c.pulse.ensures.told c.if-pulse-bits-ne0.false c.or.ensures.told
