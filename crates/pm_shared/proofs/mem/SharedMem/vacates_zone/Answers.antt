use Rattle.std.proofs.Common.{◌<◌, ◌-◌, bit_and, ap, refl, ◌∙◌}
use Rattle.std.specs.Int.{bit_not, w64}
use mathlib.Core.Option.{none}
use Rattle.atomic_table.specs.Table.{step}
use Rattle.pm_layout.specs.declared.shape.Shape.{Shape}
use Rattle.pm_view.specs.declared.occ.Occ.TheVariants.{Zone}
use Rattle.pm_view.specs.Steps.Step.{Vacate}
use Rattle.pm_world.specs.Memory.{ZoneWord}
use Rattle.pm_shared.specs.Placing.{start_of}
use Rattle.pm_shared.proofs.Asked.{asked, gave, in_shape, at_inside, below_place, number_is, twice_not}
use Rattle.pm_shared.proofs.Moving as moves
use Rattle.pm_shared.proofs.mem.SharedMem.vacates_zone.Goals as goal

pub zone_at-requires : goal.zone_at-requires
zone_at-requires c = (in_shape _ _ _ _ c.requires.asks (λ (sh : Shape). c.args.zone < sh.zones) (c.requires.asks.lawful 0).allowed.there)

pub and-requires-clause-word : goal.and-requires-clause-word
and-requires-clause-word c = at_inside c.args.self.now.shape (ZoneWord c.args.zone) c.zone_at.result c.zone_at.ensures (in_shape _ _ _ _ c.requires.asks (λ (sh : Shape). c.args.zone < sh.zones) (c.requires.asks.lawful 0).allowed.there)

pub and-requires-clause-step : goal.and-requires-clause-step
and-requires-clause-step c = asked c.args.self.now c.args.lane c.args.seat.now.me (λ v st r. Vacate (Zone (st.word - start_of v.fixed.shape 3)) (bit_not w64 st.first)) (step 0 c.zone_at.result (bit_not w64 c.args.bits) 0 none) (λ r. Vacate (Zone c.args.zone) c.args.bits) c.requires.asks
    (λ v s l r. ap (λ n. Vacate (Zone n) (bit_not w64 (bit_not w64 c.args.bits))) (number_is c.args.self.now.shape (ZoneWord c.args.zone) c.zone_at.result c.zone_at.ensures (in_shape _ _ _ _ c.requires.asks (λ (sh : Shape). c.args.zone < sh.zones) (c.requires.asks.lawful 0).allowed.there) v.fixed.shape s) ∙ ap (Vacate (Zone c.args.zone)) (twice_not c.args.bits (c.requires.asks.lawful 0).allowed.small))
    c.args.seat.now.id c.zone_at.result (λ n. bit_and n (bit_not w64 c.args.bits))
    (λ words size B fits. moves.vacate_moves c.args.self.now.shape words c.zone_at.result c.args.lane (Zone c.args.zone) c.args.bits (bit_not w64 c.args.bits) refl (record { is = c.zone_at.ensures; inside = below_place c.args.self.now.shape (ZoneWord c.args.zone) (in_shape _ _ _ _ c.requires.asks (λ (sh : Shape). c.args.zone < sh.zones) (c.requires.asks.lawful 0).allowed.there); size = size }))

pub returns-clause-made : goal.returns-clause-made
returns-clause-made c = gave c.args.self.now c.args.lane c.args.seat.now.me (λ v st r. Vacate (Zone (st.word - start_of v.fixed.shape 3)) (bit_not w64 st.first)) (step 0 c.zone_at.result (bit_not w64 c.args.bits) 0 none) (λ r. Vacate (Zone c.args.zone) c.args.bits) c.requires.asks
    (λ v s l r. ap (λ n. Vacate (Zone n) (bit_not w64 (bit_not w64 c.args.bits))) (number_is c.args.self.now.shape (ZoneWord c.args.zone) c.zone_at.result c.zone_at.ensures (in_shape _ _ _ _ c.requires.asks (λ (sh : Shape). c.args.zone < sh.zones) (c.requires.asks.lawful 0).allowed.there) v.fixed.shape s) ∙ ap (Vacate (Zone c.args.zone)) (twice_not c.args.bits (c.requires.asks.lawful 0).allowed.small))
    c.and.result c.and.new.seat.me c.and.ensures.told
