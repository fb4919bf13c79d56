use Rattle.std.proofs.Common.{◌-◌, ◌&&◌, ◌/◌, ◌%◌, ltb, leb, eqb, ◌∙◌, ap, sym, arith}
use Rattle.pm_lock.proofs.CanBegin.{in_zones, not_in_zones}
use Rattle.pm_lock.proofs.places.can_begin.Goals as goal

pub returns-then-off-first : goal.returns-then-off-first
returns-then-off-first c = sym (not_in_zones c.args.shape.lanes c.args.shape.zones c.args.off (let low = c.if-off-first.true in let is = c.zone_at-first.ensures.value in omega (arith, low, is)))

pub returns : goal.returns
returns c =
    let place = c.args.off - 64 - c.zone_at-first.result in
    ap (λ b. ((ltb (place / 266240) c.args.shape.zones && leb 4096 (place % 266240)) && eqb (place % 64) 0) && b) c.can_begin_at_line-begins.ensures
    ∙ in_zones c.args.shape.lanes c.args.shape.zones c.args.off place (let high = c.if-off-first.false in let is = c.zone_at-first.ensures.value in omega (arith, high, is)) (ap (λ first. c.args.off - 64 - first) c.zone_at-first.ensures.value)
