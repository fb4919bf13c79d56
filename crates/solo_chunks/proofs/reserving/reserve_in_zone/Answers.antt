use Rattle.std.proofs.Common.{false, refl, true}
use Rattle.solo_chunks.proofs.InZone.{asked_as, got_of, held, holds_it, none_of, refused}
use Rattle.solo_chunks.proofs.reserving.reserve_in_zone.Goals as goal

pub returns-then-not-zone_try : goal.returns-then-not-zone_try
returns-then-not-zone_try g c v there may =
    let made = c.zone_try.ensures v there in
    let at = g.M.LaneMem.at c.zone_try.new.self in
    refused v c.args.shape c.args.zone may c.requires.inside c.args.shape.zones_to at (asked_as at v c.args.zone c.zone_try.result false c.if-not-zone_try.true (made.0, made.2))

pub returns-in-Some : goal.returns-in-Some
returns-in-Some g c v there may =
    let made = c.zone_try.ensures v there in
    let asked = asked_as (g.M.LaneMem.at c.zone_try.new.self) v c.args.zone c.zone_try.result true c.if-not-zone_try.false (made.0, made.2) in
    let u = held v c.args.shape c.args.zone may c.requires.inside c.args.shape.zones_to asked.1 in
    let holds = holds_it v c.args.shape c.args.zone may c.requires.inside c.args.shape.zones_to asked.1 in
    got_of v c.args.shape c.args.zone may c.requires.inside c.args.shape.zones_to asked.1 (g.M.LaneMem.at c.reserve_under_lock-got.new.mem) (g.M.LaneMem.at c.zone_give.new.self) (λ w at. (c.zone_give.ensures w at).0)
    c.in-Some.first c.args.count (c.in-Some.ensures.got u asked.0 holds)

pub returns-in-None : goal.returns-in-None
returns-in-None g c v there may =
    let made = c.zone_try.ensures v there in
    let asked = asked_as (g.M.LaneMem.at c.zone_try.new.self) v c.args.zone c.zone_try.result true c.if-not-zone_try.false (made.0, made.2) in
    let u = held v c.args.shape c.args.zone may c.requires.inside c.args.shape.zones_to asked.1 in
    let holds = holds_it v c.args.shape c.args.zone may c.requires.inside c.args.shape.zones_to asked.1 in
    none_of v c.args.shape c.args.zone may c.requires.inside c.args.shape.zones_to asked.1 (g.M.LaneMem.at c.reserve_under_lock-got.new.mem) (g.M.LaneMem.at c.zone_give.new.self) (λ w at. (c.zone_give.ensures w at).0)
    c.args.count (c.in-None.ensures.none refl u asked.0 holds)
