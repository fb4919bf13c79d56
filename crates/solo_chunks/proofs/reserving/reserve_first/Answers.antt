use Rattle.std.proofs.Common.{◌≡◌, ◌*◌, ◌<◌, ◌≤◌, sym, subst, arith}
use Rattle.pm_image.specs.declared.block.Block.{Block}
use Rattle.solo_chunks.proofs.InZones.{are_least, found_none, has_got, is_busy, least_none, may_still, never_busy, none_first, none_more, place_is}
use Rattle.solo_chunks.specs.Chunks.{chunk_block}
use Rattle.solo_chunks.proofs.reserving.reserve_first.Goals as goal

pub loop-zone-init : goal.loop-zone-init
loop-zone-init g c v there may = none_first (g.M.LaneMem.at c.args.mem.now) v c.args.count there

pub returns-in-Got-clause-ends : goal.returns-in-Got-clause-ends
returns-in-Got-clause-ends g c v there may =
    let none = c.loop-zone.invariant v there may in
    let w = none.looks.view in
    let shape = may.shape in
    let block : Block = record { place = c.chunk_at.result; lines = 64 * c.args.count } in
    let inside : c.loop-zone.zone < v.zones = omega arith in
    has_got v c.args.count c.loop-zone.zone (g.M.LaneMem.at c.loop-zone.mem) none inside (g.M.LaneMem.at c.reserve_in_zone.new.mem) c.in-Got.first
    (c.in-Got.ensures w none.looks.there (may_still v w c.args.shape none.looks.looked none.looks.locks may)) block
    (subst (λ n. block ≡ chunk_block n c.loop-zone.zone c.in-Got.first c.args.count) (sym shape.lanes)
    (place_is c.args.shape.lanes c.loop-zone.zone c.in-Got.first c.args.count c.chunk_at.result c.chunk_at.ensures.value))

pub returns-in-Got-clause-least : goal.returns-in-Got-clause-least
returns-in-Got-clause-least g c v there may =
    let none = c.loop-zone.invariant v there may in
    let w = none.looks.view in
    let shape = may.shape in
    let block : Block = record { place = c.chunk_at.result; lines = 64 * c.args.count } in
    let inside : c.loop-zone.zone < v.zones = omega arith in
    are_least v c.args.count c.loop-zone.zone (g.M.LaneMem.at c.loop-zone.mem) none inside (g.M.LaneMem.at c.reserve_in_zone.new.mem) c.in-Got.first
    (c.in-Got.ensures w none.looks.there (may_still v w c.args.shape none.looks.looked none.looks.locks may)) block
    (subst (λ n. block ≡ chunk_block n c.loop-zone.zone c.in-Got.first c.args.count) (sym shape.lanes)
    (place_is c.args.shape.lanes c.loop-zone.zone c.in-Got.first c.args.count c.chunk_at.result c.chunk_at.ensures.value))

pub returns-in-Busy-clause-ends : goal.returns-in-Busy-clause-ends
returns-in-Busy-clause-ends g c v there may =
    let none = c.loop-zone.invariant v there may in
    let w = none.looks.view in
    let shape = may.shape in
    let inside : c.loop-zone.zone < v.zones = omega arith in
    is_busy v c.args.count c.loop-zone.zone (g.M.LaneMem.at c.loop-zone.mem) none inside (g.M.LaneMem.at c.reserve_in_zone.new.mem)
    (c.in-Busy.ensures w none.looks.there (may_still v w c.args.shape none.looks.looked none.looks.locks may))

pub returns-in-Busy-clause-least : goal.returns-in-Busy-clause-least
returns-in-Busy-clause-least g c v there may =
    let none = c.loop-zone.invariant v there may in
    let w = none.looks.view in
    let shape = may.shape in
    let inside : c.loop-zone.zone < v.zones = omega arith in
    never_busy v c.args.count c.loop-zone.zone (g.M.LaneMem.at c.loop-zone.mem) none inside (g.M.LaneMem.at c.reserve_in_zone.new.mem)
    (c.in-Busy.ensures w none.looks.there (may_still v w c.args.shape none.looks.looked none.looks.locks may))

pub loop-zone-preserved : goal.loop-zone-preserved
loop-zone-preserved g c v there may =
    let none = c.loop-zone.invariant v there may in
    let w = none.looks.view in
    none_more v c.args.count c.loop-zone.zone (g.M.LaneMem.at c.loop-zone.mem) none (g.M.LaneMem.at c.reserve_in_zone.new.mem)
    (c.in-Full.ensures w none.looks.there (may_still v w c.args.shape none.looks.looked none.looks.locks may))

pub returns-clause-ends : goal.returns-clause-ends
returns-clause-ends g c v there may =
    let shape = may.shape in
    let all : v.zones ≤ c.loop-zone.zone = omega arith in
    found_none v c.args.count c.loop-zone.zone (g.M.LaneMem.at c.loop-zone.mem) (c.loop-zone.invariant v there may) all

pub returns-clause-least : goal.returns-clause-least
returns-clause-least g c v there may =
    let shape = may.shape in
    let all : v.zones ≤ c.loop-zone.zone = omega arith in
    least_none v c.args.count c.loop-zone.zone (g.M.LaneMem.at c.loop-zone.mem) (c.loop-zone.invariant v there may) all
