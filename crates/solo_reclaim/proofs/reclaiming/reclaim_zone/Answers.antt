use Rattle.std.proofs.Common.{◌≡◌, ◌+◌, ◌/◌, slice_index, sym, subst}
use Rattle.solo_memory.specs.Runs.{Made}
use Rattle.solo_view.specs.declared.occ.Occ.TheVariants.{Run}
use Rattle.solo_view.specs.Steps.Step.{Load}
use Rattle.solo_view.specs.View.{View}
use Rattle.solo_reclaim.specs.Reclaims.{HasReclaimed, IsDescribed, IsLeft}
use Rattle.solo_reclaim.proofs.ZoneWords.{chunk_described, in_its_words, in_zone_first, in_zone_more, m, zone_left, zone_told}
use Rattle.solo_reclaim.proofs.reclaiming.reclaim_zone.Goals as goal

pub loop-chunk-init : goal.loop-chunk-init
loop-chunk-init g c v there may =
    in_zone_first c.args.kept.now (g.M.LaneMem.at c.args.mem.now) v c.args.shape may c.args.zone c.none-taken.result (c.none-taken.ensures (slice_index v.words) v.lanes c.args.zone) there

pub reclaim_run-requires : goal.reclaim_run-requires
reclaim_run-requires g c =
    let r = c.requires.may in
    let at = g.M.LaneMem.at c.loop-chunk.mem in
    let d = c.load-descriptor.result in
    let i = c.loop-chunk.chunk in
    let so = c.loop-chunk.invariant r.0 r.1.0 r.1.1 in
    let made = subst (λ z. Made at (g.M.LaneMem.at c.load-descriptor.new.self) (Load (z / 8 + i) d)) c.zone_at-descriptors.ensures.value c.load-descriptor.ensures so.view so.there in
    let u : View = m c.args.kept.now at r.0 c.args.shape r.1.1 c.args.zone c.requires.inside i c.loop-chunk.taken so c.loop-chunk-test.true d made.2 in
    (u, (made.0, subst (λ p. IsDescribed u c.args.shape c.args.kept.now p d) (sym c.chunk_at.ensures.value) (chunk_described c.args.kept.now at r.0 c.args.shape r.1.1 c.args.zone c.requires.inside i c.loop-chunk.taken so c.loop-chunk-test.true d made.2)))

pub loop-chunk-preserved : goal.loop-chunk-preserved
loop-chunk-preserved g c v there may =
    let at = g.M.LaneMem.at c.loop-chunk.mem in
    let new = g.M.LaneMem.at c.reclaim_run.new.mem in
    let d = c.load-descriptor.result in
    let i = c.loop-chunk.chunk in
    let zone = c.args.zone in
    let shape = c.args.shape in
    let so = c.loop-chunk.invariant v there may in
    let low = c.loop-chunk-test.true in
    let made = subst (λ z. Made at (g.M.LaneMem.at c.load-descriptor.new.self) (Load (z / 8 + i) d)) c.zone_at-descriptors.ensures.value c.load-descriptor.ensures so.view so.there in
    let u : View = m c.args.kept.now at v shape may zone c.requires.inside i c.loop-chunk.taken so low d made.2 in
    let then = subst (λ p. IsDescribed u c.args.shape c.args.kept.now p d → HasReclaimed new u (λ w. IsLeft c.args.kept.now w (λ other. other ≡ Run p))) c.chunk_at.ensures.value (c.reclaim_run.ensures u made.0) in
    in_zone_more c.args.kept.now at v shape may zone c.requires.inside i c.loop-chunk.taken so low d made.2 new c.with_next-taken.result
    (c.with_next-taken.ensures (slice_index so.view.words) so.view.lanes zone so.holds.tells (in_its_words c.args.kept.now at v shape may zone c.requires.inside i c.loop-chunk.taken so low d made.2))
    (then (chunk_described c.args.kept.now at v shape may zone c.requires.inside i c.loop-chunk.taken so low d made.2))

pub returns : goal.returns
returns g c v there may =
    let at = g.M.LaneMem.at c.loop-chunk.mem in
    let i = c.loop-chunk.chunk in
    let shape = c.args.shape in
    let so = c.loop-chunk.invariant v there may in
    let all = c.loop-chunk-test.false in
    zone_left c.args.kept.now at v shape may c.args.zone c.requires.inside i c.loop-chunk.taken so all shape.zones_to (g.M.LaneMem.at c.vacate_rest.new.mem)
    (c.vacate_rest.ensures so.view so.there (zone_told c.args.kept.now at v shape may c.args.zone c.requires.inside i c.loop-chunk.taken so all shape.zones_to))
