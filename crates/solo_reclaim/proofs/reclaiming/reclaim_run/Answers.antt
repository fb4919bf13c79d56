use Rattle.std.proofs.Common.{◌≡◌, ◌/◌, sym, ◌∙◌}
use Rattle.solo_view.specs.declared.occ.Occ.TheVariants.{Run}
use Rattle.solo_view.specs.Steps.Step.{Load}
use Rattle.solo_view.specs.Views.{after}
use Rattle.solo_reclaim.specs.Reclaims.{IsLeft}
use Rattle.solo_reclaim.proofs.RunWords.{bitmap_loaded, blocks_told, reclaimed_behind, left_no_run}
use Rattle.solo_reclaim.proofs.reclaiming.reclaim_run.Goals as goal

pub vacate_rest-requires : goal.vacate_rest-requires
vacate_rest-requires g c =
    let r = c.requires in
    let bitmap = c.load-bitmap.result in
    let made = c.load-bitmap.ensures r.0 r.1.0 in
    (after r.0 (Load (c.args.place / 8) bitmap), (made.0, blocks_told r.0 c.args.shape c.args.kept.now c.args.place c.args.descriptor r.1.1 bitmap made.2 c.taken_blocks-taken.result c.taken_blocks-taken.ensures))

pub returns-then-is_run : goal.returns-then-is_run
returns-then-is_run g c v there is =
    let bitmap = c.load-bitmap.result in
    let made = c.load-bitmap.ensures v there in
    let m = after v (Load (c.args.place / 8) bitmap) in
    reclaimed_behind (g.M.LaneMem.at c.vacate_rest.new.mem) v m (λ w. IsLeft c.args.kept.now w (λ other. other ≡ Run c.args.place)) (bitmap_loaded v c.args.shape c.args.kept.now c.args.place c.args.descriptor is bitmap made.2)
    (c.vacate_rest.ensures m made.0 (blocks_told v c.args.shape c.args.kept.now c.args.place c.args.descriptor is bitmap made.2 c.taken_blocks-taken.result c.taken_blocks-taken.ensures))

pub returns-else-is_run : goal.returns-else-is_run
returns-else-is_run g c v there is = left_no_run v c.args.shape c.args.kept.now c.args.place c.args.descriptor is (sym c.is_run.ensures ∙ c.if-is_run.false) (g.M.LaneMem.at c.args.mem.now) there
