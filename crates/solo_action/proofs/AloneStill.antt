-- A lane alone goes on in a call outside of a transaction, with what it has reserved, and describes each chunk as it did: it may make an object still.
use Rattle.std.proofs.Common.{◌≡◌, ◌+◌, ◌*◌, List, [], length, ap, ◌∙◌, arith}
use Rattle.std.specs.List.{list_any}
use Rattle.pm_header.specs.declared.header.Header.{Header}
use Rattle.pm_layout.specs.declared.shape.Shape.{Shape}
use Rattle.pm_objects.specs.declared.pool.PoolView.{PoolView}
use Rattle.solo_undo.specs.Working.{IsWorking}
use Rattle.solo_view.specs.Constants.{IsSameLane}
use Rattle.solo_view.specs.Steps.{Step}
use Rattle.solo_view.specs.View.{View}
use Rattle.solo_view.specs.Views.{is_of_heap}
use Rattle.solo_world.specs.Lanes.{IsOfShape}
use Rattle.solo_world.specs.Opening.{Opening}
use Rattle.solo_alloc.specs.NewObjects.{CanMakeObject}
use Rattle.solo_crash.proofs.AloneCourse.{StandsAlone}
use Rattle.solo_crash.proofs.StillReserved.{HasSameHeads}
use Rattle.solo_crash.specs.Alone.{WorksAlone}
use Rattle.solo_epoch.proofs.GainedObjects.{stood}
use Rattle.solo_epoch.proofs.MakingAlone.{makes_alone}
use Rattle.solo_epoch.proofs.StandingPools.{own_fits}
use Rattle.solo_epoch.specs.Reserving.{IsAloneBetween}
use Rattle.solo_transaction.proofs.NotMaking.{not_making_able, not_making_still, reserves_no_run}

pub can_still : (o : Opening) (header : Header) (pool : PoolView) (start : View) (steps : List Step) (w : View) (shape : Shape) → IsAloneBetween o header pool start steps w shape → (z : View) (more : List Step) → WorksAlone o header pool start more z
    → HasSameHeads w z → IsSameLane w z → z.zone_locks ≡ w.zone_locks → IsWorking z → z.log.entries ≡ [] → CanMakeObject z shape
can_still o header pool start steps w shape c z more works heads lane zone_locks working unentered =
    let stands : StandsAlone o header pool z = stood o header pool start z more works in
    let fits = own_fits o header pool z stands in
    let of_shape : IsOfShape w shape = c.outside.can.run.search.shape in
    let lanes : z.lanes ≡ shape.lanes = lane.lanes ∙ of_shape.lanes in
    let zones : z.zones ≡ shape.zones = lane.zones ∙ of_shape.zones in
    let size : length z.words ≡ 512 + 1024 * shape.lanes + 33280 * shape.zones = lane.size ∙ of_shape.size in
    let few = shape.zones_to in let count = stands.zone_count in let pages = stands.pages in
    makes_alone o header pool start z more shape works (record {
      alone = lane.table ∙ c.outside.can.run.alone;
      working = working;
      of_shape = record { lanes = lanes; zones = zones; size = size };
      unlocked = zone_locks ∙ c.outside.can.run.search.unlocked;
      plain = ap (list_any (is_of_heap z)) unentered;
      zones = omega (arith, zones, few, count);
      runs = omega (arith, pages, size, lanes, zones);
      no_run = reserves_no_run o _ z fits.blocks fits.lane.lanes fits.lane.zones (not_making_still w z heads zone_locks (not_making_able w shape c.outside.can));
    })
