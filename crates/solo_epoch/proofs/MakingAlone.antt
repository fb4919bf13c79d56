-- A lane that works alone and is at work may make objects.
use Rattle.std.proofs.Common.{List, slice_index, sym, subst, ap, ◌∙◌}
use Rattle.pm_header.specs.declared.header.Header.{Header}
use Rattle.pm_layout.specs.declared.shape.Shape.{Shape}
use Rattle.pm_objects.specs.declared.pool.PoolView.{PoolView}
use Rattle.solo_view.specs.Steps.{Step}
use Rattle.solo_view.specs.View.{View}
use Rattle.solo_view.specs.Views.{occ_in}
use Rattle.solo_world.specs.Opening.{Opening}
use Rattle.solo_alloc.specs.NewObjects.{CanMakeObject}
use Rattle.solo_crash.specs.Alone.{WorksAlone}
use Rattle.solo_crash.proofs.AloneCourse.{StandsAlone}
use Rattle.solo_crash.proofs.AloneMemory.{memory_of, occ_memory}
use Rattle.solo_epoch.specs.Epochs.{IsAtWorkAlone}
use Rattle.solo_epoch.proofs.GainedObjects.{stood}
use Rattle.solo_epoch.proofs.ReadyLanes.{may_make}

pub makes_alone : (o : Opening) (header : Header) (pool : PoolView) (start v : View) (steps : List Step) (shape : Shape) → WorksAlone o header pool start steps v → IsAtWorkAlone v shape → CanMakeObject v shape
makes_alone o header pool start v steps shape works at_work =
    let s : StandsAlone o header pool v = stood o header pool start v steps works in
    subst (λ (u : View). IsAtWorkAlone u shape → CanMakeObject u shape) s.here
    (may_make o (memory_of v) s.views s.log s.decided 0 s.goes.world s.goes.in_lanes (λ i. ap (λ (u : View). slice_index u.words i) (sym s.here)) (λ at. occ_memory v at ∙ ap (λ (u : View). occ_in u at) (sym s.here)) shape)
    at_work
