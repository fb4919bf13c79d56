-- What a lane that works alone has reserved overlaps no block that it found under a lock.
use Rattle.std.proofs.Common.{List}
use Rattle.std.proofs.lemmas.List.Elements.{All-contains}
use Rattle.std.specs.List.{All}
use Rattle.pm_header.specs.declared.header.Header.{Header}
use Rattle.pm_objects.specs.declared.pool.PoolView.{PoolView}
use Rattle.solo_view.specs.Steps.{Step}
use Rattle.solo_view.specs.View.{View}
use Rattle.solo_world.specs.Opening.{Opening}
use Rattle.solo_crash.specs.Alone.{WorksAlone}
use Rattle.solo_crash.specs.CallBlocks.{reserved_in, reserved_object}
use Rattle.solo_crash.specs.Pending.{pending_in}
use Rattle.solo_crash.specs.Reserved.{IsReservedFor}
use Rattle.solo_crash.specs.Reserving.{ReservedLieApart}
use Rattle.solo_crash.proofs.Includes.{made_member}
use Rattle.solo_epoch.proofs.GainedObjects.{stood}
use Rattle.solo_epoch.proofs.HeldApart.{found_apart, opening_has_no_fault}

pub locks_apart : (o : Opening) (header : Header) (pool : PoolView) (start v : View) (steps : List Step) → WorksAlone o header pool start steps v → All (IsReservedFor v) (reserved_in v) → ReservedLieApart v
locks_apart o header pool start v steps works reserved r l lines there held is =
    found_apart o header pool v (stood o header pool start v steps works) (opening_has_no_fault o header pool start v steps works) (reserved_object r)
    (All-contains (IsReservedFor v) (reserved_in v) (reserved_object r) reserved (made_member reserved_object (pending_in v).reserved r there)) l lines held is
