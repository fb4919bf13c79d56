-- An object that a lane reserves where it works alone, and what it has reserved from one call outside of a transaction to the next (docs/MODEL.md, "From call to call").
use Rattle.std.specs.Prelude.{◌≡◌, ◌<◌, List, [], ◌∷◌, ◌++◌, length, slice_index, Some}
use Rattle.pm_header.specs.declared.header.Header.{Header}
use Rattle.pm_layout.specs.declared.shape.Shape.{Shape}
use Rattle.pm_objects.specs.declared.calls.Operation.TheVariants.{Reserve}
use Rattle.pm_objects.specs.declared.history.Value.TheVariants.{Offset}
use Rattle.pm_objects.specs.declared.pool.PoolView.{PoolView}
use Rattle.solo_view.specs.Area.{area_word}
use Rattle.solo_view.specs.Steps.{Step}
use Rattle.solo_view.specs.Steps.Step.{Load, NumberSeen, Tell}
use Rattle.solo_view.specs.View.{View}
use Rattle.solo_view.specs.Views.{after}
use Rattle.solo_world.specs.Lawful.{generation_limit}
use Rattle.solo_world.specs.Opening.{Opening}
use Rattle.solo_world.specs.Records.{generation_of}
use Rattle.solo_crash.specs.Alone.{WorksAlone}
use Rattle.solo_crash.specs.CallBlocks.{NewObject}
use Rattle.solo_crash.specs.Reserved.{IsBorneOut}
use Rattle.solo_crash.specs.Reserving.{HasReserved}
use Rattle.solo_alloc.specs.NewObjects.{CanMakeObject}

-- the view once the call has told the object as reserved, by its offset
abbrev pub with_object_reserved : View → NewObject → View
with_object_reserved u n = after u (Tell (Reserve n.size n.kind) (Some (Offset n.off)))

-- ---- outside of a transaction

-- The lane works alone outside of a transaction, and may make an object in a pool of this shape: of its open call it recorded and entered nothing, and it holds
-- no lock. What it has bears out what the call told of the heap, and what it has reserved stands.
pub record IsAloneOutside (o : Opening) (header : Header) (pool : PoolView) (start : View) (steps : List Step) (v : View) (shape : Shape) : Type 0 where
  pub works : WorksAlone o header pool start steps v
  pub can : CanMakeObject v shape
  pub no_records : v.log.records ≡ []
  pub no_entries : v.log.entries ≡ []
  pub free : v.locks ≡ []
  pub borne_out : IsBorneOut v
  pub reserved : HasReserved v

-- so it does, between two calls: the next one is open, and nothing of it is told
pub record IsAloneBetween (o : Opening) (header : Header) (pool : PoolView) (start : View) (steps : List Step) (v : View) (shape : Shape) : Type 0 where
  pub outside : IsAloneOutside o header pool start steps v shape
  pub untold : v.call ≡ []

-- so it does outside of a transaction some steps later, at this view
pub record IsAloneOutsideStill (o : Opening) (header : Header) (pool : PoolView) (start : View) (steps : List Step) (w : View) (shape : Shape) : Type 0 where
  pub more : List Step
  pub outside : IsAloneOutside o header pool start (steps ++ more) w shape

-- the steps by which the lane's next call begins: it looks at its generation, and at how many numbers were drawn
abbrev pub begins_next : View → List Step
begins_next v = Load (area_word v.lane) (slice_index v.words (area_word v.lane)) ∷ NumberSeen (length v.entries) ∷ []

-- the view as that has begun
abbrev pub with_next_call : View → View
with_next_call v = after (after v (Load (area_word v.lane) (slice_index v.words (area_word v.lane)))) (NumberSeen (length v.entries))

-- the lane works alone and rests, with no lock: as its next call begins, where a generation is left to it, it is between two calls
pub record RestsWithReserved (o : Opening) (header : Header) (pool : PoolView) (start : View) (steps : List Step) (v : View) (shape : Shape) : Type 0 where
  pub works : WorksAlone o header pool start steps v
  pub free : v.locks ≡ []
  pub next : generation_of v < generation_limit → IsAloneBetween o header pool start (steps ++ begins_next v) (with_next_call v) shape
