-- What a lane at work does with a range of an object that its transaction made, which needs no lock and no record, and what it leaves: docs/MODEL.md,
-- "Transactions that make objects".
use Rattle.std.specs.Prelude.{◌≡◌, ℕ, List, None}
use Rattle.solo_crash.specs.Operations.{AddsNewRange, HasNewRange, ReadsNewBytes, WritesNewBytes, bytes_seen}
use Rattle.solo_lock.specs.Leading.{DrawEnded}
use Rattle.solo_made.specs.Made.{BlockLists}
use Rattle.pm_objects.specs.declared.calls.Operation.TheVariants.{AddRange}
use Rattle.pm_objects.specs.declared.ids.Oid.{Oid}
use Rattle.solo_tx.specs.Ranges.{reads_range, writes_range}
use Rattle.solo_view.specs.Steps.Step.{Tell}
use Rattle.solo_view.specs.View.{View}
use Rattle.solo_view.specs.Views.{after_all}
use Rattle.solo_world.specs.Opening.{Opening}
use Rattle.solo_world.specs.Sequences.{Ready, Sequence, one}
use Rattle.solo_world.specs.declared.lane.Lane.{Lane}
use Rattle.solo_transaction.specs.AtWork.{IsAtWorkWith}

-- some view that the lane may be seen as is at work with some lists, and the range is one of an object that it made
abbrev pub MayUseNew : {M : Type 0} → (M → View → Type 0) → Lane M → Oid → ℕ → ℕ → Type 0
MayUseNew at lane id off len = (o : Opening) × (blocks : BlockLists) × (v : View) × IsAtWorkWith o at lane blocks v × HasNewRange v id off len

-- that a range is asked to be recorded is told, and no more
unfoldable pub adds_new : Oid → ℕ → ℕ → Sequence
adds_new id off len = one (Tell (AddRange id off len) None)

-- from the view before the lane told so, is at work still, and that is the plain model's. No number was drawn
pub record HasAddedNew {M : Type 0} (o : Opening) (at : M → View → Type 0) (lane : Lane M) (blocks : BlockLists) (v : View) (id : Oid) (off len : ℕ) : Type 0 where
  pub ready : Ready v (adds_new id off len v)
  pub draws : DrawEnded v (adds_new id off len v)
  pub works : IsAtWorkWith o at lane blocks (after_all v (adds_new id off len v))
  pub added : AddsNewRange v (after_all v (adds_new id off len v)) id off len

-- from the view before the lane wrote the bytes, is at work still, and the write is the plain model's. No number was drawn
pub record HasWrittenNew {M : Type 0} (o : Opening) (at : M → View → Type 0) (lane : Lane M) (blocks : BlockLists) (v : View) (id : Oid) (off : ℕ) (bytes : List ℕ) : Type 0 where
  pub ready : Ready v (writes_range id off bytes v)
  pub draws : DrawEnded v (writes_range id off bytes v)
  pub works : IsAtWorkWith o at lane blocks (after_all v (writes_range id off bytes v))
  pub written : WritesNewBytes v (after_all v (writes_range id off bytes v)) id off bytes

-- from the view before the lane read these bytes, is at work still, and they are what the plain model reads. No number was drawn
pub record HasReadNew {M : Type 0} (o : Opening) (at : M → View → Type 0) (lane : Lane M) (blocks : BlockLists) (v : View) (id : Oid) (off len : ℕ) (bytes : List ℕ) : Type 0 where
  pub ready : Ready v (reads_range id off len bytes v)
  pub draws : DrawEnded v (reads_range id off len bytes v)
  pub works : IsAtWorkWith o at lane blocks (after_all v (reads_range id off len bytes v))
  pub read : ReadsNewBytes v (after_all v (reads_range id off len bytes v)) id off len
  pub seen : bytes ≡ bytes_seen v id off len
