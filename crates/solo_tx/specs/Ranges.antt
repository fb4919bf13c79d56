-- What a lane at work does with a range of an object: what it needs for that, which calls it makes, and what it leaves.
use Rattle.std.specs.Prelude.{◌≡◌, ℕ, ◌+◌, ◌==◌, ◌&&◌, ◌||◌, not, Bool, true, All, Contains, IsTrue, List, None, Some, false, take}
use Rattle.solo_crash.specs.Operations.{AddsRange, HasRange, ReadsBytes, WritesBytes, bytes_seen}
use Rattle.solo_model.specs.Bytes.{covered_words}
use Rattle.pm_objects.specs.declared.calls.Operation.TheVariants.{AddRange, Read, Write}
use Rattle.pm_objects.specs.declared.history.Value.TheVariants.{Bytes}
use Rattle.pm_objects.specs.declared.ids.Oid.{Oid}
use Rattle.solo_memory.specs.Runs.{Stops}
use Rattle.solo_view.specs.Steps.Step.{Tell}
use Rattle.solo_view.specs.View.{View}
use Rattle.solo_view.specs.Views.{after_all}
use Rattle.solo_world.specs.Opening.{Opening}
use Rattle.solo_world.specs.Records.{is_recorded}
use Rattle.solo_world.specs.Sequences.{Ready, Sequence, in_turn, one}
use Rattle.solo_world.specs.declared.lane.HeldLock.{HeldLock}
use Rattle.solo_world.specs.declared.lane.Lane.{Lane}
use Rattle.solo_world.specs.declared.lane.Span.{Span}
use Rattle.solo_undo.specs.Sequences.{snapshots}
use Rattle.solo_lock.specs.Leading.{DrawEnded}
use Rattle.solo_tx.specs.AtWork.{IsAtWork}
use Rattle.solo_tx.specs.Sequences.{reads, writes}

-- it holds the object for writing, the range is inside, and each word of it is recorded
pub record CanWrite (v : View) (id : Oid) (off len : ℕ) : Type 0 where
  pub range : HasRange v id off len true
  pub added : (i : ℕ) → Contains (covered_words (id.off + off) len) i → is_recorded v.log.records i ≡ true

-- some view that the lane may be seen as is at work, and may write the range
abbrev pub MayWriteRange : {M : Type 0} → (M → View → Type 0) → Lane M → Oid → ℕ → ℕ → Type 0
MayWriteRange at lane id off len = (o : Opening) × (v : View) × IsAtWork o at lane v × CanWrite v id off len

-- the bytes are written, and that is told
unfoldable pub writes_range : Oid → ℕ → List ℕ → Sequence
writes_range id off bytes = in_turn (writes (id.off + off) bytes) (one (Tell (Write id off bytes) None))

-- from the view before the lane made the write, which draws no number, is at work still, and the write is the plain model's
pub record HasWrittenRange {M : Type 0} (o : Opening) (at : M → View → Type 0) (lane : Lane M) (v : View) (id : Oid) (off : ℕ) (bytes : List ℕ) : Type 0 where
  pub ready : Ready v (writes_range id off bytes v)
  pub draws : DrawEnded v (writes_range id off bytes v)
  pub works : IsAtWork o at lane (after_all v (writes_range id off bytes v))
  pub written : WritesBytes v (after_all v (writes_range id off bytes v)) id off bytes

-- it holds the object, for writing if so asked, the range is inside, and it knows each word of it
pub record KnowsRange (v : View) (id : Oid) (off len : ℕ) (write : Bool) : Type 0 where
  pub range : HasRange v id off len write
  pub known : (i : ℕ) → Contains (covered_words (id.off + off) len) i → Contains v.known i

abbrev pub CanAdd : View → Oid → ℕ → ℕ → Type 0
CanAdd v id off len = KnowsRange v id off len true

-- some view that the lane may be seen as is at work, and may record the range
abbrev pub MayAddRange : {M : Type 0} → (M → View → Type 0) → Lane M → Oid → ℕ → ℕ → Type 0
MayAddRange at lane id off len = (o : Opening) × (v : View) × IsAtWork o at lane v × CanAdd v id off len

-- the words of the range that have no record yet get one, and that is told
unfoldable pub adds_range : List Span → Oid → ℕ → ℕ → Sequence
adds_range spans id off len = in_turn (snapshots spans (id.off + off) len) (one (Tell (AddRange id off len) None))

-- from the view before, with these records, the lane recorded the range, is at work still, and that is the plain model's. Each word of the
-- range has a record, and no number was drawn
pub record HasAddedRange {M : Type 0} (o : Opening) (at : M → View → Type 0) (lane : Lane M) (v : View) (spans : List Span) (id : Oid) (off len : ℕ) : Type 0 where
  pub ready : Ready v (adds_range spans id off len v)
  pub draws : DrawEnded v (adds_range spans id off len v)
  pub works : IsAtWork o at lane (after_all v (adds_range spans id off len v))
  pub added : AddsRange v (after_all v (adds_range spans id off len v)) id off len
  pub recorded : All (λ w. IsTrue (is_recorded (after_all v (adds_range spans id off len v)).log.records w)) (covered_words (id.off + off) len)

-- a held lock is of this line, for writing if so asked
abbrev pub is_lock_of : ℕ → Bool → HeldLock → Bool
is_lock_of line write l = l.line == line && (l.write || not write)

-- some view that the lane may be seen as is at work, and may read the range
abbrev pub MayReadRange : {M : Type 0} → (M → View → Type 0) → Lane M → Oid → ℕ → ℕ → Type 0
MayReadRange at lane id off len = (o : Opening) × (v : View) × IsAtWork o at lane v × KnowsRange v id off len false

-- so many bytes of the range are read, and these are told
unfoldable pub reads_range : Oid → ℕ → ℕ → List ℕ → Sequence
reads_range id off len bytes = in_turn (reads (id.off + off) len) (one (Tell (Read id off len) (Some (Bytes bytes))))

-- from the view before the lane read these bytes, is at work still, and they are what the plain model reads. No number was drawn
pub record HasReadRange {M : Type 0} (o : Opening) (at : M → View → Type 0) (lane : Lane M) (v : View) (id : Oid) (off len : ℕ) (bytes : List ℕ) : Type 0 where
  pub ready : Ready v (reads_range id off len bytes v)
  pub draws : DrawEnded v (reads_range id off len bytes v)
  pub works : IsAtWork o at lane (after_all v (reads_range id off len bytes v))
  pub read : ReadsBytes v (after_all v (reads_range id off len bytes v)) id off len
  pub seen : bytes ≡ bytes_seen v id off len

-- the first of the steps were made, up to the lane's stop, and none of them draws a number
pub record StopsUndrawn (new : View → Type 0) (v : View) (steps : Sequence) : Type 0 where
  pub ready : Ready v (steps v)
  pub draws : DrawEnded v (steps v)
  pub stops : Stops new v (steps v)
  pub number : (after_all v (take stops.made (steps v))).number ≡ None
  pub entries : (after_all v (take stops.made (steps v))).entries ≡ v.entries
