-- WHAT UNDO LOGGING IS TO ITS CALLERS: a range of an object that a lane found under its write
-- lock may be snapshot; and what a lane holds stays.
use Rattle.std.specs.Prelude.{◌/◌, length, slice_index, IsSome, ◌≡◌, ℕ, ◌+◌, ◌*◌, ◌^◌, ◌<◌, ◌≤◌, true, false, List, Some}
use Rattle.pm_model.specs.Items.{is_among}
use Rattle.pm_model.specs.Transaction.{covered_words}
use Rattle.pm_model.specs.declared.stage.Stage.{Stage}
use Rattle.pm_view.specs.Changes.{Undrained}
use Rattle.pm_view.specs.Claims.{Claim, class, first, found, header_in, locked, mine, reads, span}
use Rattle.pm_view.specs.Founds.{knows}
use Rattle.pm_view.specs.Log.{Log}
use Rattle.pm_view.specs.Places.{Block}
use Rattle.pm_view.specs.View.{View}
use Rattle.pm_view.specs.Steps.{Step}
use Rattle.pm_world.specs.InWorld.{IsSound, block_bytes}
use Rattle.pm_world.specs.LaneFields.{IsSeenAs, Standing, fields_at, moved}
use Rattle.pm_world.specs.Lanes.{is_occupancy}
use Rattle.pm_world.specs.Lawful.{is_here}
use Rattle.pm_world.specs.declared.lane.Lane.{Lane}
use Rattle.pm_undo.specs.Records.{kept_by}
use Rattle.pm_undo.specs.Spans.{words_in}
use Rattle.pm_undo.specs.Undoing.{KeepsLog, LogMoves, needed}
use Rattle.pm_plan.specs.Notes.{HasNoted}
use Rattle.pm_undo.specs.Working.{CanSnapshot, CanWrite, IsSnapshot, IsWorking}

-- the line of a block's header; the place of its object's first byte, which follows that line
abbrev pub header_of : View → Block → ℕ
header_of v B = header_in v.fixed.shape v.claims B

abbrev pub object_at : View → Block → ℕ
object_at v B = 64 * header_of v B + 64

-- AN OBJECT UNDER ITS WRITE LOCK: the lane found its block, which has room for the size that it
-- knows
pub record HoldsObject (v : View) (B : Block) (size : ℕ) : Type 0 where
  pub inside : is_occupancy v.fixed.shape B ≡ true
  pub here_ : is_here v B ≡ true
  pub sized : knows v (8 * header_of v B + 1) ≡ Some size
  pub fits : 64 + size ≤ block_bytes v B

-- so many bytes from a place on are the object's
pub record IsInObject (v : View) (B : Block) (size place len : ℕ) : Type 0 where
  pub from : object_at v B ≤ place
  pub to : place + len ≤ object_at v B + size

-- the word has a byte of the range
abbrev pub HasByte : ℕ → ℕ → ℕ → Type 0
HasByte place len w = (1 ≤ len) × (place < 8 * w + 8) × (8 * w < place + len)

-- the lane knows each word of a range that has no record yet
abbrev pub KnowsNew : View → ℕ → ℕ → Type 0
KnowsNew v place len = (w : ℕ) → HasByte place len w → is_among (words_in (kept_by v)) w ≡ false
    → (x : ℕ) × (x < 2 ^ 64) × (knows v w ≡ Some x)

-- SUCH A RANGE MAY BE SNAPSHOT
abbrev pub RangesMayBeSnapshot : Type 0
RangesMayBeSnapshot = (v : View) (B : Block) (size place len : ℕ) → IsWorking v → IsSound v
    → HoldsObject v B size → IsInObject v B size place len
    → KnowsNew v place len → CanSnapshot v (needed v place len)

-- AND THEN EACH WORD OF IT HAS A RECORD
abbrev pub RangesAreRecorded : Type 0
RangesAreRecorded = (v w : View) (place len : ℕ) → CanSnapshot v (needed v place len)
    → IsSnapshot v (needed v place len) w
    → (u : ℕ) → HasByte place len u → is_among (words_in (kept_by w)) u ≡ true

-- SO IT MAY BE WRITTEN, if its words were looked at
abbrev pub RangesMayBeWritten : Type 0
RangesMayBeWritten = (v w : View) (place len : ℕ) (values : List ℕ)
    → CanSnapshot v (needed v place len) → IsSnapshot v (needed v place len) w
    → ((u : ℕ) → HasByte place len u → IsSome (knows v u))
    → length values ≡ length (covered_words place len)
    → ((i : ℕ) → i < length values → slice_index values i < 2 ^ 64)
    → CanWrite w (place / 8) values

-- ---- WHAT A LANE HOLDS STAYS as long as it notes nothing else: its locks, the blocks that it
-- found and its own, where these lie, and the objects whose sizes it knows as it did
pub record StillHolds (v w : View) : Type 0 where
  pub locked : (l : ℕ) → locked w.claims l ≡ locked v.claims l
  pub reads : (l : ℕ) → reads w.claims l ≡ reads v.claims l
  pub found : (B : Block) → found v.fixed.shape w.claims B ≡ found v.fixed.shape v.claims B
  pub mine : (B : Block) → mine v.fixed.shape w.claims B ≡ mine v.fixed.shape v.claims B
  pub class : class w.claims ≡ class v.claims
  pub first : first v.fixed.shape w.claims ≡ first v.fixed.shape v.claims
  pub span : span v.fixed.shape w.claims ≡ span v.fixed.shape v.claims
  pub sound : IsSound v → IsSound w
  pub object : (B : Block) (size : ℕ)
      → knows w (8 * header_of v B + 1) ≡ knows v (8 * header_of v B + 1)
      → HoldsObject v B size → HoldsObject w B size

abbrev pub HoldingsStay : Type 0
HoldingsStay = (v w : View) → w.fixed ≡ v.fixed → HasNoted v w → StillHolds v w

-- A LANE BETWEEN TWO OPERATIONS, whose log moves to a view that differs in its claims, changes,
-- calls and log, is one with that view
abbrev pub StaysBetween : {M : Type 0} → (M → View → Type 0) → Type 0
StaysBetween {M} at = (stage : Stage) (s : Standing) (old new : Lane M) (w : View)
    (claims : List Claim) (changes : List Undrained) (calls : List Step) (log : Log)
    → w ≡ record s.view { claims = claims; changes = changes; calls = calls; log = log }
    → IsSeenAs at old s.view (fields_at stage s)
    → KeepsLog at old s.view
    × (LogMoves at old new w → IsSeenAs at new w (fields_at stage (moved s w)))
