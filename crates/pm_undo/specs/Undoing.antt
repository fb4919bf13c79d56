-- WHAT UNDO LOGGING DOES to a lane: by cases of what it answers, for each view that the lane's
-- memory may be seen as.
use Rattle.std.specs.Prelude.{◌≡◌, ℕ, ◌<◌, ◌≤◌, ◌^◌, ◌+◌, List, length, Result, Ok, Err}
use Rattle.pm_layout.specs.Areas.{undo_slots}
use Rattle.pm_memory.specs.Runs.{Ran, Stops}
use Rattle.pm_memory.specs.declared.lane_mem.Stopped.{Stopped}
use Rattle.pm_model.specs.Transaction.{covered_words, new_words}
use Rattle.pm_objects.specs.declared.refusal.Refusal.{Refusal}
use Rattle.pm_objects.specs.declared.refusal.Refusal.TheVariants as refusal
use Rattle.pm_view.specs.View.{View}
use Rattle.pm_view.specs.Views.{after_all}
use Rattle.pm_world.specs.LaneFields.{IsSeenAs, fields_of}
use Rattle.pm_world.specs.declared.lane.KeptRecord.{KeptRecord}
use Rattle.pm_world.specs.declared.lane.Lane.{Lane}
use Rattle.pm_plan.specs.Plans.{stores_from}
use Rattle.pm_undo.specs.Plans.{records_all, restores, retires, snapshots}
use Rattle.pm_undo.specs.Records.{kept_by, with_log}
use Rattle.pm_undo.specs.Spans.{ArePast, plan_of, words_in}
use Rattle.pm_undo.specs.Working.{CanRetire, CanSnapshot, CanWrite, HasSlots, IsWorking}
use Rattle.pm_undo.specs.declared.spans.Span.{Span}

-- THE LANE'S MEMORY MAY BE SEEN SO, and its log is what that view says
abbrev pub KeepsLog : {M : Type 0} → (M → View → Type 0) → Lane M → View → Type 0
KeepsLog at lane v = IsSeenAs at lane v (with_log v (fields_of lane))

-- after memory calls: its log is what the view after them says, and all else of it is as it was
abbrev pub LogMoves : {M : Type 0} → (M → View → Type 0) → Lane M → Lane M → View → Type 0
LogMoves at old new w = IsSeenAs at new w (with_log w (fields_of old))

-- the records that a range of bytes needs
abbrev pub needed : View → ℕ → ℕ → List Span
needed v place len = plan_of (kept_by v) place len

-- ---- spans are recorded, each past the one before; or the lane came to its stop

abbrev pub MayLog : View → List Span → Type 0
MayLog v spans = CanSnapshot v spans × ArePast 0 spans

abbrev pub LoggedAs : {M : Type 0} → (M → View → Type 0) → List Span → View → Lane M → Lane M
    → Result (Unit {0}) Stopped → Type 0
LoggedAs at spans v old new (Ok done) = LogMoves at old new (after_all v (records_all spans v))
LoggedAs at spans v old new (Err stopped) = Stops (at new.memory) v (records_all spans v)
    × (fields_of new ≡ fields_of old)

unfoldable pub LoggedSpans : {M : Type 0} → (M → View → Type 0) → List Span → Lane M → Lane M
    → Result (Unit {0}) Stopped → Type 0
LoggedSpans at spans old new result = (v : View) → KeepsLog at old v → MayLog v spans
    → LoggedAs at spans v old new result

-- ---- a snapshot

-- SOME WORDS GOT RECORDED; or the lane came to its stop; or more records were needed than are
-- free, and nothing was done
abbrev pub SnapshottedAs : {M : Type 0} → (M → View → Type 0) → ℕ → ℕ → View → Lane M → Lane M
    → Result ℕ Refusal → Type 0
SnapshottedAs at place len v old new (Ok count) =
    HasSlots v (needed v place len)
    × (count ≡ length (new_words (words_in (kept_by v)) (covered_words place len)))
    × LogMoves at old new (after_all v (snapshots place len v))
SnapshottedAs at place len v old new (Err refusal.Stopped) =
    HasSlots v (needed v place len) × Stops (at new.memory) v (snapshots place len v)
    × (fields_of new ≡ fields_of old)
SnapshottedAs at place len v old new (Err refusal.LogFull) =
    (undo_slots v.fixed.shape < length v.log.records + length (needed v place len)) × (new ≡ old)
SnapshottedAs at place len v old new (Err r) = ⊥

unfoldable pub Snapshotted : {M : Type 0} → (M → View → Type 0) → ℕ → ℕ → Lane M → Lane M
    → Result ℕ Refusal → Type 0
Snapshotted at place len old new result = (v : View) → KeepsLog at old v
    → CanSnapshot v (needed v place len) → SnapshottedAs at place len v old new result

-- ---- writing recorded words: the plan was carried out, or the first of it up to the stop

unfoldable pub Written : {M : Type 0} → (M → View → Type 0) → ℕ → List ℕ → Lane M → Lane M
    → Result (Unit {0}) Stopped → Type 0
Written at word values old new result = (v : View) → KeepsLog at old v → CanWrite v word values
    → Ran (at new.memory) v (stores_from word values v) result × (fields_of new ≡ fields_of old)

-- ---- putting back: the plan was carried out, or the first of it up to the stop

unfoldable pub Restored : {M : Type 0} → (M → View → Type 0) → Lane M → Lane M
    → Result (Unit {0}) Stopped → Type 0
Restored at old new result = (v : View) → KeepsLog at old v → IsWorking v
    → Ran (at new.memory) v (restores v) result × (fields_of new ≡ fields_of old)

-- ---- ending the generation

abbrev pub RetiredAs : {M : Type 0} → (M → View → Type 0) → View → Lane M → Lane M
    → Result (Unit {0}) Stopped → Type 0
RetiredAs at v old new (Ok done) = LogMoves at old new (after_all v (retires v))
RetiredAs at v old new (Err stopped) = Stops (at new.memory) v (retires v)
    × (fields_of new ≡ fields_of old)

unfoldable pub Retired : {M : Type 0} → (M → View → Type 0) → Lane M → Lane M
    → Result (Unit {0}) Stopped → Type 0
Retired at old new result = (v : View) → KeepsLog at old v → CanRetire v
    → RetiredAs at v old new result

-- a record of one to four words of a pool, with that many old words
pub record IsKept (r : KeptRecord) : Type 0 where
  pub most : r.count ≤ 4
  pub low : r.word < 2 ^ 60

-- the lane may be seen so that it may do this
abbrev pub Stands : {M : Type 0} → (M → View → Type 0) → Lane M → (View → Type 0) → Type 0
Stands at lane P = (v : View) × KeepsLog at lane v × P v
