-- A lane whose redo log may be written, sealed, applied and retired, on its view alone; and what
-- each of these leaves of the view.
use Rattle.std.specs.Prelude.{◌≡◌, ◌≢◌, ℕ, ◌/◌, ◌%◌, ◌^◌, ◌<◌, ◌≤◌, true, false, All, List, [], ◌∷◌, ◌++◌, length, map, None, Some}
use Rattle.std.specs.List.{AllByRecursion}
use Rattle.pm_layout.specs.Areas.{greatest_generation, redo_entries, word_of_generation, word_of_seal}
use Rattle.pm_record.specs.declared.redo.Op.TheVariants.{Set}
use Rattle.pm_record.specs.declared.redo.Redo.{Redo}
use Rattle.pm_view.specs.Claims.{Knows, Drained, Decided, making}
use Rattle.pm_view.specs.Entries.{Entry, first_of_two, redos}
use Rattle.pm_view.specs.Founds.{knows}
use Rattle.pm_view.specs.Log.{Idle, Open, Drawn, Applying, Log, next_log}
use Rattle.pm_view.specs.Parts.{is_entry_word}
use Rattle.pm_view.specs.Places.{Place, RootWord}
use Rattle.pm_view.specs.View.{View}
use Rattle.pm_view.specs.Views.{value_in}
use Rattle.pm_world.specs.Lawful.{EntersAt, KeepsRoot, place_in}
use Rattle.pm_world.specs.Logs.{AreWhole, EntryOf, ends_with}
use Rattle.pm_plan.specs.Notes.{HasNoted}
use Rattle.pm_redo.specs.Entries.{last_made, logged_entry}

-- the lane makes no run
abbrev pub MakesNone : View → Type 0
MakesNone v = (c : ℕ) → making v.fixed.shape v.claims c ≡ false

-- the words of the lane's generation and of its seal
abbrev pub generation_word : View → ℕ
generation_word v = word_of_generation v.fixed.shape v.fixed.lane

abbrev pub seal_word : View → ℕ
seal_word v = word_of_seal v.fixed.shape v.fixed.lane

-- v with what w knows and counted, with nothing undrained and this log
abbrev pub drained_as : View → View → Log → View
drained_as v w log = record v { claims = w.claims; changes = []; calls = w.calls; log = log }

-- THE LANE MAY ENTER IT: its word is a place where the lane has the right to that, and it gives
-- some bit
pub record CanEnter (v : View) (e : Redo) : Type 0 where
  pub place : Place
  pub at : place_in v (e.place / 8) ≡ Some place
  pub may : EntersAt v place e.op e.value
  pub gives : EntryOf place e.op e.value
  pub aligned : e.place % 8 ≡ 0
  pub small : e.value < 2 ^ 64

-- the call is open, with no record and no entry in the making and no entry stored; and there is a
-- pair for each of these and for the one that ends the generation
pub record CanLog (v : View) (entries : List Redo) : Type 0 where
  pub is_open : v.log.phase ≡ Open
  pub whole : (v.log.slot ≡ []) × (v.log.pair ≡ [])
  pub unentered : v.log.entries ≡ []
  pub below : v.log.generation < greatest_generation v.fixed.shape
  pub lane : v.fixed.lane < v.fixed.shape.lanes
  pub lanes : v.fixed.shape.lanes ≤ 32
  pub zones : v.fixed.shape.zones ≤ 32
  pub unmaking : MakesNone v
  pub few : length entries < redo_entries v.fixed.shape
  pub each : AllByRecursion (CanEnter v) entries

-- an entry of a place, as the lane knows what its word is; the root word is only set
pub record IsOfPlace (v : View) (e : Entry) : Type 0 where
  pub place : Place
  pub is : e.place ≡ Some place
  pub at : place_in v e.word ≡ Some place
  pub root : place ≡ RootWord → e.op ≡ Set
  pub small : e.value < 2 ^ 64

-- A LOG THAT MAY BE PERFORMED: its entries are of places, and after them comes the one that ends
-- the generation
pub record HasLog (v : View) : Type 0 where
  pub front : List Entry
  pub are : v.log.entries ≡ front ++ ends_with v.fixed.shape v.fixed.lane v.log.generation ∷ []
  pub each : AllByRecursion (IsOfPlace v) front
  pub few : length v.log.entries ≤ redo_entries v.fixed.shape
  pub below : v.log.generation < greatest_generation v.fixed.shape
  pub lane : v.fixed.lane < v.fixed.shape.lanes

-- these entries as the log has them, and after them the one that ends the generation
abbrev pub all_logged : View → List Redo → List Entry
all_logged v es =
    map (logged_entry v) es ++ ends_with v.fixed.shape v.fixed.lane v.log.generation ∷ []

-- THE LOG IS WRITTEN: the entries stand in their pairs, and after them the one that ends the
-- generation; nothing is undrained, and all words but those of pairs are known as they were. Of
-- the root word, the lines are locked that are to guard it
pub record IsLogged (v : View) (entries : List Redo) (w : View) : Type 0 where
  pub same : w ≡ drained_as v w (record v.log { entries = all_logged v entries })
  pub noted : HasNoted v w
  pub known : (u : ℕ) → is_entry_word v.fixed.shape v.fixed.lane u ≡ false
      → (knows w u ≡ knows v u) × (value_in w u ≡ value_in v u)
  pub whole : AreWhole w.fixed.shape w.fixed.lane w.log
  pub log_ : HasLog w
  pub root : All (KeepsRoot w) w.log.entries

-- the call has its number and its log, and nothing is undrained; the lane knows its generation, and
-- that its seal is 0
pub record CanSeal (v : View) : Type 0 where
  pub number : ℕ
  pub drawn : v.log.phase ≡ Drawn number
  pub log_ : HasLog v
  pub drained : v.changes ≡ []
  pub seal : value_in v (seal_word v) ≡ Some 0
  pub generation : value_in v (generation_word v) ≡ Some v.log.generation

-- the view of a call that is decided, with all entries to be applied yet
abbrev pub decided : View → View
decided v = record v {
  claims = Decided (redos v.log.entries) ∷ Drained []
      ∷ Knows (seal_word v) (length v.log.entries) ∷ v.claims;
  changes = [];
  log = record v.log { phase = Applying v.log.entries };
}

-- THE CALL IS DECIDED: the seal has the number of the entries, and that is drained
pub record IsSealed (v w : View) : Type 0 where
  pub same : w ≡ record (decided v) { calls = w.calls }
  pub seal : value_in w (seal_word v) ≡ Some (length v.log.entries)
  pub seen : (u : ℕ) → u ≢ seal_word v → value_in w u ≡ value_in v u

-- the call is decided, none of its entries is applied, and nothing is undrained; the lane knows its
-- generation
pub record CanApply (v : View) : Type 0 where
  pub applying : v.log.phase ≡ Applying v.log.entries
  pub log_ : HasLog v
  pub unmaking : MakesNone v
  pub drained : v.changes ≡ []
  pub known : value_in v (generation_word v) ≡ Some v.log.generation

-- EVERY ENTRY HAS ITS EFFECT, in order, where these values were found, and that is persistent;
-- other words are known as they were
pub record IsApplied (v : View) (found : ℕ → ℕ) (w : View) : Type 0 where
  pub same : w ≡ drained_as v w (record v.log { phase = Applying []; bumped = true })
  pub noted : HasNoted v w
  pub made : (u : ℕ) → value_in w u ≡ first_of_two (last_made found v.log.entries u) (value_in v u)
  pub known : (u : ℕ) → last_made found v.log.entries u ≡ None → knows w u ≡ knows v u

-- all entries are applied, and nothing is undrained; the lane knows its seal
pub record CanClear (v : View) : Type 0 where
  pub applied : v.log.phase ≡ Applying []
  pub lane : v.fixed.lane < v.fixed.shape.lanes
  pub unmaking : MakesNone v
  pub drained : v.changes ≡ []
  pub known : value_in v (seal_word v) ≡ Some (length v.log.entries)

-- THE LOG IS RETIRED: no call is open, the lane has its next generation, and its seal is 0, drained
pub record IsCleared (v w : View) : Type 0 where
  pub same : w ≡ drained_as v w (next_log Idle v.log)
  pub noted : HasNoted v w
  pub seal : value_in w (seal_word v) ≡ Some 0
  pub known : (u : ℕ) → u ≢ seal_word v → (knows w u ≡ knows v u) × (value_in w u ≡ value_in v u)

-- THE LOG IS PERFORMED: the call was decided, every entry has its effect, and no call is open
pub record IsPerformed (v : View) (found : ℕ → ℕ) (w : View) : Type 0 where
  pub same : w ≡ drained_as v w (next_log Idle v.log)
  pub noted : HasNoted (decided v) w
  pub made : (u : ℕ) → u ≢ seal_word v
      → value_in w u ≡ first_of_two (last_made found v.log.entries u) (value_in v u)
  pub seal : value_in w (seal_word v) ≡ Some 0
