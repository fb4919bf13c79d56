-- A lane that is alone publishes its redo log: from the draw of its call's number to where the seal is cleared for good (docs/FORMAT.md, "Lane areas" and
-- "Sequences").
use Rattle.std.specs.Prelude.{◌≡◌, ◌≢◌, ◌⊎◌, ℕ, ◌+◌, ◌*◌, ◌^◌, ◌<◌, ◌≤◌, ◌==◌, ◌&&◌, Bool, true, false, IsTrue, All, List, [], ◌∷◌, ◌++◌, length, slice_index, Some}
use Rattle.pm_record.specs.Redo.{redo_words}
use Rattle.pm_record.specs.Undo.{undo_of}
use Rattle.pm_record.specs.declared.redo.Op.{Op}
use Rattle.pm_record.specs.declared.redo.Op.TheVariants.{Set}
use Rattle.pm_record.specs.declared.undo.Undo.{Undo}
use Rattle.solo_view.specs.Founds.{FoundAlone, IsAlone}
use Rattle.solo_view.specs.Log.{Final, Phase}
use Rattle.solo_view.specs.Log.Phase.{Applying, Clearing, Drawn, Idle, Sealing}
use Rattle.solo_view.specs.Steps.{Step}
use Rattle.solo_view.specs.Steps.Step.{Draw}
use Rattle.solo_view.specs.View.{View}
use Rattle.solo_view.specs.Views.{after}
use Rattle.pm_image.specs.LogFaults.{is_target}
use Rattle.pm_image.specs.Logs.{generation_word, seal_word, undo_slot}
use Rattle.solo_memory.specs.Keep.{IsKeptImage}
use Rattle.solo_world.specs.Entries.{IsEntryAt, LeaveWord, ends_with, final_by, is_or_entered, pair_at, redo_on}
use Rattle.solo_world.specs.History.{Entry}
use Rattle.solo_world.specs.Lawful.{Allowed, generation_limit}
use Rattle.solo_world.specs.Memory.{Memory}
use Rattle.solo_world.specs.Memory.Location.{PoolWord}
use Rattle.solo_world.specs.Opening.{Opening}
use Rattle.solo_world.specs.Opens.{IsClean}
use Rattle.solo_world.specs.Records.{generation_of}
use Rattle.solo_world.specs.World.{Views, World}

-- the pool as the lane sees it
abbrev pub pool_seen : View → Opening
pool_seen v = record { lanes = v.lanes; zones = v.zones; words = v.words }

-- the word is of no lane's area
abbrev pub IsOutside : ℕ → ℕ → Type 0
IsOutside lanes w = (w < 512) ⊎ (512 + 1024 * lanes ≤ w)

-- the entry is of an operation on its word, an OR and an AND with 64 bits, and its pair spells it
pub record IsSpelled (v : View) (i : ℕ) (f : Final) : Type 0 where
  pub op : Op
  pub value : ℕ
  pub is : f ≡ final_by op f.word value
  pub word : op ≢ Set → value < 2 ^ 64
  pub spells : pair_at v i ≡ redo_words (redo_on op f.word value)

-- the entry is of a word of the pool that lies in no lane's area, whatever it tells of
pub record IsOfPool (v : View) (f : Final) : Type 0 where
  pub outside : IsOutside v.lanes f.word
  pub inside : f.word < length v.words

-- The lane may seal its entries: its call has its number, and nothing is undrained. The entries stand in their pairs; each is of the pool, but the last,
-- which ends the generation; and what an entry ORs is a word of 64 bits, and is left so. No lane's log is sealed, and none has a record of a generation
-- that is to come, another lane's not of its present one either.
pub record MaySeal (b : View) : Type 0 where
  pub in_lanes : b.lane < b.lanes
  pub size : length b.words ≡ 512 + 1024 * b.lanes + 33280 * b.zones
  pub drawn : b.log.phase ≡ Drawn
  pub drained : b.changes ≡ []
  pub few : length b.log.entries ≤ 64
  pub front : List Final
  pub ends : b.log.entries ≡ front ++ ends_with b (generation_of b + 1) ∷ []
  pub of_pool : All (IsOfPool b) front
  pub spelled : (i : ℕ) (f : Final) → IsEntryAt b i f → IsSpelled b i f
  pub small : (w : ℕ) → is_or_entered b.log.entries w ≡ true → (slice_index b.words w < 2 ^ 64) × LeaveWord b.log.entries w
  pub first : 1 ≤ generation_of b
  pub below : generation_of b < generation_limit
  pub unsealed : seal_word b.words b.lane ≡ 0
  pub stale : (slot : ℕ) (u : Undo) → slot < 64 → undo_of (undo_slot b.words b.lane slot) ≡ Some u → u.generation ≤ generation_of b
  pub clean : (j : ℕ) → j < b.lanes → j ≢ b.lane → IsClean (pool_seen b) j

-- the call has its number, and its log is not at its end
abbrev pub is_publishing : Phase → Bool
is_publishing Drawn = true
is_publishing Sealing = true
is_publishing (Applying applied) = true
is_publishing Clearing = true
is_publishing phase = false

-- such steps lead from the one view to the other: the lane may make each, and is answered as it is where it is alone
unfoldable pub Publishes : View → List Step → View → Type 0
Publishes v [] w = w ≡ v
Publishes v (s ∷ steps) w = IsTrue (is_publishing v.log.phase) × Allowed v s × FoundAlone v s × Publishes (after v s) steps w

-- the lane, alone, made these steps from where it may seal its log, and a power failure leaves the image
pub record LeavesSealed (b : View) (steps : List Step) (w : View) (keep : ℕ) (image : List ℕ) : Type 0 where
  pub may : MaySeal b
  pub alone : IsAlone b
  pub publishes : Publishes b steps w
  pub left : IsKeptImage keep w.words (w.changes ∷ []) image

-- the image has neither the seal nor the next generation: it has nothing of the call
abbrev pub has_nothing : List ℕ → View → Bool
has_nothing image b = seal_word image b.lane == 0 && generation_word image b.lane == generation_of b

-- the seal was drained
abbrev pub is_decided : Phase → Bool
is_decided (Applying applied) = true
is_decided Clearing = true
is_decided Idle = true
is_decided phase = false

-- each entry but the last is of a word that an image's entries may change
abbrev pub AreTargets : View → Type 0
AreTargets b = (i : ℕ) (f : Final) → IsEntryAt b i f → i + 1 < length b.log.entries → IsTrue (is_target b.lanes b.zones f.word)

-- ---- from a world

-- The lane's entries, at work: each is of the pool, but the last, which ends the generation; and what an entry ORs is a word of 64 bits, and is left so.
pub record HasWholeLog (v : View) : Type 0 where
  pub front : List Final
  pub ends : v.log.entries ≡ front ++ ends_with v (generation_of v + 1) ∷ []
  pub of_pool : All (IsOfPool v) front
  pub small : (w : ℕ) → is_or_entered v.log.entries w ≡ true → (slice_index v.words w < 2 ^ 64) × LeaveWord v.log.entries w
  pub below : generation_of v < generation_limit

-- in a world where no other lane is at work, a lane whose view has each word as it is and that draws its call's number with such a log may seal it
abbrev pub SealingLaw : Type 0
SealingLaw = (o : Opening) (mem : Memory) (views : Views) (log : List Entry) (decided : ℕ → Bool) (k n : ℕ)
    → World o mem views log decided → k < o.lanes → ((j : ℕ) → j < o.lanes → j ≢ k → (views j).log.phase ≡ Idle)
    → ((w : ℕ) → mem (PoolWord w) ≡ slice_index (views k).words w) → Allowed (views k) (Draw n) → HasWholeLog (views k)
    → MaySeal (after (views k) (Draw n))
