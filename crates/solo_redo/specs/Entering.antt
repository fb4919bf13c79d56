-- What redo logging asks of a lane's view, and what it leaves of it.
use Rattle.std.specs.Prelude.{◌≡◌, ◌⊎◌, ℕ, false, ◌+◌, ◌*◌, ◌/◌, ◌%◌, ◌^◌, ◌<◌, ◌≤◌, IsTrue, List, [], ◌∷◌, ◌++◌, All, length, map, slice_index, None}
use Rattle.pm_record.specs.declared.redo.Op.TheVariants.{Set}
use Rattle.pm_record.specs.declared.redo.Redo.{Redo}
use Rattle.solo_view.specs.Area.{is_in_area}
use Rattle.solo_view.specs.Log.{Final, no_log}
use Rattle.solo_view.specs.Log.Phase.{Idle, Open, Drawn, Applying}
use Rattle.solo_view.specs.Rights.{is_written}
use Rattle.solo_view.specs.View.{View}
use Rattle.solo_world.specs.Entries.{IsKnownWord, final_by}
use Rattle.solo_world.specs.History.{made_final}
use Rattle.solo_world.specs.Lawful.{generation_limit}
use Rattle.solo_world.specs.Records.{generation_of}
use Rattle.solo_undo.specs.Working.{HasArea, IsSameCall, KeepsOutside}
use Rattle.solo_redo.specs.Sequences.{ending_of}
use Rattle.solo_view.specs.Founds.{IsAlone}

-- a lane's area lies in the pool, before the zones
pub record HasPlace (v : View) : Type 0 where
  pub lane : v.lane < v.lanes
  pub few : v.lane < 32
  pub inside : 512 + 1024 * (v.lane + 1) ≤ length v.words

-- the memory may be seen as a view with its area
abbrev pub IsSeenInPool : (View → Type 0) → Type 0
IsSeenInPool at = (v : View) × (at v × HasPlace v)

-- an entry is of a word, and its value is one
pub record IsOfWord (e : Redo) : Type 0 where
  pub aligned : e.place % 8 ≡ 0
  pub word : e.value < 2 ^ 64

-- what a redo entry makes final
abbrev pub final_of : Redo → Final
final_of e = final_by e.op (e.place / 8) e.value

-- the entry sets its word, or the lane knows it
abbrev pub KnowsWord : View → Redo → Type 0
KnowsWord v e = (e.op ≡ Set) ⊎ IsKnownWord v (e.place / 8)

-- the lane may store entries: its call is open and undrawn, with nothing in the making, and only entries are undrained
pub record IsEntering (v : View) : Type 0 where
  pub is_open : v.log.phase ≡ Open [] []
  pub undrawn : v.number ≡ None
  pub area : HasArea v
  pub few : length v.changes ≤ 2 * length v.log.entries

-- the entry stands behind the others; nothing else changed but the lane's area, of which the generation stays
pub record HasEntered (v : View) (e : Redo) (w : View) : Type 0 where
  pub call : IsSameCall v w
  pub entering : IsEntering w
  pub log : w.log ≡ record v.log { entries = v.log.entries ++ final_of e ∷ [] }
  pub outside : KeepsOutside v w
  pub generation : generation_of w ≡ generation_of v

-- the entry that ends the lane's generation
abbrev pub ending : View → Redo
ending v = ending_of v.lane (generation_of v)

-- an entry of a word of the pool that the lane locked for writing, outside of its area, and knows where it sets or clears bits of it
pub record IsOfPool (v : View) (e : Redo) : Type 0 where
  pub entry : IsOfWord e
  pub own : IsTrue (is_written v (e.place / 8))
  pub outside : is_in_area v.lane (e.place / 8) ≡ false
  pub inside : e.place / 8 < length v.words
  pub known : KnowsWord v e

-- an entry by which a lane that is alone changes the heap, as it allocates or frees a block, or sets a word of an object that its call made: of a word of the
-- pool outside of its area that it has not locked. Where the entry does not set the word, which needs nothing of the one before, that has 64 bits
pub record EntersHeap (v : View) (e : Redo) : Type 0 where
  pub entry : IsOfWord e
  pub alone : IsAlone v
  pub unlocked : is_written v (e.place / 8) ≡ false
  pub outside : is_in_area v.lane (e.place / 8) ≡ false
  pub inside : e.place / 8 < length v.words
  pub small : (e.op ≡ Set) ⊎ (slice_index v.words (e.place / 8) < 2 ^ 64)

-- the lane may enter it
abbrev pub MayEnter : View → Redo → Type 0
MayEnter v e = IsOfPool v e ⊎ EntersHeap v e

-- the lane's entries are these: of words of the pool, and then the one that ends the generation
pub record AreEntered (v : View) (entries : List Redo) : Type 0 where
  pub front : List Redo
  pub are : entries ≡ front ++ ending v ∷ []
  pub each : All (MayEnter v) front
  pub logged : v.log.entries ≡ map final_of entries
  pub most : length entries ≤ 64

-- the lane may write its redo log at once: its call is open, undrawn and persistent, with nothing in the making and no entry yet
pub record IsReadyToLog (v : View) : Type 0 where
  pub entering : IsEntering v
  pub none : v.log.entries ≡ []

-- the entries stand in the log, the one that ends the generation behind them, and that is persistent; nothing else changed but the lane's area, of
-- which the generation stays
pub record HasLogged (v : View) (entries : List Redo) (w : View) : Type 0 where
  pub call : IsSameCall v w
  pub entered : AreEntered w (entries ++ ending v ∷ [])
  pub is_open : w.log.phase ≡ Open [] []
  pub records : w.log.records ≡ v.log.records
  pub drained : w.changes ≡ []
  pub outside : KeepsOutside v w
  pub generation : generation_of w ≡ generation_of v

-- the entries are sealed, and that is persistent: the call is decided, and its records are void
pub record IsSealed (v w : View) : Type 0 where
  pub call : IsSameCall v w
  pub log : w.log ≡ record v.log { phase = Applying 0; records = [] }
  pub drained : w.changes ≡ []
  pub outside : KeepsOutside v w
  pub generation : generation_of w ≡ generation_of v

-- every entry has its effect, the end of the generation among them, and no other word changed
pub record IsApplied (v w : View) : Type 0 where
  pub call : IsSameCall v w
  pub log : w.log ≡ record v.log { phase = Applying (length v.log.entries) }
  pub drained : w.changes ≡ []
  pub words : (u : ℕ) → is_in_area v.lane u ≡ false → slice_index w.words u ≡ made_final v.log.entries u (slice_index v.words u)
  pub generation : generation_of w ≡ generation_of v + 1

-- the seal is cleared, and that is persistent: no call is open
pub record IsCleared (v w : View) : Type 0 where
  pub call : IsSameCall v w
  pub log : w.log ≡ no_log Idle
  pub drained : w.changes ≡ []
  pub outside : KeepsOutside v w
  pub generation : generation_of w ≡ generation_of v

-- the lane may perform its log: its call drew its number, and the entries, of words of the pool and then of its generation, are persistent
pub record IsReadyToPerform (v : View) (entries : List Redo) : Type 0 where
  pub place : HasPlace v
  pub drawn : v.log.phase ≡ Drawn
  pub drained : v.changes ≡ []
  pub below : generation_of v < generation_limit
  pub entered : AreEntered v entries

-- no call is open any more, and every entry has its effect, persistent: outside of the lane's area no other word changed, and the lane is of its next
-- generation
pub record IsPerformed (v w : View) : Type 0 where
  pub call : IsSameCall v w
  pub log : w.log ≡ no_log Idle
  pub drained : w.changes ≡ []
  pub words : (u : ℕ) → is_in_area v.lane u ≡ false → slice_index w.words u ≡ made_final v.log.entries u (slice_index v.words u)
  pub generation : generation_of w ≡ generation_of v + 1
