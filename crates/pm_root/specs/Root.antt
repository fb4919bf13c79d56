-- WHAT A LOOK AT THE ROOT'S ID DID to its lane, by cases of what it returns: a call opens, in which
-- nothing is told; the lane waits for the lock of line 0, for reading, looks at the root word, and gives
-- the lock back. pmemobj_root(3).
use Rattle.std.specs.Prelude.{◌≡◌, ℕ, zero, suc, ◌==◌, Bool, true, false, if◌then◌else◌, Some, Result, Ok, Err}
use Rattle.pm_layout.specs.Chunks.{word_of_root}
use Rattle.pm_objects.specs.declared.ids.Oid.{Oid}
use Rattle.pm_objects.specs.declared.refusal.Refusal.{Refusal}
use Rattle.pm_objects.specs.declared.refusal.Refusal.TheVariants as refusal
use Rattle.pm_view.specs.Claims.{holds}
use Rattle.pm_view.specs.Founds.{Found}
use Rattle.pm_view.specs.Log.{is_early}
use Rattle.pm_view.specs.Steps.Step.{Give}
use Rattle.pm_view.specs.View.{View}
use Rattle.pm_view.specs.Views.{after, after_all, value_in}
use Rattle.pm_world.specs.LaneFields.{Fields, Rests, Standing, at_rest, fields_of, moved}
use Rattle.pm_world.specs.declared.lane.Lane.{Lane}
use Rattle.pm_lock.specs.RootLock.{root_seen}
use Rattle.pm_lock.specs.Steps.{refusals, stops, takes}
use Rattle.pm_call.specs.Between.{MayOpen}
use Rattle.pm_call.specs.Opening.{AfterOpening, NoneIsLeft}

-- the root's id in the pool with this id, by the root word; null where that is 0
abbrev pub id_of : ℕ → ℕ → Oid
id_of pool word = if word == 0 then record { pool = 0; off = 0 } else record { pool = pool; off = word }

-- THE ROOT WORD IS KNOWN: the lane holds the lock of line 0, drew no number, and saw this in the word
pub record KnowsRoot (v : View) (word : ℕ) : Type 0 where
  pub early : is_early v.log.phase ≡ true
  pub holds_line : holds v.claims 0 ≡ true
  pub value : value_in v (word_of_root v.fixed.shape) ≡ Some word

-- ---- IN THE CALL THAT WAS OPENED

-- the view under the lock, after so many tries; and the lane's data once the lock is given back
abbrev pub under_lock : View → ℕ → ℕ → View
under_lock v tries word = root_seen v tries false word

abbrev pub looked : Standing → ℕ → ℕ → Standing
looked s tries word = moved s (after (under_lock s.view tries word) (Give 0))

-- IT WAS LOOKED AT: at one moment, with this memory, the root word was known; the lock was given back
-- then, and the lane may open a call
pub record RootWasSeen {M : Type 0} (at : M → View → Type 0) (lane : Lane M) (s : Standing) (word : ℕ)
    : Type 0 where
  pub tries : ℕ
  pub memory : M
  pub seen : at memory (under_lock s.view tries word)
  pub knows : KnowsRoot (under_lock s.view tries word) word
  pub rests : Rests at lane (looked s tries word)
  pub may : MayOpen (looked s tries word)

-- IT STOPPED: the lock was waited for up to the stop word, and the lane says that it stopped
pub record RootWasAwaited {M : Type 0} (at : M → View → Type 0) (lane : Lane M) (s : Standing)
    : Type 0 where
  pub refused : ℕ
  pub memory : at lane.memory (after_all s.view (stops refused 0 false))
  -- it was another lane's
  pub found : Found (after_all s.view (refusals refused 0 false)) (takes 0 false false)
  pub fields : fields_of lane ≡ record (at_rest s) { stopped = true }

abbrev pub FoundOpenAs : {M : Type 0} → (M → View → Type 0) → Lane M → Result Oid Refusal
    → Standing → Type 0
FoundOpenAs at lane (Ok id) s = (word : ℕ) × (id ≡ id_of s.view.fixed.pool word)
    × RootWasSeen at lane s word
FoundOpenAs at lane (Err refusal.Stopped) s = RootWasAwaited at lane s
FoundOpenAs at lane (Err r) s = ⊥

-- ---- THE LOOK

-- or no call was opened
abbrev pub FoundAs : {M : Type 0} → (M → View → Type 0) → Lane M → Result Oid Refusal → Standing
    → Type 0
FoundAs at lane (Err refusal.Spent) s = NoneIsLeft at lane s
FoundAs at lane result s = AfterOpening s (FoundOpenAs at lane result)

-- a lane that stopped, or that is in a transaction, does nothing
abbrev pub FoundBy : {M : Type 0} → Bool → ℕ → (M → View → Type 0) → Lane M → Lane M
    → Result Oid Refusal → Type 0
FoundBy true level at old new result = (result ≡ Err refusal.Stopped) × (new ≡ old)
FoundBy false (suc n) at old new result = (result ≡ Err refusal.InTx) × (new ≡ old)
FoundBy false zero at old new result = (s : Standing) → Rests at old s → MayOpen s
    → FoundAs at new result s

unfoldable pub RootFound : {M : Type 0} → (M → View → Type 0) → Lane M → Lane M → Result Oid Refusal
    → Type 0
RootFound at old new result = FoundBy old.stopped old.level at old new result

-- THE LANE'S FIELDS STAY, but that one that stopped says so
abbrev pub fields_then : Result Oid Refusal → Fields → Fields
fields_then (Err refusal.Stopped) f = record f { stopped = true }
fields_then result f = f

abbrev pub FieldsStay : {M : Type 0} → Lane M → Lane M → Result Oid Refusal → Type 0
FieldsStay old new result = fields_of new ≡ fields_then result (fields_of old)
