-- A CALL THAT ENDS has its fact, by the simulation: as a transaction takes its number.
use Rattle.std.specs.Prelude.{◌≡◌, ◌⊎◌, ℕ, ◌*◌, ◌<◌, ◌≤◌, Bool, true, false, List, [], ◌∷◌, ◌++◌, Option, None}
use Rattle.pm_layout.specs.Sizes.{class_of}
use Rattle.pm_objects.specs.Pool.{block_lines}
use Rattle.pm_objects.specs.declared.calls.Operation.TheVariants.{Commit}
use Rattle.pm_model.specs.Inside.{Ran, is_begin, is_kept_by}
use Rattle.pm_model.specs.Shown.{aborts}
use Rattle.pm_model.specs.Transaction.{Transaction, idle, is_working}
use Rattle.pm_view.specs.Entries.{Entry}
use Rattle.pm_view.specs.Places.{Block, Place}
use Rattle.pm_view.specs.View.{Told, View}
use Rattle.pm_world.specs.Sights.{is_recorded}
use Rattle.pm_crash.specs.Calls.{Fact, pending_of, told_by}
use Rattle.pm_crash.specs.HeapChanges.{Makes}
use Rattle.pm_crash.specs.Looked.{Enters, IsChanged, IsObject, KnowsWord, words_in}
use Rattle.pm_crash.specs.OpenRuns.{after_told, no_pool}
use Rattle.pm_crash.specs.Sim.{Grows, MayTell, Sim, Tells, change_so_far, lists_of}
use Rattle.pm_crash.specs.SimCommits.{IsCommit}
use Rattle.pm_crash.specs.SimOps.{IsRolledBack, RollsBack}

-- a block that the call makes has an object of its size, and its other header words are 0
pub record IsSized (v : View) (entries : List Entry) (B : Block) : Type 0 where
  pub object : IsObject v entries B
  pub size : ℕ
  pub some : 1 ≤ size
  pub most : size ≤ 262080
  pub fits : 8 * block_lines (class_of size) ≡ words_in v B
  pub sized : KnowsWord v entries B 1 size
  pub plain : (k : ℕ) → 2 ≤ k → k < 8 → KnowsWord v entries B k 0

-- the call began with `begin`
abbrev pub is_begun : List Told → Bool
is_begun [] = false
is_begun (t ∷ told) = is_begin t.operation

-- THE TRANSACTION IS OVER, and its log has the entries of the blocks that it made and freed
pub record IsOver (v : View) : Type 0 where
  pub begun : is_begun v.call ≡ true
  pub over : is_working (lists_of v).stage ≡ false
  pub enters : Enters v v.log.entries
  pub sized : (B : Block) → Makes (change_so_far v v.log.entries) B → IsSized v v.log.entries B

-- SO ITS CALL HAS ITS FACT
abbrev pub SimsAreFacts : Type 0
SimsAreFacts = (v : View) → Sim v v.log.entries → IsOver v → Fact v

-- ---- A TRANSACTION ENDS

-- the lane's lists after these operations of its call
abbrev pub lists_after : View → List Told → Transaction
lists_after v told = after_told told (idle no_pool (pending_of v.entries))

-- the operation ends the transaction of these lists: it aborts it, or commits its outermost level
abbrev pub EndsTransaction : Transaction → Ran → Type 0
EndsTransaction tx ran = (aborts ran ≡ true)
    ⊎ ((ran.operation ≡ Commit) × (ran.reply ≡ None) × (tx.level ≡ 1))

-- the call began with `begin`, and this operation, told last, ends its transaction
pub record EndsCall (v : View) (earlier : List Told) (ran : Ran) : Type 0 where
  pub begun : is_begun v.call ≡ true
  pub call : v.call ≡ earlier ++ told_by ran ∷ []
  pub ends : EndsTransaction (lists_after v earlier) ran

-- NO TRANSACTION IS AT WORK THEN, whatever its log has
abbrev pub TransactionsEnd : Type 0
TransactionsEnd = (v : View) (earlier : List Told) (ran : Ran) → EndsCall v earlier ran
    → is_working (lists_of v).stage ≡ false

-- IT IS OVER where its log has no entries: it made and freed no block and sets no word, and what it
-- recorded is data of blocks that it found
abbrev pub CallsWithoutEntriesAreOver : Type 0
CallsWithoutEntriesAreOver = (v : View) (earlier : List Told) (ran : Ran) → EndsCall v earlier ran
    → v.log.entries ≡ [] → ((p : Place) → is_recorded v.log.records p ≡ true → IsChanged v p)
    → IsOver v

-- so it is where its log has nothing: all of it was rolled back, or it changed nothing
abbrev pub CallsWithoutLogAreOver : Type 0
CallsWithoutLogAreOver = (v : View) (earlier : List Told) (ran : Ran) → EndsCall v earlier ran
    → v.log.entries ≡ [] → v.log.records ≡ [] → IsOver v

-- SO THIS CALL HAS ITS FACT
abbrev pub CallsWithoutEntriesHaveFacts : Type 0
CallsWithoutEntriesHaveFacts = (v : View) → v.log.entries ≡ [] → Sim v [] → IsOver v → Fact v

-- so has a call that is rolled back
abbrev pub RolledBackCallsHaveFacts : Type 0
RolledBackCallsHaveFacts = (v next : View) (entries : List Entry) (root : Option ℕ) (ran : Ran)
    → Sim v entries → Tells v next ran → MayTell v → RollsBack v next ran.operation
    → IsRolledBack v entries next root ran
    → is_begun next.call ≡ true → next.log.entries ≡ [] → Fact next

-- and one whose outermost level is committed, without entries
abbrev pub CommittedCallsHaveFacts : Type 0
CommittedCallsHaveFacts = (v next : View) (root : Option ℕ) (ran : Ran)
    → Sim v [] → Tells v next ran → MayTell v
    → ((kept : Bool) → Grows v (is_kept_by ran.operation kept) next kept)
    → IsCommit v [] next [] root ran → (lists_of v).level ≡ 1
    → is_begun next.call ≡ true → next.log.entries ≡ []
    → ((p : Place) → is_recorded next.log.records p ≡ true → IsChanged next p) → Fact next
