-- The commit of a transaction that may have made and freed objects (pmemobj_tx_commit(3)): what it needs, and what it leaves: docs/MODEL.md, "Transactions that
-- make objects".
use Rattle.std.specs.Prelude.{◌≡◌, ◌+◌, ◌≤◌, ℕ, All, None, length, ◌++◌}
use Rattle.solo_crash.specs.Pending.{published_in}
use Rattle.solo_made.specs.Entries.{IsBlockIn, block_freed, block_made, entries_of}
use Rattle.solo_made.specs.Made.{BlockLists}
use Rattle.solo_made.specs.declared.objects.Freed.{Freed}
use Rattle.solo_made.specs.declared.objects.Made.{Made}
use Rattle.pm_objects.specs.declared.calls.Operation.TheVariants.{Commit}
use Rattle.solo_redo.specs.Entering.{EntersHeap}
use Rattle.solo_tx.specs.Ending.{IsAfterCall, IsOver, drawn_more, told_more}
use Rattle.solo_tx.specs.Sequences.{commits}
use Rattle.solo_view.specs.View.{View}
use Rattle.solo_view.specs.Views.{after_all}
use Rattle.solo_world.specs.Opening.{Opening}
use Rattle.solo_world.specs.Sequences.{Ready, Sequence}
use Rattle.solo_world.specs.declared.lane.Lane.{Lane}
use Rattle.solo_transaction.specs.AtWork.{IsAtWorkWith}

-- the redo entries of the objects' blocks may be entered: each is of a block that the pool has room for, and of a word that the lane may enter
pub record MayPublishBlocks (v : View) (blocks : BlockLists) : Type 0 where
  pub freed : All (λ (f : Freed). IsBlockIn v.lanes v.zones (block_freed f)) blocks.freed
  pub made : All (λ (m : Made). IsBlockIn v.lanes v.zones (block_made m)) blocks.made
  pub enters : All (EntersHeap v) (entries_of v.lanes blocks)
  pub few : length (published_in v) + (length blocks.freed + length blocks.made) ≤ 63

-- the lane is at work with these lists as some view, whatever it was opened with, and may enter their entries there
abbrev pub MayCommitWith : {M : Type 0} → (M → View → Type 0) → Lane M → BlockLists → Type 0
MayCommitWith at lane blocks = (o : Opening) × ((v : View) × (IsAtWorkWith o at lane blocks v × MayPublishBlocks v blocks))

-- the commit of the lane's call by this number, from a pool of so many lanes: it performs the entries of the published actions, and behind them those of the
-- objects' blocks
abbrev pub commits_with : {M : Type 0} → Lane M → BlockLists → ℕ → ℕ → Sequence
commits_with lane blocks lanes n = commits lane.records.items (lane.entries.items ++ entries_of lanes blocks) n

-- the steps were made, and then no call is open: it came to the commit, and its entry is the last. Whether what they draw is an ended call's is not said
pub record HasCommitted {M : Type 0} (at : M → View → Type 0) (lane : Lane M) (v : View) (steps : Sequence) : Type 0 where
  pub ready : Ready v (steps v)
  pub behind : IsAfterCall at lane (after_all v (steps v))
  pub over : IsOver v (after_all v (steps v)) lane.last
  pub told : (after_all v (steps v)).call ≡ told_more v.call Commit None
  pub entries : (after_all v (steps v)).entries ≡ drawn_more v.entries lane.last (after_all v (steps v)).call
