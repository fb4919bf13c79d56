-- A transaction that may make and free objects, begun (pmemobj_tx_begin(3)): docs/MODEL.md, "Transactions that make objects".
use Rattle.std.specs.Prelude.{◌≤◌, All, List}
use Rattle.solo_crash.specs.CallBlocks.{reserved_in}
use Rattle.solo_crash.specs.Reserving.{HasReserved}
use Rattle.solo_made.specs.Made.{BlockLists}
use Rattle.pm_objects.specs.declared.calls.Want.{Want}
use Rattle.solo_tx.specs.Begins.{HasBegun}
use Rattle.solo_undo.specs.Working.{FindsOpening}
use Rattle.solo_view.specs.View.{View}
use Rattle.solo_world.specs.Opening.{IsSound, Opening}
use Rattle.solo_world.specs.declared.lane.Lane.{Lane}
use Rattle.solo_transaction.specs.AtWork.{AreForPool, IsAtWorkWith, IsNotMaking, LiesInReserved}
use Rattle.solo_crash.specs.Reserved.{LiesFree}

-- the transaction is open as `solo_tx` has it; and whatever the pool was opened with, the lane is at work with these lists, which are of nothing made or freed, if they are for this pool
-- it makes no object now, and what is reserved and pending stands in its words, in blocks that it reserved
pub record HasBegunWith {M : Type 0} (at : M → View → Type 0) (lane : Lane M) (blocks : BlockLists) (v : View) (wants : List Want) : Type 0 where
  pub begun : HasBegun at lane v wants
  pub opens : (o : Opening) → IsSound o → o.zones ≤ 32 → FindsOpening o begun.view → AreForPool blocks begun.view → IsNotMaking begun.view → HasReserved begun.view → All (LiesInReserved begun.view) (reserved_in begun.view)
      → All (LiesFree begun.view) (reserved_in begun.view) → IsAtWorkWith o at lane blocks begun.view
