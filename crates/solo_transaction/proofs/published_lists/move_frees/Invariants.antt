use Rattle.std.proofs.Common.{◌≡◌, All, length, take}
use Rattle.solo_crash.specs.CallBlocks.{CallBlocks as Call, with_all_freed}
use Rattle.solo_made.specs.Made.{ListsBlocks}
use Rattle.solo_transaction.specs.AtWork.{IsHeldFreed}
use Rattle.solo_transaction.proofs.published_lists.move_frees.Given as goal

-- the first so many are listed as freed, and what is listed so is held
abbrev pub invariant-loop-id : goal.invariant-loop-id
invariant-loop-id l =
    ((call : Call) → ListsBlocks l.fn.blocks call → ListsBlocks l.blocks (with_all_freed (take l.id-index l.ids) call))
    × (All (IsHeldFreed l.locks) l.fn.blocks.freed → All (IsHeldFreed l.locks) l.blocks.freed)
    × (length l.blocks.dropped ≡ length l.fn.blocks.dropped)
