use Rattle.std.proofs.Common.{◌≡◌, ◌+◌, List, length, map, take}
use Rattle.solo_crash.specs.CallBlocks.{CallBlocks as Call, with_all_made}
use Rattle.solo_made.specs.Made.{ListsBlocks}
use Rattle.solo_model.specs.Actions.{Reservation}
use Rattle.solo_pending.specs.AllPending.{reserved_as}
use Rattle.solo_transaction.proofs.published_lists.move_reserved.Given as goal

-- the first so many are listed as made
abbrev pub invariant-loop-one : goal.invariant-loop-one
invariant-loop-one l =
    ((call : Call) (rs : List Reservation) → l.reserved ≡ map reserved_as rs → ListsBlocks l.fn.blocks call → ListsBlocks l.blocks (with_all_made (take l.one-index rs) call))
    × (l.blocks ≡ record l.fn.blocks { made = l.blocks.made })
    × (length l.blocks.made ≡ length l.fn.blocks.made + l.one-index)
