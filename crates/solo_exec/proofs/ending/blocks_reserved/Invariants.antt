use Rattle.std.proofs.Common.{◌≡◌, map, take}
use Rattle.solo_crash.specs.CallBlocks.{block_of}
use Rattle.solo_pending.specs.AllPending.{object_of}
use Rattle.solo_exec.proofs.ending.blocks_reserved.Given as goal

-- the blocks of the first so many
abbrev pub invariant-loop-reserved : goal.invariant-loop-reserved
invariant-loop-reserved l = l.all.items ≡ map block_of (map object_of (take l.reserved-index l.pending.reserved.items))
