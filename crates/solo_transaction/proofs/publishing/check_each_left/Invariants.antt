use Rattle.std.proofs.Common.{◌≡◌, ◌||◌, false, All, take}
use Rattle.std.specs.List.{list_any}
use Rattle.solo_crash.specs.CallBlocks.{CallBlocks as Call, is_at}
use Rattle.solo_made.specs.Made.{ListsBlocks}
use Rattle.solo_model.specs.Bytes.{is_among}
use Rattle.pm_objects.specs.declared.ids.Oid.{Oid}
use Rattle.solo_transaction.proofs.publishing.check_each_left.Given as goal

-- the first so many objects are not gone
abbrev pub invariant-loop-id : goal.invariant-loop-id
invariant-loop-id l = (call : Call) → ListsBlocks l.blocks call → All (λ (id : Oid). (is_among call.freed id.off || list_any (is_at id.off) call.dropped) ≡ false) (take l.id-index l.ids)
