use Rattle.std.proofs.Common.{◌≡◌, ◌||◌, false, All, take}
use Rattle.std.specs.List.{list_any}
use Rattle.solo_crash.specs.CallBlocks.{CallBlocks as Call, is_at}
use Rattle.solo_made.specs.Made.{ListsBlocks}
use Rattle.solo_model.specs.Bytes.{is_among}
use Rattle.solo_pending.specs.declared.actions.SetAction.{SetAction}
use Rattle.solo_transaction.proofs.publish_checks.check_left.Given as goal

-- the objects of the first so many actions are not gone
abbrev pub invariant-loop-action : goal.invariant-loop-action
invariant-loop-action l = (call : Call) → ListsBlocks l.blocks call → All (λ (a : SetAction). (is_among call.freed a.id.off || list_any (is_at a.id.off) call.dropped) ≡ false) (take l.action-index l.actions)
