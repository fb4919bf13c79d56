use Rattle.std.proofs.Common.{◌≡◌, ◌≤◌, count_by, take}
use Rattle.std.specs.List.{list_any}
use Rattle.solo_crash.specs.CallBlocks.{CallBlocks as Call, is_at}
use Rattle.solo_made.specs.Made.{ListsBlocks}
use Rattle.pm_objects.specs.declared.ids.Oid.{Oid}
use Rattle.solo_transaction.proofs.publishing.count_made.Given as goal

-- so many of the first were made
abbrev pub invariant-loop-id : goal.invariant-loop-id
invariant-loop-id l = ((call : Call) → ListsBlocks l.blocks call → l.made ≡ count_by (λ (id : Oid). list_any (is_at id.off) call.made) (take l.id-index l.ids)) × (l.made ≤ l.id-index)
