use Rattle.std.proofs.Common.{◌≢◌, All, take}
use Rattle.pm_objects.specs.declared.ids.Oid.{Oid}
use Rattle.solo_transaction.proofs.publishing.check_no_root.Given as goal

-- none of the first so many objects is the root
abbrev pub invariant-loop-id : goal.invariant-loop-id
invariant-loop-id g l = All (λ (id : Oid). l.root ≢ id.off) (take l.id-index l.ids)
