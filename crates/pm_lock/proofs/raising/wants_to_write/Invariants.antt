use Rattle.std.proofs.Common.{◌≡◌, false, ◌&&◌, take}
use Rattle.std.specs.List.{list_any}
use Rattle.pm_objects.specs.declared.calls.Want.{Want}
use Rattle.pm_lock.specs.Objects.{line_of}
use Rattle.pm_lock.specs.Wants.{is_at_line}
use Rattle.pm_lock.proofs.raising.wants_to_write.Given as goal

-- none of the first so many is wanted for writing there
abbrev pub invariant-loop-want : goal.invariant-loop-want
invariant-loop-want l = list_any (λ (want : Want). want.write && is_at_line (line_of l.shape l.pool want.id) l.line) (take l.want-index l.wants) ≡ false
