use Rattle.std.proofs.Common.{◌≡◌, ℕ, ◌<◌, None}
use Rattle.pm_image.specs.Steps.{valid_record}
use Rattle.pm_reopen.proofs.generation.has_record.Given as goal

abbrev pub invariant-loop-slot : goal.invariant-loop-slot
invariant-loop-slot l = (slot : ℕ) → slot < l.slot → valid_record l.image l.lane slot ≡ None
