use Rattle.std.proofs.Common.{◌≡◌, ◌/◌, ◌%◌, None}
use Rattle.std.specs.List.{find, range_with_len}
use Rattle.pm_image.specs.LogFaults.{bad_slot}
use Rattle.pm_image.proofs.log_faults.first_bad_slot.Given as goal

abbrev pub invariant-loop-n : goal.invariant-loop-n
invariant-loop-n l = find (λ n. bad_slot l.image l.shape.lanes l.shape.zones (n / 64) (n % 64)) (range_with_len 0 l.n) ≡ None
