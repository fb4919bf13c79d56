use Rattle.std.proofs.Common.{◌≡◌, ◌/◌, ◌%◌, None}
use Rattle.std.specs.List.{find, range_with_len}
use Rattle.pm_image.specs.LogFaults.{bad_entry}
use Rattle.pm_image.proofs.redo_faults.first_bad_entry.Given as goal

abbrev pub invariant-loop-n : goal.invariant-loop-n
invariant-loop-n l = find (λ n. bad_entry l.image l.shape.lanes l.shape.zones (n / 64) (n % 64)) (range_with_len 0 l.n) ≡ None
