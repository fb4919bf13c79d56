use Rattle.std.proofs.Common.{◌≡◌, ◌*◌, None}
use Rattle.std.specs.List.{find, range_with_len}
use Rattle.pm_image.specs.LogFaults.{clashes}
use Rattle.pm_image.proofs.clashes.first_clash.Given as goal

abbrev pub invariant-loop-word : goal.invariant-loop-word
invariant-loop-word l = find (λ i. clashes l.image l.lanes (8 * i)) (range_with_len 0 l.word) ≡ None
