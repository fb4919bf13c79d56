use Rattle.std.proofs.Common.{◌≡◌, ◌*◌, None, slice_index}
use Rattle.pm_image.specs.Logs.{entries_for}
use Rattle.pm_image.specs.Steps.{made}
use Rattle.pm_image.proofs.recovering.redone.Given as goal

abbrev pub invariant-loop-lane : goal.invariant-loop-lane
invariant-loop-lane l = l.so_far ≡ made None (entries_for l.image l.lane (8 * l.word)) (slice_index l.image l.word)
