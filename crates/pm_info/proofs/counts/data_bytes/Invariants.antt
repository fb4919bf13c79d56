use Rattle.std.proofs.Common.{◌≡◌, ◌*◌, ◌≤◌, take}
use Rattle.std.specs.List.{sum_by}
use Rattle.pm_info.specs.Facts.{size_of}
use Rattle.pm_info.proofs.counts.data_bytes.Given as goal

abbrev pub invariant-loop-object : goal.invariant-loop-object
invariant-loop-object l = (l.bytes ≡ sum_by size_of (take l.object-index l.objects)) × (l.bytes ≤ 262080 * l.object-index)
