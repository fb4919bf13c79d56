use Rattle.std.proofs.Common.{◌≡◌, ◌*◌, None}
use Rattle.std.specs.List.{find, flat_map, range_with_len}
use Rattle.pm_image.specs.Logs.{covers}
use Rattle.pm_image.proofs.Finding.{slot_records}
use Rattle.pm_image.proofs.recovering.undone_by.Given as goal

abbrev pub invariant-loop-i : goal.invariant-loop-i
invariant-loop-i l = find (λ u. covers u (8 * l.word)) (flat_map (slot_records l.image l.lane) (range_with_len 0 l.i)) ≡ None
