use Rattle.std.proofs.Common.{◌≡◌, ◌*◌, None}
use Rattle.std.specs.List.{find, flat_map, range_with_len}
use Rattle.pm_image.specs.Logs.{covers, records}
use Rattle.pm_image.proofs.recovering.undone.Given as goal

abbrev pub invariant-loop-lane : goal.invariant-loop-lane
invariant-loop-lane l = find (λ u. covers u (8 * l.word)) (flat_map (records l.image) (range_with_len 0 l.lane)) ≡ None
