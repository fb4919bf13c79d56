use Rattle.std.proofs.Common.{◌≡◌, ◌*◌, ◌≤◌, eqb, slice_index}
use Rattle.std.specs.List.{filter, filter_map, range_with_len}
use Rattle.pm_record.specs.Redo.{redo_of}
use Rattle.pm_image.specs.Logs.{entry_pair}
use Rattle.pm_image.specs.Steps.{made}
use Rattle.pm_image.proofs.recovering.redone_by.Given as goal

abbrev pub invariant-loop-i : goal.invariant-loop-i
invariant-loop-i l = (l.i-end ≤ 64) × (l.so_far ≡ made l.initial.so_far (filter (λ e. eqb e.place (8 * l.word)) (filter_map (λ k. redo_of (entry_pair l.image l.lane k)) (range_with_len 0 l.i))) (slice_index l.image l.word))
