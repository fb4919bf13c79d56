use Rattle.std.proofs.Common.{get_or, ◌≡◌, ◌≤◌}
use Rattle.std.specs.List.{count_by, range_with_len}
use Rattle.pm_image.specs.Blocks.{class_in, descriptor_word}
use Rattle.pm_info.specs.Facts.{is_run}
use Rattle.pm_info.proofs.counts.runs_in.Given as goal

abbrev pub invariant-loop-chunk : goal.invariant-loop-chunk
invariant-loop-chunk l =
    (l.count ≡ count_by (λ c. is_run (class_in (get_or l.words (descriptor_word l.lanes c) 0))) (range_with_len 0 l.chunk)) × (l.count ≤ l.chunk)
