use Rattle.std.proofs.Common.{◌≡◌, ◌+◌, get_or, eqb, true}
use Rattle.std.specs.List.{list_all, range_with_len}
use Rattle.pm_image.proofs.chunks.are_zero_behind.Given as goal

abbrev pub invariant-loop-behind : goal.invariant-loop-behind
invariant-loop-behind l = list_all (λ k. eqb (get_or l.words (l.at + 1 + k) 0) 0) (range_with_len 0 l.behind) ≡ true
