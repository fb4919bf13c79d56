use Rattle.std.proofs.Common.{ℕ, ◌<◌, ◌^◌, slice_index}
use Rattle.pm_lanes.proofs.opening.read_each.Given as goal

-- the first words were read
abbrev pub invariant-loop-i : goal.invariant-loop-i
invariant-loop-i l = (w : ℕ) → w < l.i → slice_index l.words w < 2 ^ 64
