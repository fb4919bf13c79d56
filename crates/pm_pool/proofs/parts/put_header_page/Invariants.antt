use Rattle.std.proofs.Common.{◌≡◌, ℕ, ◌<◌, ◌≤◌, length, slice_index}
use Rattle.pm_pool.proofs.parts.put_header_page.Given as goal

abbrev pub invariant-loop-i : goal.invariant-loop-i
invariant-loop-i l = record {
  long : length l.image ≡ length l.initial.image;
  page : (k : ℕ) → k < l.i → slice_index l.image k ≡ slice_index l.page k;
  others : (k : ℕ) → l.i ≤ k → slice_index l.image k ≡ slice_index l.initial.image k;
}
