use Rattle.std.proofs.Common.{◌≡◌, ◌≢◌, ℕ, ◌<◌, ◌/◌, length, slice_index}
use Rattle.pm_layout.specs.Layout.{lane_place}
use Rattle.pm_pool.proofs.parts.put_generations.Given as goal

abbrev pub invariant-loop-lane : goal.invariant-loop-lane
invariant-loop-lane l = record {
  long : length l.image ≡ length l.initial.image;
  generations : (k : ℕ) → k < l.lane → slice_index l.image (lane_place k / 8) ≡ 1;
  others : (i : ℕ) → ((k : ℕ) → k < l.shape.lanes → i ≢ lane_place k / 8) → slice_index l.image i ≡ slice_index l.initial.image i;
}
