use Rattle.std.proofs.Common.{refl}
use Rattle.pm_shared.proofs.TestLanes.{bare}
use Rattle.pm_lane_bench.proofs.pool.beginning.Goals as goal

pub returns : goal.returns
returns c = (
  bare _ c.in_ok-words.ensures c.in_ok-shape.ensures.lanes c.in_ok-shape.ensures.zones refl
      (c.in_ok-vec.ensures.items_if_clones_equal (λ y e. e)) (c.in_ok-vec-2.ensures.items_if_clones_equal (λ y e. e)),
  refl,
  c.in_ok-shape.ensures.lanes,
  refl,
)
