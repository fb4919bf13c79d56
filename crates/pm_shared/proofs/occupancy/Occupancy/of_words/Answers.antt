use Rattle.std.proofs.Common.{◌≡◌, nat_lt, true, false}
use Rattle.std.proofs.lemmas.Bool.{and_parts, both_ways, ltb-true}
use Rattle.pm_layout.specs.Chunks.{chunks_of}
use Rattle.pm_view.specs.Places.{Block, Small, Big, Root}
use Rattle.pm_world.specs.Lanes.{is_occupancy}
use Rattle.pm_world.specs.Memory.{occupancy_bit}
use Rattle.pm_world.specs.Opens.{takes}
use Rattle.std.proofs.Common.{slice_index, refl}
use Rattle.pm_shared.specs.Openings.{pool_opening}
use Rattle.pm_shared.proofs.occupancy.Occupancy.of_words.Goals as goal

pub returns : goal.returns
returns c lanes = record { pages = c.in_ok-runs.ensures.count; zone_count = c.in_ok-zones.ensures.count; taken = taken }
  where
    taken : (a : Block) → is_occupancy c.args.shape a ≡ true
        → occupancy_bit c.args.shape (slice_index c.in_ok-runs.runs.items) (slice_index c.in_ok-zones.zones.items) a ≡ takes (pool_opening c.args.shape lanes c.args.words.now) a
    taken (Small k i) h = let t = and_parts (nat_lt k (chunks_of c.args.shape)) (nat_lt i 64) h in c.in_ok-runs.ensures.bits lanes k i (ltb-true k (chunks_of c.args.shape) t.0) (ltb-true i 64 t.1)
    taken (Big k) h = c.in_ok-zones.ensures.bits lanes k (ltb-true k (chunks_of c.args.shape) h)
    taken Root h = absurd (both_ways false refl h)
