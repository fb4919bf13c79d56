-- What a run on a pool begins from.
use Rattle.std.specs.Prelude.{ℕ, List, slice_index, Option}
use Rattle.solo_occupancy.specs.Words.{run_words_of, zone_words_of}
use Rattle.pm_objects.specs.declared.pool.PoolView.{PoolView}
use Rattle.solo_view.specs.View.{View, blank}
use Rattle.solo_world.specs.Opening.{Opening}

-- the words of a pool, as recovery leaves them
abbrev pub opening_of : PoolView → List ℕ → Opening
opening_of pool words = record { lanes = pool.lanes; zones = pool.zones; words = words }

-- the view of lane 0, alone, before its first step: it has the occupancy words that the pool's words give
abbrev pub first_view : PoolView → List ℕ → Option ℕ → View
first_view pool words stop = record blank {
  lanes = pool.lanes;
  zones = pool.zones;
  pool = pool.id;
  words = words;
  run_words = run_words_of (slice_index words) pool.lanes pool.zones;
  zone_words = zone_words_of (slice_index words) pool.lanes pool.zones;
  stop = stop;
}
