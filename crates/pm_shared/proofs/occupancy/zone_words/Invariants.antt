use Rattle.std.proofs.Common.{◌≡◌, ℕ, ◌/◌, ◌%◌, ◌<◌, ◌≤◌, nat_lt, false, length, slice_index}
use Rattle.std.specs.List.{list_any, range_with_len}
use Rattle.pm_view.specs.Places.{Big}
use Rattle.pm_world.specs.Memory.{bit}
use Rattle.pm_world.specs.Opens.{descriptor, takes}
use Rattle.pm_shared.specs.Openings.{pool_opening}
use Rattle.pm_shared.proofs.TakenChunks.{reaches}
use Rattle.pm_shared.proofs.occupancy.zone_words.Given as goal

-- the chunks so far have their bits, no later one has any, and the huge blocks so far reach up to the end
abbrev pub invariant-loop-chunk : goal.invariant-loop-chunk
invariant-loop-chunk l = record {
  count : length l.zones.items ≡ l.fn.shape.zones;
  reached : (c : ℕ) → list_any (reaches (descriptor (pool_opening l.fn.shape 0 l.words)) c) (range_with_len 0 l.chunk) ≡ nat_lt c l.end;
  before : (c : ℕ) → c < l.chunk → bit (slice_index l.zones.items (c / 64)) (c % 64) ≡ takes (pool_opening l.fn.shape 0 l.words) (Big c);
  after : (c : ℕ) → l.chunk ≤ c → bit (slice_index l.zones.items (c / 64)) (c % 64) ≡ false;
}
