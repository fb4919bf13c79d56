use Rattle.std.proofs.Common.{◌≡◌, ℕ, ◌<◌, length, slice_index}
use Rattle.solo_occupancy.specs.Words.{zone_word_of}
use Rattle.solo_occupancy.proofs.occupancy.zone_words.Given as goal

abbrev pub invariant-loop-zone : goal.invariant-loop-zone
invariant-loop-zone l = record {
  count : length l.zones.items ≡ l.zone;
  each : (zone : ℕ) → zone < l.zone → slice_index l.zones.items zone ≡ zone_word_of (slice_index l.words) l.shape.lanes l.shape.zones zone;
}
