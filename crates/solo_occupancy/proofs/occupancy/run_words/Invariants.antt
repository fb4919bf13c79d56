use Rattle.std.proofs.Common.{◌≡◌, ℕ, ◌<◌, length, slice_index}
use Rattle.solo_occupancy.specs.Words.{page_word_of}
use Rattle.solo_occupancy.proofs.occupancy.run_words.Given as goal

abbrev pub invariant-loop-page : goal.invariant-loop-page
invariant-loop-page l = record {
  count : length l.runs.items ≡ l.page;
  each : (page : ℕ) → page < l.page → slice_index l.runs.items page ≡ page_word_of (slice_index l.words) l.shape.lanes page;
}
