use Rattle.std.proofs.Common.{◌≡◌, ℕ, ◌/◌, ◌<◌, length, slice_index}
use Rattle.pm_layout.specs.Areas.{page_words}
use Rattle.pm_layout.specs.Chunks.{words_of, page_of_chunk}
use Rattle.pm_view.specs.Places.{Small}
use Rattle.pm_world.specs.Memory.{bit}
use Rattle.pm_world.specs.Opens.{takes}
use Rattle.pm_shared.specs.Openings.{pool_opening}
use Rattle.pm_shared.proofs.occupancy.run_words.Given as goal

-- the chunks so far have their words
abbrev pub invariant-loop-chunk : goal.invariant-loop-chunk
invariant-loop-chunk l = record {
  count : length l.runs.items ≡ words_of l.fn.shape / page_words;
  each : (c i : ℕ) → c < l.chunk → i < 64 → bit (slice_index l.runs.items (page_of_chunk l.fn.shape c)) i ≡ takes (pool_opening l.fn.shape 0 l.words) (Small c i);
}
