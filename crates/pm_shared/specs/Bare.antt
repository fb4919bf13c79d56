-- A POOL WITHOUT OBJECTS, as lanes may begin on it.
use Rattle.std.specs.Prelude.{◌≡◌, ◌/◌, length, slice_index}
use Rattle.pm_layout.specs.Areas.{page_words}
use Rattle.pm_layout.specs.Chunks.{words_of}
use Rattle.pm_world.specs.Bare.{IsBare, IsUntaken}
use Rattle.pm_shared.specs.declared.rule.Beginning.{Beginning}
use Rattle.pm_shared.specs.Openings.{opening_of}

pub record BeginsBare (b : Beginning) : Type 0 where
  pub opening : IsBare (opening_of b)
  pub untaken : IsUntaken b.shape (slice_index b.runs.items) (slice_index b.zones.items)
  pub runs : length b.runs.items ≡ words_of b.shape / page_words
  pub zones : length b.zones.items ≡ b.shape.zones
