-- WHERE THE WORDS OF THE TABLE COME FROM: lawful steps of the lanes led to them from the moment in
-- which the lanes begin.
use Rattle.std.specs.Prelude.{◌≡◌, ℕ, List, slice_index, None}
use Rattle.pm_image.specs.HeapFaults.{heap_fault}
use Rattle.pm_world.specs.Memory.{Memory, PoolWord}
use Rattle.pm_world.specs.Opens.{IsStart, IsTaken, past_before}
use Rattle.pm_world.specs.Runs.{IsRun, IsWorld, LaneStep, Moment}
use Rattle.pm_world.specs.Sizes.{ObjectsFit}
use Rattle.pm_world.specs.World.{Opening, Views, Past}

abbrev pub moment : Memory → Views → Past → Moment
moment mem views past = record { mem = mem; views = views; past = past }

-- LANES BEGIN at this moment, with these views: no step was made and no call is in its history, its
-- pool's words are the opening's, and its occupancy words are what these take; of the heap nothing
-- is wrong, and each object fits its block
pub record Begins (o : Opening) (first : Views) (m : Moment) : Type 0 where
  pub world : IsWorld o m
  pub start : IsStart o m.mem (λ k. (first k).fixed)
  pub views_are : m.views ≡ first
  pub past_is : m.past ≡ past_before o first
  pub no_call : m.past.length ≡ 0
  pub words_are : (w : ℕ) → m.mem (PoolWord w) ≡ slice_index o.words w
  pub taken : IsTaken o m.mem
  pub whole : heap_fault (slice_index o.words) o.shape.lanes o.shape.zones ≡ None
  pub sizes : ObjectsFit o m.past

-- THE RUN SO FAR: from a moment in which lanes begin with these views, lawful steps of theirs, in
-- whatever order they interleaved, lead to this moment
pub record HasRun (o : Opening) (first : Views) (now : Moment) : Type 0 where
  pub begun : Moment
  pub begins : Begins o first begun
  pub turns : List LaneStep
  pub run : IsRun o begun turns now
