-- LANES TOOK TURNS: lawful steps of all lanes, one after another, in whatever order they
-- interleaved, lead from the words that were opened to those that are left.
use Rattle.std.specs.Prelude.{◌≡◌, ℕ, ◌^◌, ◌<◌, List, length, slice_index}
use mathlib.Core.Option.{some}
use lib.ListN.{get_elem?}
use Rattle.pm_layout.specs.Chunks.{words_of}
use Rattle.pm_shared.specs.Closings.{Closes}
use Rattle.pm_shared.specs.declared.rule.Beginning.{Beginning}
use Rattle.pm_shared.specs.Openings.{fixed_of, idle_view, opening_of}
use Rattle.pm_view.specs.View.{View}
use Rattle.pm_world.specs.Memory.{PoolWord}
use Rattle.pm_world.specs.Opens.{IsStart, IsTaken, past_before}
use Rattle.pm_world.specs.Runs.{IsRun, LaneStep, Moment}
use Rattle.pm_lanes.specs.Opens.{IsOpened}

pub record TookTurns (b : Beginning) (back : List View) (words : List ℕ) : Type 0 where
  -- at first no lane runs yet: the memory holds the beginning's words, and what these take; each
  -- lane is idle, and the history is empty
  pub first : Moment
  pub start : IsStart (opening_of b) first.mem (fixed_of b)
  pub small : (w : ℕ) → slice_index b.words.items w < 2 ^ 64
  pub taken : IsTaken (opening_of b) first.mem
  pub views_were : first.views ≡ idle_view b
  pub past_was : first.past ≡ past_before (opening_of b) (idle_view b)
  -- each step is lawful
  pub turns : List LaneStep
  pub last : Moment
  pub run : IsRun (opening_of b) first turns last
  -- the words that are left, and what the lanes know that came back
  pub size : length words ≡ words_of b.shape
  pub words_are : (w : ℕ) → w < words_of b.shape → slice_index words w ≡ last.mem (PoolWord w)
  pub views_are : (n : ℕ) (v : View) → get_elem? back n ≡ some v
      → (v.fixed.lane < b.lanes) × (last.views v.fixed.lane ≡ v)

-- SO EACH MOMENT IS ONE OF A WORLD, and the laws of tables that closed speak of it, where the words
-- were opened
abbrev pub TurnsAreOfWorlds : Type 0
TurnsAreOfWorlds = (before layout words : List ℕ) (b : Beginning) (back : List View)
    → IsOpened before layout b.words.items b.shape b.pool → (took : TookTurns b back words)
    → (closed : Closes b back words) × (closed.last ≡ took.last)
    × (closed.run.turns ≡ took.turns)
