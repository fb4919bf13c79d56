-- The course of a world in which one lane makes steps, and what its history makes of the pool that the world began from.
use Rattle.std.specs.Prelude.{◌≡◌, ℕ, ◌<◌, Bool, false, Contains, List, [], ◌∷◌, length, slice_index, Some}
use Rattle.std.specs.List.{filter}
use Rattle.pm_header.specs.declared.header.Header.{Header}
use Rattle.pm_objects.specs.declared.pool.PoolView.{PoolView}
use Rattle.pm_image.specs.Means.{IsMeaning}
use Rattle.solo_model.specs.History.{opened}
use Rattle.solo_model.specs.Names.{Replays}
use Rattle.solo_view.specs.Steps.{Step}
use Rattle.solo_view.specs.Steps.Step.{Draw}
use Rattle.solo_view.specs.View.{View}
use Rattle.solo_view.specs.Views.{after, changes_heap}
use Rattle.solo_world.specs.Course.{log_after, decided_after}
use Rattle.solo_world.specs.Crash.{is_kept}
use Rattle.solo_world.specs.History.{Entry}
use Rattle.solo_world.specs.Laws.{with_view}
use Rattle.solo_world.specs.Lawful.{IsLawful}
use Rattle.solo_world.specs.Memory.{Memory}
use Rattle.solo_world.specs.Moves.{Moves}
use Rattle.solo_world.specs.Opening.{Opening, TellsOfBlocks}
use Rattle.solo_world.specs.Opens.{IsClean, IsFresh, IsOpened, IsOver, IsRested, IsStanding}
use Rattle.solo_world.specs.World.{Views}
use Rattle.solo_crash.specs.Pending.{acts_of, state_after}
use Rattle.solo_crash.specs.Held.{HoldsImage, HoldsPool}
use Rattle.solo_crash.specs.OpenCall.{IsBefore, MakesStep}

-- where a world stands: its memory, what its lanes see, its history, and which numbers are decided
pub record Moment : Type 0 where
  pub memory : Memory
  pub views : Views
  pub log : List Entry
  pub decided : ℕ → Bool

-- before the first step
abbrev pub beginning : Memory → Views → Moment
beginning memory views = record { memory = memory; views = views; log = []; decided = λ n. false }

-- a step of a lane, and the memory after it
pub record Move : Type 0 where
  pub step : Step
  pub memory : Memory

-- the moment after a step of lane k
abbrev pub moved : ℕ → Moment → Move → Moment
moved k m s = record {
  memory = s.memory;
  views = with_view m.views k (after (m.views k) s.step);
  log = log_after m.log (m.views k) s.step;
  decided = decided_after m.decided (m.views k) s.step;
}

-- the words tell of blocks, and of the pool's root, what the opening's do: within one world no call changes these
pub record TellsAsOpening (o : Opening) (w : ℕ → ℕ) : Type 0 where
  pub blocks : (i : ℕ) → TellsOfBlocks o i → w i ≡ slice_index o.words i
  pub root : w 64 ≡ slice_index o.words 64

-- the lane's call is a step of the plain model, whatever pool such words before it hold
abbrev pub IsModelStep : Opening → View → Type 0
IsModelStep o v = (w : ℕ → ℕ) (header : Header) (pool : PoolView) → TellsAsOpening o w → HoldsPool w v.lanes v.zones header pool → v.pool ≡ header.id → IsBefore v w
    → MakesStep v w header pool

-- what a lane owes for a step besides what is lawful: a call that draws is a step of the plain model, and publishes no change of a block
abbrev pub IsPaid : Opening → View → Step → Type 0
IsPaid o v (Draw n) = IsModelStep o v × (changes_heap v ≡ false)
IsPaid o v s = Unit {0}

-- lane k makes the step
pub record Makes (o : Opening) (k : ℕ) (m : Moment) (s : Move) : Type 0 where
  pub lawful : IsLawful (m.views k) s.step
  pub moves : Moves k s.step m.memory s.memory
  pub paid : IsPaid o (m.views k) s.step

-- in the world that began so, lane k makes these steps, one after another, from the one moment to the other
unfoldable pub IsCourse : Opening → ℕ → Moment → List Move → Moment → Type 0
IsCourse o k m [] last = last ≡ m
IsCourse o k m (s ∷ steps) last = Makes o k m s × IsCourse o k (moved k m s) steps last

-- a world begins over an image that holds a pool, with each log clean and no lane having made a step; lane k is of this pool
pub record Begins (o : Opening) (memory : Memory) (views : Views) (k : ℕ) (header : Header) (pool : PoolView) : Type 0 where
  pub holds : HoldsImage o.words o.lanes o.zones header pool
  pub clean : (j : ℕ) → j < o.lanes → IsClean o j
  pub fresh : (j : ℕ) → j < o.lanes → IsFresh o j (views j)
  pub opens : IsOpened o memory
  pub in_lanes : k < o.lanes
  pub of_pool : (views k).pool ≡ header.id

-- A world begins anew between calls, at this moment: its words hold a pool, to which the history so far leads, all of it lane k's; with each log clean, no
-- lane in a call, and lane k of this pool
pub record BeginsBetween (o : Opening) (k : ℕ) (header : Header) (pool : PoolView) (m : Moment) : Type 0 where
  pub now : PoolView
  pub holds : HoldsImage o.words o.lanes o.zones header now
  pub clean : (j : ℕ) → j < o.lanes → IsClean o j
  pub rested : (j : ℕ) → j < o.lanes → IsRested o j (m.views j)
  pub over : IsOver o m.views m.log m.decided
  pub stands : IsStanding o m.memory m.views m.log
  pub in_lanes : k < o.lanes
  pub of_pool : (m.views k).pool ≡ header.id
  pub alone : (e : Entry) → Contains m.log e → e.lane ≡ k
  pub newest : (n : ℕ) → (m.views k).number ≡ Some n → n ≡ length m.log
  pub replays : Replays (opened pool) (acts_of m.log) (state_after now m.log)

-- the entries that the image does not lose, in order
abbrev pub kept_entries : Opening → Moment → List ℕ → List Entry
kept_entries o m image = filter (λ (e : Entry). is_kept o m.views image e.number) m.log

-- these entries, one whole call after another, lead from the one pool to another, and that one the words hold
pub record HoldsReplay (w : ℕ → ℕ) (lanes zones : ℕ) (header : Header) (pool : PoolView) (entries : List Entry) : Type 0 where
  pub last : PoolView
  pub replays : Replays (opened pool) (acts_of entries) (state_after last entries)
  pub holds : HoldsPool w lanes zones header last

-- these entries, one whole call after another, lead from the one pool to another, and that one the image means
pub record MeansReplay (image : List ℕ) (pool : PoolView) (entries : List Entry) : Type 0 where
  pub last : PoolView
  pub replays : Replays (opened pool) (acts_of entries) (state_after last entries)
  pub means : IsMeaning image last
