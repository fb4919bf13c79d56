-- WHAT A POOL IS OPENED TO, and why it is not: docs/FORMAT.md, "Recovery".
use Rattle.std.specs.Prelude.{◌≡◌, ◌≢◌, ◌⊎◌, ℕ, ◌<◌, ◌≤◌, List, Option, Result, IsErrAnd, ⊤}
use Rattle.std.specs.Prelude.{slice_index, string_bytes}
use Rattle.pm_image.specs.Means.{IsImageFault, IsMeaning}
use Rattle.pm_layout.specs.Areas.{word_of_generation}
use Rattle.pm_layout.specs.declared.shape.Shape.{Shape}
use Rattle.pm_lanes.specs.declared.fault.OpenFault.{OpenFault}
use Rattle.pm_lanes.specs.declared.fault.OpenFault.TheVariants.{Image, Layout, Lanes, Memory}
use Rattle.pm_memory.specs.Solo.{Solo}
use Rattle.pm_objects.specs.declared.pool.PoolView.{PoolView}
use Rattle.pm_recover.specs.Recovery.{IsRecovered}
use Rattle.pm_view.specs.View.{idle}
use Rattle.pm_world.specs.SoloLanes.{StandsAs, only_lane}

-- the image means a pool of this layout name, and recovery makes these words of it; the shape and the
-- id are the pool's
pub record IsOpened (image layout words : List ℕ) (shape : Shape) (id : ℕ) : Type 0 where
  pub pool : PoolView
  pub means : IsMeaning image pool
  pub named : pool.name ≡ layout
  pub recovered : IsRecovered image words pool.lanes
  pub of_lanes : shape.lanes ≡ pool.lanes
  pub of_zones : shape.zones ≡ pool.zones
  pub of_id : id ≡ pool.id

-- so many lanes may run on the pool
abbrev pub MayRun : PoolView → ℕ → Type 0
MayRun pool lanes = (1 ≤ lanes) × (lanes ≤ pool.lanes)

-- ---- WHY A POOL IS NOT OPENED

-- the image means a pool of the layout name `kept`, and another was asked for
pub record HasOtherLayout (image asked kept : List ℕ) : Type 0 where
  pub pool : PoolView
  pub means : IsMeaning image pool
  pub named : pool.name ≡ kept
  pub other : kept ≢ asked

-- the image means a pool of this layout name and of `kept` lanes, and none was asked for, or more
pub record HasOtherLanes (image layout : List ℕ) (asked kept : ℕ) : Type 0 where
  pub pool : PoolView
  pub means : IsMeaning image pool
  pub named : pool.name ≡ layout
  pub of_lanes : pool.lanes ≡ kept
  pub other : (asked ≡ 0) ⊎ (kept < asked)

abbrev pub IsOpenCause : List ℕ → List ℕ → ℕ → OpenFault → Type 0
IsOpenCause image layout lanes (Image found) = IsImageFault image found
IsOpenCause image layout lanes (Layout asked kept) =
    (asked.now ≡ layout) × HasOtherLayout image layout (string_bytes kept)
IsOpenCause image layout lanes (Lanes asked kept) =
    (asked ≡ lanes) × HasOtherLanes image layout asked kept
IsOpenCause image layout lanes Memory = ⊤

-- ---- AND WHERE THERE IS A CAUSE IT IS TOLD, unless there is no memory

-- the one fault is told where the other applies
abbrev pub IsToldFor : OpenFault → OpenFault → Type 0
IsToldFor fault Memory = ⊤
IsToldFor (Image found) (Image told) = told ≡ found
IsToldFor (Layout asked kept) (Layout wanted told) = string_bytes told ≡ string_bytes kept
IsToldFor (Lanes asked kept) (Lanes wanted told) = told ≡ kept
IsToldFor fault told = ⊥

-- the opening is refused for this fault; of memory nothing is said
abbrev pub IsRefusedFor : {T : Type 0} → OpenFault → Result T (List ℕ × OpenFault) → Type 0
IsRefusedFor Memory result = ⊤
IsRefusedFor fault result = IsErrAnd result (λ e. IsToldFor fault e.1)

-- ---- LANE 0 BEFORE ITS FIRST CALL, with no other lane beside it, at the generation of its words
abbrev pub StandsOpened : Solo → Shape → ℕ → Option ℕ → Type 0
StandsOpened memory shape id stop = StandsAs memory
    (idle (only_lane shape id stop) (slice_index memory.words (word_of_generation shape 0)))
