-- Which images are opened, and why others are not.
use Rattle.std.specs.Prelude.{◌≡◌, ◌≢◌, ◌<◌, ◌≤◌, ℕ, List, ⊤}
use Rattle.pm_image.specs.Means.{IsImageFault, IsMeaning}
use Rattle.pm_objects.specs.declared.pool.PoolView.{PoolView}
use Rattle.solo_exec.specs.declared.outcome.OpenFault.{OpenFault}
use Rattle.solo_exec.specs.declared.outcome.OpenFault.TheVariants.{Image, Layout, Lanes, Memory}

-- lanes run one alone so far, whatever the pool has
abbrev pub lanes_kept : ℕ
lanes_kept = 1

-- the image means a pool of this layout name, and so many lanes may run on it
pub record IsOpened (image layout : List ℕ) (lanes : ℕ) : Type 0 where
  pub pool : PoolView
  pub means : IsMeaning image pool
  pub named : pool.name ≡ layout
  pub few : lanes ≤ lanes_kept

-- the image means a pool of this layout name, and another was asked for
pub record IsOfOtherLayout (image layout kept : List ℕ) : Type 0 where
  pub pool : PoolView
  pub means : IsMeaning image pool
  pub named : pool.name ≡ kept
  pub other : kept ≢ layout

-- the image means a pool of this layout name, and more lanes were asked for than run on it
pub record HasFewerLanes (image layout : List ℕ) (asked kept : ℕ) : Type 0 where
  pub pool : PoolView
  pub means : IsMeaning image pool
  pub named : pool.name ≡ layout
  pub kept_so : kept ≡ lanes_kept
  pub more : kept < asked

abbrev pub IsOpenCause : List ℕ → List ℕ → ℕ → OpenFault → Type 0
IsOpenCause image layout lanes (Image found) = IsImageFault image found
IsOpenCause image layout lanes (Layout kept) = IsOfOtherLayout image layout kept
IsOpenCause image layout lanes (Lanes asked kept) = (asked ≡ lanes) × HasFewerLanes image layout asked kept
IsOpenCause image layout lanes (Memory e) = ⊤
