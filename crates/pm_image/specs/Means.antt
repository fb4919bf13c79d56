-- What an image means: its pool, or its first fault (docs/FORMAT.md, "Faults"; docs/MODEL.md, "What an image says").
use Rattle.std.specs.Prelude.{◌≡◌, ℕ, ◌*◌, ◌≤◌, ◌==◌, if◌then◌else◌, List, length, take, Option, None, Some, Result, Err, ◌⊎◌}
use Rattle.std.specs.Option.{option_or}
use Rattle.pm_layout.specs.Layout.{IsShape, pool_size}
use Rattle.pm_header.specs.Pairs.{IsHeaderIn}
use Rattle.pm_header.specs.Faults.{IsFault}
use Rattle.pm_header.specs.declared.fault.HeaderFault.{HeaderFault}
use Rattle.pm_header.specs.declared.header.Header.{Header}
use Rattle.pm_objects.specs.declared.pool.PoolView.{PoolView}
use Rattle.pm_image.specs.declared.fault.ImageFault.{ImageFault}
use Rattle.pm_image.specs.declared.fault.ImageFault.TheVariants as fault
use Rattle.pm_image.specs.declared.fault.MeansFault.{MeansFault}
use Rattle.pm_image.specs.declared.fault.MeansFault.TheVariants.{Memory}
use Rattle.pm_image.specs.Logs.{recovered_at}
use Rattle.pm_image.specs.Blocks.{blocks}
use Rattle.pm_image.specs.Contents.{objects_in}
use Rattle.pm_image.specs.LogFaults.{log_fault}
use Rattle.pm_image.specs.HeapFaults.{heap_fault}

-- the image has the length of a pool of so many lanes and zones
pub record HasShape (image : List ℕ) (lanes zones : ℕ) : Type 0 where
  pub shape : IsShape lanes zones
  pub size : pool_size lanes zones ≡ 8 * length image

-- the words of its header page
abbrev pub page : List ℕ → List ℕ
page image = take 512 image

-- it has such a length, and its header page spells this header
pub record HasHeader (image : List ℕ) (lanes zones : ℕ) (header : Header) : Type 0 where
  pub has_shape : HasShape image lanes zones
  pub header_in : IsHeaderIn (page image) header

-- the header is that of a pool of this shape
pub record IsHeaderOf (lanes zones : ℕ) (header : Header) : Type 0 where
  pub of_lanes : header.lanes ≡ lanes
  pub of_zones : header.zones ≡ zones
  pub of_bytes : header.bytes ≡ pool_size lanes zones
  pub has_id : 1 ≤ header.id

-- the first fault behind the header's: of the logs, else of the heap in recovered words
abbrev pub inner_fault : List ℕ → ℕ → ℕ → Option ImageFault
inner_fault image lanes zones = option_or (log_fault image lanes zones) (heap_fault (recovered_at image lanes) lanes zones)

-- the pool that recovered words hold
abbrev pub pool_in : (ℕ → ℕ) → ℕ → ℕ → Header → PoolView
pool_in w lanes zones header = record {
  id = header.id;
  name = header.name;
  lanes = lanes;
  zones = zones;
  objects = objects_in w (blocks w lanes zones);
  root = if w 64 == 0 then None else Some (w 64);
}

-- the image has no fault, and this is its pool
pub record IsMeaning (image : List ℕ) (pool : PoolView) : Type 0 where
  pub lanes : ℕ
  pub zones : ℕ
  pub header : Header
  pub has_header : HasHeader image lanes zones header
  pub fits : IsHeaderOf lanes zones header
  pub no_fault : inner_fault image lanes zones ≡ None
  pub is_pool : pool ≡ pool_in (recovered_at image lanes) lanes zones header

-- the image has a good header of its shape, and behind it this is the first fault
pub record HasInnerFault (image : List ℕ) (found : ImageFault) : Type 0 where
  pub lanes : ℕ
  pub zones : ℕ
  pub header : Header
  pub has_header : HasHeader image lanes zones header
  pub fits : IsHeaderOf lanes zones header
  pub is_fault : inner_fault image lanes zones ≡ Some found

-- the image has no pool's length, which its fault tells
pub record HasNoLength (image : List ℕ) (found : ImageFault) : Type 0 where
  pub no_shape : (lanes zones : ℕ) → ¬ HasShape image lanes zones
  pub is_size : found ≡ fault.Size (8 * length image)

-- the image has a pool's length, and its header page has a fault
pub record HasBadPage (image : List ℕ) (found : ImageFault) : Type 0 where
  pub lanes : ℕ
  pub zones : ℕ
  pub has_shape : HasShape image lanes zones
  pub page_fault : HeaderFault
  pub is_page_fault : IsFault (page image) page_fault
  pub is_header : found ≡ fault.Header page_fault

-- the header page has a header, which is not that of a pool of this length
pub record HasOtherShape (image : List ℕ) (found : ImageFault) : Type 0 where
  pub lanes : ℕ
  pub zones : ℕ
  pub header : Header
  pub has_header : HasHeader image lanes zones header
  pub misfits : ¬ IsHeaderOf lanes zones header
  pub is_shape : found ≡ fault.Shape

-- this is the first fault of the image: of its length, of its header page, of its header, or of what is behind it
abbrev pub IsImageFault : List ℕ → ImageFault → Type 0
IsImageFault image found = HasNoLength image found ⊎ HasBadPage image found ⊎ HasOtherShape image found ⊎ HasInnerFault image found

-- the answer is this one, unless there was no memory for it
abbrev pub IsUnlessNoMemory : Result PoolView MeansFault → Result PoolView MeansFault → Type 0
IsUnlessNoMemory result wanted = (result ≡ wanted) ⊎ (result ≡ Err Memory)
