-- The facts that are printed of an image: who the pool is, what shape it has, and how many objects, runs, sealed lanes and valid undo records
-- it has: docs/COMMANDS.md, "info".
use Rattle.std.specs.Prelude.{◌≡◌, ℕ, ◌*◌, ◌≤◌, List, ◌++◌, length, slice_index, codes, sum_by, count_by, Bool, true, false, Option, None, Some, Result, Ok, Err, ◌⊎◌}
use Rattle.std.specs.Fmt.{decimal}
use Rattle.std.specs.List.{range_with_len}
use Rattle.pm_layout.specs.declared.class.Class.{Class}
use Rattle.pm_layout.specs.declared.class.Class.TheVariants.{Lines, Chunks}
use Rattle.pm_objects.specs.declared.pool.Object.{Object}
use Rattle.pm_objects.specs.declared.pool.PoolView.{PoolView}
use Rattle.pm_image.specs.Blocks.{class_in, descriptor_word}
use Rattle.pm_image.specs.Logs.{is_sealed, records, recovered_at}
use Rattle.pm_image.specs.Means.{IsImageFault, IsMeaning}
use Rattle.pm_image.specs.declared.fault.MeansFault.{MeansFault}
use Rattle.pm_image.specs.declared.fault.MeansFault.TheVariants.{Image, Memory}
use Rattle.pm_shelf.specs.Outside.{gained, GainedPart}
use Rattle.pm_shelf.specs.declared.sink.SinkFault.{SinkFault}
use Rattle.pm_shelf.specs.declared.sink.SinkFault.TheVariants as sink
use Rattle.pm_text.specs.Lines.{GainedLines}
use Rattle.pm_info.specs.declared.fault.TextFault.{TextFault}
use Rattle.pm_info.specs.declared.fault.TextFault.TheVariants as fault

-- the version that the header gives
abbrev pub version : List ℕ → ℕ
version image = slice_index image 1

-- the bytes of an object
abbrev pub size_of : ℕ × Object → ℕ
size_of entry = length entry.1.bytes

-- as many bytes as an object may have
abbrev pub HasFewBytes : ℕ × Object → Type 0
HasFewBytes entry = (1 ≤ length entry.1.bytes) × (length entry.1.bytes ≤ 262080)

-- the bytes of all objects together
abbrev pub data_bytes : PoolView → ℕ
data_bytes pool = sum_by size_of pool.objects

-- a chunk of this class is a run
abbrev pub is_run : Option Class → Bool
is_run None = false
is_run (Some (Lines lines)) = true
is_run (Some (Chunks chunks)) = false

-- the chunks of all zones that are runs by these words, which go by their number
abbrev pub runs_by : (ℕ → ℕ) → ℕ → ℕ → ℕ
runs_by w lanes zones = count_by (λ c. is_run (class_in (w (descriptor_word lanes c)))) (range_with_len 0 (64 * zones))

-- the runs by recovered descriptors
abbrev pub runs : List ℕ → PoolView → ℕ
runs image pool = runs_by (recovered_at image pool.lanes) pool.lanes pool.zones

-- the sealed ones of so many lanes
abbrev pub sealed_lanes : List ℕ → ℕ → ℕ
sealed_lanes image lanes = count_by (is_sealed image) (range_with_len 0 lanes)

-- the valid undo records of so many lanes: those of each lane's generation
abbrev pub valid_records : List ℕ → ℕ → ℕ
valid_records image lanes = sum_by (λ lane. length (records image lane)) (range_with_len 0 lanes)

-- a line: what is told, and its number
abbrev pub number_line : List ℕ → ℕ → List ℕ
number_line what number = what ++ (codes " " ++ (decimal number ++ codes "\n"))

abbrev pub name_line : List ℕ → List ℕ
name_line name = codes "layout " ++ (name ++ codes "\n")

-- the root's offset, or none
abbrev pub root_line : Option ℕ → List ℕ
root_line None = codes "root none\n"
root_line (Some off) = number_line (codes "root") off

-- who the pool is, what shape it has, and where its root is
unfoldable pub pool_lines : List ℕ → PoolView → List ℕ
pool_lines image pool =
    number_line (codes "version") (version image) ++ number_line (codes "pool") pool.id ++ name_line pool.name
    ++ number_line (codes "lanes") pool.lanes ++ number_line (codes "zones") pool.zones
    ++ number_line (codes "bytes") (8 * length image) ++ root_line pool.root

-- how many objects there are, and of how many bytes together
unfoldable pub object_lines : PoolView → List ℕ
object_lines pool = number_line (codes "objects") (length pool.objects) ++ number_line (codes "data") (data_bytes pool)

-- the runs, sealed lanes and valid undo records
unfoldable pub count_lines : List ℕ → PoolView → List ℕ
count_lines image pool =
    number_line (codes "runs") (runs image pool) ++ number_line (codes "sealed") (sealed_lanes image pool.lanes)
    ++ number_line (codes "records") (valid_records image pool.lanes)

-- all that is printed of an image that means this pool
abbrev pub info_text : List ℕ → PoolView → List ℕ
info_text image pool = pool_lines image pool ++ object_lines pool ++ count_lines image pool

-- the image means a pool, and this is the text of it
pub record IsInfoOf (image text : List ℕ) : Type 0 where
  pub pool : PoolView
  pub means : IsMeaning image pool
  pub is_text : text ≡ info_text image pool

-- a fault of the image is told as it is
abbrev pub text_fault : MeansFault → TextFault
text_fault (Image found) = fault.Image found
text_fault Memory = fault.Memory

-- so is one of the sink
abbrev pub put_fault : SinkFault → TextFault
put_fault sink.Failed = fault.Failed
put_fault sink.Memory = fault.Memory

-- what was put of the image's text, by how the call ended: all, nothing, a front, or whole lines
abbrev pub DidPut : List ℕ → Option (List ℕ) → Option (List ℕ) → Result (Unit {0}) TextFault → Type 0
DidPut image told after (Ok done) = (text : List ℕ) × IsInfoOf image text × (after ≡ gained told text)
DidPut image told after (Err (fault.Image found)) = IsImageFault image found × (after ≡ told)
DidPut image told after (Err fault.Failed) = (text : List ℕ) × IsInfoOf image text × GainedPart told after text
DidPut image told after (Err fault.Memory) = (after ≡ told) ⊎ ((text : List ℕ) × IsInfoOf image text × GainedLines told after text)
