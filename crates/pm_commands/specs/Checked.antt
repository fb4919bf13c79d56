-- What `check` finds, and what it writes: docs/COMMANDS.md, "check".
use Rattle.std.specs.Prelude.{◌≡◌, ◌⊎◌, ℕ, List, Option, Some, Bool, IsTrue}
use Rattle.pm_image.specs.declared.fault.ImageFault.{ImageFault}
use Rattle.pm_objects.specs.declared.pool.PoolView.{PoolView}
use Rattle.pm_options.specs.Words.{Check}
use Rattle.pm_shelf.specs.Outside.{Adds, Held, IsWhole, MayAddPart}
use Rattle.pm_commands.specs.Lines.{consistent_line, mended_lines}
use Rattle.pm_commands.specs.PoolFiles.{BytesFail, BytesMean, Mends, limit}
use Rattle.pm_commands.specs.declared.check_command.Finding.{Finding}
use Rattle.pm_commands.specs.declared.check_command.Finding.TheVariants as finding

-- the pool is to be mended under this name, and can be: this was its fault, and these are the bytes that it gets
pub record IsRepair (c : Check) (held : Option Held) (found : ImageFault) (name mended : List ℕ) : Type 0 where
  pub asked : c.repair ≡ Some name
  pub bytes : List ℕ
  pub whole : IsWhole held c.pool limit bytes
  pub mends : Mends bytes found mended

-- the pool has no fault
pub record IsConsistent (c : Check) (held after : Option Held) (text : List ℕ) : Type 0 where
  pub bytes : List ℕ
  pub whole : IsWhole held c.pool limit bytes
  pub pool : PoolView
  pub means : BytesMean bytes pool
  pub kept : after ≡ held
  pub told : text ≡ consistent_line

-- the pool was mended, and stands so under the new name
pub record IsRepaired (c : Check) (held after : Option Held) (text : List ℕ) : Type 0 where
  pub found : ImageFault
  pub name : List ℕ
  pub mended : List ℕ
  pub repair : IsRepair c held found name mended
  pub added : Adds held after name mended
  pub told : text ≡ mended_lines found

-- status 0 of `check`
abbrev pub IsChecked : Check → Option Held → Option Held → List ℕ → Type 0
IsChecked c held after text = IsConsistent c held after text ⊎ IsRepaired c held after text

-- the pool has this first fault, and is not to be mended, or can't be
pub record HasFaultLeft (c : Check) (held : Option Held) (found : ImageFault) : Type 0 where
  pub bytes : List ℕ
  pub whole : IsWhole held c.pool limit bytes
  pub fails : BytesFail bytes found
  pub unmended : (name mended : List ℕ) → c.repair ≡ Some name → ¬ Mends bytes found mended

-- the new name is as it was, or new with a front of the mended pool; every other name is as it was
pub record AddsPartOfMended (c : Check) (held after : Option Held) : Type 0 where
  pub found : ImageFault
  pub name : List ℕ
  pub mended : List ℕ
  pub repair : IsRepair c held found name mended
  pub part : MayAddPart held after name mended

-- the shelf is as it was, or has a part of a mended pool more
abbrev pub MayAddMended : Check → Option Held → Option Held → Type 0
MayAddMended c held after = (after ≡ held) ⊎ AddsPartOfMended c held after

-- what was found of the bytes, which may be mended where `repair` is true
abbrev pub IsFinding : List ℕ → Bool → Finding → Type 0
IsFinding bytes repair finding.Consistent = (pool : PoolView) × BytesMean bytes pool
IsFinding bytes repair (finding.Fault found) = BytesFail bytes found × ((mended : List ℕ) → IsTrue repair → ¬ Mends bytes found mended)
IsFinding bytes repair (finding.Mended found mended) = IsTrue repair × Mends bytes found mended.items
