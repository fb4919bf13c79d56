-- What is wrong with a header page, each fault where no earlier one applies: docs/FORMAT.md, "Header page".
use Rattle.std.specs.Prelude.{◌≡◌, ◌≢◌, ℕ, List, ◌⊎◌}
use Rattle.pm_header.specs.Pairs.{main_pair, copy_pair, HasMagic, IsGood, version_of}
use Rattle.pm_header.specs.declared.fault.HeaderFault.{HeaderFault}
use Rattle.pm_header.specs.declared.fault.HeaderFault.TheVariants.{NotPool, HeaderMain, HeaderCopy, HeaderBoth, HeaderDiffer, Version}

-- this is the fault of a page with these two pairs
abbrev pub IsFaultOf : List ℕ → List ℕ → HeaderFault → Type 0
IsFaultOf main copy NotPool = ¬ HasMagic main × ¬ HasMagic copy
IsFaultOf main copy HeaderMain = ¬ IsGood main × IsGood copy
IsFaultOf main copy HeaderCopy = IsGood main × ¬ IsGood copy
IsFaultOf main copy HeaderBoth = ¬ IsGood main × ¬ IsGood copy × (HasMagic main ⊎ HasMagic copy)
IsFaultOf main copy HeaderDiffer = IsGood main × IsGood copy × (main ≢ copy)
IsFaultOf main copy (Version version) = IsGood main × (main ≡ copy) × (version_of main ≡ version) × (version ≢ 1)

-- this is the fault of the page
abbrev pub IsFault : List ℕ → HeaderFault → Type 0
IsFault page fault = IsFaultOf (main_pair page) (copy_pair page) fault
