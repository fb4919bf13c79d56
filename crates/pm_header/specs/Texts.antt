-- The fault of a header page as people read it: docs/FORMAT.md, "Header page".
use Rattle.std.specs.Prelude.{ℕ, List, ◌++◌, codes}
use Rattle.std.specs.Fmt.{decimal}
use Rattle.pm_header.specs.declared.fault.HeaderFault.{HeaderFault}
use Rattle.pm_header.specs.declared.fault.HeaderFault.TheVariants.{NotPool, HeaderMain, HeaderCopy, HeaderBoth, HeaderDiffer, Version}

abbrev pub header_fault_text : HeaderFault → List ℕ
header_fault_text NotPool = codes "NotPool"
header_fault_text HeaderMain = codes "HeaderMain"
header_fault_text HeaderCopy = codes "HeaderCopy"
header_fault_text HeaderBoth = codes "HeaderBoth"
header_fault_text HeaderDiffer = codes "HeaderDiffer"
header_fault_text (Version version) = codes "Version " ++ decimal version
