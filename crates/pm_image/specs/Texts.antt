-- A fault as people read it: docs/FORMAT.md, "Faults".
use Rattle.std.specs.Prelude.{ℕ, List, ◌++◌, codes}
use Rattle.std.specs.Fmt.{decimal}
use Rattle.pm_header.specs.Texts.{header_fault_text}
use Rattle.pm_image.specs.declared.fault.MeansFault.{MeansFault}
use Rattle.pm_image.specs.declared.fault.MeansFault.TheVariants as means_fault
use Rattle.pm_image.specs.declared.fault.ImageFault.{ImageFault}
use Rattle.pm_image.specs.declared.fault.ImageFault.TheVariants.{Size, Header, Shape, Lane, Redo, Undo, Clash, Chunk, Bitmap, Block, Link, Root}

-- the line that a command prints of a fault
abbrev pub fault_text : ImageFault → List ℕ
fault_text (Size bytes) = codes "Size " ++ decimal bytes
fault_text (Header found) = header_fault_text found
fault_text Shape = codes "Shape"
fault_text (Lane lane) = codes "Lane " ++ decimal lane
fault_text (Redo lane entry) = codes "Redo lane " ++ (decimal lane ++ (codes " entry " ++ decimal entry))
fault_text (Undo lane slot) = codes "Undo lane " ++ (decimal lane ++ (codes " slot " ++ decimal slot))
fault_text (Clash place) = codes "Clash " ++ decimal place
fault_text (Chunk zone chunk) = codes "Chunk " ++ (decimal zone ++ (codes " " ++ decimal chunk))
fault_text (Bitmap zone chunk) = codes "Bitmap " ++ (decimal zone ++ (codes " " ++ decimal chunk))
fault_text (Block off) = codes "Block " ++ decimal off
fault_text (Link off) = codes "Link " ++ decimal off
fault_text (Root off) = codes "Root " ++ decimal off

abbrev pub means_fault_text : MeansFault → List ℕ
means_fault_text (means_fault.Image found) = fault_text found
means_fault_text means_fault.Memory = codes "no memory"
