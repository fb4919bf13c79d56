-- What an answer of recovery says.
use Rattle.std.specs.Prelude.{⊤}
use Rattle.pm_image.specs.declared.fault.ImageFault.{ImageFault}
use Rattle.pm_recover.specs.declared.fault.RecoverFault.{RecoverFault}
use Rattle.pm_recover.specs.declared.fault.RecoverFault.TheVariants.{Image, Memory}

-- the fact for a fault of the image
abbrev pub IfImage : RecoverFault → (ImageFault → Type 0) → Type 0
IfImage (Image found) P = P found
IfImage (Memory e) P = ⊤
