-- Why an image was not recovered, as people read it.
use Rattle.std.specs.Prelude.{ℕ, List}
use Rattle.pm_image.specs.Texts.{fault_text, means_fault_text}
use Rattle.pm_image.specs.declared.fault.MeansFault.TheVariants as means_fault
use Rattle.pm_recover.specs.declared.fault.RecoverFault.{RecoverFault}
use Rattle.pm_recover.specs.declared.fault.RecoverFault.TheVariants.{Image, Memory}

abbrev pub recover_fault_text : RecoverFault → List ℕ
recover_fault_text (Image found) = fault_text found
recover_fault_text (Memory error) = means_fault_text means_fault.Memory
