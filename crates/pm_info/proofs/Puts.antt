-- What is put where an image has a fault.
use Rattle.std.proofs.Common.{◌≡◌, inl, ℕ, List, Option, Err, refl, sym, subst}
use Rattle.pm_image.specs.declared.fault.MeansFault.{MeansFault}
use Rattle.pm_image.specs.declared.fault.MeansFault.TheVariants.{Image, Memory}
use Rattle.pm_image.specs.Means.{IsImageFault}
use Rattle.pm_image.specs.Steps.{IfImage}
use Rattle.pm_info.specs.Facts.{text_fault, DidPut}
use Rattle.pm_info.specs.declared.fault.TextFault.{TextFault}

fault_told : (image : List ℕ) (told : Option (List ℕ)) (fault : MeansFault) → IfImage fault (IsImageFault image) → DidPut image told told (Err (text_fault fault))
fault_told image told (Image found) is = (is, refl)
fault_told image told Memory is = inl refl

pub fault_put : (image : List ℕ) (told : Option (List ℕ)) (fault : MeansFault) (e : TextFault) → IfImage fault (IsImageFault image) → e ≡ text_fault fault → DidPut image told told (Err e)
fault_put image told fault e is same = subst (λ (f : TextFault). DidPut image told told (Err f)) (sym same) (fault_told image told fault is)
