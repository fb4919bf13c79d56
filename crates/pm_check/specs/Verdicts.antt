-- What a check of an image finds, and what it leaves of the image: docs/COMMANDS.md, "check".
use Rattle.std.specs.Prelude.{◌≡◌, ◌⊎◌, ℕ, List, ◌++◌, drop, Bool, IsTrue}
use Rattle.pm_header.specs.Pairs.{with_main_copied, with_copy_restored}
use Rattle.pm_header.specs.declared.fault.HeaderFault.TheVariants.{HeaderMain, HeaderCopy}
use Rattle.pm_objects.specs.declared.pool.PoolView.{PoolView}
use Rattle.pm_image.specs.declared.fault.ImageFault.{ImageFault}
use Rattle.pm_image.specs.declared.fault.ImageFault.TheVariants.{Header}
use Rattle.pm_image.specs.Means.{page, IsImageFault, IsMeaning}
use Rattle.pm_check.specs.declared.verdict.Verdict.{Verdict}
use Rattle.pm_check.specs.declared.verdict.Verdict.TheVariants.{Consistent, Fault, Mended}

-- the image has no fault: it means some pool
abbrev pub HasPool : List ℕ → Type 0
HasPool image = (pool : PoolView) × IsMeaning image pool

-- the image with the copy of the header in the place of its main pair
abbrev pub with_copy : List ℕ → List ℕ
with_copy image = with_copy_restored (page image) ++ drop 512 image

-- the image with its main pair in the place of the copy
abbrev pub with_main : List ℕ → List ℕ
with_main image = with_main_copied (page image) ++ drop 512 image

-- the fault is a damaged pair of the header, and `new` is the image `old` with the good pair written over it
abbrev pub HasGoodPair : List ℕ → ImageFault → List ℕ → Type 0
HasGoodPair old found new = ((found ≡ Header HeaderMain) × (new ≡ with_copy old)) ⊎ ((found ≡ Header HeaderCopy) × (new ≡ with_main old))

-- the fault is that of one pair of the header alone
abbrev pub IsOfOnePair : ImageFault → Type 0
IsOfOnePair found = (found ≡ Header HeaderMain) ⊎ (found ≡ Header HeaderCopy)

-- `new` mends the image `old`: the first fault of `old` is a damaged pair of the header, and with the good pair written over it no fault is
-- left
pub record IsMended (old : List ℕ) (found : ImageFault) (new : List ℕ) : Type 0 where
  pub fault : IsImageFault old found
  pub good_pair : HasGoodPair old found new
  pub whole : HasPool new

-- what a verdict says of the image `old`, and what the check leaves in its place, `new`. `repair` says whether the image may be mended
abbrev pub DidCheck : List ℕ → List ℕ → Bool → Verdict → Type 0
DidCheck old new repair Consistent = HasPool old × (new ≡ old)
DidCheck old new repair (Fault found) = IsImageFault old found × (new ≡ old) × ((mended : List ℕ) → IsTrue repair → ¬ IsMended old found mended)
DidCheck old new repair (Mended found) = IsTrue repair × IsMended old found new
