-- An image has one verdict.
use Rattle.std.proofs.Common.{◌≡◌, ℕ, List, Bool, IsTrue, Result, Ok, Err, IfOk, refl, sym, ap, subst}
use Rattle.pm_objects.specs.declared.pool.PoolView.{PoolView}
use Rattle.pm_image.specs.declared.fault.ImageFault.{ImageFault}
use Rattle.pm_image.specs.Means.{IsImageFault, IsMeaning}
use Rattle.pm_image.proofs.Meanings.{no_meaning_and_fault, one_fault}
use Rattle.pm_check.specs.declared.verdict.Verdict.{Verdict}
use Rattle.pm_check.specs.declared.verdict.Verdict.TheVariants.{Consistent, Fault, Mended}
use Rattle.pm_check.specs.Verdicts.{DidCheck, IsMended}

consistent_alone : (old new : List ℕ) (repair : Bool) (told : Verdict) (pool : PoolView) → IsMeaning old pool → DidCheck old new repair told → told ≡ Consistent
consistent_alone old new repair Consistent pool is did = refl
consistent_alone old new repair (Fault found) pool is did = absurd (no_meaning_and_fault old pool found is did.0)
consistent_alone old new repair (Mended found) pool is did = absurd (no_meaning_and_fault old pool found is did.1.fault)

mended_alone : (old new : List ℕ) (repair : Bool) (told : Verdict) (found : ImageFault) (mended : List ℕ) → IsTrue repair → IsMended old found mended → DidCheck old new repair told → told ≡ Mended found
mended_alone old new repair Consistent found mended asked is did = absurd (no_meaning_and_fault old did.0.0 found did.0.1 is.fault)
mended_alone old new repair (Fault other) found mended asked is did =
    absurd (did.2 mended asked (subst (λ (f : ImageFault). IsMended old f mended) (one_fault old found other is.fault did.0) is))
mended_alone old new repair (Mended other) found mended asked is did = ap Mended (one_fault old other found did.1.fault is.fault)

fault_alone : (old new : List ℕ) (repair : Bool) (told : Verdict) (found : ImageFault) → IsImageFault old found → ((mended : List ℕ) → IsTrue repair → ¬ IsMended old found mended) → DidCheck old new repair told
    → told ≡ Fault found
fault_alone old new repair Consistent found is none did = absurd (no_meaning_and_fault old did.0.0 found did.0.1 is)
fault_alone old new repair (Fault other) found is none did = ap Fault (one_fault old other found did.0 is)
fault_alone old new repair (Mended other) found is none did =
    absurd (none new did.0 (subst (λ (f : ImageFault). IsMended old f new) (one_fault old other found did.1.fault is) did.1))

pub consistent_verdict : {E : Type 0} (old new : List ℕ) (repair : Bool) (r : Result Verdict E) → IfOk r (DidCheck old new repair) → (pool : PoolView) → IsMeaning old pool → IfOk r (λ told. told ≡ Consistent)
consistent_verdict old new repair (Ok told) did pool is = consistent_alone old new repair told pool is did
consistent_verdict old new repair (Err e) did pool is = tt

pub mended_verdict : {E : Type 0} (old new : List ℕ) (repair : Bool) (r : Result Verdict E) → IfOk r (DidCheck old new repair) → (found : ImageFault) (mended : List ℕ) → IsTrue repair → IsMended old found mended
    → IfOk r (λ told. told ≡ Mended found)
mended_verdict old new repair (Ok told) did found mended asked is = mended_alone old new repair told found mended asked is did
mended_verdict old new repair (Err e) did found mended asked is = tt

pub fault_verdict : {E : Type 0} (old new : List ℕ) (repair : Bool) (r : Result Verdict E) → IfOk r (DidCheck old new repair) → (found : ImageFault) → IsImageFault old found
    → ((mended : List ℕ) → IsTrue repair → ¬ IsMended old found mended) → IfOk r (λ told. told ≡ Fault found)
fault_verdict old new repair (Ok told) did found is none = fault_alone old new repair told found is none did
fault_verdict old new repair (Err e) did found is none = tt
