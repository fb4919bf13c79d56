-- The meaning of an image from what was read of it; and that an image has one meaning or one fault.
use Rattle.std.proofs.Common.{◌≡◌, inl, inr, ℕ, ◌+◌, ◌*◌, ◌≤◌, List, get_or, Some, None, Result, Ok, Err, IfOk, IfErr, refl, sym, ◌∙◌, ap, subst, arith, rules}
use Rattle.std.specs.Option.{option_or}
use Rattle.pm_header.specs.Faults.{IsFault}
use Rattle.pm_header.specs.Pairs.{IsHeaderIn}
use Rattle.pm_header.specs.declared.header.Header.{Header}
use Rattle.pm_header.specs.declared.fault.HeaderFault.{HeaderFault}
use Rattle.pm_header.proofs.PairLaws.{again_from_read, exact_from_read, no_fault}
use Rattle.pm_objects.specs.declared.pool.PoolView.{PoolView}
use Rattle.pm_image.specs.declared.fault.ImageFault.{ImageFault}
use Rattle.pm_image.specs.declared.fault.ImageFault.TheVariants as fault
use Rattle.pm_image.specs.declared.fault.MeansFault.{MeansFault}
use Rattle.pm_image.specs.declared.fault.MeansFault.TheVariants.{Image, Memory}
use Rattle.pm_image.specs.Logs.{recovered_words, recovered_at}
use Rattle.pm_image.specs.LogFaults.{log_fault}
use Rattle.pm_image.specs.HeapFaults.{heap_fault}
use Rattle.pm_image.specs.Steps.{IfImage}
use Rattle.pm_image.specs.Means.{page, inner_fault, pool_in, HasShape, HasHeader, IsHeaderOf, IsMeaning, IsImageFault, IsUnlessNoMemory}

pub meaning_made : (image words : List ℕ) (lanes zones : ℕ) (header : Header) (pool : PoolView) → HasHeader image lanes zones header → IsHeaderOf lanes zones header → words ≡ recovered_words image lanes
    → log_fault image lanes zones ≡ None → heap_fault (λ i. get_or words i 0) lanes zones ≡ None → pool ≡ pool_in (λ i. get_or words i 0) lanes zones header → IsMeaning image pool
meaning_made image words lanes zones header pool has fits same logs heap is = record {
  lanes = lanes;
  zones = zones;
  header = header;
  has_header = has;
  fits = fits;
  no_fault = (λ i. option_or (logs i) (heap_fault (λ k. get_or (sym same i) k 0) lanes zones)) ∙ heap;
  is_pool = is ∙ ap (λ (ws : List ℕ). pool_in (λ k. get_or ws k 0) lanes zones header) same;
}

one_shape : (image : List ℕ) (lanes zones other_lanes other_zones : ℕ) → HasShape image lanes zones → HasShape image other_lanes other_zones → (lanes ≡ other_lanes) × (zones ≡ other_zones)
one_shape image lanes zones other_lanes other_zones has also =
    let size : 4096 + 8192 * lanes + 266240 * zones ≡ 4096 + 8192 * other_lanes + 266240 * other_zones = has.size ∙ sym also.size in
    let few : lanes ≤ 32 = has.shape.lanes_to in
    let other_few : other_lanes ≤ 32 = also.shape.lanes_to in
    (omega arith, omega arith)

one_header : (words : List ℕ) (one other : Header) → IsHeaderIn words one → IsHeaderIn words other → one ≡ other
one_header words one other is also = let same : Ok one ≡ Ok other = again_from_read words (Ok one) is tt other also in cc

one_page_fault : (words : List ℕ) (one other : HeaderFault) → IsFault words one → IsFault words other → one ≡ other
one_page_fault words one other is also =
    let same : Err one ≡ Err other = exact_from_read words (Err one) tt is (λ found more is_found is_more. search rules) other also in cc

-- two readings of one image are one
same_reading : (image : List ℕ) (lanes zones other_lanes other_zones : ℕ) (one other : Header) → HasHeader image lanes zones one → HasHeader image other_lanes other_zones other
    → (lanes ≡ other_lanes) × (zones ≡ other_zones) × (one ≡ other)
same_reading image lanes zones other_lanes other_zones one other has also =
    let shapes = one_shape image lanes zones other_lanes other_zones has.has_shape also.has_shape in
    (shapes.0, shapes.1, one_header (page image) one other has.header_in also.header_in)

pub one_meaning : (image : List ℕ) (pool other : PoolView) → IsMeaning image pool → IsMeaning image other → pool ≡ other
one_meaning image pool other is also =
    let same = same_reading image is.lanes is.zones also.lanes also.zones is.header also.header is.has_header also.has_header in
    is.is_pool ∙ (λ i. pool_in (recovered_at image (same.0 i)) (same.0 i) (same.1 i) (same.2 i)) ∙ sym also.is_pool

pub no_meaning_and_fault : (image : List ℕ) (pool : PoolView) (found : ImageFault) → IsMeaning image pool → IsImageFault image found → ⊥
no_meaning_and_fault image pool found is (inl none) = none.no_shape is.lanes is.zones is.has_header.has_shape
no_meaning_and_fault image pool found is (inr (inl bad)) = no_fault (page image) is.header bad.page_fault is.has_header.header_in bad.is_page_fault
no_meaning_and_fault image pool found is (inr (inr (inl misfit))) =
    let same = same_reading image is.lanes is.zones misfit.lanes misfit.zones is.header misfit.header is.has_header misfit.has_header in
    misfit.misfits (subst (IsHeaderOf misfit.lanes misfit.zones) same.2 (subst (λ (n : ℕ). IsHeaderOf misfit.lanes n is.header) same.1 (subst (λ (n : ℕ). IsHeaderOf n is.zones is.header) same.0 is.fits)))
no_meaning_and_fault image pool found is (inr (inr (inr inner))) =
    let same = same_reading image is.lanes is.zones inner.lanes inner.zones is.header inner.header is.has_header inner.has_header in
    let clash : None ≡ Some found = sym is.no_fault ∙ (λ i. inner_fault image (same.0 i) (same.1 i)) ∙ inner.is_fault in
    absurd cc

pub one_fault : (image : List ℕ) (one other : ImageFault) → IsImageFault image one → IsImageFault image other → one ≡ other
one_fault image one other (inl is) (inl also) = is.is_size ∙ sym also.is_size
one_fault image one other (inl is) (inr (inl also)) = absurd (is.no_shape also.lanes also.zones also.has_shape)
one_fault image one other (inl is) (inr (inr (inl also))) = absurd (is.no_shape also.lanes also.zones also.has_header.has_shape)
one_fault image one other (inl is) (inr (inr (inr also))) = absurd (is.no_shape also.lanes also.zones also.has_header.has_shape)
one_fault image one other (inr (inl is)) (inl also) = absurd (also.no_shape is.lanes is.zones is.has_shape)
one_fault image one other (inr (inl is)) (inr (inl also)) = is.is_header ∙ ap fault.Header (one_page_fault (page image) is.page_fault also.page_fault is.is_page_fault also.is_page_fault) ∙ sym also.is_header
one_fault image one other (inr (inl is)) (inr (inr (inl also))) = absurd (no_fault (page image) also.header is.page_fault also.has_header.header_in is.is_page_fault)
one_fault image one other (inr (inl is)) (inr (inr (inr also))) = absurd (no_fault (page image) also.header is.page_fault also.has_header.header_in is.is_page_fault)
one_fault image one other (inr (inr (inl is))) (inl also) = absurd (also.no_shape is.lanes is.zones is.has_header.has_shape)
one_fault image one other (inr (inr (inl is))) (inr (inl also)) = absurd (no_fault (page image) is.header also.page_fault is.has_header.header_in also.is_page_fault)
one_fault image one other (inr (inr (inl is))) (inr (inr (inl also))) = is.is_shape ∙ sym also.is_shape
one_fault image one other (inr (inr (inl is))) (inr (inr (inr also))) =
    let same = same_reading image also.lanes also.zones is.lanes is.zones also.header is.header also.has_header is.has_header in
    absurd (is.misfits (subst (IsHeaderOf is.lanes is.zones) same.2 (subst (λ (n : ℕ). IsHeaderOf is.lanes n also.header) same.1 (subst (λ (n : ℕ). IsHeaderOf n also.zones also.header) same.0 also.fits))))
one_fault image one other (inr (inr (inr is))) (inl also) = absurd (also.no_shape is.lanes is.zones is.has_header.has_shape)
one_fault image one other (inr (inr (inr is))) (inr (inl also)) = absurd (no_fault (page image) is.header also.page_fault is.has_header.header_in also.is_page_fault)
one_fault image one other (inr (inr (inr is))) (inr (inr (inl also))) =
    let same = same_reading image is.lanes is.zones also.lanes also.zones is.header also.header is.has_header also.has_header in
    absurd (also.misfits (subst (IsHeaderOf also.lanes also.zones) same.2 (subst (λ (n : ℕ). IsHeaderOf also.lanes n is.header) same.1 (subst (λ (n : ℕ). IsHeaderOf n is.zones is.header) same.0 is.fits))))
one_fault image one other (inr (inr (inr is))) (inr (inr (inr also))) =
    let same = same_reading image is.lanes is.zones also.lanes also.zones is.header also.header is.has_header also.has_header in
    let both : Some one ≡ Some other = sym is.is_fault ∙ (λ i. inner_fault image (same.0 i) (same.1 i)) ∙ also.is_fault in
    cc

-- the answer that is right is the one given, unless there was no memory
pub again : (image : List ℕ) (r : Result PoolView MeansFault) → IfOk r (IsMeaning image) → IfErr r (λ e. IfImage e (IsImageFault image)) → (pool : PoolView) → IsMeaning image pool → IsUnlessNoMemory r (Ok pool)
again image (Ok other) read told pool is = inl (ap Ok (one_meaning image other pool read is))
again image (Err (Image found)) read told pool is = absurd (no_meaning_and_fault image pool found is told)
again image (Err Memory) read told pool is = inr refl

pub exact : (image : List ℕ) (r : Result PoolView MeansFault) → IfOk r (IsMeaning image) → IfErr r (λ e. IfImage e (IsImageFault image)) → (found : ImageFault) → IsImageFault image found → IsUnlessNoMemory r (Err (Image found))
exact image (Ok pool) read told found is = absurd (no_meaning_and_fault image pool found read is)
exact image (Err (Image other)) read told found is = inl (ap (λ (f : ImageFault). Err (Image f)) (one_fault image other found told is))
exact image (Err Memory) read told found is = inr refl
