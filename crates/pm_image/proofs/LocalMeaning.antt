-- What an image means depends on its shape, its header pairs, its logs' faults and the words that its meaning reads.
use Rattle.std.proofs.Common.{◌≡◌, inl, inr, ℕ, ◌*◌, List, length, Option, None, sym, ◌∙◌, ap, subst, arith}
use Rattle.std.specs.Option.{option_or}
use Rattle.pm_layout.specs.Layout.{IsShape, pool_size}
use Rattle.pm_header.specs.Pairs.{main_pair, copy_pair, IsPairOf}
use Rattle.pm_header.specs.Faults.{IsFault, IsFaultOf}
use Rattle.pm_header.specs.declared.header.Header.{Header}
use Rattle.pm_header.specs.declared.fault.HeaderFault.{HeaderFault}
use Rattle.pm_objects.specs.declared.pool.PoolView.{PoolView}
use Rattle.pm_image.specs.declared.fault.ImageFault.{ImageFault}
use Rattle.pm_image.specs.Logs.{recovered_at}
use Rattle.pm_image.specs.LogFaults.{log_fault}
use Rattle.pm_image.specs.HeapFaults.{heap_fault}
use Rattle.pm_image.specs.Means.{HasShape, HasHeader, HasInnerFault, IsMeaning, IsImageFault, inner_fault, page, pool_in}
use Rattle.pm_image.specs.Reads.{AgreeInMeaning, MeansAsMuch, SameHeap}
use Rattle.pm_image.proofs.LocalPool.{heap_local}

-- a length is that of one shape alone
one_shape : (a b c d : ℕ) → IsShape a b → IsShape c d → pool_size a b ≡ pool_size c d → (a ≡ c) × (b ≡ d)
one_shape a b c d first second same = (omega arith, omega arith)

shape_same : (image : List ℕ) (a b c d : ℕ) → HasShape image a b → HasShape image c d → (a ≡ c) × (b ≡ d)
shape_same image a b c d first second = one_shape a b c d first.shape second.shape (first.size ∙ sym second.size)

length_same : (one other : List ℕ) (lanes zones : ℕ) → AgreeInMeaning one other lanes zones → 8 * length one ≡ 8 * length other
length_same one other lanes zones agree = sym agree.shape.size ∙ agree.other_shape.size

-- the facts for another image of the first one's header
shape_carried : (one other : List ℕ) (lanes zones a b : ℕ) → AgreeInMeaning one other lanes zones → HasShape one a b → HasShape other a b
shape_carried one other lanes zones a b agree is = record { shape = is.shape; size = is.size ∙ length_same one other lanes zones agree }

header_carried : (one other : List ℕ) (lanes zones a b : ℕ) (header : Header) → AgreeInMeaning one other lanes zones → HasHeader one a b header → HasHeader other a b header
header_carried one other lanes zones a b header agree is = record {
  has_shape = shape_carried one other lanes zones a b agree is.has_shape;
  header_in = record {
    version = is.header_in.version;
    main = subst (λ (pair : List ℕ). IsPairOf pair header) (sym agree.main) is.header_in.main;
    copy = subst (λ (pair : List ℕ). IsPairOf pair header) (sym agree.copy) is.header_in.copy;
  };
}

-- behind the header there is no fault but the heap's
inner_of : (image : List ℕ) (lanes zones : ℕ) → log_fault image lanes zones ≡ None → inner_fault image lanes zones ≡ heap_fault (recovered_at image lanes) lanes zones
inner_of image lanes zones none = ap (λ (o : Option ImageFault). option_or o (heap_fault (recovered_at image lanes) lanes zones)) none

inner_same : (one other : List ℕ) (lanes zones : ℕ) → AgreeInMeaning one other lanes zones → inner_fault other lanes zones ≡ inner_fault one lanes zones
inner_same one other lanes zones agree =
    inner_of other lanes zones agree.other_logs ∙ (heap_local (recovered_at one lanes) (recovered_at other lanes) lanes zones agree.words).same_fault ∙ sym (inner_of one lanes zones agree.logs)

-- the same for the shape that one of its facts gives
inner_same_at : (one other : List ℕ) (lanes zones a b : ℕ) → AgreeInMeaning one other lanes zones → HasShape one a b → inner_fault other a b ≡ inner_fault one a b
inner_same_at one other lanes zones a b agree is =
    let same : (lanes ≡ a) × (zones ≡ b) = shape_same one lanes zones a b agree.shape is in
    (λ j. inner_fault other (sym same.0 j) (sym same.1 j)) ∙ inner_same one other lanes zones agree ∙ (λ j. inner_fault one (same.0 j) (same.1 j))

pool_same : (one other : List ℕ) (lanes zones a b : ℕ) (header : Header) → AgreeInMeaning one other lanes zones → HasShape one a b → inner_fault one a b ≡ None
    → pool_in (recovered_at one a) a b header ≡ pool_in (recovered_at other a) a b header
pool_same one other lanes zones a b header agree is none =
    let same : (lanes ≡ a) × (zones ≡ b) = shape_same one lanes zones a b agree.shape is in
    let heap : SameHeap (recovered_at one lanes) (recovered_at other lanes) lanes zones = heap_local (recovered_at one lanes) (recovered_at other lanes) lanes zones agree.words in
    let free : heap_fault (recovered_at one lanes) lanes zones ≡ None = sym (inner_of one lanes zones agree.logs) ∙ (λ j. inner_fault one (same.0 j) (same.1 j)) ∙ none in
    (λ j. pool_in (recovered_at one (sym same.0 j)) (sym same.0 j) (sym same.1 j) header) ∙ sym (heap.same_pool free header) ∙ (λ j. pool_in (recovered_at other (same.0 j)) (same.0 j) (same.1 j) header)

meaning_carried : (one other : List ℕ) (lanes zones : ℕ) (pool : PoolView) → AgreeInMeaning one other lanes zones → IsMeaning one pool → IsMeaning other pool
meaning_carried one other lanes zones pool agree is = record {
  lanes = is.lanes;
  zones = is.zones;
  header = is.header;
  has_header = header_carried one other lanes zones is.lanes is.zones is.header agree is.has_header;
  fits = is.fits;
  no_fault = inner_same_at one other lanes zones is.lanes is.zones agree is.has_header.has_shape ∙ is.no_fault;
  is_pool = is.is_pool ∙ pool_same one other lanes zones is.lanes is.zones is.header agree is.has_header.has_shape is.no_fault;
}

inner_carried : (one other : List ℕ) (lanes zones : ℕ) (found : ImageFault) → AgreeInMeaning one other lanes zones → HasInnerFault one found → HasInnerFault other found
inner_carried one other lanes zones found agree is = record {
  lanes = is.lanes;
  zones = is.zones;
  header = is.header;
  has_header = header_carried one other lanes zones is.lanes is.zones is.header agree is.has_header;
  fits = is.fits;
  is_fault = inner_same_at one other lanes zones is.lanes is.zones agree is.has_header.has_shape ∙ is.is_fault;
}

page_fault_carried : (one other : List ℕ) (lanes zones : ℕ) (found : HeaderFault) → AgreeInMeaning one other lanes zones → IsFault (page one) found → IsFault (page other) found
page_fault_carried one other lanes zones found agree is =
    let main : IsFaultOf (main_pair (page other)) (copy_pair (page one)) found = subst (λ (pair : List ℕ). IsFaultOf pair (copy_pair (page one)) found) (sym agree.main) is in
    subst (λ (pair : List ℕ). IsFaultOf (main_pair (page other)) pair found) (sym agree.copy) main

fault_carried : (one other : List ℕ) (lanes zones : ℕ) (found : ImageFault) → AgreeInMeaning one other lanes zones → IsImageFault one found → IsImageFault other found
fault_carried one other lanes zones found agree (inl none) = absurd (none.no_shape lanes zones agree.shape)
fault_carried one other lanes zones found agree (inr (inl bad)) = inr (inl (record {
  lanes = lanes;
  zones = zones;
  has_shape = agree.other_shape;
  page_fault = bad.page_fault;
  is_page_fault = page_fault_carried one other lanes zones bad.page_fault agree bad.is_page_fault;
  is_header = bad.is_header;
}))
fault_carried one other lanes zones found agree (inr (inr (inl misfit))) = inr (inr (inl (record {
  lanes = misfit.lanes;
  zones = misfit.zones;
  header = misfit.header;
  has_header = header_carried one other lanes zones misfit.lanes misfit.zones misfit.header agree misfit.has_header;
  misfits = misfit.misfits;
  is_shape = misfit.is_shape;
})))
fault_carried one other lanes zones found agree (inr (inr (inr inner))) = inr (inr (inr (inner_carried one other lanes zones found agree inner)))

pub meaning_local : (one other : List ℕ) (lanes zones : ℕ) → AgreeInMeaning one other lanes zones → MeansAsMuch one other
meaning_local one other lanes zones agree = record {
  pools = λ pool is. meaning_carried one other lanes zones pool agree is;
  faults = λ found is. fault_carried one other lanes zones found agree is;
}
