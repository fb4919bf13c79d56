-- A fault of the header is one of the header page: neither logs nor the heap have such a fault.
use Rattle.std.proofs.Common.{◌≡◌, inl, inr, ℕ, ◌+◌, ◌*◌, ◌/◌, ◌%◌, ◌≤◌, Bool, true, false, cond, List, length, Option, Some, None, refl, sym, ◌∙◌, ap, subst, arith}
use Rattle.std.specs.List.{find, range_with_len}
use Rattle.std.specs.Option.{option_map, option_or}
use Rattle.pm_header.specs.Pairs.{main_pair, HasOneGood, IsGood}
use Rattle.pm_header.specs.Faults.{IsFault}
use Rattle.pm_header.specs.declared.fault.HeaderFault.{HeaderFault}
use Rattle.pm_header.specs.declared.fault.HeaderFault.TheVariants.{HeaderMain, HeaderCopy}
use Rattle.pm_image.specs.declared.block.Block.{Block}
use Rattle.pm_image.specs.declared.fault.ImageFault.{ImageFault}
use Rattle.pm_image.specs.declared.fault.ImageFault.TheVariants as fault
use Rattle.pm_image.specs.Blocks.{blocks}
use Rattle.pm_image.specs.Contents.{offset_in}
use Rattle.pm_image.specs.Logs.{recovered_at}
use Rattle.pm_image.specs.LogFaults.{bad_entry, bad_slot, clash_fault, clashes, lane_fault, log_fault, redo_fault, undo_fault}
use Rattle.pm_image.specs.HeapFaults.{bad_bitmap, bad_chunk, bad_root, bitmap_fault, block_fault, chunk_fault, heap_fault, link_fault, root_fault}
use Rattle.pm_image.specs.Means.{inner_fault, page, IsImageFault, IsMeaning}
use Rattle.pm_image.proofs.Meanings.{no_meaning_and_fault}
use Rattle.pm_check.specs.Verdicts.{with_copy, with_main, HasGoodPair, IsMended, IsOfOnePair}

-- this is no fault of the header
abbrev IsInner : Option ImageFault → Type 0
IsInner found = (damage : HeaderFault) → found ≡ Some (fault.Header damage) → ⊥

inner_or : (a b : Option ImageFault) → IsInner a → IsInner b → IsInner (option_or a b)
inner_or None b first second = second
inner_or (Some found) b first second = first

inner_map : {X : Type 0} (told : X → ImageFault) (o : Option X) → ((x : X) → IsInner (Some (told x))) → IsInner (option_map told o)
inner_map told None each damage same = absurd cc
inner_map told (Some x) each damage same = each x damage same

lane_inner : (image : List ℕ) (lanes : ℕ) → IsInner (lane_fault image lanes)
unfolding lane_fault
lane_inner image lanes = inner_map fault.Lane _ (λ lane damage same. absurd cc)

redo_inner : (image : List ℕ) (lanes zones : ℕ) → IsInner (redo_fault image lanes zones)
unfolding redo_fault
redo_inner image lanes zones = inner_map (λ (n : ℕ). fault.Redo (n / 64) (n % 64)) _ (λ n damage same. absurd cc)

undo_inner : (image : List ℕ) (lanes zones : ℕ) → IsInner (undo_fault image lanes zones)
unfolding undo_fault
undo_inner image lanes zones = inner_map (λ (n : ℕ). fault.Undo (n / 64) (n % 64)) _ (λ n damage same. absurd cc)

clash_inner : (image : List ℕ) (lanes : ℕ) → IsInner (clash_fault image lanes)
unfolding clash_fault
clash_inner image lanes = inner_map (λ (n : ℕ). fault.Clash (8 * n)) _ (λ n damage same. absurd cc)

chunk_inner : (w : ℕ → ℕ) (lanes zones : ℕ) → IsInner (chunk_fault w lanes zones)
unfolding chunk_fault
chunk_inner w lanes zones = inner_map (λ (n : ℕ). fault.Chunk (n / 64) (n % 64)) _ (λ n damage same. absurd cc)

bitmap_inner : (w : ℕ → ℕ) (lanes zones : ℕ) → IsInner (bitmap_fault w lanes zones)
unfolding bitmap_fault
bitmap_inner w lanes zones = inner_map (λ (n : ℕ). fault.Bitmap (n / 64) (n % 64)) _ (λ n damage same. absurd cc)

block_inner : (w : ℕ → ℕ) (bs : List Block) → IsInner (block_fault w bs)
unfolding block_fault
block_inner w bs = inner_map (λ (block : Block). fault.Block (offset_in block)) _ (λ block damage same. absurd cc)

link_inner : (w : ℕ → ℕ) (bs : List Block) → IsInner (link_fault w bs)
unfolding link_fault
link_inner w bs = inner_map (λ (block : Block). fault.Link (offset_in block)) _ (λ block damage same. absurd cc)

root_inner : (w : ℕ → ℕ) (bs : List Block) → IsInner (root_fault w bs)
unfolding root_fault
root_inner w bs = one (bad_root w bs) where
  one : (b : Bool) → IsInner (cond b (Some (fault.Root (w 64))) None)
  one true damage same = absurd cc
  one false damage same = absurd cc

log_inner : (image : List ℕ) (lanes zones : ℕ) → IsInner (log_fault image lanes zones)
unfolding log_fault
log_inner image lanes zones =
    inner_or (lane_fault image lanes) _ (lane_inner image lanes)
    (inner_or (redo_fault image lanes zones) _ (redo_inner image lanes zones)
    (inner_or (undo_fault image lanes zones) _ (undo_inner image lanes zones) (clash_inner image lanes)))

heap_inner : (w : ℕ → ℕ) (lanes zones : ℕ) → IsInner (heap_fault w lanes zones)
unfolding heap_fault
heap_inner w lanes zones =
    let bs : List Block = blocks w lanes zones in
    inner_or (chunk_fault w lanes zones) _ (chunk_inner w lanes zones)
    (inner_or (bitmap_fault w lanes zones) _ (bitmap_inner w lanes zones)
    (inner_or (block_fault w bs) _ (block_inner w bs) (inner_or (link_fault w bs) _ (link_inner w bs) (root_inner w bs))))

inner_inner : (image : List ℕ) (lanes zones : ℕ) → IsInner (inner_fault image lanes zones)
inner_inner image lanes zones = inner_or (log_fault image lanes zones) _ (log_inner image lanes zones) (heap_inner (recovered_at image lanes) lanes zones)

-- a fault of the header is one of the page, which the image has whole
pub page_fault : (image : List ℕ) (damage : HeaderFault) → IsImageFault image (fault.Header damage) → IsFault (page image) damage × (512 ≤ length image)
page_fault image damage (inl none) = let never : fault.Header damage ≡ fault.Size (8 * length image) = none.is_size in absurd cc
page_fault image damage (inr (inl bad)) =
    let same : fault.Header damage ≡ fault.Header bad.page_fault = bad.is_header in
    let one : damage ≡ bad.page_fault = cc in
    let size : 4096 + 8192 * bad.lanes + 266240 * bad.zones ≡ 8 * length image = bad.has_shape.size in
    (subst (IsFault (page image)) (sym one) bad.is_page_fault, omega arith)
page_fault image damage (inr (inr (inl misfit))) = let never : fault.Header damage ≡ fault.Shape = misfit.is_shape in absurd cc
page_fault image damage (inr (inr (inr inner))) = absurd (inner_inner image inner.lanes inner.zones damage inner.is_fault)

-- of a fault of one pair, the other pair is good
pub one_good : (image : List ℕ) (found : ImageFault) → IsOfOnePair found → IsImageFault image found → HasOneGood (page image)
one_good image found (inl main) is = let bad = page_fault image HeaderMain (subst (IsImageFault image) main is) in inr (bad.0.0, bad.0.1)
one_good image found (inr copy) is = let bad = page_fault image HeaderCopy (subst (IsImageFault image) copy is) in inl (bad.0.0, bad.0.1)

pub page_whole : (image : List ℕ) (found : ImageFault) → IsOfOnePair found → IsImageFault image found → 512 ≤ length image
page_whole image found (inl main) is = (page_fault image HeaderMain (subst (IsImageFault image) main is)).1
page_whole image found (inr copy) is = (page_fault image HeaderCopy (subst (IsImageFault image) copy is)).1

-- the good pair written over the damaged one
pub good_pair : (image new : List ℕ) (found : ImageFault) → IsOfOnePair found → IsImageFault image found → (IsGood (main_pair (page image)) → new ≡ with_main image)
    → (¬ IsGood (main_pair (page image)) → new ≡ with_copy image) → HasGoodPair image found new
good_pair image new found (inl main) is of_main of_copy =
    let bad = page_fault image HeaderMain (subst (IsImageFault image) main is) in inl (main, of_copy bad.0.0)
good_pair image new found (inr copy) is of_main of_copy =
    let bad = page_fault image HeaderCopy (subst (IsImageFault image) copy is) in inr (copy, of_main bad.0.0)

-- there is one way to do it
one_pair : (image new other : List ℕ) (found : ImageFault) → HasGoodPair image found new → HasGoodPair image found other → new ≡ other
one_pair image new other found (inl main) (inl also) = main.1 ∙ sym also.1
one_pair image new other found (inl main) (inr also) = let never : fault.Header HeaderMain ≡ fault.Header HeaderCopy = sym main.0 ∙ also.0 in absurd cc
one_pair image new other found (inr copy) (inl also) = let never : fault.Header HeaderCopy ≡ fault.Header HeaderMain = sym copy.0 ∙ also.0 in absurd cc
one_pair image new other found (inr copy) (inr also) = copy.1 ∙ sym also.1

-- where the image has another fault too, nothing mends it
pub never_mended : (image new : List ℕ) (found more : ImageFault) → HasGoodPair image found new → IsImageFault new more → (mended : List ℕ) → IsMended image found mended → ⊥
never_mended image new found more pair is mended done =
    no_meaning_and_fault new done.whole.0 more (subst (λ (ws : List ℕ). IsMeaning ws done.whole.0) (one_pair image mended new found done.good_pair pair) done.whole.1) is
