-- The pool of a heap with no fault depends on the words that the meaning reads alone.
use Rattle.std.proofs.Common.{◌≡◌, ℕ, ◌&&◌, Bool, true, false, cond, eqb, List, length, Some, None, sym, ◌∙◌, ap}
use Rattle.std.proofs.lemmas.Bool.{false≢true, eqb-true}
use Rattle.pm_header.specs.declared.header.Header.{Header}
use Rattle.pm_image.specs.declared.block.Block.{Block}
use Rattle.pm_image.specs.Blocks.{blocks}
use Rattle.pm_image.specs.Contents.{offset_in, header_word, first_in, walk, object_in, objects_in}
use Rattle.pm_image.specs.HeapFaults.{heap_fault}
use Rattle.pm_image.specs.Narrowings.{takes_links}
use Rattle.pm_image.specs.Means.{pool_in}
use Rattle.pm_image.specs.Reads.{Reads, ReadsBlock, AgreeOn, SameHeap, SameContents}
use Rattle.pm_image.proofs.Reading.{walk_nowhere}
use Rattle.pm_image.proofs.Members.{map_same}
use Rattle.pm_image.proofs.Heads.{agree_on_heads}
use Rattle.pm_image.proofs.LocalContents.{contents_local}
use Rattle.pm_image.proofs.LocalHeap.{blocks_same, heap_fault_same, root_same, agree_on_block}
use Rattle.pm_image.proofs.FaultFree.{links_taken}

last_of : (s t : Bool) → (s && t) ≡ true → t ≡ true
last_of true t h = h
last_of false t h = absurd (false≢true h)

-- an object whose links are taken has no member
pub first_none : (w : ℕ → ℕ) (block : Block) → takes_links w block ≡ true → first_in w block ≡ 0
first_none w block taken =
    eqb-true (header_word w block 5) 0 (last_of (eqb (header_word w block 2) 0 && eqb (header_word w block 3) 0 && eqb (header_word w block 4) 0) (eqb (header_word w block 5) 0) taken)

pub object_same : (w v : ℕ → ℕ) (block : Block) (count : ℕ) → AgreeOn (ReadsBlock w block) w v → takes_links w block ≡ true → object_in v count block ≡ object_in w count block
object_same w v block count agree taken =
    let same : SameContents w v block = contents_local w v block agree in
    let none : first_in w block ≡ 0 = first_none w block taken in
    let members : walk v count (first_in v block) ≡ walk w count (first_in w block) =
    ap (walk v count) (same.same_first ∙ none) ∙ walk_nowhere v count ∙ sym (ap (walk w count) none ∙ walk_nowhere w count) in
    (λ j. record { kind = same.same_kind j; bytes = same.same_bytes j; members = members j })

objects_same : (w v : ℕ → ℕ) (lanes zones : ℕ) → AgreeOn (Reads w lanes zones) w v → heap_fault w lanes zones ≡ None → objects_in v (blocks w lanes zones) ≡ objects_in w (blocks w lanes zones)
unfolding objects_in
objects_same w v lanes zones agree none =
    let bs : List Block = blocks w lanes zones in
    map_same (λ block. (offset_in block, object_in v (length bs) block)) (λ block. (offset_in block, object_in w (length bs) block)) bs (λ block there.
    (λ j. (offset_in block, object_same w v block (length bs) (agree_on_block w v lanes zones block agree there) (links_taken w lanes zones block none there) j)))

pool_same : (w v : ℕ → ℕ) (lanes zones : ℕ) (header : Header) → AgreeOn (Reads w lanes zones) w v → heap_fault w lanes zones ≡ None → pool_in v lanes zones header ≡ pool_in w lanes zones header
pool_same w v lanes zones header agree none =
    let objects : objects_in v (blocks v lanes zones) ≡ objects_in w (blocks w lanes zones) = ap (objects_in v) (blocks_same w v lanes zones (agree_on_heads w v lanes zones agree)) ∙ objects_same w v lanes zones agree none in
    let root : v 64 ≡ w 64 = root_same w v lanes zones (agree_on_heads w v lanes zones agree) in
    (λ j. record { id = header.id; name = header.name; lanes = lanes; zones = zones; objects = objects j; root = cond (eqb (root j) 0) None (Some (root j)) })

pub heap_local : (w v : ℕ → ℕ) (lanes zones : ℕ) → AgreeOn (Reads w lanes zones) w v → SameHeap w v lanes zones
heap_local w v lanes zones agree = record {
  same_blocks = blocks_same w v lanes zones (agree_on_heads w v lanes zones agree);
  same_fault = heap_fault_same w v lanes zones (agree_on_heads w v lanes zones agree);
  same_pool = λ none header. pool_same w v lanes zones header agree none;
}
