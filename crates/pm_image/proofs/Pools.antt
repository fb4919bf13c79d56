-- What an image means is a pool.
use Rattle.std.proofs.Common.{◌≡◌, ℕ, ◌+◌, ◌-◌, ◌*◌, ◌/◌, ◌<◌, ◌≤◌, ◌&&◌, ◌||◌, Bool, true, false, not, cond, eqb, leb, List, [], ◌∷◌, ◌++◌, length, get_or, map, Some, None, IsSome, IfSome, refl, sym, ◌∙◌, ap, subst, arith, nat_eq}
use Rattle.std.specs.List.{All, Contains, flat_map, list_any, range_with_len, IsDistinct}
use Rattle.std.specs.List.Sorted.{IsStrictlyIncreasing}
use Rattle.std.specs.Map.{lookup}
use Rattle.std.proofs.lemmas.Bool.{and_parts, eqb-true, leb-true, false≢true}
use Rattle.std.proofs.lemmas.Grind.{div_ceil_times}
use Rattle.std.proofs.lemmas.List.{get_or-map, length-map, length-take-le}
use Rattle.std.proofs.lemmas.List.Elements.{Contains-get_or}
use Rattle.std.proofs.lemmas.List.FromFn.{length-map-range_with_len}
use Rattle.pm_words.specs.Words.{bytes_of}
use Rattle.pm_words.proofs.Reading.{length-bytes_of}
use Rattle.pm_layout.specs.Layout.{IsShape}
use Rattle.pm_layout.specs.Sizes.{class_of, lines_for}
use Rattle.pm_header.specs.Name.{IsName}
use Rattle.pm_header.specs.declared.header.Header.{Header}
use Rattle.pm_objects.specs.Pool.{Objects, offsets, object_at, block_lines, block_end, all_members, IsPool}
use Rattle.pm_objects.specs.declared.pool.Object.{Object}
use Rattle.pm_objects.specs.declared.pool.PoolView.{PoolView}
use Rattle.pm_image.specs.declared.block.Block.{Block}
use Rattle.pm_image.specs.declared.fault.ImageFault.TheVariants as fault
use Rattle.pm_image.specs.Logs.{recovered_at}
use Rattle.pm_image.specs.Blocks.{blocks}
use Rattle.pm_image.specs.Contents.{header_word, size_in, first_in, bytes_in, data_words, walk, object_in, offset_in, objects_in}
use Rattle.pm_image.specs.HeapFaults.{good_block, bad_root, root_fault, heap_fault}
use Rattle.pm_image.specs.LogFaults.{log_fault}
use Rattle.pm_image.specs.Means.{IsMeaning, pool_in}
use Rattle.pm_image.proofs.FaultFree.{neither, no_faults, block_good, links_taken, chunk_good}
use Rattle.pm_image.proofs.LocalPool.{first_none}
use Rattle.pm_image.proofs.Members.{first_member, later_member, range_member}
use Rattle.pm_image.proofs.Ordered.{Rise, blocks_rise, rise_at}
use Rattle.pm_image.proofs.Reading.{walk_nowhere}
use Rattle.pm_image.proofs.Rooms.{lines_needed}

-- what a good block says of its object
pub record GoodSize (w : ℕ → ℕ) (block : Block) : Type 0 where
  pub some : 1 ≤ size_in w block
  pub most : size_in w block ≤ 262080
  pub lines : block_lines (class_of (size_in w block)) ≡ block.lines

pub good_size : (w : ℕ → ℕ) (block : Block) → good_block w block ≡ true → GoodSize w block
unfolding good_block
good_size w block good =
    let size : ℕ = size_in w block in
    let fits : Bool = eqb (block_lines (class_of size)) block.lines in
    let six : Bool = eqb (header_word w block 6) 0 in
    let p4 = and_parts (leb 1 size && leb size 262080 && fits && six) (eqb (header_word w block 7) 0) good in
    let p3 = and_parts (leb 1 size && leb size 262080 && fits) six p4.0 in
    let p2 = and_parts (leb 1 size && leb size 262080) fits p3.0 in
    let p1 = and_parts (leb 1 size) (leb size 262080) p2.0 in
    record { some = leb-true 1 size p1.0; most = leb-true size 262080 p1.1; lines = eqb-true (block_lines (class_of size)) block.lines p2.1 }

pub length-bytes_in : (w : ℕ → ℕ) (block : Block) → length (bytes_in w block) ≡ size_in w block
unfolding bytes_in
length-bytes_in w block =
    let size : ℕ = size_in w block in
    let words : List ℕ = map w (range_with_len (block.place / 8 + 8) (data_words size)) in
    let many : length words ≡ data_words size = length-map-range_with_len w (block.place / 8 + 8) (data_words size) in
    let long : length (bytes_of words) ≡ 8 * length words = length-bytes_of words in
    let enough = div_ceil_times size 8 (omega arith) in
    length-take-le size (bytes_of words) (omega arith)

-- the facts that the pool's follow from, of blocks one by one
record GoodBlocks (w : ℕ → ℕ) (bs : List Block) : Type 0 where
  sizes : (k : ℕ) (d : Block) → k < length bs → GoodSize w (get_or bs k d)
  free : (block : Block) → Contains bs block → first_in w block ≡ 0
  apart : Rise 0 bs

entry : (ℕ → ℕ) → ℕ → Block → ℕ × Object
entry w count block = (offset_in block, object_in w count block)

nobody : Block
nobody = record { place = 0; lines = 0 }

entry_at : (w : ℕ → ℕ) (bs : List Block) (k : ℕ) (d : ℕ × Object) → k < length bs → get_or (objects_in w bs) k d ≡ (offset_in (get_or bs k nobody), object_in w (length bs) (get_or bs k nobody))
unfolding objects_in
entry_at w bs k d inside = get_or-map (λ block. (offset_in block, object_in w (length bs) block)) bs k nobody d inside

length-objects_in : (w : ℕ → ℕ) (bs : List Block) → length (objects_in w bs) ≡ length bs
unfolding objects_in
length-objects_in w bs = length-map bs (λ block. (offset_in block, object_in w (length bs) block))

pub some_lines : (w : ℕ → ℕ) (block : Block) → GoodSize w block → 1 ≤ block.lines
some_lines w block good =
    let needed : lines_for (size_in w block) ≤ block_lines (class_of (size_in w block)) = lines_needed (size_in w block) in
    let is : block_lines (class_of (size_in w block)) ≡ block.lines = good.lines in
    omega arith

block_ends : (w : ℕ → ℕ) (count : ℕ) (block : Block) → GoodSize w block → block_end (offset_in block, object_in w count block) ≡ block.place + 64 * block.lines
block_ends w count block good =
    let size : length (bytes_in w block) ≡ size_in w block = length-bytes_in w block in
    let lines : block_lines (class_of (length (bytes_in w block))) ≡ block.lines = ap (λ (n : ℕ). block_lines (class_of n)) size ∙ good.lines in
    omega arith

offsets_rise : (w : ℕ → ℕ) (bs : List Block) → GoodBlocks w bs → IsStrictlyIncreasing (offsets (objects_in w bs))
offsets_rise w bs good = λ k inside.
    let long : length (offsets (objects_in w bs)) ≡ length (objects_in w bs) = length-map (objects_in w bs) (λ e. e.0) in
    let many : length (objects_in w bs) ≡ length bs = length-objects_in w bs in
    let d : ℕ × Object = (0, record { kind = 0; bytes = []; members = [] }) in
    let here : get_or (offsets (objects_in w bs)) k 0 ≡ (get_or bs k nobody).place + 64 =
    get_or-map (λ (e : ℕ × Object). e.0) (objects_in w bs) k d 0 (omega arith) ∙ ap (λ (e : ℕ × Object). e.0) (entry_at w bs k d (omega arith)) in
    let next : get_or (offsets (objects_in w bs)) (k + 1) 0 ≡ (get_or bs (k + 1) nobody).place + 64 =
    get_or-map (λ (e : ℕ × Object). e.0) (objects_in w bs) (k + 1) d 0 (omega arith) ∙ ap (λ (e : ℕ × Object). e.0) (entry_at w bs (k + 1) d (omega arith)) in
    let apart = rise_at 0 bs k nobody good.apart (omega arith) in
    let lines = some_lines w (get_or bs k nobody) (good.sizes k nobody (omega arith)) in
    omega arith

blocks_apart : (w : ℕ → ℕ) (bs : List Block) → GoodBlocks w bs → (k : ℕ) (d : ℕ × Object) → k + 1 < length (objects_in w bs)
    → block_end (get_or (objects_in w bs) k d) ≤ (get_or (objects_in w bs) (k + 1) d).0 - 64
blocks_apart w bs good k d inside =
    let many : length (objects_in w bs) ≡ length bs = length-objects_in w bs in
    let end : block_end (get_or (objects_in w bs) k d) ≡ (get_or bs k nobody).place + 64 * (get_or bs k nobody).lines =
    ap block_end (entry_at w bs k d (omega arith)) ∙ block_ends w (length bs) (get_or bs k nobody) (good.sizes k nobody (omega arith)) in
    let next : (get_or (objects_in w bs) (k + 1) d).0 ≡ (get_or bs (k + 1) nobody).place + 64 = ap (λ (e : ℕ × Object). e.0) (entry_at w bs (k + 1) d (omega arith)) in
    let apart = rise_at 0 bs k nobody good.apart (omega arith) in
    omega arith

sizes_good : (w : ℕ → ℕ) (bs : List Block) → GoodBlocks w bs → All (λ (e : ℕ × Object). (1 ≤ length e.1.bytes) × (length e.1.bytes ≤ 262080)) (objects_in w bs)
sizes_good w bs good = λ k d inside.
    let many : length (objects_in w bs) ≡ length bs = length-objects_in w bs in
    let size = good.sizes k nobody (omega arith) in
    let some = size.some in
    let most = size.most in
    let is : length (get_or (objects_in w bs) k d).1.bytes ≡ size_in w (get_or bs k nobody) =
    ap (λ (e : ℕ × Object). length e.1.bytes) (entry_at w bs k d (omega arith)) ∙ length-bytes_in w (get_or bs k nobody) in
    (omega arith, omega arith)

no_members_in : (w : ℕ → ℕ) (count : ℕ) (bs : List Block) → ((block : Block) → Contains bs block → first_in w block ≡ 0)
    → flat_map (λ (e : ℕ × Object). e.1.members) (map (λ (block : Block). (offset_in block, object_in w count block)) bs) ≡ []
no_members_in w count [] free = refl
no_members_in w count (b ∷ bs) free =
    let own : walk w count (first_in w b) ≡ [] = ap (walk w count) (free b (first_member b bs)) ∙ walk_nowhere w count in
    (λ i. own i ++ no_members_in w count bs (λ block there. free block (later_member b bs block there)) i)

no_members : (w : ℕ → ℕ) (bs : List Block) → GoodBlocks w bs → all_members (objects_in w bs) ≡ []
unfolding objects_in
no_members w bs good = no_members_in w (length bs) bs good.free

distinct_nothing : IsDistinct nat_eq []
unfolding IsDistinct
distinct_nothing = tt

root_in : (w : ℕ → ℕ) (count root : ℕ) (bs : List Block) → list_any (λ block. eqb (offset_in block) root) bs ≡ true
    → IsSome (lookup (λ key. eqb key root) (map (λ (block : Block). (offset_in block, object_in w count block)) bs))
root_in w count root [] is = absurd (false≢true is)
root_in w count root (b ∷ bs) is = go (eqb (offset_in b) root) refl (root_in w count root bs) where
  rest : Objects
  rest = map (λ (block : Block). (offset_in block, object_in w count block)) bs

  go : (t : Bool) → eqb (offset_in b) root ≡ t → (list_any (λ block. eqb (offset_in block) root) bs ≡ true → IsSome (lookup (λ key. eqb key root) rest))
      → IsSome (cond (eqb (offset_in b) root) (Some (object_in w count b)) (lookup (λ key. eqb key root) rest))
  go true here later = subst (λ (t : Bool). IsSome (cond t (Some (object_in w count b)) (lookup (λ key. eqb key root) rest))) (sym here) refl
  go false other later =
      subst (λ (t : Bool). IsSome (cond t (Some (object_in w count b)) (lookup (λ key. eqb key root) rest))) (sym other)
      (later (sym (ap (λ (t : Bool). t || list_any (λ block. eqb (offset_in block) root) bs) other) ∙ is))

pub root_there : (w : ℕ → ℕ) (bs : List Block) → bad_root w bs ≡ false → IfSome (cond (eqb (w 64) 0) None (Some (w 64))) (λ off. IsSome (object_at (objects_in w bs) off))
unfolding bad_root objects_in
root_there w bs good = go (eqb (w 64) 0) refl where
  found : (b : Bool) → not b ≡ false → b ≡ true
  found true is = refl
  found false is = absurd (false≢true (sym is))

  go : (t : Bool) → eqb (w 64) 0 ≡ t → IfSome (cond t None (Some (w 64))) (λ off. IsSome (lookup (λ key. eqb key off) (map (λ (block : Block). (offset_in block, object_in w (length bs) block)) bs)))
  go true none = tt
  go false some =
      root_in w (length bs) (w 64) bs (found (list_any (λ block. eqb (offset_in block) (w 64)) bs)
      (sym (ap (λ (t : Bool). cond t false (not (list_any (λ block. eqb (offset_in block) (w 64)) bs))) some) ∙ good))

pub no_bad_root : (w : ℕ → ℕ) (bs : List Block) → root_fault w bs ≡ None → bad_root w bs ≡ false
unfolding root_fault
no_bad_root w bs none = go (bad_root w bs) refl where
  go : (b : Bool) → bad_root w bs ≡ b → b ≡ false
  go false is = refl
  go true is = absurd (let clash : Some (fault.Root (w 64)) ≡ None = sym (ap (λ (b : Bool). cond b (Some (fault.Root (w 64))) None) is) ∙ none in cc)

good_blocks : (w : ℕ → ℕ) (lanes zones : ℕ) → heap_fault w lanes zones ≡ None → GoodBlocks w (blocks w lanes zones)
good_blocks w lanes zones none = record {
  sizes = λ k d inside. good_size w (get_or (blocks w lanes zones) k d) (block_good w lanes zones (get_or (blocks w lanes zones) k d) none (Contains-get_or (blocks w lanes zones) k d inside));
  free = λ block there. first_none w block (links_taken w lanes zones block none there);
  apart = blocks_rise w lanes zones (λ k inside. chunk_good w lanes zones k none (range_member (64 * zones) k inside));
}

-- the root's fault is the last that is looked for
pub no_root_fault : (w : ℕ → ℕ) (lanes zones : ℕ) → heap_fault w lanes zones ≡ None → root_fault w (blocks w lanes zones) ≡ None
no_root_fault w lanes zones none = (no_faults w lanes zones none).root

pool_of_heap : (w : ℕ → ℕ) (lanes zones : ℕ) (header : Header) → heap_fault w lanes zones ≡ None → IsName header.name → IsShape lanes zones → 1 ≤ header.id → IsPool (pool_in w lanes zones header)
pool_of_heap w lanes zones header none name shape id =
    let bs : List Block = blocks w lanes zones in
    let good : GoodBlocks w bs = good_blocks w lanes zones none in
    let empty : all_members (objects_in w bs) ≡ [] = no_members w bs good in
    record {
      has_id = id;
      name_some = name.some;
      name_short = name.short;
      name_bytes = name.bytes;
      shape = shape;
      rising = offsets_rise w bs good;
      sizes = sizes_good w bs good;
      apart = blocks_apart w bs good;
      members_there = subst (All (λ off. IsSome (object_at (objects_in w bs) off))) (sym empty) (λ k d inside. absurd (omega arith));
      members_once = subst (IsDistinct nat_eq) (sym empty) distinct_nothing;
      root_there = root_there w bs (no_bad_root w bs (no_root_fault w lanes zones none));
    }

pub meaning_is_pool : (image : List ℕ) (pool : PoolView) → IsMeaning image pool → IsPool pool
meaning_is_pool image pool is =
    let heap : heap_fault (recovered_at image is.lanes) is.lanes is.zones ≡ None = (neither (log_fault image is.lanes is.zones) (heap_fault (recovered_at image is.lanes) is.lanes is.zones) is.no_fault).1 in
    subst IsPool (sym is.is_pool) (pool_of_heap (recovered_at image is.lanes) is.lanes is.zones is.header heap is.has_header.header_in.main.is_name is.has_header.has_shape.shape is.fits.has_id)
