-- The objects of a pool are those of its blocks, each at its block's offset.
use Rattle.std.proofs.Common.{◌≡◌, ◌≢◌, ⊎_elim, ℕ, zero, suc, ◌+◌, ◌*◌, ◌<◌, ◌≤◌, Bool, true, false, cond, eqb, List, [], ◌∷◌, get_or, length, map, Some, None, IsSome, IfSome, refl, sym, ◌∙◌, ap, subst, arith}
use Rattle.std.specs.List.{Contains}
use Rattle.std.specs.List.Sorted.{IsStrictlyIncreasing}
use Rattle.std.proofs.lemmas.Bool.{eq-eqb, eqb-true, ne_eqb}
use Rattle.pm_header.specs.declared.header.Header.{Header}
use Rattle.pm_objects.specs.Pool.{Objects, object_at, offsets}
use Rattle.pm_objects.specs.declared.pool.Object.{Object}
use Rattle.pm_objects.specs.declared.pool.PoolView.{PoolView}
use Rattle.pm_image.specs.declared.block.Block.{Block}
use Rattle.pm_image.specs.Blocks.{blocks}
use Rattle.pm_image.specs.Contents.{object_in, objects_in, offset_in}
use Rattle.pm_image.proofs.Members.{first_member, later_member, member_cases, no_member}
use Rattle.pm_image.proofs.Ordered.{Rise}
use Rattle.pm_image.proofs.Pools.{length-bytes_in, no_bad_root, no_root_fault, root_there, GoodSize}
use Rattle.pm_crash.specs.Held.{HoldsPool, IsBlockOf, IsObjectAt}
use Rattle.pm_crash.proofs.Apart.{lines_of_block, rise_member, rising, size_of_block}

-- the object of a block among those of rising blocks
object_found : (w : ℕ → ℕ) (count from : ℕ) (block : Block) (bs : List Block) → Rise from bs → ((b : Block) → Contains bs b → 1 ≤ b.lines) → Contains bs block
    → object_at (map (λ (b : Block). (offset_in b, object_in w count b)) bs) (offset_in block) ≡ Some (object_in w count block)
object_found w count from block [] rise lines there = absurd (no_member block there)
object_found w count from block (b ∷ bs) rise lines there =
    let some : 1 ≤ b.lines = lines b (first_member b bs) in
    let rest : Objects = map (λ (x : Block). (offset_in x, object_in w count x)) bs in
    ⊎_elim
    (λ (here : b ≡ block).
    ap (λ (t : Bool). cond t (Some (object_in w count b)) (object_at rest (offset_in block))) (eq-eqb (offset_in b) (offset_in block) (ap (λ (x : Block). offset_in x) here))
    ∙ ap (λ (x : Block). Some (object_in w count x)) here)
    (λ (later : Contains bs block).
    let behind = rise_member (b.place + 64 * b.lines) bs block rise.1 later in
    ap (λ (t : Bool). cond t (Some (object_in w count b)) (object_at rest (offset_in block))) (ne_eqb (offset_in b) (offset_in block) (λ same. omega arith))
    ∙ object_found w count (b.place + 64 * b.lines) block bs rise.1 (λ x inside. lines x (later_member b bs x inside)) later)
    (member_cases b bs block there)

pub object_is_there : (w : ℕ → ℕ) (lanes zones : ℕ) (header : Header) (pool : PoolView) (block : Block) → HoldsPool w lanes zones header pool → Contains (blocks w lanes zones) block
    → IsObjectAt w lanes zones pool.objects block
unfolding objects_in
object_is_there w lanes zones header pool block holds there =
    let bs : List Block = blocks w lanes zones in
    let size : GoodSize w block = size_of_block w lanes zones block holds.no_fault there in
    record {
      found =
          ap (λ (p : PoolView). object_at p.objects (offset_in block)) holds.is_pool
          ∙ object_found w (length bs) 0 block bs (rising w lanes zones holds.no_fault) (λ b inside. lines_of_block w lanes zones b holds.no_fault inside) there;
      size = length-bytes_in w block;
      some = size.some;
      most = size.most;
    }

-- the block of an object among those of some blocks
record IsFound (w : ℕ → ℕ) (count off : ℕ) (object : Object) (bs : List Block) : Type 0 where
  block : Block
  is_there : Contains bs block
  is_offset : off ≡ offset_in block
  is_object : object ≡ object_in w count block

block_found : (w : ℕ → ℕ) (count off : ℕ) (object : Object) (bs : List Block) → object_at (map (λ (b : Block). (offset_in b, object_in w count b)) bs) off ≡ Some object → IsFound w count off object bs
block_found w count off object [] is = absurd cc
block_found w count off object (b ∷ bs) is = go (eqb (offset_in b) off) refl is (block_found w count off object bs) where
  rest : Objects
  rest = map (λ (x : Block). (offset_in x, object_in w count x)) bs

  go : (t : Bool) → eqb (offset_in b) off ≡ t → cond t (Some (object_in w count b)) (object_at rest off) ≡ Some object
      → (object_at rest off ≡ Some object → IsFound w count off object bs) → IsFound w count off object (b ∷ bs)
  go true here found later =
      let same : object_in w count b ≡ object = cc in
      record { block = b; is_there = first_member b bs; is_offset = sym (eqb-true (offset_in b) off here); is_object = sym same }
  go false other found later =
      let behind : IsFound w count off object bs = later found in
      record { block = behind.block; is_there = later_member b bs behind.block behind.is_there; is_offset = behind.is_offset; is_object = behind.is_object }

pub block_is_there : (w : ℕ → ℕ) (lanes zones off : ℕ) (header : Header) (pool : PoolView) (object : Object) → HoldsPool w lanes zones header pool → object_at pool.objects off ≡ Some object
    → IsBlockOf w lanes zones off object
unfolding objects_in
block_is_there w lanes zones off header pool object holds is =
    let bs : List Block = blocks w lanes zones in
    let found : IsFound w (length bs) off object bs = block_found w (length bs) off object bs (sym (ap (λ (p : PoolView). object_at p.objects off) holds.is_pool) ∙ is) in
    record { block = found.block; is_there = found.is_there; is_offset = found.is_offset; is_object = found.is_object }

-- an object is at the root's offset
pub root_is_there : (w : ℕ → ℕ) (lanes zones : ℕ) (header : Header) (pool : PoolView) → HoldsPool w lanes zones header pool → w 64 ≢ 0 → IsSome (object_at pool.objects (w 64))
root_is_there w lanes zones header pool holds some =
    let bs : List Block = blocks w lanes zones in
    let good = no_bad_root w bs (no_root_fault w lanes zones holds.no_fault) in
    let named : IsSome (object_at (objects_in w bs) (w 64)) =
    subst (λ (t : Bool). IfSome (cond t None (Some (w 64))) (λ off. IsSome (object_at (objects_in w bs) off))) (ne_eqb (w 64) 0 some) (root_there w bs good) in
    subst (λ (p : PoolView). IsSome (object_at p.objects (w 64))) (sym holds.is_pool) named

-- the objects of rising blocks are in rising offsets
offsets_rise : (w : ℕ → ℕ) (count from : ℕ) (bs : List Block) → Rise from bs → ((b : Block) → Contains bs b → 1 ≤ b.lines) → IsStrictlyIncreasing (offsets (map (λ (b : Block). (offset_in b, object_in w count b)) bs))
offsets_rise w count from [] rise lines k inside = absurd (omega (arith, inside))
offsets_rise w count from (b ∷ []) rise lines k inside = absurd (omega (arith, inside))
offsets_rise w count from (b ∷ c ∷ bs) rise lines zero inside = let some = lines b (first_member b (c ∷ bs)) in let next = rise.1.0 in omega (arith, some, next)
offsets_rise w count from (b ∷ c ∷ bs) rise lines (suc k) inside =
    let rest : List ℕ = offsets (map (λ (x : Block). (offset_in x, object_in w count x)) (c ∷ bs)) in
    let further : suc k + 1 ≡ suc (k + 1) = omega arith in
    subst (λ (n : ℕ). get_or rest k 0 < get_or (offset_in b ∷ rest) n 0) (sym further) (offsets_rise w count (b.place + 64 * b.lines) (c ∷ bs) rise.1 (λ x there. lines x (later_member b (c ∷ bs) x there)) k (omega (arith, inside)))

pub objects_rise : (w : ℕ → ℕ) (lanes zones : ℕ) (header : Header) (pool : PoolView) → HoldsPool w lanes zones header pool → IsStrictlyIncreasing (offsets pool.objects)
unfolding objects_in
objects_rise w lanes zones header pool holds =
    let bs : List Block = blocks w lanes zones in
    subst (λ (p : PoolView). IsStrictlyIncreasing (offsets p.objects)) (sym holds.is_pool)
    (offsets_rise w (length bs) 0 bs (rising w lanes zones holds.no_fault) (λ b inside. lines_of_block w lanes zones b holds.no_fault inside))
