-- Words that differ only where one object has its bytes hold the same pool but for these bytes.
use Rattle.std.proofs.Common.{◌≡◌, ◌≢◌, ⊎_elim, ℕ, ◌+◌, ◌*◌, ◌≤◌, Bool, true, cond, eqb, List, [], ◌∷◌, ◌++◌, length, map, Some, None, sym, ◌∙◌, ap, subst, arith}
use Rattle.std.specs.List.{Contains}
use Rattle.std.proofs.lemmas.Bool.{eq-eqb, ne_eqb}
use Rattle.std.proofs.lemmas.List.{append-nil, drop_all}
use Rattle.pm_header.specs.declared.header.Header.{Header}
use Rattle.pm_objects.specs.declared.pool.Object.{Object}
use Rattle.pm_objects.specs.declared.pool.PoolView.{PoolView}
use Rattle.pm_image.specs.declared.block.Block.{Block}
use Rattle.pm_image.specs.Blocks.{blocks}
use Rattle.pm_image.specs.Contents.{bytes_in, kind_in, object_in, objects_in, offset_in, size_in}
use Rattle.pm_image.specs.HeapFaults.{heap_fault}
use Rattle.pm_image.specs.Reads.{AgreeOn, SameContents}
use Rattle.pm_image.proofs.Heads.{agree_on_header, head_same, ReadsHeads}
use Rattle.pm_image.proofs.LocalContents.{contents_local}
use Rattle.pm_image.proofs.LocalHeap.{blocks_same, heap_fault_same, root_same}
use Rattle.pm_image.proofs.Members.{first_member, later_member, map_same, member_cases, no_member}
use Rattle.pm_image.proofs.Ordered.{Rise}
use Rattle.pm_image.proofs.Pools.{length-bytes_in}
use Rattle.solo_model.specs.Bytes.{put_bytes, put_object, with_bytes}
use Rattle.solo_crash.specs.Held.{HoldsPool}
use Rattle.solo_crash.specs.Writes.{KeepsOthers}
use Rattle.solo_crash.proofs.Apart.{heads_kept, lines_of_block, others_kept, rise_member, rising}
use Rattle.solo_crash.proofs.Walks.{members_same}

-- objects of rising blocks, of which one has new bytes
abbrev entry : (ℕ → ℕ) → ℕ → Block → ℕ × Object
entry w count block = (offset_in block, object_in w count block)

pub objects_put : (w v : ℕ → ℕ) (count at from : ℕ) (new : List ℕ) (block : Block) (bs : List Block) → Rise from bs → ((b : Block) → Contains bs b → 1 ≤ b.lines) → Contains bs block
    → ((b : Block) → Contains bs b → b.place ≢ block.place → object_in v count b ≡ object_in w count b) → object_in v count block ≡ with_bytes at new (object_in w count block)
    → map (entry v count) bs ≡ put_object (offset_in block) at new (map (entry w count) bs)
unfolding put_object
objects_put w v count at from new block [] rise lines there others this = absurd (no_member block there)
objects_put w v count at from new block (b ∷ bs) rise lines there others this =
    let some : 1 ≤ b.lines = lines b (first_member b bs) in
    ⊎_elim
    (λ (here : b ≡ block).
    let test : eqb (offset_in b) (offset_in block) ≡ true = eq-eqb (offset_in b) (offset_in block) (ap (λ (x : Block). offset_in x) here) in
    let head : object_in v count b ≡ with_bytes at new (object_in w count b) = subst (λ (x : Block). object_in v count x ≡ with_bytes at new (object_in w count x)) (sym here) this in
    let place : b.place ≡ block.place = ap (λ (x : Block). x.place) here in
    let tail : map (entry v count) bs ≡ map (entry w count) bs = map_same (entry v count) (entry w count) bs (λ c inside.
    let behind = rise_member (b.place + 64 * b.lines) bs c rise.1 inside in
    (λ j. (offset_in c, others c (later_member b bs c inside) (λ same. omega arith) j))) in
    (λ j. (offset_in b, head j) ∷ tail j)
    ∙ sym (ap (λ (t : Bool). cond t ((offset_in b, with_bytes at new (object_in w count b)) ∷ map (entry w count) bs) (entry w count b ∷ put_object (offset_in block) at new (map (entry w count) bs))) test))
    (λ (later : Contains bs block).
    let behind = rise_member (b.place + 64 * b.lines) bs block rise.1 later in
    let differ : b.place ≢ block.place = λ same. omega arith in
    let test = ne_eqb (offset_in b) (offset_in block) (λ same. omega arith) in
    let head : object_in v count b ≡ object_in w count b = others b (first_member b bs) differ in
    let tail : map (entry v count) bs ≡ put_object (offset_in block) at new (map (entry w count) bs) =
    objects_put w v count at (b.place + 64 * b.lines) new block bs rise.1 (λ c inside. lines c (later_member b bs c inside)) later (λ c inside. others c (later_member b bs c inside)) this in
    (λ j. (offset_in b, head j) ∷ tail j)
    ∙ sym (ap (λ (t : Bool). cond t ((offset_in b, with_bytes at new (object_in w count b)) ∷ map (entry w count) bs) (entry w count b ∷ put_object (offset_in block) at new (map (entry w count) bs))) test))
    (member_cases b bs block there)

-- the objects of the heap
heap_objects_put : (w v : ℕ → ℕ) (lanes zones at : ℕ) (new : List ℕ) (block : Block) → heap_fault w lanes zones ≡ None → Contains (blocks w lanes zones) block → KeepsOthers w v block
    → bytes_in v block ≡ put_bytes at new (bytes_in w block)
    → objects_in v (blocks w lanes zones) ≡ put_object (offset_in block) at new (objects_in w (blocks w lanes zones))
unfolding objects_in
heap_objects_put w v lanes zones at new block none there keeps bytes =
    let bs : List Block = blocks w lanes zones in
    let count : ℕ = length bs in
    let heads : AgreeOn (ReadsHeads w lanes zones) w v = heads_kept w v lanes zones block none there keeps in
    let other_object : (b : Block) → Contains bs b → b.place ≢ block.place → object_in v count b ≡ object_in w count b = λ b inside differ.
    let same : SameContents w v b = contents_local w v b (others_kept w v lanes zones block b none there keeps inside differ) in
    (λ j. record { kind = same.same_kind j; bytes = same.same_bytes j; members = members_same w v lanes zones count b none heads inside j }) in
    let this_object : object_in v count block ≡ with_bytes at new (object_in w count block) =
    let kind : kind_in v block ≡ kind_in w block = head_same w v block 0 (omega arith) (agree_on_header w v lanes zones block heads there) in
    (λ j. record { kind = kind j; bytes = bytes j; members = members_same w v lanes zones count block none heads there j }) in
    objects_put w v count at 0 new block bs (rising w lanes zones none) (λ b inside. lines_of_block w lanes zones b none inside) there other_object this_object

pub pool_put : (w v : ℕ → ℕ) (lanes zones at : ℕ) (header : Header) (pool : PoolView) (new : List ℕ) (block : Block) → HoldsPool w lanes zones header pool → Contains (blocks w lanes zones) block
    → KeepsOthers w v block → bytes_in v block ≡ put_bytes at new (bytes_in w block)
    → HoldsPool v lanes zones header (record pool { objects = put_object (offset_in block) at new pool.objects })
pool_put w v lanes zones at header pool new block holds there keeps bytes =
    let heads : AgreeOn (ReadsHeads w lanes zones) w v = heads_kept w v lanes zones block holds.no_fault there keeps in
    let root : v 64 ≡ w 64 = root_same w v lanes zones heads in
    let objects : objects_in v (blocks v lanes zones) ≡ put_object (offset_in block) at new (objects_in w (blocks w lanes zones)) =
    ap (objects_in v) (blocks_same w v lanes zones heads) ∙ heap_objects_put w v lanes zones at new block holds.no_fault there keeps bytes in
    record {
      no_fault = heap_fault_same w v lanes zones heads ∙ holds.no_fault;
      is_pool =
          ap (λ (p : PoolView). record p { objects = put_object (offset_in block) at new p.objects }) holds.is_pool
          ∙ sym (λ j. record { id = header.id; name = header.name; lanes = lanes; zones = zones; objects = objects j; root = cond (eqb (root j) 0) None (Some (root j)) });
    }

-- the sizes stay
pub sizes_kept : (w v : ℕ → ℕ) (lanes zones : ℕ) (block other : Block) → heap_fault w lanes zones ≡ None → Contains (blocks w lanes zones) block → KeepsOthers w v block
    → Contains (blocks w lanes zones) other → size_in v other ≡ size_in w other
sizes_kept w v lanes zones block other none there keeps inside =
    head_same w v other 1 (omega arith) (agree_on_header w v lanes zones other (heads_kept w v lanes zones block none there keeps) inside)

-- the object's bytes are then what its words say
pub pool_of_words : (w v : ℕ → ℕ) (lanes zones : ℕ) (header : Header) (pool : PoolView) (block : Block) → HoldsPool w lanes zones header pool → Contains (blocks w lanes zones) block
    → KeepsOthers w v block → HoldsPool v lanes zones header (record pool { objects = put_object (offset_in block) 0 (bytes_in v block) pool.objects })
pool_of_words w v lanes zones header pool block holds there keeps =
    let size : size_in v block ≡ size_in w block = sizes_kept w v lanes zones block block holds.no_fault there keeps there in
    let long : length (bytes_in v block) ≡ size_in v block = length-bytes_in v block in
    let old : length (bytes_in w block) ≡ size_in w block = length-bytes_in w block in
    let all : bytes_in v block ≡ put_bytes 0 (bytes_in v block) (bytes_in w block) =
    sym (ap (λ (rest : List ℕ). bytes_in v block ++ rest) (drop_all (0 + length (bytes_in v block)) (bytes_in w block) (omega arith)) ∙ append-nil (bytes_in v block)) in
    pool_put w v lanes zones 0 header pool (bytes_in v block) block holds there keeps all
