-- In each allocated block stands an item of the pool, and each item stands in one.
use Rattle.std.proofs.Common.{◌≡◌, ℕ, ◌+◌, ◌*◌, ◌/◌, ◌<◌, ◌≤◌, nat_lt, ◌&&◌, true, false, cond, List, [], ◌∷◌, length, map, Option, Some, None, refl, sym, ◌∙◌, ap, arith}
use Rattle.std.proofs.Math.Nat.{mul-div_cancel_left}
use Rattle.std.specs.List.{Contains, find}
use Rattle.std.specs.Option.{option_map}
use Rattle.pm_header.specs.declared.header.Header.{Header}
use Rattle.std.proofs.lemmas.Bool.{and_parts, both_ways, ltb-true}
use Rattle.pm_layout.specs.Chunks.{chunks_of}
use Rattle.pm_layout.specs.Sizes.{block_place, blocks_of}
use Rattle.pm_objects.specs.Pool.{Objects, object_at}
use Rattle.pm_objects.specs.declared.pool.Object.{Object}
use Rattle.pm_objects.specs.declared.pool.PoolView.{PoolView}
use Rattle.pm_image.specs.declared.block.Block.{Block as Placed}
use Rattle.pm_image.specs.Blocks.{blocks, chunk_word}
use Rattle.pm_image.specs.Contents.{bytes_in, kind_in, object_in, objects_in, offset_in, walk}
use Rattle.pm_image.specs.HeapFaults.{heap_fault}
use Rattle.pm_image.proofs.FaultFree.{links_taken}
use Rattle.pm_image.proofs.LocalPool.{first_none}
use Rattle.pm_image.proofs.Members.{first_member, later_member}
use Rattle.pm_image.proofs.Reading.{walk_nowhere}
use Rattle.pm_image.proofs.Rooms.{run_fits}
use Rattle.pm_model.specs.Items.{Item, head_of, is_among, item_of as item_of_object}
use Rattle.pm_view.specs.Places.{InRun, Block, Small, Big, Root}
use Rattle.pm_world.specs.Lanes.{is_occupancy}
use Rattle.pm_crash.specs.Held.{HoldsPool, IsBlockOf, IsObjectAt, object_of}
use Rattle.pm_crash.specs.Objects.{BlocksHaveItems, IsGoodHeap, ItemsHaveBlocks, OffsetsTellBlocks, RootIsTold, StandsIn, is_allocated, item_in, lines_of, offset_of}
use Rattle.pm_crash.specs.Spelled.{words_by}
use Rattle.pm_crash.proofs.BitsBlocks as told
use Rattle.pm_crash.proofs.Classes.{run_has_lines}
use Rattle.pm_crash.proofs.GoodBits.{held_good}
use Rattle.pm_crash.proofs.ObjectsOfBlocks.{block_is_there, object_is_there}

-- an object of a heap without a fault has no members
no_members : (w : ℕ → ℕ) (lanes zones count : ℕ) (block : Placed) → heap_fault w lanes zones ≡ None → Contains (blocks w lanes zones) block → (object_in w count block).members ≡ []
no_members w lanes zones count block none there_ = ap (walk w count) (first_none w block (links_taken w lanes zones block none there_)) ∙ walk_nowhere w count

-- so it is in no list
no_head_in : (w : ℕ → ℕ) (lanes zones count off : ℕ) (bs : List Placed) → heap_fault w lanes zones ≡ None → ((block : Placed) → Contains bs block → Contains (blocks w lanes zones) block)
    → find (λ (entry : ℕ × Object). is_among entry.1.members off) (map (λ (block : Placed). (offset_in block, object_in w count block)) bs) ≡ None
no_head_in w lanes zones count off [] none h = refl
no_head_in w lanes zones count off (b ∷ bs) none h =
    let rest : Objects = map (λ (block : Placed). (offset_in block, object_in w count block)) bs in
    ap (λ (m : List ℕ). cond (is_among m off) (Some (offset_in b, object_in w count b)) (find (λ (entry : ℕ × Object). is_among entry.1.members off) rest))
    (no_members w lanes zones count b none (h b (first_member b bs)))
    ∙ no_head_in w lanes zones count off bs none (λ c there_. h c (later_member b bs c there_))

no_head : (w : ℕ → ℕ) (lanes zones off : ℕ) (header : Header) (pool : PoolView) → HoldsPool w lanes zones header pool → head_of pool.objects off ≡ None
unfolding objects_in
no_head w lanes zones off header pool holds = ap (λ (p : PoolView). head_of p.objects off) holds.is_pool
    ∙ ap (option_map (λ (entry : ℕ × Object). entry.0)) (no_head_in w lanes zones (length (blocks w lanes zones)) off (blocks w lanes zones) holds.no_fault (λ block there_. there_))

-- the item of an object that stands in a block
item_is : (w : ℕ → ℕ) (lanes zones off : ℕ) (header : Header) (pool : PoolView) (block : Placed) → HoldsPool w lanes zones header pool → Contains (blocks w lanes zones) block
    → item_of_object (head_of pool.objects off) (object_of w lanes zones block) ≡ item_in w block
item_is w lanes zones off header pool block holds there_ =
    let none = no_members w lanes zones (length (blocks w lanes zones)) block holds.no_fault there_ in
    let head = no_head w lanes zones off header pool holds in
    λ i. record { kind = kind_in w block; bytes = bytes_in w block; members = none i; list = head i }

pub blocks_have_items : BlocksHaveItems
blocks_have_items sh class s header pool holds B a =
    let g = held_good sh class s header pool holds in
    let w = words_by sh class s in
    let block = lines_of sh class s B in
    let there_ = told.allocated_block sh class s g.runs g.whole B a in
    let at : IsObjectAt w sh.lanes sh.zones pool.objects block = object_is_there w sh.lanes sh.zones header pool block holds there_ in
    ap (option_map (item_of_object (head_of pool.objects (offset_in block)))) at.found
    ∙ ap (λ (i : Item). Some i) (item_is w sh.lanes sh.zones (offset_in block) header pool block holds there_)

same_some : {A : Type 0} → (a b : A) → Some a ≡ Some b → a ≡ b
same_some {A = A} a b e = ap (λ (z : Option A). Rattle.std.specs.Prelude.unwrap_or z a) e

pub items_have_blocks : ItemsHaveBlocks
items_have_blocks sh class s header pool holds off item is = by_object (object_at pool.objects off) refl is
  where
    by_object : (found : Option Object) → object_at pool.objects off ≡ found → option_map (item_of_object (head_of pool.objects off)) found ≡ Some item → StandsIn sh class s off item
    by_object None e q = absurd cc
    by_object (Some object) e q =
        let w = words_by sh class s in
        let y : IsBlockOf w sh.lanes sh.zones off object = block_is_there w sh.lanes sh.zones off header pool object holds e in
        let z = told.block_told sh class s y.block y.is_there in
        record {
          block = z.of;
          allocated = z.allocated;
          at = y.is_offset ∙ ap (λ (b : Placed). offset_in b) (sym z.lies);
          is = sym (same_some (item_of_object (head_of pool.objects off) object) item q)
              ∙ (ap (item_of_object (head_of pool.objects off)) y.is_object
              ∙ (item_is w sh.lanes sh.zones off header pool y.block holds y.is_there ∙ ap (item_in w) (sym z.lies)));
        }

pub root_is_told : RootIsTold
root_is_told sh class s header pool holds = ap (λ (p : PoolView). p.root) holds.is_pool

-- ---- OFFSETS

-- blocks of two chunks don't begin at one place, nor do two of one run
pub one_start : (lanes c d lines index many other : ℕ) → index < blocks_of lines → other < blocks_of many
    → block_place (8 * chunk_word lanes c) lines index ≡ block_place (8 * chunk_word lanes d) many other → c ≡ d
one_start lanes c d lines index many other l m e = let a = run_fits lines index l in let b = run_fits many other m in
    let some = run_has_lines lines index l in let more = run_has_lines many other m in
    let p : ℕ = lines * index in let q : ℕ = many * other in
    chunk_apart lanes c d (1 + p) (1 + q) (omega arith) (omega arith) (omega arith)
  where
    chunk_apart : (lanes c d a b : ℕ) → a < 64 → b < 64 → 8 * chunk_word lanes c + 64 * a ≡ 8 * chunk_word lanes d + 64 * b → c ≡ d
    chunk_apart lanes c d a b l m e = omega arith

pub same_index : (n i j : ℕ) → 1 ≤ n → n * i ≡ n * j → i ≡ j
same_index n i j some e = sym (mul-div_cancel_left i {n = n} (omega arith)) ∙ (ap (λ m. m / n) e ∙ mul-div_cancel_left j {n = n} (omega arith))

pub offsets_tell : OffsetsTellBlocks
offsets_tell sh class s header pool holds B C b c e = go B C b c e
  where
    g : IsGoodHeap sh class s
    g = held_good sh class s header pool holds

    inside : (d i : ℕ) → is_allocated sh s (Small d i) ≡ true → i < blocks_of (class d)
    inside d i a = let y = and_parts (is_occupancy sh (Small d i)) (true && s (InRun d 0) i) a in
        let z = and_parts (nat_lt d (chunks_of sh)) (nat_lt i 64) y.0 in
        g.runs d i (ltb-true d (chunks_of sh) z.0) (ltb-true i 64 z.1) y.1

    go : (B C : Block) → is_allocated sh s B ≡ true → is_allocated sh s C ≡ true → offset_of sh class s B ≡ offset_of sh class s C → B ≡ C
    go (Small d i) (Small k j) a b e =
        let l = inside d i a in let m = inside k j b in
        let p : block_place (8 * chunk_word sh.lanes d) (class d) i ≡ block_place (8 * chunk_word sh.lanes k) (class k) j = omega arith in
        let same = one_start sh.lanes d k (class d) i (class k) j l m p in
        let some = run_has_lines (class d) i l in
        let q : class d * i ≡ class d * j = (let z : block_place (8 * chunk_word sh.lanes d) (class d) i ≡ block_place (8 * chunk_word sh.lanes d) (class d) j =
        p ∙ ap (λ n. block_place (8 * chunk_word sh.lanes n) (class n) j) (sym same) in
        let u : ℕ = class d * i in let v : ℕ = class d * j in omega arith) in
        ap (λ n. Small n i) same ∙ ap (Small k) (same_index (class d) i j some q)
    go (Small d i) (Big f) a b e = absurd (let l = inside d i a in let z = run_fits (class d) i l in let some = run_has_lines (class d) i l in let p : ℕ = class d * i in omega arith)
    go (Small d i) Root a b e = absurd (both_ways false refl b)
    go (Big f) (Small d i) a b e = absurd (let l = inside d i b in let z = run_fits (class d) i l in let some = run_has_lines (class d) i l in let p : ℕ = class d * i in omega arith)
    go (Big f) (Big k) a b e = ap Big (let z : 8 * chunk_word sh.lanes f ≡ 8 * chunk_word sh.lanes k = omega arith in omega arith)
    go (Big f) Root a b e = absurd (both_ways false refl b)
    go Root C a b e = absurd (both_ways false refl a)
