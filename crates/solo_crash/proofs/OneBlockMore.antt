-- Where one heap has a block more than another, and else the same words, their blocks, their faults and their objects differ by it alone.
use Rattle.std.proofs.Common.{◌≡◌, ◌≢◌, ◌⊎◌, ⊎_elim, ℕ, ◌+◌, ◌*◌, ◌<◌, ◌≤◌, Bool, true, false, not, cond, eqb, ltb, List, [], ◌∷◌, length, map, Some, None, refl, sym, ◌∙◌, ap, subst, arith}
use Rattle.std.specs.List.{Contains}
use Rattle.std.proofs.lemmas.Bool.{cases_eq, cases_lt, eq-eqb, eqb-false, le-ltb, lt-ltb, ne_eqb}
use Rattle.pm_header.specs.declared.header.Header.{Header}
use Rattle.pm_objects.specs.declared.pool.Object.{Object}
use Rattle.pm_objects.specs.declared.pool.PoolView.{PoolView}
use Rattle.pm_image.specs.declared.block.Block.{Block}
use Rattle.pm_image.specs.Blocks.{blocks}
use Rattle.pm_image.specs.Contents.{first_in, object_in, objects_in, offset_in, walk}
use Rattle.pm_image.specs.HeapFaults.{bad_bitmap, bad_chunk, good_block, heap_fault}
use Rattle.pm_image.specs.Narrowings.{takes_links}
use Rattle.pm_image.specs.Reads.{AgreeOn, ReadsBlock, SameContents}
use Rattle.pm_image.proofs.FaultFree.{block_good, links_taken}
use Rattle.pm_image.proofs.Heads.{reads_header, ReadsHeader}
use Rattle.pm_image.proofs.LocalContents.{contents_local}
use Rattle.pm_image.proofs.LocalHeap.{good_block_same, takes_links_same}
use Rattle.pm_image.proofs.LocalPool.{first_none}
use Rattle.pm_image.proofs.Members.{first_member, later_member, map_same}
use Rattle.pm_image.proofs.Ordered.{blocks_rise, Rise}
use Rattle.pm_image.proofs.Pools.{no_bad_root, no_root_fault}
use Rattle.pm_image.proofs.Reading.{walk_nowhere}
use Rattle.solo_crash.specs.Held.{HoldsPool}
use Rattle.solo_crash.specs.HeapChanges.{AreDisjoint}
use Rattle.solo_model.specs.NewObjects.{pool_with, pool_without, with_object, without_object}
use Rattle.solo_crash.specs.NewObjects.{with_block, without_block}
use Rattle.solo_crash.proofs.Apart.{apart}
use Rattle.solo_crash.proofs.NoHeapFault.{no_heap_fault, root_stays}
use Rattle.solo_crash.proofs.RisingBlocks.{same_by_members, with_has, with_keeps, with_only, with_rises, without_keeps, without_only, without_rises}

-- the entry of a block's object
abbrev entry : (ℕ → ℕ) → ℕ → Block → ℕ × Object
entry w count block = (offset_in block, object_in w count block)

-- an object with no links is the same by its words, however many blocks there are
pub unlinked_same : (w v : ℕ → ℕ) (count counted : ℕ) (block : Block) → AgreeOn (ReadsBlock w block) w v → takes_links w block ≡ true → object_in v counted block ≡ object_in w count block
unlinked_same w v count counted block agree taken =
    let same : SameContents w v block = contents_local w v block agree in
    let none : first_in w block ≡ 0 = first_none w block taken in
    let members : walk v counted (first_in v block) ≡ walk w count (first_in w block) =
    ap (walk v counted) (same.same_first ∙ none) ∙ walk_nowhere v counted ∙ sym (ap (walk w count) none ∙ walk_nowhere w count) in
    (λ j. record { kind = same.same_kind j; bytes = same.same_bytes j; members = members j })

-- offsets are ordered as places are
same_order : (a b : ℕ) → ltb (a + 64) (b + 64) ≡ ltb a b
same_order a b = ⊎_elim
    (λ (less : a < b). lt-ltb (a + 64) (b + 64) (omega arith) ∙ sym (lt-ltb a b less))
    (λ (more : b ≤ a). le-ltb (a + 64) (b + 64) (omega arith) ∙ sym (le-ltb a b more))
    (cases_lt a b)

same_place : (a b : ℕ) → eqb (a + 64) (b + 64) ≡ eqb a b
same_place a b = ⊎_elim
    (λ (same : a ≡ b). eq-eqb (a + 64) (b + 64) (omega arith) ∙ sym (eq-eqb a b same))
    (λ (differ : a ≢ b). ne_eqb (a + 64) (b + 64) (λ is. differ (omega arith)) ∙ sym (ne_eqb a b differ))
    (cases_eq a b)

-- the objects of blocks with one more, and of blocks without one
objects_with : (w v : ℕ → ℕ) (count counted : ℕ) (block : Block) (bs : List Block) → ((b : Block) → Contains bs b → object_in v counted b ≡ object_in w count b)
    → map (entry v counted) (with_block block bs) ≡ with_object (offset_in block) (object_in v counted block) (map (entry w count) bs)
unfolding with_block with_object
objects_with w v count counted block [] same = refl
objects_with w v count counted block (b ∷ bs) same =
    go (ltb block.place b.place) (objects_with w v count counted block bs (λ c there. same c (later_member b bs c there)))
    ∙ ap (λ (t : Bool). cond t ((offset_in block, object_in v counted block) ∷ entry w count b ∷ map (entry w count) bs) (entry w count b ∷ with_object (offset_in block) (object_in v counted block) (map (entry w count) bs))) (sym (same_order block.place b.place)) where
      go : (t : Bool) → map (entry v counted) (with_block block bs) ≡ with_object (offset_in block) (object_in v counted block) (map (entry w count) bs)
          → map (entry v counted) (cond t (block ∷ b ∷ bs) (b ∷ with_block block bs))
          ≡ cond t ((offset_in block, object_in v counted block) ∷ entry w count b ∷ map (entry w count) bs) (entry w count b ∷ with_object (offset_in block) (object_in v counted block) (map (entry w count) bs))
      go true rest = ap (λ (es : List (ℕ × Object)). entry v counted block ∷ es) (map_same (entry v counted) (entry w count) (b ∷ bs) (λ c there. (λ j. (offset_in c, same c there j))))
      go false rest = (λ j. (offset_in b, same b (first_member b bs) j) ∷ rest j)

objects_without : (w v : ℕ → ℕ) (count counted place : ℕ) (bs : List Block) → ((b : Block) → Contains bs b → b.place ≢ place → object_in v counted b ≡ object_in w count b)
    → map (entry w count) (without_block place bs) ≡ without_object (place + 64) (map (entry v counted) bs)
unfolding without_block without_object
objects_without w v count counted place [] same = refl
objects_without w v count counted place (b ∷ bs) same =
    go (eqb b.place place) refl (objects_without w v count counted place bs (λ c there. same c (later_member b bs c there)))
    ∙ ap (λ (t : Bool). cond (not t) (entry v counted b ∷ without_object (place + 64) (map (entry v counted) bs)) (without_object (place + 64) (map (entry v counted) bs))) (sym (same_place b.place place)) where
      go : (t : Bool) → eqb b.place place ≡ t → map (entry w count) (without_block place bs) ≡ without_object (place + 64) (map (entry v counted) bs)
          → map (entry w count) (cond (not t) (b ∷ without_block place bs) (without_block place bs))
          ≡ cond (not t) (entry v counted b ∷ without_object (place + 64) (map (entry v counted) bs)) (without_object (place + 64) (map (entry v counted) bs))
      go true is rest = rest
      go false is rest = (λ j. (offset_in b, sym (same b (first_member b bs) (eqb-false b.place place is)) j) ∷ rest j)

-- v has the blocks of w and one more, and else the words that blocks of w read; both have good chunks and bitmaps
pub record HasOneMore (w v : ℕ → ℕ) (lanes zones : ℕ) (block : Block) : Type 0 where
  pub chunks : (c : ℕ) → c < 64 * zones → bad_chunk w lanes c ≡ false
  pub more_chunks : (c : ℕ) → c < 64 * zones → bad_chunk v lanes c ≡ false
  pub there : Contains (blocks v lanes zones) block
  pub new : Contains (blocks w lanes zones) block → ⊥
  pub keeps : (b : Block) → Contains (blocks w lanes zones) b → Contains (blocks v lanes zones) b
  pub only : (b : Block) → Contains (blocks v lanes zones) b → (b ≡ block) ⊎ Contains (blocks w lanes zones) b
  pub lines : (b : Block) → Contains (blocks v lanes zones) b → 1 ≤ b.lines
  pub words : (b : Block) → Contains (blocks w lanes zones) b → AgreeOn (ReadsBlock w b) w v
  pub root : v 64 ≡ w 64

module _ (w v : ℕ → ℕ) (lanes zones : ℕ) (block : Block) (one : HasOneMore w v lanes zones block) where
  abbrev bs : List Block
  bs = blocks w lanes zones

  abbrev cs : List Block
  cs = blocks v lanes zones

  rising : Rise 0 bs
  rising = blocks_rise w lanes zones one.chunks

  more_rising : Rise 0 cs
  more_rising = blocks_rise v lanes zones one.more_chunks

  -- the block lies apart from the others
  disjoint : (b : Block) → Contains bs b → AreDisjoint block b
  disjoint b inside = ⊎_elim
      (λ (same : block ≡ b). absurd (one.new (subst (Contains bs) (sym same) inside)))
      (λ (either : AreDisjoint block b). either)
      (apart 0 cs block b more_rising one.there (one.keeps b inside))

  pub other_place : (b : Block) → Contains bs b → b.place ≢ block.place
  other_place b inside same =
      let some : 1 ≤ block.lines = one.lines block one.there in
      let others : 1 ≤ b.lines = one.lines b (one.keeps b inside) in
      ⊎_elim
      (λ (before : block.place + 64 * block.lines ≤ b.place). absurd (omega arith))
      (λ (behind : b.place + 64 * b.lines ≤ block.place). absurd (omega arith))
      (disjoint b inside)

  -- a block of the longer list at another place is one of the shorter
  is_old : (b : Block) → Contains cs b → b.place ≢ block.place → Contains bs b
  is_old b inside elsewhere = ⊎_elim
      (λ (same : b ≡ block). absurd (elsewhere (ap (λ (c : Block). c.place) same)))
      (λ (old : Contains bs b). old)
      (one.only b inside)

  pub blocks_more : cs ≡ with_block block bs
  blocks_more = same_by_members 0 0 cs (with_block block bs) more_rising
      (with_rises 0 block bs rising (omega arith) (one.lines block one.there) (λ b inside. one.lines b (one.keeps b inside)) disjoint)
      one.lines
      (λ b inside. one.lines b (back b inside))
      (λ b inside. ⊎_elim
      (λ (same : b ≡ block). subst (Contains (with_block block bs)) (sym same) (with_has block bs))
      (λ (old : Contains bs b). with_keeps block b bs old)
      (one.only b inside))
      back where
        back : (b : Block) → Contains (with_block block bs) b → Contains cs b
        back b inside = ⊎_elim
            (λ (same : b ≡ block). subst (Contains cs) (sym same) one.there)
            (λ (old : Contains bs b). one.keeps b old)
            (with_only block b bs inside)

  pub blocks_fewer : bs ≡ without_block block.place cs
  blocks_fewer = same_by_members 0 0 bs (without_block block.place cs) rising (without_rises 0 block.place cs more_rising)
      (λ b inside. one.lines b (one.keeps b inside))
      (λ b inside. one.lines b (without_only block.place b cs inside).0)
      (λ b inside. without_keeps block.place b cs (one.keeps b inside) (other_place b inside))
      (λ b inside. let parts = without_only block.place b cs inside in is_old b parts.0 parts.1)

  -- a block of the shorter list passes its tests in both
  header_agrees : (b : Block) → Contains bs b → AgreeOn (ReadsHeader b) w v
  header_agrees b inside = record { same = λ i read. (one.words b inside).same i (reads_header w b i read) }

  good_before : (b : Block) → Contains bs b → good_block v b ≡ good_block w b
  good_before b inside = good_block_same w v b (header_agrees b inside)

  links_before : (b : Block) → Contains bs b → takes_links v b ≡ takes_links w b
  links_before b inside = takes_links_same w v b (header_agrees b inside)

  -- where w has no fault, and the block is good, v has none
  pub fault_more : heap_fault w lanes zones ≡ None → ((c : ℕ) → c < 64 * zones → bad_bitmap v lanes c ≡ false) → good_block v block ≡ true → takes_links v block ≡ true → heap_fault v lanes zones ≡ None
  fault_more none bitmaps good links = no_heap_fault v lanes zones (record {
    chunks = one.more_chunks;
    bitmaps = bitmaps;
    sizes = λ b inside. ⊎_elim
        (λ (same : b ≡ block). ap (good_block v) same ∙ good)
        (λ (old : Contains bs b). good_before b old ∙ block_good w lanes zones b none old)
        (one.only b inside);
    links = λ b inside. ⊎_elim
        (λ (same : b ≡ block). ap (λ (c : Block). takes_links v c) same ∙ links)
        (λ (old : Contains bs b). links_before b old ∙ links_taken w lanes zones b none old)
        (one.only b inside);
    root = root_stays w v bs cs one.root (λ b inside named. one.keeps b inside) (no_bad_root w bs (no_root_fault w lanes zones none));
  })

  -- where v has no fault, and the block is not the root's, w has none
  pub fault_fewer : heap_fault v lanes zones ≡ None → ((c : ℕ) → c < 64 * zones → bad_bitmap w lanes c ≡ false) → v 64 ≢ offset_in block → heap_fault w lanes zones ≡ None
  fault_fewer none bitmaps not_root = no_heap_fault w lanes zones (record {
    chunks = one.chunks;
    bitmaps = bitmaps;
    sizes = λ b inside. sym (good_before b inside) ∙ block_good v lanes zones b none (one.keeps b inside);
    links = λ b inside. sym (links_before b inside) ∙ links_taken v lanes zones b none (one.keeps b inside);
    root = root_stays v w cs bs (sym one.root)
        (λ b inside named. ⊎_elim
        (λ (same : b ≡ block). absurd (not_root (sym named ∙ ap (λ (c : Block). offset_in c) same)))
        (λ (old : Contains bs b). old)
        (one.only b inside))
        (no_bad_root v cs (no_root_fault v lanes zones none));
  })

  -- the objects of the one and of the other
  same_objects : heap_fault w lanes zones ≡ None → (b : Block) → Contains bs b → object_in v (length cs) b ≡ object_in w (length bs) b
  same_objects none b inside = unlinked_same w v (length bs) (length cs) b (one.words b inside) (links_taken w lanes zones b none inside)

  pub objects_more : heap_fault w lanes zones ≡ None → objects_in v cs ≡ with_object (offset_in block) (object_in v (length cs) block) (objects_in w bs)
  unfolding objects_in
  objects_more none = ap (map (entry v (length cs))) blocks_more ∙ objects_with w v (length bs) (length cs) block bs (same_objects none)

  pub objects_fewer : heap_fault w lanes zones ≡ None → objects_in w bs ≡ without_object (offset_in block) (objects_in v cs)
  unfolding objects_in
  objects_fewer none = ap (map (entry w (length bs))) blocks_fewer ∙ objects_without w v (length bs) (length cs) block.place cs (λ b inside elsewhere. same_objects none b (is_old b inside elsewhere))

  -- so the pools
  pub pool_more : (header : Header) (pool : PoolView) (object : Object) → HoldsPool w lanes zones header pool → heap_fault v lanes zones ≡ None → object_in v (length cs) block ≡ object
      → HoldsPool v lanes zones header (pool_with (offset_in block) object pool)
  pool_more header pool object holds none is =
      let objects : objects_in v cs ≡ with_object (offset_in block) object (objects_in w bs) = objects_more holds.no_fault ∙ ap (λ (o : Object). with_object (offset_in block) o (objects_in w bs)) is in
      record {
        no_fault = none;
        is_pool = ap (pool_with (offset_in block) object) holds.is_pool
            ∙ sym (λ j. record { id = header.id; name = header.name; lanes = lanes; zones = zones; objects = objects j; root = cond (eqb (one.root j) 0) None (Some (one.root j)) });
      }

  pub pool_fewer : (header : Header) (pool : PoolView) → HoldsPool v lanes zones header pool → heap_fault w lanes zones ≡ None → HoldsPool w lanes zones header (pool_without (offset_in block) pool)
  pool_fewer header pool holds none = record {
    no_fault = none;
    is_pool = ap (pool_without (offset_in block)) holds.is_pool
        ∙ sym (λ j. record { id = header.id; name = header.name; lanes = lanes; zones = zones; objects = objects_fewer none j; root = cond (eqb (sym one.root j) 0) None (Some (sym one.root j)) });
  }
