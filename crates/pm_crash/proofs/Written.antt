-- Bytes that are written inside an object are its bytes from there on, and touch no word of another.
use Rattle.std.proofs.Common.{◌≡◌, ◌≢◌, ◌⊎◌, ⊎_elim, inl, inr, ℕ, ◌+◌, ◌-◌, ◌*◌, ◌/◌, ◌%◌, ◌<◌, ◌≤◌, ◌==◌, true, false, List, [], length, get_or, Option, Some, None, refl, sym, ◌∙◌, ap, arith}
use Rattle.std.specs.List.{Contains}
use Rattle.std.specs.Option.{option_map}
use Rattle.std.proofs.lemmas.Bool.{cases_Bool, cases_lt, cond-false, cond-true, eq-eqb, eqb-true, both_ways}
use Rattle.std.proofs.lemmas.Grind.{div_ceil_times}
use Rattle.std.proofs.lemmas.List.{ext_get_or}
use Rattle.pm_words.specs.Words.{AreBytes}
use Rattle.pm_layout.specs.declared.shape.Shape.{Shape}
use Rattle.pm_header.specs.declared.header.Header.{Header}
use Rattle.pm_objects.specs.declared.pool.PoolView.{PoolView}
use Rattle.pm_image.specs.declared.block.Block.{Block as Lines}
use Rattle.pm_image.specs.Blocks.{blocks}
use Rattle.pm_image.specs.Contents.{bytes_in, data_words, header_word, kind_in, offset_in, size_in}
use Rattle.pm_image.specs.Reads.{AgreeOn, ReadsBlock}
use Rattle.pm_image.proofs.HeapWords.{object_fits}
use Rattle.pm_image.proofs.LocalContents.{contents_local}
use Rattle.pm_image.proofs.Pools.{length-bytes_in}
use Rattle.pm_model.specs.Items.{Item, Items, edited, plain_pool, put_bytes, put_into}
use Rattle.pm_view.specs.Entries.{turn}
use Rattle.pm_view.specs.Places.{Block, Small, Big, Root}
use Rattle.pm_world.specs.Lanes.{is_occupancy}
use Rattle.pm_world.specs.States.{State, Diff, after_diff}
use Rattle.pm_world.proofs.Replays.{over_none}
use Rattle.pm_crash.specs.Objects.{IsGoodHeap, StandsIn, is_allocated, item_in, item_of, lines_of, offset_of}
use Rattle.pm_crash.specs.Spelled.{Holds, words_by}
use Rattle.pm_crash.specs.Writes.{IsWritten, ReadsFindBytes, WritesBytes, WritesPutBytes}
use Rattle.pm_crash.proofs.Apart.{apart, rising}
use Rattle.pm_crash.proofs.BitsBlocks as told
use Rattle.pm_crash.proofs.Bytewise.{byte_kept, byte_written, length-put, put_among, put_before, put_behind}
use Rattle.pm_crash.proofs.ChangedHeaps.{blocks_change, blocks_stay, occupancy_of}
use Rattle.pm_crash.proofs.Covered.{covered_has_byte}
use Rattle.pm_crash.proofs.GoodBits.{held_good}
use Rattle.pm_crash.proofs.ItemsOfBits.{blocks_have_items, items_have_blocks, offsets_tell}
use Rattle.pm_crash.proofs.ObjectBytes.{aligned_range, byte_of_object}
use Rattle.pm_crash.proofs.Told.{items_told}

-- a block begins a word
pub begins_word : (sh : Shape) (class : ℕ → ℕ) (s : State) (B : Block) → (lines_of sh class s B).place % 8 ≡ 0
begins_word sh class s (Small c i) = let before : ℕ = class c * i in omega arith
begins_word sh class s (Big f) = omega arith
begins_word sh class s Root = refl

pub reads_find : ReadsFindBytes
reads_find sh class s B at len inside = aligned_range (words_by sh class s) at len (lines_of sh class s B) (begins_word sh class s B) inside

-- ---- THE BYTES OF ONE OBJECT

module _ (w v : ℕ → ℕ) (block : Lines) (at : ℕ) (bytes : List ℕ) (begins : block.place % 8 ≡ 0)
    (inside : at + length bytes ≤ size_in w block) (are : AreBytes bytes) (write : IsWritten w v (offset_in block + at) bytes) where
  pub header_kept : (k : ℕ) → k < 8 → header_word v block k ≡ header_word w block k
  header_kept k low = write.others (block.place / 8 + k) (λ there.
      let has = covered_has_byte (offset_in block + at) (length bytes) (block.place / 8 + k) there in
      let above = has.2 in omega arith)

  -- byte k of them
  written_byte : (k : ℕ) → k < size_in w block → get_or (bytes_in v block) k 0 ≡ get_or (put_bytes at bytes (bytes_in w block)) k 0
  written_byte k low =
      let size : size_in v block ≡ size_in w block = header_kept 1 (omega arith) in
      let old : length (bytes_in w block) ≡ size_in w block = length-bytes_in w block in
      let n : ℕ = offset_in block + k in
      let place : ℕ = offset_in block + at in
      let kept : (n < place) ⊎ (place + length bytes ≤ n) → get_or (bytes_in v block) k 0 ≡ get_or (bytes_in w block) k 0 =
      λ outside. byte_of_object v block k begins (omega arith) ∙ byte_kept w v place bytes n are write outside ∙ sym (byte_of_object w block k begins low) in
      ⊎_elim
      (λ (before : k < at). kept (inl (omega arith)) ∙ sym (put_before at bytes (bytes_in w block) k (omega arith) before))
      (λ (from : at ≤ k). ⊎_elim
      (λ (to : k < at + length bytes).
      let index : n - place ≡ k - at = omega arith in
      byte_of_object v block k begins (omega arith)
      ∙ byte_written w v place bytes n are write (omega arith) (omega arith)
      ∙ ap (λ (j : ℕ). get_or bytes j 0) index
      ∙ sym (put_among at bytes (bytes_in w block) k (omega arith) from to))
      (λ (behind : at + length bytes ≤ k). kept (inr (omega arith)) ∙ sym (put_behind at bytes (bytes_in w block) k (omega arith) behind))
      (cases_lt k (at + length bytes)))
      (cases_lt k at)

  bytes_put : bytes_in v block ≡ put_bytes at bytes (bytes_in w block)
  bytes_put =
      let size : size_in v block ≡ size_in w block = header_kept 1 (omega arith) in
      let old : length (bytes_in w block) ≡ size_in w block = length-bytes_in w block in
      let new : length (bytes_in v block) ≡ size_in v block = length-bytes_in v block in
      let put : length (put_bytes at bytes (bytes_in w block)) ≡ length (bytes_in w block) = length-put at bytes (bytes_in w block) (omega arith) in
      ext_get_or 0 (bytes_in v block) (put_bytes at bytes (bytes_in w block)) (new ∙ size ∙ sym old ∙ sym put)
      (λ k low. written_byte k (omega arith))

  pub item_put : item_in v block ≡ record (item_in w block) { bytes = put_bytes at bytes (bytes_in w block) }
  item_put = let kind : kind_in v block ≡ kind_in w block = header_kept 0 (omega arith) in
      let put = bytes_put in
      λ i. record { kind = kind i; bytes = put i; members = []; list = None }

-- ---- AND OF NO OTHER

pub item_kept : (w v : ℕ → ℕ) (block : Lines) → AgreeOn (ReadsBlock w block) w v → item_in v block ≡ item_in w block
item_kept w v block agree = let y = contents_local w v block agree in
    λ i. record { kind = y.same_kind i; bytes = y.same_bytes i; members = []; list = None }

same_some : {A : Type 0} → (a b : A) → Some a ≡ Some b → a ≡ b
same_some {A = A} a b e = ap (λ (z : Option A). Rattle.std.specs.Prelude.unwrap_or z a) e

module _ (sh : Shape) (class : ℕ → ℕ) (s : State) (d : Diff) (header : Header) (pool pool' : PoolView) (B : Block) (at : ℕ) (bytes : List ℕ)
    (holds : Holds sh class s header pool) (write : WritesBytes sh class s d B at bytes) (after : Holds sh class (after_diff d s) header pool') where
  abbrev s' : State
  s' = after_diff d s

  abbrev w : ℕ → ℕ
  w = words_by sh class s

  abbrev v : ℕ → ℕ
  v = words_by sh class s'

  good : IsGoodHeap sh class s
  good = held_good sh class s header pool holds

  lies : (C : Block) → lines_of sh class s' C ≡ lines_of sh class s C
  lies C = blocks_stay sh class s d write.changes.blocks write.changes.descriptors C (write.stay C)

  same_allocated : (C : Block) → is_occupancy sh C ≡ true → is_allocated sh s' C ≡ is_allocated sh s C
  same_allocated C o = blocks_change sh class s d write.changes.blocks write.changes.descriptors good C o ∙ over_none (turn d C) (is_allocated sh s C) (write.stay C)

  before : (C : Block) → is_allocated sh s' C ≡ true → is_allocated sh s C ≡ true
  before C a = sym (same_allocated C (occupancy_of sh class s d write.changes.blocks write.changes.descriptors good C s' a)) ∙ a

  still : (C : Block) → is_allocated sh s C ≡ true → is_allocated sh s' C ≡ true
  still C a = same_allocated C (occupancy_of sh class s d write.changes.blocks write.changes.descriptors good C s a) ∙ a

  stands : (C : Block) → is_allocated sh s C ≡ true → Contains (blocks w sh.lanes sh.zones) (lines_of sh class s C)
  stands C a = told.allocated_block sh class s good.runs good.whole C a

  this : item_of sh class s' B ≡ record (item_of sh class s B) { bytes = put_bytes at bytes (item_of sh class s B).bytes }
  this = ap (item_in v) (lies B) ∙ item_put w v (lines_of sh class s B) at bytes (begins_word sh class s B) write.inside write.are_bytes write.is_written

  other : (C : Block) → is_allocated sh s C ≡ true → offset_of sh class s C ≢ offset_of sh class s B → item_of sh class s' C ≡ item_of sh class s C
  other C a ne = ap (item_in v) (lies C) ∙ item_kept w v (lines_of sh class s C) (record {
    same = λ i read.
        let mine : Lines = lines_of sh class s B in
        let theirs : Lines = lines_of sh class s C in
        let fits : 8 + data_words (size_in w mine) ≤ 8 * mine.lines = object_fits w mine (good.blocks B write.allocated).0 in
        let room : 8 + data_words (size_in w theirs) ≤ 8 * theirs.lines = object_fits w theirs (good.blocks C a).0 in
        let enough = div_ceil_times (size_in w mine) 8 (omega arith) in
        let inside : at + length bytes ≤ size_in w mine = write.inside in
        let begins : mine.place % 8 ≡ 0 = begins_word sh class s B in
        let whole : theirs.place % 8 ≡ 0 = begins_word sh class s C in
        let from : theirs.place / 8 ≤ i = read.from in
        let to : i < theirs.place / 8 + 8 + data_words (size_in w theirs) = read.to in
        sym (write.is_written.others i (λ t.
        let has = covered_has_byte (offset_in mine + at) (length bytes) i t in
        let below : 8 * i < offset_in mine + at + length bytes = has.1 in
        let above : offset_in mine + at < 8 * i + 8 = has.2 in
        ⊎_elim
        (λ (e : theirs ≡ mine). ne (ap (λ (b : Lines). offset_in b) e))
        (λ (y : (theirs.place + 64 * theirs.lines ≤ mine.place) ⊎ (mine.place + 64 * mine.lines ≤ theirs.place)). ⊎_elim
        (λ (q : theirs.place + 64 * theirs.lines ≤ mine.place). omega arith)
        (λ (q : mine.place + 64 * mine.lines ≤ theirs.place). omega arith) y)
        (apart 0 (blocks w sh.lanes sh.zones) theirs mine (rising w sh.lanes sh.zones holds.no_fault) (stands C a) (stands B write.allocated))));
  })

  abbrev old : Items
  old = (plain_pool pool).items

  abbrev put : Option Item → Option Item
  put = option_map (λ (i : Item). record i { bytes = put_bytes at bytes i.bytes })

  abbrev new : Items
  new = edited (put_into (offset_of sh class s B) at bytes) old

  at_this : (off : ℕ) → (offset_of sh class s B == off) ≡ true → new off ≡ Some (item_of sh class s' B)
  at_this off t = cond-true (offset_of sh class s B == off) (put (old off)) (old off) t
      ∙ (ap (λ n. put (old n)) (sym (eqb-true (offset_of sh class s B) off t))
      ∙ (ap put (blocks_have_items sh class s header pool holds B write.allocated) ∙ ap (λ (i : Item). Some i) (sym this)))

  at_other : (off : ℕ) → (offset_of sh class s B == off) ≡ false → new off ≡ old off
  at_other off t = cond-false (offset_of sh class s B == off) (put (old off)) (old off) t

  differs : (off n : ℕ) → (n == off) ≡ false → off ≢ n
  differs off n t e = both_ways (n == off) t (eq-eqb n off (sym e))

  has : (C : Block) → is_allocated sh s' C ≡ true → new (offset_of sh class s' C) ≡ Some (item_of sh class s' C)
  has C a = let b = before C a in
      ap (λ (l : Lines). new (offset_in l)) (lies C)
      ∙ ⊎_elim
      (λ (t : (offset_of sh class s B == offset_of sh class s C) ≡ true).
      at_this (offset_of sh class s C) t
      ∙ ap (λ D. Some (item_of sh class s' D))
      (offsets_tell sh class s header pool holds B C write.allocated b (eqb-true (offset_of sh class s B) (offset_of sh class s C) t)))
      (λ (t : (offset_of sh class s B == offset_of sh class s C) ≡ false).
      at_other (offset_of sh class s C) t
      ∙ (blocks_have_items sh class s header pool holds C b
      ∙ ap (λ (i : Item). Some i) (sym (other C b (differs (offset_of sh class s C) (offset_of sh class s B) t)))))
      (cases_Bool (offset_of sh class s B == offset_of sh class s C))

  each_stands : (off : ℕ) (item : Item) → new off ≡ Some item → StandsIn sh class s' off item
  each_stands off item e = ⊎_elim
      (λ (t : (offset_of sh class s B == off) ≡ true). record {
        block = B;
        allocated = still B write.allocated;
        at = sym (eqb-true (offset_of sh class s B) off t) ∙ ap (λ (l : Lines). offset_in l) (sym (lies B));
        is = same_some item (item_of sh class s' B) (sym e ∙ at_this off t);
      })
      (λ (t : (offset_of sh class s B == off) ≡ false).
      let y : StandsIn sh class s off item = items_have_blocks sh class s header pool holds off item (sym (at_other off t) ∙ e) in
      record {
        block = y.block;
        allocated = still y.block y.allocated;
        at = y.at ∙ ap (λ (l : Lines). offset_in l) (sym (lies y.block));
        is = y.is ∙ sym (other y.block y.allocated (λ q. differs off (offset_of sh class s B) t (y.at ∙ q)));
      })
      (cases_Bool (offset_of sh class s B == off))

  pub put_there : (off : ℕ) → (plain_pool pool').items off ≡ edited (put_into (offset_of sh class s B) at bytes) (plain_pool pool).items off
  put_there off = items_told sh class s' header pool' new after has each_stands off

pub writes_put : WritesPutBytes
writes_put sh class s d header pool pool' B at bytes holds write after off = put_there sh class s d header pool pool' B at bytes holds write after off
