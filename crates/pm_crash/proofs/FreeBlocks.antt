-- A block of the lane's own is free in the pool before its call.
use Rattle.std.proofs.Common.{◌≡◌, ℕ, ◌+◌, ◌-◌, ◌*◌, ◌/◌, ◌%◌, ◌<◌, ◌≤◌, nat_le, nat_lt, ◌&&◌, ◌==◌, not, Bool, true, false, List, [], ◌∷◌, length, Option, Some, None, refl, sym, ◌∙◌, ap, subst, arith}
use Rattle.std.proofs.lemmas.Bool.{and_from, and_parts, both_ways, eqb-true, false_from_ne_true, le-leb, leb-true, lt-ltb, ltb-true, not-true}
use Rattle.pm_header.specs.declared.header.Header.{Header}
use Rattle.pm_layout.specs.Chunks.{chunks_of, line_of_chunk}
use Rattle.pm_layout.specs.Sizes.{class_of}
use Rattle.pm_layout.specs.declared.shape.Shape.{Shape}
use Rattle.pm_objects.specs.Pool.{block_lines}
use Rattle.pm_objects.specs.declared.pool.PoolView.{PoolView}
use Rattle.pm_image.specs.Blocks.{chunk_word}
use Rattle.pm_image.specs.Contents.{size_in}
use Rattle.pm_image.specs.HeapFaults.{good_block}
use Rattle.pm_image.proofs.Pools.{length-bytes_in}
use Rattle.pm_model.specs.Blocks.{AreAllFree, Block as Placed, IsFree, covers, item_covers}
use Rattle.pm_model.specs.Items.{Item, plain_pool}
use Rattle.pm_view.specs.Claims.{class}
use Rattle.pm_view.specs.Places.{InRun, Descr, Block, Small, Big, Root, Geometry}
use Rattle.pm_view.specs.View.{View}
use Rattle.pm_world.specs.BlockLines.{IsLineOf, chunks_told}
use Rattle.pm_world.specs.Lanes.{is_occupancy}
use Rattle.pm_world.specs.States.{State, there, val}
use Rattle.pm_crash.specs.Objects.{IsGoodHeap, is_allocated, item_of, lines_of}
use Rattle.pm_crash.specs.OwnBlocks.{own_span}
use Rattle.pm_crash.specs.Sim.{Agrees, known_offset}
use Rattle.pm_crash.specs.SimAllocs.{HasBlockFor, HaveBlocksFor, IsInZone}
use Rattle.pm_crash.specs.SimBlocks.{HasLineTo}
use Rattle.pm_crash.specs.Looked.{words_in}
use Rattle.pm_crash.specs.Spelled.{Holds, has_blocks, words_by}
use Rattle.pm_crash.proofs.ChangedHeaps.{next_times}
use Rattle.pm_crash.proofs.GoodBits.{held_good}
use Rattle.pm_crash.proofs.ItemsOfBits.{items_have_blocks}
use Rattle.pm_crash.proofs.OwnEntries.{kept_is_own}

-- a line that an object of its size has is one of its block's, as the lane knows
room_line : (v : View) (B : Block) (off lines l : ℕ) → is_occupancy v.fixed.shape B ≡ true → known_offset v B ≡ off → 8 * lines ≡ words_in v B → IsInZone v B
    → off / 64 - 1 ≤ l → l < off / 64 - 1 + lines → HasLineTo v B l
room_line v (Small c i) off lines l o at e zone low high =
    let cl : ℕ = class v.claims c in
    let m : ℕ = class v.claims c * i in
    let next = next_times (class v.claims c) i in
    let at_ : 64 * (line_of_chunk v.fixed.shape c + (1 + m)) + 64 ≡ off = at in
    let e_ : 8 * lines ≡ 8 * cl = e in
    record { from = omega arith; to = omega arith }
room_line v (Big f) off lines l o at e zone low high =
    let at_ : 64 * line_of_chunk v.fixed.shape f + 64 ≡ off = at in
    let n : ℕ = own_span v f in
    let e_ : 8 * lines ≡ 512 * n = e in
    let z : f % 64 + n ≤ 64 = zone in
    let g : ℕ = f + (l - line_of_chunk v.fixed.shape f) / 64 in
    (g, and_from (nat_le f g) (nat_lt g (f + n)) (le-leb f g (omega arith)) (lt-ltb g (f + n) (omega arith)), record { from = omega arith; to = omega arith })
room_line v Root off lines l o at e zone low high = absurd (both_ways false refl o)

module _ (sh : Shape) (classes : ℕ → ℕ) (s : State) (header : Header) (pool : PoolView) (holds : Holds sh classes s header pool) where
  abbrev G : Geometry
  G = record { first = λ c. c; class = classes }

  good : IsGoodHeap sh classes s
  good = held_good sh classes s header pool holds

  -- a line of an allocated block
  line_before : (C : Block) (line : ℕ) → is_allocated sh s C ≡ true → (lines_of sh classes s C).place ≤ 64 * line
      → 64 * line < (lines_of sh classes s C).place + 64 * (lines_of sh classes s C).lines → (there s C ≡ true) × IsLineOf sh G (chunks_told s C) C line
  line_before (Small c i) line a low high =
      let m : ℕ = classes c * i in
      let next = next_times (classes c) i in
      let low_ : 8 * chunk_word sh.lanes c + 64 * (1 + m) ≤ 64 * line = low in
      let high_ : 64 * line < 8 * chunk_word sh.lanes c + 64 * (1 + m) + 64 * classes c = high in
      ((and_parts (is_occupancy sh (Small c i)) (s (InRun c 0) i) a).1, record { from = omega arith; to = omega arith })
  line_before (Big f) line a low high =
      let y = and_parts (nat_lt f (chunks_of sh)) (not (has_blocks s f) && s (Descr f) 1) a in
      let z = and_parts (not (has_blocks s f)) (s (Descr f) 1) y.1 in
      let zone = (good.whole f (ltb-true f (chunks_of sh) y.0) (not-true (has_blocks s f) z.0) z.1).in_zone in
      let n : ℕ = val (s (Descr f)) 8 56 in
      let low_ : 8 * chunk_word sh.lanes f ≤ 64 * line = low in
      let high_ : 64 * line < 8 * chunk_word sh.lanes f + 64 * (64 * n) = high in
      let g : ℕ = f + (line - line_of_chunk sh f) / 64 in
      (z.1, (g, and_from (nat_le f g) (nat_lt g (f + n)) (le-leb f g (omega arith)) (lt-ltb g (f + n) (omega arith)), record { from = omega arith; to = omega arith }))
  line_before Root line a low high = absurd (both_ways false refl a)

  -- and an object's lines are its block's
  lines_by : (C : Block) → is_allocated sh s C ≡ true → block_lines (class_of (length (item_of sh classes s C).bytes)) ≡ (lines_of sh classes s C).lines
  unfolding good_block
  lines_by C a =
      let w : ℕ → ℕ = words_by sh classes s in
      let b = lines_of sh classes s C in
      let y = and_parts (nat_le 1 (size_in w b) && nat_le (size_in w b) 262080 && block_lines (class_of (size_in w b)) == b.lines && w (b.place / 8 + 6) == 0) (w (b.place / 8 + 7) == 0) (good.blocks C a).0 in
      let z = and_parts (nat_le 1 (size_in w b) && nat_le (size_in w b) 262080 && block_lines (class_of (size_in w b)) == b.lines) (w (b.place / 8 + 6) == 0) y.0 in
      let q = and_parts (nat_le 1 (size_in w b) && nat_le (size_in w b) 262080) (block_lines (class_of (size_in w b)) == b.lines) z.0 in
      ap (λ n. block_lines (class_of n)) (length-bytes_in w b) ∙ eqb-true (block_lines (class_of (size_in w b))) b.lines q.1

  module _ (v : View) (same : v.fixed.shape ≡ sh) (kept : Bool) (x : Agrees classes v kept s) (taken : List Placed) (b : Placed) (room : HasBlockFor v kept taken b) where
    none_covers : (l off : ℕ) → covers b l ≡ true → (o : Option Item) → (plain_pool pool).items off ≡ o → item_covers off o l ≡ false
    none_covers l off cov None e = refl
    none_covers l off cov (Some item) e = false_from_ne_true (item_covers off (Some item) l) (λ t.
        let C = items_have_blocks sh classes s header pool holds off item e in
        let mine = and_parts (nat_le (b.off / 64 - 1) l) (nat_lt l (b.off / 64 - 1 + block_lines (class_of b.size))) cov in
        let its = and_parts (nat_le (off / 64 - 1) l) (nat_lt l (off / 64 - 1 + block_lines (class_of (length item.bytes)))) t in
        let own = room_line v room.block b.off (block_lines (class_of b.size)) l room.inside room.at room.lines room.zone (leb-true (b.off / 64 - 1) l mine.0) (ltb-true l (b.off / 64 - 1 + block_lines (class_of b.size)) mine.1) in
        let many : block_lines (class_of (length item.bytes)) ≡ (lines_of sh classes s C.block).lines = ap (λ (i : Item). block_lines (class_of (length i.bytes))) C.is ∙ lines_by C.block C.allocated in
        let at : off ≡ (lines_of sh classes s C.block).place + 64 = C.at in
        let whole = whole_line C.block C.allocated in
        let low = leb-true (off / 64 - 1) l its.0 in
        let high = ltb-true l (off / 64 - 1 + block_lines (class_of (length item.bytes))) its.1 in
        let has = line_before C.block l C.allocated (omega arith) (omega arith) in
        x.apart room.block C.block l room.own (record { mine = kept_is_own v kept room.block room.own; has = own })
        (record { allocated = has.0; has = subst (λ (h : Shape). IsLineOf h G (chunks_told s C.block) C.block l) (sym same) has.1 }))
      where
        whole_line : (D : Block) → is_allocated sh s D ≡ true → (lines_of sh classes s D).place % 64 ≡ 0
        whole_line (Small c i) a = let m : ℕ = classes c * i in let e : (8 * chunk_word sh.lanes c + 64 * (1 + m)) % 64 ≡ 0 = omega arith in e
        whole_line (Big f) a = let e : (8 * chunk_word sh.lanes f) % 64 ≡ 0 = omega arith in e
        whole_line Root a = absurd (both_ways false refl a)

    pub is_free : IsFree (plain_pool pool).items taken b
    is_free = record { objects = λ l off cov. none_covers l off cov ((plain_pool pool).items off) refl; others = room.others }

  pub are_free : (v : View) → v.fixed.shape ≡ sh → (kept : Bool) → Agrees classes v kept s → (taken blocks : List Placed) → HaveBlocksFor v kept taken blocks → AreAllFree (plain_pool pool).items taken blocks
  unfolding HaveBlocksFor
  are_free v same kept x taken [] rooms = tt
  are_free v same kept x taken (b ∷ blocks) rooms = (is_free v same kept x taken b rooms.0, are_free v same kept x (b ∷ taken) blocks rooms.1)
