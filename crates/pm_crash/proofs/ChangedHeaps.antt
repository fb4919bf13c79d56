-- Bits after a difference that makes and frees blocks hold their pool.
use Rattle.std.proofs.Common.{◌≡◌, ◌⊎◌, ⊎_elim, inl, inr, ℕ, suc, ◌+◌, ◌-◌, ◌*◌, ◌%◌, ◌<◌, ◌≤◌, nat_le, nat_lt, ◌&&◌, not, Bool, true, false, Option, Some, None, refl, sym, ◌∙◌, ap, arith}
use Rattle.std.proofs.Math.Nat.{mul_comm}
use Rattle.std.proofs.lemmas.Bool.{and_from, and_parts, and_right, both_ways, cases_Bool, false_from_ne_true, le-leb, lt-ltb, ltb-true, not-true, not_from_false, not_from_true}
use Rattle.pm_layout.specs.Chunks.{chunks_of, line_of_chunk}
use Rattle.pm_layout.specs.Sizes.{blocks_of}
use Rattle.pm_layout.specs.declared.shape.Shape.{Shape}
use Rattle.pm_image.specs.Blocks.{chunk_word}
use Rattle.pm_image.specs.HeapFaults.{good_block}
use Rattle.pm_image.specs.Narrowings.{takes_links}
use Rattle.pm_image.specs.Reads.{AgreeOn}
use Rattle.pm_image.proofs.Heads.{ReadsHeader}
use Rattle.pm_image.proofs.LocalHeap.{good_block_same, takes_links_same}
use Rattle.pm_image.proofs.Rooms.{run_fits}
use Rattle.pm_view.specs.Entries.{turn}
use Rattle.pm_view.specs.Places.{InRun, InHuge, Descr, Block, Small, Big, Root}
use Rattle.pm_world.specs.BlockLines.{AllocatedHas}
use Rattle.pm_world.specs.Lanes.{is_occupancy}
use Rattle.pm_world.specs.States.{State, Diff, after_diff, given, over, val}
use Rattle.pm_world.proofs.Replays.{over_none}
use Rattle.pm_crash.specs.HeapChanges.{ChangesBlocks, BlocksChange, BlocksStay, ChangedHeapsHold, ChangesHeap, Makes}
use Rattle.pm_crash.specs.Objects.{IsGoodHeap, IsWhole, is_allocated, lines_of}
use Rattle.pm_crash.specs.Spelled.{has_blocks, number, words_by}
use Rattle.pm_crash.proofs.Classes.{run_has_lines}
use Rattle.pm_crash.proofs.GoodBits.{good_holds, held_good}
use Rattle.pm_crash.proofs.Spelling.{chunk_spelled, some_block, with_block}

pub option_cases : (a : Option Bool) → (given a ≡ false) ⊎ ((a ≡ Some true) ⊎ (a ≡ Some false))
option_cases None = inl refl
option_cases (Some true) = inr (inl refl)
option_cases (Some false) = inr (inr refl)

pub next_times : (m i : ℕ) → m * suc i ≡ m * i + m
next_times m i = mul_comm m (suc i) ∙ (let e : suc i * m ≡ i * m + m = omega arith in e ∙ ap (λ n. n + m) (mul_comm i m))

module _ (sh : Shape) (class : ℕ → ℕ) (s : State) (d : Diff) (cb : ChangesBlocks sh class s d)
    (descriptors : (f b : ℕ) → given (turn d (Big f)) ≡ false → given (d (Descr f) b) ≡ false) where
  abbrev s' : State
  s' = after_diff d s

  pub blocks_stay : (B : Block) → given (turn d B) ≡ false → lines_of sh class (after_diff d s) B ≡ lines_of sh class s B
  blocks_stay (Small c i) e = refl
  blocks_stay (Big f) e = ap (λ w. record { place = 8 * chunk_word sh.lanes f; lines = 64 * val w 8 56 }) (λ i b. over_none (d (Descr f) b) (s (Descr f) b) (descriptors f b e) i)
  blocks_stay Root e = refl

  module _ (g : IsGoodHeap sh class s) where
    -- ---- NO BLOCK IS MADE WHERE A HUGE ONE IS
    huge_alone : (f c : ℕ) (B : Block) (line : ℕ) → is_allocated sh s (Big f) ≡ true → f ≤ c → c < f + val (s (Descr f)) 8 56 → Makes d B
        → AllocatedHas sh (after_diff d s) (record { first = λ c. c; class = class }) B line → line_of_chunk sh c ≤ line → line < line_of_chunk sh c + 64 → ⊥
    huge_alone f c B line a from to m has low high = cb.apart B (Big f) line m has a (record {
      allocated = (and_parts (not (has_blocks s f)) (s (Descr f) 1) (and_parts (nat_lt f (chunks_of sh)) (not (has_blocks s f) && s (Descr f) 1) a).1).1;
      has = (c, and_from (nat_le f c) (nat_lt c (f + val (s (Descr f)) 8 56)) (le-leb f c from) (lt-ltb c (f + val (s (Descr f)) 8 56) to), record { from = low; to = high });
    })

    small_alone : (f c i : ℕ) → is_allocated sh s (Big f) ≡ true → f ≤ c → c < f + val (s (Descr f)) 8 56 → Makes d (Small c i) → ⊥
    small_alone f c i a from to m =
        let inside = cb.of_run c i m in
        let some = run_has_lines (class c) i inside in
        let fit = run_fits (class c) i inside in
        let next = next_times (class c) i in
        let before : ℕ = class c * i in
        huge_alone f c (Small c i) (line_of_chunk sh c + 1 + class c * i) a from to m
        (record { allocated = ap (λ o. over o (s (InRun c 0) i)) m; has = record { from = omega arith; to = omega arith } }) (omega arith) (omega arith)

    big_alone : (f c : ℕ) → is_allocated sh s (Big f) ≡ true → f ≤ c → c < f + val (s (Descr f)) 8 56 → Makes d (Big c) → ⊥
    big_alone f c a from to m =
        let some = (cb.of_chunks c m).1.some in
        huge_alone f c (Big c) (line_of_chunk sh c) a from to m
        (record {
          allocated = ap (λ o. over o (s (Descr c) 1)) m;
          has = (c, and_from (nat_le c c) (nat_lt c (c + val (s' (Descr c)) 8 56)) (le-leb c c (omega arith)) (lt-ltb c (c + val (s' (Descr c)) 8 56) (omega arith)), record { from = omega arith; to = omega arith });
        }) (omega arith) (omega arith)

    -- ---- WHICH CHUNKS HAVE BLOCKS

    -- one that had none has none, but where one is made
    still_none : (c : ℕ) → has_blocks s c ≡ false → ((i : ℕ) → Makes d (Small c i) → ⊥) → has_blocks s' c ≡ false
    still_none c e unmade = false_from_ne_true (has_blocks s' c) (λ t. let y = some_block s' c t in
        ⊎_elim
        (λ (q : given (d (InRun c 0) y.0) ≡ false). both_ways (has_blocks s c) e (with_block s c y.0 y.1 (sym (over_none (d (InRun c 0) y.0) (s (InRun c 0) y.0) q) ∙ y.2)))
        (λ q. ⊎_elim (λ (z : d (InRun c 0) y.0 ≡ Some true). unmade y.0 z)
        (λ (z : d (InRun c 0) y.0 ≡ Some false). both_ways false refl (sym (ap (λ o. over o (s (InRun c 0) y.0)) z) ∙ y.2)) q)
        (option_cases (d (InRun c 0) y.0)))

    -- one described as huge had none, where it has none
    had_none : (f : ℕ) → s (Descr f) 1 ≡ true → has_blocks s' f ≡ false → has_blocks s f ≡ false
    had_none f t e = false_from_ne_true (has_blocks s f) (λ q. let y = some_block s f q in
        ⊎_elim
        (λ (z : given (d (InRun f 0) y.0) ≡ false). both_ways (has_blocks s' f) e (with_block s' f y.0 y.1 (over_none (d (InRun f 0) y.0) (s (InRun f 0) y.0) z ∙ y.2)))
        (λ z. ⊎_elim (λ (m : d (InRun f 0) y.0 ≡ Some true). both_ways (has_blocks s' f) e (with_block s' f y.0 y.1 (ap (λ o. over o (s (InRun f 0) y.0)) m)))
        (λ (m : d (InRun f 0) y.0 ≡ Some false). both_ways (s (Descr f) 1) (cb.plain f y.0 m) t) z)
        (option_cases (d (InRun f 0) y.0)))

    was_huge : (f : ℕ) → f < chunks_of sh → has_blocks s f ≡ false → s (Descr f) 1 ≡ true → is_allocated sh s (Big f) ≡ true
    was_huge f l e t = and_from (nat_lt f (chunks_of sh)) (not (has_blocks s f) && s (Descr f) 1) (lt-ltb f (chunks_of sh) l)
        (and_from (not (has_blocks s f)) (s (Descr f) 1) (not_from_false (has_blocks s f) e) t)

    same_descr : (f : ℕ) → given (turn d (Big f)) ≡ false → s' (Descr f) ≡ s (Descr f)
    same_descr f e = λ i b. over_none (d (Descr f) b) (s (Descr f) b) (descriptors f b e) i

    -- ---- THE CHUNKS ARE GOOD

    pub runs : (c i : ℕ) → c < chunks_of sh → i < 64 → s' (InRun c 0) i ≡ true → i < blocks_of (class c)
    runs c i l m t = ⊎_elim
        (λ (q : given (d (InRun c 0) i) ≡ false). g.runs c i l m (sym (over_none (d (InRun c 0) i) (s (InRun c 0) i) q) ∙ t))
        (λ q. ⊎_elim (λ (z : d (InRun c 0) i ≡ Some true). cb.of_run c i z)
        (λ (z : d (InRun c 0) i ≡ Some false). absurd (both_ways false refl (sym (ap (λ o. over o (s (InRun c 0) i)) z) ∙ t))) q)
        (option_cases (d (InRun c 0) i))

    pub whole : (f : ℕ) → f < chunks_of sh → has_blocks s' f ≡ false → s' (Descr f) 1 ≡ true → IsWhole s' f
    whole f l e t = ⊎_elim
        (λ (q : given (d (Descr f) 1) ≡ false).
        let same = same_descr f q in
        let was : s (Descr f) 1 ≡ true = ap (λ w. w 1) (sym same) ∙ t in
        let none = had_none f was e in
        let a = was_huge f l none was in
        let y = g.whole f l none was in
        let many : val (s' (Descr f)) 8 56 ≡ val (s (Descr f)) 8 56 = ap (λ w. val w 8 56) same in
        record {
          low = ap (λ w. number w % 256) same ∙ y.low;
          some = let z = y.some in omega arith;
          in_zone = let z = y.in_zone in omega arith;
          rest = λ c from to. let r = y.rest c from (omega arith) in (
            still_none c r.0 (λ i m. small_alone f c i a (omega arith) (omega arith) m),
            false_from_ne_true (s' (Descr c) 1) (λ n. ⊎_elim
                (λ (z : given (d (Descr c) 1) ≡ false). both_ways (s (Descr c) 1) r.1 (sym (over_none (d (Descr c) 1) (s (Descr c) 1) z) ∙ n))
                (λ z. ⊎_elim (λ (m : d (Descr c) 1 ≡ Some true). big_alone f c a (omega arith) (omega arith) m)
                (λ (m : d (Descr c) 1 ≡ Some false). both_ways false refl (sym (ap (λ o. over o (s (Descr c) 1)) m) ∙ n)) z)
                (option_cases (d (Descr c) 1))),
          );
        })
        (λ q. ⊎_elim (λ (z : d (Descr f) 1 ≡ Some true). (cb.of_chunks f z).1)
        (λ (z : d (Descr f) 1 ≡ Some false). absurd (both_ways false refl (sym (ap (λ o. over o (s (Descr f) 1)) z) ∙ t))) q)
        (option_cases (d (Descr f) 1))

    -- ---- BLOCKS

    pub blocks_change : (B : Block) → is_occupancy sh B ≡ true → is_allocated sh s' B ≡ over (turn d B) (is_allocated sh s B)
    blocks_change (Small c i) o = by_turn (d (InRun c 0) i)
      where
        by_turn : (a : Option Bool) → (is_occupancy sh (Small c i) && (true && over a (s (InRun c 0) i))) ≡ over a (is_occupancy sh (Small c i) && (true && s (InRun c 0) i))
        by_turn None = refl
        by_turn (Some y) = ap (λ t. t && y) o
    blocks_change (Big f) o = ⊎_elim
        (λ (q : given (d (Descr f) 1) ≡ false).
        let same : s' (Descr f) 1 ≡ s (Descr f) 1 = over_none (d (Descr f) 1) (s (Descr f) 1) q in
        over_at (d (Descr f) 1) q
        (ap (λ t. nat_lt f (chunks_of sh) && (not (has_blocks s' f) && t)) same ∙ ap (λ t. nat_lt f (chunks_of sh) && t) (by_bit (s (Descr f) 1) refl)))
        (λ q. ⊎_elim
        (λ (z : d (Descr f) 1 ≡ Some true).
        let e = (cb.of_chunks f z).0 in
        let set : s' (Descr f) 1 ≡ true = ap (λ t. over t (s (Descr f) 1)) z in
        and_from (nat_lt f (chunks_of sh)) (not (has_blocks s' f) && s' (Descr f) 1) o (and_from (not (has_blocks s' f)) (s' (Descr f) 1) (not_from_false (has_blocks s' f) e) set)
        ∙ sym (ap (λ t. over t (is_allocated sh s (Big f))) z))
        (λ (z : d (Descr f) 1 ≡ Some false).
        let clear : s' (Descr f) 1 ≡ false = ap (λ t. over t (s (Descr f) 1)) z in
        and_right (nat_lt f (chunks_of sh)) (not (has_blocks s' f) && s' (Descr f) 1) (and_right (not (has_blocks s' f)) (s' (Descr f) 1) clear)
        ∙ sym (ap (λ t. over t (is_allocated sh s (Big f))) z)) q)
        (option_cases (d (Descr f) 1))
      where
        over_at : (a : Option Bool) → given a ≡ false → {x y : Bool} → x ≡ y → x ≡ over a y
        over_at None e q = q
        over_at (Some b) e q = absurd (both_ways true e refl)

        no_blocks : s (Descr f) 1 ≡ true → has_blocks s' f ≡ has_blocks s f
        no_blocks t = ⊎_elim
            (λ (e : has_blocks s f ≡ true). ⊎_elim
            (λ (n : has_blocks s' f ≡ true). n ∙ sym e)
            (λ (n : has_blocks s' f ≡ false). absurd (both_ways (has_blocks s f) (had_none f t n) e)) (cases_Bool (has_blocks s' f)))
            (λ (e : has_blocks s f ≡ false). still_none f e (λ i m. let l = ltb-true f (chunks_of sh) o in
            let some = (g.whole f l e t).some in small_alone f f i (was_huge f l e t) (omega arith) (omega arith) m) ∙ sym e)
            (cases_Bool (has_blocks s f))

        by_bit : (b : Bool) → s (Descr f) 1 ≡ b → (not (has_blocks s' f) && s (Descr f) 1) ≡ (not (has_blocks s f) && s (Descr f) 1)
        by_bit true t = ap (λ n. not n && s (Descr f) 1) (no_blocks t)
        by_bit false t = and_right (not (has_blocks s' f)) (s (Descr f) 1) t ∙ sym (and_right (not (has_blocks s f)) (s (Descr f) 1) t)
    blocks_change Root o = absurd (both_ways false refl o)

    pub occupancy_of : (B : Block) (t : State) → is_allocated sh t B ≡ true → is_occupancy sh B ≡ true
    occupancy_of (Small c i) t a = (and_parts (is_occupancy sh (Small c i)) (true && t (InRun c 0) i) a).0
    occupancy_of (Big f) t a = (and_parts (nat_lt f (chunks_of sh)) (not (has_blocks t f) && t (Descr f) 1) a).0
    occupancy_of Root t a = absurd (both_ways false refl a)

-- ---- AND ITS WORDS

module _ (sh : Shape) (class : ℕ → ℕ) (s : State) (d : Diff) (h : ChangesHeap sh class s d) where
  abbrev after : State
  after = after_diff d s

  pub lines_stay : (B : Block) → given (turn d B) ≡ false → lines_of sh class (after_diff d s) B ≡ lines_of sh class s B
  lines_stay = blocks_stay sh class s d h.blocks h.descriptors

  module _ (g : IsGoodHeap sh class s) where
    pub changed_to : (B : Block) → is_occupancy sh B ≡ true → is_allocated sh after B ≡ over (turn d B) (is_allocated sh s B)
    changed_to = blocks_change sh class s d h.blocks h.descriptors g

    abbrev has_place : (B : Block) (t : State) → is_allocated sh t B ≡ true → is_occupancy sh B ≡ true
    has_place = occupancy_of sh class s d h.blocks h.descriptors g

    -- the header of a block that stays
    header_same : (B : Block) → is_allocated sh s B ≡ true → is_allocated sh after B ≡ true → given (turn d B) ≡ false
        → AgreeOn (ReadsHeader (lines_of sh class s B)) (words_by sh class s) (words_by sh class after)
    header_same (Small c i) a b e = record {
      same = λ w reads.
          let y = and_parts (is_occupancy sh (Small c i)) (true && s (InRun c 0) i) a in
          let y' = and_parts (is_occupancy sh (Small c i)) (true && after (InRun c 0) i) b in
          let z = and_parts (nat_lt c (chunks_of sh)) (nat_lt i 64) y.0 in
          let l = ltb-true c (chunks_of sh) z.0 in let m = ltb-true i 64 z.1 in
          let fit = run_fits (class c) i (g.runs c i l m y.1) in
          let some = run_has_lines (class c) i (g.runs c i l m y.1) in
          let next = next_times (class c) i in
          let from = reads.from in let to = reads.to in
          let before : ℕ = class c * i in
          let k : ℕ = w - (chunk_word sh.lanes c + 8 * (1 + before)) in
          let r : ℕ = 8 * (1 + before) + k in
          let is : w ≡ chunk_word sh.lanes c + r = omega arith in
          let low : r < 512 = omega arith in
          let few : k < 8 = omega arith in
          let bits : after (InRun c r) ≡ s (InRun c r) = λ j n. over_none (d (InRun c r) n) (s (InRun c r) n) (h.headers (Small c i) k n a e few) j in
          ap (words_by sh class s) is ∙ (spelled s c r l low (with_block s c i m y.1) ∙ (ap number (sym bits)
          ∙ (sym (spelled after c r l low (with_block after c i m y'.1)) ∙ sym (ap (words_by sh class after) is))));
    }
      where
        spelled : (t : State) (c r : ℕ) → c < chunks_of sh → r < 512 → has_blocks t c ≡ true → words_by sh class t (chunk_word sh.lanes c + r) ≡ number (t (InRun c r))
        spelled t c r l low has = chunk_spelled sh class t c r l low ∙ ap (λ p. number (t p)) (Rattle.std.proofs.lemmas.Bool.cond-true (has_blocks t c) (InRun c r) (InHuge c r) has)
    header_same (Big f) a b e = record {
      same = λ w reads.
          let y = and_parts (nat_lt f (chunks_of sh)) (not (has_blocks s f) && s (Descr f) 1) a in
          let y' = and_parts (nat_lt f (chunks_of sh)) (not (has_blocks after f) && after (Descr f) 1) b in
          let z = and_parts (not (has_blocks s f)) (s (Descr f) 1) y.1 in
          let z' = and_parts (not (has_blocks after f)) (after (Descr f) 1) y'.1 in
          let l = ltb-true f (chunks_of sh) y.0 in
          let from = reads.from in let to = reads.to in
          let k : ℕ = w - chunk_word sh.lanes f in
          let is : w ≡ chunk_word sh.lanes f + k = omega arith in
          let few : k < 8 = omega arith in
          let bits : after (InHuge f k) ≡ s (InHuge f k) = λ j n. over_none (d (InHuge f k) n) (s (InHuge f k) n) (h.headers (Big f) k n a e few) j in
          ap (words_by sh class s) is ∙ (spelled s f k l (omega arith) (not-true (has_blocks s f) z.0) ∙ (ap number (sym bits)
          ∙ (sym (spelled after f k l (omega arith) (not-true (has_blocks after f) z'.0)) ∙ sym (ap (words_by sh class after) is))));
    }
      where
        spelled : (t : State) (c r : ℕ) → c < chunks_of sh → r < 512 → has_blocks t c ≡ false → words_by sh class t (chunk_word sh.lanes c + r) ≡ number (t (InHuge c r))
        spelled t c r l low has = chunk_spelled sh class t c r l low ∙ ap (λ p. number (t p)) (Rattle.std.proofs.lemmas.Bool.cond-false (has_blocks t c) (InRun c r) (InHuge c r) has)
    header_same Root a b e = absurd (both_ways false refl a)

    good_blocks : (B : Block) → is_allocated sh after B ≡ true
        → (good_block (words_by sh class after) (lines_of sh class after B) ≡ true) × (takes_links (words_by sh class after) (lines_of sh class after B) ≡ true)
    good_blocks B b =
        let o = has_place B after b in
        let now = changed_to B o in
        ⊎_elim
        (λ (q : given (turn d B) ≡ false).
        let a : is_allocated sh s B ≡ true = sym (over_none (turn d B) (is_allocated sh s B) q) ∙ (sym now ∙ b) in
        let agree = header_same B a b q in
        let y = g.blocks B a in
        let at = lines_stay B q in (
          ap (good_block (words_by sh class after)) at ∙ (good_block_same (words_by sh class s) (words_by sh class after) (lines_of sh class s B) agree ∙ y.0),
          ap (takes_links (words_by sh class after)) at ∙ (takes_links_same (words_by sh class s) (words_by sh class after) (lines_of sh class s B) agree ∙ y.1),
        ))
        (λ q. ⊎_elim (λ (z : turn d B ≡ Some true). h.sized B z o)
        (λ (z : turn d B ≡ Some false). absurd (both_ways false refl (sym (now ∙ ap (λ t. over t (is_allocated sh s B)) z) ∙ b))) q)
        (option_cases (turn d B))

    pub good_after : IsGoodHeap sh class after
    good_after = record { runs = runs sh class s d h.blocks h.descriptors g; whole = whole sh class s d h.blocks h.descriptors g; blocks = good_blocks; root = h.root }

pub changed_holds : ChangedHeapsHold
changed_holds sh class s d header pool holds h = good_holds sh class (after_diff d s) header (good_after sh class s d h (held_good sh class s header pool holds))

pub changed_blocks : BlocksChange
changed_blocks sh class s d header pool holds h B o = changed_to sh class s d h (held_good sh class s header pool holds) B o

pub staying : BlocksStay
staying sh class s d h B e = lines_stay sh class s d h B e
