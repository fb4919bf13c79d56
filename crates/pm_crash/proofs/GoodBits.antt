-- Bits have no fault exactly where their runs have classes, huge blocks their chunks, blocks their sizes, and the root is there.
use Rattle.std.proofs.Common.{◌≡◌, ◌⊎◌, ⊎_elim, inl, inr, ℕ, ◌+◌, ◌-◌, ◌*◌, ◌/◌, ◌%◌, ◌^◌, ◌<◌, ◌≤◌, not, Bool, true, false, cond, leb, eqb, Option, Some, None, refl, sym, ◌∙◌, ap, subst, arith, eq-eqb}
use Rattle.std.specs.Int.{bit_at}
use Rattle.std.specs.List.{list_any, range_with_len}
use Rattle.std.proofs.lemmas.Bool.{both_ways, cases_Bool, cases_lt, eqb-true, false_from_ne_true, le-leb, lt-leb, not-false}
use Rattle.pm_layout.specs.Chunks.{chunks_of}
use Rattle.pm_layout.specs.Sizes.{blocks_of}
use Rattle.pm_layout.specs.declared.class.Class.{Class}
use Rattle.pm_layout.specs.declared.class.Class.TheVariants.{Lines, Chunks}
use Rattle.pm_layout.specs.declared.shape.Shape.{Shape}
use Rattle.pm_image.specs.declared.block.Block.{Block as Placed}
use Rattle.pm_image.specs.Blocks.{blocks, chunk_word, class_in, descriptor_word}
use Rattle.pm_image.specs.Contents.{offset_in}
use Rattle.pm_image.specs.HeapFaults.{bad_bitmap, bad_chunk, bad_root, good_block, heap_fault, is_bad_bitmap, is_described, zeros_behind}
use Rattle.pm_image.specs.Narrowings.{takes_links}
use Rattle.pm_image.proofs.FaultFree.{bitmap_good, block_good, chunk_good, described, links_taken}
use Rattle.pm_image.proofs.HeapWords.{both, chunks_fit}
use Rattle.pm_image.proofs.Members.{in_range, range_member}
use Rattle.pm_image.proofs.Ordered.{no_class}
use Rattle.pm_image.proofs.Pools.{no_bad_root, no_root_fault}
use Rattle.pm_image.proofs.Rooms.{run_fits}
use Rattle.pm_view.specs.Places.{InRun, Descr, RootWord, Block}
use Rattle.pm_world.specs.States.{State, val}
use Rattle.pm_world.specs.Memory.{bit}
use Rattle.pm_crash.specs.Objects.{GoodHeapsHold, HeldHeapsAreGood, IsGoodHeap, IsWhole, is_allocated, lines_of, offset_of}
use Rattle.pm_crash.specs.Spelled.{has_blocks, number, words_by}
use Rattle.pm_crash.proofs.BitsBlocks as told
use Rattle.pm_crash.proofs.Classes.{bit_in_run, chunks_of_class, class_has_chunks, run_by_byte, run_has_lines}
use Rattle.pm_crash.proofs.EmptyRuns.{all_pass}
use Rattle.pm_crash.proofs.NoHeapFault.{member_passes, no_heap_fault, passing_member}
use Rattle.pm_crash.proofs.Numbers.{number_bit, number_low}
use Rattle.pm_crash.proofs.OpeningBits.{zero_behind}
use Rattle.pm_crash.proofs.Spelling.{some_block, with_block}

-- a run has at most 63 blocks
pub few_blocks : (lines : ℕ) → blocks_of lines ≤ 64
few_blocks lines = ⊎_elim (λ (q : blocks_of lines < 65). omega arith)
    (λ (q : 65 ≤ blocks_of lines). absurd (let p : 64 < blocks_of lines = omega arith in let some = run_has_lines lines 64 p in let z = run_fits lines 64 p in omega arith))
    (cases_lt (blocks_of lines) 65)

module _ (sh : Shape) (class : ℕ → ℕ) (s : State) where
  abbrev w : ℕ → ℕ
  w = words_by sh class s

  abbrev lanes : ℕ
  lanes = sh.lanes

  abbrev zones : ℕ
  zones = sh.zones

  -- ---- GOOD BITS PASS THE TESTS

  module _ (g : IsGoodHeap sh class s) where
    chunk_passes : (c : ℕ) → c < 64 * zones → bad_chunk w lanes c ≡ false
    unfolding bad_chunk zeros_behind
    chunk_passes c l = ⊎_elim
        (λ (t : has_blocks s c ≡ true). let y = some_block s c t in
        ap (λ (k : Option Class). not (is_described w (descriptor_word lanes c) c k)) (told.run_class sh class s g.runs g.whole c y.0 l y.1 y.2))
        (λ (e : has_blocks s c ≡ false). ⊎_elim
        (λ (t : s (Descr c) 1 ≡ true).
        let y = g.whole c l e t in
        let n : ℕ = val (s (Descr c)) 8 56 in
        let at : ℕ = descriptor_word lanes c in
        let zeros : zeros_behind w at n ≡ true = all_pass (λ k. eqb (w (at + 1 + k)) 0) (range_with_len 0 (n - 1)) (λ k there_.
        let within : (0 ≤ k) × (k < 0 + (n - 1)) = in_range 0 (n - 1) k there_ in
        let zone = y.in_zone in
        let place : at + 1 + k ≡ descriptor_word lanes (c + (1 + k)) = omega arith in
        let r = y.rest (c + (1 + k)) (omega arith) (omega arith) in
        eq-eqb (w (at + 1 + k)) 0 (ap w place ∙ told.free_descriptor sh class s (c + (1 + k)) (omega arith) r.0 r.1)) in
        ap (λ (k : Option Class). not (is_described w at c k)) (told.whole_class sh class s g.runs g.whole c l e t)
        ∙ (ap (λ (b : Bool). not (cond b (zeros_behind w at n) false)) (le-leb (c % 64 + n) 64 y.in_zone) ∙ ap not zeros))
        (λ (t : s (Descr c) 1 ≡ false). let zero = told.free_descriptor sh class s c l e t in
        ap (λ (k : Option Class). not (is_described w (descriptor_word lanes c) c k)) (ap class_in zero ∙ no_class) ∙ ap (λ (d : ℕ). not (eqb d 0)) zero)
        (cases_Bool (s (Descr c) 1)))
        (cases_Bool (has_blocks s c))

    bitmap_passes : (c : ℕ) → c < 64 * zones → bad_bitmap w lanes c ≡ false
    unfolding bad_bitmap
    bitmap_passes c l = ⊎_elim
        (λ (t : has_blocks s c ≡ true). let y = some_block s c t in
        let low : number (s (InRun c 0)) < 2 ^ blocks_of (class c) = number_low (s (InRun c 0)) (blocks_of (class c)) (few_blocks (class c))
        (λ b a m. false_from_ne_true (s (InRun c 0) b) (λ q. let z = g.runs c b l m q in omega arith)) in
        ap (λ (k : Option Class). is_bad_bitmap k (w (chunk_word lanes c))) (told.run_class sh class s g.runs g.whole c y.0 l y.1 y.2)
        ∙ (ap (leb (2 ^ blocks_of (class c))) (told.bitmap sh class s c l t) ∙ lt-leb (2 ^ blocks_of (class c)) (number (s (InRun c 0))) low))
        (λ (e : has_blocks s c ≡ false). ⊎_elim
        (λ (t : s (Descr c) 1 ≡ true). ap (λ (k : Option Class). is_bad_bitmap k (w (chunk_word lanes c))) (told.whole_class sh class s g.runs g.whole c l e t))
        (λ (t : s (Descr c) 1 ≡ false).
        ap (λ (k : Option Class). is_bad_bitmap k (w (chunk_word lanes c))) (ap class_in (told.free_descriptor sh class s c l e t) ∙ no_class))
        (cases_Bool (s (Descr c) 1)))
        (cases_Bool (has_blocks s c))

    root_passes : bad_root w (blocks w lanes zones) ≡ false
    unfolding bad_root
    root_passes = ⊎_elim
        (λ (z : number (s RootWord) ≡ 0). ap (λ (n : ℕ). cond (eqb n 0) false (not (list_any (λ (b : Placed). eqb (offset_in b) n) (blocks w lanes zones)))) z)
        (λ (y : (B : Block) × (is_allocated sh s B ≡ true) × (offset_of sh class s B ≡ number (s RootWord))).
        let named = member_passes (λ (b : Placed). eqb (offset_in b) (number (s RootWord))) (blocks w lanes zones) (lines_of sh class s y.0)
        (told.allocated_block sh class s g.runs g.whole y.0 y.1) (eq-eqb (offset_of sh class s y.0) (number (s RootWord)) y.2) in
        go (eqb (number (s RootWord)) 0) named)
        g.root
      where
        go : (t : Bool) → list_any (λ (b : Placed). eqb (offset_in b) (number (s RootWord))) (blocks w lanes zones) ≡ true
            → cond t false (not (list_any (λ (b : Placed). eqb (offset_in b) (number (s RootWord))) (blocks w lanes zones))) ≡ false
        go true named = refl
        go false named = ap not named

    pub no_fault : heap_fault w lanes zones ≡ None
    no_fault = no_heap_fault w lanes zones (record {
      chunks = chunk_passes;
      bitmaps = bitmap_passes;
      sizes = λ block there_. let y = told.block_told sh class s block there_ in subst (λ (b : Placed). good_block w b ≡ true) y.lies (g.blocks y.of y.allocated).0;
      links = λ block there_. let y = told.block_told sh class s block there_ in subst (λ (b : Placed). takes_links w b ≡ true) y.lies (g.blocks y.of y.allocated).1;
      root = root_passes;
    })

  -- ---- AND BITS WITHOUT A FAULT ARE GOOD

  module _ (none : heap_fault w lanes zones ≡ None) where
    good : (c : ℕ) → c < chunks_of sh → bad_chunk w lanes c ≡ false
    good c l = chunk_good w lanes zones c none (range_member (64 * zones) c l)

    runs : (c i : ℕ) → c < chunks_of sh → i < 64 → s (InRun c 0) i ≡ true → i < blocks_of (class c)
    runs c i l m t =
        let has = with_block s c i m t in
        let d = told.run_descriptor sh class s c l has in
        let k = run_by_byte w lanes c (good c l) (omega arith) in
        let high : w (descriptor_word lanes c) / 256 ≡ class c = omega arith in
        subst (λ n. i < blocks_of n) high
        (bit_in_run w lanes c (w (descriptor_word lanes c) / 256) i (bitmap_good w lanes zones c none (range_member (64 * zones) c l)) k
        (eqb-true (bit_at (w (chunk_word lanes c)) i) 1 (ap (λ n. bit n i) (told.bitmap sh class s c l has) ∙ (number_bit (s (InRun c 0)) i m ∙ t))))

    whole : (f : ℕ) → f < chunks_of sh → has_blocks s f ≡ false → s (Descr f) 1 ≡ true → IsWhole s f
    whole f l e t = by_class (class_in (w (descriptor_word lanes f))) refl
      where
        by_class : (k : Option Class) → class_in (w (descriptor_word lanes f)) ≡ k → IsWhole s f
        by_class None is =
            let zero : w (descriptor_word lanes f) ≡ 0 = eqb-true (w (descriptor_word lanes f)) 0 (described w lanes f None (good f l) is) in
            absurd (let y = told.huge_descriptor sh class s f l e t in let z = told.second_bit sh class s f t in omega arith)
        by_class (Some (Lines lines)) is = absurd (both_ways (has_blocks s f) e (told.run_told sh class s f lines l is).0)
        by_class (Some (Chunks n)) is =
            let k = chunks_of_class (w (descriptor_word lanes f)) n is in
            let y = told.chunks_told sh class s f n l is in
            let some = class_has_chunks (w (descriptor_word lanes f)) n is in
            let d = told.huge_descriptor sh class s f l e t in
            let fit = chunks_fit w lanes f n (good f l) is in
            let tested = both (leb (f % 64 + n) 64) (zeros_behind w (descriptor_word lanes f) n) (described w lanes f (Some (Chunks n)) (good f l) is) in
            let many = y.2 in
            record {
              low = ap (λ m. m % 256) (sym d) ∙ k.0;
              some = let a = some.0 in omega arith;
              in_zone = omega arith;
              rest = λ c from to.
                  let j : ℕ = c - f - 1 in
                  let at : descriptor_word lanes f + 1 + j ≡ descriptor_word lanes c = omega arith in
                  let inside : c < chunks_of sh = omega arith in
                  let zero : w (descriptor_word lanes c) ≡ 0 = ap w (sym at) ∙ zero_behind w (descriptor_word lanes f) n j tested.1 (omega arith) in
                  let no_run : has_blocks s c ≡ false = false_from_ne_true (has_blocks s c) (λ q. let z = told.run_descriptor sh class s c inside q in absurd (omega arith)) in
                  (no_run, false_from_ne_true (s (Descr c) 1) (λ q. let z = told.huge_descriptor sh class s c inside no_run q in let b = told.second_bit sh class s c q in absurd (omega arith)));
            }

    rooted : (number (s RootWord) ≡ 0) ⊎ ((B : Block) × (is_allocated sh s B ≡ true) × (offset_of sh class s B ≡ number (s RootWord)))
    unfolding bad_root
    rooted = by_test (eqb (number (s RootWord)) 0) refl (no_bad_root w (blocks w lanes zones) (no_root_fault w lanes zones none))
      where
        by_test : (t : Bool) → eqb (number (s RootWord)) 0 ≡ t → cond t false (not (list_any (λ (b : Placed). eqb (offset_in b) (number (s RootWord))) (blocks w lanes zones))) ≡ false
            → (number (s RootWord) ≡ 0) ⊎ ((B : Block) × (is_allocated sh s B ≡ true) × (offset_of sh class s B ≡ number (s RootWord)))
        by_test true is e = inl (eqb-true (number (s RootWord)) 0 is)
        by_test false is e =
            let y = passing_member (λ (b : Placed). eqb (offset_in b) (number (s RootWord))) (blocks w lanes zones) (not-false (list_any (λ (b : Placed). eqb (offset_in b) (number (s RootWord))) (blocks w lanes zones)) e) in
            let z = told.block_told sh class s y.0 y.1.0 in
            inr (z.of, z.allocated, ap (λ (b : Placed). offset_in b) z.lies ∙ eqb-true (offset_in y.0) (number (s RootWord)) y.1.1)

    pub is_good : IsGoodHeap sh class s
    is_good = record {
      runs = runs;
      whole = whole;
      blocks = λ B a. let there_ = told.allocated_block sh class s runs whole B a in
          (block_good w lanes zones (lines_of sh class s B) none there_, links_taken w lanes zones (lines_of sh class s B) none there_);
      root = rooted;
    }

pub good_holds : GoodHeapsHold
good_holds sh class s header g = record { no_fault = no_fault sh class s g; is_pool = refl }

pub held_good : HeldHeapsAreGood
held_good sh class s header pool h = is_good sh class s h.no_fault
