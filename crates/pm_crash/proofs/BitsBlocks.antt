-- The blocks of the words that bits spell are the allocated blocks of the bits.
use Rattle.std.proofs.Common.{◌≡◌, ⊎_elim, inl, inr, ℕ, ◌+◌, ◌*◌, ◌/◌, ◌%◌, ◌<◌, ◌≤◌, nat_lt, ◌&&◌, not, true, false, cond, Some, refl, sym, ◌∙◌, ap, arith, eq-eqb}
use Rattle.std.specs.Int.{bit_at}
use Rattle.std.specs.List.{Contains}
use Rattle.std.proofs.lemmas.Bool.{and_from, and_parts, both_ways, cases_Bool, cond-false, cond-true, eqb-true, false_from_ne_true, lt-ltb, ltb-true, not-true, not_from_false}
use Rattle.pm_layout.specs.Chunks.{chunks_of}
use Rattle.pm_layout.specs.Sizes.{block_place, blocks_of}
use Rattle.pm_layout.specs.declared.class.Class.TheVariants.{Lines, Chunks}
use Rattle.pm_layout.specs.declared.shape.Shape.{Shape}
use Rattle.pm_image.specs.declared.block.Block.{Block as Placed}
use Rattle.pm_image.specs.Blocks.{blocks, chunk_word, class_in, descriptor_word}
use Rattle.pm_image.proofs.Rooms.{run_fits}
use Rattle.pm_view.specs.Places.{InRun, Descr, Block, Small, Big, Root}
use Rattle.pm_world.specs.Lanes.{is_occupancy}
use Rattle.pm_world.specs.States.{State, val}
use Rattle.pm_world.specs.Memory.{bit}
use Rattle.pm_crash.specs.Objects.{IsWhole, is_allocated, lines_of}
use Rattle.pm_crash.specs.Spelled.{has_blocks, number, words_by}
use Rattle.pm_crash.proofs.Classes.{chunks_of_class, class_of_chunks, lines_of_class, run_has_lines}
use Rattle.pm_crash.proofs.EmptyRuns.{class_of_run}
use Rattle.pm_crash.proofs.Numbers.{number_bit, number_high}
use Rattle.pm_crash.proofs.Spelling.{chunk_spelled, descriptor_spelled, with_block}
use Rattle.pm_world.proofs.Standing.{block_stands, standing_is_block, IsChunkBlock, IsRunBlock}

module _ (sh : Shape) (class : ℕ → ℕ) (s : State) where
  abbrev w : ℕ → ℕ
  w = words_by sh class s

  abbrev lanes : ℕ
  lanes = sh.lanes

  -- ---- DESCRIPTORS

  pub run_descriptor : (c : ℕ) → c < chunks_of sh → has_blocks s c ≡ true → w (descriptor_word lanes c) ≡ 1 + 256 * class c
  run_descriptor c l t = descriptor_spelled sh class s c l ∙ cond-true (has_blocks s c) (1 + 256 * class c) (cond (s (Descr c) 1) (number (s (Descr c))) 0) t

  pub huge_descriptor : (c : ℕ) → c < chunks_of sh → has_blocks s c ≡ false → s (Descr c) 1 ≡ true → w (descriptor_word lanes c) ≡ number (s (Descr c))
  huge_descriptor c l e t = descriptor_spelled sh class s c l ∙ (cond-false (has_blocks s c) (1 + 256 * class c) (cond (s (Descr c) 1) (number (s (Descr c))) 0) e
      ∙ cond-true (s (Descr c) 1) (number (s (Descr c))) 0 t)

  pub free_descriptor : (c : ℕ) → c < chunks_of sh → has_blocks s c ≡ false → s (Descr c) 1 ≡ false → w (descriptor_word lanes c) ≡ 0
  free_descriptor c l e t = descriptor_spelled sh class s c l ∙ (cond-false (has_blocks s c) (1 + 256 * class c) (cond (s (Descr c) 1) (number (s (Descr c))) 0) e
      ∙ cond-false (s (Descr c) 1) (number (s (Descr c))) 0 t)

  pub bitmap : (c : ℕ) → c < chunks_of sh → has_blocks s c ≡ true → w (chunk_word lanes c) ≡ number (s (InRun c 0))
  bitmap c l t = let z : chunk_word lanes c ≡ chunk_word lanes c + 0 = omega arith in ap w z ∙ (chunk_spelled sh class s c 0 l (omega arith)
      ∙ ap (λ p. number (s p)) (cond-true (has_blocks s c) (InRun c 0) _ t))

  -- bit 1 of a huge block's descriptor is set
  pub second_bit : (c : ℕ) → s (Descr c) 1 ≡ true → bit_at (number (s (Descr c))) 1 ≡ 1
  second_bit c t = eqb-true (bit_at (number (s (Descr c))) 1) 1 (number_bit (s (Descr c)) 1 (omega arith) ∙ t)

  -- ---- WHAT WORDS TELL

  pub run_told : (c lines : ℕ) → c < chunks_of sh → class_in (w (descriptor_word lanes c)) ≡ Some (Lines lines) → (has_blocks s c ≡ true) × (class c ≡ lines)
  run_told c lines l e =
      let k = lines_of_class (w (descriptor_word lanes c)) lines e in let low = k.0 in let high = k.1 in
      ⊎_elim
      (λ (t : has_blocks s c ≡ true). (t, let y = run_descriptor c l t in omega arith))
      (λ (t : has_blocks s c ≡ false). absurd (⊎_elim
      (λ (q : s (Descr c) 1 ≡ true). let y = huge_descriptor c l t q in let z = second_bit c q in omega arith)
      (λ (q : s (Descr c) 1 ≡ false). let y = free_descriptor c l t q in omega arith)
      (cases_Bool (s (Descr c) 1))))
      (cases_Bool (has_blocks s c))

  pub chunks_told : (c n : ℕ) → c < chunks_of sh → class_in (w (descriptor_word lanes c)) ≡ Some (Chunks n)
      → (has_blocks s c ≡ false) × (s (Descr c) 1 ≡ true) × (val (s (Descr c)) 8 56 ≡ n)
  chunks_told c n l e =
      let k = chunks_of_class (w (descriptor_word lanes c)) n e in let low = k.0 in let high = k.1 in
      let no_run : has_blocks s c ≡ false = false_from_ne_true (has_blocks s c) (λ t. let y = run_descriptor c l t in absurd (omega arith)) in
      let whole : s (Descr c) 1 ≡ true = ⊎_elim (λ (q : s (Descr c) 1 ≡ true). q)
      (λ (q : s (Descr c) 1 ≡ false). let y = free_descriptor c l no_run q in absurd (omega arith)) (cases_Bool (s (Descr c) 1)) in
      (no_run, whole, number_high (s (Descr c)) ∙ (ap (λ m. m / 256) (sym (huge_descriptor c l no_run whole)) ∙ high))

  -- ---- BLOCKS

  -- a block of these words is an allocated one
  pub record IsOf (block : Placed) : Type 0 where
    pub of : Block
    pub allocated : is_allocated sh s of ≡ true
    pub lies : lines_of sh class s of ≡ block

  run_index : (lines index : ℕ) → index < blocks_of lines → index < 64
  run_index lines index l = let f = run_fits lines index l in let some = run_has_lines lines index l in
      ⊎_elim (λ (q : index < 64). q)
      (λ (q : 64 ≤ index). absurd (let p : 63 < blocks_of lines = omega arith in let z = run_fits lines 63 p in omega arith))
      (Rattle.std.proofs.lemmas.Bool.cases_lt index 64)

  pub block_told : (block : Placed) → Contains (blocks w lanes sh.zones) block → IsOf block
  block_told block there_ =
      let stands = block_stands w lanes sh.zones block there_ in
      let c = stands.chunk in let l : c < chunks_of sh = stands.in_zones in
      ⊎_elim
      (λ (run : IsRunBlock w lanes c block).
      let y = run_told c run.lines l run.is_run in
      let small = run_index run.lines run.index run.inside in
      let set : s (InRun c 0) run.index ≡ true = sym (number_bit (s (InRun c 0)) run.index small)
      ∙ (ap (λ n. bit n run.index) (sym (bitmap c l y.0)) ∙ eq-eqb (bit_at (w (chunk_word lanes c)) run.index) 1 run.is_set) in
      record {
        of = Small c run.index;
        allocated = and_from (is_occupancy sh (Small c run.index)) (true && s (InRun c 0) run.index)
            (and_from (nat_lt c (chunks_of sh)) (nat_lt run.index 64) (lt-ltb c (chunks_of sh) l) (lt-ltb run.index 64 small)) set;
        lies = ap (λ n. record { place = block_place (8 * chunk_word lanes c) n run.index; lines = n }) y.1 ∙ run.is_block;
      })
      (λ (whole : IsChunkBlock w lanes c block).
      let y = chunks_told c whole.chunks l whole.is_first in
      record {
        of = Big c;
        allocated = and_from (nat_lt c (chunks_of sh)) (not (has_blocks s c) && s (Descr c) 1) (lt-ltb c (chunks_of sh) l)
            (and_from (not (has_blocks s c)) (s (Descr c) 1) (not_from_false (has_blocks s c) y.0) y.1);
        lies = ap (λ n. record { place = 8 * chunk_word lanes c; lines = 64 * n }) y.2 ∙ whole.is_block;
      })
      stands.is

  -- and each allocated one is, where runs have classes and huge blocks their chunks
  module _ (runs : (c i : ℕ) → c < chunks_of sh → i < 64 → s (InRun c 0) i ≡ true → i < blocks_of (class c))
      (whole : (f : ℕ) → f < chunks_of sh → has_blocks s f ≡ false → s (Descr f) 1 ≡ true → IsWhole s f) where
    pub run_class : (c i : ℕ) → c < chunks_of sh → i < 64 → s (InRun c 0) i ≡ true → class_in (w (descriptor_word lanes c)) ≡ Some (Lines (class c))
    run_class c i l m t = let some = runs c i l m t in
        class_of_run (w (descriptor_word lanes c)) (class c) (run_descriptor c l (with_block s c i m t)) (omega arith)

    pub whole_class : (f : ℕ) → f < chunks_of sh → has_blocks s f ≡ false → s (Descr f) 1 ≡ true → class_in (w (descriptor_word lanes f)) ≡ Some (Chunks (val (s (Descr f)) 8 56))
    whole_class f l e t = let y = whole f l e t in let d = huge_descriptor f l e t in
        class_of_chunks (w (descriptor_word lanes f)) (val (s (Descr f)) 8 56) (ap (λ n. n % 256) d ∙ y.low) (ap (λ n. n / 256) d ∙ sym (number_high (s (Descr f)))) y.some (let z = y.in_zone in omega arith)

    pub allocated_block : (B : Block) → is_allocated sh s B ≡ true → Contains (blocks w lanes sh.zones) (lines_of sh class s B)
    allocated_block (Small c i) a =
        let y = and_parts (is_occupancy sh (Small c i)) (true && s (InRun c 0) i) a in
        let z = and_parts (nat_lt c (chunks_of sh)) (nat_lt i 64) y.0 in
        let l = ltb-true c (chunks_of sh) z.0 in let m = ltb-true i 64 z.1 in
        let t : s (InRun c 0) i ≡ true = y.1 in
        standing_is_block w lanes sh.zones (lines_of sh class s (Small c i)) (record {
          chunk = c;
          in_zones = l;
          is = inl (record {
            lines = class c;
            index = i;
            is_run = run_class c i l m t;
            inside = runs c i l m t;
            is_set = eqb-true (bit_at (w (chunk_word lanes c)) i) 1 (ap (λ n. bit n i) (bitmap c l (with_block s c i m t)) ∙ (number_bit (s (InRun c 0)) i m ∙ t));
            is_block = refl;
          });
        })
    allocated_block (Big f) a =
        let y = and_parts (nat_lt f (chunks_of sh)) (not (has_blocks s f) && s (Descr f) 1) a in
        let z = and_parts (not (has_blocks s f)) (s (Descr f) 1) y.1 in
        let l = ltb-true f (chunks_of sh) y.0 in
        standing_is_block w lanes sh.zones (lines_of sh class s (Big f)) (record {
          chunk = f;
          in_zones = l;
          is = inr (record { chunks = val (s (Descr f)) 8 56; is_first = whole_class f l (not-true (has_blocks s f) z.0) z.1; is_block = refl });
        })
    allocated_block Root a = absurd (both_ways false refl a)
