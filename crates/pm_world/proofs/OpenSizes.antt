-- As a world opens on words of which nothing of the heap is wrong each object fits its block.
use Rattle.std.proofs.Common.{◌≡◌, ℕ, ◌+◌, ◌*◌, ◌/◌, ◌%◌, ◌^◌, ◌<◌, ◌≤◌, inl, inr, nat_le, nat_lt, Bool, true, false, ◌==◌, ◌&&◌, ◌||◌, not, refl, sym, ap, ◌∙◌, subst, arith, eq-eqb, ne_eqb, None, Some}
use Rattle.std.proofs.lemmas.Bool.{and_parts, and_from, both_ways, cond-true, cond-false, eqb-true, le-leb, lt-ltb, ltb-true, or_right}
use Rattle.std.proofs.lemmas.Grind.{div_ceil_times}
use Rattle.std.specs.Int.{bit_at}
use Rattle.std.specs.Prelude.{slice_index}
use Rattle.pm_layout.specs.Chunks.{chunks_of, word_of_descriptor}
use Rattle.pm_layout.specs.Sizes.{block_place, blocks_of, lines_for}
use Rattle.pm_layout.specs.declared.class.Class.TheVariants.{Lines, Chunks}
use Rattle.pm_image.specs.declared.block.Block as image
use Rattle.pm_image.specs.Blocks.{descriptor_word, chunk_word, class_in}
use Rattle.pm_image.specs.Contents.{size_in}
use Rattle.pm_image.specs.HeapFaults.{heap_fault}
use Rattle.pm_image.proofs.FaultFree.{block_good}
use Rattle.pm_image.proofs.Pools.{good_size}
use Rattle.pm_image.proofs.Rooms.{lines_needed}
use Rattle.pm_view.specs.Claims.{is_run}
use Rattle.pm_view.specs.Places.{InRun, InHuge, Descr, Block, Small, Big, Root, is_place, word_of}
use Rattle.pm_world.specs.Memory.{bit}
use Rattle.pm_world.specs.Opens.{first_of, descriptor}
use Rattle.pm_world.specs.Sizes.{HasRoomFor, ObjectsFit, stored_size}
use Rattle.pm_world.specs.States.{there, val}
use Rattle.pm_world.specs.World.{Opening, Views, origin, was_run}
use Rattle.pm_world.proofs.BlockLines.{run_fits}
use Rattle.pm_world.proofs.OpenGeometry.{has_chunk, huge_there}
use Rattle.pm_world.proofs.OpenWords.{InTable, classes, within}
use Rattle.pm_world.proofs.Opened.{opened}
use Rattle.pm_world.proofs.Standing.{Stands, standing_is_block}
use Rattle.pm_world.proofs.Values.{val_word}

class_run : (d : ℕ) → d % 256 ≡ 1 → 0 < blocks_of (d / 256) → class_in d ≡ Some (Lines (d / 256))
unfolding class_in
class_run d e l = cond-true (d % 256 == 1 && nat_lt 0 (blocks_of (d / 256))) _ _ (and_from (d % 256 == 1) (nat_lt 0 (blocks_of (d / 256))) (eq-eqb (d % 256) 1 e) (lt-ltb 0 (blocks_of (d / 256)) l))

class_huge : (d : ℕ) → d % 256 ≡ 2 → 1 ≤ d / 256 → d / 256 ≤ 64 → class_in d ≡ Some (Chunks (d / 256))
unfolding class_in
class_huge d e some most = cond-false (d % 256 == 1 && nat_lt 0 (blocks_of (d / 256))) _ _ (ap (λ t. t && nat_lt 0 (blocks_of (d / 256))) (ne_eqb (d % 256) 1 (λ q. absurd (omega arith))))
    ∙ cond-true (d % 256 == 2 && (nat_le 1 (d / 256) && nat_le (d / 256) 64)) _ _
    (and_from (d % 256 == 2) (nat_le 1 (d / 256) && nat_le (d / 256) 64) (eq-eqb (d % 256) 2 e) (and_from (nat_le 1 (d / 256)) (nat_le (d / 256) 64) (le-leb 1 (d / 256) some) (le-leb (d / 256) 64 most)))

-- a good object has its lines in its block
lines_hold : (size lines : ℕ) → lines_for size ≤ lines → 64 + size ≤ 64 * lines
lines_hold size lines l = let up = div_ceil_times size 64 (omega arith) in omega arith

module _ (o : Opening) (views : Views) (small : (w : ℕ) → slice_index o.words w < 2 ^ 64) (table : (c : ℕ) → c < chunks_of o.shape → InTable o c)
    (none : heap_fault (slice_index o.words) o.shape.lanes o.shape.zones ≡ None) where
  abbrev words : ℕ → ℕ
  words = slice_index o.words

  described : (c : ℕ) → words (descriptor_word o.shape.lanes c) ≡ descriptor o c
  described c = let q : descriptor_word o.shape.lanes c ≡ word_of_descriptor o.shape c = omega arith in ap (slice_index o.words) q

  block_holds : (B : image.Block) → Stands words o.shape.lanes o.shape.zones B → 64 + size_in words B ≤ 64 * B.lines
  block_holds B st = let y = good_size words B (block_good words o.shape.lanes o.shape.zones B none (standing_is_block words o.shape.lanes o.shape.zones B st)) in
      lines_hold (size_in words B) B.lines (subst (λ n. lines_for (size_in words B) ≤ n) y.lines (lines_needed (size_in words B)))

  -- a bit of a place's word, where the origin has the place's use
  used : (a p y : Bool) → a ≡ true → p ≡ true → (a && (p && y)) ≡ y
  used true true y e f = refl
  used true false y e f = absurd (both_ways false refl f)
  used false p y e f = absurd (both_ways false refl e)

  small_fits : (c i : ℕ) → there (origin o) (Small c i) ≡ true → 64 + val (origin o (InRun c (8 * (1 + descriptor o c / 256 * i) + 1))) 0 64 ≤ 64 * (descriptor o c / 256)
  small_fits c i t = let cl = descriptor o c / 256 in let w = 8 * (1 + cl * i) + 1 in
      let y = and_parts (was_run o c) (is_place o.shape (InRun c 0) && bit (words (word_of o.shape (InRun c 0))) i) t in
      let z = and_parts (is_place o.shape (InRun c 0)) (bit (words (word_of o.shape (InRun c 0))) i) y.1 in
      let ok = and_parts (is_place o.shape (Descr c) && is_run (descriptor o c)) (nat_lt i (blocks_of cl)) (within o views (first_of o) table c i t) in
      let inside = and_parts (nat_lt c (chunks_of o.shape)) (nat_lt 0 512) z.0 in
      let below = ltb-true i (blocks_of cl) ok.1 in
      let row = run_fits cl i below in
      let some = (classes o views (first_of o) table c ok.0) in
      let run = eqb-true (descriptor o c % 256) 1 y.0 in
      let at : Stands words o.shape.lanes o.shape.zones (record { place = block_place (8 * chunk_word o.shape.lanes c) cl i; lines = cl }) = record {
        chunk = c;
        in_zones = ltb-true c (chunks_of o.shape) inside.0;
        is = inl (record {
          lines = cl;
          index = i;
          is_run = ap class_in (described c) ∙ class_run (descriptor o c) run some.1;
          inside = below;
          is_set = ap (λ n. bit_at (words n) i) (let q : chunk_word o.shape.lanes c ≡ word_of o.shape (InRun c 0) = omega arith in q) ∙ eqb-true _ 1 z.1;
          is_block = refl;
        });
      } in
      let held = block_holds (record { place = block_place (8 * chunk_word o.shape.lanes c) cl i; lines = cl }) at in
      let before : ℕ = cl * i in
      let word : (8 * chunk_word o.shape.lanes c + 64 * (1 + before)) / 8 + 1 ≡ word_of o.shape (InRun c w) = omega arith in
      let placed = and_from (nat_lt c (chunks_of o.shape)) (nat_lt w 512) inside.0 (lt-ltb w 512 (let one = some.0 in omega arith)) in
      let value : val (origin o (InRun c w)) 0 64 ≡ words (word_of o.shape (InRun c w)) =
      ap (λ f. val f 0 64) (λ j b. used (not (w == 0) || was_run o c) (is_place o.shape (InRun c w)) (bit (words (word_of o.shape (InRun c w))) b) (or_right (not (w == 0)) (was_run o c) y.0) placed j) ∙ val_word (words (word_of o.shape (InRun c w))) (small (word_of o.shape (InRun c w))) in
      subst (λ n. 64 + n ≤ 64 * (descriptor o c / 256)) (sym value) (subst (λ n. 64 + words n ≤ 64 * (descriptor o c / 256)) word held)

  huge_fits : (f : ℕ) → there (origin o) (Big f) ≡ true → 64 + val (origin o (InHuge f 1)) 0 64 ≤ 64 * (64 * (descriptor o f / 256))
  huge_fits f t = let y = huge_there o views small table f t in let n = descriptor o f / 256 in
      let room = y.1.2 in
      let at : Stands words o.shape.lanes o.shape.zones (record { place = 8 * chunk_word o.shape.lanes f; lines = 64 * n }) = record {
        chunk = f;
        in_zones = ltb-true f (chunks_of o.shape) y.0;
        is = inr (record { chunks = n; is_first = ap class_in (described f) ∙ class_huge (descriptor o f) y.1.0 y.1.1 (omega arith); is_block = refl });
      } in
      let held = block_holds (record { place = 8 * chunk_word o.shape.lanes f; lines = 64 * n }) at in
      let word : 8 * chunk_word o.shape.lanes f / 8 + 1 ≡ word_of o.shape (InHuge f 1) = omega arith in
      let value : val (origin o (InHuge f 1)) 0 64 ≡ words (word_of o.shape (InHuge f 1)) =
      ap (λ g. val g 0 64) (λ j b. used true (is_place o.shape (InHuge f 1)) (bit (words (word_of o.shape (InHuge f 1))) b) refl (and_from (nat_lt f (chunks_of o.shape)) true y.0 refl) j) ∙ val_word (words (word_of o.shape (InHuge f 1))) (small (word_of o.shape (InHuge f 1))) in
      subst (λ m. 64 + m ≤ 64 * (64 * (descriptor o f / 256))) (sym value) (subst (λ m. 64 + words m ≤ 64 * (64 * (descriptor o f / 256))) word held)

  -- EACH OBJECT FITS ITS BLOCK
  pub open_fits : ObjectsFit o (opened o views (first_of o))
  open_fits = record { settled = each; flying = λ n l. absurd (omega arith) }
    where
      each : (B : Block) → there (origin o) B ≡ true → HasRoomFor (opened o views (first_of o)).geo B (stored_size (opened o views (first_of o)).geo (origin o) B)
      each (Small c i) t = small_fits c i t
      each (Big f) t = λ n l. let held = huge_fits f t in let many = descriptor o f / 256 in
          eqb-true (first_of o (f + n)) f (has_chunk o views small table f t (f + n) ∙ and_from (nat_le f (f + n)) (nat_lt (f + n) (f + many)) (le-leb f (f + n) (omega arith)) (lt-ltb (f + n) (f + many) (omega arith)))
      each Root t = tt
