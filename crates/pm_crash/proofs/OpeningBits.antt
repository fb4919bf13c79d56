-- THE BITS THAT A WORLD BEGAN FROM hold what its opening's words hold: they spell these words, but for runs without blocks.
use Rattle.std.proofs.Common.{◌≡◌, ⊎_elim, inl, inr, ℕ, ◌+◌, ◌-◌, ◌*◌, ◌/◌, ◌%◌, ◌^◌, ◌<◌, nat_lt, ◌==◌, ◌&&◌, Bool, true, false, not, cond, List, [], ◌∷◌, Option, Some, None, refl, sym, ◌∙◌, ap, arith, eq-eqb, ne_eqb}
use Rattle.std.specs.Prelude.{slice_index}
use Rattle.std.specs.Int.{bit_at}
use Rattle.std.specs.List.{Contains, list_all, range_with_len}
use Rattle.std.proofs.lemmas.Bool.{and_from, and_left, and_parts, and_right, both_ways, cases_Bool, cond-false, cond-true, eqb-true, false_from_ne_true, lt-ltb, or_right}
use Rattle.pm_layout.specs.Chunks.{chunks_of, word_of_chunk, word_of_descriptor}
use Rattle.pm_layout.specs.declared.class.Class.{Class}
use Rattle.pm_layout.specs.declared.class.Class.TheVariants.{Lines, Chunks}
use Rattle.pm_header.specs.declared.header.Header.{Header}
use Rattle.pm_objects.specs.declared.pool.PoolView.{PoolView}
use Rattle.pm_image.specs.declared.block.Block.{Block}
use Rattle.pm_image.specs.Blocks.{blocks, chunk_word, class_in, descriptor_word}
use Rattle.pm_image.specs.HeapFaults.{heap_fault, zeros_behind}
use Rattle.pm_image.specs.Reads.{AgreeOn, ReadsBlock}
use Rattle.pm_image.proofs.FaultFree.{block_good, chunk_good, described}
use Rattle.pm_image.proofs.HeapWords.{both, chunks_fit, object_fits}
use Rattle.pm_image.proofs.Members.{member_cases, no_member, range_member}
use Rattle.pm_image.proofs.Rooms.{run_fits}
use Rattle.pm_view.specs.Places.{InRun, InHuge, Descr, RootWord, Small, is_place}
use Rattle.pm_view.specs.Claims.{is_run}
use Rattle.pm_world.specs.States.{there}
use Rattle.pm_world.specs.Memory.{bit, bits_of, huge_told}
use Rattle.pm_world.specs.World.{Opening, origin, was_run}
use Rattle.pm_crash.specs.Held.{HoldsPool}
use Rattle.pm_crash.specs.Spelled.{Holds, descriptor_by, has_blocks, number, use_in, words_by}
use Rattle.pm_crash.proofs.Classes.{chunks_of_class, lines_of_class}
use Rattle.pm_crash.proofs.EmptyRuns.{HasZerosBehind, IsAlike, nothing_free, nothing_in_run, same_heap}
use Rattle.pm_crash.proofs.HeldAlike.{held_alike}
use Rattle.pm_crash.proofs.Spelling.{chunk_is, chunk_spelled, descriptor_is, descriptor_spelled, no_block, number_is, number_zero, root_spelled, some_block}
use Rattle.pm_world.proofs.Standing.{block_stands, IsChunkBlock, IsRunBlock}

-- each member of a list that passes as a whole
pub all_member : (p : ℕ → Bool) (xs : List ℕ) (x : ℕ) → list_all p xs ≡ true → Contains xs x → p x ≡ true
all_member p [] x e there = absurd (no_member x there)
all_member p (y ∷ xs) x e there = let t = and_parts (p y) (list_all p xs) e in
    elim (member_cases y xs x there) [ inl here ↦ ap p (sym here) ∙ t.0 | inr later ↦ all_member p xs x t.1 later ]

-- zeros behind the first of some chunks, one by one
pub zero_behind : (w : ℕ → ℕ) (at n j : ℕ) → zeros_behind w at n ≡ true → j < n - 1 → w (at + 1 + j) ≡ 0
unfolding zeros_behind
zero_behind w at n j e l = eqb-true (w (at + 1 + j)) 0
    (all_member (λ k. w (at + 1 + k) == 0) (range_with_len 0 (n - 1)) j e (range_member (n - 1) j l))

-- a word in a block is one of a chunk: in the run, or in one of its whole chunks
pub record InChunk (lanes zones i : ℕ) : Type 0 where
  pub chunk : ℕ
  pub place : ℕ
  pub inside : chunk < 64 * zones
  pub low : place < 512
  pub is : i ≡ chunk_word lanes chunk + place

pub word_in_chunk : (w : ℕ → ℕ) (lanes zones i : ℕ) (block : Block) → heap_fault w lanes zones ≡ None → Contains (blocks w lanes zones) block → ReadsBlock w block i → InChunk lanes zones i
word_in_chunk w lanes zones i block none there reads =
    let stands = block_stands w lanes zones block there in
    let fits = object_fits w block (block_good w lanes zones block none there) in
    let from = reads.from in let to = reads.to in
    let c = stands.chunk in let inside = stands.in_zones in
    let good = chunk_good w lanes zones c none (range_member (64 * zones) c inside) in
    ⊎_elim
    (λ (run : IsRunBlock w lanes c block).
    let place : block.place ≡ 8 * chunk_word lanes c + 64 * (1 + run.lines * run.index) = ap (λ (b : Block). b.place) (sym run.is_block) in
    let lines : block.lines ≡ run.lines = ap (λ (b : Block). b.lines) (sym run.is_block) in
    let most = run_fits run.lines run.index run.inside in
    let before : ℕ = run.lines * run.index in
    record { chunk = c; place = i - chunk_word lanes c; inside = inside; low = omega arith; is = omega arith })
    (λ (whole : IsChunkBlock w lanes c block).
    let place : block.place ≡ 8 * chunk_word lanes c = ap (λ (b : Block). b.place) (sym whole.is_block) in
    let lines : block.lines ≡ 64 * whole.chunks = ap (λ (b : Block). b.lines) (sym whole.is_block) in
    let zone = chunks_fit w lanes c whole.chunks good whole.is_first in
    let off : ℕ = i - chunk_word lanes c in
    record { chunk = c + off / 512; place = off % 512; inside = omega arith; low = omega arith; is = omega arith })
    stands.is

module _ (o : Opening) (class : ℕ → ℕ) (none : heap_fault (slice_index o.words) o.shape.lanes o.shape.zones ≡ None) (small : (w : ℕ) → slice_index o.words w < 2 ^ 64)
    (classes : (c i : ℕ) → there (origin o) (Small c i) ≡ true → slice_index o.words (word_of_descriptor o.shape c) ≡ 1 + 256 * class c) where
  abbrev w : ℕ → ℕ
  w = slice_index o.words

  abbrev v : ℕ → ℕ
  v = words_by o.shape class (origin o)

  abbrev lanes : ℕ
  lanes = o.shape.lanes

  abbrev zones : ℕ
  zones = o.shape.zones

  abbrev d : ℕ → ℕ
  d c = slice_index o.words (word_of_descriptor o.shape c)

  at_descriptor : (c : ℕ) → slice_index o.words (descriptor_word o.shape.lanes c) ≡ d c
  at_descriptor c = ap (slice_index o.words) (sym (descriptor_is o.shape c))

  -- ---- BITS

  is_chunk : (c : ℕ) → c < chunks_of o.shape → is_place o.shape (Descr c) ≡ true
  is_chunk c l = lt-ltb c (chunks_of o.shape) l

  in_chunk : (c r : ℕ) → c < chunks_of o.shape → r < 512 → (nat_lt c (chunks_of o.shape) && nat_lt r 512) ≡ true
  in_chunk c r l s = and_from (nat_lt c (chunks_of o.shape)) (nat_lt r 512) (lt-ltb c (chunks_of o.shape) l) (lt-ltb r 512 s)

  -- a chunk with blocks was a run
  run_of_blocks : (c : ℕ) → has_blocks (origin o) c ≡ true → was_run o c ≡ true
  run_of_blocks c e = let y = some_block (origin o) c e in
      (and_parts (was_run o c) (bits_of o.shape (slice_index o.words) (InRun c 0) y.0) y.2).0

  -- a word of a chunk is spelled as it was
  word_spelled : (c r : ℕ) → c < chunks_of o.shape → r < 512 → v (chunk_word o.shape.lanes c + r) ≡ w (chunk_word o.shape.lanes c + r)
  word_spelled c r l s = chunk_spelled o.shape class (origin o) c r l s ∙ (by_use (has_blocks (origin o) c) refl ∙ ap (λ n. slice_index o.words (n + r)) (chunk_is o.shape c))
    where
      by_use : (t : Bool) → has_blocks (origin o) c ≡ t → number (origin o (use_in (origin o) c r)) ≡ slice_index o.words (word_of_chunk o.shape c + r)
      by_use true e = ap (λ p. number (origin o p)) (cond-true (has_blocks (origin o) c) (InRun c r) (InHuge c r) e)
          ∙ number_is (origin o (InRun c r)) (slice_index o.words (word_of_chunk o.shape c + r)) (small (word_of_chunk o.shape c + r))
          (λ b m. ap (λ t. t && bits_of o.shape (slice_index o.words) (InRun c r) b) (or_right (not (r == 0)) (was_run o c) (run_of_blocks c e))
          ∙ ap (λ t. t && bit (slice_index o.words (word_of_chunk o.shape c + r)) b) (in_chunk c r l s))
      by_use false e = ap (λ p. number (origin o p)) (cond-false (has_blocks (origin o) c) (InRun c r) (InHuge c r) e)
          ∙ number_is (origin o (InHuge c r)) (slice_index o.words (word_of_chunk o.shape c + r)) (small (word_of_chunk o.shape c + r))
          (λ b m. ap (λ t. t && bit (slice_index o.words (word_of_chunk o.shape c + r)) b) (in_chunk c r l s))

  -- ---- DESCRIPTORS

  abbrev spelled_at : (c : ℕ) → c < chunks_of o.shape → v (descriptor_word o.shape.lanes c) ≡ descriptor_by class (origin o) c
  spelled_at c l = descriptor_spelled o.shape class (origin o) c l

  without_blocks : (c : ℕ) → was_run o c ≡ false → has_blocks (origin o) c ≡ false
  without_blocks c e = false_from_ne_true (has_blocks (origin o) c) (λ t. both_ways (was_run o c) e (run_of_blocks c t))

  -- of no huge block
  spelled_free : (c : ℕ) → c < chunks_of o.shape → has_blocks (origin o) c ≡ false → huge_told (d c) 1 ≡ false → v (descriptor_word o.shape.lanes c) ≡ 0
  spelled_free c l e n = spelled_at c l ∙ (cond-false (has_blocks (origin o) c) (1 + 256 * class c) (cond (origin o (Descr c) 1) (number (origin o (Descr c))) 0) e
      ∙ cond-false (origin o (Descr c) 1) (number (origin o (Descr c))) 0 (and_right (is_place o.shape (Descr c)) (huge_told (d c) 1) n))

  zero_spelled : (c : ℕ) → c < chunks_of o.shape → d c ≡ 0 → v (descriptor_word o.shape.lanes c) ≡ 0
  zero_spelled c l z = spelled_free c l (without_blocks c (ap is_run z)) (ap (λ n. huge_told n 1) z)

  alike_by : (c : ℕ) → c < chunks_of o.shape → (k : Option Class) → class_in (w (descriptor_word lanes c)) ≡ k → IsAlike w v lanes c
  alike_by c l None e =
      let zero : w (descriptor_word lanes c) ≡ 0 = eqb-true (w (descriptor_word lanes c)) 0 (described w lanes c None (chunk_good w lanes zones c none (range_member (64 * zones) c l)) e) in
      inl (zero_spelled c l (sym (at_descriptor c) ∙ zero) ∙ sym zero, λ lines r. word_here c l)
    where
      word_here : (c : ℕ) → c < chunks_of o.shape → v (chunk_word lanes c) ≡ w (chunk_word lanes c)
      word_here c l = let z : chunk_word lanes c ≡ chunk_word lanes c + 0 = omega arith in ap v z ∙ (word_spelled c 0 l (omega arith) ∙ sym (ap w z))
  alike_by c l (Some (Lines lines)) e = ⊎_elim
      (λ (t : has_blocks (origin o) c ≡ true). let y = some_block (origin o) c t in inl (
        spelled_at c l ∙ (cond-true (has_blocks (origin o) c) (1 + 256 * class c) (cond (origin o (Descr c) 1) (number (origin o (Descr c))) 0) t
            ∙ (sym (classes c y.0 y.2) ∙ sym (at_descriptor c))),
        λ n r. word_here c l,
      ))
      (λ (t : has_blocks (origin o) c ≡ false).
      let k = lines_of_class (w (descriptor_word lanes c)) lines e in
      let run : is_run (d c) ≡ true = eq-eqb (d c % 256) 1 (ap (λ n. n % 256) (sym (at_descriptor c)) ∙ k.0) in
      let huge : huge_told (d c) 1 ≡ false = and_left (not (is_run (d c))) (bit (d c) 1) (ap not run) in
      let empty : w (chunk_word lanes c) ≡ 0 = sym (word_here c l) ∙ (bitmap_word c l ∙ number_zero (origin o (use_in (origin o) c 0)) (bits_none c t run)) in
      inr (nothing_in_run w lanes c lines e empty, nothing_free v lanes c (spelled_free c l t huge)))
      (cases_Bool (has_blocks (origin o) c))
    where
      word_here : (c : ℕ) → c < chunks_of o.shape → v (chunk_word lanes c) ≡ w (chunk_word lanes c)
      word_here c l = let z : chunk_word lanes c ≡ chunk_word lanes c + 0 = omega arith in ap v z ∙ (word_spelled c 0 l (omega arith) ∙ sym (ap w z))

      bitmap_word : (c : ℕ) → c < chunks_of o.shape → v (chunk_word lanes c) ≡ number (origin o (use_in (origin o) c 0))
      bitmap_word c l = let z : chunk_word lanes c ≡ chunk_word lanes c + 0 = omega arith in ap v z ∙ chunk_spelled o.shape class (origin o) c 0 l (omega arith)

      bits_none : (c : ℕ) → has_blocks (origin o) c ≡ false → is_run (d c) ≡ true → (b : ℕ) → b < 64 → origin o (use_in (origin o) c 0) b ≡ false
      bits_none c t run b m = ap (λ p. origin o p b) (cond-false (has_blocks (origin o) c) (InRun c 0) (InHuge c 0) t)
          ∙ (ap (λ r. r && bits_of o.shape (slice_index o.words) (InHuge c 0) b) (sym run)
          ∙ no_block (origin o) c t b m)
  alike_by c l (Some (Chunks n)) e =
      let k = chunks_of_class (w (descriptor_word lanes c)) n e in
      let two : d c % 256 ≡ 2 = ap (λ n. n % 256) (sym (at_descriptor c)) ∙ k.0 in
      let no_run : is_run (d c) ≡ false = ne_eqb (d c % 256) 1 (λ q. omega arith) in
      let bits : (b : ℕ) → b < 64 → origin o (Descr c) b ≡ bit (d c) b = λ b m.
      ap (λ t. t && huge_told (d c) b) (is_chunk c l) ∙ ap (λ t. not t && bit (d c) b) no_run in
      let set : bit (d c) 1 ≡ true = eq-eqb (bit_at (d c) 1) 1 (two_bit (d c) two) in
      inl (
        spelled_at c l ∙ (cond-false (has_blocks (origin o) c) (1 + 256 * class c) (cond (origin o (Descr c) 1) (number (origin o (Descr c))) 0) (without_blocks c no_run)
            ∙ (cond-true (origin o (Descr c) 1) (number (origin o (Descr c))) 0 (bits 1 (omega arith) ∙ set)
            ∙ (number_is (origin o (Descr c)) (d c) (small (word_of_descriptor o.shape c)) bits ∙ sym (at_descriptor c)))),
        λ lines r. absurd (let z = (lines_of_class (w (descriptor_word lanes c)) lines r).0 in let y = k.0 in omega arith),
      )
    where
      two_bit : (x : ℕ) → x % 256 ≡ 2 → bit_at x 1 ≡ 1
      two_bit x e = omega arith

  zeros : HasZerosBehind w v lanes zones
  zeros c n j l whole m =
      let at : ℕ = descriptor_word lanes c in
      let good = chunk_good w lanes zones c none (range_member (64 * zones) c l) in
      let tested = both (Rattle.std.specs.Prelude.nat_le (c % 64 + n) 64) (zeros_behind w at n) (described w lanes c (Some (Chunks n)) good whole) in
      let fit = chunks_fit w lanes c n good whole in
      let there : at + 1 + j ≡ descriptor_word lanes (c + (1 + j)) = omega arith in
      ap v there ∙ zero_spelled (c + (1 + j)) (omega arith)
      (sym (at_descriptor (c + (1 + j))) ∙ (sym (ap w there) ∙ zero_behind w at n j tested.1 m))

  contents : (block : Block) → Contains (blocks w lanes zones) block → AgreeOn (ReadsBlock w block) w v
  contents block there = record {
    same = λ i reads. let y = word_in_chunk w lanes zones i block none there reads in
        ap w y.is ∙ (sym (word_spelled y.chunk y.place y.inside y.low) ∙ sym (ap v y.is));
  }

  root : v 64 ≡ w 64
  root = root_spelled o.shape class (origin o) ∙ number_is (origin o RootWord) (slice_index o.words 64) (small 64) (λ b m. refl)

  pub origin_holds : (header : Header) (pool : PoolView) → HoldsPool (slice_index o.words) o.shape.lanes o.shape.zones header pool → Holds o.shape class (origin o) header pool
  origin_holds header pool holds = held_alike w v lanes zones header pool holds
      (same_heap w v lanes zones none (λ c l. alike_by c l (class_in (w (descriptor_word lanes c))) refl) zeros contents root)
