-- AN IMAGE HOLDS WHAT ITS KEPT CALLS MADE: recovered, its words are those that the bits after these calls spell, as far as a meaning reads them, but for runs without blocks.
use Rattle.std.proofs.Common.{◌≡◌, ◌≢◌, ◌⊎◌, ⊎_elim, inl, inr, ℕ, ◌+◌, ◌-◌, ◌*◌, ◌/◌, ◌%◌, ◌^◌, ◌<◌, ◌≤◌, nat_le, nat_lt, ◌==◌, ◌&&◌, Bool, true, false, not, cond, List, length, Some, None, refl, sym, ◌∙◌, ap, subst, arith, eq-eqb}
use Rattle.std.specs.Int.{bit_at}
use Rattle.std.specs.List.{Contains}
use Rattle.std.proofs.Math.Nat.{mul_comm}
use Rattle.std.proofs.lemmas.Bool.{and_from, and_parts, both_ways, cases_Bool, cases_eq, cases_lt, cond-false, cond-true, eqb-true, false_from_ne_true, le-leb, lt-ltb, not-true, or_left, or_right}
use Rattle.std.proofs.lemmas.Grind.{div_ceil_times}
use lib.Arith.{digits_div, digits_mod}
use Rattle.pm_layout.specs.Chunks.{chunks_of, word_of_chunk, word_of_descriptor, words_of}
use Rattle.pm_layout.specs.Sizes.{blocks_of}
use Rattle.pm_layout.specs.declared.class.Class.TheVariants.{Lines, Chunks}
use Rattle.pm_image.specs.declared.block.Block.{Block}
use Rattle.pm_image.specs.Blocks.{blocks, chunk_word, class_in, descriptor_word}
use Rattle.pm_image.specs.Contents.{data_words, size_in}
use Rattle.pm_image.specs.HeapFaults.{heap_fault}
use Rattle.pm_image.specs.Logs.{recovered, recovered_at}
use Rattle.pm_image.specs.Reads.{AgreeOn, ReadsBlock, SameHeap}
use Rattle.pm_image.proofs.FaultFree.{block_good, chunk_good}
use Rattle.pm_image.proofs.HeapWords.{chunks_fit, object_fits}
use Rattle.pm_image.proofs.InPlace.{recovered_in_place}
use Rattle.pm_image.proofs.Members.{range_member}
use Rattle.pm_image.proofs.Rooms.{run_fits}
use Rattle.pm_view.specs.Claims.{is_run}
use Rattle.pm_view.specs.Places.{InRun, InHuge, Descr, RootWord, Small, Big, is_place}
use Rattle.pm_world.specs.States.{State, bright, bright_huge, lit, live, shown, size_at, there, val}
use Rattle.pm_world.specs.Sights.{sight_of}
use Rattle.pm_world.specs.Lanes.{Flies}
use Rattle.pm_world.specs.Memory.{Memory, PoolWord, bit, cells_of, descriptor_told, huge_told, run_told}
use Rattle.pm_world.specs.Crash.{MeansKept, NoneTorn, Survives, is_decided_in, is_kept}
use Rattle.pm_world.specs.World.{Opening, Views, Past, World, ghost_of, settled_words}
use Rattle.pm_world.proofs.CrashDescriptors.{crash_law}
use Rattle.pm_world.proofs.Finds.{some_lane}
use Rattle.pm_world.proofs.Frame.{maker_owns, not_making}
use Rattle.pm_world.proofs.Values.{val_from}
use Rattle.pm_crash.specs.Described.{MemoryHasClasses}
use Rattle.pm_crash.specs.Footprints.{KeepsDecided, kept_bits}
use Rattle.pm_crash.specs.Spelled.{descriptor_by, has_blocks, number, words_by}
use Rattle.pm_crash.proofs.Classes.{chunks_of_class, lines_of_class}
use Rattle.pm_crash.proofs.EmptyRuns.{HasZerosBehind, IsAlike, class_of_run, nothing_free, nothing_in_run, same_heap}
use Rattle.pm_crash.proofs.ImageDescriptors.{outcome}
use Rattle.pm_crash.proofs.KeptBits as kept
use Rattle.pm_crash.proofs.SmallWords.{recovered_small, survives_small}
use Rattle.pm_crash.proofs.Spelling.{chunk_is, chunk_spelled, descriptor_is, descriptor_spelled, no_block, number_is, number_zero, root_spelled, same_number, some_block}
use Rattle.pm_world.proofs.Standing.{block_stands, IsChunkBlock, IsRunBlock}

-- what a test says of a number
told_so : (t : Bool) (y n : ℕ) → cond t y 0 ≡ n → 1 ≤ n → (t ≡ true) × (y ≡ n)
told_so true y n e some = (refl, e)
told_so false y n e some = absurd (omega arith)

-- the higher bits of a word
high_bits : (f : ℕ → Bool) (x : ℕ) → x < 2 ^ 64 → ((b : ℕ) → b < 64 → f b ≡ bit x b) → val f 8 56 ≡ x / 256
high_bits f x small same = same_number f (bit x) 8 56 (λ b l m. same b (omega arith)) ∙ (val_from x 8 56 ∙ omega arith)

-- the line that a word of an object is in has words of it
in_line : (size q : ℕ) → q < 8 + data_words size → q / 8 ≤ (size + 63) / 64
in_line size q l = let z = div_ceil_times size 8 (omega arith) in let a = z.0 in let b = z.1 in omega arith

next_line : (cl i q : ℕ) → q < cl → ((cl * i + q) / cl ≡ i) × ((cl * i + q) % cl ≡ q)
next_line cl i q l = let e : cl * i + q ≡ i * cl + q = ap (λ n. n + q) (mul_comm cl i) in
    (ap (λ n. n / cl) e ∙ digits_div i {m = cl} {r = q} l, ap (λ n. n % cl) e ∙ digits_mod i {m = cl} {r = q} l)

module _ (o : Opening) (mem : Memory) (views : Views) (g : Past) (x : World o mem views g) (image : List ℕ) (sv : Survives o mem views image) (torn : NoneTorn o views image) (classes : MemoryHasClasses o mem)
    (none : heap_fault (words_by o.shape g.geo.class (kept_bits o g (is_kept o views g image) g.length)) o.shape.lanes o.shape.zones ≡ None) where
  abbrev keep : ℕ → Bool
  keep = is_kept o views g image

  pub keeps : KeepsDecided g (is_kept o views g image)
  keeps n l e = or_left (g.decided n) (is_decided_in image views o.lanes n) e

  abbrev K : State
  K = kept_bits o g (is_kept o views g image) g.length

  abbrev lanes : ℕ
  lanes = o.shape.lanes

  abbrev zones : ℕ
  zones = o.shape.zones

  abbrev w : ℕ → ℕ
  w = words_by o.shape g.geo.class (kept_bits o g (is_kept o views g image) g.length)

  abbrev v : ℕ → ℕ
  v = recovered_at image o.shape.lanes

  abbrev rec : ℕ → ℕ
  rec = recovered image o.shape.lanes

  means : MeansKept o views g image
  means = crash_law o mem views g image x sv torn

  size : length image ≡ words_of o.shape
  size = sv.size ∙ x.size

  small : (i : ℕ) → rec i < 2 ^ 64
  small i = recovered_small image (survives_small o mem views g image x sv) o.shape.lanes i

  in_place : (i : ℕ) → i < words_of o.shape → v i ≡ rec i
  in_place i l = recovered_in_place image o.shape.lanes i (let s = size in omega arith)

  -- ---- DESCRIPTORS

  abbrev d : ℕ → ℕ
  d c = recovered image o.shape.lanes (word_of_descriptor o.shape c)

  v_descriptor : (c : ℕ) → c < chunks_of o.shape → v (descriptor_word lanes c) ≡ d c
  v_descriptor c l = ap v (sym (descriptor_is o.shape c)) ∙ in_place (word_of_descriptor o.shape c) (omega arith)

  is_chunk : (c : ℕ) → c < chunks_of o.shape → is_place o.shape (Descr c) ≡ true
  is_chunk c l = lt-ltb c (chunks_of o.shape) l

  huge_bit : (c b : ℕ) → c < chunks_of o.shape → b < 64 → huge_told (d c) b ≡ K (Descr c) b
  huge_bit c b l m = ap (λ t. t && huge_told (d c) b) (sym (is_chunk c l)) ∙ means.words (Descr c) b (is_chunk c l) m refl

  plain_bit : (c b : ℕ) → c < chunks_of o.shape → b < 64 → is_run (d c) ≡ false → bit (d c) b ≡ K (Descr c) b
  plain_bit c b l m e = ap (λ t. not t && bit (d c) b) (sym e) ∙ huge_bit c b l m

  of_class : (c : ℕ) → c < chunks_of o.shape → is_run (d c) ≡ true → (0 < blocks_of (d c / 256)) × (d c ≡ mem (PoolWord (word_of_descriptor o.shape c)))
  of_class c l r = ⊎_elim
      (λ (e : is_run (d c) ≡ false). absurd (both_ways (is_run (d c)) e r))
      (λ (e : d c ≡ mem (PoolWord (word_of_descriptor o.shape c))).
      (subst (λ n. 0 < blocks_of (n / 256)) (sym e) (classes c l (sym (ap is_run e) ∙ r)), e))
      (outcome o mem views g x image sv torn c l)

  has_lines : (n : ℕ) → 0 < blocks_of n → 1 ≤ n
  has_lines n some = ⊎_elim
      (λ (z : n ≡ 0). absurd (let e : 0 < blocks_of 0 = subst (λ m. 0 < blocks_of m) z some in omega arith))
      (λ (z : n ≢ 0). omega arith) (cases_eq n 0)

  -- it is a run, or some lane makes it one
  run_or_made : (c : ℕ) → c < chunks_of o.shape → is_run (d c) ≡ true → (g.runs c ≡ true) ⊎ ((k : ℕ) × ((sight_of (views k)).hold.making c ≡ true))
  run_or_made c l r =
      let y = of_class c l r in
      ⊎_elim
      (λ (m : (k : ℕ) × ((sight_of (views k)).hold.making c ≡ true)). inr m)
      (λ (m : (k : ℕ) → k < o.lanes → (sight_of (views k)).hold.making c ≡ false).
      let told : (cells_of o.shape mem).descr c ≡ cond (g.runs c) (g.geo.class c) 0 = x.bits.descr c (λ k. ⊎_elim
      (λ (i : k < o.lanes). m k i)
      (λ (i : o.lanes ≤ k). not_making (sight_of (views k)).hold c 0 (x.bits.beyond k i (Small c 0)).0)
      (cases_lt k o.lanes)) in
      let is : (cells_of o.shape mem).descr c ≡ d c / 256 =
      cond-true (is_place o.shape (Descr c)) (run_told (mem (PoolWord (word_of_descriptor o.shape c)))) 0 (is_chunk c l)
      ∙ (ap run_told (sym y.1) ∙ cond-true (is_run (d c)) (d c / 256) 0 r) in
      inl (told_so (g.runs c) (g.geo.class c) (d c / 256) (sym told ∙ is) (has_lines (d c / 256) y.0)).0)
      (some_lane (λ k. (sight_of (views k)).hold.making c) o.lanes)

  -- ---- WORDS OF CHUNKS

  place_in : (c r : ℕ) → c < chunks_of o.shape → r < 512 → (nat_lt c (chunks_of o.shape) && nat_lt r 512) ≡ true
  place_in c r l s = and_from (nat_lt c (chunks_of o.shape)) (nat_lt r 512) (lt-ltb c (chunks_of o.shape) l) (lt-ltb r 512 s)

  v_chunk : (c r : ℕ) → c < chunks_of o.shape → r < 512 → v (chunk_word lanes c + r) ≡ rec (word_of_chunk o.shape c + r)
  v_chunk c r l s = ap (λ n. v (n + r)) (sym (chunk_is o.shape c)) ∙ in_place (word_of_chunk o.shape c + r) (omega arith)

  run_bit : (c r b : ℕ) → c < chunks_of o.shape → r < 512 → b < 64 → live K g.geo g.runs (InRun c r) ≡ true → K (InRun c r) b ≡ bit (rec (word_of_chunk o.shape c + r)) b
  run_bit c r b l s m lv = sym (means.words (InRun c r) b (place_in c r l s) m lv) ∙ ap (λ t. t && bit (rec (word_of_chunk o.shape c + r)) b) (place_in c r l s)

  huge_word_bit : (c r b : ℕ) → c < chunks_of o.shape → r < 512 → b < 64 → live K g.geo g.runs (InHuge c r) ≡ true → K (InHuge c r) b ≡ bit (rec (word_of_chunk o.shape c + r)) b
  huge_word_bit c r b l s m lv = sym (means.words (InHuge c r) b (place_in c r l s) m lv) ∙ ap (λ t. t && bit (rec (word_of_chunk o.shape c + r)) b) (place_in c r l s)

  run_word : (c r : ℕ) → c < chunks_of o.shape → r < 512 → has_blocks K c ≡ true → live K g.geo g.runs (InRun c r) ≡ true → v (chunk_word lanes c + r) ≡ w (chunk_word lanes c + r)
  run_word c r l s t lv = v_chunk c r l s ∙ sym (chunk_spelled o.shape g.geo.class K c r l s
      ∙ (ap (λ p. number (K p)) (cond-true (has_blocks K c) (InRun c r) (InHuge c r) t)
      ∙ number_is (K (InRun c r)) (rec (word_of_chunk o.shape c + r)) (small (word_of_chunk o.shape c + r)) (λ b m. run_bit c r b l s m lv)))

  huge_word : (c r : ℕ) → c < chunks_of o.shape → r < 512 → has_blocks K c ≡ false → live K g.geo g.runs (InHuge c r) ≡ true → v (chunk_word lanes c + r) ≡ w (chunk_word lanes c + r)
  huge_word c r l s t lv = v_chunk c r l s ∙ sym (chunk_spelled o.shape g.geo.class K c r l s
      ∙ (ap (λ p. number (K p)) (cond-false (has_blocks K c) (InRun c r) (InHuge c r) t)
      ∙ number_is (K (InHuge c r)) (rec (word_of_chunk o.shape c + r)) (small (word_of_chunk o.shape c + r)) (λ b m. huge_word_bit c r b l s m lv)))

  run_of : (c : ℕ) → has_blocks K c ≡ true → (g.runs c ≡ true) × (1 ≤ g.geo.class c) × (0 < blocks_of (g.geo.class c))
  run_of c t = let y = some_block K c t in
      let z = and_parts (g.runs c) (nat_lt y.0 (blocks_of (g.geo.class c))) (kept.within o mem views g x keep keeps c y.0 y.2) in
      let q = x.bits.geo.classes c z.0 in (z.0, q.0, q.1)

  bitmap_lives : (c : ℕ) → g.runs c ≡ true → live K g.geo g.runs (InRun c 0) ≡ true
  bitmap_lives c r = and_from (g.runs c) true r refl

  first_word : (f : ℕ → ℕ) (c : ℕ) → f (chunk_word lanes c) ≡ f (chunk_word lanes c + 0)
  first_word f c = let z : chunk_word lanes c ≡ chunk_word lanes c + 0 = omega arith in ap f z

  -- ---- CHUNK BY CHUNK

  w_descriptor : (c : ℕ) → c < chunks_of o.shape → w (descriptor_word lanes c) ≡ descriptor_by g.geo.class K c
  w_descriptor c l = descriptor_spelled o.shape g.geo.class K c l

  -- a run with blocks
  run_descriptor : (c : ℕ) → has_blocks K c ≡ true → c < chunks_of o.shape → w (descriptor_word lanes c) ≡ 1 + 256 * g.geo.class c
  run_descriptor c t l = w_descriptor c l ∙ cond-true (has_blocks K c) (1 + 256 * g.geo.class c) (cond (K (Descr c) 1) (number (K (Descr c))) 0) t

  described_run : (c : ℕ) → c < chunks_of o.shape → has_blocks K c ≡ true → d c ≡ 1 + 256 * g.geo.class c
  described_run c l t =
      let r = run_of c t in
      let told : run_told (d c) ≡ g.geo.class c = ⊎_elim
      (λ (e : descriptor_told o.shape rec c ≡ cond (g.runs c) (g.geo.class c) 0).
      sym (cond-true (is_place o.shape (Descr c)) (run_told (d c)) 0 (is_chunk c l)) ∙ (e ∙ cond-true (g.runs c) (g.geo.class c) 0 r.0))
      (λ (e : (g.runs c ≡ false) × (descriptor_told o.shape rec c ≡ g.geo.class c) × ((b : ℕ) → b < 64 → bit (rec (word_of_chunk o.shape c)) b ≡ false)).
      absurd (both_ways (g.runs c) e.0 r.0))
      (means.runs c l) in
      let q = told_so (is_run (d c)) (d c / 256) (g.geo.class c) told r.1 in
      let low = eqb-true (d c % 256) 1 q.0 in let high = q.1 in omega arith

  run_alike : (c : ℕ) → c < chunks_of o.shape → has_blocks K c ≡ true → IsAlike w v lanes c
  run_alike c l t = inl (
    v_descriptor c l ∙ (described_run c l t ∙ sym (run_descriptor c t l)),
    λ lines e. first_word v c ∙ (run_word c 0 l (omega arith) t (bitmap_lives c (run_of c t).0) ∙ sym (first_word w c)),
  )

  -- the first chunk of a huge block
  huge_number : (c : ℕ) → c < chunks_of o.shape → K (Descr c) 1 ≡ true → (is_run (d c) ≡ false) × (number (K (Descr c)) ≡ d c)
  huge_number c l t =
      let no_run : is_run (d c) ≡ false = not-true (is_run (d c)) (and_parts (not (is_run (d c))) (bit (d c) 1) (huge_bit c 1 l (omega arith) ∙ t)).0 in
      (no_run, number_is (K (Descr c)) (d c) (small (word_of_descriptor o.shape c)) (λ b m. sym (plain_bit c b l m no_run)))

  huge_descriptor : (c : ℕ) → c < chunks_of o.shape → has_blocks K c ≡ false → K (Descr c) 1 ≡ true → w (descriptor_word lanes c) ≡ d c
  huge_descriptor c l e t = w_descriptor c l ∙ (cond-false (has_blocks K c) (1 + 256 * g.geo.class c) (cond (K (Descr c) 1) (number (K (Descr c))) 0) e
      ∙ (cond-true (K (Descr c) 1) (number (K (Descr c))) 0 t ∙ (huge_number c l t).1))

  free_descriptor : (c : ℕ) → c < chunks_of o.shape → has_blocks K c ≡ false → K (Descr c) 1 ≡ false → w (descriptor_word lanes c) ≡ 0
  free_descriptor c l e t = w_descriptor c l ∙ (cond-false (has_blocks K c) (1 + 256 * g.geo.class c) (cond (K (Descr c) 1) (number (K (Descr c))) 0) e
      ∙ cond-false (K (Descr c) 1) (number (K (Descr c))) 0 t)

  huge_alike : (c : ℕ) → c < chunks_of o.shape → has_blocks K c ≡ false → K (Descr c) 1 ≡ true → IsAlike w v lanes c
  huge_alike c l e t = let y = huge_descriptor c l e t in inl (
    v_descriptor c l ∙ sym y,
    λ lines q. absurd (both_ways (is_run (d c)) (huge_number c l t).0
        (eq-eqb (d c % 256) 1 (ap (λ n. n % 256) (sym y) ∙ (lines_of_class (w (descriptor_word lanes c)) lines q).0))),
  )

  -- a chunk that holds nothing
  no_run_zero : (c : ℕ) → c < chunks_of o.shape → K (Descr c) 1 ≡ false → is_run (d c) ≡ false → d c ≡ 0
  no_run_zero c l t e =
      let same = number_is (λ b. false) (d c) (small (word_of_descriptor o.shape c))
      (λ b m. sym (plain_bit c b l m e ∙ kept.zeros o mem views g x keep keeps c t b m)) in
      sym same ∙ number_zero (λ b. false) (λ b m. refl)

  empty_bitmap : (c : ℕ) → c < chunks_of o.shape → ((b : ℕ) → b < 64 → bit (rec (word_of_chunk o.shape c)) b ≡ false) → v (chunk_word lanes c) ≡ 0
  empty_bitmap c l h =
      let z : word_of_chunk o.shape c + 0 ≡ word_of_chunk o.shape c = omega arith in
      first_word v c ∙ (v_chunk c 0 l (omega arith) ∙ (ap rec z
      ∙ (sym (number_is (λ b. false) (rec (word_of_chunk o.shape c)) (small (word_of_chunk o.shape c)) (λ b m. sym (h b m))) ∙ number_zero (λ b. false) (λ b m. refl))))

  empty_bits : (c : ℕ) → c < chunks_of o.shape → has_blocks K c ≡ false → is_run (d c) ≡ true → (b : ℕ) → b < 64 → bit (rec (word_of_chunk o.shape c)) b ≡ false
  empty_bits c l e r b m =
      let some = has_lines (d c / 256) (of_class c l r).0 in
      let told : descriptor_told o.shape rec c ≡ d c / 256 =
      cond-true (is_place o.shape (Descr c)) (run_told (d c)) 0 (is_chunk c l) ∙ cond-true (is_run (d c)) (d c / 256) 0 r in
      let z : word_of_chunk o.shape c + 0 ≡ word_of_chunk o.shape c = omega arith in
      ⊎_elim
      (λ (q : descriptor_told o.shape rec c ≡ cond (g.runs c) (g.geo.class c) 0).
      let y = told_so (g.runs c) (g.geo.class c) (d c / 256) (sym q ∙ told) some in
      ap (λ n. bit (rec n) b) (sym z) ∙ (sym (run_bit c 0 b l (omega arith) m (bitmap_lives c y.0)) ∙ no_block K c e b m))
      (λ (q : (g.runs c ≡ false) × (descriptor_told o.shape rec c ≡ g.geo.class c) × ((b : ℕ) → b < 64 → bit (rec (word_of_chunk o.shape c)) b ≡ false)). q.2 b m)
      (means.runs c l)

  free_alike : (c : ℕ) → c < chunks_of o.shape → has_blocks K c ≡ false → K (Descr c) 1 ≡ false → IsAlike w v lanes c
  free_alike c l e t = inr (
    nothing_free w lanes c (free_descriptor c l e t),
    ⊎_elim
        (λ (r : is_run (d c) ≡ true).
        let low = eqb-true (d c % 256) 1 r in
        let is : d c ≡ 1 + 256 * (d c / 256) = omega arith in
        nothing_in_run v lanes c (d c / 256) (ap class_in (v_descriptor c l) ∙ class_of_run (d c) (d c / 256) is (of_class c l r).0) (empty_bitmap c l (empty_bits c l e r)))
        (λ (r : is_run (d c) ≡ false). nothing_free v lanes c (v_descriptor c l ∙ no_run_zero c l t r))
        (cases_Bool (is_run (d c))),
  )

  alike : (c : ℕ) → c < 64 * zones → IsAlike w v lanes c
  alike c l = ⊎_elim (λ (t : has_blocks K c ≡ true). run_alike c l t)
      (λ (e : has_blocks K c ≡ false). ⊎_elim (λ (t : K (Descr c) 1 ≡ true). huge_alike c l e t) (λ (t : K (Descr c) 1 ≡ false). free_alike c l e t) (cases_Bool (K (Descr c) 1)))
      (cases_Bool (has_blocks K c))

  -- ---- HUGE BLOCKS

  -- what is described as some chunks is a huge block of so many
  record IsHuge (c n : ℕ) : Type 0 where
    no_blocks : has_blocks (kept_bits o g (is_kept o views g image) g.length) c ≡ false
    set : kept_bits o g (is_kept o views g image) g.length (Descr c) 1 ≡ true
    chunks : val (kept_bits o g (is_kept o views g image) g.length (Descr c)) 8 56 ≡ n

  huge_of : (c n : ℕ) → c < chunks_of o.shape → class_in (w (descriptor_word lanes c)) ≡ Some (Chunks n) → IsHuge c n
  huge_of c n l whole =
      let k = chunks_of_class (w (descriptor_word lanes c)) n whole in let two = k.0 in
      let e : has_blocks K c ≡ false = false_from_ne_true (has_blocks K c) (λ t. let y = run_descriptor c t l in absurd (omega arith)) in
      ⊎_elim
      (λ (t : K (Descr c) 1 ≡ true).
      let y = huge_number c l t in
      let q = huge_descriptor c l e t in
      record {
        no_blocks = e;
        set = t;
        chunks = high_bits (K (Descr c)) (d c) (small (word_of_descriptor o.shape c)) (λ b m. sym (plain_bit c b l m y.0)) ∙ (ap (λ z. z / 256) (sym q) ∙ k.1);
      })
      (λ (t : K (Descr c) 1 ≡ false). let y = free_descriptor c l e t in absurd (omega arith))
      (cases_Bool (K (Descr c) 1))

  -- each of its chunks has it for its first, and is no run
  chunk_first : (c n e : ℕ) → IsHuge c n → c ≤ e → e < c + n → g.geo.first e ≡ c
  chunk_first c n e h from to = eqb-true (g.geo.first e) c (kept.shape o mem views g x keep keeps c h.set e
      ∙ and_from (nat_le c e) (nat_lt e (c + val (K (Descr c)) 8 56)) (le-leb c e from) (lt-ltb e (c + val (K (Descr c)) 8 56) (let z = h.chunks in omega arith)))

  chunk_no_run : (c n e : ℕ) → IsHuge c n → c ≤ e → e < c + n → g.runs e ≡ false
  chunk_no_run c n e h from to = kept.huge o mem views g x keep keeps e
      (subst (λ y. there K (Big y) ≡ true) (sym (chunk_first c n e h from to)) h.set)

  chunk_without : (c n e : ℕ) → IsHuge c n → c ≤ e → e < c + n → has_blocks K e ≡ false
  chunk_without c n e h from to = false_from_ne_true (has_blocks K e) (λ t. both_ways (g.runs e) (chunk_no_run c n e h from to) (run_of e t).0)

  further_zero : (c n e : ℕ) → IsHuge c n → c < e → e < c + n → e < chunks_of o.shape → d e ≡ 0
  further_zero c n e h from to l =
      let first = chunk_first c n e h (omega arith) to in
      let other : K (Descr e) 1 ≡ false = false_from_ne_true (K (Descr e) 1) (λ t. let y = kept.head o mem views g x keep keeps e t in absurd (omega arith)) in
      let no_run : is_run (d e) ≡ false = false_from_ne_true (is_run (d e)) (λ r. ⊎_elim
      (λ (y : g.runs e ≡ true). both_ways (g.runs e) (chunk_no_run c n e h (omega arith) to) y)
      (λ (y : (k : ℕ) × ((sight_of (views k)).hold.making e ≡ true)).
      let own_ = (maker_owns o.shape (cells_of o.shape mem) (settled_words o g) (Flies (ghost_of g) y.0) (ghost_of g) x.bits.geo y.0 (sight_of (views y.0)) (x.bits.each_lane y.0) e y.1).1 in absurd (omega arith))
      (run_or_made e l r)) in
      no_run_zero e l other no_run

  behind : HasZerosBehind w v lanes zones
  behind c n j l whole m =
      let h = huge_of c n l whole in
      let fit = chunks_fit w lanes c n (chunk_good w lanes zones c none (range_member (64 * zones) c l)) whole in
      let at : descriptor_word lanes c + 1 + j ≡ descriptor_word lanes (c + (1 + j)) = omega arith in
      let inside : c + (1 + j) < chunks_of o.shape = omega arith in
      ap v at ∙ (v_descriptor (c + (1 + j)) inside ∙ further_zero c n (c + (1 + j)) h (omega arith) (omega arith) inside)

  -- ---- OBJECTS

  -- of a run
  run_class : (c lines : ℕ) → c < chunks_of o.shape → class_in (w (descriptor_word lanes c)) ≡ Some (Lines lines) → (has_blocks K c ≡ true) × (g.geo.class c ≡ lines)
  run_class c lines l e =
      let k = lines_of_class (w (descriptor_word lanes c)) lines e in let one = k.0 in let high = k.1 in
      ⊎_elim
      (λ (t : has_blocks K c ≡ true). (t, let y = run_descriptor c t l in omega arith))
      (λ (t : has_blocks K c ≡ false). absurd (⊎_elim
      (λ (q : K (Descr c) 1 ≡ true). let y = huge_descriptor c l t q in
      both_ways (is_run (d c)) (huge_number c l q).0 (eq-eqb (d c % 256) 1 (ap (λ n. n % 256) (sym y) ∙ one)))
      (λ (q : K (Descr c) 1 ≡ false). let y = free_descriptor c l t q in omega arith)
      (cases_Bool (K (Descr c) 1))))
      (cases_Bool (has_blocks K c))

  run_object : (block : Block) (c i : ℕ) → Contains (blocks w lanes zones) block → c < chunks_of o.shape → IsRunBlock w lanes c block → ReadsBlock w block i → w i ≡ v i
  run_object block c i there_ l run reads =
      let y = run_class c run.lines l run.is_run in
      let t = y.0 in
      let r = run_of c t in
      let place : block.place ≡ 8 * chunk_word lanes c + 64 * (1 + run.lines * run.index) = ap (λ (b : Block). b.place) (sym run.is_block) in
      let lines : block.lines ≡ run.lines = ap (λ (b : Block). b.lines) (sym run.is_block) in
      let most = run_fits run.lines run.index run.inside in
      let fits = object_fits w block (block_good w lanes zones block none there_) in
      let from = reads.from in let to = reads.to in
      let before : ℕ = run.lines * run.index in
      let a : ℕ = i - chunk_word lanes c in
      let q : ℕ = a - 8 * (1 + before) in
      let inside : a < 512 = omega arith in
      let is : i ≡ chunk_word lanes c + a = omega arith in
      let line : a / 8 - 1 ≡ before + q / 8 = omega arith in
      let few : q / 8 < run.lines = omega arith in
      let where_ = next_line run.lines run.index (q / 8) few in
      let cl : g.geo.class c ≡ run.lines = y.1 in
      let index : (a / 8 - 1) / g.geo.class c ≡ run.index = ap (λ n. (a / 8 - 1) / n) cl ∙ (ap (λ n. n / run.lines) line ∙ where_.0) in
      let in_block : (a / 8 - 1) % g.geo.class c ≡ q / 8 = ap (λ n. (a / 8 - 1) % n) cl ∙ (ap (λ n. n % run.lines) line ∙ where_.1) in
      let sized : size_in w block ≡ val (K (size_at (g.geo.class c) c run.index)) 0 64 =
      (let at : block.place / 8 + 1 ≡ chunk_word lanes c + (8 * (1 + run.lines * run.index) + 1) = omega arith in ap w at)
      ∙ (chunk_spelled o.shape g.geo.class K c (8 * (1 + run.lines * run.index) + 1) l (omega arith)
      ∙ (ap (λ p. number (K p)) (cond-true (has_blocks K c) (InRun c (8 * (1 + run.lines * run.index) + 1)) (InHuge c (8 * (1 + run.lines * run.index) + 1)) t)
      ∙ ap (λ n. number (K (InRun c (8 * (1 + n * run.index) + 1)))) (sym cl))) in
      let many = in_line (size_in w block) q (omega arith) in
      let shines : lit (K (size_at (g.geo.class c) c run.index)) (q / 8) ≡ true = ap (λ n. nat_le (q / 8) ((n + 63) / 64)) (sym sized) ∙ le-leb (q / 8) ((size_in w block + 63) / 64) many in
      let z : word_of_chunk o.shape c + 0 ≡ word_of_chunk o.shape c + 0 = refl in
      let below : run.index < 64 = omega arith in
      let set : K (InRun c 0) run.index ≡ true = run_bit c 0 run.index l (omega arith) below (bitmap_lives c r.0)
      ∙ (ap (λ n. bit n run.index) (sym (v_chunk c 0 l (omega arith)) ∙ (run_word c 0 l (omega arith) t (bitmap_lives c r.0) ∙ sym (first_word w c)))
      ∙ eq-eqb (bit_at (w (chunk_word lanes c)) run.index) 1 run.is_set) in
      let bright_ : bright K (g.geo.class c) c ((a / 8 - 1) / g.geo.class c) ((a / 8 - 1) % g.geo.class c) ≡ true =
      (λ j. bright K (g.geo.class c) c (index j) (in_block j)) ∙ and_from (K (InRun c 0) run.index) (lit (K (size_at (g.geo.class c) c run.index)) (q / 8)) set shines in
      let lives : live K g.geo g.runs (InRun c a) ≡ true = and_from (g.runs c) (shown K (g.geo.class c) c a) r.0
      (or_right (a == 0) ((nat_le 8 a && nat_lt a 512) && bright K (g.geo.class c) c ((a / 8 - 1) / g.geo.class c) ((a / 8 - 1) % g.geo.class c))
      (and_from (nat_le 8 a && nat_lt a 512) (bright K (g.geo.class c) c ((a / 8 - 1) / g.geo.class c) ((a / 8 - 1) % g.geo.class c))
      (and_from (nat_le 8 a) (nat_lt a 512) (le-leb 8 a (omega arith)) (lt-ltb a 512 inside)) bright_)) in
      ap w is ∙ (sym (run_word c a l inside t lives) ∙ sym (ap v is))

  -- a huge one
  huge_object : (block : Block) (c i : ℕ) → Contains (blocks w lanes zones) block → c < chunks_of o.shape → IsChunkBlock w lanes c block → ReadsBlock w block i → w i ≡ v i
  huge_object block c i there_ l whole reads =
      let n : ℕ = whole.chunks in
      let h = huge_of c n l whole.is_first in
      let fit = chunks_fit w lanes c n (chunk_good w lanes zones c none (range_member (64 * zones) c l)) whole.is_first in
      let place : block.place ≡ 8 * chunk_word lanes c = ap (λ (b : Block). b.place) (sym whole.is_block) in
      let lines : block.lines ≡ 64 * n = ap (λ (b : Block). b.lines) (sym whole.is_block) in
      let fits = object_fits w block (block_good w lanes zones block none there_) in
      let from = reads.from in let to = reads.to in
      let off : ℕ = i - chunk_word lanes c in
      let e : ℕ = c + off / 512 in
      let r : ℕ = off % 512 in
      let near : e < c + n = omega arith in
      let inside : e < chunks_of o.shape = omega arith in
      let low : r < 512 = omega arith in
      let is : i ≡ chunk_word lanes e + r = omega arith in
      let first = chunk_first c n e h (omega arith) near in
      let sized : size_in w block ≡ val (K (InHuge c 1)) 0 64 =
      (let at : block.place / 8 + 1 ≡ chunk_word lanes c + 1 = omega arith in ap w at)
      ∙ (chunk_spelled o.shape g.geo.class K c 1 l (omega arith)
      ∙ ap (λ p. number (K p)) (cond-false (has_blocks K c) (InRun c 1) (InHuge c 1) h.no_blocks)) in
      let many = in_line (size_in w block) off (omega arith) in
      let line : 64 * (e - c) + r / 8 ≡ off / 8 = omega arith in
      let shines : lit (K (InHuge c 1)) (64 * (e - c) + r / 8) ≡ true =
      ap (λ m. nat_le m ((val (K (InHuge c 1)) 0 64 + 63) / 64)) line ∙ (ap (λ m. nat_le (off / 8) ((m + 63) / 64)) (sym sized) ∙ le-leb (off / 8) ((size_in w block + 63) / 64) many) in
      let lives : live K g.geo g.runs (InHuge e r) ≡ true = and_from (nat_lt r 512) (bright_huge K (g.geo.first e) (64 * (e - g.geo.first e) + r / 8)) (lt-ltb r 512 low)
      (ap (λ f. bright_huge K f (64 * (e - f) + r / 8)) first ∙ and_from (K (Descr c) 1) (lit (K (InHuge c 1)) (64 * (e - c) + r / 8)) h.set shines) in
      ap w is ∙ (sym (huge_word e r inside low (chunk_without c n e h (omega arith) near) lives) ∙ sym (ap v is))

  contents : (block : Block) → Contains (blocks w lanes zones) block → AgreeOn (ReadsBlock w block) w v
  contents block there_ = let stands = block_stands w lanes zones block there_ in record {
    same = λ i reads. ⊎_elim
        (λ (run : IsRunBlock w lanes stands.chunk block). run_object block stands.chunk i there_ stands.in_zones run reads)
        (λ (whole : IsChunkBlock w lanes stands.chunk block). huge_object block stands.chunk i there_ stands.in_zones whole reads)
        stands.is;
  }

  root : v 64 ≡ w 64
  root = in_place 64 (omega arith) ∙ sym (root_spelled o.shape g.geo.class K
      ∙ number_is (K RootWord) (rec 64) (small 64) (λ b m. sym (means.words RootWord b refl m refl)))

  -- BOTH HAVE THE SAME HEAP
  pub image_heap : SameHeap w v lanes zones
  image_heap = same_heap w v lanes zones none alike behind contents root
