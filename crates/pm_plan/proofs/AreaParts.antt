-- What the words are to a lane: its generation, its seal, its entries, its slots, and words of the pool past the areas.
use Rattle.std.proofs.Common.{◌≡◌, ℕ, zero, suc, ◌+◌, ◌*◌, ◌^◌, ◌<◌, ◌≤◌, nat_le, nat_lt, true, false, cond, ◌==◌, refl, sym, ap, ◌∙◌, subst, arith, eq-eqb, ne_eqb, Some, ◌⊎◌, inl, inr, ⊎_elim, None}
use Rattle.std.proofs.lemmas.Bool.{and_from, and_parts, and_right, both_ways, cond-true, cond-false, false_from_ne_true, le-leb, lt-ltb, leb-true, ltb-true, and_left}
use Rattle.std.proofs.lemmas.Option.{none-some, same_Some}
use Rattle.pm_layout.specs.declared.shape.Shape.{Shape}
use Rattle.pm_layout.specs.Areas.{redo_entries, undo_slots, word_of_generation, word_of_seal, word_of_entry, line_of_slot}
use Rattle.pm_layout.specs.Chunks.{chunks_of, words_of}
use Rattle.pm_view.specs.Places.{Place, InRun, InHuge, Descr, RootWord, is_data, is_place, word_of}
use Rattle.pm_view.specs.Parts.{Part, GenerationPart, SealPart, EntryPart, SlotPart, RootPart, DescriptorPart, ChunkPart, OtherPart, is_entry_word, is_slot_word, part_of, place_in, chunk_place, pool_part}
use Rattle.pm_world.proofs.PlacesAt.{is_at, IsAt}
use Rattle.pm_plan.specs.Notes.{IsBeyond}
use Rattle.pm_view.specs.Log.{place_at}

not_lt : (a b : ℕ) → b ≤ a → nat_lt a b ≡ false
not_lt a b le = false_from_ne_true (nat_lt a b) (λ t. let l = ltb-true a b t in omega (arith, l, le))

pub not_le : (a b : ℕ) → b < a → nat_le a b ≡ false
not_le a b lt = false_from_ne_true (nat_le a b) (λ t. let l = leb-true a b t in omega (arith, l, lt))

module _ (sh : Shape) (lane w : ℕ) where
  abbrev slot_or : Part
  slot_or = cond (is_slot_word sh lane w) SlotPart (pool_part sh w)

  abbrev entry_or : Part
  entry_or = cond (is_entry_word sh lane w) EntryPart slot_or

  abbrev seal_or : Part
  seal_or = cond (w == word_of_seal sh lane) SealPart entry_or

  -- a word past the lanes' areas
  pub part_beyond : lane < sh.lanes → IsBeyond sh w → part_of sh lane w ≡ pool_part sh w
  part_beyond low far =
      cond-false (w == word_of_generation sh lane) GenerationPart seal_or (ne_eqb w (word_of_generation sh lane) (λ e. omega (arith, e, low, far)))
      ∙ (cond-false (w == word_of_seal sh lane) SealPart entry_or (ne_eqb w (word_of_seal sh lane) (λ e. omega (arith, e, low, far)))
      ∙ (cond-false (is_entry_word sh lane w) EntryPart slot_or (and_right (nat_le (word_of_entry sh lane 0) w) (nat_lt w (word_of_entry sh lane (redo_entries sh))) (not_lt w (word_of_entry sh lane (redo_entries sh)) (omega (arith, low, far))))
      ∙ cond-false (is_slot_word sh lane w) SlotPart (pool_part sh w) (and_right (nat_le (8 * line_of_slot sh lane 0) w) (nat_lt w (8 * line_of_slot sh lane (undo_slots sh))) (not_lt w (8 * line_of_slot sh lane (undo_slots sh)) (omega (arith, low, far))))))

  pub part_slot : (slot i : ℕ) → slot < 64 → i < 8 → w ≡ 8 * line_of_slot sh lane slot + i → part_of sh lane w ≡ SlotPart
  part_slot slot i few small at =
      cond-false (w == word_of_generation sh lane) GenerationPart seal_or (ne_eqb w (word_of_generation sh lane) (λ e. omega (arith, e, at)))
      ∙ (cond-false (w == word_of_seal sh lane) SealPart entry_or (ne_eqb w (word_of_seal sh lane) (λ e. omega (arith, e, at)))
      ∙ (cond-false (is_entry_word sh lane w) EntryPart slot_or (and_right (nat_le (word_of_entry sh lane 0) w) (nat_lt w (word_of_entry sh lane (redo_entries sh))) (not_lt w (word_of_entry sh lane (redo_entries sh)) (omega (arith, at))))
      ∙ cond-true (is_slot_word sh lane w) SlotPart (pool_part sh w) (and_from (nat_le (8 * line_of_slot sh lane 0) w) (nat_lt w (8 * line_of_slot sh lane (undo_slots sh))) (le-leb (8 * line_of_slot sh lane 0) w (omega (arith, at))) (lt-ltb w (8 * line_of_slot sh lane (undo_slots sh)) (omega (arith, few, small, at))))))

  pub part_seal : w ≡ word_of_seal sh lane → part_of sh lane w ≡ SealPart
  part_seal is =
      cond-false (w == word_of_generation sh lane) GenerationPart seal_or
      (ne_eqb w (word_of_generation sh lane) (λ e. omega (arith, e, is)))
      ∙ cond-true (w == word_of_seal sh lane) SealPart entry_or (eq-eqb w (word_of_seal sh lane) is)

  pub entry_word : (i j : ℕ) → i < 64 → j < 2 → w ≡ word_of_entry sh lane i + j
      → is_entry_word sh lane w ≡ true
  entry_word i j few small at = and_from (nat_le (word_of_entry sh lane 0) w)
      (nat_lt w (word_of_entry sh lane (redo_entries sh)))
      (le-leb (word_of_entry sh lane 0) w (omega (arith, at)))
      (lt-ltb w (word_of_entry sh lane (redo_entries sh)) (omega (arith, few, small, at)))

  pub part_entry : (i j : ℕ) → i < 64 → j < 2 → w ≡ word_of_entry sh lane i + j
      → part_of sh lane w ≡ EntryPart
  part_entry i j few small at =
      cond-false (w == word_of_generation sh lane) GenerationPart seal_or
      (ne_eqb w (word_of_generation sh lane) (λ e. omega (arith, e, at)))
      ∙ (cond-false (w == word_of_seal sh lane) SealPart entry_or
      (ne_eqb w (word_of_seal sh lane) (λ e. omega (arith, e, at)))
      ∙ cond-true (is_entry_word sh lane w) EntryPart slot_or (entry_word i j few small at))

  part_root : w ≡ 64 → part_of sh lane w ≡ pool_part sh w
  part_root is =
      cond-false (w == word_of_generation sh lane) GenerationPart seal_or
      (ne_eqb w (word_of_generation sh lane) (λ e. omega (arith, e, is)))
      ∙ (cond-false (w == word_of_seal sh lane) SealPart entry_or
      (ne_eqb w (word_of_seal sh lane) (λ e. omega (arith, e, is)))
      ∙ (cond-false (is_entry_word sh lane w) EntryPart slot_or
      (and_left (nat_le (word_of_entry sh lane 0) w)
      (nat_lt w (word_of_entry sh lane (redo_entries sh)))
      (not_le (word_of_entry sh lane 0) w (omega (arith, is))))
      ∙ cond-false (is_slot_word sh lane w) SlotPart (pool_part sh w)
      (and_left (nat_le (8 * line_of_slot sh lane 0) w)
      (nat_lt w (8 * line_of_slot sh lane (undo_slots sh)))
      (not_le (8 * line_of_slot sh lane 0) w (omega (arith, is))))))

  module _ (class : ℕ → ℕ) where
    -- a word of a place is the root's, or past the lanes' areas
    outside : (p : Place) → IsAt sh class w p → (w ≡ 64) ⊎ IsBeyond sh w
    outside (InRun c u) at = inr (let e = at.word in omega (arith, e))
    outside (InHuge c u) at = inr (let e = at.word in omega (arith, e))
    outside (Descr c) at = inr (let e = at.word in omega (arith, e))
    outside RootWord at = inl (sym at.word)

    pub place_outside : (p : Place) → place_at sh class w ≡ Some p → (w ≡ 64) ⊎ IsBeyond sh w
    place_outside p at = outside p (is_at sh class w p at)

    pub part_placed : lane < sh.lanes → (p : Place) → place_at sh class w ≡ Some p
        → part_of sh lane w ≡ pool_part sh w
    part_placed low p at = ⊎_elim part_root (λ (far : IsBeyond sh w). part_beyond low far)
        (place_outside p at)

    -- what is so of the root's word, of descriptors and of words of chunks is so of words of places
    pub by_part : lane < sh.lanes → (p : Place) → place_at sh class w ≡ Some p → (P : Part → Type 0)
        → (p ≡ RootWord → P RootPart) → ((c : ℕ) → P (DescriptorPart c))
        → ((c u : ℕ) → P (ChunkPart c u)) → P (part_of sh lane w)
    by_part low p at P root descriptor chunk = subst P (sym (part_placed low p at))
        (go (pool_part sh w) at)
      where
        go : (q : Part) → place_in class q ≡ Some p → P q
        go RootPart s = root (sym (same_Some RootWord p s))
        go (DescriptorPart c) s = descriptor c
        go (ChunkPart c u) s = chunk c u
        go GenerationPart s = absurd (none-some p s)
        go SealPart s = absurd (none-some p s)
        go EntryPart s = absurd (none-some p s)
        go SlotPart s = absurd (none-some p s)
        go OtherPart s = absurd (none-some p s)

pub part_generation : (sh : Shape) (lane : ℕ) → part_of sh lane (word_of_generation sh lane) ≡ GenerationPart
part_generation sh lane = let w : ℕ = word_of_generation sh lane in cond-true (w == word_of_generation sh lane) GenerationPart (seal_or sh lane w) (eq-eqb w w refl)

-- a chunk's data are in the pool, and their words' numbers are small
pub in_pool : (sh : Shape) (p : Place) → is_data p ≡ true → is_place sh p ≡ true → word_of sh p < words_of sh
in_pool sh (InRun c u) plain there = let t = and_parts (nat_lt c (chunks_of sh)) (nat_lt u 512) there in let a = ltb-true c (chunks_of sh) t.0 in let b = ltb-true u 512 t.1 in omega (arith, a, b)
in_pool sh (InHuge c u) plain there = let t = and_parts (nat_lt c (chunks_of sh)) (nat_lt u 512) there in let a = ltb-true c (chunks_of sh) t.0 in let b = ltb-true u 512 t.1 in omega (arith, a, b)
in_pool sh (Descr c) plain there = absurd (both_ways false refl plain)
in_pool sh RootWord plain there = absurd (both_ways false refl plain)

pub small_word : (sh : Shape) (w : ℕ) → sh.lanes ≤ 32 → sh.zones ≤ 32 → w < words_of sh → w < 2 ^ 60
small_word sh w lanes zones low = omega (arith, lanes, zones, low)

-- a chunk's data are past the lanes' areas
pub data_beyond : (sh : Shape) (p : Place) → is_data p ≡ true → IsBeyond sh (word_of sh p)
data_beyond sh (InRun c u) plain = omega arith
data_beyond sh (InHuge c u) plain = omega arith
data_beyond sh (Descr c) plain = absurd (both_ways false refl plain)
data_beyond sh RootWord plain = absurd (both_ways false refl plain)

-- what the word of a data place is
pub record OfChunk (sh : Shape) (class : ℕ → ℕ) (lane w : ℕ) (p : Place) : Type 0 where
  pub chunk : ℕ
  pub at : ℕ
  pub part : part_of sh lane w ≡ ChunkPart chunk at
  pub place : p ≡ chunk_place (class chunk) chunk at
  -- the first word is a huge block's
  pub huge : at ≡ 0 → class chunk ≡ 0

pub data_part : (sh : Shape) (class : ℕ → ℕ) (lane w : ℕ) (p : Place) → lane < sh.lanes → is_data p ≡ true → place_in class (pool_part sh w) ≡ Some p → OfChunk sh class lane w p
data_part sh class lane w p low plain here = go (pool_part sh w) refl here where
  far : IsBeyond sh w
  far = subst (IsBeyond sh) ((is_at sh class w p here).word) (data_beyond sh p plain)

  first : (c u n : ℕ) → class c ≡ n → p ≡ chunk_place n c u → u ≡ 0 → class c ≡ 0
  first c u zero e q z = e
  first c u (suc n) e q z = absurd (let l = leb-true 8 u (sym (ap is_data q) ∙ plain) in omega (arith, l, z))

  go : (q : Part) → pool_part sh w ≡ q → place_in class q ≡ Some p → OfChunk sh class lane w p
  go RootPart e s = absurd (both_ways false refl (ap is_data (same_Some RootWord p s) ∙ plain))
  go (DescriptorPart c) e s = absurd (both_ways false refl (ap is_data (same_Some (Descr c) p s) ∙ plain))
  go (ChunkPart c u) e s = record { chunk = c; at = u; part = part_beyond sh lane w low far ∙ e; place = sym (same_Some (chunk_place (class c) c u) p s); huge = first c u (class c) refl (sym (same_Some (chunk_place (class c) c u) p s)) }
  go GenerationPart e s = absurd (none-some p s)
  go SealPart e s = absurd (none-some p s)
  go EntryPart e s = absurd (none-some p s)
  go SlotPart e s = absurd (none-some p s)
  go OtherPart e s = absurd (none-some p s)

-- the word of a lane's generation is no place
pub no_place : (sh : Shape) (class : ℕ → ℕ) (lane : ℕ) → lane < sh.lanes
    → place_at sh class (word_of_generation sh lane) ≡ None
no_place sh class lane low = go (place_at sh class (word_of_generation sh lane)) refl
  where
    go : (o : Rattle.std.specs.Prelude.Option Place)
        → place_at sh class (word_of_generation sh lane) ≡ o → o ≡ None
    go None e = refl
    go (Some p) e =
        absurd (⊎_elim (λ (root : word_of_generation sh lane ≡ 64). let r = root in
        omega (arith, r)) (λ (far : IsBeyond sh (word_of_generation sh lane)). omega
        (arith, far, low)) (place_outside sh lane (word_of_generation sh lane) class p e))
