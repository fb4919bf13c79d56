-- THE CRASH LAW of a world: every surviving image without torn records, recovered, has at each living place the words with the calls that it keeps.
use Rattle.std.proofs.Common.{◌≡◌, ◌≢◌, ℕ, zero, suc, ◌+◌, ◌*◌, ◌/◌, ◌%◌, ◌<◌, ◌≤◌, ◌⊎◌, inl, inr, ⊎_elim, nat_lt, Bool, true, false, cond, not, ◌&&◌, ◌||◌, eqb, leb, ltb, ◌==◌, List, [], ◌++◌, map, slice_index, refl, sym, ap, ◌∙◌, subst, arith, eq-eqb, ne_eqb, Option}
use Rattle.std.specs.Int.{bit_at}
use Rattle.std.specs.List.{filter, flat_map, range_with_len}
use Rattle.std.proofs.lemmas.Bool.{cases_eq, cases_Bool, both_ways, and_from, and_parts, cond-true, cond-false, false_from_ne_true, le-leb, lt-ltb, ltb-true}
use Rattle.std.proofs.lemmas.List.Elements.{filter-append}
use Rattle.std.proofs.lemmas.List.Folds.{list_any_at}
use Rattle.std.proofs.lemmas.Nat.Bits.{bit_at-zero, bit_at_ones}
use Rattle.pm_layout.specs.declared.shape.Shape.{Shape}
use Rattle.pm_layout.specs.Areas.{word_of_generation, word_of_seal, word_of_entry, line_of_slot, undo_slots, redo_entries}
use Rattle.pm_layout.specs.Chunks.{words_of, chunks_of, word_of_descriptor, word_of_root, is_in_zone, is_descriptor_word, chunk_described, page_of_zone, page_in_zone}
use Rattle.pm_record.specs.declared.redo.Redo.{Redo}
use Rattle.pm_image.specs.Logs.{records, entries, recovered}
use Rattle.pm_view.specs.Bits.{all_bits}
use Rattle.pm_view.specs.Changes.{Undrained, is_dirty_bit}
use Rattle.pm_view.specs.Parts.{DescriptorPart, is_entry_word, is_slot_word, part_of}
use Rattle.pm_view.specs.Places.{Place, InRun, InHuge, Descr, RootWord, twin, word_of, is_place}
use Rattle.pm_view.specs.Claims.{is_run}
use Rattle.pm_view.specs.Log.{Phase, Idle, Open, Drawn, Sealing, Applying, Clearing, Retiring, Voiding}
use Rattle.pm_world.specs.States.{State, given, over, live, read, replay}
use Rattle.pm_world.specs.Sights.{sight_of, is_use}
use Rattle.pm_world.specs.Lanes.{is_decided, owns, SightFits, Flies}
use Rattle.pm_world.specs.Logs.{IsOld, AreaChange}
use Rattle.pm_world.specs.Memory.{Memory, PoolWord, bit, run_told, huge_told, bits_of, cells_of}
use Rattle.pm_world.specs.World.{Opening, Views, Past, World, origin, settled_words, ghost_of}
use Rattle.pm_world.specs.Crash.{Survives, NoneTorn, decides_in, is_decided_in, is_kept, kept_words}
use Rattle.pm_world.proofs.Frame.{is_single, owns_apart, twin_apart}
use Rattle.pm_world.proofs.Crashes.{InPool, Image, decides, decided_by, means_kept}
use Rattle.pm_world.proofs.RecoveredBits.{record_bit, of_word, log_bit, all_entries, empty_or, SetsWord, recovered_bit, recovered_descriptor}
use Rattle.pm_world.proofs.SurvivingWords.{bit_left, whole_left, Taken}
use Rattle.pm_world.proofs.ImageLogs.{redo_at}
use Rattle.pm_world.proofs.LanesInImages.{Silent, Sealed, Current}
use Rattle.pm_world.proofs.EntriesAtPlaces.{of_place, entered, sets_descriptor}
use Rattle.pm_world.proofs.RecordsAtPlaces.{Speaks, speaks_of}
use Rattle.pm_world.proofs.ImageSays.{stands_in, spoken, spoken_is, spoken_beyond, stands, lane_says, three_cases, bare_bit, sealed_stand}

-- ---- places in the pool

pub place_inside : (sh : Shape) (p : Place) → is_place sh p ≡ true → word_of sh p < words_of sh
place_inside sh (InRun c w) e = let t = and_parts (nat_lt c (chunks_of sh)) (nat_lt w 512) e in let a = ltb-true c (chunks_of sh) t.0 in let b = ltb-true w 512 t.1 in omega arith
place_inside sh (InHuge c w) e = let t = and_parts (nat_lt c (chunks_of sh)) (nat_lt w 512) e in let a = ltb-true c (chunks_of sh) t.0 in let b = ltb-true w 512 t.1 in omega arith
place_inside sh (Descr c) e = let a = ltb-true c (chunks_of sh) e in omega arith
place_inside sh RootWord e = omega arith

-- a descriptor's word is such to each lane of the pool
pub descriptor_part : (sh : Shape) (k c : ℕ) → k < sh.lanes → c < chunks_of sh → part_of sh k (word_of_descriptor sh c) ≡ DescriptorPart (chunk_described sh (word_of_descriptor sh c))
descriptor_part sh k c ink inside = let w : ℕ = word_of_descriptor sh c in
    let page : w / 512 ≡ page_of_zone sh (c / 64) = omega arith in
    let zone : is_in_zone sh (w / 512) ≡ true = and_from (leb (page_of_zone sh 0) (w / 512)) (ltb (w / 512) (page_of_zone sh sh.zones)) (le-leb (page_of_zone sh 0) (w / 512) (omega arith)) (lt-ltb (w / 512) (page_of_zone sh sh.zones) (omega arith)) in
    let first : (page_in_zone sh (w / 512) == 0) ≡ true = eq-eqb (page_in_zone sh (w / 512)) 0 (omega arith) in
    let low : nat_lt (w % 512) 64 ≡ true = lt-ltb (w % 512) 64 (omega arith) in
    cond-false (w == word_of_generation sh k) _ _ (ne_eqb w (word_of_generation sh k) (λ q. omega arith)) ∙ (cond-false (w == word_of_seal sh k) _ _ (ne_eqb w (word_of_seal sh k) (λ q. omega arith))
    ∙ (cond-false (is_entry_word sh k w) _ _ (false_from_ne_true (is_entry_word sh k w) (λ t. let z = ltb-true w (word_of_entry sh k (redo_entries sh)) (and_parts (leb (word_of_entry sh k 0) w) (ltb w (word_of_entry sh k (redo_entries sh))) t).1 in omega arith))
    ∙ (cond-false (is_slot_word sh k w) _ _ (false_from_ne_true (is_slot_word sh k w) (λ t. let z = ltb-true w (8 * line_of_slot sh k (undo_slots sh)) (and_parts (leb (8 * line_of_slot sh k 0) w) (ltb w (8 * line_of_slot sh k (undo_slots sh))) t).1 in omega arith))
    ∙ (cond-false (w == word_of_root sh) _ _ (ne_eqb w (word_of_root sh) (λ q. omega arith))
    ∙ cond-true (is_descriptor_word sh w) _ _ (and_from (is_in_zone sh (w / 512) && page_in_zone sh (w / 512) == 0) (nat_lt (w % 512) 64) (and_from (is_in_zone sh (w / 512)) (page_in_zone sh (w / 512) == 0) zone first) low)))))

-- a change of a descriptor is of the whole word: where the lane makes a run its old value is 0, or the call is decided
pub descriptor_change : (ph : Phase) (count n d : ℕ) (c : Undrained) → AreaChange ph count n (DescriptorPart d) c → (c.mask ≡ all_bits) × (IsOld 0 c ⊎ (is_decided ph ≡ true))
descriptor_change Idle count n d c e = absurd e
descriptor_change Open count n d c e = (e.0, inl e)
descriptor_change (Drawn m) count n d c e = absurd e
descriptor_change (Sealing m) count n d c e = absurd e
descriptor_change (Applying t) count n d c e = (e, inr refl)
descriptor_change Clearing count n d c e = absurd e
descriptor_change (Retiring m) count n d c e = absurd e
descriptor_change Voiding count n d c e = absurd e

huge_nothing : (b : ℕ) → huge_told 0 b ≡ false
huge_nothing b = ap (λ n. n == 1) (bit_at-zero b)

-- a descriptor that tells of a run tells of no huge block
run_not_huge : (word lines b : ℕ) → run_told word ≡ lines → 1 ≤ lines → huge_told word b ≡ false
run_not_huge word lines b e some = go (is_run word) e
  where
    go : (t : Bool) → cond t (word / 256) 0 ≡ lines → (not t && bit word b) ≡ false
    go true e = refl
    go false e = absurd (omega arith)

pub inside_told : (t : Bool) (x lines : ℕ) → cond t x 0 ≡ lines → 1 ≤ lines → x ≡ lines
inside_told true x lines e some = e
inside_told false x lines e some = absurd (omega arith)

-- no part has an entry of the word
pub no_part : (w : ℕ) (f : ℕ → List Redo) (from n : ℕ) → ((j : ℕ) → j < from + n → of_word w (f j) ≡ []) → of_word w (flat_map f (range_with_len from n)) ≡ []
no_part w f from zero h = refl
no_part w f from (suc n) h = filter-append (λ (e : Redo). eqb e.place (8 * w)) (f from) (flat_map f (range_with_len (from + 1) n))
    ∙ (ap (λ (es : List Redo). es ++ of_word w (flat_map f (range_with_len (from + 1) n))) (h from (omega arith)) ∙ no_part w f (from + 1) n (λ j l. h j (omega arith)))

module _ (o : Opening) (mem : Memory) (views : Views) (g : Past) (x : World o mem views g) (image : List ℕ) (sv : Survives o mem views image) (torn : NoneTorn o views image) where
  abbrev pub im : State
  im = bits_of o.shape (slice_index image)

  abbrev pub rec : State
  rec = bits_of o.shape (recovered image o.shape.lanes)

  abbrev m : State
  m = read (cells_of o.shape mem).pool

  abbrev pub says : ℕ → Place → ℕ → Option Bool
  says = spoken o mem views g x image sv torn

  pub fit : (k : ℕ) → SightFits o.shape (cells_of o.shape mem) (settled_words o g) (Flies (ghost_of g) k) (ghost_of g) k (sight_of (views k))
  fit k = x.bits.each_lane k

  -- ---- WHICH BITS ARE AS IN MEMORY

  abbrev Soils : Place → ℕ → Type 0
  Soils p b = (k : ℕ) × (((sight_of (views k)).soiled p b ≡ true) ⊎ ((sight_of (views k)).soiled (twin p) b ≡ true))

  pub soils : (k : ℕ) → k < o.lanes → (p : Place) (b : ℕ) → is_use (sight_of (views k)).hold p ≡ true → is_dirty_bit (views k).changes (word_of o.shape p) b ≡ true → (sight_of (views k)).soiled p b ≡ true
  soils k ink p b u d = and_from (is_use (sight_of (views k)).hold p) (is_dirty_bit (views k).changes (word_of (views k).fixed.shape p) b) u (ap (λ s. is_dirty_bit (views k).changes (word_of s p) b) (x.each_lane k ink).shape ∙ d)

  in_chunk : (k c w b : ℕ) → k < o.lanes → nat_lt w 512 ≡ true → is_dirty_bit (views k).changes (word_of o.shape (InRun c w)) b ≡ true → ((sight_of (views k)).soiled (InRun c w) b ≡ true) ⊎ ((sight_of (views k)).soiled (InHuge c w) b ≡ true)
  in_chunk k c w b ink s d = ⊎_elim (λ (t : ((sight_of (views k)).hold.class c == 0) ≡ true). inr (soils k ink (InHuge c w) b (and_from (nat_lt w 512) ((sight_of (views k)).hold.class c == 0) s t) d))
      (λ (t : ((sight_of (views k)).hold.class c == 0) ≡ false). inl (soils k ink (InRun c w) b (and_from (nat_lt w 512) (not ((sight_of (views k)).hold.class c == 0)) s (ap not t)) d)) (cases_Bool ((sight_of (views k)).hold.class c == 0))

  other_way : {A B : Type 0} → A ⊎ B → B ⊎ A
  other_way (inl a) = inr a
  other_way (inr b) = inl b

  -- of a descriptor: the lane that changed it makes a run there, which image and memory have for no huge block
  taken_descriptor : (c b : ℕ) → is_place o.shape (Descr c) ≡ true → b < 64 → Taken o mem views g x image sv (word_of_descriptor o.shape c) → (im (Descr c) b ≡ m (Descr c) b) ⊎ Soils (Descr c) b
  taken_descriptor c b e small t = let inj = t.of_lane in let most = x.most_lanes in
      let ch = descriptor_change (views t.lane).log.phase (Rattle.std.specs.Prelude.length (views t.lane).log.entries) (views t.lane).log.generation (chunk_described o.shape (word_of_descriptor o.shape c)) t.seen
      (subst (λ p. AreaChange (views t.lane).log.phase (Rattle.std.specs.Prelude.length (views t.lane).log.entries) (views t.lane).log.generation p t.seen) (descriptor_part o.shape t.lane c (omega arith) (ltb-true c (chunks_of o.shape) e)) t.is) in
      ⊎_elim (λ (y : (sight_of (views t.lane)).hold.making c ≡ true). let h = (fit t.lane).hold.making c y in
      let run : run_told (mem (PoolWord (word_of_descriptor o.shape c))) ≡ g.geo.class c = inside_told (is_place o.shape (Descr c)) (run_told (mem (PoolWord (word_of_descriptor o.shape c)))) (g.geo.class c) h.1 h.2 in
      ⊎_elim (λ (old : IsOld 0 t.seen). inl (ap (λ s. s && huge_told (slice_index image (word_of_descriptor o.shape c)) b) e ∙ (ap (λ z. huge_told z b) (t.old 0 old) ∙ (huge_nothing b
      ∙ sym (ap (λ s. s && huge_told (mem (PoolWord (word_of_descriptor o.shape c))) b) e ∙ run_not_huge (mem (PoolWord (word_of_descriptor o.shape c))) (g.geo.class c) b run h.2)))))
      (λ (dec : is_decided (views t.lane).log.phase ≡ true). absurd (both_ways ((sight_of (views t.lane)).hold.making c) ((x.each_lane t.lane inj).made dec c) y)) ch.1)
      (λ (y : (sight_of (views t.lane)).hold.making c ≡ false). inr (
        t.lane,
        inl (soils t.lane inj (Descr c) b (ap not y) (list_any_at (λ (d : Undrained). d.word == word_of_descriptor o.shape c && bit_at d.mask b == 1) (views t.lane).changes t.there.0 t.seen t.there.1
            (ap (λ (d : Undrained). d.word == word_of_descriptor o.shape c && bit_at d.mask b == 1) t.there.2 ∙ and_from (t.seen.word == word_of_descriptor o.shape c) (bit_at t.seen.mask b == 1) (eq-eqb t.seen.word (word_of_descriptor o.shape c) t.of_word)
            (eq-eqb (bit_at t.seen.mask b) 1 (ap (λ n. bit_at n b) ch.0 ∙ bit_at_ones 64 b small))))),
      )) (cases_Bool ((sight_of (views t.lane)).hold.making c))

  pub pool : (p : Place) (b : ℕ) → InPool o.shape p b → (im p b ≡ m p b) ⊎ Soils p b
  pool (InRun c w) b i = ⊎_elim (λ e. inl (ap (λ t. is_place o.shape (InRun c w) && t) e)) (λ (y : (k : ℕ) × (k < o.lanes) × (is_dirty_bit (views k).changes (word_of o.shape (InRun c w)) b ≡ true)). inr (y.0, in_chunk y.0 c w b y.1 (and_parts (nat_lt c (chunks_of o.shape)) (nat_lt w 512) i.0).1 y.2))
      (bit_left o mem views g x image sv (word_of o.shape (InRun c w)) b (place_inside o.shape (InRun c w) i.0) i.1)
  pool (InHuge c w) b i = ⊎_elim (λ e. inl (ap (λ t. is_place o.shape (InHuge c w) && t) e)) (λ (y : (k : ℕ) × (k < o.lanes) × (is_dirty_bit (views k).changes (word_of o.shape (InHuge c w)) b ≡ true)). inr (y.0, other_way (in_chunk y.0 c w b y.1 (and_parts (nat_lt c (chunks_of o.shape)) (nat_lt w 512) i.0).1 y.2)))
      (bit_left o mem views g x image sv (word_of o.shape (InHuge c w)) b (place_inside o.shape (InHuge c w) i.0) i.1)
  pool (Descr c) b i = ⊎_elim (λ e. inl (ap (λ n. is_place o.shape (Descr c) && huge_told n b) e)) (λ t. taken_descriptor c b i.0 i.1 t) (whole_left o mem views g x image sv (word_of_descriptor o.shape c) (place_inside o.shape (Descr c) i.0))
  pool RootWord b i = ⊎_elim (λ e. inl e) (λ (y : (k : ℕ) × (k < o.lanes) × (is_dirty_bit (views k).changes (word_of o.shape RootWord) b ≡ true)). inr (y.0, inl (soils y.0 y.1 RootWord b refl y.2)))
      (bit_left o mem views g x image sv (word_of o.shape RootWord) b (place_inside o.shape RootWord i.0) i.1)

  -- ---- LOGS OF TWO LANES speak of no common bit

  pub apart : (j k : ℕ) → j ≢ k → (p : Place) (b : ℕ) → owns g.geo (settled_words o g) (sight_of (views j)).hold p b ≡ true → owns g.geo (settled_words o g) (sight_of (views k)).hold p b ≡ false
  apart j k ne = owns_apart o.shape (cells_of o.shape mem) (settled_words o g) (Flies (ghost_of g) j) (Flies (ghost_of g) k) (ghost_of g) x.bits.geo x.bits.alone j k (sight_of (views j)) (sight_of (views k)) (fit j) (fit k) ne

  pub away : (j k : ℕ) → j ≢ k → (p : Place) (b : ℕ) → owns g.geo (settled_words o g) (sight_of (views j)).hold p b ≡ true → owns g.geo (settled_words o g) (sight_of (views k)).hold (twin p) b ≡ false
  away j k ne = twin_apart o.shape (cells_of o.shape mem) (settled_words o g) (Flies (ghost_of g) j) (Flies (ghost_of g) k) (ghost_of g) x.bits.geo x.bits.alone j k (sight_of (views j)) (sight_of (views k)) (fit j) (fit k) ne

  -- where a record gives a word, no lane has an entry of it
  pub no_entry : (k : ℕ) (ink : k < o.shape.lanes) (c : Current o mem views g x image sv torn k ink) (und : is_decided (views k).log.phase ≡ false) (w : ℕ) (u : Rattle.pm_record.specs.declared.undo.Undo.Undo)
      → Speaks o mem views g x image sv torn k ink c und w u → (j : ℕ) → j < o.shape.lanes → of_word w (entries image j) ≡ []
  no_entry k ink c und w u s j inj = ⊎_elim (λ (q : j ≡ k). ap (λ i. of_word w (entries image i)) q ∙ ap (of_word w) c.none_sealed)
      (λ (ne : j ≢ k). ⊎_elim (λ (z : Silent o mem views g x image sv torn j inj). ap (of_word w) z.none_sealed) (λ z. ⊎_elim (λ (z : Sealed o mem views g x image sv torn j inj). sealed ne z)
      (λ z. ap (of_word w) z.0.none_sealed) z) (three_cases o mem views g x image sv torn j inj)) (cases_eq j k)
    where
      sealed : j ≢ k → Sealed o mem views g x image sv torn j inj → of_word w (entries image j) ≡ []
      sealed ne z = ap (of_word w) z.all_sealed ∙ ⊎_elim (λ (e : of_word w (map redo_at (views j).log.entries) ≡ []). e) (λ (some : of_word w (map redo_at (views j).log.entries) ≢ []).
          let y = entered o.shape j inj (views j).log.entries s.place (sealed_stand o mem views g x image sv torn j inj z) s.is_there (λ n. some (ap (λ v. of_word v (map redo_at (views j).log.entries)) (sym s.of_word) ∙ n)) in
          let own_ : owns g.geo (settled_words o g) (sight_of (views j)).hold y.0 y.1 ≡ true = (fit j).reach y.0 y.1 (Rattle.pm_world.proofs.Frame.some_first (Rattle.pm_view.specs.Entries.latest (sight_of (views j)).call.entries y.0 y.1) ((sight_of (views j)).call.fresh y.0 y.1) y.5) in
          let mine = s.own_ y.1 y.4 in
          absurd (⊎_elim (λ (q : y.0 ≡ s.place). both_ways (owns g.geo (settled_words o g) (sight_of (views j)).hold s.place y.1) (apart k j (λ r. ne (sym r)) s.place y.1 mine) (subst (λ p. owns g.geo (settled_words o g) (sight_of (views j)).hold p y.1 ≡ true) q own_))
          (λ (q : y.0 ≡ twin s.place). both_ways (owns g.geo (settled_words o g) (sight_of (views j)).hold (twin s.place) y.1) (away k j (λ r. ne (sym r)) s.place y.1 mine) (subst (λ p. owns g.geo (settled_words o g) (sight_of (views j)).hold p y.1 ≡ true) q own_))
          (of_place o.shape j inj s.place y.0 s.is_there y.2 y.3))) (empty_or image o.shape.lanes w (of_word w (map redo_at (views j).log.entries)))

  pub alone : (k : ℕ) → k < o.shape.lanes → (w b : ℕ) → given (record_bit (records image k) w b) ≡ true → of_word w (all_entries image o.shape.lanes w) ≡ []
  alone k ink w b e = ⊎_elim (λ (z : Silent o mem views g x image sv torn k ink). absurd (both_ways false refl (sym (ap given (bare_bit o mem views g x image sv torn k ink z.bare w b)) ∙ e)))
      (λ z. ⊎_elim (λ (z : Sealed o mem views g x image sv torn k ink). absurd (both_ways false refl (sym (ap given (bare_bit o mem views g x image sv torn k ink z.bare w b)) ∙ e)))
      (λ (z : Current o mem views g x image sv torn k ink × (is_decided (views k).log.phase ≡ false)). let s = speaks_of o mem views g x image sv torn k ink z.0 z.1 w b e in
      no_part w (entries image) 0 o.shape.lanes (λ j l. no_entry k ink z.0 z.1 w s.0 s.2 j (omega arith))) z) (three_cases o mem views g x image sv torn k ink)

  pub sets : (c j : ℕ) → is_place o.shape (Descr c) ≡ true → j < o.shape.lanes → SetsWord (word_of_descriptor o.shape c) (entries image j)
  sets c j e inj = ⊎_elim (λ (z : Silent o mem views g x image sv torn j inj). subst (SetsWord (word_of_descriptor o.shape c)) (sym z.none_sealed) tt)
      (λ z. ⊎_elim (λ (z : Sealed o mem views g x image sv torn j inj). subst (SetsWord (word_of_descriptor o.shape c)) (sym z.all_sealed) (sets_descriptor o.shape j inj (views j).log.entries c (sealed_stand o mem views g x image sv torn j inj z) e))
      (λ z. subst (SetsWord (word_of_descriptor o.shape c)) (sym z.0.none_sealed) tt) z) (three_cases o mem views g x image sv torn j inj)

  -- no record is of a descriptor
  pub bare_descriptor : (c k b : ℕ) → is_place o.shape (Descr c) ≡ true → k < o.shape.lanes → given (record_bit (records image k) (word_of_descriptor o.shape c) b) ≡ false
  bare_descriptor c k b e ink = let w = word_of_descriptor o.shape c in ⊎_elim (λ (z : Silent o mem views g x image sv torn k ink). ap given (bare_bit o mem views g x image sv torn k ink z.bare w b))
      (λ z. ⊎_elim (λ (z : Sealed o mem views g x image sv torn k ink). ap given (bare_bit o mem views g x image sv torn k ink z.bare w b))
      (λ (z : Current o mem views g x image sv torn k ink × (is_decided (views k).log.phase ≡ false)). false_from_ne_true (given (record_bit (records image k) w b)) (λ t. let s = (speaks_of o mem views g x image sv torn k ink z.0 z.1 w b t).2 in
      both_ways true (sym (⊎_elim (λ (q : s.place ≡ Descr c). ap is_single q) (λ (q : s.place ≡ Descr c). ap is_single q) (of_place o.shape k ink (Descr c) s.place e s.is_there s.of_word)) ∙ s.chunk) refl)) z) (three_cases o mem views g x image sv torn k ink)

  -- WHERE ONE LANE'S LOG ALONE gives a bit, recovery does so
  joins : (p : Place) (b k : ℕ) → k < o.shape.lanes → InPool o.shape p b → ((j : ℕ) → j ≢ k → given (says j p b) ≡ false) → rec p b ≡ over (says k p b) (im p b)
  joins p b k ink i others = go p i others
    where
      quiet : (p : Place) → ((j : ℕ) → j ≢ k → given (says j p b) ≡ false) → (j : ℕ) → j < o.shape.lanes → j ≢ k → given (log_bit image o.shape.lanes (word_of o.shape p) j b) ≡ false
      quiet p others j l ne = sym (ap given (spoken_is o mem views g x image sv torn j l p b)) ∙ others j ne

      whole : (p : Place) → InPool o.shape p b → ((j : ℕ) → j ≢ k → given (says j p b) ≡ false) → bit (recovered image o.shape.lanes (word_of o.shape p)) b ≡ over (says k p b) (bit (slice_index image (word_of o.shape p)) b)
      whole p i others = recovered_bit image o.shape.lanes (word_of o.shape p) k b ink i.1 (quiet p others) (alone k ink (word_of o.shape p) b) ∙ ap (λ d. over d (bit (slice_index image (word_of o.shape p)) b)) (sym (spoken_is o mem views g x image sv torn k ink p b))

      go : (p : Place) → InPool o.shape p b → ((j : ℕ) → j ≢ k → given (says j p b) ≡ false) → rec p b ≡ over (says k p b) (im p b)
      go (InRun c w) i others = ap (λ t. t && bit (recovered image o.shape.lanes (word_of o.shape (InRun c w))) b) i.0 ∙ (whole (InRun c w) i others ∙ ap (λ t. over (says k (InRun c w) b) (t && bit (slice_index image (word_of o.shape (InRun c w))) b)) (sym i.0))
      go (InHuge c w) i others = ap (λ t. t && bit (recovered image o.shape.lanes (word_of o.shape (InHuge c w))) b) i.0 ∙ (whole (InHuge c w) i others ∙ ap (λ t. over (says k (InHuge c w) b) (t && bit (slice_index image (word_of o.shape (InHuge c w))) b)) (sym i.0))
      go (Descr c) i others = let w = word_of_descriptor o.shape c in ap (λ t. t && huge_told (recovered image o.shape.lanes w) b) i.0
          ∙ (recovered_descriptor image o.shape.lanes w k b ink i.1 (quiet (Descr c) others) (alone k ink w b) (bare_descriptor c k b i.0 ink) (λ j l. sets c j i.0 l)
          ∙ (ap (λ d. over d (huge_told (slice_index image w) b)) (sym (spoken_is o mem views g x image sv torn k ink (Descr c) b)) ∙ ap (λ t. over (says k (Descr c) b) (t && huge_told (slice_index image w) b)) (sym i.0)))
      go RootWord i others = whole RootWord i others

  pub image_says : Image o.shape o.shape.lanes (read (cells_of o.shape mem).pool) (settled_words o g) (ghost_of g) (λ k. sight_of (views k)) (bits_of o.shape (slice_index image)) (bits_of o.shape (recovered image o.shape.lanes)) (spoken o mem views g x image sv torn) (stands o mem views g x image sv torn)
  image_says = record { pool = pool; logs = λ k ink. lane_says o mem views g x image sv torn k ink; no_logs = λ k out. spoken_beyond o mem views g x image sv torn k out; joins = joins }

  -- ---- THE KEPT CALLS

  decides_same : (k n : ℕ) → k < o.lanes → (ph : Phase) → decides_in image (views k) ph n ≡ decides ph (stands_in image k (views k).log.generation ph) n
  decides_same k n ink Idle = refl
  decides_same k n ink Open = refl
  decides_same k n ink (Drawn j) = refl
  decides_same k n ink (Sealing j) = ap (λ i. (j == n) && not (Rattle.pm_image.specs.Logs.seal_word image i == 0)) (x.each_lane k ink).lane
  decides_same k n ink (Applying t) = refl
  decides_same k n ink Clearing = refl
  decides_same k n ink (Retiring j) = ap (λ i. (j == n) && (Rattle.pm_image.specs.Logs.generation_word image i == (views k).log.generation + 1)) (x.each_lane k ink).lane
  decides_same k n ink Voiding = refl

  decided_same : (lanes n : ℕ) → lanes ≤ o.lanes → is_decided_in image views lanes n ≡ decided_by (λ k. sight_of (views k)) (stands o mem views g x image sv torn) lanes n
  decided_same zero n l = refl
  decided_same (suc k) n l = ap (λ t. t || is_decided_in image views k n) (decides_same k n (omega arith) (views k).log.phase) ∙ ap (λ t. decides (views k).log.phase (stands o mem views g x image sv torn k) n || t) (decided_same k n (omega arith))

  kept_same : is_kept o views g image ≡ (λ n. g.decided n || decided_by (λ k. sight_of (views k)) (stands o mem views g x image sv torn) o.lanes n)
  kept_same = λ i n. g.decided n || decided_same o.lanes n (omega arith) i

  words_same : kept_words o views g image ≡ replay (λ n. g.decided n || decided_by (λ k. sight_of (views k)) (stands o mem views g x image sv torn) o.lanes n) (origin o) (ghost_of g).log g.length
  words_same = ap (λ keep. replay keep (origin o) (ghost_of g).log g.length) kept_same

  -- THE WORDS of each living place
  pub words_are : (p : Place) (b : ℕ) → is_place o.shape p ≡ true → b < 64 → live (kept_words o views g image) g.geo g.runs p ≡ true → bits_of o.shape (recovered image o.shape.lanes) p b ≡ kept_words o views g image p b
  words_are p b ip small lv = means_kept o.shape o.lanes o.shape.lanes x.some_lanes x.most_lanes (origin o) (cells_of o.shape mem) (λ k. sight_of (views k)) (ghost_of g) x.bits (bits_of o.shape (slice_index image)) (bits_of o.shape (recovered image o.shape.lanes))
      (spoken o mem views g x image sv torn) (stands o mem views g x image sv torn) image_says p b (ip, small) (subst (λ s. live s g.geo g.runs p ≡ true) words_same lv) ∙ ap (λ s. s p b) (sym words_same)
