-- THE CRASH LAW, beside the words of living places: each chunk that an image describes as a run is one, or has no block; and the header page is as it was.
use Rattle.std.proofs.Common.{◌≡◌, ◌≢◌, ℕ, zero, suc, ◌+◌, ◌*◌, ◌/◌, ◌%◌, ◌<◌, ◌≤◌, ◌⊎◌, inl, inr, ⊎_elim, nat_le, nat_lt, Bool, true, false, cond, not, ◌&&◌, eqb, leb, ltb, ◌==◌, List, [], ◌∷◌, ◌++◌, length, map, slice_index, refl, sym, ap, ◌∙◌, subst, arith, eq-eqb, ne_eqb, Option, None, Some}
use Rattle.std.specs.Int.{bit_at}
use Rattle.std.specs.List.{find, flat_map, range_with_len}
use Rattle.std.proofs.lemmas.Bool.{cases_eq, cases_lt, cases_Bool, both_ways, and_from, and_parts, cond-true, cond-false, false_from_ne_true, lt-ltb, ltb-true, leb-true, not-true}
use Rattle.std.proofs.lemmas.List.Elements.{filter-append}
use Rattle.std.proofs.lemmas.List.Folds.{list_any_at}
use Rattle.std.proofs.lemmas.Nat.Bits.{bit_at_ones}
use Rattle.pm_layout.specs.declared.shape.Shape.{Shape}
use Rattle.pm_layout.specs.Areas.{word_of_generation, word_of_seal, word_of_entry, line_of_slot, undo_slots, redo_entries}
use Rattle.pm_layout.specs.Chunks.{chunks_of, word_of_chunk, word_of_descriptor, word_of_root, is_in_zone, is_chunk_page, is_descriptor_word, chunk_described, page_of_zone, page_in_zone}
use Rattle.pm_record.specs.declared.redo.Redo.{Redo}
use Rattle.pm_image.specs.Logs.{covers, old_word, records, entries, recovered}
use Rattle.pm_view.specs.Changes.{Undrained}
use Rattle.pm_view.specs.Parts.{OtherPart, is_entry_word, is_slot_word, part_of}
use Rattle.pm_view.specs.Places.{Place, InRun, InHuge, Descr, RootWord, Block, Small, Big, twin, word_of, is_place}
use Rattle.pm_view.specs.Claims.{is_run}
use Rattle.pm_view.specs.Entries.{Entry, latest, redos}
use Rattle.pm_view.specs.Log.{Phase, Idle, Open, Drawn, Sealing, Applying, Clearing, Retiring, Voiding}
use Rattle.pm_world.specs.States.{given}
use Rattle.pm_world.specs.Sights.{sight_of}
use Rattle.pm_world.specs.Lanes.{own, owns, is_decided, is_in_making, SightFits, Flies}
use Rattle.pm_world.specs.Logs.{IsOld, AreaChange}
use Rattle.pm_world.specs.Memory.{Memory, PoolWord, bit, run_told, bits_of, descriptor_told, cells_of}
use Rattle.pm_world.specs.World.{Opening, Views, Past, World, origin, settled_words, ghost_of, is_header}
use Rattle.pm_world.specs.Crash.{Survives, NoneTorn, DescribesRun, MeansKept}
use Rattle.pm_world.specs.Laws.{CrashLaw}
use Rattle.pm_world.proofs.Frame.{some_first, no_run, maker_no_run, making_own, not_making, soiled_owned}
use Rattle.pm_world.proofs.Crashes.{InPool, unspoken}
use Rattle.pm_world.proofs.Replays.{over_none}
use Rattle.pm_world.proofs.RecoveredBits.{entry_bit, entry_bit-none, record_bit, of_word, SetsWord, IsSet, set_cases, sets_parts, parts_none, mapped_none, recovered_plain, recovered_set}
use Rattle.pm_world.proofs.SurvivingWords.{whole_left, Taken, no_other}
use Rattle.pm_world.proofs.ImageLogs.{redo_at}
use Rattle.pm_world.proofs.LanesInImages.{Silent, Sealed, Current, LaneCase, lane_case}
use Rattle.pm_world.proofs.EntriesAtPlaces.{AllStand, Stands, entry_bits, of_place}
use Rattle.pm_world.proofs.RecordsAtPlaces.{speaks_of, log_is}
use Rattle.pm_world.proofs.ImageSays.{spoken, spoken_is, stands, three_cases, bare_bit, silent_bit, sealed_redoes, sealed_stand}
use Rattle.pm_world.proofs.CrashLaw.{no_part, place_inside, descriptor_part, descriptor_change, soils as soils_here, pool, apart, away, sets, bare_descriptor, image_says, words_are}

-- a header word is no lane's
header_part : (sh : Shape) (k w : ℕ) → k < sh.lanes → w < 512 → w ≢ 64 → part_of sh k w ≡ OtherPart
header_part sh k w ink l ne = let no_zone : is_in_zone sh (w / 512) ≡ false = false_from_ne_true (is_in_zone sh (w / 512)) (λ t. let z = leb-true (page_of_zone sh 0) (w / 512) (and_parts (leb (page_of_zone sh 0) (w / 512)) (ltb (w / 512) (page_of_zone sh sh.zones)) t).0 in omega arith) in
    cond-false (w == word_of_generation sh k) _ _ (ne_eqb w (word_of_generation sh k) (λ q. omega arith)) ∙ (cond-false (w == word_of_seal sh k) _ _ (ne_eqb w (word_of_seal sh k) (λ q. omega arith))
    ∙ (cond-false (is_entry_word sh k w) _ _ (false_from_ne_true (is_entry_word sh k w) (λ t. let y = leb-true (word_of_entry sh k 0) w (and_parts (leb (word_of_entry sh k 0) w) (ltb w (word_of_entry sh k (redo_entries sh))) t).0 in omega arith))
    ∙ (cond-false (is_slot_word sh k w) _ _ (false_from_ne_true (is_slot_word sh k w) (λ t. let y = leb-true (8 * line_of_slot sh k 0) w (and_parts (leb (8 * line_of_slot sh k 0) w) (ltb w (8 * line_of_slot sh k (undo_slots sh))) t).0 in omega arith))
    ∙ (cond-false (w == word_of_root sh) _ _ (ne_eqb w (word_of_root sh) ne)
    ∙ (cond-false (is_descriptor_word sh w) _ _ (ap (λ t. t && (page_in_zone sh (w / 512) == 0) && nat_lt (w % 512) 64) no_zone)
    ∙ cond-false (is_chunk_page sh (w / 512)) _ _ (ap (λ t. t && nat_le 1 (page_in_zone sh (w / 512))) no_zone))))))

-- and no place
no_header : (sh : Shape) (q : Place) (w : ℕ) → is_place sh q ≡ true → w < 512 → w ≢ 64 → word_of sh q ≡ w → ⊥
no_header sh (InRun c u) w e l ne q = omega arith
no_header sh (InHuge c u) w e l ne q = omega arith
no_header sh (Descr c) w e l ne q = omega arith
no_header sh RootWord w e l ne q = ne (sym q)

-- entries of no place at the word are of other words
module _ (sh : Shape) (lane : ℕ) (ink : lane < sh.lanes) (w : ℕ) (none_ : (q : Place) → is_place sh q ≡ true → word_of sh q ≡ w → ⊥) (far : w ≢ word_of_generation sh lane) where
  elsewhere : (es : List Entry) → AllStand sh lane ink es → of_word w (map redo_at es) ≡ []
  elsewhere [] s = refl
  elsewhere (e ∷ t) s = ap (λ b. cond b (redo_at e ∷ of_word w (map redo_at t)) (of_word w (map redo_at t))) (ne_eqb (8 * e.word) (8 * w) (λ q. go e.place s.0 (let m : e.word ≡ w = omega arith in m))) ∙ elsewhere t s.1
    where
      go : (d : Option Place) → Stands sh lane ink d e → e.word ≡ w → ⊥
      go None st q = far (sym q ∙ st)
      go (Some r) st q = none_ r st.0 (st.1 ∙ q)

-- a descriptor's bit is undrained only once its call is decided, by an entry
is_applying : Phase → Bool
is_applying (Applying todo) = true
is_applying phase = false

soils_applying : (ph : Phase) (c : ℕ) (mi lg : Bool) (en : Option Bool) → Rattle.pm_world.specs.Lanes.soils ph (Descr c) mi lg en ≡ true → (is_applying ph ≡ true) × (given en ≡ true)
unfolding is_applying
soils_applying Idle c mi lg en e = absurd (both_ways false refl e)
soils_applying Open c mi lg en e = absurd (both_ways false refl e)
soils_applying (Drawn n) c mi lg en e = absurd (both_ways false refl e)
soils_applying (Sealing n) c mi lg en e = absurd (both_ways false refl e)
soils_applying (Applying t) c mi lg en e = (refl, e)
soils_applying Clearing c mi lg en e = absurd (both_ways false refl e)
soils_applying (Retiring n) c mi lg en e = absurd (both_ways false refl e)
soils_applying Voiding c mi lg en e = absurd (both_ways false refl e)

nil_parts : (xs ys : List Redo) → xs ++ ys ≡ [] → (xs ≡ []) × (ys ≡ [])
nil_parts [] ys e = (refl, e)
nil_parts (a ∷ xs) ys e = absurd (let z = ap length e in omega arith)

-- of no part where of none of all
part_empty : (w : ℕ) (f : ℕ → List Redo) (from n k : ℕ) → of_word w (flat_map f (range_with_len from n)) ≡ [] → from ≤ k → k < from + n → of_word w (f k) ≡ []
part_empty w f from zero k e a b = absurd (omega arith)
part_empty w f from (suc n) k e a b = let t = nil_parts (of_word w (f from)) (of_word w (flat_map f (range_with_len (from + 1) n))) (sym (filter-append (λ (d : Redo). eqb d.place (8 * w)) (f from) (flat_map f (range_with_len (from + 1) n))) ∙ e) in
    ⊎_elim (λ (q : k ≡ from). ap (λ i. of_word w (f i)) q ∙ t.0) (λ (ne : k ≢ from). part_empty w f (from + 1) n k t.1 (omega arith) (omega arith)) (cases_eq k from)

pub some_below : (P : ℕ → Bool) (n : ℕ) → ((j : ℕ) × (j < n) × (P j ≡ true)) ⊎ ((j : ℕ) → j < n → P j ≡ false)
some_below P zero = inr (λ j l. absurd (omega arith))
some_below P (suc n) = ⊎_elim (λ (t : P n ≡ true). inl (n, omega arith, t))
    (λ (f : P n ≡ false). ⊎_elim (λ (y : (j : ℕ) × (j < n) × (P j ≡ true)). inl (y.0, (let l = y.1 in omega arith), y.2)) (λ (h : (j : ℕ) → j < n → P j ≡ false). inr (λ j l. ⊎_elim (λ (e : j ≡ n). ap P e ∙ f) (λ (ne : j ≢ n). h j (omega arith)) (cases_eq j n))) (some_below P n)) (cases_Bool (P n))

module _ (o : Opening) (mem : Memory) (views : Views) (g : Past) (x : World o mem views g) (image : List ℕ) (sv : Survives o mem views image) (torn : NoneTorn o views image) where
  -- where no record has a word
  no_record : (w : ℕ) → ((q : Place) → is_place o.shape q ≡ true → word_of o.shape q ≡ w → ⊥) → (k : ℕ) → k < o.shape.lanes → given (record_bit (records image k) w 0) ≡ false
  no_record w none_ k ink = ⊎_elim (λ (z : Silent o mem views g x image sv torn k ink). ap given (bare_bit o mem views g x image sv torn k ink z.bare w 0)) (λ z. ⊎_elim (λ (z : Sealed o mem views g x image sv torn k ink). ap given (bare_bit o mem views g x image sv torn k ink z.bare w 0))
      (λ (z : Current o mem views g x image sv torn k ink × (is_decided (views k).log.phase ≡ false)). false_from_ne_true (given (record_bit (records image k) w 0)) (λ t. let s = (speaks_of o mem views g x image sv torn k ink z.0 z.1 w 0 t).2 in none_ s.place s.is_there s.of_word)) z) (three_cases o mem views g x image sv torn k ink)

  no_cover : (w k : ℕ) → given (record_bit (records image k) w 0) ≡ false → find (λ u. covers u (8 * w)) (records image k) ≡ None
  no_cover w k e = mapped_none (λ u. bit (old_word u (8 * w)) 0) (find (λ u. covers u (8 * w)) (records image k)) e

  -- ---- THE HEADER PAGE

  header_parts : (w : ℕ) → is_header o.shape w ≡ true → (w < 512) × (w ≢ 64)
  header_parts w e = let t = and_parts (nat_lt w 512) (not (w == word_of_root o.shape)) e in (ltb-true w 512 t.0, λ q. both_ways (w == word_of_root o.shape) (not-true (w == word_of_root o.shape) t.1) (eq-eqb w (word_of_root o.shape) q))

  pub header : (w : ℕ) → is_header o.shape w ≡ true → recovered image o.shape.lanes w ≡ slice_index o.words w
  header w e = let h = header_parts w e in let low = h.0 in let none_ : (q : Place) → is_place o.shape q ≡ true → word_of o.shape q ≡ w → ⊥ = λ q i s. no_header o.shape q w i h.0 h.1 s in
      let same : slice_index image w ≡ mem (PoolWord w) = ⊎_elim (λ z. z) (λ (t : Taken o mem views g x image sv w). absurd (let l = t.of_lane in let m = x.most_lanes in no_other (views t.lane).log.phase (length (views t.lane).log.entries) (views t.lane).log.generation t.seen
      (subst (λ p. AreaChange (views t.lane).log.phase (length (views t.lane).log.entries) (views t.lane).log.generation p t.seen) (header_part o.shape t.lane w (omega arith) h.0 h.1) t.is))) (whole_left o mem views g x image sv w (omega arith)) in
      recovered_plain image o.shape.lanes w (no_part w (entries image) 0 o.shape.lanes (λ j l. no_entry w none_ h.0 j (omega arith))) (λ j l. no_cover w j (no_record w none_ j l)) ∙ (same ∙ x.header w e)
    where
      no_entry : (w : ℕ) → ((q : Place) → is_place o.shape q ≡ true → word_of o.shape q ≡ w → ⊥) → w < 512 → (j : ℕ) → j < o.shape.lanes → of_word w (entries image j) ≡ []
      no_entry w none_ low j inj = ⊎_elim (λ (z : Silent o mem views g x image sv torn j inj). ap (of_word w) z.none_sealed) (λ z. ⊎_elim (λ (z : Sealed o mem views g x image sv torn j inj). ap (of_word w) z.all_sealed
          ∙ elsewhere o.shape j inj w none_ (λ q. omega arith) (views j).log.entries (sealed_stand o mem views g x image sv torn j inj z)) (λ z. ap (of_word w) z.0.none_sealed) z) (three_cases o mem views g x image sv torn j inj)

  -- ---- CHUNKS

  module _ (c : ℕ) (inside : c < chunks_of o.shape) where
    abbrev w : ℕ
    w = word_of_descriptor o.shape c

    there : is_place o.shape (Descr c) ≡ true
    there = lt-ltb c (chunks_of o.shape) inside

    lane_sets : SetsWord (word_of_descriptor o.shape c) (flat_map (entries image) (range_with_len 0 o.shape.lanes))
    lane_sets = sets_parts (word_of_descriptor o.shape c) (entries image) 0 o.shape.lanes (λ j l. sets o mem views g x image sv torn c j there (omega arith))

    -- a lane that has sealed an entry of the descriptor has no run there
    enters_no_run : (j : ℕ) → j < o.shape.lanes → given (entry_bit (entries image j) (word_of_descriptor o.shape c) 0) ≡ true → g.runs c ≡ false
    enters_no_run j inj e = ⊎_elim (λ (z : Silent o mem views g x image sv torn j inj). absurd (both_ways false refl (sym (ap (λ es. given (entry_bit es (word_of_descriptor o.shape c) 0)) z.none_sealed) ∙ e)))
        (λ z. ⊎_elim (λ (z : Sealed o mem views g x image sv torn j inj).
        let la : given (latest (redos (views j).log.entries) (Descr c) 0) ≡ true = sym (ap given (ap (λ es. entry_bit es (word_of_descriptor o.shape c) 0) z.all_sealed ∙ entry_bits o.shape j inj (views j).log.entries (Descr c) 0 (sealed_stand o mem views g x image sv torn j inj z) there (inl refl))) ∙ e in
        no_run o.shape (cells_of o.shape mem) (settled_words o g) (Flies (ghost_of g) j) (ghost_of g) x.bits.geo j (sight_of (views j)) (x.bits.each_lane j) c
        ((x.bits.each_lane j).reach (Descr c) 0 (some_first (latest (sight_of (views j)).call.entries (Descr c) 0) ((sight_of (views j)).call.fresh (Descr c) 0) la)))
        (λ z. absurd (both_ways false refl (sym (ap (λ es. given (entry_bit es (word_of_descriptor o.shape c) 0)) z.0.none_sealed) ∙ e))) z) (three_cases o mem views g x image sv torn j inj)

    told_by : (n : ℕ) → recovered image o.shape.lanes (word_of_descriptor o.shape c) ≡ n → descriptor_told o.shape (recovered image o.shape.lanes) c ≡ run_told n
    told_by n e = cond-true (is_place o.shape (Descr c)) _ _ there ∙ ap run_told e

    no_run_told : (n : ℕ) → recovered image o.shape.lanes (word_of_descriptor o.shape c) ≡ n → run_told n ≡ 0 → g.runs c ≡ false → DescribesRun o g (recovered image o.shape.lanes) c
    no_run_told n e z r = inl (told_by n e ∙ (z ∙ sym (cond-false (g.runs c) (g.geo.class c) 0 r)))

    was_set : IsSet (word_of_descriptor o.shape c) (flat_map (entries image) (range_with_len 0 o.shape.lanes)) (slice_index image (word_of_descriptor o.shape c)) → DescribesRun o g (recovered image o.shape.lanes) c
    was_set s = no_run_told s.value (recovered_set image o.shape.lanes (word_of_descriptor o.shape c) s (omega arith)) (cond-false (is_run s.value) (s.value / 256) 0 s.no_run)
        (⊎_elim (λ (y : (j : ℕ) × (j < o.shape.lanes) × (given (entry_bit (entries image j) (word_of_descriptor o.shape c) 0) ≡ true)). enters_no_run y.0 y.1 y.2)
        (λ (h : (j : ℕ) → j < o.shape.lanes → given (entry_bit (entries image j) (word_of_descriptor o.shape c) 0) ≡ false). absurd (both_ways true (sym (ap given (s.bits 0 (omega arith))) ∙ ap given (parts_none (entries image) (word_of_descriptor o.shape c) 0 0 o.shape.lanes (λ j a l. h j (omega arith)))) refl))
        (some_below (λ j. given (entry_bit (entries image j) (word_of_descriptor o.shape c) 0)) o.shape.lanes))

    -- the bitmap of a chunk that lane k makes a run is 0, in memory, in the image, and recovered
    module _ (k : ℕ) (ink : k < o.shape.lanes) (made : (sight_of (views k)).hold.making c ≡ true) (b : ℕ) (small : b < 64) where
      f : SightFits o.shape (cells_of o.shape mem) (settled_words o g) (Flies (ghost_of g) k) (ghost_of g) k (sight_of (views k))
      f = x.bits.each_lane k

      i : InPool o.shape (InRun c 0) b
      i = (and_from (nat_lt c (chunks_of o.shape)) (nat_lt 0 512) (lt-ltb c (chunks_of o.shape) inside) (lt-ltb 0 512 (omega arith)), small)

      own_run : owns g.geo (settled_words o g) (sight_of (views k)).hold (InRun c 0) b ≡ true
      own_run = making_own (sight_of (views k)).hold c (Rattle.pm_view.specs.Places.part (g.geo.class c) 0 b) made

      unplain : (p : Place) → is_in_making (sight_of (views k)).hold p ≡ true → given (latest (redos (views k).log.entries) p b) ≡ false
      unplain p m = false_from_ne_true (given (latest (redos (views k).log.entries) p b)) (λ t. both_ways true (sym m ∙ f.plain p b (some_first (latest (sight_of (views k)).call.entries p b) ((sight_of (views k)).call.fresh p b) t)) refl)

      own_quiet : given (spoken o mem views g x image sv torn k (InRun c 0) b) ≡ false
      own_quiet = ⊎_elim (λ (z : Silent o mem views g x image sv torn k ink). ap given (silent_bit o mem views g x image sv torn k ink z (InRun c 0) b))
          (λ z. ⊎_elim (λ (z : Sealed o mem views g x image sv torn k ink). ap given (sealed_redoes o mem views g x image sv torn k ink z (InRun c 0) b i (inr (unplain (InHuge c 0) made))) ∙ unplain (InRun c 0) made)
          (λ (z : Current o mem views g x image sv torn k ink × (is_decided (views k).log.phase ≡ false)). false_from_ne_true (given (spoken o mem views g x image sv torn k (InRun c 0) b)) (λ t.
          let s = (speaks_of o mem views g x image sv torn k ink z.0 z.1 (word_of o.shape (InRun c 0)) b (sym (ap given (spoken_is o mem views g x image sv torn k ink (InRun c 0) b ∙ log_is o mem views g x image sv torn k ink z.0 z.1 (word_of o.shape (InRun c 0)) b)) ∙ t)).2 in
          both_ways true (⊎_elim (λ (q : s.place ≡ InRun c 0). sym (ap (is_in_making (sight_of (views k)).hold) q ∙ made)) (λ (q : s.place ≡ InHuge c 0). sym (ap (is_in_making (sight_of (views k)).hold) q ∙ made))
          (of_place o.shape k ink (InRun c 0) s.place i.0 s.is_there s.of_word) ∙ s.unmade) refl)) z) (three_cases o mem views g x image sv torn k ink)

      others_quiet : (j : ℕ) → j ≢ k → given (spoken o mem views g x image sv torn j (InRun c 0) b) ≡ false
      others_quiet j ne = unspoken o.shape o.lanes o.shape.lanes x.some_lanes x.most_lanes (origin o) (cells_of o.shape mem) (λ k. sight_of (views k)) (ghost_of g) x.bits (bits_of o.shape (slice_index image)) (bits_of o.shape (recovered image o.shape.lanes))
          (spoken o mem views g x image sv torn) (stands o mem views g x image sv torn) (image_says o mem views g x image sv torn) j (InRun c 0) b i
          (apart o mem views g x image sv torn k j (λ q. ne (sym q)) (InRun c 0) b own_run, away o mem views g x image sv torn k j (λ q. ne (sym q)) (InRun c 0) b own_run)

      unsoiled : (p : Place) → is_in_making (sight_of (views k)).hold p ≡ true → ((j : ℕ) → j ≢ k → owns g.geo (settled_words o g) (sight_of (views j)).hold p b ≡ false) → (j : ℕ) → (sight_of (views j)).soiled p b ≡ true → ⊥
      unsoiled p m others j d = ⊎_elim (λ (q : j ≡ k). both_ways true (sym m ∙ (f.soiled p b (subst (λ n. (sight_of (views n)).soiled p b ≡ true) q d)).1) refl)
          (λ (ne : j ≢ k). both_ways (owns g.geo (settled_words o g) (sight_of (views j)).hold p b) (others j ne) (soiled_owned o.shape (cells_of o.shape mem) (settled_words o g) (Flies (ghost_of g) j) (ghost_of g) x.bits.geo j (sight_of (views j)) (x.bits.each_lane j) p b d)) (cases_eq j k)

      blank_image : bits_of o.shape (slice_index image) (InRun c 0) b ≡ false
      blank_image = ⊎_elim (λ e. e ∙ (f.bits (InRun c 0) b own_run).1 (and_from (0 == 0) ((sight_of (views k)).hold.making c) (eq-eqb 0 0 refl) made))
          (λ y. absurd (⊎_elim (λ d. unsoiled (InRun c 0) made (λ j ne. apart o mem views g x image sv torn k j (λ q. ne (sym q)) (InRun c 0) b own_run) y.0 d)
          (λ d. unsoiled (InHuge c 0) made (λ j ne. away o mem views g x image sv torn k j (λ q. ne (sym q)) (InRun c 0) b own_run) y.0 d) y.1)) (pool o mem views g x image sv torn (InRun c 0) b i)

      pub blank_recovered : bit (recovered image o.shape.lanes (word_of_chunk o.shape c)) b ≡ false
      blank_recovered = let z : word_of o.shape (InRun c 0) ≡ word_of_chunk o.shape c = omega arith in
          ap (λ n. bit (recovered image o.shape.lanes n) b) (sym z) ∙ (ap (λ t. t && bit (recovered image o.shape.lanes (word_of o.shape (InRun c 0))) b) (sym i.0)
          ∙ ((image_says o mem views g x image sv torn).joins (InRun c 0) b k ink i others_quiet ∙ (over_none (spoken o mem views g x image sv torn k (InRun c 0) b) (bits_of o.shape (slice_index image) (InRun c 0) b) own_quiet ∙ blank_image)))

    -- no sealed entry is of the descriptor
    module _ (none_ : of_word (word_of_descriptor o.shape c) (flat_map (entries image) (range_with_len 0 o.shape.lanes)) ≡ []) where
      plain : recovered image o.shape.lanes (word_of_descriptor o.shape c) ≡ slice_index image (word_of_descriptor o.shape c)
      plain = recovered_plain image o.shape.lanes (word_of_descriptor o.shape c) none_ (λ j l. no_cover (word_of_descriptor o.shape c) j (bare_descriptor o mem views g x image sv torn c j 0 there l))

      maker_free : (k : ℕ) → (sight_of (views k)).hold.making c ≡ true → g.runs c ≡ false
      maker_free k m = maker_no_run o.shape (cells_of o.shape mem) (settled_words o g) (Flies (ghost_of g) k) (ghost_of g) x.bits.geo k (sight_of (views k)) (x.bits.each_lane k) c m

      -- as in memory
      as_was : slice_index image (word_of_descriptor o.shape c) ≡ mem (PoolWord (word_of_descriptor o.shape c)) → DescribesRun o g (recovered image o.shape.lanes) c
      as_was e = let told : descriptor_told o.shape (recovered image o.shape.lanes) c ≡ (cells_of o.shape mem).descr c = told_by (mem (PoolWord (word_of_descriptor o.shape c))) (plain ∙ e) ∙ sym (cond-true (is_place o.shape (Descr c)) _ _ there) in
          ⊎_elim (λ (y : (k : ℕ) × (k < o.lanes) × ((sight_of (views k)).hold.making c ≡ true)). let l = y.1 in let m = x.most_lanes in inr (maker_free y.0 y.2, told ∙ ((x.bits.each_lane y.0).hold.making c y.2).1, λ b small. blank_recovered y.0 (omega arith) y.2 b small))
          (λ (h : (k : ℕ) → k < o.lanes → (sight_of (views k)).hold.making c ≡ false). inl (told ∙ x.bits.descr c (λ k. ⊎_elim (λ (l : k < o.lanes). h k l) (λ (out : o.lanes ≤ k). not_making (sight_of (views k)).hold c 0 (x.bits.beyond k out (Small c 0)).0) (cases_lt k o.lanes))))
          (some_below (λ k. (sight_of (views k)).hold.making c) o.lanes)

      sealed_if : (j : ℕ) (inj : j < o.shape.lanes) (ph : Phase) → is_applying ph ≡ true → LaneCase o mem views g x image sv torn j inj ph → Sealed o mem views g x image sv torn j inj
      unfolding is_applying
      sealed_if j inj Idle e s = absurd (both_ways false refl e)
      sealed_if j inj Open e s = absurd (both_ways false refl e)
      sealed_if j inj (Drawn n) e s = absurd (both_ways false refl e)
      sealed_if j inj (Sealing n) e s = absurd (both_ways false refl e)
      sealed_if j inj (Applying t) e s = s
      sealed_if j inj Clearing e s = absurd (both_ways false refl e)
      sealed_if j inj (Retiring n) e s = absurd (both_ways false refl e)
      sealed_if j inj Voiding e s = absurd (both_ways false refl e)

      -- a change of it was taken back
      not_soiled : (j : ℕ) → j < o.shape.lanes → (sight_of (views j)).soiled (Descr c) 0 ≡ true → ⊥
      not_soiled j inj d = let s = soils_applying (views j).log.phase c ((sight_of (views j)).hold.mine (Big (g.geo.first c))) ((sight_of (views j)).logged (Descr c)) (latest (redos (views j).log.entries) (Descr c) 0) ((x.bits.each_lane j).soiled (Descr c) 0 d).0 in
          let z = sealed_if j inj (views j).log.phase s.0 (lane_case o mem views g x image sv torn j inj) in
          both_ways true (sym s.1 ∙ ap given (sym (ap (λ es. entry_bit es (word_of_descriptor o.shape c) 0) z.all_sealed ∙ entry_bits o.shape j inj (views j).log.entries (Descr c) 0 (sealed_stand o mem views g x image sv torn j inj z) there (inl refl))
          ∙ entry_bit-none (entries image j) (word_of_descriptor o.shape c) 0 (part_empty (word_of_descriptor o.shape c) (entries image) 0 o.shape.lanes j none_ (omega arith) (omega arith)))) refl

      taken : Taken o mem views g x image sv (word_of_descriptor o.shape c) → DescribesRun o g (recovered image o.shape.lanes) c
      taken t = let inl_ = t.of_lane in let most = x.most_lanes in
          let ch = descriptor_change (views t.lane).log.phase (length (views t.lane).log.entries) (views t.lane).log.generation (chunk_described o.shape (word_of_descriptor o.shape c)) t.seen
          (subst (λ p. AreaChange (views t.lane).log.phase (length (views t.lane).log.entries) (views t.lane).log.generation p t.seen) (descriptor_part o.shape t.lane c (omega arith) inside) t.is) in
          ⊎_elim (λ (y : (sight_of (views t.lane)).hold.making c ≡ true). ⊎_elim (λ (old : IsOld 0 t.seen). no_run_told 0 (plain ∙ t.old 0 old) refl (maker_free t.lane y))
          (λ (dec : is_decided (views t.lane).log.phase ≡ true). absurd (both_ways ((sight_of (views t.lane)).hold.making c) ((x.each_lane t.lane inl_).made dec c) y)) ch.1)
          (λ (y : (sight_of (views t.lane)).hold.making c ≡ false). absurd (not_soiled t.lane (omega arith) (soils_here o mem views g x image sv torn t.lane inl_ (Descr c) 0 (ap not y)
          (list_any_at (λ (d : Undrained). d.word == word_of_descriptor o.shape c && bit_at d.mask 0 == 1) (views t.lane).changes t.there.0 t.seen t.there.1
          (ap (λ (d : Undrained). d.word == word_of_descriptor o.shape c && bit_at d.mask 0 == 1) t.there.2 ∙ and_from (t.seen.word == word_of_descriptor o.shape c) (bit_at t.seen.mask 0 == 1) (eq-eqb t.seen.word (word_of_descriptor o.shape c) t.of_word)
          (eq-eqb (bit_at t.seen.mask 0) 1 (ap (λ n. bit_at n 0) ch.0 ∙ bit_at_ones 64 0 (omega arith)))))))) (cases_Bool ((sight_of (views t.lane)).hold.making c))

      not_set : DescribesRun o g (recovered image o.shape.lanes) c
      not_set = ⊎_elim as_was taken (whole_left o mem views g x image sv (word_of_descriptor o.shape c) (place_inside o.shape (Descr c) there))

    pub described : DescribesRun o g (recovered image o.shape.lanes) c
    described = ⊎_elim not_set was_set (set_cases (word_of_descriptor o.shape c) (flat_map (entries image) (range_with_len 0 o.shape.lanes)) (slice_index image (word_of_descriptor o.shape c)) lane_sets)

  -- THE IMAGE MEANS WHAT THE KEPT CALLS DO
  pub means : MeansKept o views g image
  means = record { words = words_are o mem views g x image sv torn; runs = described; header = header }

-- THE LAW
pub crash_law : CrashLaw
crash_law o mem views g image x sv torn = means o mem views g x image sv torn
