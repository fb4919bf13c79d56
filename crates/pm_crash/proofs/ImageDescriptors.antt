-- What recovery makes of a descriptor: as in memory, or what tells of no run.
use Rattle.std.proofs.Common.{◌≡◌, ◌≢◌, ℕ, zero, suc, ◌+◌, ◌*◌, ◌<◌, ◌≤◌, ◌⊎◌, inl, inr, ⊎_elim, Bool, true, false, not, ◌&&◌, eqb, ◌==◌, List, [], ◌∷◌, ◌++◌, length, slice_index, refl, sym, ap, ◌∙◌, subst, arith, eq-eqb, Option, None}
use Rattle.std.specs.Int.{bit_at}
use Rattle.std.specs.List.{find, flat_map, range_with_len}
use Rattle.std.proofs.lemmas.Bool.{cases_eq, cases_Bool, both_ways, and_from, lt-ltb}
use Rattle.std.proofs.lemmas.List.Elements.{filter-append}
use Rattle.std.proofs.lemmas.List.Folds.{list_any_at}
use Rattle.std.proofs.lemmas.Nat.Bits.{bit_at_ones}
use Rattle.pm_layout.specs.Chunks.{chunks_of, word_of_descriptor, chunk_described}
use Rattle.pm_record.specs.declared.redo.Redo.{Redo}
use Rattle.pm_image.specs.Logs.{covers, old_word, records, entries, recovered}
use Rattle.pm_view.specs.Changes.{Undrained}
use Rattle.pm_view.specs.Places.{Descr, Big, is_place}
use Rattle.pm_view.specs.Claims.{is_run}
use Rattle.pm_view.specs.Entries.{latest, redos}
use Rattle.pm_view.specs.Log.{Phase, Idle, Open, Drawn, Sealing, Applying, Clearing, Retiring, Voiding}
use Rattle.pm_world.specs.States.{given}
use Rattle.pm_world.specs.Sights.{sight_of}
use Rattle.pm_world.specs.Lanes.{own, owns, is_decided, is_in_making, SightFits, Flies}
use Rattle.pm_world.specs.Logs.{IsOld, AreaChange}
use Rattle.pm_world.specs.Memory.{Memory, PoolWord, bit}
use Rattle.pm_world.specs.World.{Opening, Views, Past, World}
use Rattle.pm_world.specs.Crash.{Survives, NoneTorn}
use Rattle.pm_world.proofs.RecoveredBits.{entry_bit, entry_bit-none, record_bit, of_word, SetsWord, IsSet, set_cases, sets_parts, mapped_none, recovered_plain, recovered_set}
use Rattle.pm_world.proofs.SurvivingWords.{whole_left, Taken}
use Rattle.pm_world.proofs.LanesInImages.{Sealed, LaneCase, lane_case}
use Rattle.pm_world.proofs.EntriesAtPlaces.{entry_bits}
use Rattle.pm_world.proofs.ImageSays.{sealed_stand}
use Rattle.pm_world.proofs.CrashLaw.{place_inside, descriptor_part, descriptor_change, soils as soils_here, sets, bare_descriptor}

-- a descriptor's bit is undrained only once its call is decided, by an entry
is_applying : Phase → Bool
is_applying (Applying todo) = true
is_applying phase = false

soils_applying : (ph : Phase) (c : ℕ) (mi lg : Bool) (en : Option Bool) → Rattle.pm_world.specs.Lanes.soils ph (Descr c) mi lg en ≡ true → (is_applying ph ≡ true) × (given en ≡ true)
unfolding is_applying
soils_applying Idle c mi lg en e = absurd (both_ways false refl e)
soils_applying Open c mi lg en e = absurd (both_ways false refl e)
soils_applying (Drawn n) c mi lg en e = absurd (both_ways false refl e)
soils_applying (Sealing n) c mi lg en e = absurd (both_ways false refl e)
soils_applying (Applying t) c mi lg en e = (refl, e)
soils_applying Clearing c mi lg en e = absurd (both_ways false refl e)
soils_applying (Retiring n) c mi lg en e = absurd (both_ways false refl e)
soils_applying Voiding c mi lg en e = absurd (both_ways false refl e)

nil_parts : (xs ys : List Redo) → xs ++ ys ≡ [] → (xs ≡ []) × (ys ≡ [])
nil_parts [] ys e = (refl, e)
nil_parts (a ∷ xs) ys e = absurd (let z = ap length e in omega arith)

-- of no part where of none of all
part_empty : (w : ℕ) (f : ℕ → List Redo) (from n k : ℕ) → of_word w (flat_map f (range_with_len from n)) ≡ [] → from ≤ k → k < from + n → of_word w (f k) ≡ []
part_empty w f from zero k e a b = absurd (omega arith)
part_empty w f from (suc n) k e a b = let t = nil_parts (of_word w (f from)) (of_word w (flat_map f (range_with_len (from + 1) n))) (sym (filter-append (λ (d : Redo). eqb d.place (8 * w)) (f from) (flat_map f (range_with_len (from + 1) n))) ∙ e) in
    ⊎_elim (λ (q : k ≡ from). ap (λ i. of_word w (f i)) q ∙ t.0) (λ (ne : k ≢ from). part_empty w f (from + 1) n k t.1 (omega arith) (omega arith)) (cases_eq k from)

module _ (o : Opening) (mem : Memory) (views : Views) (g : Past) (x : World o mem views g) (image : List ℕ) (sv : Survives o mem views image) (torn : NoneTorn o views image) where
  no_cover : (w k : ℕ) → given (record_bit (records image k) w 0) ≡ false → find (λ u. covers u (8 * w)) (records image k) ≡ None
  no_cover w k e = mapped_none (λ u. bit (old_word u (8 * w)) 0) (find (λ u. covers u (8 * w)) (records image k)) e

  module _ (c : ℕ) (inside : c < chunks_of o.shape) where
    abbrev w : ℕ
    w = word_of_descriptor o.shape c

    there : is_place o.shape (Descr c) ≡ true
    there = lt-ltb c (chunks_of o.shape) inside

    lane_sets : SetsWord (word_of_descriptor o.shape c) (flat_map (entries image) (range_with_len 0 o.shape.lanes))
    lane_sets = sets_parts (word_of_descriptor o.shape c) (entries image) 0 o.shape.lanes (λ j l. sets o mem views g x image sv torn c j there (omega arith))

    abbrev r : ℕ
    r = recovered image o.shape.lanes (word_of_descriptor o.shape c)

    abbrev Outcome : Type 0
    Outcome = (is_run (recovered image o.shape.lanes (word_of_descriptor o.shape c)) ≡ false) ⊎ (recovered image o.shape.lanes (word_of_descriptor o.shape c) ≡ mem (PoolWord (word_of_descriptor o.shape c)))

    was_set : IsSet (word_of_descriptor o.shape c) (flat_map (entries image) (range_with_len 0 o.shape.lanes)) (slice_index image (word_of_descriptor o.shape c)) → Outcome
    was_set s = inl (ap is_run (recovered_set image o.shape.lanes (word_of_descriptor o.shape c) s (omega arith)) ∙ s.no_run)

    -- no sealed entry is of the descriptor
    module _ (none_ : of_word (word_of_descriptor o.shape c) (flat_map (entries image) (range_with_len 0 o.shape.lanes)) ≡ []) where
      plain : recovered image o.shape.lanes (word_of_descriptor o.shape c) ≡ slice_index image (word_of_descriptor o.shape c)
      plain = recovered_plain image o.shape.lanes (word_of_descriptor o.shape c) none_ (λ j l. no_cover (word_of_descriptor o.shape c) j (bare_descriptor o mem views g x image sv torn c j 0 there l))

      sealed_if : (j : ℕ) (inj : j < o.shape.lanes) (ph : Phase) → is_applying ph ≡ true → LaneCase o mem views g x image sv torn j inj ph → Sealed o mem views g x image sv torn j inj
      unfolding is_applying
      sealed_if j inj Idle e s = absurd (both_ways false refl e)
      sealed_if j inj Open e s = absurd (both_ways false refl e)
      sealed_if j inj (Drawn n) e s = absurd (both_ways false refl e)
      sealed_if j inj (Sealing n) e s = absurd (both_ways false refl e)
      sealed_if j inj (Applying t) e s = s
      sealed_if j inj Clearing e s = absurd (both_ways false refl e)
      sealed_if j inj (Retiring n) e s = absurd (both_ways false refl e)
      sealed_if j inj Voiding e s = absurd (both_ways false refl e)

      -- a change of it was taken back
      not_soiled : (j : ℕ) → j < o.shape.lanes → (sight_of (views j)).soiled (Descr c) 0 ≡ true → ⊥
      not_soiled j inj d = let s = soils_applying (views j).log.phase c ((sight_of (views j)).hold.mine (Big (g.geo.first c))) ((sight_of (views j)).logged (Descr c)) (latest (redos (views j).log.entries) (Descr c) 0) ((x.bits.each_lane j).soiled (Descr c) 0 d).0 in
          let z = sealed_if j inj (views j).log.phase s.0 (lane_case o mem views g x image sv torn j inj) in
          both_ways true (sym s.1 ∙ ap given (sym (ap (λ es. entry_bit es (word_of_descriptor o.shape c) 0) z.all_sealed ∙ entry_bits o.shape j inj (views j).log.entries (Descr c) 0 (sealed_stand o mem views g x image sv torn j inj z) there (inl refl))
          ∙ entry_bit-none (entries image j) (word_of_descriptor o.shape c) 0 (part_empty (word_of_descriptor o.shape c) (entries image) 0 o.shape.lanes j none_ (omega arith) (omega arith)))) refl

      taken : Taken o mem views g x image sv (word_of_descriptor o.shape c) → Outcome
      taken t = let inl_ = t.of_lane in let most = x.most_lanes in
          let ch = descriptor_change (views t.lane).log.phase (length (views t.lane).log.entries) (views t.lane).log.generation (chunk_described o.shape (word_of_descriptor o.shape c)) t.seen
          (subst (λ p. AreaChange (views t.lane).log.phase (length (views t.lane).log.entries) (views t.lane).log.generation p t.seen) (descriptor_part o.shape t.lane c (omega arith) inside) t.is) in
          ⊎_elim (λ (y : (sight_of (views t.lane)).hold.making c ≡ true). ⊎_elim (λ (old : IsOld 0 t.seen). inl (ap is_run (plain ∙ t.old 0 old)))
          (λ (dec : is_decided (views t.lane).log.phase ≡ true). absurd (both_ways ((sight_of (views t.lane)).hold.making c) ((x.each_lane t.lane inl_).made dec c) y)) ch.1)
          (λ (y : (sight_of (views t.lane)).hold.making c ≡ false). absurd (not_soiled t.lane (omega arith) (soils_here o mem views g x image sv torn t.lane inl_ (Descr c) 0 (ap not y)
          (list_any_at (λ (d : Undrained). d.word == word_of_descriptor o.shape c && bit_at d.mask 0 == 1) (views t.lane).changes t.there.0 t.seen t.there.1
          (ap (λ (d : Undrained). d.word == word_of_descriptor o.shape c && bit_at d.mask 0 == 1) t.there.2 ∙ and_from (t.seen.word == word_of_descriptor o.shape c) (bit_at t.seen.mask 0 == 1) (eq-eqb t.seen.word (word_of_descriptor o.shape c) t.of_word)
          (eq-eqb (bit_at t.seen.mask 0) 1 (ap (λ n. bit_at n 0) ch.0 ∙ bit_at_ones 64 0 (omega arith)))))))) (cases_Bool ((sight_of (views t.lane)).hold.making c))

      not_set : Outcome
      not_set = ⊎_elim (λ e. inr (plain ∙ e)) taken (whole_left o mem views g x image sv (word_of_descriptor o.shape c) (place_inside o.shape (Descr c) there))

    pub outcome : Outcome
    outcome = ⊎_elim not_set was_set (set_cases (word_of_descriptor o.shape c) (flat_map (entries image) (range_with_len 0 o.shape.lanes)) (slice_index image (word_of_descriptor o.shape c)) lane_sets)
