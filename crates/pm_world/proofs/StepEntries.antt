-- THE ENTRIES OF A DECIDED CALL ARE APPLIED in their order, to words of the pool: whole words are stored, bits of shared words are ORed and ANDed.
use Rattle.std.specs.Prelude.{List, [], ◌∷◌, ◌++◌, All, Contains, length, slice_index, bit_and, bit_or, IfSome}
use Rattle.std.specs.List.{list_any}
use Rattle.std.specs.Int.{bit_at, bit_not, w64}
use Rattle.std.specs.Option.{option_map}
use Rattle.std.proofs.Common.{◌≡◌, ◌≢◌, ℕ, zero, suc, ◌+◌, ◌*◌, ◌-◌, ◌/◌, ◌^◌, ◌<◌, ◌⊎◌, inl, inr, ⊎_elim, nat_le, nat_lt, Bool, true, false, cond, not, ◌==◌, ◌&&◌, ◌||◌, refl, sym, ap, ◌∙◌, subst, arith, eq-eqb, ne_eqb, Option, None, Some, if◌then◌else◌, append_assoc}
use Rattle.std.proofs.lemmas.Bool.{cases_eq, cases_Bool, both_ways, and_parts, and_from, or_cases, eqb-true, ltb-true, lt-ltb, cond-true, cond-false, false_from_ne_true}
use Rattle.pm_layout.specs.declared.shape.Shape.{Shape}
use Rattle.std.proofs.lemmas.Option.{slice_get_within}
use Rattle.pm_layout.specs.Areas.{undo_slots, word_of_generation, word_of_seal, word_of_entry, line_of_slot}
use Rattle.pm_layout.specs.Chunks.{chunks_of, words_of, word_of_chunk, word_of_descriptor}
use Rattle.pm_record.specs.declared.redo.Op.TheVariants.{Set}
use Rattle.pm_view.specs.Changes.{Undrained, is_dirty_bit}
use Rattle.pm_view.specs.Claims.{Claim, Knows, class, last_first, first, span, geometry, pictured, is_run}
use Rattle.pm_view.specs.Counts.{MayCount, HasRoom, IsAtStop}
use Rattle.pm_view.specs.Bits.{all_bits}
use Rattle.pm_view.specs.Parts.{Part, GenerationPart, SealPart, EntryPart, SlotPart, RootPart, DescriptorPart, ChunkPart, is_entry_word, is_slot_word, pool_part, part_of}
use Rattle.pm_view.specs.Entries.{Entry, Redo, given_bit, delta, latest, redos, with_redo, turn, first_of_two}
use Rattle.pm_view.specs.Log.{Applying, Log, old_of}
use Rattle.pm_view.specs.Places.{Place, InRun, InHuge, Descr, RootWord, Block, Small, Big, Root, part, block_of, is_data, twin, same_place, word_of, is_place, in_span}
use Rattle.pm_view.specs.Steps.{Step}
use Rattle.pm_view.specs.Steps.Step.{Store}
use Rattle.pm_view.specs.View.{View}
use Rattle.pm_view.specs.Views.{was_in, part_in, changed, changed_from}
use Rattle.pm_world.specs.States.{State, Diff, given, read, put1, Cells}
use Rattle.pm_world.specs.Sights.{Hold, Sight, hold_of, is_pictured, picture, is_use, is_soiled, is_made, is_recorded, fresh, call_in, sight_of}
use Rattle.pm_world.specs.Lanes.{Ghost, own, owns, is_in_making, TurnAfter, SightFits, Flies, flies_at}
use Rattle.pm_world.specs.Lawful.{MayStore, IsNext}
use Rattle.pm_world.specs.Laws.{KeepsAt}
use Rattle.pm_world.specs.Logs.{AreaChange, IsEntryAt, EntryOf, ends_with, LogFits}
use Rattle.pm_world.specs.Memory.{Memory, PoolWord, LockWord, RunWord, ZoneWord, ZoneLock, CommitCounter, StopWord, occ_at, Becomes, bit, run_told, cells_by, cells_of}
use Rattle.pm_world.specs.World.{Opening, Views, Past, origin, ghost_of, settled_words, AloneFits, LaneFits, is_header, World}
use Rattle.pm_world.specs.Laws.{Turn}
use Rattle.pm_world.proofs.Basics.{given_cond, some_of, made_turn, same_place_refl, twin_twin}
use Rattle.pm_world.proofs.SlotWords.{slot_range}
use Rattle.pm_world.proofs.AfterStore.{counts_on, stop_stays}
use Rattle.pm_world.proofs.Counting.{count_same}
use Rattle.pm_world.proofs.Replays.{put1_else}
use Rattle.pm_world.proofs.StepDraw.{all_cons}
use Rattle.pm_world.proofs.WordsApart.{no_area}
use Rattle.pm_world.proofs.Worlds.{turned, world_with, stops_stay}
use Rattle.pm_world.proofs.Applies.{twin_making, Applied, delta_given, given_here, own_here, plain_here, applied_fits}
use Rattle.pm_world.proofs.Cells.{cells_stored, descriptor_else, other_number, other_sort, occ_sort}
use Rattle.pm_world.proofs.Frame.{here_own, own_has, found_has, no_run, maker_owns, small_cases, disjoint, fresh_given}
use Rattle.pm_world.proofs.Going.{at_phase}
use Rattle.pm_world.proofs.Stored.{OwnWords, around_own, stored}
use Rattle.pm_world.proofs.StepApply.{made_word, mask_of, mask_given, OneWord, is_descr, read_in, new_words, one_word, word_now, read_else, applied_at}
use Rattle.pm_world.proofs.StepChange.{tag, last_one, entry_at, stores_at}

some_cond : (t : Bool) (y : Option Bool) (z : Bool) → cond t y None ≡ Some z → (t ≡ true) × (y ≡ Some z)
some_cond true y z e = (refl, e)
some_cond false y z e = absurd (both_ways false refl (ap given e))

some_same : (a c : Bool) → Some a ≡ Some c → a ≡ c
some_same a c e = ap value e
  where
    value : Option Bool → Bool
    value None = false
    value (Some y) = y

-- a place of a word of the pool, in a chunk's 512 words, is the pool's
module _ (sh : Shape) (w : ℕ) (inside : w < words_of sh) where
  run_place : (c u : ℕ) → u < 512 → word_of_chunk sh c + u ≡ w → (nat_lt c (chunks_of sh) && nat_lt u 512) ≡ true
  run_place c u l e = and_from (nat_lt c (chunks_of sh)) (nat_lt u 512) (lt-ltb c (chunks_of sh) (omega arith)) (lt-ltb u 512 l)

  pub pictured_place : (p : Place) → is_pictured p ≡ true → word_of sh p ≡ w → is_place sh p ≡ true
  pictured_place (InRun c u) t e = run_place c u (ltb-true u 512 (and_parts (nat_le 8 u) (nat_lt u 512) t).1) e
  pictured_place (InHuge c u) t e = run_place c u (ltb-true u 512 t) e
  pictured_place (Descr c) t e = absurd (both_ways false refl t)
  pictured_place RootWord t e = refl

  pub used_place : (h : Hold) (p : Place) → is_use h p ≡ true → word_of sh p ≡ w → is_place sh p ≡ true
  used_place h (InRun c u) t e = run_place c u (ltb-true u 512 (and_parts (nat_lt u 512) (not (h.class c == 0)) t).0) e
  used_place h (InHuge c u) t e = run_place c u (ltb-true u 512 (and_parts (nat_lt u 512) (h.class c == 0) t).0) e
  used_place h (Descr c) t e = lt-ltb c (chunks_of sh) (omega arith)
  used_place h RootWord t e = refl

pictured_plain : (p : Place) → is_pictured p ≡ true → is_descr p ≡ false
pictured_plain (InRun c u) t = refl
pictured_plain (InHuge c u) t = refl
pictured_plain (Descr c) t = absurd (both_ways false refl t)
pictured_plain RootWord t = refl

module _ (o : Opening) (mem : Memory) (views : Views) (g : Past) (x : World o mem views g) (k : ℕ) (ink : k < o.lanes) (w : ℕ) (d : Entry) (todo : List Entry) (ph : (views k).log.phase ≡ Applying (d ∷ todo)) (word : d.word ≡ w) (inside : w < words_of o.shape)
    (p₀ : Place) (place : d.place ≡ Some p₀) (small : made_word d.op d.value (mem (PoolWord w)) < 2 ^ 64) (was : Option ℕ) where
  abbrev v : View
  v = views k

  abbrev h : Hold
  h = (sight_of (views k)).hold

  abbrev S : State
  S = settled_words o g

  abbrev G : Ghost
  G = ghost_of g

  abbrev cells : Cells
  cells = cells_of o.shape mem

  abbrev e₀ : Redo
  e₀ = record { place = p₀; op = d.op; value = d.value }

  abbrev words : ℕ → ℕ
  words u = mem (PoolWord u)

  abbrev made : ℕ
  made = made_word d.op d.value (mem (PoolWord w))

  abbrev cells' : Cells
  cells' = cells_by o.shape (put1 (λ u. mem (PoolWord u)) w made) (λ l. mem (LockWord l)) (λ c. mem (RunWord c)) (λ z. mem (ZoneWord z)) (λ z. mem (ZoneLock z)) (mem CommitCounter) (mem StopWord)

  lane : LaneFits o mem g k v
  lane = x.each_lane k ink

  pub log_then : LogFits o.shape k (cells.generation k) (cells.seal k) (cells.entry k) (cells.slot k) S (owns g.geo S h) (sight_of v).picture (record v.log { phase = Applying (d ∷ todo) }) v.changes
  log_then = subst (λ z. LogFits o.shape k (cells.generation k) (cells.seal k) (cells.entry k) (cells.slot k) S (owns g.geo S h) (sight_of v).picture (record v.log { phase = z }) v.changes) ph lane.log

  f : SightFits o.shape cells S (Flies G k) G k (record (sight_of v) { phase = Applying (d ∷ todo) })
  f = at_phase o.shape o.lanes (origin o) cells (λ j. sight_of (views j)) G x.bits k ink (Applying (d ∷ todo)) ph

  pub pair : (is_place o.shape p₀ ≡ true) × (word_of o.shape p₀ ≡ d.word) × EntryOf p₀ d.op d.value
  pair = let l = log_then in let q = ap (λ es. Rattle.std.specs.Prelude.slice_get es (length l.phase.1.done)) l.phase.1.are ∙ entry_at l.phase.1.done d todo in
      subst (λ z. IfSome z (λ p. (is_place o.shape p ≡ true) × (word_of o.shape p ≡ d.word) × EntryOf p d.op d.value)) place (l.pairs (length l.phase.1.done) d q).3

  value_small : d.value < 2 ^ 64
  value_small = let l = log_then in let q = ap (λ es. Rattle.std.specs.Prelude.slice_get es (length l.phase.1.done)) l.phase.1.are ∙ entry_at l.phase.1.done d todo in (l.pairs (length l.phase.1.done) d q).2

  at_word : word_of o.shape p₀ ≡ w
  at_word = pair.1 ∙ word

  some_bit : (b : ℕ) × (given (given_bit d.op d.value b) ≡ true)
  some_bit = go p₀ pair.2
    where
      go : (p : Place) → EntryOf p d.op d.value → (b : ℕ) × (given (given_bit d.op d.value b) ≡ true)
      go (InRun c u) s = (s.0, s.2)
      go (InHuge c u) s = (s.0, s.2)
      go (Descr c) s = (0, ap (λ z. given (given_bit z d.value 0)) s.0)
      go RootWord s = (s.0, s.2)

  left_is : (p : Place) (b : ℕ) → latest (redos (d ∷ todo)) p b ≡ first_of_two (latest (redos todo) p b) (delta e₀ p b)
  left_is p b = ap (λ q. latest (with_redo q d (redos todo)) p b) place

  own_bit : (b : ℕ) → given (given_bit d.op d.value b) ≡ true → owns g.geo S h p₀ b ≡ true
  own_bit = own_here o.shape cells cells' S (Flies G k) G x.bits.geo k (sight_of v) e₀ (d ∷ todo) todo f left_is

  plain_p : is_in_making h p₀ ≡ false
  plain_p = plain_here o.shape cells cells' S (Flies G k) G x.bits.geo k (sight_of v) e₀ (d ∷ todo) todo f left_is some_bit.0 some_bit.1

  bits_at : (p : Place) (b : ℕ) → Rattle.pm_world.proofs.Applies.AppliedAt (read cells.pool p b) (read cells'.pool p b) e₀ p b
  bits_at = applied_at o.shape words w e₀ pair.0 at_word pair.2 small (x.small w)

  one : (p : Place) → is_place o.shape p ≡ true → word_of o.shape p ≡ w → OneWord p p₀
  one = one_word o.shape words w e₀ pair.0 at_word pair.2 small (x.small w)

  -- a chunk of a huge block of the lane's is told to be no run
  descr_zero : (c : ℕ) → own h (Big (g.geo.first c)) ≡ true → h.making c ≡ false → cells.descr c ≡ 0
  descr_zero c t m = x.bits.descr c (λ j. ⊎_elim (λ (q : j ≡ k). subst (λ i. (sight_of (views i)).hold.making c ≡ false) (sym q) m)
      (λ (ne : j ≢ k). false_from_ne_true ((sight_of (views j)).hold.making c) (λ y. let z = maker_owns o.shape cells S (Flies G j) G x.bits.geo j (sight_of (views j)) (x.bits.each_lane j) c y in
      both_ways (own h (Big c)) (disjoint o.shape cells S (Flies G j) (Flies G k) G x.bits.geo x.bits.alone j k (sight_of (views j)) (sight_of v) (x.bits.each_lane j) (x.bits.each_lane k) ne (Big c) z.0) (subst (λ a. own h (Big a) ≡ true) z.1 t))) (cases_eq j k))
      ∙ cond-false (g.runs c) (g.geo.class c) 0 (no_run o.shape cells S (Flies G k) G x.bits.geo k (sight_of v) (x.bits.each_lane k) c t)

  -- the lane has no word in both of its uses, but of a chunk that it makes a run
  both_uses : (p : Place) (b c : ℕ) → owns g.geo S h p b ≡ true → owns g.geo S h (twin p) c ≡ true → is_in_making h p ≡ false → same_place p (twin p) ≡ false → ⊥
  both_uses (InRun a u) b c t q m s = ⊎_elim (λ (r : g.runs a ≡ true). both_ways (g.runs a) (no_run o.shape cells S (Flies G k) G x.bits.geo k (sight_of v) (x.bits.each_lane k) a q) r) (λ (r : h.making a ≡ true). both_ways (h.making a) m r) (small_cases o.shape cells S (Flies G k) G x.bits.geo k (sight_of v) (x.bits.each_lane k) a (part (g.geo.class a) u b) t)
  both_uses (InHuge a u) b c t q m s = ⊎_elim (λ (r : g.runs a ≡ true). both_ways (g.runs a) (no_run o.shape cells S (Flies G k) G x.bits.geo k (sight_of v) (x.bits.each_lane k) a t) r) (λ (r : h.making a ≡ true). both_ways (h.making a) m r) (small_cases o.shape cells S (Flies G k) G x.bits.geo k (sight_of v) (x.bits.each_lane k) a (part (g.geo.class a) u c) q)
  both_uses (Descr a) b c t q m s = both_ways (a == a) s (eq-eqb a a refl)
  both_uses RootWord b c t q m s = both_ways true s refl

  -- nor is its other use one of the lane's
  no_twin : (p : Place) (b : ℕ) → owns g.geo S h p b ≡ true → is_in_making h p ≡ false → same_place p (twin p) ≡ false → is_use h (twin p) ≡ true → ⊥
  no_twin (InRun a u) b t m s q = ⊎_elim (λ (r : g.runs a ≡ true). let z = eqb-true (h.class a) 0 (and_parts (nat_lt u 512) (h.class a == 0) q).1 in let y = (x.bits.geo.classes a r).0 in
      let c = f.hold.class a (part (g.geo.class a) u b) (own_has h (Small a (part (g.geo.class a) u b)) t) in omega arith) (λ (r : h.making a ≡ true). both_ways (h.making a) m r) (small_cases o.shape cells S (Flies G k) G x.bits.geo k (sight_of v) (x.bits.each_lane k) a (part (g.geo.class a) u b) t)
  no_twin (InHuge a u) b t m s q = go (h.class a) refl (and_parts (nat_lt u 512) (not (h.class a == 0)) q).1
    where
      go : (n : ℕ) → h.class a ≡ n → not (h.class a == 0) ≡ true → ⊥
      go zero e r = both_ways (not (h.class a == 0)) (ap not (eq-eqb (h.class a) 0 e)) r
      go (suc n) e r = let z = f.hold.seen a n e in let y = descr_zero a t m in omega arith
  no_twin (Descr a) b t m s q = both_ways (a == a) s (eq-eqb a a refl)
  no_twin RootWord b t m s q = both_ways true s refl

  own_words : OwnWords S G h cells cells'
  own_words = record {
    pool = λ p b u t. pool p b u t (bits_at p b);
    descr = descr;
    writer = λ l j. refl;
    reader = λ l j. refl;
    occ = λ a. refl;
    counter = refl;
  }
    where
      pool : (p : Place) (b : ℕ) → owns g.geo S h p b ≡ false → owns g.geo S h (twin p) b ≡ false → Rattle.pm_world.proofs.Applies.AppliedAt (read cells.pool p b) (read cells'.pool p b) e₀ p b → read cells'.pool p b ≡ read cells.pool p b
      pool p b u t (inl z) = z.0
      pool p b u t (inr (inl z)) = absurd (both_ways (owns g.geo S h p b) u (subst (λ q. owns g.geo S h q b ≡ true) (sym z.3) (own_bit b (ap given z.1))))
      pool p b u t (inr (inr z)) = absurd (both_ways (owns g.geo S h (twin p) b) t (subst (λ q. owns g.geo S h q b ≡ true) (sym (ap twin z.1 ∙ twin_twin p₀)) (own_bit b z.0)))

      descr : (c : ℕ) → cells'.descr c ≡ cells.descr c
      descr c = ⊎_elim (λ (q : word_of_descriptor o.shape c ≡ w). ⊎_elim (λ (a : nat_lt c (chunks_of o.shape) ≡ true). told p₀ (one (Descr c) a q) pair.2 own_bit plain_p a q)
          (λ (a : nat_lt c (chunks_of o.shape) ≡ false). ap (λ t. cond t (run_told (put1 words w made (word_of_descriptor o.shape c))) 0) a ∙ sym (ap (λ t. cond t (run_told (words (word_of_descriptor o.shape c))) 0) a)) (cases_Bool (nat_lt c (chunks_of o.shape))))
          (λ (ne : word_of_descriptor o.shape c ≢ w). descriptor_else o.shape words w made c ne) (cases_eq (word_of_descriptor o.shape c) w)
        where
          told : (p : Place) → OneWord (Descr c) p → EntryOf p d.op d.value → ((b : ℕ) → given (given_bit d.op d.value b) ≡ true → owns g.geo S h p b ≡ true) → is_in_making h p ≡ false → nat_lt c (chunks_of o.shape) ≡ true → word_of_descriptor o.shape c ≡ w → cells'.descr c ≡ cells.descr c
          told (InRun a u) s _ _ _ _ _ = absurd (⊎_elim (λ (z : Descr c ≡ InRun a u). let y = ap Rattle.pm_world.proofs.StepApply.kind z in omega arith) (λ (z : (Descr c ≡ InHuge a u) × (same_place (InRun a u) (Descr c) ≡ false)). let y = ap Rattle.pm_world.proofs.StepApply.kind z.0 in omega arith) s)
          told (InHuge a u) s _ _ _ _ _ = absurd (⊎_elim (λ (z : Descr c ≡ InHuge a u). let y = ap Rattle.pm_world.proofs.StepApply.kind z in omega arith) (λ (z : (Descr c ≡ InRun a u) × (same_place (InHuge a u) (Descr c) ≡ false)). let y = ap Rattle.pm_world.proofs.StepApply.kind z.0 in omega arith) s)
          told RootWord s _ _ _ _ _ = absurd (⊎_elim (λ (z : Descr c ≡ RootWord). let y = ap Rattle.pm_world.proofs.StepApply.kind z in omega arith) (λ (z : (Descr c ≡ RootWord) × (same_place RootWord (Descr c) ≡ false)). let y = ap Rattle.pm_world.proofs.StepApply.kind z.0 in omega arith) s)
          told (Descr a) s s' own_ m in_ q = let i : c ≡ a = ⊎_elim (λ (z : Descr c ≡ Descr a). ap chunk z) (λ (z : (Descr c ≡ Descr a) × (same_place (Descr a) (Descr c) ≡ false)). ap chunk z.0) s in
              ap (λ t. cond t (run_told (put1 words w made (word_of_descriptor o.shape c))) 0) in_
              ∙ (ap run_told (word_now o.shape words w e₀ pair.0 at_word pair.2 small (x.small w) (Descr c) q ∙ ap (λ z. made_word z d.value (mem (PoolWord w))) s'.0) ∙ (cond-false (is_run d.value) (d.value / 256) 0 s'.1
              ∙ sym (descr_zero c (subst (λ j. own h (Big (g.geo.first j)) ≡ true) (sym i) (own_ some_bit.0 some_bit.1)) (subst (λ j. h.making j ≡ false) (sym i) m))))
            where
              chunk : Place → ℕ
              chunk (InRun c u) = c
              chunk (InHuge c u) = c
              chunk (Descr c) = c
              chunk RootWord = 0

  -- ---- THE VIEW AFTER
  abbrev claims' : List Claim
  claims' = Knows w made ∷ v.claims

  abbrev pub change : Undrained
  change = record { word = w; mask = mask_of d.op d.value; old = option_map (λ old. bit_and old (mask_of d.op d.value)) was; flushed = false }

  abbrev log' : Log
  log' = record v.log { phase = Applying todo }

  abbrev picture' : Diff
  picture' = picture v.fixed.shape claims'

  abbrev fresh' : Diff
  fresh' = fresh v.fixed.shape claims' log'

  word_in : (p : Place) → word_of v.fixed.shape p ≡ word_of o.shape p
  word_in p = ap (λ s. word_of s p) lane.shape

  picture_else : (p : Place) (b : ℕ) → w ≢ word_of o.shape p → picture' p b ≡ (sight_of v).picture p b
  picture_else p b ne = ap (λ y. cond (is_pictured p) (option_map (λ z. bit_at z b == 1) y) None) (cond-false (w == word_of v.fixed.shape p) (Some made) (pictured v.fixed.shape v.claims (word_of v.fixed.shape p)) (ne_eqb w (word_of v.fixed.shape p) (λ q. ne (q ∙ word_in p))))

  picture_here : (p : Place) (b : ℕ) → w ≡ word_of o.shape p → picture' p b ≡ cond (is_pictured p) (Some (bit made b)) None
  picture_here p b e = ap (λ y. cond (is_pictured p) (option_map (λ z. bit_at z b == 1) y) None) (cond-true (w == word_of v.fixed.shape p) (Some made) (pictured v.fixed.shape v.claims (word_of v.fixed.shape p)) (eq-eqb w (word_of v.fixed.shape p) (e ∙ sym (word_in p))))

  fresh_else : (p : Place) (b : ℕ) → w ≢ word_of o.shape p → fresh' p b ≡ (call_in v).fresh p b
  fresh_else p b ne = ap (λ y. cond (is_data p && (is_made (turn (latest (redos v.log.entries)) (block_of (geometry v.fixed.shape v.claims) p b)) || is_recorded v.log.records p)) y None) (picture_else p b ne)

  fresh_parts : (p : Place) (b : ℕ) → given (fresh' p b) ≡ true → (is_data p ≡ true) × ((is_made (turn (latest (redos v.log.entries)) (block_of (geometry v.fixed.shape v.claims) p b)) || is_recorded v.log.records p) ≡ true) × (given (picture' p b) ≡ true)
  fresh_parts p b t = let m = is_made (turn (latest (redos v.log.entries)) (block_of (geometry v.fixed.shape v.claims) p b)) || is_recorded v.log.records p in let z = given_cond (is_data p && m) (picture' p b) t in let y = and_parts (is_data p) m z.0 in (y.0, y.1, z.1)

  -- the block of a word, as the lane knows it, where it found that block
  huge_known : (c : ℕ) → h.found (Big (first v.fixed.shape v.claims c)) ≡ true → first v.fixed.shape v.claims c ≡ g.geo.first c
  huge_known c q = let a = last_first v.fixed.shape v.claims c in let t = in_span a (span v.fixed.shape v.claims a) c in
      ⊎_elim (λ (e : t ≡ true). let r = cond-true t a c e in r ∙ sym (eqb-true (g.geo.first c) a (f.hold.span a (found_has h (Big a) (subst (λ y. h.found (Big y) ≡ true) r q)) c ∙ e)))
      (λ (e : t ≡ false). let r = cond-false t a c e in r ∙ sym (eqb-true (g.geo.first c) c (f.hold.found (Big c) (subst (λ y. h.found (Big y) ≡ true) r q)).1)) (cases_Bool t)

  made_owned : (p : Place) (b : ℕ) → is_data p ≡ true → h.here (block_of (geometry v.fixed.shape v.claims) p b) ≡ true → owns g.geo S h p b ≡ true
  made_owned (InRun c u) b t q = subst (λ cl. own h (Small c (part cl u b)) ≡ true) (f.hold.class c (part (class v.claims c) u b) (own_has h (Small c (part (class v.claims c) u b)) (here_own h (Small c (part (class v.claims c) u b)) q))) (here_own h (Small c (part (class v.claims c) u b)) q)
  made_owned (InHuge c u) b t q = subst (λ y. own h (Big y) ≡ true) (huge_known c (f.hold.here (Big (first v.fixed.shape v.claims c)) q).1) (here_own h (Big (first v.fixed.shape v.claims c)) q)
  made_owned (Descr c) b t q = absurd (both_ways false refl t)
  made_owned RootWord b t q = absurd (both_ways false refl t)

  fresh_owned : (p : Place) (b : ℕ) → given (fresh' p b) ≡ true → owns g.geo S h p b ≡ true
  fresh_owned p b t = let z = fresh_parts p b t in let B = block_of (geometry v.fixed.shape v.claims) p b in let a = turn (latest (redos v.log.entries)) B in
      ⊎_elim (λ (m : is_made a ≡ true). made_owned p b z.0 (subst (TurnAfter (h.locked (Rattle.pm_view.specs.Places.header o.shape g.geo B)) (h.mine B) (h.here B)) (made_turn a m) (f.turns B)))
      (λ (r : is_recorded v.log.records p ≡ true). let y = some_of (old_of v.log.records p) r in (log_then.olds p y.0 y.1 b).0) (or_cases (is_made a) (is_recorded v.log.records p) z.1)

  fresh_place : (p : Place) (b : ℕ) → given (fresh' p b) ≡ true → w ≡ word_of o.shape p → OneWord p p₀
  fresh_place p b t e = let z = fresh_parts p b t in one p (pictured_place o.shape w inside p (given_cond (is_pictured p) (Some (bit made b)) (sym (ap given (picture_here p b e)) ∙ z.2)).0 (sym e)) (sym e)

  twin_apart : (p : Place) → p ≡ twin p₀ → same_place p₀ p ≡ false → same_place p₀ (twin p₀) ≡ false
  twin_apart p q s = sym (ap (same_place p₀) q) ∙ s

  applied_now : Applied S G cells cells' (sight_of v) e₀ fresh' picture' (is_soiled v.fixed.shape h (change ∷ v.changes))
  applied_now = record {
    at = bits_at;
    pictured = λ p b. ⊎_elim (λ (e : w ≡ word_of o.shape p). inr (λ y q. let z = some_cond (is_pictured p) (Some (bit made b)) y (sym (picture_here p b e) ∙ q) in
        read_in o.shape (put1 words w made) p b (pictured_place o.shape w inside p z.0 (sym e)) (pictured_plain p z.0) ∙ (ap (λ n. bit n b) (word_now o.shape words w e₀ pair.0 at_word pair.2 small (x.small w) p (sym e)) ∙ some_same (bit made b) y z.1)))
        (λ (ne : w ≢ word_of o.shape p). inl (picture_else p b ne, read_else o.shape words w e₀ pair.0 at_word pair.2 small (x.small w) p b (λ q. ne (sym q)))) (cases_eq w (word_of o.shape p));
    soils = soils;
    descr = λ c b. refl;
    seen = λ p b y q. (some_cond (is_data p && (is_made (turn (latest (redos v.log.entries)) (block_of (geometry v.fixed.shape v.claims) p b)) || is_recorded v.log.records p)) (picture' p b) y q).1;
    reach = fresh_owned;
    plain = λ p b t. ⊎_elim (λ (e : w ≡ word_of o.shape p). ⊎_elim (λ (q : p ≡ p₀). ap (is_in_making h) q ∙ plain_p) (λ (q : (p ≡ twin p₀) × (same_place p₀ p ≡ false)). ap (is_in_making h) q.0 ∙ (twin_making h p₀ ∙ plain_p)) (fresh_place p b t e))
        (λ (ne : w ≢ word_of o.shape p). f.plain p b (fresh_given (latest (redos v.log.entries) p b) ((call_in v).fresh p b) (sym (ap given (fresh_else p b ne)) ∙ t))) (cases_eq w (word_of o.shape p));
    sizes = λ p b s t. ⊎_elim (λ (e : w ≡ word_of o.shape p). ⊎_elim (λ (q : p ≡ p₀). absurd (both_ways (given (latest (redos v.log.entries) p some_bit.0)) (f.sizes p some_bit.0 s).0
        (ap (λ r. given (latest (redos v.log.entries) r some_bit.0)) q ∙ given_here o.shape cells cells' S (Flies G k) G x.bits.geo k (sight_of v) e₀ (d ∷ todo) todo f left_is some_bit.0 some_bit.1)))
        (λ (q : (p ≡ twin p₀) × (same_place p₀ p ≡ false)). absurd (both_uses p₀ some_bit.0 b (own_bit some_bit.0 some_bit.1) (subst (λ r. owns g.geo S h r b ≡ true) q.0 (fresh_owned p b t)) plain_p (twin_apart p q.0 q.1))) (fresh_place p b t e))
        (λ (ne : w ≢ word_of o.shape p). (f.sizes p b s).1 (sym (ap given (fresh_else p b ne)) ∙ t)) (cases_eq w (word_of o.shape p));
  }
    where
      soils : (p : Place) (b : ℕ) → is_soiled v.fixed.shape h (change ∷ v.changes) p b ≡ true → ((sight_of v).soiled p b ≡ true) ⊎ (given (delta e₀ p b) ≡ true)
      soils p b t = let rest = is_dirty_bit v.changes (word_of v.fixed.shape p) b in let new_ = (w == word_of v.fixed.shape p) && (bit_at (mask_of d.op d.value) b == 1) in let y = and_parts (is_use h p) (new_ || rest) t in
          ⊎_elim (λ (z : new_ ≡ true). let u = and_parts (w == word_of v.fixed.shape p) (bit_at (mask_of d.op d.value) b == 1) z in let e : word_of o.shape p ≡ w = sym (eqb-true w (word_of v.fixed.shape p) u.0 ∙ word_in p) in
          ⊎_elim (λ (q : p ≡ p₀). inr (ap given (ap (λ r. delta e₀ r b) q ∙ cond-true (same_place p₀ p₀) (given_bit d.op d.value b) None (same_place_refl p₀)) ∙ mask_given d.op d.value b value_small u.1))
          (λ (q : (p ≡ twin p₀) × (same_place p₀ p ≡ false)). absurd (no_twin p₀ some_bit.0 (own_bit some_bit.0 some_bit.1) plain_p (twin_apart p q.0 q.1) (ap (is_use h) (sym q.0) ∙ y.0))) (one p (used_place o.shape w inside h p y.0 e) e))
          (λ (z : rest ≡ true). inl (and_from (is_use h p) rest y.0 z)) (or_cases new_ rest y.1)

  -- the lane's sight fits
  pub sight_now : (step : Step) → SightFits o.shape cells' S (Flies G k) G k (sight_of (changed_from step v w (mask_of d.op d.value) was made v.claims (record v.log { phase = Applying todo })))
  sight_now step = applied_fits o.shape cells cells' S (Flies G k) G x.bits.geo k (sight_of v) e₀ (d ∷ todo) todo f left_is own_words fresh' picture'
      (Rattle.pm_world.specs.Sights.is_logged v.fixed.shape v.fixed.lane (change ∷ v.changes) v.log.records) (is_soiled v.fixed.shape h (change ∷ v.changes)) applied_now

  -- ---- the lane's log, and the world
  abbrev View' : Step → View
  View' step = changed_from step v w (mask_of d.op d.value) was made v.claims (record v.log { phase = Applying todo })

  area_else : (lane i : ℕ) → lane < o.shape.lanes → i < 1024 → (u : ℕ) → u ≡ word_of_generation o.shape lane + i → put1 (λ u. mem (PoolWord u)) w made u ≡ mem (PoolWord u)
  area_else lane i a b u e = put1_else (λ u. mem (PoolWord u)) w made u (λ q. no_area o.shape p₀ lane i a b pair.0 (at_word ∙ (sym q ∙ e)))

  area : (Rattle.pm_world.specs.Logs.AreaChange (Applying todo) (length v.log.entries) v.log.generation (part_of o.shape k w) change)
      → LogFits o.shape k (cells'.generation k) (cells'.seal k) (cells'.entry k) (cells'.slot k) S (owns g.geo S h) picture' (record v.log { phase = Applying todo }) (change ∷ v.changes)
  area new_change = let l = log_then in let in_ : k < o.shape.lanes = let m = x.most_lanes in omega arith in record {
    first = l.first;
    last = l.last;
    below = l.below;
    stored = area_else k 0 in_ (omega arith) (word_of_generation o.shape k) (omega arith) ∙ l.stored;
    bump = tt;
    sealed = area_else k 1 in_ (omega arith) (word_of_seal o.shape k) (omega arith) ∙ l.sealed;
    entries_most = l.entries_most;
    records_most = l.records_most;
    pairs = λ i y q. let z = l.pairs i y q in let r = slice_get_within v.log.entries i y q in let most = l.entries_most in
        (area_else k (8 + 2 * i + 0) in_ (omega arith) (word_of_entry o.shape k i + 0) (omega arith) ∙ z.0, area_else k (8 + 2 * i + 1) in_ (omega arith) (word_of_entry o.shape k i + 1) (omega arith) ∙ z.1, z.2, z.3);
    pair_part = λ i q. let r = ap length l.phase.3 in absurd (omega arith);
    records = λ i r q. let z = l.records i r q in let n = slice_get_within v.log.records i r q in let most = l.records_most in (λ y s. area_else k (136 + 8 * i + y) in_ (omega arith) (8 * line_of_slot o.shape k i + y) (omega arith) ∙ z.0 y s, z.1, z.2, z.3, z.4, z.5);
    once = l.once;
    olds = l.olds;
    slot_part = λ i q. let r = ap length l.phase.2 in absurd (omega arith);
    stale = λ i u q z t. l.stale i u q z (sym (ap Rattle.pm_record.specs.Undo.undo_of (slots i in_ z)) ∙ t);
    slot_changes = all_cons (λ (c : Undrained). part_of o.shape k c.word ≡ Rattle.pm_view.specs.Parts.SlotPart → c.word < 8 * line_of_slot o.shape k (Rattle.pm_world.specs.Logs.used_slots (v.log))) change v.changes (λ e. absurd (let r = slot_range o.shape k w e in no_area o.shape p₀ k (w - word_of_generation o.shape k) in_ (omega arith) pair.0 (at_word ∙ omega arith))) l.slot_changes;
    area_changes = all_cons (λ (u : Undrained). Rattle.pm_world.specs.Logs.AreaChange (Applying todo) (length v.log.entries) v.log.generation (part_of o.shape k u.word) u) change v.changes new_change l.area_changes;
    phase = (
      record { front = l.phase.0.front; are = l.phase.0.are; placed = l.phase.0.placed },
      record { done = l.phase.1.done ++ d ∷ []; are = l.phase.1.are ∙ sym (append_assoc l.phase.1.done (d ∷ []) todo); ends = λ q i y s. l.phase.1.ends q (suc i) y (omega arith); to_end = λ q. later (l.phase.1.to_end q) },
      l.phase.2,
      l.phase.3,
    );
  }
    where
      slots : (i : ℕ) → k < o.shape.lanes → i < undo_slots o.shape → Rattle.pm_world.specs.Logs.slot_list (λ y. put1 (λ u. mem (PoolWord u)) w made (8 * line_of_slot o.shape k i + y)) ≡ Rattle.pm_world.specs.Logs.slot_list (λ y. mem (PoolWord (8 * line_of_slot o.shape k i + y)))
      slots i in_ l = λ t. at 0 (omega arith) t ∷ at 1 (omega arith) t ∷ at 2 (omega arith) t ∷ at 3 (omega arith) t ∷ at 4 (omega arith) t ∷ at 5 (omega arith) t ∷ at 6 (omega arith) t ∷ at 7 (omega arith) t ∷ []
        where
          at : (y : ℕ) → y < 8 → put1 (λ u. mem (PoolWord u)) w made (8 * line_of_slot o.shape k i + y) ≡ mem (PoolWord (8 * line_of_slot o.shape k i + y))
          at y q = area_else k (136 + 8 * i + y) in_ (omega arith) (8 * line_of_slot o.shape k i + y) (omega arith)

      later : Contains (d ∷ todo) (ends_with o.shape k v.log.generation) → Contains todo (ends_with o.shape k v.log.generation)
      later (zero, l, e) = absurd (both_ways false refl (sym (ap (λ (y : Entry). has_place y.place) e) ∙ ap has_place place))
        where
          has_place : Option Place → Bool
          has_place None = false
          has_place (Some q) = true
      later (suc i, l, e) = (i, omega arith, e)

  module _ (step : Step) (new : Memory) (views' : Views) (became : Becomes (PoolWord w) made mem new) (room : HasRoom v.changes) (due : MayCount v) (mask : mask_of d.op d.value < 2 ^ 64)
      (new_change : Rattle.pm_world.specs.Logs.AreaChange (Applying todo) (length v.log.entries) v.log.generation (part_of o.shape k w) change) where
    cells_now : cells_of o.shape new ≡ cells'
    cells_now = cells_stored o.shape mem new w made became

    other : (u : ℕ) → u ≢ w → new (PoolWord u) ≡ mem (PoolWord u)
    other u ne = became.0 (PoolWord u) (other_number (PoolWord u) (PoolWord w) ne)

    area_word : (j i : ℕ) → j < o.shape.lanes → i < 1024 → (u : ℕ) → u ≡ word_of_generation o.shape j + i → new (PoolWord u) ≡ mem (PoolWord u)
    area_word j i a b u e = other u (λ q. no_area o.shape p₀ j i a b pair.0 (at_word ∙ (sym q ∙ e)))

    alone_now : AloneFits mem v → AloneFits new (View' step)
    alone_now a = record {
      words = λ u y e. ⊎_elim (λ (q : w ≡ u). ap (λ i. new (PoolWord i)) (sym q) ∙ (became.1 ∙ same_number made y (sym (cond-true (w == u) (Some made) (pictured v.fixed.shape v.claims u) (eq-eqb w u q)) ∙ e)))
          (λ (ne : w ≢ u). other u (λ q. ne (sym q)) ∙ a.words u y (sym (cond-false (w == u) (Some made) (pictured v.fixed.shape v.claims u) (ne_eqb w u ne)) ∙ e)) (cases_eq w u);
      occupancy = λ at y e. (became.0 (occ_at at) (occ_sort at (PoolWord w) (λ q. omega arith) (λ q. omega arith)) ∙ (a.occupancy at y e).0, (a.occupancy at y e).1);
    }
      where
        same_number : (a c : ℕ) → Some a ≡ Some c → a ≡ c
        same_number a c e = ap value e
          where
            value : Option ℕ → ℕ
            value None = 0
            value (Some y) = y

    lane_now : LaneFits o new g k (View' step)
    lane_now = let q = lane in record {
      lane = q.lane;
      shape = q.shape;
      lanes = q.lanes;
      log = subst (λ c. LogFits o.shape k (c.generation k) (c.seal k) (c.entry k) (c.slot k) S (owns g.geo S h) picture' (record v.log { phase = Applying todo }) (change ∷ v.changes)) (sym cells_now) (area new_change);
      made = λ _. q.made (ap Rattle.pm_world.specs.Lanes.is_decided ph);
      recorded = λ u. absurd (both_ways true u refl);
      number = tt;
      zones = λ z. ap (λ y. y == suc k) (became.0 (ZoneLock z) (other_sort (ZoneLock z) (PoolWord w) (λ q. omega arith))) ∙ q.zones z;
      masks = all_cons (λ (c : Undrained). (c.mask < 2 ^ 64) × (c.word < words_of o.shape)) change v.changes (mask, inside) q.masks;
      room = omega arith;
      within = counts_on v.fixed.stop (length v.calls) due;
      alone = λ one. alone_now (q.alone one);
      entries = q.entries;
    }

    header_word : (u : ℕ) → is_header o.shape u ≡ true → u ≢ w
    header_word u t q = let z = and_parts (nat_lt u 512) (not (u == Rattle.pm_layout.specs.Chunks.word_of_root o.shape)) t in go p₀ (at_word ∙ sym q) (ltb-true u 512 z.0) z.1
      where
        go : (p : Place) → word_of o.shape p ≡ u → u < 512 → not (u == Rattle.pm_layout.specs.Chunks.word_of_root o.shape) ≡ true → ⊥
        go (InRun c i) e l n = omega arith
        go (InHuge c i) e l n = omega arith
        go (Descr c) e l n = omega arith
        go RootWord e l n = both_ways (not (u == Rattle.pm_layout.specs.Chunks.word_of_root o.shape)) (ap not (eq-eqb u (Rattle.pm_layout.specs.Chunks.word_of_root o.shape) (sym e))) n

    -- THE WORLD AFTER IT
    pub entry_applied : Turn views views' k (View' step) → World o new views' g
    entry_applied t = let own = subst (OwnWords S G h cells) (sym cells_now) own_words in world_with o mem views g x k ink new views' g S (View' step) refl
        (around_own S G k h (λ j. (sight_of (views j)).hold) cells (cells_of o.shape new) own)
        record {
          generation = λ j l ne. area_word j 0 l (omega arith) (word_of_generation o.shape j) (omega arith);
          seal = λ j l ne. area_word j 1 l (omega arith) (word_of_seal o.shape j) (omega arith);
          entry = λ j i a l r s ne. area_word j (8 + 2 * i + a) l (omega arith) (word_of_entry o.shape j i + a) (omega arith);
          slot = λ j i y l r s ne. area_word j (136 + 8 * i + y) l (omega arith) (8 * line_of_slot o.shape j i + y) (omega arith);
          zone = λ z j ne. ap (λ y. y == suc j) (became.0 (ZoneLock z) (other_sort (ZoneLock z) (PoolWord w) (λ q. omega arith)));
          entries = λ j ne. refl;
        } t (stored o.shape o.lanes (origin o) cells (cells_of o.shape new) (λ j. sight_of (views j)) G x.bits k ink own (sight_of (View' step)) (λ j. sight_of (views' j)) refl (λ i q. absurd (subst (λ z. flies_at z i) ph q))
        (subst (λ c. SightFits o.shape c S (Flies G k) G k (sight_of (View' step))) (sym cells_now) (sight_now step)) (turned views views' k (View' step) t))
        lane_now x.of_lanes
        (λ u. ⊎_elim (λ (q : u ≡ w). subst (λ y. y < 2 ^ 64) (sym (ap (λ i. new (PoolWord i)) q ∙ became.1)) small) (λ (ne : u ≢ w). subst (λ y. y < 2 ^ 64) (sym (other u ne)) (x.small u)) (cases_eq u w))
        (λ u t. other u (header_word u t) ∙ x.header u t)
        (let c = count_same views views' k (View' step) t refl o.lanes in let r = x.counter_room in let e = became.0 CommitCounter (other_sort CommitCounter (PoolWord w) (λ q. omega arith)) in omega arith)
        (⊎_elim (λ (q : mem StopWord ≡ 0). inl (became.0 StopWord (other_sort StopWord (PoolWord w) (λ z. omega arith)) ∙ q)) (λ (q : (j : ℕ) × (j < o.lanes) × IsAtStop (views j)). inr (q.0, q.1, stops_stay views views' k (View' step) t (stop_stays v.fixed.stop (length v.calls)) q.0 q.2)) x.stop_word)

-- ---- THE NEXT ENTRY IS OF A PLACE, where its word is not the lane's generation
module _ (o : Opening) (mem : Memory) (views : Views) (g : Past) (x : World o mem views g) (k : ℕ) (ink : k < o.lanes) (w : ℕ) (d : Entry) (todo : List Entry) (ph : (views k).log.phase ≡ Applying (d ∷ todo)) (word : d.word ≡ w) where
  before : LogFits o.shape k ((cells_of o.shape mem).generation k) ((cells_of o.shape mem).seal k) ((cells_of o.shape mem).entry k) ((cells_of o.shape mem).slot k) (settled_words o g) (owns g.geo (settled_words o g) (sight_of (views k)).hold) (sight_of (views k)).picture (record (views k).log { phase = Applying (d ∷ todo) }) (views k).changes
  before = subst (λ z. LogFits o.shape k ((cells_of o.shape mem).generation k) ((cells_of o.shape mem).seal k) ((cells_of o.shape mem).entry k) ((cells_of o.shape mem).slot k) (settled_words o g) (owns g.geo (settled_words o g) (sight_of (views k)).hold) (sight_of (views k)).picture (record (views k).log { phase = z }) (views k).changes) ph (x.each_lane k ink).log

  generation_tag : w ≡ word_of_generation o.shape k → tag (part_of o.shape k w) ≡ 1
  generation_tag e = ap (λ t. tag (if t then GenerationPart else if w == word_of_seal o.shape k then SealPart else if is_entry_word o.shape k w then EntryPart else if is_slot_word o.shape k w then SlotPart else pool_part o.shape w)) (eq-eqb w (word_of_generation o.shape k) e)

  pub next_place : tag (part_of o.shape k w) ≡ 0 → (p : Place) × (d.place ≡ Some p)
  next_place t = go d.place refl
    where
      go : (q : Option Place) → d.place ≡ q → (p : Place) × (d.place ≡ Some p)
      go (Some p) e = (p, e)
      go None e = let z = last_one before.phase.1.done before.phase.0.front d (ends_with o.shape k (views k).log.generation) todo (sym before.phase.1.are ∙ before.phase.0.are) e before.phase.0.placed in
          let y = generation_tag (sym word ∙ ap (λ (c : Entry). c.word) z.0) in absurd (omega arith)

-- ---- A WHOLE WORD IS STORED
module _ (o : Opening) (mem new : Memory) (views views' : Views) (g : Past) (x : World o mem views g) (k : ℕ) (ink : k < o.lanes) (w n : ℕ) (m : MayStore (views k) w n) (due : MayCount (views k)) (became : Becomes (PoolWord w) n mem new) where
  pub store_entry : (q : Part) → part_in (views k) w ≡ q → tag q ≡ 0 → (d : Entry) (todo : List Entry) → ((c : Undrained) → c.mask ≡ all_bits → AreaChange (Applying todo) (length (views k).log.entries) (views k).log.generation q c)
      → (views k).log.phase ≡ Applying (d ∷ todo) → IsNext (d ∷ todo) w Set n → Turn views views' k (changed (Store w n) (views k) w all_bits n (views k).claims (record (views k).log { phase = Applying todo })) → World o new views' g
  store_entry q part t d todo area ph next turn = let here : part_of o.shape k w ≡ q = subst (λ s. part_of s k w ≡ q) (x.each_lane k ink).shape (subst (λ l. part_of (views k).fixed.shape l w ≡ q) (x.each_lane k ink).lane part) in
      let p = next_place o mem views g x k ink w d todo ph next.0 (ap tag here ∙ t) in
      let made : made_word d.op d.value (mem (PoolWord w)) ≡ n = ap (λ z. made_word z d.value (mem (PoolWord w))) next.1 ∙ next.2 in
      let whole : mask_of d.op d.value ≡ all_bits = ap (λ z. mask_of z d.value) next.1 in
      entry_applied o mem views g x k ink w d todo ph next.0 (subst (λ s. w < words_of s) (x.each_lane k ink).shape m.inside) p.0 p.1 (subst (λ z. z < 2 ^ 64) (sym made) m.small) (was_in (views k) w) (Store w n) new views' (subst (λ z. Becomes (PoolWord w) z mem new) (sym made) became) m.room due
      (subst (λ z. z < 2 ^ 64) (sym whole) (omega arith)) (subst (λ z. AreaChange (Applying todo) (length (views k).log.entries) (views k).log.generation z (change o mem views g x k ink w d todo ph next.0 (subst (λ s. w < words_of s) (x.each_lane k ink).shape m.inside) p.0 p.1 (subst (λ z. z < 2 ^ 64) (sym made) m.small) (was_in (views k) w))) (sym here) (area (change o mem views g x k ink w d todo ph next.0 (subst (λ s. w < words_of s) (x.each_lane k ink).shape m.inside) p.0 p.1 (subst (λ z. z < 2 ^ 64) (sym made) m.small) (was_in (views k) w)) whole))
      (subst (λ z. Turn views views' k (changed (Store w n) (views k) w z (made_word d.op d.value (mem (PoolWord w))) (views k).claims (record (views k).log { phase = Applying todo }))) (sym whole) (subst (λ z. Turn views views' k (changed (Store w n) (views k) w all_bits z (views k).claims (record (views k).log { phase = Applying todo }))) (sym made) turn))

pub applies_root : (todo : List Entry) → KeepsAt (Applying todo) RootPart
applies_root [] = stores_at (Applying []) RootPart (λ w n o mem new views views' g k x ink m due e part c moves t. absurd c)
applies_root (d ∷ todo) = stores_at (Applying (d ∷ todo)) RootPart (λ w n o mem new views views' g k x ink m due e part c moves t. store_entry o mem new views views' g x k ink w n m due moves RootPart part refl d todo (λ _ _. tt) e c t)

pub applies_descriptor : (todo : List Entry) (c : ℕ) → KeepsAt (Applying todo) (DescriptorPart c)
applies_descriptor [] c = stores_at (Applying []) (DescriptorPart c) (λ w n o mem new views views' g k x ink m due e part y moves t. absurd y)
applies_descriptor (d ∷ todo) c = stores_at (Applying (d ∷ todo)) (DescriptorPart c) (λ w n o mem new views views' g k x ink m due e part y moves t. store_entry o mem new views views' g x k ink w n m due moves (DescriptorPart c) part refl d todo (λ _ q. q) e y t)

pub applies_chunk : (todo : List Entry) (c i : ℕ) → KeepsAt (Applying todo) (ChunkPart c i)
applies_chunk [] c i = stores_at (Applying []) (ChunkPart c i) (λ w n o mem new views views' g k x ink m due e part y moves t. absurd y)
applies_chunk (d ∷ todo) c i = stores_at (Applying (d ∷ todo)) (ChunkPart c i) (λ w n o mem new views views' g k x ink m due e part y moves t. store_entry o mem new views views' g x k ink w n m due moves (ChunkPart c i) part refl d todo (λ _ _. tt) e y t)
