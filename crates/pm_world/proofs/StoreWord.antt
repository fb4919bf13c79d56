-- A USER WORD IS STORED: under its drained record, or in a block of the lane's own.
use Rattle.std.specs.Prelude.{[], ◌∷◌, length, not}
use Rattle.std.specs.Int.{bit_at}
use Rattle.std.specs.Option.{option_map}
use Rattle.std.proofs.Common.{◌≡◌, ◌≢◌, ℕ, ◌+◌, ◌-◌, ◌*◌, ◌/◌, ◌%◌, ◌<◌, ◌≤◌, ◌⊎◌, inl, inr, ⊎_elim, nat_le, nat_lt, Bool, true, false, cond, ◌==◌, ◌&&◌, ◌||◌, refl, sym, ap, ◌∙◌, subst, arith, eq-eqb, ne_eqb, Option, None, Some}
use Rattle.std.proofs.lemmas.Bool.{cases_eq, cases_lt, cases_Bool, eqb-true, ltb-true, lt-ltb, both_ways, and_parts, and_from, or_cases, or_left, or_right, cond-false, false_from_ne_true}
use Rattle.pm_layout.specs.declared.shape.Shape.{Shape}
use Rattle.pm_layout.specs.Areas.{word_of_generation, word_of_seal, word_of_entry, line_of_slot}
use Rattle.pm_layout.specs.Chunks.{chunks_of, words_of}
use Rattle.pm_record.specs.Undo.{undo_of}
use Rattle.pm_view.specs.Bits.{all_bits}
use Rattle.pm_view.specs.Changes.{Undrained, is_dirty_bit}
use Rattle.pm_view.specs.Claims.{Knows, class, pictured, geometry}
use Rattle.pm_view.specs.Counts.{MayCount}
use Rattle.pm_view.specs.Entries.{latest, redos, turn}
use Rattle.pm_view.specs.Log.{Phase, Idle, Open, Log, old_of}
use Rattle.pm_view.specs.Parts.{Part, ChunkPart, part_of}
use Rattle.pm_view.specs.Places.{Place, InRun, InHuge, Descr, RootWord, Block, Small, Big, Root, block_of, is_data, is_place, twin, word_of}
use Rattle.pm_view.specs.View.{View}
use Rattle.pm_view.specs.Views.{part_in}
use Rattle.pm_world.specs.States.{State, Diff, Cells, given, there, live, shown, bright_huge, cell, read, put1}
use Rattle.pm_world.specs.Sights.{Hold, is_pictured, picture, is_use, is_recorded, is_logged, sight_of}
use Rattle.pm_world.specs.Lanes.{Ghost, own, owns, is_in_making, is_decided, in_flight, open_soils, soils, FlightFits, SightFits, Flies, TurnBefore}
use Rattle.pm_world.specs.Lawful.{MayWrite, MayFill, MayStore}
use Rattle.pm_world.specs.Logs.{slot_list, AreaChange, LogFits}
use Rattle.pm_world.specs.Laws.{Turn}
use Rattle.pm_world.specs.Memory.{Memory, PoolWord, LockWord, RunWord, ZoneWord, ZoneLock, CommitCounter, StopWord, Becomes, bit, huge_told, run_told, bits_of, descriptor_told, cells_by, cells_of}
use Rattle.pm_world.specs.World.{Opening, Views, Past, origin, ghost_of, settled_words, World}
use Rattle.pm_world.proofs.RecordsAtPlaces.{data_pictured}
use Rattle.pm_world.proofs.Basics.{twin_twin}
use Rattle.pm_world.proofs.SlotWords.{slot_range}
use Rattle.pm_world.proofs.AfterStore.{after_store, store_world, keeps_at}
use Rattle.pm_world.proofs.Cells.{cells_stored, bits_else, descriptor_else}
use Rattle.pm_world.proofs.Entering.{block_known}
use Rattle.pm_world.proofs.EntryBits.{data_bit, huge_plain, run_plain}
use Rattle.pm_world.proofs.Frame.{mine_own, own_has, no_run, small_cases}
use Rattle.pm_world.proofs.Going.{at_phase}
use Rattle.pm_world.proofs.PlacesAt.{HasUse, IsAt, is_at}
use Rattle.pm_world.proofs.Replays.{put1_here, put1_else}
use Rattle.pm_world.proofs.StepDraw.{all_cons}
use Rattle.pm_world.proofs.StoreArea.{area_apart, undrained_by, logged_else}
use Rattle.pm_world.proofs.Stored.{OwnWords}
use Rattle.pm_world.specs.Laws.{KeepsAt}
use Rattle.pm_world.proofs.Worlds.{own_unrecorded}
use Rattle.pm_world.proofs.WordsApart.{one_cell}
use Rattle.pm_world.proofs.Writing.{Writes, written_fits}

abbrev is_chunk : Place → Bool
is_chunk (InRun c w) = true
is_chunk (InHuge c w) = true
is_chunk (Descr c) = false
is_chunk RootWord = false

two_uses : (p q : Place) → is_data q ≡ true → cell p ≡ cell q → (p ≡ q) ⊎ (p ≡ twin q)
two_uses (InRun c w) (InRun d v) t e = inl e
two_uses (InRun c w) (InHuge d v) t e = inr e
two_uses (InHuge c w) (InRun d v) t e = inr (ap twin e)
two_uses (InHuge c w) (InHuge d v) t e = inl (ap twin e)
two_uses (Descr c) (InRun d v) t e = absurd (both_ways false refl (ap is_chunk e))
two_uses (Descr c) (InHuge d v) t e = absurd (both_ways false refl (ap is_chunk e))
two_uses RootWord (InRun d v) t e = absurd (both_ways false refl (ap is_chunk e))
two_uses RootWord (InHuge d v) t e = absurd (both_ways false refl (ap is_chunk e))
two_uses (InRun c w) (Descr d) t e = absurd (both_ways false refl t)
two_uses (InHuge c w) (Descr d) t e = absurd (both_ways false refl t)
two_uses (Descr c) (Descr d) t e = absurd (both_ways false refl t)
two_uses RootWord (Descr d) t e = absurd (both_ways false refl t)
two_uses (InRun c w) RootWord t e = absurd (both_ways false refl t)
two_uses (InHuge c w) RootWord t e = absurd (both_ways false refl t)
two_uses (Descr c) RootWord t e = absurd (both_ways false refl t)
two_uses RootWord RootWord t e = absurd (both_ways false refl t)

descr_no_data : (c : ℕ) (q : Place) → is_data q ≡ true → cell (Descr c) ≡ cell q → ⊥
descr_no_data c (InRun d v) t e = both_ways false refl (ap is_chunk e)
descr_no_data c (InHuge d v) t e = both_ways false refl (ap is_chunk e)
descr_no_data c (Descr d) t e = both_ways false refl t
descr_no_data c RootWord t e = both_ways false refl t

no_bits : (sh : Shape) (words : ℕ → ℕ) (p : Place) (b : ℕ) → is_place sh p ≡ false → bits_of sh words (cell p) b ≡ false
no_bits sh words (InRun c u) b e = ap (λ t. t && bit (words (word_of sh (InRun c u))) b) e
no_bits sh words (InHuge c u) b e = ap (λ t. t && bit (words (word_of sh (InRun c u))) b) e
no_bits sh words (Descr c) b e = ap (λ t. t && huge_told (words (word_of sh (Descr c))) b) e
no_bits sh words RootWord b e = absurd (both_ways true e refl)

chunk_inside : (sh : Shape) (c u : ℕ) → u < 512 → word_of sh (InRun c u) < words_of sh → (nat_lt c (chunks_of sh) && nat_lt u 512) ≡ true
chunk_inside sh c u a l = and_from (nat_lt c (chunks_of sh)) (nat_lt u 512) (⊎_elim (λ (t : c < chunks_of sh). lt-ltb c (chunks_of sh) t) (λ (t : chunks_of sh ≤ c). absurd (omega arith)) (cases_lt c (chunks_of sh))) (lt-ltb u 512 a)

not_pictured : (sh : Shape) (p : Place) → word_of sh p < words_of sh → is_place sh p ≡ false → is_pictured p ≡ false
not_pictured sh (InRun c u) l e = false_from_ne_true (is_pictured (InRun c u)) (λ t. both_ways (is_place sh (InRun c u)) e (chunk_inside sh c u (ltb-true u 512 (and_parts (nat_le 8 u) (nat_lt u 512) t).1) l))
not_pictured sh (InHuge c u) l e = false_from_ne_true (nat_lt u 512) (λ t. both_ways (is_place sh (InHuge c u)) e (chunk_inside sh c u (ltb-true u 512 t) l))
not_pictured sh (Descr c) l e = refl
not_pictured sh RootWord l e = absurd (both_ways true e refl)

-- a use of a word within the pool is a place
used_place : (sh : Shape) (h : Hold) (p : Place) → word_of sh p < words_of sh → is_use h p ≡ true → is_place sh p ≡ true
used_place sh h (InRun c u) l t = chunk_inside sh c u (ltb-true u 512 (and_parts (nat_lt u 512) (not (h.class c == 0)) t).0) l
used_place sh h (InHuge c u) l t = chunk_inside sh c u (ltb-true u 512 (and_parts (nat_lt u 512) (h.class c == 0) t).0) l
used_place sh h (Descr c) l t = ⊎_elim (λ (q : c < chunks_of sh). lt-ltb c (chunks_of sh) q) (λ (q : chunks_of sh ≤ c). absurd (omega arith)) (cases_lt c (chunks_of sh))
used_place sh h RootWord l t = refl

other_unused : (h : Hold) (p : Place) → is_data p ≡ true → HasUse h.class p → is_use h (twin p) ≡ true → ⊥
other_unused h (InRun c u) d e t = e (eqb-true (h.class c) 0 (and_parts (nat_lt u 512) (h.class c == 0) t).1)
other_unused h (InHuge c u) d e t = both_ways false refl (sym (ap not (eq-eqb (h.class c) 0 e)) ∙ (and_parts (nat_lt u 512) (not (h.class c == 0)) t).1)
other_unused h (Descr c) d e t = both_ways false refl d
other_unused h RootWord d e t = both_ways false refl d

soil_from : (p : Place) (mi lg : Bool) → is_data p ≡ true → (mi || lg) ≡ true → open_soils p mi lg ≡ true
soil_from (InRun c u) mi lg d t = and_from (nat_le 8 u) (mi || lg) d t
soil_from (InHuge c u) mi lg d t = t
soil_from (Descr c) mi lg d t = absurd (both_ways false refl d)
soil_from RootWord mi lg d t = absurd (both_ways false refl d)

-- no word of a block that is not allocated is alive
dead : (S : State) (g : Ghost) (p : Place) (b : ℕ) → is_data p ≡ true → there S (block_of g.geo p b) ≡ false → live S g.geo g.runs p ≡ false
dead S g (InRun c u) b d t = false_from_ne_true (live S g.geo g.runs (InRun c u)) (λ e. let cl = g.geo.class c in let i = (u / 8 - 1) / cl in let z = Rattle.std.proofs.lemmas.Bool.leb-true 8 u d in
    let ne : (u == 0) ≡ false = ne_eqb u 0 (λ q. omega arith) in
    ⊎_elim (λ (q : (u == 0) ≡ true). both_ways (u == 0) ne q) (λ (q : ((nat_le 8 u && nat_lt u 512) && Rattle.pm_world.specs.States.bright S cl c i ((u / 8 - 1) % cl)) ≡ true).
    both_ways (S (InRun c 0) i) (sym (ap (S (InRun c 0)) (cond-false (u == 0) b i ne)) ∙ t) (and_parts (S (InRun c 0) i) (Rattle.pm_world.specs.States.lit (S (Rattle.pm_world.specs.States.size_at cl c i)) ((u / 8 - 1) % cl)) (and_parts (nat_le 8 u && nat_lt u 512) (Rattle.pm_world.specs.States.bright S cl c i ((u / 8 - 1) % cl)) q).1).0)
    (or_cases (u == 0) ((nat_le 8 u && nat_lt u 512) && Rattle.pm_world.specs.States.bright S cl c i ((u / 8 - 1) % cl)) (and_parts (g.runs c) (shown S cl c u) e).1))
dead S g (InHuge c u) b d t = false_from_ne_true (live S g.geo g.runs (InHuge c u)) (λ e. let y = g.geo.first c in let l = 64 * (c - y) + u / 8 in both_ways (S (Descr y) 1) t (and_parts (S (Descr y) 1) (Rattle.pm_world.specs.States.lit (S (InHuge y 1)) l) (and_parts (nat_lt u 512) (bright_huge S y l) e).1).0)
dead S g (Descr c) b d t = absurd (both_ways false refl d)
dead S g RootWord b d t = absurd (both_ways false refl d)

-- what is asked of the stored word's place
pub record Target (o : Opening) (g : Past) (v : View) (w : ℕ) (p₀ : Place) : Type 0 where
  pub at : IsAt v.fixed.shape (class v.claims) w p₀
  pub data_ : is_data p₀ ≡ true
  pub own_ : (b : ℕ) → owns g.geo (settled_words o g) (sight_of v).hold p₀ b ≡ true
  pub plain : is_in_making (sight_of v).hold p₀ ≡ false
  pub quiet : ((sight_of v).logged p₀ ≡ true) ⊎ ((live (settled_words o g) g.geo g.runs p₀ ≡ false) × (is_recorded v.log.records p₀ ≡ false))
  pub soil : (b : ℕ) → ((sight_of v).hold.mine (block_of g.geo p₀ b) || (sight_of v).logged p₀) ≡ true
  pub unentered : v.log.entries ≡ []

module _ (w n : ℕ) (o : Opening) (mem new : Memory) (views views' : Views) (g : Past) (k : ℕ) (x : World o mem views g) (ink : k < o.lanes) (m : MayStore (views k) w n) (due : MayCount (views k)) (b : Becomes (PoolWord w) n mem new) (p₀ : Place) (a : Target o g (views k) w p₀) where
  inside : is_place o.shape p₀ ≡ true
  inside = subst (λ s. is_place s p₀ ≡ true) (x.each_lane k ink).shape a.at.inside

  word : word_of o.shape p₀ ≡ w
  word = subst (λ s. word_of s p₀ ≡ w) (x.each_lane k ink).shape a.at.word

  low : w < words_of o.shape
  low = subst (λ s. w < words_of s) (x.each_lane k ink).shape m.inside

  word_in : (p : Place) → word_of (views k).fixed.shape p ≡ word_of o.shape p
  word_in p = ap (λ s. word_of s p) (x.each_lane k ink).shape

  fit : SightFits o.shape (cells_of o.shape mem) (settled_words o g) (Flies (ghost_of g) k) (ghost_of g) k (sight_of (views k))
  fit = x.bits.each_lane k

  abbrev words : ℕ → ℕ
  words u = mem (PoolWord u)

  abbrev put_cells : Cells
  put_cells = cells_by o.shape (put1 (λ u. mem (PoolWord u)) w n) (λ l. mem (LockWord l)) (λ c. mem (RunWord c)) (λ z. mem (ZoneWord z)) (λ z. mem (ZoneLock z)) (mem CommitCounter) (mem StopWord)

  abbrev word_cells : Cells
  word_cells = record (cells_of o.shape mem) { pool = bits_of o.shape (put1 (λ u. mem (PoolWord u)) w n); generation = put_cells.generation; seal = put_cells.seal; entry = put_cells.entry; slot = put_cells.slot }

  same_here : (p : Place) → is_place o.shape p ≡ true → word_of o.shape p ≡ w → cell p ≡ cell p₀
  same_here p t e = one_cell o.shape p p₀ t inside (e ∙ sym word)

  same_picture : (p : Place) (c : ℕ) → word_of o.shape p ≢ w → picture (views k).fixed.shape (Knows w n ∷ (views k).claims) p c ≡ picture (views k).fixed.shape (views k).claims p c
  same_picture p c ne = ap (λ y. cond (is_pictured p) (option_map (λ z. bit_at z c == 1) y) None) (cond-false (w == word_of (views k).fixed.shape p) (Some n) (pictured (views k).fixed.shape (views k).claims (word_of (views k).fixed.shape p)) (ne_eqb w (word_of (views k).fixed.shape p) (λ q. ne (sym (q ∙ word_in p)))))

  places : (p : Place) → (p ≡ p₀) ⊎ ((p ≡ twin p₀) ⊎ ((c : ℕ) → (bits_of o.shape (put1 (λ u. mem (PoolWord u)) w n) (cell p) c ≡ bits_of o.shape (λ u. mem (PoolWord u)) (cell p) c) × (picture (views k).fixed.shape (Knows w n ∷ (views k).claims) p c ≡ picture (views k).fixed.shape (views k).claims p c)))
  places p = ⊎_elim (λ (e : word_of o.shape p ≡ w). ⊎_elim (λ (t : is_place o.shape p ≡ true). ⊎_elim (λ (q : p ≡ p₀). inl q) (λ (q : p ≡ twin p₀). inr (inl q)) (two_uses p p₀ a.data_ (same_here p t e)))
      (λ (t : is_place o.shape p ≡ false). let z = not_pictured o.shape p (subst (λ y. y < words_of o.shape) (sym e) low) t in inr (inr (λ c. (
        no_bits o.shape (put1 (λ u. mem (PoolWord u)) w n) p c t ∙ sym (no_bits o.shape (λ u. mem (PoolWord u)) p c t),
        cond-false (is_pictured p) (option_map (λ y. bit_at y c == 1) (pictured (views k).fixed.shape (Knows w n ∷ (views k).claims) (word_of (views k).fixed.shape p))) None z ∙ sym (cond-false (is_pictured p) (option_map (λ y. bit_at y c == 1) (pictured (views k).fixed.shape (views k).claims (word_of (views k).fixed.shape p))) None z),
      )))) (cases_Bool (is_place o.shape p)))
      (λ (ne : word_of o.shape p ≢ w). inr (inr (λ c. (bits_else o.shape (λ u. mem (PoolWord u)) w n p c ne, same_picture p c ne)))) (cases_eq (word_of o.shape p) w)

  descr_same : (c : ℕ) → descriptor_told o.shape (put1 (λ u. mem (PoolWord u)) w n) c ≡ descriptor_told o.shape (λ u. mem (PoolWord u)) c
  descr_same c = ⊎_elim (λ (e : word_of o.shape (Descr c) ≡ w). ⊎_elim (λ (t : is_place o.shape (Descr c) ≡ true). absurd (descr_no_data c p₀ a.data_ (same_here (Descr c) t e)))
      (λ (t : is_place o.shape (Descr c) ≡ false). cond-false (is_place o.shape (Descr c)) (run_told (put1 (λ u. mem (PoolWord u)) w n (word_of o.shape (Descr c)))) 0 t ∙ sym (cond-false (is_place o.shape (Descr c)) (run_told (mem (PoolWord (word_of o.shape (Descr c))))) 0 t)) (cases_Bool (is_place o.shape (Descr c))))
      (λ (ne : word_of o.shape (Descr c) ≢ w). descriptor_else o.shape (λ u. mem (PoolWord u)) w n c ne) (cases_eq (word_of o.shape (Descr c)) w)

  cells_word : cells_of o.shape new ≡ word_cells
  cells_word = cells_stored o.shape mem new w n b ∙ (λ j. record word_cells { descr = λ c. descr_same c j })

  -- the lane does not own the other use
  other_use : (c : ℕ) → owns g.geo (settled_words o g) (sight_of (views k)).hold (twin p₀) c ≡ false
  other_use c = false_from_ne_true (owns g.geo (settled_words o g) (sight_of (views k)).hold (twin p₀) c) (λ t. go p₀ a.data_ a.plain (a.own_ c) t)
    where
      run_or : (d i : ℕ) → own (sight_of (views k)).hold (Small d i) ≡ true → own (sight_of (views k)).hold (Big (g.geo.first d)) ≡ true → (sight_of (views k)).hold.making d ≡ false → ⊥
      run_or d i s h e = ⊎_elim (λ (q : g.runs d ≡ true). both_ways (g.runs d) (no_run o.shape (cells_of o.shape mem) (settled_words o g) (Flies (ghost_of g) k) (ghost_of g) x.bits.geo k (sight_of (views k)) fit d h) q) (λ (q : (sight_of (views k)).hold.making d ≡ true). both_ways ((sight_of (views k)).hold.making d) e q)
          (small_cases o.shape (cells_of o.shape mem) (settled_words o g) (Flies (ghost_of g) k) (ghost_of g) x.bits.geo k (sight_of (views k)) fit d i s)

      go : (p : Place) → is_data p ≡ true → is_in_making (sight_of (views k)).hold p ≡ false → owns g.geo (settled_words o g) (sight_of (views k)).hold p c ≡ true → owns g.geo (settled_words o g) (sight_of (views k)).hold (twin p) c ≡ true → ⊥
      go (InRun d u) t e s h = run_or d (Rattle.pm_view.specs.Places.part (g.geo.class d) u c) s h e
      go (InHuge d u) t e h s = run_or d (Rattle.pm_view.specs.Places.part (g.geo.class d) u c) s h e
      go (Descr d) t e s h = both_ways false refl t
      go RootWord t e s h = both_ways false refl t

  own_words : OwnWords (settled_words o g) (ghost_of g) (sight_of (views k)).hold (cells_of o.shape mem) (cells_of o.shape new)
  own_words = subst (OwnWords (settled_words o g) (ghost_of g) (sight_of (views k)).hold (cells_of o.shape mem)) (sym cells_word) record {
    pool = λ p c u v. ⊎_elim (λ (e : p ≡ p₀). absurd (both_ways (owns g.geo (settled_words o g) (sight_of (views k)).hold p c) u (subst (λ q. owns g.geo (settled_words o g) (sight_of (views k)).hold q c ≡ true) (sym e) (a.own_ c))))
        (λ (q : (p ≡ twin p₀) ⊎ ((c : ℕ) → (bits_of o.shape (put1 (λ u. mem (PoolWord u)) w n) (cell p) c ≡ bits_of o.shape (λ u. mem (PoolWord u)) (cell p) c) × (picture (views k).fixed.shape (Knows w n ∷ (views k).claims) p c ≡ picture (views k).fixed.shape (views k).claims p c))).
        ⊎_elim (λ (e : p ≡ twin p₀). absurd (both_ways (owns g.geo (settled_words o g) (sight_of (views k)).hold (twin p) c) v (subst (λ q. owns g.geo (settled_words o g) (sight_of (views k)).hold q c ≡ true) (sym (ap twin e ∙ twin_twin p₀)) (a.own_ c))))
        (λ (z : (c : ℕ) → (bits_of o.shape (put1 (λ u. mem (PoolWord u)) w n) (cell p) c ≡ bits_of o.shape (λ u. mem (PoolWord u)) (cell p) c) × (picture (views k).fixed.shape (Knows w n ∷ (views k).claims) p c ≡ picture (views k).fixed.shape (views k).claims p c)). (z c).0) q) (places p);
    descr = λ c. refl;
    writer = λ l j. refl;
    reader = λ l j. refl;
    occ = λ q. refl;
    counter = refl;
  }

  bits_here : (c : ℕ) → bits_of o.shape (put1 (λ u. mem (PoolWord u)) w n) (cell p₀) c ≡ bit n c
  bits_here c = go p₀ a.data_ inside word
    where
      value : (q : ℕ) → q ≡ w → (t : Bool) → t ≡ true → (t && bit (put1 (λ u. mem (PoolWord u)) w n q) c) ≡ bit n c
      value q e t s = ap (λ y. y && bit (put1 (λ u. mem (PoolWord u)) w n q) c) s ∙ ap (λ y. bit y c) (ap (put1 (λ u. mem (PoolWord u)) w n) e ∙ put1_here (λ u. mem (PoolWord u)) w n)

      go : (p : Place) → is_data p ≡ true → is_place o.shape p ≡ true → word_of o.shape p ≡ w → bits_of o.shape (put1 (λ u. mem (PoolWord u)) w n) (cell p) c ≡ bit n c
      go (InRun d u) t s e = value (word_of o.shape (InRun d u)) e (is_place o.shape (InRun d u)) s
      go (InHuge d u) t s e = value (word_of o.shape (InRun d u)) e (is_place o.shape (InRun d u)) s
      go (Descr d) t s e = absurd (both_ways false refl t)
      go RootWord t s e = absurd (both_ways false refl t)

  no_turn : (B : Block) → turn (latest (redos (views k).log.entries)) B ≡ None
  no_turn (Small c i) = ap (λ y. latest (redos y) (InRun c 0) i) a.unentered
  no_turn (Big c) = ap (λ y. latest (redos y) (Descr c) 1) a.unentered
  no_turn Root = refl

  recorded_own : (p : Place) (c : ℕ) → is_recorded (views k).log.records p ≡ true → owns g.geo (settled_words o g) (sight_of (views k)).hold p c ≡ true
  recorded_own p c e = go (old_of (views k).log.records p) refl e
    where
      go : (y : Option ℕ) → old_of (views k).log.records p ≡ y → given y ≡ true → owns g.geo (settled_words o g) (sight_of (views k)).hold p c ≡ true
      go None q e = absurd (both_ways false refl e)
      go (Some y) q e = ((x.each_lane k ink).log.olds p y q c).0

  dirty : (p : Place) (c : ℕ) → Rattle.pm_world.specs.Sights.is_soiled (views k).fixed.shape (sight_of (views k)).hold (undrained_by (views k) w ∷ (views k).changes) p c ≡ true → (p ≡ p₀) ⊎ ((sight_of (views k)).soiled p c ≡ true)
  dirty p c t = let old = is_dirty_bit (views k).changes (word_of (views k).fixed.shape p) c in let now = (w == word_of (views k).fixed.shape p) && (bit_at all_bits c == 1) in let y = and_parts (is_use (sight_of (views k)).hold p) (now || old) t in
      ⊎_elim (λ (q : now ≡ true). let e = sym (eqb-true w (word_of (views k).fixed.shape p) (and_parts (w == word_of (views k).fixed.shape p) (bit_at all_bits c == 1) q).0 ∙ word_in p) in
      ⊎_elim (λ (r : p ≡ p₀). inl r) (λ (r : p ≡ twin p₀). absurd (other_unused (sight_of (views k)).hold p₀ a.data_ a.at.use_ (subst (λ s. is_use (sight_of (views k)).hold s ≡ true) r y.0)))
      (two_uses p p₀ a.data_ (same_here p (used_place o.shape (sight_of (views k)).hold p (subst (λ z. z < words_of o.shape) (sym e) low) y.0) e)))
      (λ (q : old ≡ true). inr (and_from (is_use (sight_of (views k)).hold p) old y.0 q)) (or_cases now old y.1)

  -- ---- the log is as it was
  area_else : (u i : ℕ) → u ≡ word_of_generation o.shape k + i → i < 1024 → put1 (λ u. mem (PoolWord u)) w n u ≡ mem (PoolWord u)
  area_else u i e l = put1_else (λ u. mem (PoolWord u)) w n u (λ q. area_apart o.shape k i u (let r = x.most_lanes in omega arith) l e p₀ (q ∙ sym word))

  above : 528 + 1024 * o.shape.lanes ≤ w
  above = go p₀ a.data_ word
    where
      go : (p : Place) → is_data p ≡ true → word_of o.shape p ≡ w → 528 + 1024 * o.shape.lanes ≤ w
      go (InRun d u) t e = omega arith
      go (InHuge d u) t e = omega arith
      go (Descr d) t e = absurd (both_ways false refl t)
      go RootWord t e = absurd (both_ways false refl t)

  slot_else : (j y : ℕ) → j < 64 → y < 8 → put1 (λ u. mem (PoolWord u)) w n (8 * line_of_slot o.shape k j + y) ≡ mem (PoolWord (8 * line_of_slot o.shape k j + y))
  slot_else j y r s = area_else (8 * line_of_slot o.shape k j + y) (136 + 8 * j + y) (omega arith) (omega arith)

  entry_else : (j y : ℕ) → j ≤ 64 → y < 2 → put1 (λ u. mem (PoolWord u)) w n (word_of_entry o.shape k j + y) ≡ mem (PoolWord (word_of_entry o.shape k j + y))
  entry_else j y r s = area_else (word_of_entry o.shape k j + y) (8 + 2 * j + y) (omega arith) (omega arith)

  slots : (j : ℕ) → j < 64 → slot_list (λ y. put1 (λ u. mem (PoolWord u)) w n (8 * line_of_slot o.shape k j + y)) ≡ slot_list ((cells_of o.shape mem).slot k j)
  slots j r = λ t. slot_else j 0 r (omega arith) t ∷ slot_else j 1 r (omega arith) t ∷ slot_else j 2 r (omega arith) t ∷ slot_else j 3 r (omega arith) t ∷ slot_else j 4 r (omega arith) t ∷ slot_else j 5 r (omega arith) t ∷ slot_else j 6 r (omega arith) t ∷ slot_else j 7 r (omega arith) t ∷ []

  abbrev LogNow : Phase → Diff → Type 0
  LogNow ph d = LogFits o.shape k (put_cells.generation k) (put_cells.seal k) (put_cells.entry k) (put_cells.slot k) (settled_words o g) (owns g.geo (settled_words o g) (sight_of (views k)).hold) d (record (views k).log { phase = ph }) (undrained_by (views k) w ∷ (views k).changes)

  -- THE WORLD, where the lane's call is at this point
  module _ (ph : Phase) (at_ph : (views k).log.phase ≡ ph) (early : is_decided ph ≡ false) (before : in_flight ph ≡ false) (soils_ : (p : Place) (mi lg : Bool) (en : Option Bool) → soils ph p mi lg en ≡ open_soils p mi lg) (flight : (d : Diff) → FlightFits (Flies (ghost_of g) k) ph d)
      (phase : (d : Diff) → Rattle.pm_world.specs.Logs.PhaseFits o.shape k d (record (views k).log { phase = ph }) (undrained_by (views k) w ∷ (views k).changes) ph) (short : (length (views k).log.slot < 8) × (length (views k).log.pair < 2))
      (change : AreaChange ph (length (views k).log.entries) (views k).log.generation (part_of o.shape k w) (undrained_by (views k) w)) where
    abbrev OldLog : Log → Type 0
    OldLog log = LogFits o.shape k ((cells_of o.shape mem).generation k) ((cells_of o.shape mem).seal k) ((cells_of o.shape mem).entry k) ((cells_of o.shape mem).slot k) (settled_words o g) (owns g.geo (settled_words o g) (sight_of (views k)).hold) (sight_of (views k)).picture log (views k).changes

    l : OldLog (record (views k).log { phase = ph })
    l = subst (λ z. OldLog (record (views k).log { phase = z })) at_ph (x.each_lane k ink).log

    log_now : (d : Diff) → LogNow ph d
    log_now d = record {
      first = l.first;
      last = l.last;
      below = l.below;
      stored = area_else (word_of_generation o.shape k) 0 (omega arith) (omega arith) ∙ l.stored;
      bump = l.bump;
      sealed = area_else (word_of_seal o.shape k) 1 (omega arith) (omega arith) ∙ l.sealed;
      entries_most = l.entries_most;
      records_most = l.records_most;
      pairs = λ j e q. let t = l.pairs j e q in let r = Rattle.std.proofs.lemmas.Option.slice_get_within (views k).log.entries j e q in let u = l.entries_most in (entry_else j 0 (omega arith) (omega arith) ∙ t.0, entry_else j 1 (omega arith) (omega arith) ∙ t.1, t.2, t.3);
      pair_part = λ j q. let s = short.1 in entry_else (length (views k).log.entries) j l.entries_most (omega arith) ∙ l.pair_part j q;
      records = λ j r q. let t = l.records j r q in let z = Rattle.std.proofs.lemmas.Option.slice_get_within (views k).log.records j r q in let u = l.records_most in (λ y s. slot_else j y (omega arith) s ∙ t.0 y s, t.1, t.2, t.3, t.4, t.5);
      once = l.once;
      olds = l.olds;
      slot_part = λ j q. let s = short.0 in let u = Rattle.pm_world.proofs.Worlds.slot_taken (views k).log j q in let r = l.records_most in slot_else (length (views k).log.records) j (omega arith) (omega arith) ∙ l.slot_part j q;
      stale = λ j u q z t. l.stale j u q z (sym (ap undo_of (slots j z)) ∙ t);
      slot_changes = all_cons (λ (c : Undrained). part_of o.shape k c.word ≡ Rattle.pm_view.specs.Parts.SlotPart → c.word < 8 * line_of_slot o.shape k (Rattle.pm_world.specs.Logs.used_slots ((views k).log))) (undrained_by (views k) w) (views k).changes (λ e. absurd (let r = slot_range o.shape k w e in let m = x.most_lanes in let up = above in omega arith)) l.slot_changes;
      area_changes = all_cons (λ (c : Undrained). AreaChange ph (length (views k).log.entries) (views k).log.generation (part_of o.shape k c.word) c) (undrained_by (views k) w) (views k).changes change l.area_changes;
      phase = phase d;
    }

    writes : Writes (settled_words o g) (ghost_of g) (views k) ph w n p₀ (cells_of o.shape mem).pool (bits_of o.shape (put1 (λ u. mem (PoolWord u)) w n))
    writes = record { data_ = a.data_; seen = data_pictured o.shape p₀ a.data_ inside; at = sym a.at.word; here = bits_here; own = a.own_; other_use = other_use; plain = a.plain; quiet = a.quiet; soil = λ c. soil_from p₀ ((sight_of (views k)).hold.mine (block_of g.geo p₀ c)) ((sight_of (views k)).logged p₀) a.data_ (a.soil c); no_turn = no_turn; recorded = recorded_own; places = places; dirty = dirty; early = early; before = before; soils_ = soils_ }

    no_slot_line : (j : ℕ) → j < 0 + length (views k).log.records → w / 8 ≢ line_of_slot (views k).fixed.shape (views k).fixed.lane j
    no_slot_line j r q = let e = (x.each_lane k ink).lane in let u = l.records_most in let z = above in let y = x.most_lanes in omega arith

    word_world : Turn views views' k (after_store (views k) w n (views k).log) → World o new views' g
    word_world t = let f = at_phase o.shape o.lanes (origin o) (cells_of o.shape mem) (λ j. sight_of (views j)) (ghost_of g) x.bits k ink ph at_ph in
        let s = written_fits o.shape (cells_of o.shape mem) (settled_words o g) (Flies (ghost_of g) k) (ghost_of g) k (views k) ph w n p₀ (bits_of o.shape (put1 (λ u. mem (PoolWord u)) w n)) put_cells.generation put_cells.seal put_cells.entry put_cells.slot f writes flight in
        store_world o mem new views views' g x k ink w n m due b (views k).log (let z = above in omega arith) (λ j h r ne y q. area_apart o.shape j h w r y q p₀ (sym word)) own_words (λ j y. y)
        (subst (λ c. SightFits o.shape c (settled_words o g) (Flies (ghost_of g) k) (ghost_of g) k (sight_of (after_store (views k) w n (views k).log))) (sym cells_word)
        (subst (λ z. SightFits o.shape word_cells (settled_words o g) (Flies (ghost_of g) k) (ghost_of g) k (record (sight_of (after_store (views k) w n (views k).log)) { phase = z })) (sym at_ph)
        (subst (λ z. SightFits o.shape word_cells (settled_words o g) (Flies (ghost_of g) k) (ghost_of g) k (record (sight_of (after_store (views k) w n (views k).log)) { phase = ph; logged = z }))
        (λ i p. sym (logged_else (views k).fixed.shape (views k).fixed.lane (undrained_by (views k) w) (views k).changes 0 (views k).log.records p no_slot_line) i) s)))
        (subst (λ c. LogFits o.shape k (c.generation k) (c.seal k) (c.entry k) (c.slot k) (settled_words o g) (owns g.geo (settled_words o g) (sight_of (views k)).hold) (sight_of (after_store (views k) w n (views k).log)).picture (views k).log (undrained_by (views k) w ∷ (views k).changes)) (sym cells_word)
        (subst (λ z. LogNow z (sight_of (after_store (views k) w n (views k).log)).picture) (sym at_ph) (log_now (sight_of (after_store (views k) w n (views k).log)).picture))) (x.each_lane k ink).number (x.each_lane k ink).made (x.each_lane k ink).recorded t

-- ---- the two kinds
data_given : (t : Bool) (made : Bool) (y : Option Bool) → given (cond (t && made) y None) ≡ true → t ≡ true
data_given true made y e = refl
data_given false made y e = e

module _ (w : ℕ) (o : Opening) (mem : Memory) (views : Views) (g : Past) (k : ℕ) (x : World o mem views g) (ink : k < o.lanes) where
  to_write : is_decided (views k).log.phase ≡ false → MayWrite (views k) w → (p₀ : Place) × Target o g (views k) w p₀
  to_write u a = let f = x.bits.each_lane k in let p = a.place in (
    a.place,
    record {
      at = is_at (views k).fixed.shape (class (views k).claims) w a.place a.at;
      data_ = data_given (is_data a.place) (Rattle.pm_world.specs.Sights.is_made (turn (latest (redos (views k).log.entries)) (block_of (geometry (views k).fixed.shape (views k).claims) a.place 0)) || is_recorded (views k).log.records a.place) ((sight_of (views k)).picture a.place 0) (f.stored a.place 0 u a.logged);
      own_ = λ c. (f.logged a.place c u a.logged).0;
      plain = (f.logged a.place 0 u a.logged).1;
      quiet = inl a.logged;
      soil = λ c. or_right ((sight_of (views k)).hold.mine (block_of g.geo a.place c)) ((sight_of (views k)).logged a.place) a.logged;
      unentered = a.unentered;
    },
  )

  to_fill : is_decided (views k).log.phase ≡ false → SightFits o.shape (cells_of o.shape mem) (settled_words o g) (Flies (ghost_of g) k) (ghost_of g) k (record (sight_of (views k)) { phase = Open }) → MayFill (views k) w → (p₀ : Place) × Target o g (views k) w p₀
  to_fill u f a = let at = is_at (views k).fixed.shape (class (views k).claims) w a.place a.at in let B = block_of (geometry (views k).fixed.shape (views k).claims) a.place 64 in
      let same = block_known o.shape (cells_of o.shape mem) (settled_words o g) (Flies (ghost_of g) k) (ghost_of g) x.bits.geo k (views k) f a.place 64 (own_has (sight_of (views k)).hold B (mine_own (sight_of (views k)).hold B a.own)) in
      let mine : (c : ℕ) → (sight_of (views k)).hold.mine (block_of g.geo a.place c) ≡ true = λ c. subst (λ C. (sight_of (views k)).hold.mine C ≡ true) (same ∙ sym (data_bit g.geo a.place c a.plain)) a.own in (
        a.place,
        record {
          at = at;
          data_ = a.plain;
          own_ = λ c. Rattle.pm_world.proofs.EntryBits.data_owned o.shape (cells_of o.shape mem) (settled_words o g) (Flies (ghost_of g) k) (ghost_of g) x.bits.geo k (views k) f (Rattle.pm_world.proofs.StoreEntry.root_owned o mem views g x k ink) a.place c a.plain (mine_own (sight_of (views k)).hold B a.own);
          plain = plain_of a.place a.plain at.use_ a.own;
          quiet = inr (dead (settled_words o g) (ghost_of g) a.place 0 a.plain (f.hold.mine (block_of g.geo a.place 0) (mine 0)).2, own_unrecorded o mem views g x k ink u a.place 0 (mine 0));
          soil = λ c. or_left ((sight_of (views k)).hold.mine (block_of g.geo a.place c)) ((sight_of (views k)).logged a.place) (mine c);
          unentered = a.unentered;
        },
      )
    where
      plain_of : (p : Place) → is_data p ≡ true → HasUse (class (views k).claims) p → (sight_of (views k)).hold.mine (block_of (geometry (views k).fixed.shape (views k).claims) p 64) ≡ true → is_in_making (sight_of (views k)).hold p ≡ false
      plain_of (InRun c u) d e t = run_plain o.shape (cells_of o.shape mem) (settled_words o g) (Flies (ghost_of g) k) (ghost_of g) x.bits.geo k (views k) f (Rattle.pm_world.proofs.StoreEntry.root_owned o mem views g x k ink) c (Rattle.pm_view.specs.Places.part (class (views k).claims c) u 64) t
      plain_of (InHuge c u) d e t = huge_plain o.shape (cells_of o.shape mem) (settled_words o g) (Flies (ghost_of g) k) (ghost_of g) x.bits.geo k (views k) f (Rattle.pm_world.proofs.StoreEntry.root_owned o mem views g x k ink) c e
      plain_of (Descr c) d e t = absurd (both_ways false refl d)
      plain_of RootWord d e t = absurd (both_ways false refl d)

-- a lane between calls has changed no block
idle_open : (sh : Shape) (cells : Cells) (S : State) (flies : ℕ → Diff → Type 0) (g : Ghost) (k : ℕ) (v : View) → SightFits sh cells S flies g k (record (sight_of v) { phase = Idle }) → SightFits sh cells S flies g k (record (sight_of v) { phase = Open })
idle_open sh cells S flies g k v f = record {
  hold = f.hold;
  bits = f.bits;
  picture = f.picture;
  turns = λ B. subst (TurnBefore ((sight_of v).hold.locked (Rattle.pm_view.specs.Places.header sh g.geo B)) ((sight_of v).hold.mine B) ((sight_of v).hold.here B)) (sym (f.turns B)) tt;
  call = record { flight = tt; todo = f.call.todo; descr = f.call.descr };
  reach = f.reach;
  plain = f.plain;
  logged = f.logged;
  stored = f.stored;
  fresh = f.fresh;
  sizes = f.sizes;
  born = λ y. absurd (both_ways false refl y);
  guarded = λ y. absurd (both_ways false refl y);
  soiled = f.soiled;
}

module _ (w n : ℕ) (o : Opening) (mem new : Memory) (views views' : Views) (g : Past) (k : ℕ) (x : World o mem views g) (ink : k < o.lanes) (m : MayStore (views k) w n) (due : MayCount (views k)) (c i : ℕ) (p : part_in (views k) w ≡ ChunkPart c i) (b : Becomes (PoolWord w) n mem new) (t : Turn views views' k (after_store (views k) w n (views k).log)) where
  part_at : part_of o.shape k w ≡ ChunkPart c i
  part_at = subst (λ y. part_of o.shape y w ≡ ChunkPart c i) (x.each_lane k ink).lane (subst (λ s. part_of s (views k).fixed.lane w ≡ ChunkPart c i) (x.each_lane k ink).shape p)

  abbrev Short : Phase → Type 0
  Short ph = Rattle.pm_world.specs.Logs.PhaseFits o.shape k (sight_of (views k)).picture (record (views k).log { phase = ph }) (views k).changes ph

  short : (length (views k).log.slot < 8) × (length (views k).log.pair < 2)
  short = Rattle.pm_world.proofs.Worlds.parts_short o.shape k (sight_of (views k)).picture (views k).log (views k).changes (views k).log.phase (x.each_lane k ink).log.phase

  open_word : (views k).log.phase ≡ Open → (p₀ : Place) × Target o g (views k) w p₀ → World o new views' g
  open_word e a = let l = short in word_world w n o mem new views views' g k x ink m due b a.0 a.1 Open e refl refl (λ q mi lg en. refl) (λ d. tt) (λ d. (l.0, l.1)) l
      (subst (λ q. AreaChange Open (length (views k).log.entries) (views k).log.generation q (undrained_by (views k) w)) (sym part_at) tt) t

  idle_word : (views k).log.phase ≡ Idle → (p₀ : Place) × Target o g (views k) w p₀ → World o new views' g
  idle_word e a = let l : Short Idle = subst (λ z. Short z) e (x.each_lane k ink).log.phase in word_world w n o mem new views views' g k x ink m due b a.0 a.1 Idle e refl refl (λ q mi lg en. refl) (λ d. tt) (λ d. (l.0, l.1, l.2, l.3)) short
      (subst (λ q. AreaChange Idle (length (views k).log.entries) (views k).log.generation q (undrained_by (views k) w)) (sym part_at) tt) t

  sight_in : (ph : Phase) → (views k).log.phase ≡ ph → SightFits o.shape (cells_of o.shape mem) (settled_words o g) (Flies (ghost_of g) k) (ghost_of g) k (record (sight_of (views k)) { phase = ph })
  sight_in ph e = at_phase o.shape o.lanes (origin o) (cells_of o.shape mem) (λ j. sight_of (views j)) (ghost_of g) x.bits k ink ph e

  open_store : (views k).log.phase ≡ Open → MayWrite (views k) w ⊎ MayFill (views k) w → World o new views' g
  open_store e a = open_word e (⊎_elim (λ (q : MayWrite (views k) w). to_write w o mem views g k x ink (ap is_decided e) q) (λ (q : MayFill (views k) w). to_fill w o mem views g k x ink (ap is_decided e) (sight_in Open e) q) a)

  idle_store : (views k).log.phase ≡ Idle → MayFill (views k) w → World o new views' g
  idle_store e a = idle_word e (to_fill w o mem views g k x ink (ap is_decided e) (idle_open o.shape (cells_of o.shape mem) (settled_words o g) (Flies (ghost_of g) k) (ghost_of g) k (views k) (sight_in Idle e)) a)

-- A USER WORD KEEPS THE WORLD, of an open call and between calls
pub store_word : (c i : ℕ) → KeepsAt Open (ChunkPart c i)
store_word c i = keeps_at Open (ChunkPart c i) (λ w n o mem new views views' g k x ink m due a e p b t. open_store w n o mem new views views' g k x ink m due c i p b t e a)

pub fill_word : (c i : ℕ) → KeepsAt Idle (ChunkPart c i)
fill_word c i = keeps_at Idle (ChunkPart c i) (λ w n o mem new views views' g k x ink m due a e p b t. idle_store w n o mem new views views' g k x ink m due c i p b t e a)
