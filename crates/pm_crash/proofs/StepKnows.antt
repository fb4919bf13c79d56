-- WHAT A LANE KNOWS OF WORDS of blocks that it found: which steps leave it, and that a load finds it.
use Rattle.std.proofs.Common.{◌≡◌, ◌≢◌, ◌⊎◌, inl, inr, ⊎_elim, ℕ, zero, suc, ◌+◌, ◌-◌, ◌*◌, ◌/◌, ◌%◌, ◌<◌, ◌≤◌, ◌==◌, ◌&&◌, ◌||◌, nat_le, nat_lt, not, Bool, true, false, cond, List, [], ◌∷◌, ◌++◌, length, take, Option, None, Some, refl, sym, ap, ◌∙◌, subst, arith, ne_eqb}
use Rattle.std.specs.Prelude.{unwrap_or}
use Rattle.std.specs.Option.{option_map}
use Rattle.std.proofs.lemmas.Bool.{and_from, and_parts, both_ways, cases_lt, cond-false, cond-true, eqb-true, false_from_ne_true, leb-true, lt-ltb, ltb-true}
use Rattle.pm_layout.specs.declared.shape.Shape.{Shape}
use Rattle.pm_layout.specs.Areas.{line_of_slot, redo_entries, undo_slots, word_of_entry, word_of_generation, word_of_seal}
use Rattle.pm_layout.specs.Chunks.{chunks_of, word_of_chunk}
use Rattle.pm_view.specs.Claims.{Claim, class, first, pictured}
use Rattle.pm_view.specs.Entries.{first_of_two}
use Rattle.pm_view.specs.Founds.{knows}
use Rattle.pm_view.specs.Log.{Open, Recorded, old_in, old_of, place_at, recorded}
use Rattle.pm_view.specs.Parts.{Part, GenerationPart, SealPart, EntryPart, SlotPart, RootPart, DescriptorPart, ChunkPart, OtherPart, chunk_place, is_entry_word, is_slot_word, part_of, place_in, pool_part}
use Rattle.pm_view.specs.Places.{Place, InRun, InHuge, Descr, RootWord, Block, Small, Big, Root, in_span, is_data, is_place, part, place_after, word_of}
use Rattle.pm_view.specs.View.{View}
use Rattle.pm_view.specs.Views.{part_in}
use Rattle.pm_world.specs.States.{State, given, read, shown, spans, there, val}
use Rattle.pm_world.specs.Sights.{is_pictured, is_recorded, picture, sight_of}
use Rattle.pm_world.specs.Lanes.{Flies, SightFits, has, is_decided, own}
use Rattle.pm_world.specs.Lawful.{AppendsToSlot, MayFill, MayStore, MayWrite, StoreFits, block_in}
use Rattle.pm_world.specs.Logs.{spelled}
use Rattle.pm_world.specs.Memory.{Memory, PoolWord, bit, cells_of}
use Rattle.pm_world.specs.World.{Opening, Views, Past, World, ghost_of, settled_words}
use Rattle.pm_world.proofs.BlocksKnown.{first_so}
use Rattle.pm_world.proofs.Frame.{found_has}
use Rattle.pm_world.proofs.Recording.{old_cases, old_in_at, old_in_is, place_is}
use Rattle.pm_world.proofs.WordPlaces.{chunk_part, no_part}
use Rattle.pm_crash.specs.Footprints.{bit_before, has_found, has_own, kept_bits}
use Rattle.pm_crash.specs.Sim.{sees_at}
use Rattle.pm_crash.proofs.Precede as precede
use Rattle.pm_crash.proofs.RootClaims.{root_part}
use Rattle.pm_crash.proofs.Simulation.{sees_so}

-- ---- PICTURES

-- a word that is known alike is pictured alike
pub pictured_alike : (sh : Shape) (t t' : List Claim) (p : Place) (b : ℕ) → pictured sh t' (word_of sh p) ≡ pictured sh t (word_of sh p) → picture sh t' p b ≡ picture sh t p b
pictured_alike sh t t' p b e = ap (λ z. cond (is_pictured p) (option_map (λ y. bit y b) z) None) e

-- only some places are
pub of_pictured : (sh : Shape) (t : List Claim) (p : Place) (b : ℕ) (y : Bool) → picture sh t p b ≡ Some y
    → (is_pictured p ≡ true) × (option_map (λ z. bit z b) (pictured sh t (word_of sh p)) ≡ Some y)
of_pictured sh t p b y e = by (is_pictured p) refl
  where
    by : (q : Bool) → is_pictured p ≡ q → (is_pictured p ≡ true) × (option_map (λ z. bit z b) (pictured sh t (word_of sh p)) ≡ Some y)
    by true q = (q, sym (cond-true (is_pictured p) (option_map (λ z. bit z b) (pictured sh t (word_of sh p))) None q) ∙ e)
    by false q = absurd (both_ways (given (Some y)) (ap given (sym e ∙ cond-false (is_pictured p) (option_map (λ z. bit z b) (pictured sh t (word_of sh p))) None q)) refl)

pub as_pictured : (sh : Shape) (t : List Claim) (p : Place) (b : ℕ) (y : Bool) → is_pictured p ≡ true → option_map (λ z. bit z b) (pictured sh t (word_of sh p)) ≡ Some y
    → picture sh t p b ≡ Some y
as_pictured sh t p b y q e = cond-true (is_pictured p) (option_map (λ z. bit z b) (pictured sh t (word_of sh p))) None q ∙ e

-- what is known of a bit, with this recorded of its word
abbrev Before : Option ℕ → View → Place → ℕ → Option Bool
Before d w p b = first_of_two (option_map (λ n. bit n b) d) (picture w.fixed.shape w.claims p b)

-- what is known is so, where what is pictured is: records stay
pub knows_on : (v next : View) → next.log.records ≡ v.log.records
    → ((p : Place) (b : ℕ) (y : Bool) → sees_at v p b ≡ true → is_recorded v.log.records p ≡ false → picture v.fixed.shape v.claims p b ≡ Some y
    → picture next.fixed.shape next.claims p b ≡ Some y)
    → (p : Place) (b : ℕ) (y : Bool) → sees_at v p b ≡ true → bit_before v p b ≡ Some y → bit_before next p b ≡ Some y
knows_on v next same pic p b y t e = by (old_of v.log.records p) refl
  where
    by : (d : Option ℕ) → old_of v.log.records p ≡ d → bit_before next p b ≡ Some y
    by None q = ap (λ z. Before z next p b) (ap (λ rs. old_of rs p) same ∙ q)
        ∙ pic p b y t (ap given q) (sym (ap (λ z. Before z v p b) q) ∙ e)
    by (Some n) q = ap (λ z. Before z next p b) (ap (λ rs. old_of rs p) same ∙ q) ∙ (sym (ap (λ z. Before z v p b) q) ∙ e)

-- or one record more has what is pictured
more_first : (d a c : Option ℕ) (n : ℕ) → (a ≡ Some n → c ≡ Some n) → first_of_two d a ≡ Some n → first_of_two d c ≡ Some n
more_first None a c n f e = f e
more_first (Some m) a c n f e = e

old_first : (rs : List Recorded) (r : Recorded) (p : Place) (n : ℕ) → old_of rs p ≡ Some n → old_of (rs ++ r ∷ []) p ≡ Some n
old_first [] r p n e = absurd (Rattle.std.proofs.lemmas.Option.none-some n e)
old_first (q ∷ rs) r p n e = more_first (old_in q p) (old_of rs p) (old_of (rs ++ r ∷ []) p) n (λ h. old_first rs r p n h) e

pub knows_more : (v next : View) (r : Recorded) → next.log.records ≡ v.log.records ++ r ∷ []
    → ((p : Place) (b : ℕ) (y : Bool) → sees_at v p b ≡ true → is_recorded v.log.records p ≡ false → picture v.fixed.shape v.claims p b ≡ Some y
    → picture next.fixed.shape next.claims p b ≡ Some y)
    → ((p : Place) (b : ℕ) (y : Bool) (z : ℕ) → picture v.fixed.shape v.claims p b ≡ Some y → old_in r p ≡ Some z → bit z b ≡ y)
    → (p : Place) (b : ℕ) (y : Bool) → sees_at v p b ≡ true → bit_before v p b ≡ Some y → bit_before next p b ≡ Some y
knows_more v next r more pic has p b y t e = by (old_of v.log.records p) refl
  where
    also : old_of v.log.records p ≡ None → (d : Option ℕ) → old_of (v.log.records ++ r ∷ []) p ≡ d → picture v.fixed.shape v.claims p b ≡ Some y → Before d next p b ≡ Some y
    also q None s e = pic p b y t (ap given q) e
    also q (Some z) s e = ⊎_elim
        (λ (m : old_of v.log.records p ≡ Some z). absurd (Rattle.std.proofs.lemmas.Option.none-some z (sym q ∙ m)))
        (λ (m : old_in r p ≡ Some z). ap (λ n. Some n) (has p b y z e m))
        (old_cases v.log.records r p z s)

    by : (d : Option ℕ) → old_of v.log.records p ≡ d → bit_before next p b ≡ Some y
    by None q = ap (λ rs. Before (old_of rs p) next p b) more
        ∙ also q (old_of (v.log.records ++ r ∷ []) p) refl (sym (ap (λ z. Before z v p b) q) ∙ e)
    by (Some n) q = ap (λ rs. Before (old_of rs p) next p b) more
        ∙ (ap (λ z. Before z next p b) (old_first v.log.records r p n q) ∙ (sym (ap (λ z. Before z v p b) q) ∙ e))

-- ---- WORDS OF CHUNKS are no lane's own area's

pub chunk_word : (sh : Shape) (lane c u : ℕ) → lane < sh.lanes → part_of sh lane (word_of_chunk sh c + u) ≡ pool_part sh (word_of_chunk sh c + u)
chunk_word sh lane c u inside =
    let w : ℕ = word_of_chunk sh c + u in
    cond-false (w == word_of_generation sh lane) _ _ (ne_eqb w (word_of_generation sh lane) (λ q. omega arith))
    ∙ (cond-false (w == word_of_seal sh lane) _ _ (ne_eqb w (word_of_seal sh lane) (λ q. omega arith))
    ∙ (cond-false (is_entry_word sh lane w) _ _ (false_from_ne_true (is_entry_word sh lane w) (λ t.
    let z = ltb-true w (word_of_entry sh lane (redo_entries sh)) (and_parts (nat_le (word_of_entry sh lane 0) w) (nat_lt w (word_of_entry sh lane (redo_entries sh))) t).1 in omega arith))
    ∙ cond-false (is_slot_word sh lane w) _ _ (false_from_ne_true (is_slot_word sh lane w) (λ t.
    let z = ltb-true w (8 * line_of_slot sh lane (undo_slots sh)) (and_parts (nat_le (8 * line_of_slot sh lane 0) w) (nat_lt w (8 * line_of_slot sh lane (undo_slots sh))) t).1 in omega arith))))

-- a word of a chunk, or of none of the pool's parts
abbrev is_chunk : Part → Bool
is_chunk (ChunkPart c u) = true
is_chunk OtherPart = true
is_chunk RootPart = true
is_chunk part = false

-- ---- A RECORD THAT IS WHOLE

pub record_spelled : (sh : Shape) (cl : ℕ → ℕ) (generation : ℕ) (p : Place) (old : List ℕ) → place_at sh cl (word_of sh p) ≡ Some p → 1 ≤ length old → length old ≤ 4
    → recorded sh cl (take 8 (spelled sh generation (record { place = p; old = old }))) ≡ record { place = p; old = old }
record_spelled sh cl generation p old e some most = go old some most
  where
    place_same : unwrap_or (place_at sh cl (8 * word_of sh p / 8)) RootWord ≡ p
    place_same = ap (λ w. unwrap_or (place_at sh cl w) RootWord) (let q : 8 * word_of sh p / 8 ≡ word_of sh p = omega arith in q) ∙ ap (λ y. unwrap_or y RootWord) e

    go : (old : List ℕ) → 1 ≤ length old → length old ≤ 4 → recorded sh cl (take 8 (spelled sh generation (record { place = p; old = old }))) ≡ record { place = p; old = old }
    go [] some most = absurd (omega arith)
    go (a ∷ []) some most = λ i. record { place = place_same i; old = a ∷ [] }
    go (a ∷ b ∷ []) some most = λ i. record { place = place_same i; old = a ∷ b ∷ [] }
    go (a ∷ b ∷ c ∷ []) some most = λ i. record { place = place_same i; old = a ∷ b ∷ c ∷ [] }
    go (a ∷ b ∷ c ∷ d ∷ []) some most = λ i. record { place = place_same i; old = a ∷ b ∷ c ∷ d ∷ [] }
    go (a ∷ b ∷ c ∷ d ∷ y ∷ old) some most = absurd (omega arith)

-- a word of data is of one block, whichever of its bits is taken
pub data_part : (cl u b : ℕ) → 8 ≤ u → part cl u b ≡ part cl u 64
data_part cl u b l = let n : (u == 0) ≡ false = ne_eqb u 0 (λ q. omega arith) in
    cond-false (u == 0) b ((u / 8 - 1) / cl) n ∙ sym (cond-false (u == 0) 64 ((u / 8 - 1) / cl) n)

module _ (o : Opening) (mem : Memory) (views : Views) (g : Past) (x : World o mem views g) (k : ℕ) (ink : k < o.lanes) (is_open : (views k).log.phase ≡ Open) where
  abbrev v : View
  v = views k

  pub fit : (j : ℕ) → SightFits o.shape (cells_of o.shape mem) (settled_words o g) (Flies (ghost_of g) j) (ghost_of g) j (sight_of (views j))
  fit j = x.bits.each_lane j

  shape_is : (views k).fixed.shape ≡ o.shape
  shape_is = (x.each_lane k ink).shape

  pub first_is : (c : ℕ) → has_found (views k) (Big (first (views k).fixed.shape (views k).claims c)) ≡ true → first (views k).fixed.shape (views k).claims c ≡ g.geo.first c
  first_is c f = first_so o.shape (cells_of o.shape mem) (settled_words o g) (Flies (ghost_of g) k) (ghost_of g) x.bits.geo k (views k) (views k).log.phase (fit k) c
      (found_has (sight_of (views k)).hold (Big (first (views k).fixed.shape (views k).claims c)) f)

  -- a chunk of a huge block that it found is of no class
  pub huge_class : (c : ℕ) → has_found (views k) (Big (first (views k).fixed.shape (views k).claims c)) ≡ true → class (views k).claims c ≡ 0
  huge_class c f = by (class (views k).claims c) refl
    where
      stands : there (settled_words o g) (Big (g.geo.first c)) ≡ true
      stands = subst (λ n. there (settled_words o g) (Big n) ≡ true) (first_is c f) ((fit k).hold.found (Big (first (views k).fixed.shape (views k).claims c)) f).2

      made : (j : ℕ) → (sight_of (views j)).hold.making c ≡ true → ⊥
      made j m =
          let y = (fit j).hold.making c m in
          let z = (fit j).hold.mine (Big c) y.0 in
          both_ways (there (settled_words o g) (Big c)) z.2
          (subst (λ n. there (settled_words o g) (Big n) ≡ true) (eqb-true (g.geo.first c) c z.1) stands)

      by : (n : ℕ) → class (views k).claims c ≡ n → class (views k).claims c ≡ 0
      by zero e = e
      by (suc n) e = absurd (
          let d = (fit k).hold.seen c n e in
          let none : (j : ℕ) → (sight_of (views j)).hold.making c ≡ false = λ j. false_from_ne_true ((sight_of (views j)).hold.making c) (λ m. made j m) in
          let w = x.bits.descr c none ∙ cond-false (g.runs c) (g.geo.class c) 0 (x.bits.geo.huge c stands) in
          let q : suc n ≡ 0 = sym d ∙ w in omega arith)

  -- a run's block that it found is of a class
  pub run_class : (c i : ℕ) → has_found (views k) (Small c i) ≡ true → (n : ℕ) × (class (views k).claims c ≡ suc n)
  run_class c i f = by (class (views k).claims c) refl
    where
      by : (m : ℕ) → class (views k).claims c ≡ m → (n : ℕ) × (class (views k).claims c ≡ suc n)
      by zero e = absurd (
          let r = (and_parts (g.runs c) _ ((fit k).hold.found (Small c i) f).1).0 in
          let a = (x.bits.geo.classes c r).0 in
          let q : g.geo.class c ≡ 0 = sym ((fit k).hold.class c i (found_has (sight_of (views k)).hold (Small c i) f)) ∙ e in omega arith)
      by (suc n) e = (n, e)

  -- ---- PLACES THAT IT SEES are of the pool

  unrecorded : (p : Place) → is_data p ≡ false → is_recorded (views k).log.records p ≡ false
  unrecorded p d = false_from_ne_true (is_recorded (views k).log.records p) (λ t.
      both_ways (is_data p) d ((x.each_lane k ink).recorded (ap is_decided is_open) p t).0)

  settled_here : (p : Place) (b : ℕ) → Rattle.pm_world.specs.Lanes.sees g.geo (settled_words o g) (sight_of (views k)).hold p b ≡ true
      → Rattle.pm_world.specs.States.live (settled_words o g) g.geo g.runs p ≡ true → is_data p ≡ false
      → read (cells_of o.shape mem).pool p b ≡ settled_words o g p b
  settled_here p b t l d = precede.as_in_memory o mem views g x k ink is_open g.decided (λ n l e. e) p b t l (unrecorded p d)

  pub inside : (p : Place) (b : ℕ) → sees_at (views k) p b ≡ true → is_pictured p ≡ true → is_place o.shape p ≡ true
  inside (InRun c u) b t q =
      let i : ℕ = part (class (views k).claims c) u b in
      let f = (fit k).hold.found (Small c i) t in
      let r = (and_parts (g.runs c) _ f.1).0 in
      let e = settled_here (InRun c 0) i t (and_from (g.runs c) (shown (settled_words o g) (g.geo.class c) c 0) r refl) refl in
      let a = and_parts (is_place o.shape (InRun c 0)) _ (e ∙ f.2) in
      and_from (nat_lt c (chunks_of o.shape)) (nat_lt u 512) (and_parts (nat_lt c (chunks_of o.shape)) (nat_lt 0 512) a.0).0
      (and_parts (is_data (InRun c u)) (nat_lt u 512) q).1
  inside (InHuge c u) b t q =
      let f : ℕ = first (views k).fixed.shape (views k).claims c in
      let s = (fit k).hold.found (Big f) t in
      let e = settled_here (Descr f) 1 (subst (λ n. has_found (views k) (Big n) ≡ true) (sym (eqb-true (g.geo.first f) f s.1)) t) refl refl in
      let a = ltb-true f (chunks_of o.shape) (and_parts (is_place o.shape (Descr f)) _ (e ∙ s.2)).0 in
      let n : ℕ = val (settled_words o g (Descr f)) 8 56 in
      let z = sym (x.bits.geo.shape f s.2 c) ∙ Rattle.std.proofs.Common.eq-eqb (g.geo.first c) f (sym (first_is c t)) in
      let y = and_parts (nat_le f c) (nat_lt c (f + n)) z in
      let low = leb-true f c y.0 in let high = ltb-true c (f + n) y.1 in
      let room = x.bits.geo.in_zone f s.2 in
      and_from (nat_lt c (chunks_of o.shape)) (nat_lt u 512) (lt-ltb c (chunks_of o.shape) (omega arith)) q
  inside (Descr c) b t q = absurd (both_ways false refl q)
  inside RootWord b t q = refl

  -- A LOAD FINDS what it knows of a bit that it sees
  pub load_finds : (w : ℕ) (p : Place) (b : ℕ) (y : Bool) → sees_at (views k) p b ≡ true → word_of (views k).fixed.shape p ≡ w
      → picture (views k).fixed.shape (views k).claims p b ≡ Some y → bit (mem (PoolWord w)) b ≡ y
  load_finds w p b y t at e =
      let q = (of_pictured (views k).fixed.shape (views k).claims p b y e).0 in
      let s = precede.sees_real o mem views g x k ink is_open g.decided (λ n l e. e) p b (sees_so (views k) (kept_bits o g g.decided g.length) p b ∙ t) in
      let m = (fit k).picture p b s y e in
      sym (ap (λ i. bit (mem (PoolWord i)) b) (ap (λ sh. word_of sh p) (sym shape_is) ∙ at)) ∙ (sym (in_memory p q (inside p b t q)) ∙ m)
    where
      in_memory : (p : Place) → is_pictured p ≡ true → is_place o.shape p ≡ true → read (cells_of o.shape mem).pool p b ≡ bit (mem (PoolWord (word_of o.shape p))) b
      in_memory (InRun c u) q i = ap (λ a. a && bit (mem (PoolWord (word_of o.shape (InRun c u)))) b) i
      in_memory (InHuge c u) q i = ap (λ a. a && bit (mem (PoolWord (word_of o.shape (InHuge c u)))) b) i
      in_memory (Descr c) q i = absurd (both_ways false refl q)
      in_memory RootWord q i = refl

  -- ---- A STORE in an open call is of no word that it sees and did not record

  -- a place of a block that it found is the one that its word is to the lane
  used : (p : Place) (b : ℕ) → sees_at (views k) p b ≡ true → is_pictured p ≡ true → (q : Place) → place_at (views k).fixed.shape (class (views k).claims) (word_of (views k).fixed.shape p) ≡ Some q → q ≡ p
  used (InRun c u) b t i q e =
      let small = ltb-true u 512 (and_parts (is_data (InRun c u)) (nat_lt u 512) i).1 in
      let r = run_class c (part (class (views k).claims c) u b) t in
      ⊎_elim
      (λ (l : c < chunks_of (views k).fixed.shape). sym (Rattle.std.proofs.lemmas.Option.same_Some (InRun c u) q (sym (ap (place_in (class (views k).claims)) (chunk_part (views k).fixed.shape c u small l) ∙ ap (λ m. Some (chunk_place m c u)) r.1) ∙ e)))
      (λ (l : chunks_of (views k).fixed.shape ≤ c). absurd (Rattle.std.proofs.lemmas.Option.none-some q (sym (ap (place_in (class (views k).claims)) (no_part (views k).fixed.shape c u small l)) ∙ e)))
      (cases_lt c (chunks_of (views k).fixed.shape))
  used (InHuge c u) b t i q e =
      let small = ltb-true u 512 i in
      let r = huge_class c t in
      ⊎_elim
      (λ (l : c < chunks_of (views k).fixed.shape). sym (Rattle.std.proofs.lemmas.Option.same_Some (InHuge c u) q (sym (ap (place_in (class (views k).claims)) (chunk_part (views k).fixed.shape c u small l) ∙ ap (λ m. Some (chunk_place m c u)) r) ∙ e)))
      (λ (l : chunks_of (views k).fixed.shape ≤ c). absurd (Rattle.std.proofs.lemmas.Option.none-some q (sym (ap (place_in (class (views k).claims)) (no_part (views k).fixed.shape c u small l)) ∙ e)))
      (cases_lt c (chunks_of (views k).fixed.shape))
  used (Descr c) b t i q e = absurd (both_ways false refl i)
  used RootWord b t i q e = sym (Rattle.std.proofs.lemmas.Option.same_Some RootWord q e)

  pub found_or_own : (B : Block) → has_found (views k) B ≡ true → has_own (views k) B ≡ true → ⊥
  found_or_own B f m = both_ways (there (settled_words o g) B) ((fit k).hold.mine B m).2 ((fit k).hold.found B f).2

  -- its block, by any bit of its word
  of_block : (p : Place) (b : ℕ) → sees_at (views k) p b ≡ true → is_data p ≡ true → has_found (views k) (block_in (views k) p 64) ≡ true
  of_block (InRun c u) b t d = subst (λ i. has_found (views k) (Small c i) ≡ true) (data_part (class (views k).claims c) u b (leb-true 8 u d)) t
  of_block (InHuge c u) b t d = t
  of_block (Descr c) b t d = absurd (both_ways false refl d)
  of_block RootWord b t d = absurd (both_ways false refl d)

  module _ (n : ℕ) (p : Place) (b : ℕ) (t : sees_at (views k) p b ≡ true) (i : is_pictured p ≡ true) (bare : is_recorded (views k).log.records p ≡ false) where
    no_write : MayWrite (views k) (word_of (views k).fixed.shape p) → ⊥
    no_write m =
        let s = used p b t i m.place m.at in
        both_ways (is_recorded (views k).log.records p) bare (subst (λ q. is_recorded (views k).log.records q ≡ true) s
        (precede.logged_recorded (views k).fixed.shape (views k).fixed.lane (views k).changes 0 (views k).log.records m.place m.logged))

    no_fill : MayFill (views k) (word_of (views k).fixed.shape p) → ⊥
    no_fill m =
        let s = used p b t i m.place m.at in
        found_or_own (block_in (views k) p 64) (of_block p b t (subst (λ q. is_data q ≡ true) s m.plain))
        (subst (λ q. has_own (views k) (block_in (views k) q 64) ≡ true) s m.own)

    no_chunk : (part : Part) → is_chunk part ≡ true → StoreFits (views k) (word_of (views k).fixed.shape p) n Open part → ⊥
    no_chunk (ChunkPart c u) e f = ⊎_elim no_write no_fill f
    no_chunk OtherPart e f = f
    no_chunk RootPart e f = f
    no_chunk GenerationPart e f = both_ways false refl e
    no_chunk SealPart e f = f
    no_chunk EntryPart e f = both_ways false refl e
    no_chunk SlotPart e f = both_ways false refl e
    no_chunk (DescriptorPart c) e f = both_ways false refl e

    of_pool : (views k).fixed.lane < (views k).fixed.shape.lanes
    of_pool = let m = x.most_lanes in subst (λ (sh : Shape). (views k).fixed.lane < sh.lanes) (sym shape_is)
        (subst (λ l. l < o.shape.lanes) (sym (x.each_lane k ink).lane) (omega arith))

    no_store : StoreFits (views k) (word_of (views k).fixed.shape p) n Open (part_in (views k) (word_of (views k).fixed.shape p)) → ⊥
    no_store f = no_chunk (part_in (views k) (word_of (views k).fixed.shape p)) (chunky p i) f
      where
        of_chunk : (c u : ℕ) → u < 512 → is_chunk (part_in (views k) (word_of_chunk (views k).fixed.shape c + u)) ≡ true
        of_chunk c u small = ap is_chunk (chunk_word (views k).fixed.shape (views k).fixed.lane c u of_pool) ∙ ⊎_elim
            (λ (l : c < chunks_of (views k).fixed.shape). ap is_chunk (chunk_part (views k).fixed.shape c u small l))
            (λ (l : chunks_of (views k).fixed.shape ≤ c). ap is_chunk (no_part (views k).fixed.shape c u small l))
            (cases_lt c (chunks_of (views k).fixed.shape))

        chunky : (p : Place) → is_pictured p ≡ true → is_chunk (part_in (views k) (word_of (views k).fixed.shape p)) ≡ true
        chunky (InRun c u) i = of_chunk c u (ltb-true u 512 (and_parts (is_data (InRun c u)) (nat_lt u 512) i).1)
        chunky (InHuge c u) i = of_chunk c u (ltb-true u 512 i)
        chunky (Descr c) i = absurd (both_ways false refl i)
        chunky RootWord i = ap is_chunk (root_part (views k).fixed.shape (views k).fixed.lane)

  -- SO IT STORES none of these
  pub stores_other : (w n : ℕ) → MayStore (views k) w n → (p : Place) (b : ℕ) → sees_at (views k) p b ≡ true → is_pictured p ≡ true
      → is_recorded (views k).log.records p ≡ false → (w == word_of (views k).fixed.shape p) ≡ false
  stores_other w n m p b t i bare = false_from_ne_true (w == word_of (views k).fixed.shape p) (λ e.
      no_store n p b t i bare
      (subst (λ ph. StoreFits (views k) (word_of (views k).fixed.shape p) n ph (part_in (views k) (word_of (views k).fixed.shape p))) is_open
      (subst (λ z. StoreFits (views k) z n (views k).log.phase (part_in (views k) z)) (eqb-true w (word_of (views k).fixed.shape p) e) m.fits)))

  -- ---- A RECORD is the one that the lane was to make
  pub record_is : (w n : ℕ) (a : AppendsToSlot (views k) w n) → length ((views k).log.slot ++ n ∷ []) ≡ 8
      → recorded (views k).fixed.shape (class (views k).claims) ((views k).log.slot ++ n ∷ []) ≡ a.next
  record_is w n a full =
      let seven : length (views k).log.slot ≡ 7 = let q = Rattle.std.proofs.lemmas.List.length-append (views k).log.slot (n ∷ []) in omega arith in
      let eight : (views k).log.slot ++ n ∷ [] ≡ take 8 (spelled (views k).fixed.shape (views k).log.generation a.next) =
      a.spells ∙ ap (λ m. take (m + 1) (spelled (views k).fixed.shape (views k).log.generation a.next)) seven in
      ap (recorded (views k).fixed.shape (class (views k).claims)) eight
      ∙ record_spelled (views k).fixed.shape (class (views k).claims) (views k).log.generation a.next.place a.next.old a.can.use_ a.can.some a.can.most

  -- and has what it knows of a word
  pub records_known : (w n : ℕ) (a : AppendsToSlot (views k) w n) → length ((views k).log.slot ++ n ∷ []) ≡ 8
      → (p : Place) (b : ℕ) (y : Bool) (z : ℕ) → picture (views k).fixed.shape (views k).claims p b ≡ Some y
      → old_in (recorded (views k).fixed.shape (class (views k).claims) ((views k).log.slot ++ n ∷ [])) p ≡ Some z → bit z b ≡ y
  records_known w n a full p b y z e r =
      let is = record_is w n a full in
      let old : old_in a.next p ≡ Some z = sym (ap (λ (q : Recorded). old_in q p) is) ∙ r in
      let at = old_in_at a.next p (ap given old) in
      let d : ℕ = Rattle.pm_view.specs.Places.distance a.next.place p in
      let known = (a.can.each d at.1).word.present in
      let here : knows (views k) (word_of (views k).fixed.shape p) ≡ Some z =
      ap (λ q. knows (views k) (word_of (views k).fixed.shape q)) (sym (place_is a.next.place p at.0)) ∙ (known ∙ ap (λ m. Some m) (old_in_is a.next p z old)) in
      let pic = (of_pictured (views k).fixed.shape (views k).claims p b y e).1 in
      Rattle.std.proofs.lemmas.Option.same_Some (bit z b) y (sym (ap (option_map (λ m. bit m b)) (if_known _ (pictured (views k).fixed.shape (views k).claims (word_of (views k).fixed.shape p)) here)) ∙ pic)
    where
      if_known : (q : Bool) (d : Option ℕ) → cond q d None ≡ Some z → d ≡ Some z
      if_known true d e = e
      if_known false d e = absurd (Rattle.std.proofs.lemmas.Option.none-some z e)
