-- Occupancy bits are given back, at the world.
use Rattle.std.specs.Prelude.{[], ◌∷◌, List, All, length, slice_index_or, bit_and}
use Rattle.std.specs.Int.{bit_at, bit_not, w64}
use Rattle.std.specs.List.{list_any}
use Rattle.std.proofs.Common.{◌≡◌, ◌≢◌, ℕ, zero, suc, ◌+◌, ◌-◌, ◌*◌, ◌/◌, ◌%◌, ◌^◌, ◌<◌, ⊎_elim, nat_le, nat_lt, Bool, true, false, cond, not, ◌==◌, ◌&&◌, ◌||◌, refl, sym, ap, ◌∙◌, subst, arith, eq-eqb, ne_eqb, Option, None, Some}
use Rattle.std.proofs.lemmas.Bool.{cases_eq, cases_lt, cases_Bool, both_ways, eqb-true, leb-true, ltb-true, le-leb, lt-ltb, and_parts, and_from, and_left, and_right, or_cases, not_from_true, not_from_false, cond-true, cond-false, false_from_ne_true}
use Rattle.std.proofs.lemmas.List.Folds.{list_any_none}
use Rattle.std.proofs.lemmas.Nat.Bits.{bit_at_and, bit_at-lt}
use Rattle.pm_layout.specs.Chunks.{chunks_of, page_of_chunk, word_of_chunk, words_of}
use Rattle.pm_view.specs.declared.occ.Occ.{Occ}
use Rattle.pm_view.specs.declared.occ.Occ.TheVariants.{Run, Zone}
use Rattle.pm_view.specs.Changes.{Undrained, is_dirty_bit}
use Rattle.pm_view.specs.Places.{Place, InRun, InHuge, Descr, RootWord, Block, Small, Big, Root, part, block_of, in_span, is_data, same_place}
use Rattle.pm_view.specs.Entries.{Entry, given_bit, delta, first_of_two, latest, with_redo, redos, turn}
use Rattle.pm_view.specs.Parts.{chunk_place, place_in}
use Rattle.pm_view.specs.Log.{Phase, is_early}
use Rattle.pm_view.specs.Claims.{Released, class, first, geometry, block_in, passes, is_among, run_chunk}
use Rattle.pm_view.specs.Steps.Step.{Vacate}
use Rattle.pm_view.specs.Views.{after}
use Rattle.pm_world.specs.States.{State, given, diff, put1, Cells}
use Rattle.pm_world.specs.Sights.{Sight, is_made, is_recorded, sight_of}
use Rattle.pm_world.specs.Lanes.{atom, open_soils, soils, Flies, SightFits, is_occupancy, Bits}
use Rattle.pm_world.specs.Lawful.{IsLawful, is_in_blocks}
use Rattle.pm_world.specs.Moves.{Moves}
use Rattle.pm_world.specs.Course.{past_after}
use Rattle.pm_world.specs.Memory.{Memory, RunWord, ZoneWord, occ_at, bit, occupancy_bit, cells_of}
use Rattle.pm_world.specs.World.{Opening, Views, Past, origin, ghost_of, settled_words, LaneFits, World}
use Rattle.pm_world.specs.Laws.{Turn, Keeps}
use Rattle.pm_world.proofs.Basics.{none_of, early_undecided, early_cases}
use Rattle.pm_world.proofs.Cells.{cells_run, cells_zone}
use Rattle.pm_world.proofs.Frame.{Around, mine_own, own_has}
use Rattle.pm_world.proofs.PlacesAt.{same_place_true}
use Rattle.pm_world.proofs.Replays.{put1_here, put1_else}
use Rattle.pm_world.proofs.Worlds.{turned, own_unrecorded}
use Rattle.pm_world.proofs.Vacates.{kept_owned, GivesBack, vacates}
use Rattle.pm_world.proofs.OccWorlds.{occ_world}
use Rattle.pm_world.proofs.WordPlaces.{chunk_part, run_chunk_is, page_apart}
use Rattle.pm_world.proofs.StepOccupies.{part_of_data, at_page, occ_known}

-- what no entry gives the entries do not make
none_entered : (es : List Entry) (p : Place) (b : ℕ) → All (λ (e : Entry). e.place ≡ Some p → given (given_bit e.op e.value b) ≡ false) es → latest (redos es) p b ≡ None
none_entered [] p b a = refl
none_entered (e ∷ es) p b a = go e.place refl (none_entered es p b (λ i d l. a (suc i) d (omega arith)))
  where
    go : (q : Option Place) → e.place ≡ q → latest (redos es) p b ≡ None → latest (with_redo q e (redos es)) p b ≡ None
    go None s r = r
    go (Some q) s r = ap (λ y. first_of_two y (delta record { place = q; op = e.op; value = e.value } p b)) r ∙ ⊎_elim
        (λ (t : same_place q p ≡ true). ap (λ y. cond y (given_bit e.op e.value b) None) t ∙ none_of (given_bit e.op e.value b) (a 0 e (omega arith) (s ∙ ap (λ y. Some y) (same_place_true q p t))))
        (λ (t : same_place q p ≡ false). cond-false (same_place q p) (given_bit e.op e.value b) None t) (cases_Bool (same_place q p))

early_soils : (ph : Phase) (p : Place) (m l : Bool) (en : Option Bool) → is_early ph ≡ true → soils ph p m l en ≡ true → open_soils p m l ≡ true
early_soils ph p m l en e t = early_cases (λ h. soils h p m l en ≡ true → open_soils p m l ≡ true) (λ y. y) (λ y. y) ph e t

-- bits are cleared
cleared_bit : (a b j : ℕ) → b < 2 ^ 64 → j < 64 → bit (bit_and a (bit_not w64 b)) j ≡ (not (bit b j) && bit a j)
cleared_bit a b j small low = let n = Rattle.std.proofs.lemmas.Nat.Bits.bit_at_not w64 b j small low in go (bit_at a j) (bit_at b j) (bit_at (bit_not w64 b) j) (bit_at-lt a j) (bit_at-lt b j) (bit_at (bit_and a (bit_not w64 b)) j) (bit_at_and a (bit_not w64 b) j) n
  where
    go : (x y n : ℕ) → x < 2 → y < 2 → (z : ℕ) → z ≡ Rattle.std.specs.Prelude.min x n → n ≡ 1 - y → (z == 1) ≡ (not (y == 1) && (x == 1))
    go x y n p q z e m = ⊎_elim (λ (a : y ≡ 1). ne_eqb z 1 (λ s. omega arith) ∙ sym (ap (λ t. not t && (x == 1)) (eq-eqb y 1 a))) (λ (a : y ≢ 1). let r : z ≡ x = omega arith in ap (λ w. w == 1) r ∙ sym (ap (λ t. not t && (x == 1)) (ne_eqb y 1 a))) (cases_eq y 1)

module _ (o : Opening) (mem new : Memory) (views views' : Views) (g : Past) (x : World o mem views g) (k : ℕ) (ink : k < o.lanes) (at : Occ) (bits : ℕ) (law : IsLawful (views k) (Vacate at bits)) where
  abbrev out : Block → Bool
  out B = is_among (views k).fixed.shape at bits B

  abbrev sights : ℕ → Sight
  sights j = sight_of (views j)

  abbrev cells : Cells
  cells = cells_of o.shape mem

  abbrev S : State
  S = settled_words o g

  fl : LaneFits o mem g k (views k)
  fl = x.each_lane k ink

  fk : SightFits o.shape cells S (Flies (ghost_of g) k) (ghost_of g) k (sights k)
  fk = x.bits.each_lane k

  -- the blocks that are given back: each is the lane's own, whole, and no run in the making
  pub record Whole : Type 0 where
    pub root : out Root ≡ false
    pub own_ : (a : Block) → out a ≡ true → (sights k).hold.mine (atom g.geo a) ≡ true
    pub whole : (c : ℕ) → out (Big c) ≡ out (Big (g.geo.first c))
    pub unmade : (c : ℕ) → out (Big c) ≡ true → (sights k).hold.making c ≡ false

  module _ (w : Whole) where
    block_mine : (p : Place) (b : ℕ) → out (block_of g.geo p b) ≡ true → (sights k).hold.mine (block_of g.geo p b) ≡ true
    block_mine (InRun d u) b t = w.own_ (block_of g.geo (InRun d u) b) t
    block_mine (InHuge d u) b t = subst (λ a. (sights k).hold.mine (Big a) ≡ true) (x.bits.geo.twice d) (w.own_ (Big (g.geo.first d)) t)
    block_mine (Descr d) b t = subst (λ a. (sights k).hold.mine (Big a) ≡ true) (x.bits.geo.twice d) (w.own_ (Big (g.geo.first d)) t)
    block_mine RootWord b t = absurd (both_ways (out Root) w.root t)

    -- nothing is recorded there
    unrecorded : (p : Place) (b : ℕ) → out (block_of g.geo p b) ≡ true → is_recorded (views k).log.records p ≡ false
    unrecorded p b t = own_unrecorded o mem views g x k ink (early_undecided (views k).log.phase law.allowed.early).0 p b (block_mine p b t)

    -- nor is a bit of it changed by an entry: as the lane knows its own blocks, so they are
    known_own : (p : Place) (b : ℕ) → (sights k).hold.mine (block_of g.geo p b) ≡ true → block_of (geometry (views k).fixed.shape (views k).claims) p b ≡ block_of g.geo p b
    known_own (InRun d u) b m = ap (λ n. Small d (part n u b)) (fk.hold.class d (part (g.geo.class d) u b) (own_has (sights k).hold (Small d (part (g.geo.class d) u b)) (mine_own (sights k).hold (Small d (part (g.geo.class d) u b)) m)))
    known_own (InHuge d u) b m = ap (λ n. Big n) (fk.hold.first d (own_has (sights k).hold (Big (g.geo.first d)) (mine_own (sights k).hold (Big (g.geo.first d)) m)))
    known_own (Descr d) b m = ap (λ n. Big n) (fk.hold.first d (own_has (sights k).hold (Big (g.geo.first d)) (mine_own (sights k).hold (Big (g.geo.first d)) m)))
    known_own RootWord b m = refl

    unentered : (p : Place) (b : ℕ) → out (block_of g.geo p b) ≡ true → latest (redos (views k).log.entries) p b ≡ None
    unentered p b t = none_entered (views k).log.entries p b (λ i e m q. false_from_ne_true (given (given_bit (slice_index_or (views k).log.entries i e).op (slice_index_or (views k).log.entries i e).value b)) (λ y.
        both_ways (out (block_of g.geo p b)) (sym (ap out (known_own p b (block_mine p b t))) ∙ law.allowed.unentered i e m p b q y) t))

    no_turn : (B : Block) → out B ≡ true → turn (latest (redos (views k).log.entries)) B ≡ None
    no_turn (Small c i) t = unentered (InRun c 0) i t
    no_turn (Big c) t = unentered (Descr c) 1 (sym (w.whole c) ∙ t)
    no_turn Root t = refl

    undiffed : (p : Place) (b : ℕ) → out (block_of g.geo p b) ≡ true → given (diff (sights k).call p b) ≡ false
    undiffed p b t = ap (λ y. given (first_of_two y ((sights k).call.fresh p b))) (unentered p b t) ∙ ungiven (is_data p) (turn (latest (redos (views k).log.entries)) (block_of (geometry (views k).fixed.shape (views k).claims) p b)) (is_recorded (views k).log.records p) ((sights k).picture p b)
        (ap (turn (latest (redos (views k).log.entries))) (known_own p b (block_mine p b t)) ∙ no_turn (block_of g.geo p b) t) (unrecorded p b t)
      where
        ungiven : (d : Bool) (m : Option Bool) (r : Bool) (y : Option Bool) → m ≡ None → r ≡ false → given (cond (d && (is_made m || r)) y None) ≡ false
        ungiven d m r y e n = ap given (cond-false (d && (is_made m || r)) y None (and_right d (is_made m || r) (Rattle.std.proofs.lemmas.Bool.or_from (is_made m) r (ap is_made e) n)))

    -- nor undrained
    clean : (p : Place) (b : ℕ) → out (block_of g.geo p b) ≡ true → (sights k).soiled p b ≡ false
    clean p b t = false_from_ne_true ((sights k).soiled p b) (λ s. go p t s (early_soils (views k).log.phase p ((sights k).hold.mine (block_of g.geo p b)) ((sights k).logged p) (latest (sights k).call.entries p b) law.allowed.early (fk.soiled p b s).0))
      where
        -- no undrained change is of a word of such a block
        untouched : (d u : ℕ) → u < 512 → ((d < chunks_of (views k).fixed.shape) → passes out (Some (block_of (geometry (views k).fixed.shape (views k).claims) (chunk_place (class (views k).claims d) d u) 64)) ≡ true) → is_dirty_bit (views k).changes (word_of_chunk (views k).fixed.shape d + u) b ≡ false
        untouched d u l y = list_any_none (λ (c : Undrained). c.word == (word_of_chunk (views k).fixed.shape d + u) && bit_at c.mask b == 1) (views k).changes (λ i e m. let c = slice_index_or (views k).changes i e in
            false_from_ne_true (c.word == (word_of_chunk (views k).fixed.shape d + u) && bit_at c.mask b == 1) (λ z. let q = eqb-true c.word (word_of_chunk (views k).fixed.shape d + u) (and_parts (c.word == (word_of_chunk (views k).fixed.shape d + u)) (bit_at c.mask b == 1) z).0 in
            let room : c.word < words_of (views k).fixed.shape = subst (λ sh. c.word < words_of sh) (sym fl.shape) (fl.masks i e m).1 in let inside : d < chunks_of (views k).fixed.shape = omega arith in
            both_ways (is_in_blocks (views k) at bits c.word) (law.allowed.drained i e m) (ap (is_in_blocks (views k) at bits) q ∙ (ap (λ r. passes out (block_in (views k).fixed.shape (views k).claims (place_in (class (views k).claims) r) 64)) (chunk_part (views k).fixed.shape d u l inside) ∙ y inside))))

        in_run : (d u n : ℕ) → n ≢ 0 → out (Small d (part (class (views k).claims d) u 64)) ≡ true → passes out (Some (block_of (geometry (views k).fixed.shape (views k).claims) (chunk_place n d u) 64)) ≡ true
        in_run d u zero ne e = absurd (ne refl)
        in_run d u (suc n) ne e = e

        in_huge : (d u n : ℕ) → n ≡ 0 → out (Big (first (views k).fixed.shape (views k).claims d)) ≡ true → passes out (Some (block_of (geometry (views k).fixed.shape (views k).claims) (chunk_place n d u) 64)) ≡ true
        in_huge d u zero z e = e
        in_huge d u (suc n) z e = absurd (omega arith)

        go : (p : Place) → out (block_of g.geo p b) ≡ true → (sights k).soiled p b ≡ true → open_soils p ((sights k).hold.mine (block_of g.geo p b)) ((sights k).logged p) ≡ true → ⊥
        go (InRun d u) t s a = let q = and_parts (nat_lt u 512 && not (class (views k).claims d == 0)) (is_dirty_bit (views k).changes (word_of_chunk (views k).fixed.shape d + u) b) s in let r = and_parts (nat_lt u 512) (not (class (views k).claims d == 0)) q.0 in
            let l = leb-true 8 u (and_parts (nat_le 8 u) ((sights k).hold.mine (block_of g.geo (InRun d u) b) || (sights k).logged (InRun d u)) a).0 in let j = part (g.geo.class d) u b in
            let known : class (views k).claims d ≡ g.geo.class d = fk.hold.class d j (own_has (sights k).hold (Small d j) (mine_own (sights k).hold (Small d j) (block_mine (InRun d u) b t))) in
            both_ways (is_dirty_bit (views k).changes (word_of_chunk (views k).fixed.shape d + u) b) (untouched d u (ltb-true u 512 r.0) (λ _. in_run d u (class (views k).claims d) (λ e. both_ways (not (class (views k).claims d == 0)) (ap not (eq-eqb (class (views k).claims d) 0 e)) r.1)
            (ap (λ n. out (Small d n)) (ap (λ n. part n u 64) known ∙ part_of_data (g.geo.class d) u 64 b l) ∙ t))) q.1
        go (InHuge d u) t s a = let q = and_parts (nat_lt u 512 && (class (views k).claims d == 0)) (is_dirty_bit (views k).changes (word_of_chunk (views k).fixed.shape d + u) b) s in let r = and_parts (nat_lt u 512) (class (views k).claims d == 0) q.0 in let e = g.geo.first d in
            let known = fk.hold.first d (own_has (sights k).hold (Big e) (mine_own (sights k).hold (Big e) (block_mine (InHuge d u) b t))) in
            both_ways (is_dirty_bit (views k).changes (word_of_chunk (views k).fixed.shape d + u) b) (untouched d u (ltb-true u 512 r.0) (λ _. in_huge d u (class (views k).claims d) (eqb-true (class (views k).claims d) 0 r.1) (ap (λ n. out (Big n)) known ∙ t))) q.1
        go (Descr d) t s a = both_ways false refl a
        go RootWord t s a = both_ways (out Root) w.root t

    gives : GivesBack o.shape o.lanes (origin o) cells sights (ghost_of g) x.bits k ink (λ B. is_among (views k).fixed.shape at bits B)
    gives = record { root = w.root; own_ = w.own_; whole = w.whole; unmade = w.unmade; turns = no_turn; undiffed = undiffed; clean = clean }

    -- the world, once the occupancy word is what it is to be
    module _ (moves : Moves k (Vacate at bits) mem new) (t : Turn views views' k (after (views k) (Vacate at bits))) (occ' : Block → Bool) (to : cells_of o.shape new ≡ record (cells_of o.shape mem) { occ = occ' })
        (occs : (a : Block) → is_occupancy o.shape a ≡ true → occ' a ≡ (not (is_among (views k).fixed.shape at bits a) && (cells_of o.shape mem).occ a)) where
      pub vacated_world : World o new views' (past_after g (views k) (Vacate at bits))
      vacated_world = let un = early_undecided (views k).log.phase law.allowed.early in
          let step = vacates o.shape o.lanes (origin o) cells sights (ghost_of g) x.bits k ink (λ B. is_among (views k).fixed.shape at bits B) gives un.0 un.1 occ' occs (λ j. sight_of (views' j)) (turned views views' k (after (views k) (Vacate at bits)) t) in
          occ_world o mem new views views' g x k ink at (bit_and (mem (occ_at at)) (bit_not w64 bits)) moves (Released at bits ∷ (views k).claims) (after (views k) (Vacate at bits)).occupancy (views k).seen g.geo (λ B. cond (is_among (views k).fixed.shape at bits B) 0 (g.holder B)) record {
            early = law.allowed.early;
            olds = λ p b q a. kept_owned g.geo S (sights k).hold (λ B. is_among (views k).fixed.shape at bits B) w.root p b (false_from_ne_true (out (block_of g.geo p b)) (λ y. both_ways (is_recorded (views k).log.records p) (unrecorded p b y) q)) ∙ a;
            recorded = λ p b q y z. (y, z);
            words = λ v z e. e;
            occs = λ one other z e. occ_known at (λ m. bit_and m (bit_not w64 bits)) mem new (at_page (views k) at law.allowed.there) moves (views k).occupancy (fl.alone one).occupancy other z e;
            draws = refl;
          }
          (subst (λ y. Around k (sights k).hold (λ j. (sights j).hold) cells y S S (ghost_of g) (record (ghost_of g) { holder = λ B. cond (is_among (views k).fixed.shape at bits B) 0 (g.holder B) })) (sym to) step.0)
          (subst (λ y. Bits o.shape o.lanes (origin o) y (λ j. sight_of (views' j)) (record (ghost_of g) { holder = λ B. cond (is_among (views k).fixed.shape at bits B) 0 (g.holder B) })) (sym to) step.1) t

-- ---- BLOCKS OF A RUN
module _ (o : Opening) (mem new : Memory) (views views' : Views) (g : Past) (x : World o mem views g) (k : ℕ) (ink : k < o.lanes) (place bits : ℕ) (law : IsLawful (views k) (Vacate (Run place) bits)) where
  run_whole : Whole o mem new views views' g x k ink (Run place) bits law
  run_whole = record { root = refl; own_ = own_run; whole = λ c. refl; unmade = λ c t. absurd (both_ways false refl t) }
    where
      own_run : (a : Block) → is_among (views k).fixed.shape (Run place) bits a ≡ true → (sight_of (views k)).hold.mine (atom g.geo a) ≡ true
      own_run (Small d j) t = let y = and_parts (d == run_chunk (views k).fixed.shape place) (bit_at bits j == 1) t in subst (λ a. (sight_of (views k)).hold.mine (Small a j) ≡ true) (sym (eqb-true d (run_chunk (views k).fixed.shape place) y.0)) (law.allowed.whole j (eqb-true (bit_at bits j) 1 y.1))
      own_run (Big d) t = absurd (both_ways false refl t)
      own_run Root t = absurd (both_ways false refl t)

  vacate_run : Moves k (Vacate (Run place) bits) mem new → Turn views views' k (after (views k) (Vacate (Run place) bits)) → World o new views' (past_after g (views k) (Vacate (Run place) bits))
  vacate_run moves t = vacated_world o mem new views views' g x k ink (Run place) bits law run_whole moves t occ' (cells_run o.shape mem new (place / 4096) y moves) occs
    where
      y : ℕ
      y = bit_and (mem (RunWord (place / 4096))) (bit_not w64 bits)

      occ' : Block → Bool
      occ' = occupancy_bit o.shape (put1 (λ p. mem (RunWord p)) (place / 4096) (bit_and (mem (RunWord (place / 4096))) (bit_not w64 bits))) (λ z. mem (ZoneWord z))

      c : ℕ
      c = law.allowed.there.0

      chunk_is : run_chunk (views k).fixed.shape place ≡ law.allowed.there.0
      chunk_is = run_chunk_is (views k).fixed.shape law.allowed.there.0 place law.allowed.there.2

      page_is : place / 4096 ≡ page_of_chunk o.shape law.allowed.there.0
      page_is = let e = law.allowed.there.2 in let q : place / 4096 ≡ page_of_chunk (views k).fixed.shape law.allowed.there.0 = omega arith in q ∙ ap (λ s. page_of_chunk s law.allowed.there.0) (x.each_lane k ink).shape

      occs : (a : Block) → is_occupancy o.shape a ≡ true → occ' a ≡ (not (is_among (views k).fixed.shape (Run place) bits a) && (cells_of o.shape mem).occ a)
      occs (Small d j) in_ = ⊎_elim
          (λ (e : d ≡ law.allowed.there.0). let q : page_of_chunk o.shape d ≡ place / 4096 = ap (page_of_chunk o.shape) e ∙ sym page_is in
          ap (λ p. bit (put1 (λ p. mem (RunWord p)) (place / 4096) y p) j) q ∙ (ap (λ n. bit n j) (put1_here (λ p. mem (RunWord p)) (place / 4096) y) ∙ (cleared_bit (mem (RunWord (place / 4096))) bits j law.allowed.small (ltb-true j 64 (and_parts (nat_lt d (chunks_of o.shape)) (nat_lt j 64) in_).1)
          ∙ (ap (λ p. not (bit bits j) && bit (mem (RunWord p)) j) (sym q) ∙ ap (λ b. not b && bit (mem (RunWord (page_of_chunk o.shape d))) j) (sym (ap (λ b. b && bit bits j) (eq-eqb d (run_chunk (views k).fixed.shape place) (e ∙ sym chunk_is))))))))
          (λ (ne : d ≢ law.allowed.there.0). ap (λ n. bit n j) (put1_else (λ p. mem (RunWord p)) (place / 4096) y (page_of_chunk o.shape d) (λ q. ne (page_apart o.shape d law.allowed.there.0 (q ∙ page_is))))
          ∙ ap (λ b. not b && bit (mem (RunWord (page_of_chunk o.shape d))) j) (sym (and_left (d == run_chunk (views k).fixed.shape place) (bit_at bits j == 1) (ne_eqb d (run_chunk (views k).fixed.shape place) (λ q. ne (q ∙ chunk_is)))))) (cases_eq d law.allowed.there.0)
      occs (Big d) in_ = refl
      occs Root in_ = refl

-- ---- HUGE BLOCKS OF A ZONE
module _ (o : Opening) (mem new : Memory) (views views' : Views) (g : Past) (x : World o mem views g) (k : ℕ) (ink : k < o.lanes) (zone bits : ℕ) (law : IsLawful (views k) (Vacate (Zone zone) bits)) where
  abbrev fz : SightFits o.shape (cells_of o.shape mem) (settled_words o g) (Flies (ghost_of g) k) (ghost_of g) k (sight_of (views k))
  fz = x.bits.each_lane k

  abbrev hz : Rattle.pm_world.specs.Sights.Hold
  hz = (sight_of (views k)).hold

  -- the block that a chunk is of, whose bit is given back
  pub record Given (c : ℕ) : Type 0 where
    pub head : ℕ
    pub mine : (sight_of (views k)).hold.mine (Big (64 * zone + head)) ≡ true
    pub unmade : (sight_of (views k)).hold.making (64 * zone + head) ≡ false
    pub first : g.geo.first c ≡ 64 * zone + head
    pub bit : bit_at bits head ≡ 1
    pub low : head < 64

  given_chunk : (c : ℕ) → is_among (views k).fixed.shape (Zone zone) bits (Big c) ≡ true → Given c
  given_chunk c t = let y = and_parts (c / 64 == zone) (bit_at bits (c % 64) == 1) t in let z = eqb-true (c / 64) zone y.0 in let w = law.allowed.whole (c % 64) (eqb-true (bit_at bits (c % 64)) 1 y.1) in
      let F : ℕ = 64 * zone + w.1.0 in let n = hz.span F in let from = w.1.3 in let to = w.1.4 in
      let s : in_span F n c ≡ true = and_from (nat_le F c) (nat_lt c (F + n)) (le-leb F c (omega arith)) (lt-ltb c (F + n) (omega arith)) in
      record { head = w.1.0; mine = w.1.1; unmade = w.1.2; first = eqb-true (g.geo.first c) F (fz.hold.span F (own_has hz (Big F) (mine_own hz (Big F) w.1.1)) c ∙ s); bit = w.1.5 w.1.0 (omega arith) (omega arith); low = omega arith }

  zone_whole : Whole o mem new views views' g x k ink (Zone zone) bits law
  zone_whole = record { root = refl; own_ = own_zone; whole = whole; unmade = unmade }
    where
      own_zone : (a : Block) → is_among (views k).fixed.shape (Zone zone) bits a ≡ true → hz.mine (atom g.geo a) ≡ true
      own_zone (Small d j) t = absurd (both_ways false refl t)
      own_zone (Big d) t = let y = given_chunk d t in subst (λ a. hz.mine (Big a) ≡ true) (sym y.first) y.mine
      own_zone Root t = absurd (both_ways false refl t)

      head_given : (head : ℕ) → head < 64 → bit_at bits head ≡ 1 → is_among (views k).fixed.shape (Zone zone) bits (Big (64 * zone + head)) ≡ true
      head_given head low b = let q : (64 * zone + head) / 64 ≡ zone = omega arith in let r : (64 * zone + head) % 64 ≡ head = omega arith in and_from ((64 * zone + head) / 64 == zone) (bit_at bits ((64 * zone + head) % 64) == 1) (eq-eqb ((64 * zone + head) / 64) zone q) (eq-eqb (bit_at bits ((64 * zone + head) % 64)) 1 (ap (bit_at bits) r ∙ b))

      back : (c : ℕ) → is_among (views k).fixed.shape (Zone zone) bits (Big (g.geo.first c)) ≡ true → is_among (views k).fixed.shape (Zone zone) bits (Big c) ≡ true
      back c t = let p = and_parts (g.geo.first c / 64 == zone) (bit_at bits (g.geo.first c % 64) == 1) t in let z = eqb-true (g.geo.first c / 64) zone p.0 in let w = law.allowed.whole (g.geo.first c % 64) (eqb-true (bit_at bits (g.geo.first c % 64)) 1 p.1) in
          let F : ℕ = 64 * zone + w.1.0 in let n = hz.span F in let from = w.1.3 in let to = w.1.4 in let has_F = own_has hz (Big F) (mine_own hz (Big F) w.1.1) in
          let s : in_span F n (g.geo.first c) ≡ true = and_from (nat_le F (g.geo.first c)) (nat_lt (g.geo.first c) (F + n)) (le-leb F (g.geo.first c) (omega arith)) (lt-ltb (g.geo.first c) (F + n) (omega arith)) in
          let e : g.geo.first c ≡ F = sym (x.bits.geo.twice c) ∙ eqb-true (g.geo.first (g.geo.first c)) F (fz.hold.span F has_F (g.geo.first c) ∙ s) in
          let r = and_parts (nat_le F c) (nat_lt c (F + n)) (sym (fz.hold.span F has_F c) ∙ eq-eqb (g.geo.first c) F e) in
          let a = leb-true F c r.0 in let b = ltb-true c (F + n) r.1 in let room = fz.hold.zone F has_F in let low = w.0 in
          let q : c / 64 ≡ zone = omega arith in let m : bit_at bits (c % 64) ≡ 1 = w.1.5 (c % 64) (omega arith) (omega arith) in
          and_from (c / 64 == zone) (bit_at bits (c % 64) == 1) (eq-eqb (c / 64) zone q) (eq-eqb (bit_at bits (c % 64)) 1 m)

      whole : (c : ℕ) → is_among (views k).fixed.shape (Zone zone) bits (Big c) ≡ is_among (views k).fixed.shape (Zone zone) bits (Big (g.geo.first c))
      whole c = ⊎_elim (λ (t : is_among (views k).fixed.shape (Zone zone) bits (Big c) ≡ true). let y = given_chunk c t in t ∙ sym (ap (λ a. is_among (views k).fixed.shape (Zone zone) bits (Big a)) y.first ∙ head_given y.head y.low y.bit))
          (λ (u : is_among (views k).fixed.shape (Zone zone) bits (Big c) ≡ false). u ∙ sym (false_from_ne_true (is_among (views k).fixed.shape (Zone zone) bits (Big (g.geo.first c))) (λ t. both_ways (is_among (views k).fixed.shape (Zone zone) bits (Big c)) u (back c t)))) (cases_Bool (is_among (views k).fixed.shape (Zone zone) bits (Big c)))

      unmade : (c : ℕ) → is_among (views k).fixed.shape (Zone zone) bits (Big c) ≡ true → hz.making c ≡ false
      unmade c t = let y = given_chunk c t in false_from_ne_true (hz.making c) (λ m. let e = eqb-true (g.geo.first c) c (fz.hold.mine (Big c) (fz.hold.making c m).0).1 in both_ways (hz.making (64 * zone + y.head)) y.unmade (ap hz.making (sym y.first ∙ e) ∙ m))

  vacate_zone : Moves k (Vacate (Zone zone) bits) mem new → Turn views views' k (after (views k) (Vacate (Zone zone) bits)) → World o new views' (past_after g (views k) (Vacate (Zone zone) bits))
  vacate_zone moves t = vacated_world o mem new views views' g x k ink (Zone zone) bits law zone_whole moves t occ' (cells_zone o.shape mem new zone y moves) occs
    where
      y : ℕ
      y = bit_and (mem (ZoneWord zone)) (bit_not w64 bits)

      occ' : Block → Bool
      occ' = occupancy_bit o.shape (λ p. mem (RunWord p)) (put1 (λ z. mem (ZoneWord z)) zone (bit_and (mem (ZoneWord zone)) (bit_not w64 bits)))

      occs : (a : Block) → is_occupancy o.shape a ≡ true → occ' a ≡ (not (is_among (views k).fixed.shape (Zone zone) bits a) && (cells_of o.shape mem).occ a)
      occs (Small d j) in_ = refl
      occs (Big c) in_ = let low : c % 64 < 64 = omega arith in ⊎_elim
          (λ (e : c / 64 ≡ zone). ap (λ z. bit (put1 (λ z. mem (ZoneWord z)) zone y z) (c % 64)) e ∙ (ap (λ w. bit w (c % 64)) (put1_here (λ z. mem (ZoneWord z)) zone y) ∙ (cleared_bit (mem (ZoneWord zone)) bits (c % 64) law.allowed.small low
          ∙ (ap (λ z. not (bit bits (c % 64)) && bit (mem (ZoneWord z)) (c % 64)) (sym e) ∙ ap (λ b. not b && bit (mem (ZoneWord (c / 64))) (c % 64)) (sym (ap (λ b. b && bit bits (c % 64)) (eq-eqb (c / 64) zone e)))))))
          (λ (ne : c / 64 ≢ zone). ap (λ w. bit w (c % 64)) (put1_else (λ z. mem (ZoneWord z)) zone y (c / 64) ne) ∙ ap (λ b. not b && bit (mem (ZoneWord (c / 64))) (c % 64)) (sym (and_left (c / 64 == zone) (bit_at bits (c % 64) == 1) (ne_eqb (c / 64) zone ne)))) (cases_eq (c / 64) zone)
      occs Root in_ = refl

pub vacate_keeps : (at : Occ) (bits : ℕ) → Keeps (Vacate at bits)
vacate_keeps (Run place) bits o mem new views views' g k x ink law moves t = (vacate_run o mem new views views' g x k ink place bits law moves t, tt)
vacate_keeps (Zone zone) bits o mem new views views' g k x ink law moves t = (vacate_zone o mem new views views' g x k ink zone bits law moves t, tt)
