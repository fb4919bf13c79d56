-- LOOKS: what a load of a bitmap shows of a run's blocks, to a lane that holds their locks.
use Rattle.std.specs.Prelude.{List, ◌∷◌}
use Rattle.std.specs.Option.{option_map}
use Rattle.std.specs.Int.{bit_at}
use Rattle.std.proofs.Common.{◌≡◌, ℕ, zero, suc, ◌+◌, ◌-◌, ◌*◌, ◌/◌, ◌<◌, ◌≤◌, nat_le, nat_lt, ◌⊎◌, inl, inr, ⊎_elim, Bool, true, false, cond, not, ◌&&◌, ◌||◌, eqb, ◌==◌, refl, sym, ap, ◌∙◌, subst, arith, ne_eqb, Option, None, Some}
use Rattle.std.proofs.lemmas.Bool.{cases_lt, eqb-true, lt-ltb, ltb-true, leb-true, both_ways, and_parts, and_from, or_cases, cond-false, false_from_ne_true}
use Rattle.pm_layout.specs.declared.shape.Shape.{Shape}
use Rattle.pm_layout.specs.Chunks.{chunks_of, line_of_chunk, word_of_chunk}
use Rattle.pm_view.specs.Parts.{Part, chunk_place, place_in}
use Rattle.pm_view.specs.Places.{Place, InRun, InHuge, Descr, RootWord, Block, Small, Big, Root, part, block_of, header, is_data, is_place, word_of}
use Rattle.pm_view.specs.Entries.{latest, redos, turn}
use Rattle.pm_view.specs.Log.{is_early}
use Rattle.pm_view.specs.Claims.{Claim, SawBitmap, locked, reads, holds, class, first, header_in, found, here, geometry, pictured, block_in, block_at, passes, is_new, shown_by_bitmap}
use Rattle.pm_world.specs.States.{given, read, there}
use Rattle.pm_world.specs.Sights.{Sight, is_pictured, is_recorded, is_made, picture, fresh, sight_by, sight_of}
use Rattle.pm_world.specs.Lanes.{own, owns, SightFits, Flies, Bits}
use Rattle.pm_world.specs.Memory.{Memory, PoolWord, bit, cells_of}
use Rattle.pm_world.specs.World.{Opening, Views, Past, origin, ghost_of, settled_words, World}
use Rattle.pm_world.proofs.Finds.{finds, is_run_there, run_class, Shows, shown_there, own_found}
use Rattle.pm_world.proofs.Frame.{fresh_given, no_run}
use Rattle.pm_world.proofs.Going.{Turned}
use Rattle.pm_world.proofs.StepLocks.{forgets, fresh_same, and_at, header_found}
use Rattle.pm_world.proofs.WordPlaces.{chunk_part, no_part}

-- ---- the block of a word of a chunk, as the lane knows it
module _ (sh : Shape) (t : List Claim) (e a : ℕ) (small : a < 512) where
  pub block_at_run : (n : ℕ) → e < chunks_of sh → class t e ≡ suc n → block_at sh t (word_of_chunk sh e + a) ≡ Some (Small e (part (class t e) a 64))
  block_at_run n l q = ap (λ (pt : Part). block_in sh t (place_in (class t) pt) 64) (chunk_part sh e a small l) ∙ ap (λ m. block_in sh t (Some (chunk_place m e a)) 64) q

  pub block_at_huge : e < chunks_of sh → class t e ≡ 0 → block_at sh t (word_of_chunk sh e + a) ≡ Some (Big (first sh t e))
  block_at_huge l q = ap (λ (pt : Part). block_in sh t (place_in (class t) pt) 64) (chunk_part sh e a small l) ∙ ap (λ m. block_in sh t (Some (chunk_place m e a)) 64) q

  pub block_at_none : chunks_of sh ≤ e → block_at sh t (word_of_chunk sh e + a) ≡ None
  block_at_none l = ap (λ (pt : Part). block_in sh t (place_in (class t) pt) 64) (no_part sh e a small l)

  -- a test that it passes
  pub passed : (P : Block → Bool) → passes P (block_at sh t (word_of_chunk sh e + a)) ≡ true → (e < chunks_of sh) × (((class t e ≡ 0) × (P (Big (first sh t e)) ≡ true)) ⊎ ((n : ℕ) × (class t e ≡ suc n) × (P (Small e (part (class t e) a 64)) ≡ true)))
  passed P q = ⊎_elim (λ (l : e < chunks_of sh). (l, by_class l (class t e) refl)) (λ (l : chunks_of sh ≤ e). absurd (both_ways false refl (sym (ap (passes P) (block_at_none l)) ∙ q))) (cases_lt e (chunks_of sh))
    where
      by_class : e < chunks_of sh → (m : ℕ) → class t e ≡ m → ((class t e ≡ 0) × (P (Big (first sh t e)) ≡ true)) ⊎ ((n : ℕ) × (class t e ≡ suc n) × (P (Small e (part (class t e) a 64)) ≡ true))
      by_class l zero z = inl (z, sym (ap (passes P) (block_at_huge l z)) ∙ q)
      by_class l (suc n) z = inr (n, z, sym (ap (passes P) (block_at_run n l z)) ∙ q)

some_suc : (m : ℕ) → not (m == 0) ≡ true → (n : ℕ) × (m ≡ suc n)
some_suc zero e = absurd (both_ways false refl e)
some_suc (suc n) e = (n, refl)

not_pictured : (C a : Bool) (v : Option Bool) → a ≡ false → given (cond C (cond a v None) None) ≡ false
not_pictured true true v e = absurd (both_ways true e refl)
not_pictured true false v e = refl
not_pictured false a v e = refl

given_pictured : (C a : Bool) (v : Option Bool) → given (cond C (cond a v None) None) ≡ true → (C ≡ true) × (a ≡ true)
given_pictured true true v e = (refl, refl)
given_pictured true false v e = absurd (both_ways false refl e)
given_pictured false a v e = absurd (both_ways false refl e)

module _ (o : Opening) (mem : Memory) (views : Views) (g : Past) (x : World o mem views g) (k : ℕ) (ink : k < o.lanes) (early : is_early (views k).log.phase ≡ true) where
  pub unpictured : (j : ℕ) (p : Place) (b : ℕ) → is_pictured p ≡ false → given ((sight_of (views j)).call.fresh p b) ≡ false
  unpictured j p b e = let v = views j in not_pictured (is_data p && (is_made (turn (latest (redos v.log.entries)) (block_of (geometry v.fixed.shape v.claims) p b)) || is_recorded v.log.records p)) (is_pictured p) (option_map (λ y. bit_at y b == 1) (pictured v.fixed.shape v.claims (word_of v.fixed.shape p))) e

  fit : SightFits o.shape (cells_of o.shape mem) (settled_words o g) (Flies (ghost_of g) k) (ghost_of g) k (sight_of (views k))
  fit = x.bits.each_lane k

  shape_is : (views k).fixed.shape ≡ o.shape
  shape_is = (x.each_lane k ink).shape

  -- what the call made is data of a page
  pub made_data : (p : Place) (b : ℕ) → given ((sight_of (views k)).call.fresh p b) ≡ true → (is_data p ≡ true) × (is_pictured p ≡ true) × (owns g.geo (settled_words o g) (sight_of (views k)).hold p b ≡ true)
  made_data p b e = let v = views k in let C = is_made (turn (latest (redos v.log.entries)) (block_of (geometry v.fixed.shape v.claims) p b)) || is_recorded v.log.records p in
      let y = given_pictured (is_data p && C) (is_pictured p) (option_map (λ y. bit_at y b == 1) (pictured v.fixed.shape v.claims (word_of v.fixed.shape p))) e in
      ((and_parts (is_data p) C y.0).0, y.1, fit.reach p b (fresh_given (latest (redos v.log.entries) p b) ((sight_of v).call.fresh p b) e))

  -- ---- A BITMAP, of a chunk of the pool
  module _ (c n : ℕ) (inside : c < chunks_of o.shape) (word : n ≡ mem (PoolWord (word_of_chunk o.shape c))) where
    abbrev now : Block → Bool
    now = shown_by_bitmap (views k).fixed.shape (views k).claims c n

    -- what it shows: a block of the run, whose class the lane knows
    shown_block : (d i : ℕ) → now (Small d i) ≡ true → (d ≡ c) × (bit n i ≡ true) × ((m : ℕ) × (class (views k).claims d ≡ suc m)) × (holds (views k).claims (header_in (views k).fixed.shape (views k).claims (Small d i)) ≡ true)
    shown_block d i e = let h = holds (views k).claims (header_in (views k).fixed.shape (views k).claims (Small d i)) in let y = and_parts (d == c) ((bit_at n i == 1) && (not (class (views k).claims d == 0) && h)) e in
        let z = and_parts (bit_at n i == 1) (not (class (views k).claims d == 0) && h) y.1 in let w = and_parts (not (class (views k).claims d == 0)) h z.1 in (eqb-true d c y.0, z.0, some_suc (class (views k).claims d) w.0, w.1)

    in_memory : (i : ℕ) → bit n i ≡ true → read (cells_of o.shape mem).pool (InRun c 0) i ≡ true
    in_memory i e = and_from (is_place o.shape (InRun c 0)) (bit (mem (PoolWord (word_of_chunk o.shape c + 0))) i) (and_from (nat_lt c (chunks_of o.shape)) (nat_lt 0 512) (lt-ltb c (chunks_of o.shape) inside) refl)
        (ap (λ w. bit (mem (PoolWord w)) i) (let z : word_of_chunk o.shape c + 0 ≡ word_of_chunk o.shape c = omega arith in z) ∙ (sym (ap (λ w. bit w i) word) ∙ e))

    shows_block : (d i : ℕ) → now (Small d i) ≡ true → Shows o.shape o.lanes (origin o) (cells_of o.shape mem) (λ j. sight_of (views j)) (ghost_of g) x.bits k ink early unpictured (Small d i)
    shows_block d i e = let y = shown_block d i e in (subst (λ a. read (cells_of o.shape mem).pool (InRun a 0) i ≡ true) (sym y.0) (in_memory i y.1), (y.2.0, fit.hold.seen d y.2.0 y.2.1))

    is_run : (d i : ℕ) → now (Small d i) ≡ true → g.runs d ≡ true
    is_run d i e = let s = shows_block d i e in is_run_there o.shape o.lanes (origin o) (cells_of o.shape mem) (λ j. sight_of (views j)) (ghost_of g) x.bits k ink early unpictured d i s.1.0 s.1.1 s.0

    class_is : (d i : ℕ) → now (Small d i) ≡ true → class (views k).claims d ≡ g.geo.class d
    class_is d i e = let y = shown_block d i e in y.2.1 ∙ (sym (fit.hold.seen d y.2.0 y.2.1) ∙ run_class o.shape o.lanes (origin o) (cells_of o.shape mem) (λ j. sight_of (views j)) (ghost_of g) x.bits k ink early unpictured d (is_run d i e))

    header_shown : (B : Block) → now B ≡ true → header_in (views k).fixed.shape (views k).claims B ≡ header o.shape g.geo B
    header_shown (Small d i) e = ap (λ s. line_of_chunk s d + (1 + class (views k).claims d * i)) shape_is ∙ ap (λ m. line_of_chunk o.shape d + (1 + m * i)) (class_is d i e)
    header_shown (Big f) e = absurd (both_ways false refl e)
    header_shown Root e = absurd (both_ways false refl e)

    shown_held : (B : Block) → now B ≡ true → ((locked (views k).claims (header o.shape g.geo B) || reads (views k).claims (header o.shape g.geo B)) ≡ true) × Shows o.shape o.lanes (origin o) (cells_of o.shape mem) (λ j. sight_of (views j)) (ghost_of g) x.bits k ink early unpictured B
    shown_held (Small d i) e = (ap (holds (views k).claims) (sym (header_shown (Small d i) e)) ∙ (shown_block d i e).3, shows_block d i e)
    shown_held (Big f) e = absurd (both_ways false refl e)
    shown_held Root e = absurd (both_ways false refl e)

    shown_allocated : (B : Block) → now B ≡ true → there (settled_words o g) B ≡ true
    shown_allocated B e = let y = shown_held B e in shown_there o.shape o.lanes (origin o) (cells_of o.shape mem) (λ j. sight_of (views j)) (ghost_of g) x.bits k ink early unpictured B y.0 y.1

    abbrev is_fresh_block : Block → Bool
    is_fresh_block B = now B && not (found (views k).fixed.shape (views k).claims B)

    -- the word is forgotten
    abbrev forgotten : Place → Bool
    forgotten p = is_new now (found (views k).fixed.shape (views k).claims) (block_at (views k).fixed.shape (views k).claims (word_of (views k).fixed.shape p))

    part_same : (cl a b : ℕ) → nat_le 8 a ≡ true → part cl a b ≡ part cl a 64
    part_same cl a b l = let e : eqb a 0 ≡ false = ne_eqb a 0 (λ q. let z = leb-true 8 a l in absurd (omega arith)) in cond-false (eqb a 0) b ((a / 8 - 1) / cl) e ∙ sym (cond-false (eqb a 0) 64 ((a / 8 - 1) / cl) e)

    -- what the call made is not forgotten
    kept_made : (p : Place) (b : ℕ) → given ((sight_of (views k)).call.fresh p b) ≡ true → forgotten p ≡ false
    kept_made p b e = let y = made_data p b e in false_from_ne_true (forgotten p) (at p y.0 y.1 y.2)
      where
        at : (p : Place) → is_data p ≡ true → is_pictured p ≡ true → owns g.geo (settled_words o g) (sight_of (views k)).hold p b ≡ true → forgotten p ≡ true → ⊥
        at (InRun d a) dt pt w q = ⊎_elim (λ (z : (class (views k).claims d ≡ 0) × (is_fresh_block (Big (first (views k).fixed.shape (views k).claims d)) ≡ true)). both_ways false refl z.1)
            (λ (z : (m : ℕ) × (class (views k).claims d ≡ suc m) × (is_fresh_block (Small d (part (class (views k).claims d) a 64)) ≡ true)).
            let i = part (class (views k).claims d) a 64 in let s = and_parts (now (Small d i)) (not (found (views k).fixed.shape (views k).claims (Small d i))) z.2 in
            let same : Small d (part (g.geo.class d) a b) ≡ Small d i = ap (λ m. Small d (part m a b)) (sym (class_is d i s.0)) ∙ ap (λ m. Small d m) (part_same (class (views k).claims d) a b dt) in
            let fd = own_found o.shape o.lanes (origin o) (cells_of o.shape mem) (λ j. sight_of (views j)) (ghost_of g) x.bits k ink early unpictured (Small d i) (shown_allocated (Small d i) s.0) (subst (λ B. own (sight_of (views k)).hold B ≡ true) same w) in
            both_ways false refl (sym (ap not fd) ∙ s.1))
            (passed (views k).fixed.shape (views k).claims d a (ltb-true a 512 (and_parts (nat_le 8 a) (nat_lt a 512) pt).1) is_fresh_block q).1
        at (InHuge d a) dt pt w q = ⊎_elim (λ (z : (class (views k).claims d ≡ 0) × (is_fresh_block (Big (first (views k).fixed.shape (views k).claims d)) ≡ true)). both_ways false refl z.1)
            (λ (z : (m : ℕ) × (class (views k).claims d ≡ suc m) × (is_fresh_block (Small d (part (class (views k).claims d) a 64)) ≡ true)).
            let i = part (class (views k).claims d) a 64 in let s = and_parts (now (Small d i)) (not (found (views k).fixed.shape (views k).claims (Small d i))) z.2 in
            both_ways (g.runs d) (no_run o.shape (cells_of o.shape mem) (settled_words o g) (Flies (ghost_of g) k) (ghost_of g) x.bits.geo k (sight_of (views k)) fit d w) (is_run d i s.0))
            (passed (views k).fixed.shape (views k).claims d a (ltb-true a 512 pt) is_fresh_block q).1
        at (Descr d) dt pt w q = both_ways false refl dt
        at RootWord dt pt w q = both_ways false refl dt

    saw_less : (p : Place) (b : ℕ) (y : Bool) → picture (views k).fixed.shape (SawBitmap c n ∷ (views k).claims) p b ≡ Some y → picture (views k).fixed.shape (views k).claims p b ≡ Some y
    saw_less p b y e = forgets (is_pictured p) (forgotten p) (pictured (views k).fixed.shape (views k).claims (word_of (views k).fixed.shape p)) (λ z. bit_at z b == 1) y e

    pub saw_same : (p : Place) (b : ℕ) → given ((sight_of (views k)).call.fresh p b) ≡ true → picture (views k).fixed.shape (SawBitmap c n ∷ (views k).claims) p b ≡ picture (views k).fixed.shape (views k).claims p b
    saw_same p b e = ap (λ q. cond (is_pictured p) (option_map (λ z. bit_at z b == 1) (cond q None (pictured (views k).fixed.shape (views k).claims (word_of (views k).fixed.shape p)))) None) (kept_made p b e)

    saw_fresh : (p : Place) (b : ℕ) → fresh (views k).fixed.shape (SawBitmap c n ∷ (views k).claims) (views k).log p b ≡ (sight_of (views k)).call.fresh p b
    saw_fresh p b = let v = views k in fresh_same (is_data p && (is_made (turn (latest (redos v.log.entries)) (block_of (geometry v.fixed.shape v.claims) p b)) || is_recorded v.log.records p)) (picture v.fixed.shape v.claims p b) (picture v.fixed.shape (SawBitmap c n ∷ v.claims) p b) (saw_less p b) (saw_same p b)

    -- the words of a block that is newly found are known no more
    saw_dark : (p : Place) (b : ℕ) → now (block_of g.geo p b) ≡ true → found (views k).fixed.shape (views k).claims (block_of g.geo p b) ≡ false → picture (views k).fixed.shape (SawBitmap c n ∷ (views k).claims) p b ≡ None
    saw_dark (InRun d a) b e u = by_place (is_pictured (InRun d a)) refl
      where
        dim : (q : Bool) (v : Option ℕ) → q ≡ true → option_map (λ z. bit_at z b == 1) (cond q None v) ≡ None
        dim true v e = refl
        dim false v e = absurd (both_ways false refl e)

        by_place : (q : Bool) → is_pictured (InRun d a) ≡ q → cond q (option_map (λ z. bit_at z b == 1) (cond (forgotten (InRun d a)) None (pictured (views k).fixed.shape (views k).claims (word_of (views k).fixed.shape (InRun d a))))) None ≡ None
        by_place false z = refl
        by_place true z = let i = part (g.geo.class d) a b in let y = and_parts (nat_le 8 a) (nat_lt a 512) z in let s = shown_block d i e in
            let same : Small d (part (class (views k).claims d) a 64) ≡ Small d i = ap (λ m. Small d (part m a 64)) (class_is d i e) ∙ ap (λ m. Small d m) (sym (part_same (g.geo.class d) a b y.0)) in
            dim (forgotten (InRun d a)) (pictured (views k).fixed.shape (views k).claims (word_of (views k).fixed.shape (InRun d a)))
            (ap (passes is_fresh_block) (block_at_run (views k).fixed.shape (views k).claims d a (ltb-true a 512 y.1) s.2.0 (subst (λ m. m < chunks_of (views k).fixed.shape) (sym s.0) (subst (λ h. c < chunks_of h) (sym shape_is) inside)) s.2.1)
            ∙ (ap is_fresh_block same ∙ and_from (now (Small d i)) (not (found (views k).fixed.shape (views k).claims (Small d i))) e (ap not u)))
    saw_dark (InHuge d a) b e u = absurd (both_ways false refl e)
    saw_dark (Descr d) b e u = absurd (both_ways false refl e)
    saw_dark RootWord b e u = absurd (both_ways false refl e)

    -- A LOAD OF A BITMAP keeps the world over bits
    pub saw_bitmap : (sights' : ℕ → Sight) → Turned (λ j. sight_of (views j)) sights' k (sight_by (views k).fixed.shape (views k).fixed.lane (SawBitmap c n ∷ (views k).claims) (views k).log (views k).changes) → Bits o.shape o.lanes (origin o) (cells_of o.shape mem) sights' (ghost_of g)
    saw_bitmap sights' t = let v = views k in let t' = SawBitmap c n ∷ v.claims in
        finds o.shape o.lanes (origin o) (cells_of o.shape mem) (λ j. sight_of (views j)) (ghost_of g) x.bits k ink early unpictured now (found v.fixed.shape t') (here v.fixed.shape t') (class v.claims) (sight_of v).hold.span (first v.fixed.shape v.claims) (picture v.fixed.shape t') (sight_of v).soiled record {
          shows = shown_held;
          found = λ B. refl;
          here = λ B. and_at (found v.fixed.shape t' B) (locked v.claims (header_in v.fixed.shape v.claims B)) (locked v.claims (header o.shape g.geo B)) (λ e. ap (locked v.claims) (⊎_elim (λ (q : now B ≡ true). header_shown B q) (λ (q : found v.fixed.shape v.claims B ≡ true). header_found o mem views g x k ink B q) (or_cases (now B) (found v.fixed.shape v.claims B) e)));
          class = λ d. inl refl;
          knows = λ d i e. (shown_block d i e).2;
          span_new = λ f e u. absurd (both_ways false refl e);
          span_old = λ f e. refl;
          first_in = λ d q. absurd (both_ways false refl q);
          first_old = λ d q h. fit.hold.first d h;
          less = saw_less;
          dark = saw_dark;
          fresh = λ p b y e. saw_same p b (ap given e) ∙ fit.fresh p b y e;
          soiled = λ p b e. e;
        } sights' record { here = t.here ∙ (λ i. record (sight_by v.fixed.shape v.fixed.lane t' v.log v.changes) { call = record { entries = redos v.log.entries; fresh = λ p b. saw_fresh p b i } }); else_ = t.else_ }
