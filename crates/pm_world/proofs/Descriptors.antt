-- LOOKS: what a load of a descriptor shows of a huge block, to a lane that holds its lock, and of a run.
use Rattle.std.specs.Prelude.{◌∷◌}
use Rattle.std.specs.Option.{option_map}
use Rattle.std.specs.Int.{bit_at}
use Rattle.std.proofs.Common.{◌≡◌, ◌≢◌, ℕ, zero, suc, ◌+◌, ◌*◌, ◌/◌, ◌%◌, ◌^◌, ◌<◌, ◌≤◌, nat_le, nat_lt, ◌⊎◌, inl, inr, ⊎_elim, Bool, true, false, cond, not, ◌&&◌, ◌||◌, ◌==◌, refl, sym, ap, ◌∙◌, subst, arith, eq-eqb, ne_eqb, Option, None, Some}
use Rattle.std.proofs.lemmas.Bool.{cases_eq, cases_lt, cases_Bool, eqb-true, lt-ltb, ltb-true, leb-true, both_ways, and_parts, and_from, or_cases, or_left, cond-true, cond-false, false_from_ne_true}
use Rattle.pm_layout.specs.Chunks.{chunks_of, line_of_chunk, word_of_descriptor}
use Rattle.pm_view.specs.Changes.{is_dirty_bit}
use Rattle.pm_view.specs.Places.{Place, InRun, InHuge, Descr, RootWord, Block, Small, Big, Root, part, block_of, header, is_data, is_place, word_of, in_span}
use Rattle.pm_view.specs.Entries.{latest, redos, turn}
use Rattle.pm_view.specs.Log.{Phase, Idle, Open, Drawn, Sealing, Applying, Clearing, Retiring, Voiding, is_early}
use Rattle.pm_view.specs.Claims.{SawDescriptor, is_run, is_huge, locked, reads, holds, class, header_in, found, here, span, last_first, first, geometry, pictured, block_at, passes, is_new, shown_by_descriptor}
use Rattle.pm_world.specs.States.{val, given, read, there}
use Rattle.pm_world.specs.Sights.{Sight, is_pictured, is_recorded, is_made, picture, fresh, sight_of, sight_by, is_soiled, hold_of}
use Rattle.pm_world.specs.Lanes.{own, owns, has, TurnFits, SightFits, Flies, Bits}
use Rattle.pm_world.proofs.Going.{Turned}
use Rattle.pm_world.specs.Memory.{Memory, PoolWord, bit, run_told, huge_told, cells_of}
use Rattle.pm_world.specs.World.{Opening, Views, Past, origin, ghost_of, settled_words, World}
use Rattle.pm_world.proofs.Finds.{maker_of, Shows, shown_there, own_found, class_told, same_descr, span_told, finds}
use Rattle.pm_world.proofs.StepLocks.{forgets, fresh_same, and_at}
use Rattle.pm_world.proofs.Frame.{maker_owns, no_run, soiled_owned, disjoint, mine_own, own_has, found_has, small_cases}
use Rattle.pm_world.proofs.Looks.{passed, block_at_huge, unpictured, made_data}
use Rattle.pm_world.proofs.Values.{val_from}

module _ (o : Opening) (mem : Memory) (views : Views) (g : Past) (x : World o mem views g) (k : ℕ) (ink : k < o.lanes) (early : is_early (views k).log.phase ≡ true) where
  fit : (j : ℕ) → SightFits o.shape (cells_of o.shape mem) (settled_words o g) (Flies (ghost_of g) j) (ghost_of g) j (sight_of (views j))
  fit j = x.bits.each_lane j

  shape_is : (views k).fixed.shape ≡ o.shape
  shape_is = (x.each_lane k ink).shape

  module _ (c n : ℕ) (inside : c < chunks_of o.shape) (word : n ≡ mem (PoolWord (word_of_descriptor o.shape c))) where
    abbrev now : Block → Bool
    now = shown_by_descriptor (views k).fixed.shape (views k).claims c n

    shown_big : (f : ℕ) → now (Big f) ≡ true → (f ≡ c) × (is_huge n ≡ true) × (holds (views k).claims (line_of_chunk (views k).fixed.shape f) ≡ true)
    shown_big f e = let h = holds (views k).claims (line_of_chunk (views k).fixed.shape f) in let y = and_parts (f == c) (is_huge n && h) e in let z = and_parts (is_huge n) h y.1 in (eqb-true f c y.0, z.0, z.1)

    no_run_word : is_huge n ≡ true → is_run n ≡ false
    no_run_word e = let z = eqb-true (n % 256) 2 e in ne_eqb (n % 256) 1 (λ q. absurd (omega arith))

    small_word : n < 2 ^ 64
    small_word = subst (λ m. m < 2 ^ 64) (sym word) (x.small (word_of_descriptor o.shape c))

    -- what memory tells of the chunk
    pub told_run : (cells_of o.shape mem).descr c ≡ run_told n
    told_run = cond-true (is_place o.shape (Descr c)) (run_told (mem (PoolWord (word_of_descriptor o.shape c)))) 0 (lt-ltb c (chunks_of o.shape) inside) ∙ ap run_told (sym word)

    pub told_huge : is_huge n ≡ true → (b : ℕ) → read (cells_of o.shape mem).pool (Descr c) b ≡ bit n b
    told_huge e b = ap (λ q. q && huge_told (mem (PoolWord (word_of_descriptor o.shape c))) b) (lt-ltb c (chunks_of o.shape) inside) ∙ (ap (λ m. huge_told m b) (sym word) ∙ ap (λ q. not q && bit n b) (no_run_word e))

    pub told_span : is_huge n ≡ true → val (read (cells_of o.shape mem).pool (Descr c)) 8 56 ≡ n / 256
    told_span e = ap (λ w. val w 8 56) (λ i b. told_huge e b i) ∙ (val_from n 8 56 ∙ (let s = small_word in omega arith))

    second_bit : is_huge n ≡ true → bit n 1 ≡ true
    second_bit e = let z = eqb-true (n % 256) 2 e in eq-eqb (bit_at n 1) 1 (omega arith)

    shown_held : (f : ℕ) → now (Big f) ≡ true → ((locked (views k).claims (header o.shape g.geo (Big f)) || reads (views k).claims (header o.shape g.geo (Big f))) ≡ true) × (read (cells_of o.shape mem).pool (Descr f) 1 ≡ true)
    shown_held f e = let y = shown_big f e in (ap (λ s. holds (views k).claims (line_of_chunk s f)) (sym shape_is) ∙ y.2, subst (λ a. read (cells_of o.shape mem).pool (Descr a) 1 ≡ true) (sym y.0) (told_huge y.1 1 ∙ second_bit y.1))

    -- the block is allocated, and its chunks are those that the word tells
    pub shown_allocated : (f : ℕ) → now (Big f) ≡ true → there (settled_words o g) (Big f) ≡ true
    shown_allocated f e = let y = shown_held f e in shown_there o.shape o.lanes (origin o) (cells_of o.shape mem) (λ j. sight_of (views j)) (ghost_of g) x.bits k ink early (unpictured o mem views g x k ink early) (Big f) y.0 y.1

    pub shown_span : (f : ℕ) → now (Big f) ≡ true → (d : ℕ) → (g.geo.first d == f) ≡ in_span f (n / 256) d
    shown_span f e d = let y = shown_big f e in span_told o.shape o.lanes (origin o) (cells_of o.shape mem) (λ j. sight_of (views j)) (ghost_of g) x.bits k ink early (unpictured o mem views g x k ink early) f (shown_held f e).0 (shown_allocated f e) d
        ∙ ap (λ m. in_span f m d) (ap (λ a. val (read (cells_of o.shape mem).pool (Descr a)) 8 56) y.0 ∙ told_span y.1)

    -- the class that the lane knows of a chunk is as before, or what memory tells
    pub class_after : (d : ℕ) → (class (SawDescriptor c n ∷ (views k).claims) d ≡ class (views k).claims d) ⊎ (class (SawDescriptor c n ∷ (views k).claims) d ≡ (cells_of o.shape mem).descr d)
    class_after d = ⊎_elim (λ (e : ((c == d) && is_run n) ≡ true). let y = and_parts (c == d) (is_run n) e in inr (cond-true ((c == d) && is_run n) (n / 256) (class (views k).claims d) e ∙ (sym (cond-true (is_run n) (n / 256) 0 y.1) ∙ (sym told_run ∙ ap (cells_of o.shape mem).descr (eqb-true c d y.0)))))
        (λ (e : ((c == d) && is_run n) ≡ false). inl (cond-false ((c == d) && is_run n) (n / 256) (class (views k).claims d) e)) (cases_Bool ((c == d) && is_run n))

    knew : (d m : ℕ) → class (SawDescriptor c n ∷ (views k).claims) d ≡ suc m → (cells_of o.shape mem).descr d ≡ suc m
    knew d m e = ⊎_elim (λ (q : class (SawDescriptor c n ∷ (views k).claims) d ≡ class (views k).claims d). (fit k).hold.seen d m (sym q ∙ e)) (λ (q : class (SawDescriptor c n ∷ (views k).claims) d ≡ (cells_of o.shape mem).descr d). sym q ∙ e) (class_after d)

    -- chunks of the block are no runs
    pub no_class : (d : ℕ) → now (Big (g.geo.first d)) ≡ true → class (SawDescriptor c n ∷ (views k).claims) d ≡ 0
    no_class d e = by_class (class (SawDescriptor c n ∷ (views k).claims) d) refl
      where
        th : there (settled_words o g) (Big (g.geo.first d)) ≡ true
        th = shown_allocated (g.geo.first d) e

        none_makes : (j : ℕ) → (sight_of (views j)).hold.making d ≡ false
        none_makes j = false_from_ne_true ((sight_of (views j)).hold.making d) (λ q. let y = maker_owns o.shape (cells_of o.shape mem) (settled_words o g) (Flies (ghost_of g) j) (ghost_of g) x.bits.geo j (sight_of (views j)) (fit j) d q in
            both_ways (there (settled_words o g) (Big d)) ((fit j).hold.mine (Big d) ((fit j).hold.making d q).0).2 (subst (λ a. there (settled_words o g) (Big a) ≡ true) y.1 th))

        by_class : (m : ℕ) → class (SawDescriptor c n ∷ (views k).claims) d ≡ m → class (SawDescriptor c n ∷ (views k).claims) d ≡ 0
        by_class zero q = q
        by_class (suc m) q = let z = knew d m q in let r : (cells_of o.shape mem).descr d ≡ 0 = x.bits.descr d none_makes ∙ ap (λ b. cond b (g.geo.class d) 0) (x.bits.geo.huge d th) in absurd (omega arith)

    -- a word that was soiled as a huge block's is none of a run
    soiled_huge : (d a b m : ℕ) → (sight_of (views k)).soiled (InHuge d a) b ≡ true → (cells_of o.shape mem).descr d ≡ suc m → ⊥
    soiled_huge d a b m s e = let w = soiled_owned o.shape (cells_of o.shape mem) (settled_words o g) (Flies (ghost_of g) k) (ghost_of g) x.bits.geo k (sight_of (views k)) (fit k) (InHuge d a) b s in
        let r = no_run o.shape (cells_of o.shape mem) (settled_words o g) (Flies (ghost_of g) k) (ghost_of g) x.bits.geo k (sight_of (views k)) (fit k) d w in
        ⊎_elim (λ (y : (j : ℕ) × ((sight_of (views j)).hold.making d ≡ true)). ⊎_elim (λ (q : y.0 ≡ k). both_ways ((sight_of (views k)).hold.making d) ((fit k).soiled (InHuge d a) b s).1 (subst (λ i. (sight_of (views i)).hold.making d ≡ true) q y.1))
        (λ (ne : y.0 ≢ k). let z = maker_owns o.shape (cells_of o.shape mem) (settled_words o g) (Flies (ghost_of g) y.0) (ghost_of g) x.bits.geo y.0 (sight_of (views y.0)) (fit y.0) d y.1 in
        both_ways (own (sight_of (views k)).hold (Big d)) (disjoint o.shape (cells_of o.shape mem) (settled_words o g) (Flies (ghost_of g) y.0) (Flies (ghost_of g) k) (ghost_of g) x.bits.geo x.bits.alone y.0 k (sight_of (views y.0)) (sight_of (views k)) (fit y.0) (fit k) ne (Big d) z.0)
        (subst (λ i. own (sight_of (views k)).hold (Big i) ≡ true) z.1 w)) (cases_eq y.0 k))
        (λ (y : (j : ℕ) → (sight_of (views j)).hold.making d ≡ false). let z : (cells_of o.shape mem).descr d ≡ 0 = x.bits.descr d y ∙ ap (λ q. cond q (g.geo.class d) 0) r in absurd (omega arith))
        (maker_of o.shape o.lanes (origin o) (cells_of o.shape mem) (λ j. sight_of (views j)) (ghost_of g) x.bits k ink early (unpictured o mem views g x k ink early) d)

    -- ---- the first chunk of the block that a chunk is in, as the lane knows it then
    abbrev first' : ℕ → ℕ
    first' = first (views k).fixed.shape (SawDescriptor c n ∷ (views k).claims)

    abbrev span' : ℕ → ℕ
    span' = span (views k).fixed.shape (SawDescriptor c n ∷ (views k).claims)

    abbrev found_now : ℕ → Bool
    found_now f = found (views k).fixed.shape (views k).claims (Big f)

    span_new : (f : ℕ) → now (Big f) ≡ true → found_now f ≡ false → span' f ≡ n / 256
    span_new f e u = cond-true (now (Big f) && not (found_now f)) (n / 256) (span (views k).fixed.shape (views k).claims f) (and_from (now (Big f)) (not (found_now f)) e (ap not u))

    span_old : (f : ℕ) → (now (Big f) ≡ false) ⊎ (found_now f ≡ true) → span' f ≡ span (views k).fixed.shape (views k).claims f
    span_old f u = cond-false (now (Big f) && not (found_now f)) (n / 256) (span (views k).fixed.shape (views k).claims f) (⊎_elim (λ (e : now (Big f) ≡ false). ap (λ q. q && not (found_now f)) e)
        (λ (e : found_now f ≡ true). Rattle.std.proofs.lemmas.Bool.and_right (now (Big f)) (not (found_now f)) (ap not e)) u)

    -- the span that the lane then knows of a block that it has, or that is shown, is so
    span_so : (f d : ℕ) → (now (Big f) ≡ true) ⊎ (has (sight_of (views k)).hold (Big f) ≡ true) → (g.geo.first d == f) ≡ in_span f (span' f) d
    span_so f d u = ⊎_elim (λ (q : found_now f ≡ true). (fit k).hold.span f (found_has (sight_of (views k)).hold (Big f) q) d ∙ ap (λ m. in_span f m d) (sym (span_old f (inr q))))
        (λ (q : found_now f ≡ false). ⊎_elim (λ (e : now (Big f) ≡ true). shown_span f e d ∙ ap (λ m. in_span f m d) (sym (span_new f e q)))
        (λ (e : now (Big f) ≡ false). (fit k).hold.span f (⊎_elim (λ (z : now (Big f) ≡ true). absurd (both_ways (now (Big f)) e z)) (λ (z : has (sight_of (views k)).hold (Big f) ≡ true). z) u) d ∙ ap (λ m. in_span f m d) (sym (span_old f (inl e)))) (cases_Bool (now (Big f)))) (cases_Bool (found_now f))

    within_cases : (s : ℕ → ℕ) (l d : ℕ) → (in_span (cond (in_span l (s l) d) l d) (s (cond (in_span l (s l) d) l d)) d ≡ true) ⊎ (cond (in_span l (s l) d) l d ≡ d)
    within_cases s l d = ⊎_elim (λ (q : in_span l (s l) d ≡ true). inl (subst (λ a. in_span a (s a) d ≡ true) (sym (cond-true (in_span l (s l) d) l d q)) q)) (λ (q : in_span l (s l) d ≡ false). inr (cond-false (in_span l (s l) d) l d q)) (cases_Bool (in_span l (s l) d))

    -- a block of the lane's, or shown, that it takes a chunk to be in has the chunk
    first_back : (d : ℕ) → ((now (Big (first' d)) ≡ true) ⊎ (has (sight_of (views k)).hold (Big (first' d)) ≡ true)) → g.geo.first (first' d) ≡ first' d → g.geo.first d ≡ first' d
    first_back d u head = ⊎_elim (λ (q : in_span (first' d) (span' (first' d)) d ≡ true). eqb-true (g.geo.first d) (first' d) (span_so (first' d) d u ∙ q)) (λ (q : first' d ≡ d). ap g.geo.first (sym q) ∙ head) (within_cases span' (last_first (views k).fixed.shape (SawDescriptor c n ∷ (views k).claims) d) d)

    old_back : (d : ℕ) → has (sight_of (views k)).hold (Big ((sight_of (views k)).hold.first d)) ≡ true → g.geo.first ((sight_of (views k)).hold.first d) ≡ (sight_of (views k)).hold.first d → g.geo.first d ≡ (sight_of (views k)).hold.first d
    old_back d u head = ⊎_elim (λ (q : in_span ((sight_of (views k)).hold.first d) ((sight_of (views k)).hold.span ((sight_of (views k)).hold.first d)) d ≡ true). eqb-true (g.geo.first d) ((sight_of (views k)).hold.first d) ((fit k).hold.span ((sight_of (views k)).hold.first d) u d ∙ q))
        (λ (q : (sight_of (views k)).hold.first d ≡ d). ap g.geo.first (sym q) ∙ head) (within_cases (sight_of (views k)).hold.span (last_first (views k).fixed.shape (views k).claims d) d)

    first_in : (d : ℕ) → now (Big (g.geo.first d)) ≡ true → first' d ≡ g.geo.first d
    first_in d e = let f = g.geo.first d in let y = shown_big f e in let l = last_first (views k).fixed.shape (views k).claims d in
        let q : (now (Big c) && in_span c (n / 256) d) ≡ true = subst (λ a. (now (Big a) && in_span a (n / 256) d) ≡ true) y.0 (and_from (now (Big f)) (in_span f (n / 256) d) e (sym (shown_span f e d) ∙ eq-eqb f f refl)) in
        let is : last_first (views k).fixed.shape (SawDescriptor c n ∷ (views k).claims) d ≡ f = cond-true (now (Big c) && in_span c (n / 256) d) c l q ∙ sym y.0 in
        ap (λ a. cond (in_span a (span' a) d) a d) is ∙ cond-true (in_span f (span' f) d) f d (sym (span_so f d (inl e)) ∙ eq-eqb f f refl)

    first_old : (d : ℕ) → now (Big (g.geo.first d)) ≡ false → has (sight_of (views k)).hold (Big (g.geo.first d)) ≡ true → first' d ≡ g.geo.first d
    first_old d u h = let f = g.geo.first d in let l = last_first (views k).fixed.shape (views k).claims d in let s = span (views k).fixed.shape (views k).claims in
        let none_ : (now (Big c) && in_span c (n / 256) d) ≡ false = false_from_ne_true (now (Big c) && in_span c (n / 256) d) (λ q. let y = and_parts (now (Big c)) (in_span c (n / 256) d) q in both_ways (now (Big f)) u (ap (λ a. now (Big a)) (eqb-true f c (shown_span c y.0 d ∙ y.1)) ∙ y.0)) in
        let is : last_first (views k).fixed.shape (SawDescriptor c n ∷ (views k).claims) d ≡ l = cond-false (now (Big c) && in_span c (n / 256) d) c l none_ in
        let was : cond (in_span l (s l) d) l d ≡ f = (fit k).hold.first d h in
        ap (λ a. cond (in_span a (span' a) d) a d) is ∙ ⊎_elim (λ (q : now (Big l) ≡ true). let ne : f ≢ l = λ z. both_ways (now (Big f)) u (ap (λ a. now (Big a)) z ∙ q) in
        cond-false (in_span l (span' l) d) l d (sym (span_so l d (inl q)) ∙ ne_eqb f l ne)
        ∙ ⊎_elim (λ (z : in_span l (s l) d ≡ true). absurd (ne (sym was ∙ cond-true (in_span l (s l) d) l d z))) (λ (z : in_span l (s l) d ≡ false). sym (cond-false (in_span l (s l) d) l d z) ∙ was) (cases_Bool (in_span l (s l) d)))
        (λ (q : now (Big l) ≡ false). ap (λ m. cond (in_span l m d) l d) (span_old l (inl q)) ∙ was) (cases_Bool (now (Big l)))

    -- ---- what the call made stays
    mine_block : (B : Block) → is_made (turn (latest (redos (views k).log.entries)) B) ≡ true → (sight_of (views k)).hold.mine B ≡ true
    mine_block B e = by_turn (views k).log.phase early (turn (latest (redos (views k).log.entries)) B) e ((fit k).turns B)
      where
        by_turn : (ph : Phase) → is_early ph ≡ true → (a : Option Bool) → is_made a ≡ true → TurnFits ph ((sight_of (views k)).hold.locked (header o.shape g.geo B)) ((sight_of (views k)).hold.mine B) ((sight_of (views k)).hold.here B) a → (sight_of (views k)).hold.mine B ≡ true
        by_turn Idle z None s f = absurd (both_ways false refl s)
        by_turn Idle z (Some y) s f = absurd (both_ways false refl (ap given (sym f)))
        by_turn Open z None s f = absurd (both_ways false refl s)
        by_turn Open z (Some true) s f = f
        by_turn Open z (Some false) s f = absurd (both_ways false refl s)
        by_turn (Drawn m) z a s f = absurd (both_ways false refl z)
        by_turn (Sealing m) z a s f = absurd (both_ways false refl z)
        by_turn (Applying es) z a s f = absurd (both_ways false refl z)
        by_turn Clearing z a s f = absurd (both_ways false refl z)
        by_turn (Retiring m) z a s f = absurd (both_ways false refl z)
        by_turn Voiding z a s f = absurd (both_ways false refl z)

    mine_has : (B : Block) → (sight_of (views k)).hold.mine B ≡ true → has (sight_of (views k)).hold B ≡ true
    mine_has B m = own_has (sight_of (views k)).hold B (mine_own (sight_of (views k)).hold B m)

    mine_hidden : (f : ℕ) → (sight_of (views k)).hold.mine (Big f) ≡ true → now (Big f) ≡ false
    mine_hidden f m = false_from_ne_true (now (Big f)) (λ e. both_ways (there (settled_words o g) (Big f)) ((fit k).hold.mine (Big f) m).2 (shown_allocated f e))

    class_same : (d i : ℕ) → (sight_of (views k)).hold.mine (Small d i) ≡ true → class (SawDescriptor c n ∷ (views k).claims) d ≡ class (views k).claims d
    class_same d i m = ⊎_elim (λ (q : class (SawDescriptor c n ∷ (views k).claims) d ≡ class (views k).claims d). q)
        (λ (q : class (SawDescriptor c n ∷ (views k).claims) d ≡ (cells_of o.shape mem).descr d). q ∙ (class_told o.shape o.lanes (origin o) (cells_of o.shape mem) (λ j. sight_of (views j)) (ghost_of g) x.bits k ink early (unpictured o mem views g x k ink early) d i (mine_has (Small d i) m) ∙ sym ((fit k).hold.class d i (mine_has (Small d i) m)))) (class_after d)

    head_of : (f : ℕ) → (sight_of (views k)).hold.mine (Big f) ≡ true → g.geo.first f ≡ f
    head_of f m = eqb-true (g.geo.first f) f ((fit k).hold.mine (Big f) m).1

    same_first : (d : ℕ) → ((sight_of (views k)).hold.mine (Big (first' d)) ≡ true) ⊎ ((sight_of (views k)).hold.mine (Big ((sight_of (views k)).hold.first d)) ≡ true) → first' d ≡ (sight_of (views k)).hold.first d
    same_first d u = ⊎_elim (λ (m : (sight_of (views k)).hold.mine (Big (first' d)) ≡ true). let e = first_back d (inr (mine_has (Big (first' d)) m)) (head_of (first' d) m) in
        sym e ∙ sym ((fit k).hold.first d (subst (λ a. has (sight_of (views k)).hold (Big a) ≡ true) (sym e) (mine_has (Big (first' d)) m))))
        (λ (m : (sight_of (views k)).hold.mine (Big ((sight_of (views k)).hold.first d)) ≡ true). let f = (sight_of (views k)).hold.first d in let e = old_back d (mine_has (Big f) m) (head_of f m) in
        first_old d (ap (λ a. now (Big a)) e ∙ mine_hidden f m) (subst (λ a. has (sight_of (views k)).hold (Big a) ≡ true) (sym e) (mine_has (Big f) m)) ∙ e) u

    either_way : (a b : Bool) → (a ≡ true → a ≡ b) → (b ≡ true → a ≡ b) → a ≡ b
    either_way true b u v = u refl
    either_way false true u v = v refl
    either_way false false u v = refl

    abbrev made_in : ℕ → ℕ → Bool
    made_in d i = is_made (turn (latest (redos (views k).log.entries)) (Small d i))

    abbrev made_big : ℕ → Bool
    made_big f = is_made (turn (latest (redos (views k).log.entries)) (Big f))

    made_same : (p : Place) (b : ℕ) → (is_data p && (is_made (turn (latest (redos (views k).log.entries)) (block_of (geometry (views k).fixed.shape (SawDescriptor c n ∷ (views k).claims)) p b)) || is_recorded (views k).log.records p))
        ≡ (is_data p && (is_made (turn (latest (redos (views k).log.entries)) (block_of (geometry (views k).fixed.shape (views k).claims) p b)) || is_recorded (views k).log.records p))
    made_same (InRun d a) b = let i = part (class (views k).claims d) a b in let i' = part (class (SawDescriptor c n ∷ (views k).claims) d) a b in
        ap (λ q. is_data (InRun d a) && (q || is_recorded (views k).log.records (InRun d a))) (either_way (made_in d i') (made_in d i) (λ e. ap (λ m. made_in d (part m a b)) (class_same d i' (mine_block (Small d i') e))) (λ e. ap (λ m. made_in d (part m a b)) (class_same d i (mine_block (Small d i) e))))
    made_same (InHuge d a) b = ap (λ q. q || is_recorded (views k).log.records (InHuge d a)) (either_way (made_big (first' d)) (made_big ((sight_of (views k)).hold.first d)) (λ e. ap made_big (same_first d (inl (mine_block (Big (first' d)) e)))) (λ e. ap made_big (same_first d (inr (mine_block (Big ((sight_of (views k)).hold.first d)) e)))))
    made_same (Descr d) b = refl
    made_same RootWord b = refl

    -- ---- which words are forgotten
    abbrev is_fresh_block : Block → Bool
    is_fresh_block B = now B && not (found (views k).fixed.shape (views k).claims B)

    abbrev forgotten : Place → Bool
    forgotten p = is_new now (found (views k).fixed.shape (views k).claims) (block_at (views k).fixed.shape (SawDescriptor c n ∷ (views k).claims) (word_of (views k).fixed.shape p))

    -- no run is where a block is shown, nor is a chunk made one
    no_small : (d i : ℕ) → now (Big (g.geo.first d)) ≡ true → own (sight_of (views k)).hold (Small d i) ≡ true → ⊥
    no_small d i e w = let th = shown_allocated (g.geo.first d) e in ⊎_elim (λ (r : g.runs d ≡ true). both_ways (g.runs d) (x.bits.geo.huge d th) r)
        (λ (r : (sight_of (views k)).hold.making d ≡ true). let y = maker_owns o.shape (cells_of o.shape mem) (settled_words o g) (Flies (ghost_of g) k) (ghost_of g) x.bits.geo k (sight_of (views k)) (fit k) d r in
        both_ways (there (settled_words o g) (Big d)) ((fit k).hold.mine (Big d) ((fit k).hold.making d r).0).2 (subst (λ a. there (settled_words o g) (Big a) ≡ true) y.1 th))
        (small_cases o.shape (cells_of o.shape mem) (settled_words o g) (Flies (ghost_of g) k) (ghost_of g) x.bits.geo k (sight_of (views k)) (fit k) d i w)

    kept_made : (p : Place) (b : ℕ) → given ((sight_of (views k)).call.fresh p b) ≡ true → forgotten p ≡ false
    kept_made p b e = let y = made_data o mem views g x k ink early p b e in false_from_ne_true (forgotten p) (at p y.0 y.1 y.2)
      where
        chunk : (d a : ℕ) → a < 512 → forgotten (InHuge d a) ≡ true → (now (Big (g.geo.first d)) ≡ true) × (found (views k).fixed.shape (views k).claims (Big (g.geo.first d)) ≡ false)
        chunk d a l q = ⊎_elim (λ (z : (class (SawDescriptor c n ∷ (views k).claims) d ≡ 0) × (is_fresh_block (Big (first' d)) ≡ true)). let s = and_parts (now (Big (first' d))) (not (found (views k).fixed.shape (views k).claims (Big (first' d)))) z.1 in
            let e = first_back d (inl s.0) (x.bits.geo.head (first' d) (shown_allocated (first' d) s.0)) in
            (ap (λ f. now (Big f)) e ∙ s.0, ap (λ f. found (views k).fixed.shape (views k).claims (Big f)) e ∙ false_from_ne_true (found (views k).fixed.shape (views k).claims (Big (first' d))) (λ y. both_ways false refl (sym (ap not y) ∙ s.1))))
            (λ (z : (m : ℕ) × (class (SawDescriptor c n ∷ (views k).claims) d ≡ suc m) × (is_fresh_block (Small d (part (class (SawDescriptor c n ∷ (views k).claims) d) a 64)) ≡ true)). absurd (both_ways false refl z.2))
            (passed (views k).fixed.shape (SawDescriptor c n ∷ (views k).claims) d a l is_fresh_block q).1

        at : (p : Place) → is_data p ≡ true → is_pictured p ≡ true → owns g.geo (settled_words o g) (sight_of (views k)).hold p b ≡ true → forgotten p ≡ true → ⊥
        at (InRun d a) dt pt w q = no_small d (part (g.geo.class d) a b) (chunk d a (ltb-true a 512 (and_parts (nat_le 8 a) (nat_lt a 512) pt).1) q).0 w
        at (InHuge d a) dt pt w q = let s = chunk d a (ltb-true a 512 pt) q in both_ways (found (views k).fixed.shape (views k).claims (Big (g.geo.first d))) s.1
            (own_found o.shape o.lanes (origin o) (cells_of o.shape mem) (λ j. sight_of (views j)) (ghost_of g) x.bits k ink early (unpictured o mem views g x k ink early) (Big (g.geo.first d)) (shown_allocated (g.geo.first d) s.0) w)
        at (Descr d) dt pt w q = both_ways false refl dt
        at RootWord dt pt w q = both_ways false refl dt

    saw_less : (p : Place) (b : ℕ) (y : Bool) → picture (views k).fixed.shape (SawDescriptor c n ∷ (views k).claims) p b ≡ Some y → picture (views k).fixed.shape (views k).claims p b ≡ Some y
    saw_less p b y e = forgets (is_pictured p) (forgotten p) (pictured (views k).fixed.shape (views k).claims (word_of (views k).fixed.shape p)) (λ z. bit_at z b == 1) y e

    pub saw_same : (p : Place) (b : ℕ) → given ((sight_of (views k)).call.fresh p b) ≡ true → picture (views k).fixed.shape (SawDescriptor c n ∷ (views k).claims) p b ≡ picture (views k).fixed.shape (views k).claims p b
    saw_same p b e = ap (λ q. cond (is_pictured p) (option_map (λ z. bit_at z b == 1) (cond q None (pictured (views k).fixed.shape (views k).claims (word_of (views k).fixed.shape p)))) None) (kept_made p b e)

    saw_fresh : (p : Place) (b : ℕ) → fresh (views k).fixed.shape (SawDescriptor c n ∷ (views k).claims) (views k).log p b ≡ (sight_of (views k)).call.fresh p b
    saw_fresh p b = let v = views k in ap (λ q. cond q (picture v.fixed.shape (SawDescriptor c n ∷ v.claims) p b) None) (made_same p b)
        ∙ fresh_same (is_data p && (is_made (turn (latest (redos v.log.entries)) (block_of (geometry v.fixed.shape v.claims) p b)) || is_recorded v.log.records p)) (picture v.fixed.shape v.claims p b) (picture v.fixed.shape (SawDescriptor c n ∷ v.claims) p b) (saw_less p b) (saw_same p b)

    -- the chunks of a block that is shown are the pool's
    in_pool : (d : ℕ) → now (Big (g.geo.first d)) ≡ true → d < chunks_of o.shape
    in_pool d e = let f = g.geo.first d in let y = shown_big f e in let th = shown_allocated f e in
        let z : f % 64 + n / 256 ≤ 64 = subst (λ m. f % 64 + m ≤ 64) (ap (λ w. val w 8 56) (λ i b. sym (same_descr o.shape o.lanes (origin o) (cells_of o.shape mem) (λ j. sight_of (views j)) (ghost_of g) x.bits k ink early (unpictured o mem views g x k ink early) f (shown_held f e).0 th b) i)
        ∙ (ap (λ a. val (read (cells_of o.shape mem).pool (Descr a)) 8 56) y.0 ∙ told_span y.1)) (x.bits.geo.in_zone f th) in
        let s = and_parts (nat_le f d) (nat_lt d (f + n / 256)) (sym (shown_span f e d) ∙ eq-eqb f f refl) in let a = leb-true f d s.0 in let b = ltb-true d (f + n / 256) s.1 in let i : f < chunks_of o.shape = subst (λ m. m < chunks_of o.shape) (sym y.0) inside in omega arith

    -- the words of a block that is newly found are known no more
    saw_dark : (p : Place) (b : ℕ) → now (block_of g.geo p b) ≡ true → found (views k).fixed.shape (views k).claims (block_of g.geo p b) ≡ false → picture (views k).fixed.shape (SawDescriptor c n ∷ (views k).claims) p b ≡ None
    saw_dark (InRun d a) b e u = absurd (both_ways false refl e)
    saw_dark (InHuge d a) b e u = by_place (is_pictured (InHuge d a)) refl
      where
        dim : (q : Bool) (v : Option ℕ) → q ≡ true → option_map (λ z. bit_at z b == 1) (cond q None v) ≡ None
        dim true v e = refl
        dim false v e = absurd (both_ways false refl e)

        by_place : (q : Bool) → is_pictured (InHuge d a) ≡ q → cond q (option_map (λ z. bit_at z b == 1) (cond (forgotten (InHuge d a)) None (pictured (views k).fixed.shape (views k).claims (word_of (views k).fixed.shape (InHuge d a))))) None ≡ None
        by_place false z = refl
        by_place true z = let f = g.geo.first d in dim (forgotten (InHuge d a)) (pictured (views k).fixed.shape (views k).claims (word_of (views k).fixed.shape (InHuge d a)))
            (ap (passes is_fresh_block) (block_at_huge (views k).fixed.shape (SawDescriptor c n ∷ (views k).claims) d a (ltb-true a 512 z) (subst (λ h. d < chunks_of h) (sym shape_is) (in_pool d e)) (no_class d e))
            ∙ (ap (λ m. is_fresh_block (Big m)) (first_in d e) ∙ and_from (now (Big f)) (not (found (views k).fixed.shape (views k).claims (Big f))) e (ap not u)))
    saw_dark (Descr d) b e u = refl
    saw_dark RootWord b e u = absurd (both_ways false refl e)

    -- what is undrained is so in the use that it had
    class_kept : (d a b : ℕ) → (nat_lt a 512 && is_dirty_bit (views k).changes (word_of (views k).fixed.shape (InHuge d a)) b) ≡ true → class (SawDescriptor c n ∷ (views k).claims) d ≡ class (views k).claims d
    class_kept d a b e = ⊎_elim (λ (q : class (SawDescriptor c n ∷ (views k).claims) d ≡ class (views k).claims d). q) (λ (q : class (SawDescriptor c n ∷ (views k).claims) d ≡ (cells_of o.shape mem).descr d). by_class q (class (views k).claims d) refl (class (SawDescriptor c n ∷ (views k).claims) d) refl) (class_after d)
      where
        by_class : class (SawDescriptor c n ∷ (views k).claims) d ≡ (cells_of o.shape mem).descr d → (m : ℕ) → class (views k).claims d ≡ m → (m' : ℕ) → class (SawDescriptor c n ∷ (views k).claims) d ≡ m' → class (SawDescriptor c n ∷ (views k).claims) d ≡ class (views k).claims d
        by_class q (suc m) r m' r' = q ∙ ((fit k).hold.seen d m r ∙ sym r)
        by_class q zero r zero r' = r' ∙ sym r
        by_class q zero r (suc m') r' = let y = and_parts (nat_lt a 512) (is_dirty_bit (views k).changes (word_of (views k).fixed.shape (InHuge d a)) b) e in
            absurd (soiled_huge d a b m' (and_from (nat_lt a 512 && (class (views k).claims d == 0)) (is_dirty_bit (views k).changes (word_of (views k).fixed.shape (InHuge d a)) b) (and_from (nat_lt a 512) (class (views k).claims d == 0) y.0 (eq-eqb (class (views k).claims d) 0 r)) y.1) (sym q ∙ r'))

    saw_soiled : (p : Place) (b : ℕ) → is_soiled (views k).fixed.shape (hold_of (views k).fixed.shape (SawDescriptor c n ∷ (views k).claims)) (views k).changes p b ≡ true → (sight_of (views k)).soiled p b ≡ true
    saw_soiled (InRun d a) b e = let D = is_dirty_bit (views k).changes (word_of (views k).fixed.shape (InRun d a)) b in let y = and_parts (nat_lt a 512 && not (class (SawDescriptor c n ∷ (views k).claims) d == 0)) D e in
        let z = and_parts (nat_lt a 512) (not (class (SawDescriptor c n ∷ (views k).claims) d == 0)) y.0 in ap (λ m. (nat_lt a 512 && not (m == 0)) && D) (sym (class_kept d a b (and_from (nat_lt a 512) D z.0 y.1))) ∙ e
    saw_soiled (InHuge d a) b e = let D = is_dirty_bit (views k).changes (word_of (views k).fixed.shape (InHuge d a)) b in let y = and_parts (nat_lt a 512 && (class (SawDescriptor c n ∷ (views k).claims) d == 0)) D e in
        let z = and_parts (nat_lt a 512) (class (SawDescriptor c n ∷ (views k).claims) d == 0) y.0 in ap (λ m. (nat_lt a 512 && (m == 0)) && D) (sym (class_kept d a b (and_from (nat_lt a 512) D z.0 y.1))) ∙ e
    saw_soiled (Descr d) b e = e
    saw_soiled RootWord b e = e

    shows : (B : Block) → now B ≡ true → ((locked (views k).claims (header o.shape g.geo B) || reads (views k).claims (header o.shape g.geo B)) ≡ true) × Shows o.shape o.lanes (origin o) (cells_of o.shape mem) (λ j. sight_of (views j)) (ghost_of g) x.bits k ink early (unpictured o mem views g x k ink early) B
    shows (Small d i) e = absurd (both_ways false refl e)
    shows (Big f) e = shown_held f e
    shows Root e = absurd (both_ways false refl e)

    -- the header's line, as the lane then knows it, of a block that is found
    pub header_then : (B : Block) → found (views k).fixed.shape (SawDescriptor c n ∷ (views k).claims) B ≡ true → header_in (views k).fixed.shape (SawDescriptor c n ∷ (views k).claims) B ≡ header o.shape g.geo B
    header_then (Small d i) e = let h = found_has (sight_of (views k)).hold (Small d i) e in ap (λ s. line_of_chunk s d + (1 + class (SawDescriptor c n ∷ (views k).claims) d * i)) shape_is ∙ ap (λ m. line_of_chunk o.shape d + (1 + m * i))
        (⊎_elim (λ (q : class (SawDescriptor c n ∷ (views k).claims) d ≡ class (views k).claims d). q ∙ (fit k).hold.class d i h) (λ (q : class (SawDescriptor c n ∷ (views k).claims) d ≡ (cells_of o.shape mem).descr d). q ∙ class_told o.shape o.lanes (origin o) (cells_of o.shape mem) (λ j. sight_of (views j)) (ghost_of g) x.bits k ink early (unpictured o mem views g x k ink early) d i h) (class_after d))
    header_then (Big f) e = ap (λ s. line_of_chunk s f) shape_is
    header_then Root e = refl

    -- A LOAD OF A DESCRIPTOR keeps the world over bits
    pub saw_descriptor : (sights' : ℕ → Sight) → Turned (λ j. sight_of (views j)) sights' k (sight_by (views k).fixed.shape (views k).fixed.lane (SawDescriptor c n ∷ (views k).claims) (views k).log (views k).changes) → Bits o.shape o.lanes (origin o) (cells_of o.shape mem) sights' (ghost_of g)
    saw_descriptor sights' t = let v = views k in let t' = SawDescriptor c n ∷ v.claims in
        finds o.shape o.lanes (origin o) (cells_of o.shape mem) (λ j. sight_of (views j)) (ghost_of g) x.bits k ink early (unpictured o mem views g x k ink early) now (found v.fixed.shape t') (here v.fixed.shape t') (class t') (span v.fixed.shape t') (first v.fixed.shape t') (picture v.fixed.shape t') (is_soiled v.fixed.shape (hold_of v.fixed.shape t') v.changes) record {
          shows = shows;
          found = λ B. refl;
          here = λ B. and_at (found v.fixed.shape t' B) (locked v.claims (header_in v.fixed.shape t' B)) (locked v.claims (header o.shape g.geo B)) (λ e. ap (locked v.claims) (header_then B e));
          class = class_after;
          knows = λ d i e. absurd (both_ways false refl e);
          span_new = λ f e u. span_new f e u ∙ sym (ap (λ a. val (read (cells_of o.shape mem).pool (Descr a)) 8 56) (shown_big f e).0 ∙ told_span (shown_big f e).1);
          span_old = span_old;
          first_in = first_in;
          first_old = first_old;
          less = saw_less;
          dark = saw_dark;
          fresh = λ p b y e. saw_same p b (ap given e) ∙ (fit k).fresh p b y e;
          soiled = saw_soiled;
        } sights' record { here = t.here ∙ (λ i. record (sight_by v.fixed.shape v.fixed.lane t' v.log v.changes) { call = record { entries = redos v.log.entries; fresh = λ p b. saw_fresh p b i } }); else_ = t.else_ }
