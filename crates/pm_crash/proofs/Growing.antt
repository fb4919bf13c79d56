-- A LANE THAT KNOWS NO LESS after a step, by its claims before and after and by the world at both: the
-- blocks that it found and has are of the same class and chunks, so each place is of the same block.
use Rattle.std.proofs.Common.{◌≡◌, ◌⊎◌, ⊎_elim, ℕ, zero, suc, ◌+◌, ◌*◌, ◌<◌, ◌==◌, ◌||◌, nat_lt, Bool, true, Some, refl, sym, ap, ◌∙◌, subst, arith, eq-eqb}
use Rattle.std.specs.List.{list_any}
use Rattle.std.proofs.lemmas.Bool.{and_from, and_parts, both_ways, eqb-true, or_cases, or_left, or_right}
use Rattle.pm_layout.specs.Chunks.{chunks_of, word_of_chunk}
use Rattle.pm_layout.specs.Sizes.{blocks_of}
use Rattle.pm_model.specs.Blocks.{Block as Placed}
use Rattle.pm_view.specs.Claims.{class, first, holds, span}
use Rattle.pm_view.specs.Places.{Place, InRun, InHuge, Descr, RootWord, Block, Small, Big, Root, in_span, part}
use Rattle.pm_view.specs.View.{Constants, View}
use Rattle.pm_world.specs.States.{spans, there}
use Rattle.pm_world.specs.Sights.{is_recorded, sight_of}
use Rattle.pm_world.specs.Lanes.{Flies, SightFits, has}
use Rattle.pm_world.specs.Memory.{Memory, cells_of}
use Rattle.pm_world.specs.BlockLines.{IsInSmall, IsLineOf, OwnHas}
use Rattle.pm_world.specs.World.{Opening, Views, Past, World, ghost_of, settled_words}
use Rattle.pm_world.proofs.BlocksKnown.{first_so}
use Rattle.pm_world.proofs.Frame.{found_has, mine_own, own_has}
use Rattle.pm_crash.specs.Footprints.{bit_before, geometry_of, has_found, has_own}
use Rattle.pm_crash.specs.Roots.{saw_root}
use Rattle.pm_crash.specs.Sim.{Grows, IsInObject, IsSamePlace, blocks_kept, is_kept_block, known_offset, sees_at}

module _ (o : Opening) (old mem : Memory) (views new : Views) (g g' : Past) (k : ℕ) (x : World o old views g) (x' : World o mem new g')
    (ink : k < o.lanes) (next : View) (here : new k ≡ next) (fixed : next.fixed ≡ (views k).fixed)
    (same : settled_words o g' ≡ settled_words o g) (classes : (c : ℕ) → g.runs c ≡ true → g'.geo.class c ≡ g.geo.class c) where
  abbrev v : View
  v = views k

  fit : SightFits o.shape (cells_of o.shape old) (settled_words o g) (Flies (ghost_of g) k) (ghost_of g) k (sight_of (views k))
  fit = x.bits.each_lane k

  fit' : SightFits o.shape (cells_of o.shape mem) (settled_words o g') (Flies (ghost_of g') k) (ghost_of g') k (sight_of next)
  fit' = subst (λ (y : View). SightFits o.shape (cells_of o.shape mem) (settled_words o g') (Flies (ghost_of g') k) (ghost_of g') k (sight_of y)) here (x'.bits.each_lane k)

  -- no block is found and the lane's own
  pub found_own : (B : Block) → has_found next B ≡ true → has_own next B ≡ true → ⊥
  found_own B f m = both_ways (there (settled_words o g') B) (fit'.hold.mine B m).2 (fit'.hold.found B f).2

  run_of : (c i : ℕ) → (has_found (views k) (Small c i) || has_own (views k) (Small c i)) ≡ true → g.runs c ≡ true
  run_of c i t = ⊎_elim
      (λ (f : has_found (views k) (Small c i) ≡ true). (and_parts (g.runs c) (nat_lt i (blocks_of (g.geo.class c))) (fit.hold.found (Small c i) f).1).0)
      (λ (m : has_own (views k) (Small c i) ≡ true). (and_parts (g.runs c) (nat_lt i (blocks_of (g.geo.class c))) (fit.hold.mine (Small c i) m).1).0)
      (or_cases (has_found (views k) (Small c i)) (has_own (views k) (Small c i)) t)

  has_of : (y : View) (B : Block) → (has_found y B || has_own y B) ≡ true → has (sight_of y).hold B ≡ true
  has_of y B t = ⊎_elim
      (λ (f : has_found y B ≡ true). found_has (sight_of y).hold B f)
      (λ (m : has_own y B ≡ true). own_has (sight_of y).hold B (mine_own (sight_of y).hold B m))
      (or_cases (has_found y B) (has_own y B) t)

  -- A RUN IS OF THE SAME CLASS
  pub class_so : (c i : ℕ) → (has_found (views k) (Small c i) || has_own (views k) (Small c i)) ≡ true
      → (has_found next (Small c i) || has_own next (Small c i)) ≡ true → class next.claims c ≡ class (views k).claims c
  class_so c i t t' = fit'.hold.class c i (has_of next (Small c i) t') ∙ (classes c (run_of c i t) ∙ sym (fit.hold.class c i (has_of (views k) (Small c i) t)))

  -- a run that it knows to be one is none of a huge block
  pub class_some : (c i : ℕ) → (has_found (views k) (Small c i) || has_own (views k) (Small c i)) ≡ true → (n : ℕ) × (class (views k).claims c ≡ suc n)
  class_some c i t = by (class (views k).claims c) refl
    where
      by : (m : ℕ) → class (views k).claims c ≡ m → (n : ℕ) × (class (views k).claims c ≡ suc n)
      by zero e = absurd (let a = (x.bits.geo.classes c (run_of c i t)).0 in let q : g.geo.class c ≡ 0 = sym (fit.hold.class c i (has_of (views k) (Small c i) t)) ∙ e in omega arith)
      by (suc n) e = (n, e)

  module _ (founds : (B : Block) → has_found (views k) B ≡ true → has_found next B ≡ true) where
    pub found_class : (c i : ℕ) → has_found (views k) (Small c i) ≡ true → class next.claims c ≡ class (views k).claims c
    found_class c i f = class_so c i (or_left (has_found (views k) (Small c i)) (has_own (views k) (Small c i)) f)
        (or_left (has_found next (Small c i)) (has_own next (Small c i)) (founds (Small c i) f))

    -- A HUGE BLOCK that it found has the same chunks
    first_is : (c : ℕ) → has_found (views k) (Big (first (views k).fixed.shape (views k).claims c)) ≡ true
        → first (views k).fixed.shape (views k).claims c ≡ g.geo.first c
    first_is c f = first_so o.shape (cells_of o.shape old) (settled_words o g) (Flies (ghost_of g) k) (ghost_of g) x.bits.geo k (views k) (views k).log.phase fit c
        (found_has (sight_of (views k)).hold (Big (first (views k).fixed.shape (views k).claims c)) f)

    pub found_first : (c : ℕ) → has_found (views k) (Big (first (views k).fixed.shape (views k).claims c)) ≡ true
        → first next.fixed.shape next.claims c ≡ first (views k).fixed.shape (views k).claims c
    found_first c t =
        let f : ℕ = first (views k).fixed.shape (views k).claims c in
        let e : f ≡ g.geo.first c = first_is c t in
        let a = x.bits.geo.shape f (fit.hold.found (Big f) t).2 c in
        let b = x'.bits.geo.shape f (fit'.hold.found (Big f) (founds (Big f) t)).2 c in
        let s : spans (settled_words o g' (Descr f)) f c ≡ spans (settled_words o g (Descr f)) f c = λ i. spans (same i (Descr f)) f c in
        let q : g'.geo.first c ≡ f = eqb-true (g'.geo.first c) f (b ∙ (s ∙ (sym a ∙ eq-eqb (g.geo.first c) f (sym e)))) in
        fit'.hold.first c (found_has (sight_of next).hold (Big (g'.geo.first c)) (subst (λ y. has_found next (Big y) ≡ true) (sym q) (founds (Big f) t))) ∙ q

    -- and none of its chunks is a run
    pub huge_no_run : (c i : ℕ) → has_found (views k) (Big (first (views k).fixed.shape (views k).claims c)) ≡ true → (has_found next (Small c i) || has_own next (Small c i)) ≡ true → ⊥
    huge_no_run c i t t' =
        let f : ℕ = first (views k).fixed.shape (views k).claims c in
        let a = x.bits.geo.shape f (fit.hold.found (Big f) t).2 c in
        let b = x'.bits.geo.shape f (fit'.hold.found (Big f) (founds (Big f) t)).2 c in
        let s : spans (settled_words o g' (Descr f)) f c ≡ spans (settled_words o g (Descr f)) f c = λ i. spans (same i (Descr f)) f c in
        let q : g'.geo.first c ≡ f = eqb-true (g'.geo.first c) f (b ∙ (s ∙ (sym a ∙ eq-eqb (g.geo.first c) f (sym (first_is c t))))) in
        let none = x'.bits.geo.huge c (subst (λ n. there (settled_words o g') (Big n) ≡ true) (sym q) (fit'.hold.found (Big f) (founds (Big f) t)).2) in
        both_ways (g'.runs c) none (⊎_elim
        (λ (d : has_found next (Small c i) ≡ true). (and_parts (g'.runs c) (nat_lt i (blocks_of (g'.geo.class c))) (fit'.hold.found (Small c i) d).1).0)
        (λ (m : has_own next (Small c i) ≡ true). (and_parts (g'.runs c) (nat_lt i (blocks_of (g'.geo.class c))) (fit'.hold.mine (Small c i) m).1).0)
        (or_cases (has_found next (Small c i)) (has_own next (Small c i)) t'))

    pub sees_on : (holds (views k).claims 0 ≡ true → holds next.claims 0 ≡ true) → (p : Place) (b : ℕ) → sees_at (views k) p b ≡ true
        → (sees_at next p b ≡ true) × IsSamePlace (views k) next p
    sees_on root (InRun c u) b t =
        let e = found_class c (part (class (views k).claims c) u b) t in
        (subst (λ n. has_found next (Small c (part n u b)) ≡ true) (sym e) (founds (Small c (part (class (views k).claims c) u b)) t), e)
    sees_on root (InHuge c u) b t =
        let e = found_first c t in
        (subst (λ n. has_found next (Big n) ≡ true) (sym e) (founds (Big (first (views k).fixed.shape (views k).claims c)) t), e)
    sees_on root (Descr c) b t =
        let e = found_first c t in
        (subst (λ n. has_found next (Big n) ≡ true) (sym e) (founds (Big (first (views k).fixed.shape (views k).claims c)) t), tt)
    sees_on root RootWord b t = (root t, tt)

    -- ALL THAT IT KNOWS, where that is so by the claims
    module _ (kept : Bool) (owns : (B : Block) → is_kept_block (views k) kept B ≡ true → has_own next B ≡ true)
        (found_spans : (f : ℕ) → has_found (views k) (Big f) ≡ true → span next.fixed.shape next.claims f ≡ span (views k).fixed.shape (views k).claims f)
        (own_spans : (f : ℕ) → is_kept_block (views k) kept (Big f) ≡ true → span next.fixed.shape next.claims f ≡ span (views k).fixed.shape (views k).claims f)
        (calls : blocks_kept kept next ≡ blocks_kept kept (views k)) where
      pub kept_own : (B : Block) → is_kept_block (views k) kept B ≡ true → has_own (views k) B ≡ true
      kept_own B t = (and_parts (has_own (views k) B) (list_any (λ (b : Placed). b.off == known_offset (views k) B) (blocks_kept kept (views k))) t).0

      known_class : (c i : ℕ) → (has_found (views k) (Small c i) || is_kept_block (views k) kept (Small c i)) ≡ true → class next.claims c ≡ class (views k).claims c
      known_class c i t = ⊎_elim
          (λ (f : has_found (views k) (Small c i) ≡ true). found_class c i f)
          (λ (m : is_kept_block (views k) kept (Small c i) ≡ true). class_so c i
          (or_right (has_found (views k) (Small c i)) (has_own (views k) (Small c i)) (kept_own (Small c i) m))
          (or_right (has_found next (Small c i)) (has_own next (Small c i)) (owns (Small c i) m)))
          (or_cases (has_found (views k) (Small c i)) (is_kept_block (views k) kept (Small c i)) t)

      own_class : (c i : ℕ) → is_kept_block (views k) kept (Small c i) ≡ true → class next.claims c ≡ class (views k).claims c
      own_class c i m = known_class c i (or_right (has_found (views k) (Small c i)) (is_kept_block (views k) kept (Small c i)) m)

      offset_so : (B : Block) → is_kept_block (views k) kept B ≡ true → known_offset next B ≡ known_offset (views k) B
      offset_so (Small c i) m = (λ j. 64 * (Rattle.pm_layout.specs.Chunks.line_of_chunk (fixed j).shape c + (1 + own_class c i m j * i)) + 64)
      offset_so (Big f) m = ap (λ (y : Constants). 64 * Rattle.pm_layout.specs.Chunks.line_of_chunk y.shape f + 64) fixed
      offset_so Root m = refl

      still_own : (B : Block) → is_kept_block (views k) kept B ≡ true → is_kept_block next kept B ≡ true
      still_own B m =
          let y = and_parts (has_own (views k) B) (list_any (λ (b : Placed). b.off == known_offset (views k) B) (blocks_kept kept (views k))) m in
          and_from (has_own next B) (list_any (λ (b : Placed). b.off == known_offset next B) (blocks_kept kept next)) (owns B m)
          ((λ j. list_any (λ (b : Placed). b.off == offset_so B m j) (calls j)) ∙ y.1)

      lines_on : (B : Block) (line : ℕ) → is_kept_block (views k) kept B ≡ true → OwnHas (views k).fixed.shape (sight_of (views k)).hold (geometry_of (views k)) B line
          → OwnHas next.fixed.shape (sight_of next).hold (geometry_of next) B line
      lines_on (Small c i) line m a = record {
        mine = owns (Small c i) m;
        has = subst (λ (y : Constants). IsInSmall y.shape (class next.claims c) c i line) (sym fixed) (subst (λ n. IsInSmall (views k).fixed.shape n c i line) (sym (own_class c i m)) a.has);
      }
      lines_on (Big f) line m a = record {
        mine = owns (Big f) m;
        has = (
          a.has.0,
          ap (λ n. in_span f n a.has.0) (own_spans f m) ∙ a.has.1,
          subst (λ (y : Constants). Rattle.pm_world.specs.BlockLines.IsInChunk y.shape a.has.0 line) (sym fixed) a.has.2,
        );
      }
      lines_on Root line m a = record { mine = owns Root m; has = a.has }

      pub grown : (holds (views k).claims 0 ≡ true → holds next.claims 0 ≡ true)
          → ((p : Place) (b : ℕ) → sees_at (views k) p b ≡ true → is_recorded (views k).log.records p ≡ true → (is_recorded next.log.records p ≡ true) ⊎ IsInObject next p)
          → ((p : Place) (b : ℕ) (y : Bool) → sees_at (views k) p b ≡ true → bit_before (views k) p b ≡ Some y → bit_before next p b ≡ Some y)
          → ((line value : ℕ) → saw_root (views k).fixed.shape (views k).claims line value ≡ true → saw_root next.fixed.shape next.claims line value ≡ true)
          → Grows (views k) kept next kept
      grown root recorded knows roots = record {
        found = founds;
        spans = found_spans;
        class = known_class;
        own = still_own;
        lines = lines_on;
        sees = sees_on root;
        recorded = recorded;
        knows = knows;
        roots = roots;
      }
