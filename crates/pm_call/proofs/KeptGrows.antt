-- A LANE THAT HAS AND KNOWS WHAT IT DID knows no less of the bits before its call.
use Rattle.std.proofs.Common.{◌≡◌, ◌≢◌, ⊎_elim, inl, ℕ, zero, suc, ◌+◌, ◌*◌, ◌<◌, nat_le, nat_lt, Bool, true, false, ◌==◌, ◌||◌, List, refl, sym, ap, ◌∙◌, subst, arith, Some}
use Rattle.std.specs.List.{list_any}
use Rattle.std.proofs.lemmas.Bool.{and_from, and_parts, both_ways, le-leb, leb-true, lt-ltb, ltb-true, or_cases, or_left, or_right}
use Rattle.pm_layout.specs.Chunks.{chunks_of, word_of_chunk}
use Rattle.pm_model.specs.Blocks.{Block as Placed}
use Rattle.pm_view.specs.Claims.{Claim, class, first, found, geometry, is_held_at, last_first, mine, pictured, span}
use Rattle.pm_view.specs.Log.{place_at}
use Rattle.pm_view.specs.Parts.{chunk_place, place_in}
use Rattle.pm_view.specs.Places.{Place, InRun, InHuge, Descr, RootWord, Block, Small, Big, Root, block_of, in_span, is_data, is_place, part, word_of}
use Rattle.pm_view.specs.Steps.{Step}
use Rattle.pm_view.specs.View.{View}
use Rattle.pm_world.specs.BlockLines.{OwnHas}
use Rattle.pm_world.specs.InWorld.{IsSound}
use Rattle.pm_world.specs.Sights.{is_pictured, picture, sight_of}
use Rattle.pm_world.proofs.WordPlaces.{chunk_part}
use Rattle.pm_crash.specs.Footprints.{geometry_of, has_found, has_own}
use Rattle.pm_crash.specs.Sim.{Grows, IsSamePlace, blocks_kept, is_kept_block, known_offset, sees_at}
use Rattle.pm_crash.proofs.StepKnows as known
use Rattle.pm_lock.specs.Objects.{has}
use Rattle.pm_call.specs.Held.{KnowsOwn}
use Rattle.pm_call.proofs.KeptClaims.{KeepsAll}

-- what is pictured of places that it sees is of the pool
abbrev pub SeesInside : View → Type 0
SeesInside v = (p : Place) (b : ℕ) → sees_at v p b ≡ true → is_pictured p ≡ true → is_place v.fixed.shape p ≡ true

-- what is pictured of places that it sees is so still
abbrev pub KeepsPictures : View → List Claim → Type 0
KeepsPictures v t = (p : Place) (b : ℕ) (y : Bool) → sees_at v p b ≡ true → picture v.fixed.shape v.claims p b ≡ Some y → picture v.fixed.shape t p b ≡ Some y

-- the view with these claims, and with what tries told
abbrev pub locking : View → List Claim → List Step → View
locking v t seen = record v { claims = t; seen = seen }

-- blocks of its own are of runs that it knows still
pub own_on : (v : View) (t : List Claim) (seen : List Step) → KeepsAll v t → KnowsOwn v → KnowsOwn (locking v t seen)
own_on v t seen k own c i m z = let was : has_own v (Small c i) ≡ true = sym (k.mine_same (Small c i)) ∙ m in own c i was (sym (k.class_same c (own c i was)) ∙ z)

module _ (v : View) (t : List Claim) (seen : List Step) (k : KeepsAll v t) (sound : IsSound v) (after_sound : IsSound (locking v t seen)) where
  abbrev next : View
  next = locking v t seen

  has_f : (B : Block) → has_found v B ≡ true → has v B ≡ true
  has_f B f = or_right (mine v.fixed.shape v.claims B) (found v.fixed.shape v.claims B) f

  has_m : (B : Block) → has_own v B ≡ true → has v B ≡ true
  has_m B m = or_left (mine v.fixed.shape v.claims B) (found v.fixed.shape v.claims B) m

  found_class : (c i : ℕ) → has_found v (Small c i) ≡ true → class t c ≡ class v.claims c
  found_class c i f = k.class_same c (sound.small c i f).0

  in_own : (c : ℕ) → has_found v (Big (first v.fixed.shape v.claims c)) ≡ true → in_span (first v.fixed.shape v.claims c) (span v.fixed.shape v.claims (first v.fixed.shape v.claims c)) c ≡ true
  in_own c e = at (in_span (last_first v.fixed.shape v.claims c) (span v.fixed.shape v.claims (last_first v.fixed.shape v.claims c)) c) refl e where
    at : (b : Bool) → in_span (last_first v.fixed.shape v.claims c) (span v.fixed.shape v.claims (last_first v.fixed.shape v.claims c)) c ≡ b
        → has_found v (Big (Rattle.std.proofs.Common.cond b (last_first v.fixed.shape v.claims c) c)) ≡ true
        → in_span (Rattle.std.proofs.Common.cond b (last_first v.fixed.shape v.claims c) c) (span v.fixed.shape v.claims (Rattle.std.proofs.Common.cond b (last_first v.fixed.shape v.claims c) c)) c ≡ true
    at true q e = q
    at false q e = let some = sound.some c e in and_from (nat_le c c) (nat_lt c (c + span v.fixed.shape v.claims c)) (le-leb c c (omega arith)) (lt-ltb c (c + span v.fixed.shape v.claims c) (omega (arith, some)))

  found_first : (c : ℕ) → has_found v (Big (first v.fixed.shape v.claims c)) ≡ true → first v.fixed.shape t c ≡ first v.fixed.shape v.claims c
  found_first c f = let h : ℕ = first v.fixed.shape v.claims c in
      (after_sound.huge h c (k.found_on (Big h) f) (ap (λ n. in_span h n c) (k.span_same h (has_f (Big h) f)) ∙ in_own c f)).0

  sees_on : (p : Place) (b : ℕ) → sees_at v p b ≡ true → (sees_at next p b ≡ true) × IsSamePlace v next p
  sees_on (InRun c u) b f = let e = found_class c (part (class v.claims c) u b) f in
      (subst (λ n. has_found next (Small c (part n u b)) ≡ true) (sym e) (k.found_on (Small c (part (class v.claims c) u b)) f), e)
  sees_on (InHuge c u) b f = let e = found_first c f in
      (subst (λ n. has_found next (Big n) ≡ true) (sym e) (k.found_on (Big (first v.fixed.shape v.claims c)) f), e)
  sees_on (Descr c) b f = let e = found_first c f in
      (subst (λ n. has_found next (Big n) ≡ true) (sym e) (k.found_on (Big (first v.fixed.shape v.claims c)) f), tt)
  sees_on RootWord b f = (k.holds_on 0 f, tt)

  -- ---- what is pictured of places that it sees
  in_chunk : (c u n : ℕ) → c < chunks_of v.fixed.shape → u < 512 → class v.claims c ≡ n → place_at v.fixed.shape (class v.claims) (word_of_chunk v.fixed.shape c + u) ≡ Some (chunk_place n c u)
  in_chunk c u n low small e = ap (place_in (class v.claims)) (chunk_part v.fixed.shape c u small low) ∙ ap (λ m. Some (chunk_place m c u)) e

  some_place : (n c u : ℕ) → n ≢ 0 → chunk_place n c u ≡ InRun c u
  some_place zero c u ne = absurd (ne refl)
  some_place (suc n) c u ne = refl

  held_there : (p : Place) → is_data p ≡ true → place_at v.fixed.shape (class v.claims) (word_of v.fixed.shape p) ≡ Some p → has_found v (block_of (geometry v.fixed.shape v.claims) p 64) ≡ true
      → pictured v.fixed.shape t (word_of v.fixed.shape p) ≡ pictured v.fixed.shape v.claims (word_of v.fixed.shape p)
  held_there p d at f = (k.data_same (word_of v.fixed.shape p) (ap (is_held_at v.fixed.shape v.claims) at
      ∙ and_from (is_data p) (has v (block_of (geometry v.fixed.shape v.claims) p 64)) d (has_f (block_of (geometry v.fixed.shape v.claims) p 64) f))).2

  word_same : (p : Place) (b : ℕ) → sees_at v p b ≡ true → is_pictured p ≡ true → is_place v.fixed.shape p ≡ true
      → pictured v.fixed.shape t (word_of v.fixed.shape p) ≡ pictured v.fixed.shape v.claims (word_of v.fixed.shape p)
  word_same (InRun c u) b f q i =
      let d = and_parts (is_data (InRun c u)) (nat_lt u 512) q in
      let high = leb-true 8 u d.0 in
      let chunk = and_parts (nat_lt c (chunks_of v.fixed.shape)) (nat_lt u 512) i in
      let some = (sound.small c (part (class v.claims c) u b) f).0 in
      held_there (InRun c u) d.0 (in_chunk c u (class v.claims c) (ltb-true c (chunks_of v.fixed.shape) chunk.0) (ltb-true u 512 chunk.1) refl ∙ ap (λ p. Some p) (some_place (class v.claims c) c u some))
      (subst (λ n. has_found v (Small c n) ≡ true) (known.data_part (class v.claims c) u b high) f)
  word_same (InHuge c u) b f q i =
      let h : ℕ = first v.fixed.shape v.claims c in
      let chunk = and_parts (nat_lt c (chunks_of v.fixed.shape)) (nat_lt u 512) i in
      held_there (InHuge c u) refl (in_chunk c u 0 (ltb-true c (chunks_of v.fixed.shape) chunk.0) (ltb-true u 512 chunk.1) (sound.huge h c f (in_own c f)).1) f
  word_same (Descr c) b f q i = absurd (both_ways false refl q)
  word_same RootWord b f q i = k.root_same

  pub pictures_on : SeesInside next → KeepsPictures v t
  pictures_on inside p b y f e =
      let q = (known.of_pictured v.fixed.shape v.claims p b y e).0 in
      known.pictured_alike v.fixed.shape v.claims t p b (word_same p b f q (inside p b (sees_on p b f).0 q)) ∙ e

  module _ (own : KnowsOwn v) (pics : KeepsPictures v t) where
    -- ---- blocks of its own that are to be objects
    kept_own : (kept : Bool) (B : Block) → is_kept_block v kept B ≡ true → has_own v B ≡ true
    kept_own kept B m = (and_parts (has_own v B) (list_any (λ (b : Placed). b.off == known_offset v B) (blocks_kept kept v)) m).0

    own_class : (c i : ℕ) → has_own v (Small c i) ≡ true → class t c ≡ class v.claims c
    own_class c i m = k.class_same c (own c i m)

    offset_so : (B : Block) → has_own v B ≡ true → known_offset next B ≡ known_offset v B
    offset_so (Small c i) m = (λ j. 64 * (Rattle.pm_layout.specs.Chunks.line_of_chunk v.fixed.shape c + (1 + own_class c i m j * i)) + 64)
    offset_so (Big f) m = refl
    offset_so Root m = refl

    still_own : (kept : Bool) (B : Block) → is_kept_block v kept B ≡ true → is_kept_block next kept B ≡ true
    still_own kept B m = let y = and_parts (has_own v B) (list_any (λ (b : Placed). b.off == known_offset v B) (blocks_kept kept v)) m in
        and_from (has_own next B) (list_any (λ (b : Placed). b.off == known_offset next B) (blocks_kept kept next)) (k.mine_same B ∙ y.0)
        (ap (λ n. list_any (λ (b : Placed). b.off == n) (blocks_kept kept v)) (offset_so B y.0) ∙ y.1)

    lines_on : (B : Block) (line : ℕ) → has_own v B ≡ true → OwnHas v.fixed.shape (sight_of v).hold (geometry_of v) B line → OwnHas v.fixed.shape (sight_of next).hold (geometry_of next) B line
    lines_on (Small c i) line m a = record {
      mine = k.mine_same (Small c i) ∙ m;
      has = subst (λ n. Rattle.pm_world.specs.BlockLines.IsInSmall v.fixed.shape n c i line) (sym (own_class c i m)) a.has;
    }
    lines_on (Big f) line m a = record { mine = k.mine_same (Big f) ∙ m; has = (a.has.0, ap (λ n. in_span f n a.has.0) (k.span_same f (has_m (Big f) m)) ∙ a.has.1, a.has.2) }
    lines_on Root line m a = record { mine = k.mine_same Root ∙ m; has = a.has }

    known_class : (kept : Bool) (c i : ℕ) → (has_found v (Small c i) || is_kept_block v kept (Small c i)) ≡ true → class t c ≡ class v.claims c
    known_class kept c i e = ⊎_elim (λ (f : has_found v (Small c i) ≡ true). found_class c i f) (λ (m : is_kept_block v kept (Small c i) ≡ true). own_class c i (kept_own kept (Small c i) m))
        (or_cases (has_found v (Small c i)) (is_kept_block v kept (Small c i)) e)

    pub keeps_grows : (kept : Bool) → Grows v kept next kept
    keeps_grows kept = record {
      found = k.found_on;
      spans = λ f e. k.span_same f (has_f (Big f) e);
      class = known_class kept;
      own = still_own kept;
      lines = λ B line m a. lines_on B line (kept_own kept B m) a;
      sees = sees_on;
      recorded = λ p b _ e. inl e;
      knows = known.knows_on v next refl (λ p b y f _ e. pics p b y f e);
      roots = k.roots_on;
    }
