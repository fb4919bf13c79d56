-- Chunks become runs, over bits: a chunk is marked as one by the store of its descriptor, and the drain of that makes it one.
use Rattle.std.proofs.Common.{◌≡◌, ◌≢◌, ℕ, suc, ◌+◌, ◌-◌, ◌/◌, ◌%◌, ◌<◌, ◌≤◌, ◌⊎◌, inl, ⊎_elim, nat_le, nat_lt, Bool, true, false, cond, not, ◌&&◌, ◌||◌, eqb, ◌==◌, refl, sym, ap, ◌∙◌, subst, arith, eq-eqb, ne_eqb, Option, None, Some}
use Rattle.std.proofs.lemmas.Bool.{cases_eq, cases_Bool, eqb-true, leb-true, ltb-true, both_ways, and_parts, and_from, and_left, and_right, or_cases, or_left, or_right, or_from, not_from_true, not_from_false, not-true, cond-true, cond-false, false_from_ne_true, true_from_ne_false}
use Rattle.pm_layout.specs.declared.shape.Shape.{Shape}
use Rattle.pm_layout.specs.Sizes.{blocks_of}
use Rattle.pm_view.specs.Places.{Place, InRun, InHuge, Descr, RootWord, Block, Small, Big, Root, part, block_of, header, in_span, is_data}
use Rattle.pm_view.specs.Entries.{latest, turn}
use Rattle.pm_view.specs.Log.{Phase, Idle, Open, Drawn, Sealing, Applying, Clearing, Retiring, Voiding}
use Rattle.pm_world.specs.States.{State, diff, given, over, after_diff, there, lit, size_at, bright, shown, live, read, put1, Cells}
use Rattle.pm_world.specs.Sights.{Hold, Sight}
use Rattle.pm_world.specs.Lanes.{Ghost, own, owns, has, valid, is_in_making, is_decided, in_flight, left, blank, BitFits, open_soils, soils, TurnFits, BornFits, settled, SightFits, Flies, is_occupancy, is_taken, Bits}
use Rattle.pm_world.proofs.Geometry.{huge_line}
use Rattle.pm_world.proofs.Frame.{Around, own_cases, mine_own, making_own, own_has, found_has, small_cases, maker_owns, maker_no_run, turn_stays, stay_fits, some_first, fresh_given}
use Rattle.pm_world.proofs.Going.{Turned, goes_on, same_made, still_flying}
use Rattle.pm_world.proofs.Occupies.{split}

-- ---- THE DRAIN: chunks that the lane makes runs, and whose descriptors it leaves no change of, are runs from here on, with all their blocks the lane's own

-- the chunk becomes one
abbrev pub becoming : Hold → (ℕ → Bool) → ℕ → Bool
becoming h dirty c = h.making c && not (dirty c)

abbrev pub mine_made : Hold → (ℕ → Bool) → Block → Bool
mine_made h dirty (Small c i) = (becoming h dirty c && nat_lt i (blocks_of (h.class c))) || h.mine (Small c i)
mine_made h dirty (Big c) = not (becoming h dirty c) && h.mine (Big c)
mine_made h dirty Root = h.mine Root

abbrev pub with_runs : Hold → (ℕ → Bool) → Hold
with_runs h dirty = record h { mine = mine_made h dirty; making = λ c. dirty c && h.making c }

abbrev pub holder_with_runs : ℕ → Hold → (ℕ → Bool) → (Block → ℕ) → Block → ℕ
holder_with_runs k h dirty holder (Small c i) = cond (becoming h dirty c && nat_lt i (blocks_of (h.class c))) (suc k) (holder (Small c i))
holder_with_runs k h dirty holder (Big c) = cond (becoming h dirty c) 0 (holder (Big c))
holder_with_runs k h dirty holder Root = holder Root

abbrev pub ghost_with_runs : ℕ → Hold → (ℕ → Bool) → Ghost → Ghost
ghost_with_runs k h dirty g = record g { runs = λ c. becoming h dirty c || g.runs c; holder = holder_with_runs k h dirty g.holder }

-- what may be undrained may be so with more records drained, and with more blocks the lane's own
either_more : (m m' l l' : Bool) → (m ≡ true → m' ≡ true) → (l ≡ true → l' ≡ true) → (m || l) ≡ true → (m' || l') ≡ true
either_more m m' l l' u w t = ⊎_elim (λ (e : m ≡ true). or_left m' l' (u e)) (λ (e : l ≡ true). or_right m' l' (w e)) (or_cases m l t)

pub soils_more : (ph : Phase) (p : Place) (m m' l l' : Bool) (en : Option Bool) → (p ≢ RootWord → m ≡ true → m' ≡ true) → (l ≡ true → l' ≡ true) → soils ph p m l en ≡ true → soils ph p m' l' en ≡ true
soils_more ph p m m' l l' en u w t = at ph t
  where
    no_root : (p : Place) → Bool
    no_root (InRun c w) = true
    no_root (InHuge c w) = true
    no_root (Descr c) = true
    no_root RootWord = false

    opens : (p : Place) → (no_root p ≡ true → m ≡ true → m' ≡ true) → open_soils p m l ≡ true → open_soils p m' l' ≡ true
    opens (InRun c v) u t = let y = and_parts (is_data (InRun c v)) (m || l) t in and_from (is_data (InRun c v)) (m' || l') y.0 (either_more m m' l l' (u refl) w y.1)
    opens (InHuge c v) u t = either_more m m' l l' (u refl) w t
    opens (Descr c) u t = t
    opens RootWord u t = w t

    now : open_soils p m l ≡ true → open_soils p m' l' ≡ true
    now = opens p (λ e. u (λ s. both_ways (no_root p) (ap no_root s) e))

    at : (ph : Phase) → soils ph p m l en ≡ true → soils ph p m' l' en ≡ true
    at Idle t = now t
    at Open t = now t
    at (Drawn n) t = t
    at (Sealing n) t = t
    at (Applying todo) t = t
    at Clearing t = t
    at (Retiring n) t = t
    at Voiding t = t

module _ (sh : Shape) (L : ℕ) (o : State) (cells : Cells) (sights : ℕ → Sight) (g : Ghost) (x : Bits sh L o cells sights g) (k : ℕ) (ink : k < L) (dirty : ℕ → Bool) where
  abbrev h : Hold
  h = (sights k).hold

  f : SightFits sh cells (settled o g) (Flies g k) g k (sights k)
  f = x.each_lane k

  becomes_made : (c : ℕ) → becoming (sights k).hold dirty c ≡ true → (sights k).hold.making c ≡ true
  becomes_made c t = (and_parts (h.making c) (not (dirty c)) t).0

  unmade : (c : ℕ) → h.making c ≡ false → becoming (sights k).hold dirty c ≡ false
  unmade c e = and_left (h.making c) (not (dirty c)) e

  -- where the lane still makes the chunk a run it does not become one
  not_yet : (c : ℕ) → (dirty c && h.making c) ≡ true → (h.making c ≡ true) × (becoming (sights k).hold dirty c ≡ false)
  not_yet c t = let y = and_parts (dirty c) (h.making c) t in (y.1, and_right (h.making c) (not (dirty c)) (not_from_true (dirty c) y.0))

  still_making : (c : ℕ) → becoming (sights k).hold dirty c ≡ false → h.making c ≡ true → (dirty c && h.making c) ≡ true
  still_making c u m = and_from (dirty c) (h.making c) (true_from_ne_false (dirty c) (λ e. both_ways (becoming (sights k).hold dirty c) u (and_from (h.making c) (not (dirty c)) m (not_from_false (dirty c) e)))) m

  made_first : (c : ℕ) → h.making c ≡ true → g.geo.first c ≡ c
  made_first c m = (maker_owns sh cells (settled o g) (Flies g k) g x.geo k (sights k) f c m).1

  -- it is a block of one chunk
  alone_in : (e d : ℕ) → h.making e ≡ true → g.geo.first d ≡ e → d ≡ e
  alone_in e d m q = let t = f.hold.making e m in let y = f.hold.span e (own_has h (Big e) (mine_own h (Big e) t.0)) d in
      let z : in_span e 1 d ≡ true = ap (λ n. in_span e n d) (sym t.4) ∙ (sym y ∙ eq-eqb (g.geo.first d) e q) in let w = and_parts (nat_le e d) (nat_lt d (e + 1)) z in
      let a = leb-true e d w.0 in let b = ltb-true d (e + 1) w.1 in omega arith

  no_run_of : (c : ℕ) → h.making c ≡ true → g.runs c ≡ false
  no_run_of c m = maker_no_run sh cells (settled o g) (Flies g k) g x.geo k (sights k) f c m

  -- none of its blocks is there
  blockless : (c i : ℕ) → h.making c ≡ true → there (settled o g) (Small c i) ≡ false
  blockless c i m = false_from_ne_true (there (settled o g) (Small c i)) (λ t. both_ways (g.runs c) (no_run_of c m) (and_parts (g.runs c) (nat_lt i (blocks_of (g.geo.class c))) (x.geo.within c i t)).0)

  no_chunk : (c : ℕ) → h.making c ≡ true → there (settled o g) (Big c) ≡ false
  no_chunk c m = (f.hold.mine (Big c) (f.hold.making c m).0).2

  known : (c : ℕ) → h.making c ≡ true → h.class c ≡ g.geo.class c
  known c m = f.hold.class c 0 (own_has h (Small c 0) (making_own h c 0 m))

  -- of such a chunk only the bitmap would be looked at
  bare : (c w : ℕ) (r : Bool) → h.making c ≡ true → (r && shown (settled o g) (g.geo.class c) c w) ≡ true → w ≡ 0
  bare c w r m t = ⊎_elim (λ (e : (w == 0) ≡ true). eqb-true w 0 e)
      (λ (e : ((nat_le 8 w && nat_lt w 512) && bright (settled o g) (g.geo.class c) c ((w / 8 - 1) / g.geo.class c) ((w / 8 - 1) % g.geo.class c)) ≡ true). let i = (w / 8 - 1) / g.geo.class c in let l = (w / 8 - 1) % g.geo.class c in
      let y = (and_parts (nat_le 8 w && nat_lt w 512) (bright (settled o g) (g.geo.class c) c i l) e).1 in absurd (both_ways (there (settled o g) (Small c i)) (blockless c i m) (and_parts (settled o g (InRun c 0) i) (lit (settled o g (size_at (g.geo.class c) c i)) l) y).0))
      (or_cases (w == 0) ((nat_le 8 w && nat_lt w 512) && bright (settled o g) (g.geo.class c) c ((w / 8 - 1) / g.geo.class c) ((w / 8 - 1) % g.geo.class c)) (and_parts r (shown (settled o g) (g.geo.class c) c w) t).1)

  undiffed : (p : Place) (b : ℕ) → is_in_making h p ≡ true → given (diff (sights k).call p b) ≡ false
  undiffed p b m = false_from_ne_true (given (diff (sights k).call p b)) (λ t. both_ways (is_in_making h p) (f.plain p b t) m)

  unturned : (B : Block) (p : Place) (b : ℕ) → turn (latest (sights k).call.entries) B ≡ latest (sights k).call.entries p b → is_in_making h p ≡ true → turn (latest (sights k).call.entries) B ≡ None
  unturned B p b e m = e ∙ none_given (latest (sights k).call.entries p b) (λ t. both_ways (given (diff (sights k).call p b)) (undiffed p b m) (some_first (latest (sights k).call.entries p b) ((sights k).call.fresh p b) t))
    where
      none_given : (a : Option Bool) → (given a ≡ true → ⊥) → a ≡ None
      none_given None n = refl
      none_given (Some y) n = absurd (n refl)

  nothing_left : (p : Place) (b : ℕ) → is_in_making h p ≡ true → given (left (sights k).phase p b) ≡ false
  nothing_left p b m = go (left (sights k).phase p b) (λ z e. both_ways (given (diff (sights k).call p b)) (undiffed p b m) (some_first (latest (sights k).call.entries p b) ((sights k).call.fresh p b) (ap given (f.call.todo p b z e))))
    where
      go : (a : Option Bool) → ((y : Bool) → a ≡ Some y → ⊥) → given a ≡ false
      go None n = refl
      go (Some y) n = absurd (n y refl)

  unlogged : (p : Place) (b : ℕ) → is_in_making h p ≡ true → ((sights k).logged p && not (is_decided (sights k).phase)) ≡ false
  unlogged p b m = ⊎_elim (λ (e : is_decided (sights k).phase ≡ true). and_right ((sights k).logged p) (not (is_decided (sights k).phase)) (not_from_true (is_decided (sights k).phase) e))
      (λ (e : is_decided (sights k).phase ≡ false). and_left ((sights k).logged p) (not (is_decided (sights k).phase)) (false_from_ne_true ((sights k).logged p) (λ t. both_ways (is_in_making h p) (f.logged p b e t).1 m))) (cases_Bool (is_decided (sights k).phase))

  -- ---- rights
  abbrev h' : Hold
  h' = with_runs (sights k).hold dirty

  less_own : (B : Block) → own (with_runs (sights k).hold dirty) B ≡ true → own (sights k).hold B ≡ true
  less_own (Small c i) t = ⊎_elim (λ (m : ((becoming h dirty c && nat_lt i (blocks_of (h.class c))) || h.mine (Small c i)) ≡ true).
      ⊎_elim (λ (n : (becoming h dirty c && nat_lt i (blocks_of (h.class c))) ≡ true). making_own h c i (becomes_made c (and_parts (becoming h dirty c) (nat_lt i (blocks_of (h.class c))) n).0)) (λ (n : h.mine (Small c i) ≡ true). mine_own h (Small c i) n) (or_cases (becoming h dirty c && nat_lt i (blocks_of (h.class c))) (h.mine (Small c i)) m))
      (λ (r : (h.here (Small c i) || (dirty c && h.making c)) ≡ true). or_right (h.mine (Small c i)) (h.here (Small c i) || h.making c) (either_more (h.here (Small c i)) (h.here (Small c i)) (dirty c && h.making c) (h.making c) (λ e. e) (λ e. (not_yet c e).0) r))
      (or_cases ((becoming h dirty c && nat_lt i (blocks_of (h.class c))) || h.mine (Small c i)) (h.here (Small c i) || (dirty c && h.making c)) t)
  less_own (Big c) t = ⊎_elim (λ (m : (not (becoming h dirty c) && h.mine (Big c)) ≡ true). mine_own h (Big c) (and_parts (not (becoming h dirty c)) (h.mine (Big c)) m).1) (λ (r : (h.here (Big c) || false) ≡ true). or_right (h.mine (Big c)) (h.here (Big c) || false) r) (or_cases (not (becoming h dirty c) && h.mine (Big c)) (h.here (Big c) || false) t)
  less_own Root t = t

  less_has : (B : Block) → has (with_runs (sights k).hold dirty) B ≡ true → has (sights k).hold B ≡ true
  less_has B a = ⊎_elim (λ (y : own (with_runs h dirty) B ≡ true). own_has h B (less_own B y)) (λ (y : h.found B ≡ true). found_has h B y) (or_cases (own (with_runs h dirty) B) (h.found B) a)

  -- what it owned it still owns, but of chunks that become runs
  small_kept : (c i : ℕ) → becoming (sights k).hold dirty c ≡ false → own (sights k).hold (Small c i) ≡ true → own (with_runs (sights k).hold dirty) (Small c i) ≡ true
  small_kept c i u t = let mi = (becoming h dirty c && nat_lt i (blocks_of (h.class c))) || h.mine (Small c i) in let r = h.here (Small c i) || (dirty c && h.making c) in
      ⊎_elim (λ (m : h.mine (Small c i) ≡ true). or_left mi r (or_right (becoming h dirty c && nat_lt i (blocks_of (h.class c))) (h.mine (Small c i)) m))
      (λ (m : (h.here (Small c i) ≡ true) ⊎ (h.making c ≡ true)). or_right mi r (⊎_elim (λ (n : h.here (Small c i) ≡ true). or_left (h.here (Small c i)) (dirty c && h.making c) n) (λ (n : h.making c ≡ true). or_right (h.here (Small c i)) (dirty c && h.making c) (still_making c u n)) m)) (own_cases h (Small c i) t)

  big_kept : (c : ℕ) → becoming (sights k).hold dirty c ≡ false → own (sights k).hold (Big c) ≡ true → own (with_runs (sights k).hold dirty) (Big c) ≡ true
  big_kept c u t = ap (λ r. (not r && h.mine (Big c)) || (h.here (Big c) || false)) u ∙ t

  less_owned : (p : Place) (b : ℕ) → owns g.geo (settled o g) (with_runs (sights k).hold dirty) p b ≡ true → owns g.geo (settled o g) (sights k).hold p b ≡ true
  less_owned (InRun c w) b t = less_own (Small c (part (g.geo.class c) w b)) t
  less_owned (InHuge c w) b t = less_own (Big (g.geo.first c)) t
  less_owned (Descr c) b t = less_own (Big (g.geo.first c)) t
  less_owned RootWord b t = t

  -- a bit that it no longer owns is of a chunk that becomes a run
  pub dropped : (p : Place) (b : ℕ) → owns g.geo (settled o g) (sights k).hold p b ≡ true → (is_in_making (sights k).hold p ≡ false) → owns g.geo (settled o g) (with_runs (sights k).hold dirty) p b ≡ true
  dropped (InRun c w) b t e = small_kept c (part (g.geo.class c) w b) (unmade c e) t
  dropped (InHuge c w) b t e = big_kept (g.geo.first c) (false_from_ne_true (becoming h dirty (g.geo.first c)) (λ y. let m = becomes_made (g.geo.first c) y in both_ways (h.making c) e (ap h.making (alone_in (g.geo.first c) c m refl) ∙ m))) t
  dropped (Descr c) b t e = big_kept (g.geo.first c) (false_from_ne_true (becoming h dirty (g.geo.first c)) (λ y. let m = becomes_made (g.geo.first c) y in both_ways (h.making c) e (ap h.making (alone_in (g.geo.first c) c m refl) ∙ m))) t
  dropped RootWord b t e = t

  not_making : (p : Place) → is_in_making (sights k).hold p ≡ false → is_in_making (with_runs (sights k).hold dirty) p ≡ false
  not_making (InRun c w) e = and_right (dirty c) (h.making c) e
  not_making (InHuge c w) e = and_right (dirty c) (h.making c) e
  not_making (Descr c) e = and_right (dirty c) (h.making c) e
  not_making RootWord e = refl

  -- what the drain leaves: more records are drained, and fewer bits are dirty
  pub record Drains (lg : Place → Bool) (so : Place → ℕ → Bool) : Type 0 where
    pub more : (p : Place) → (sights k).logged p ≡ true → lg p ≡ true
    pub recorded : (p : Place) (b : ℕ) → is_decided (sights k).phase ≡ false → lg p ≡ true → (owns g.geo (settled o g) (sights k).hold p b ≡ true) × (is_in_making (sights k).hold p ≡ false) × (given ((sights k).call.fresh p b) ≡ true)
    pub fewer : (p : Place) (b : ℕ) → so p b ≡ true → (sights k).soiled p b ≡ true

  pub makes_runs : (lg : Place → Bool) (so : Place → ℕ → Bool) → Drains lg so → (sights' : ℕ → Sight) → Turned sights sights' k (record (sights k) { hold = with_runs (sights k).hold dirty; logged = lg; soiled = so })
      → Around k (sights k).hold (λ j. (sights j).hold) cells cells (settled o g) (settled o g) g (ghost_with_runs k (sights k).hold dirty g)
      × Bits sh L o cells sights' (ghost_with_runs k (sights k).hold dirty g)
  makes_runs lg so d sights' t =
      let a : Around k (sights k).hold (λ j. (sights j).hold) cells cells (settled o g) (settled o g) g (ghost_with_runs k (sights k).hold dirty g) = record {
        writer = λ l j ne. refl;
        reader = λ l j ne. refl;
        pool = λ p b u w. refl;
        set = λ p b u. refl;
        descr = λ c u. refl;
        up = λ c n e. e;
        runs = λ c u. ap (λ r. r || g.runs c) (unmade c u);
        holder = holder_out;
        holder_back = holder_in;
        class = λ c u. refl;
        first = λ c j ne. inl refl;
        flies = λ j n y ne w z. z;
      } in (
        a,
        goes_on sh L o cells sights g x k ink (settled o g) cells x' g' sights' refl a record {
          hold = record {
            locks = f.hold.locks;
            reading = f.hold.reading;
            found = λ B a. let y = f.hold.found B a in (y.0, more_valid B y.1, y.2);
            here = f.hold.here;
            found_here = f.hold.found_here;
            mine = mine';
            holds = holds';
            class = λ c i a. f.hold.class c i (less_has (Small c i) a);
            span = λ y a. f.hold.span y (less_has (Big y) a);
            first = λ c a. f.hold.first c (less_has (Big (g.geo.first c)) a);
            zone = λ y a. f.hold.zone y (less_has (Big y) a);
            making = λ c a. let n = not_yet c a in let y = f.hold.making c n.0 in (and_from (not (becoming h dirty c)) (h.mine (Big c)) (not_from_false (becoming h dirty c) n.1) y.0, y.1, y.2, y.3, y.4);
            free = λ c a. let e = g.geo.first c in let y = and_parts (not (becoming h dirty e)) (h.mine (Big e)) a in
                or_from (becoming h dirty c) (g.runs c) (false_from_ne_true (becoming h dirty c) (λ z. both_ways (becoming h dirty e) (not-true (becoming h dirty e) y.0) (ap (becoming h dirty) (made_first c (becomes_made c z)) ∙ z))) (f.hold.free c y.1);
            seen = f.hold.seen;
          };
          bits = λ p b a. bits' p b a (f.bits p b (less_owned p b a));
          picture = f.picture;
          turns = turns';
          call = f.call;
          reach = λ p b y. dropped p b (f.reach p b y) (f.plain p b y);
          plain = λ p b y. not_making p (f.plain p b y);
          logged = λ p b u y. let z = d.recorded p b u y in (dropped p b z.0 z.1, not_making p z.1);
          stored = λ p b u y. (d.recorded p b u y).2;
          fresh = f.fresh;
          sizes = f.sizes;
          born = λ u p b a. born' p b (f.born u p b (less_owned p b a));
          guarded = f.guarded;
          soiled = λ p b y. let z = f.soiled p b (d.fewer p b y) in (soils_more (sights k).phase p (h.mine (block_of g.geo p b)) (h'.mine (block_of g.geo p b)) ((sights k).logged p) (lg p) (latest (sights k).call.entries p b) (mine_kept p b z.1) (d.more p) z.0, not_making p z.1);
        } record {
          gone = gone';
          back = back';
          made = made';
          occ = occ';
          geo = record {
            twice = x.geo.twice;
            classes = λ c r. ⊎_elim (λ (y : becoming h dirty c ≡ true). let m = f.hold.making c (becomes_made c y) in (m.2, m.3)) (λ (y : g.runs c ≡ true). x.geo.classes c y) (or_cases (becoming h dirty c) (g.runs c) r);
            shape = x.geo.shape;
            head = x.geo.head;
            huge = λ c y. or_from (becoming h dirty c) (g.runs c) (false_from_ne_true (becoming h dirty c) (λ z. let m = becomes_made c z in both_ways (there (settled o g) (Big c)) (no_chunk c m) (ap (λ a. there (settled o g) (Big a)) (sym (made_first c m)) ∙ y))) (x.geo.huge c y);
            zeros = x.geo.zeros;
            in_zone = x.geo.in_zone;
            within = λ c i y. more_valid (Small c i) (x.geo.within c i y);
          };
          alone = x.alone;
          counter = x.counter;
          flying = still_flying sh L o cells sights g x k ink x' (λ n y. y);
        } t,
      )
    where
      x' : Sight
      x' = record (sights k) { hold = with_runs (sights k).hold dirty; logged = lg; soiled = so }

      g' : Ghost
      g' = ghost_with_runs k (sights k).hold dirty g

      more_valid : (B : Block) → valid g B ≡ true → valid g' B ≡ true
      more_valid (Small c i) v = let y = and_parts (g.runs c) (nat_lt i (blocks_of (g.geo.class c))) v in and_from (becoming h dirty c || g.runs c) (nat_lt i (blocks_of (g.geo.class c))) (or_right (becoming h dirty c) (g.runs c) y.0) y.1
      more_valid (Big c) v = v
      more_valid Root v = v

      of_other : (c i j : ℕ) → j ≢ k → g.holder (Small c i) ≡ suc j → becoming h dirty c ≡ true → ⊥
      of_other c i j ne e y = both_ways (g.runs c) (no_run_of c (becomes_made c y)) (and_parts (g.runs c) (nat_lt i (blocks_of (g.geo.class c))) ((x.each_lane j).hold.mine (Small c i) ((x.each_lane j).hold.holds (Small c i) e)).1).0

      holder_out : (B : Block) (j : ℕ) → j ≢ k → g.holder B ≡ suc j → g'.holder B ≡ suc j
      holder_out (Small c i) j ne e = split (becoming h dirty c && nat_lt i (blocks_of (h.class c))) (λ z. cond z (suc k) (g.holder (Small c i)) ≡ suc j) (λ y. absurd (of_other c i j ne e (and_parts (becoming h dirty c) (nat_lt i (blocks_of (h.class c))) y).0)) (λ _. e)
      holder_out (Big c) j ne e = split (becoming h dirty c) (λ z. cond z 0 (g.holder (Big c)) ≡ suc j) (λ y. let m = (f.hold.mine (Big c) (f.hold.making c (becomes_made c y)).0).0 in absurd (ne (omega arith))) (λ _. e)
      holder_out Root j ne e = e

      holder_in : (B : Block) (j : ℕ) → j ≢ k → g'.holder B ≡ suc j → g.holder B ≡ suc j
      holder_in (Small c i) j ne = split (becoming h dirty c && nat_lt i (blocks_of (h.class c))) (λ z. cond z (suc k) (g.holder (Small c i)) ≡ suc j → g.holder (Small c i) ≡ suc j) (λ _ e. absurd (ne (omega arith))) (λ _ e. e)
      holder_in (Big c) j ne = split (becoming h dirty c) (λ z. cond z 0 (g.holder (Big c)) ≡ suc j → g.holder (Big c) ≡ suc j) (λ _ e. absurd (omega arith)) (λ _ e. e)
      holder_in Root j ne = λ e. e

      mine' : (B : Block) → h'.mine B ≡ true → (g'.holder B ≡ suc k) × (valid g' B ≡ true) × (there (settled o g) B ≡ false)
      mine' (Small c i) = split (becoming h dirty c && nat_lt i (blocks_of (h.class c))) (λ z. (z || h.mine (Small c i)) ≡ true → (cond z (suc k) (g.holder (Small c i)) ≡ suc k) × (((becoming h dirty c || g.runs c) && nat_lt i (blocks_of (g.geo.class c))) ≡ true) × (there (settled o g) (Small c i) ≡ false))
          (λ y _. let z = and_parts (becoming h dirty c) (nat_lt i (blocks_of (h.class c))) y in let m = becomes_made c z.0 in
          (refl, and_from (becoming h dirty c || g.runs c) (nat_lt i (blocks_of (g.geo.class c))) (or_left (becoming h dirty c) (g.runs c) z.0) (ap (λ cl. nat_lt i (blocks_of cl)) (sym (known c m)) ∙ z.1), blockless c i m))
          (λ _ m. let y = f.hold.mine (Small c i) m in (y.0, more_valid (Small c i) y.1, y.2))
      mine' (Big c) = split (becoming h dirty c) (λ z. (not z && h.mine (Big c)) ≡ true → (cond z 0 (g.holder (Big c)) ≡ suc k) × (valid g (Big c) ≡ true) × (there (settled o g) (Big c) ≡ false)) (λ _ m. absurd (both_ways false refl m)) (λ _ m. f.hold.mine (Big c) m)
      mine' Root = f.hold.mine Root

      holds' : (B : Block) → g'.holder B ≡ suc k → h'.mine B ≡ true
      holds' (Small c i) = split (becoming h dirty c && nat_lt i (blocks_of (h.class c))) (λ z. cond z (suc k) (g.holder (Small c i)) ≡ suc k → (z || h.mine (Small c i)) ≡ true) (λ _ _. refl) (λ _ e. f.hold.holds (Small c i) e)
      holds' (Big c) = split (becoming h dirty c) (λ z. cond z 0 (g.holder (Big c)) ≡ suc k → (not z && h.mine (Big c)) ≡ true) (λ _ e. absurd (omega arith)) (λ _ e. f.hold.holds (Big c) e)
      holds' Root = f.hold.holds Root

      idle_turn : (B : Block) (m : Bool) → turn (latest (sights k).call.entries) B ≡ None → TurnFits (sights k).phase (h.locked (header sh g.geo B)) m (h.here B) (turn (latest (sights k).call.entries) B)
      idle_turn B m e = subst (TurnFits (sights k).phase (h.locked (header sh g.geo B)) m (h.here B)) (sym e) (stay_fits (sights k).phase (h.locked (header sh g.geo B)) m (h.here B))

      turns' : (B : Block) → TurnFits (sights k).phase (h.locked (header sh g.geo B)) (h'.mine B) (h.here B) (turn (latest (sights k).call.entries) B)
      turns' (Small c i) = ⊎_elim (λ (y : becoming h dirty c ≡ true). idle_turn (Small c i) (h'.mine (Small c i)) (unturned (Small c i) (InRun c 0) i refl (becomes_made c y)))
          (λ (y : becoming h dirty c ≡ false). subst (λ r. TurnFits (sights k).phase (h.locked (header sh g.geo (Small c i))) ((r && nat_lt i (blocks_of (h.class c))) || h.mine (Small c i)) (h.here (Small c i)) (turn (latest (sights k).call.entries) (Small c i))) (sym y) (f.turns (Small c i))) (cases_Bool (becoming h dirty c))
      turns' (Big c) = ⊎_elim (λ (y : becoming h dirty c ≡ true). idle_turn (Big c) (h'.mine (Big c)) (unturned (Big c) (Descr c) 1 refl (becomes_made c y)))
          (λ (y : becoming h dirty c ≡ false). subst (λ r. TurnFits (sights k).phase (h.locked (header sh g.geo (Big c))) (not r && h.mine (Big c)) (h.here (Big c)) (turn (latest (sights k).call.entries) (Big c))) (sym y) (f.turns (Big c))) (cases_Bool (becoming h dirty c))
      turns' Root = f.turns Root

      -- a bitmap of a run that begins is 0, in memory and settled
      empty : (c b : ℕ) → h.making c ≡ true → read cells.pool (InRun c 0) b ≡ settled o g (InRun c 0) b
      empty c b m = (f.bits (InRun c 0) b (making_own h c b m)).1 m ∙ sym (blockless c b m)

      at_bitmap : (c w b : ℕ) → h.making c ≡ true → w ≡ 0 → read cells.pool (InRun c w) b ≡ settled o g (InRun c w) b
      at_bitmap c w b m e = subst (λ v. read cells.pool (InRun c v) b ≡ settled o g (InRun c v) b) (sym e) (empty c b m)

      abbrev_bits : Place → ℕ → Bool → Bool → Type 0
      abbrev_bits p b al bl = BitFits al bl (is_decided (sights k).phase) (left (sights k).phase p b) ((sights k).logged p) (latest (sights k).call.entries p b) ((sights k).picture p b) (read cells.pool p b) (settled o g p b)

      -- with more records drained a bit owes less
      eased : (p : Place) (b : ℕ) (al bl : Bool) → abbrev_bits p b al bl → BitFits al bl (is_decided (sights k).phase) (left (sights k).phase p b) (lg p) (latest (sights k).call.entries p b) ((sights k).picture p b) (read cells.pool p b) (settled o g p b)
      eased p b al bl u = (λ a l y. u.0 a l (less (d.more p) y), u.1, u.2, u.3)
        where
          less : ((sights k).logged p ≡ true → lg p ≡ true) → (lg p && not (is_decided (sights k).phase)) ≡ false → ((sights k).logged p && not (is_decided (sights k).phase)) ≡ false
          less w y = false_from_ne_true ((sights k).logged p && not (is_decided (sights k).phase)) (λ z. let q = and_parts ((sights k).logged p) (not (is_decided (sights k).phase)) z in both_ways (lg p && not (is_decided (sights k).phase)) y (and_from (lg p) (not (is_decided (sights k).phase)) (w q.0) q.1))

      bits' : (p : Place) (b : ℕ) → owns g.geo (settled o g) (with_runs (sights k).hold dirty) p b ≡ true → abbrev_bits p b (live (settled o g) g.geo g.runs p) (blank (sights k).hold p)
          → BitFits (live (settled o g) g.geo g'.runs p) (blank (with_runs (sights k).hold dirty) p) (is_decided (sights k).phase) (left (sights k).phase p b) (lg p) (latest (sights k).call.entries p b) ((sights k).picture p b) (read cells.pool p b) (settled o g p b)
      bits' (InRun c w) b a u = eased (InRun c w) b (live (settled o g) g.geo g'.runs (InRun c w)) (blank (with_runs (sights k).hold dirty) (InRun c w)) (
        λ al. ⊎_elim (λ (y : becoming h dirty c ≡ true). λ _ _. let m = becomes_made c y in at_bitmap c w b m (bare c w (becoming h dirty c || g.runs c) m al))
            (λ (y : becoming h dirty c ≡ false). u.0 (sym (ap (λ r. (r || g.runs c) && shown (settled o g) (g.geo.class c) c w) y) ∙ al)) (cases_Bool (becoming h dirty c)),
        λ bl. let y = and_parts (w == 0) (dirty c && h.making c) bl in u.1 (and_from (w == 0) (h.making c) y.0 (not_yet c y.1).0),
        u.2,
        u.3,
      )
      bits' (InHuge c w) b a u = eased (InHuge c w) b (live (settled o g) g.geo g.runs (InHuge c w)) false u
      bits' (Descr c) b a u = eased (Descr c) b true false u
      bits' RootWord b a u = eased RootWord b true false u

      born' : (p : Place) (b : ℕ) → (live (settled o g) g.geo g.runs p ≡ false → live (after_diff (diff (sights k).call) (settled o g)) g.geo g.runs p ≡ true → given (diff (sights k).call p b) ≡ true)
          → live (settled o g) g.geo g'.runs p ≡ false → live (after_diff (diff (sights k).call) (settled o g)) g.geo g'.runs p ≡ true → given (diff (sights k).call p b) ≡ true
      born' (InRun c w) b u n l = let S' : State = after_diff (diff (sights k).call) (settled o g) in ⊎_elim
          (λ (y : becoming h dirty c ≡ true). let m = becomes_made c y in absurd (⊎_elim (λ (z : (w == 0) ≡ true). both_ways ((becoming h dirty c || g.runs c) && shown (settled o g) (g.geo.class c) c w) n (and_from (becoming h dirty c || g.runs c) (shown (settled o g) (g.geo.class c) c w) (or_left (becoming h dirty c) (g.runs c) y) (or_left (w == 0) ((nat_le 8 w && nat_lt w 512) && bright (settled o g) (g.geo.class c) c ((w / 8 - 1) / g.geo.class c) ((w / 8 - 1) % g.geo.class c)) z)))
          (λ (z : ((nat_le 8 w && nat_lt w 512) && bright S' (g.geo.class c) c ((w / 8 - 1) / g.geo.class c) ((w / 8 - 1) % g.geo.class c)) ≡ true). let i = (w / 8 - 1) / g.geo.class c in
          let q = (and_parts (S' (InRun c 0) i) (lit (S' (size_at (g.geo.class c) c i)) ((w / 8 - 1) % g.geo.class c)) (and_parts (nat_le 8 w && nat_lt w 512) (bright S' (g.geo.class c) c i ((w / 8 - 1) % g.geo.class c)) z).1).0 in
          both_ways (there (settled o g) (Small c i)) (blockless c i m) (sym (over_stays (diff (sights k).call (InRun c 0) i) (settled o g (InRun c 0) i) (undiffed (InRun c 0) i m)) ∙ q))
          (or_cases (w == 0) ((nat_le 8 w && nat_lt w 512) && bright S' (g.geo.class c) c ((w / 8 - 1) / g.geo.class c) ((w / 8 - 1) % g.geo.class c)) (and_parts (becoming h dirty c || g.runs c) (shown S' (g.geo.class c) c w) l).1)))
          (λ (y : becoming h dirty c ≡ false). u (sym (ap (λ r. (r || g.runs c) && shown (settled o g) (g.geo.class c) c w) y) ∙ n) (sym (ap (λ r. (r || g.runs c) && shown S' (g.geo.class c) c w) y) ∙ l)) (cases_Bool (becoming h dirty c))
        where
          over_stays : (a : Option Bool) (r : Bool) → given a ≡ false → over a r ≡ r
          over_stays None r e = refl
          over_stays (Some y) r e = absurd (both_ways true e refl)
      born' (InHuge c w) b u n l = u n l
      born' (Descr c) b u n l = u n l
      born' RootWord b u n l = u n l

      chunk_kept : (c : ℕ) → h.making c ≡ false → h.mine (Big (g.geo.first c)) ≡ true → h'.mine (Big (g.geo.first c)) ≡ true
      chunk_kept c e m = and_from (not (becoming h dirty (g.geo.first c))) (h.mine (Big (g.geo.first c))) (not_from_false (becoming h dirty (g.geo.first c)) (false_from_ne_true (becoming h dirty (g.geo.first c)) (λ y. let n = becomes_made (g.geo.first c) y in both_ways (h.making c) e (ap h.making (alone_in (g.geo.first c) c n refl) ∙ n)))) m

      mine_kept : (p : Place) (b : ℕ) → is_in_making h p ≡ false → p ≢ RootWord → h.mine (block_of g.geo p b) ≡ true → h'.mine (block_of g.geo p b) ≡ true
      mine_kept (InRun c w) b e ne m = let i = part (g.geo.class c) w b in or_right (becoming h dirty c && nat_lt i (blocks_of (h.class c))) (h.mine (Small c i)) m
      mine_kept (InHuge c w) b e ne m = chunk_kept c e m
      mine_kept (Descr c) b e ne m = chunk_kept c e m
      mine_kept RootWord b e ne m = m

      made_place : (c b : ℕ) (p : Place) → h.making c ≡ true → g.geo.first c ≡ c → p ≡ Descr c → read cells.pool p b ≡ settled o g p b
      made_place c b p m e q = subst (λ r. read cells.pool r b ≡ settled o g r b) (sym q) ((f.bits (Descr c) b (subst (λ a. own h (Big a) ≡ true) (sym e) (mine_own h (Big c) (f.hold.making c m).0))).0 refl (nothing_left (Descr c) b m) (unlogged (Descr c) b m))

      gone' : (p : Place) (b : ℕ) → owns g.geo (settled o g) (sights k).hold p b ≡ true → owns g.geo (settled o g) (with_runs (sights k).hold dirty) p b ≡ false → live (settled o g) g.geo g'.runs p ≡ true → read cells.pool p b ≡ settled o g p b
      gone' p b a u l = go p a u l (true_from_ne_false (is_in_making h p) (λ e. both_ways (owns g.geo (settled o g) (with_runs (sights k).hold dirty) p b) u (dropped p b a e)))
        where
          go : (p : Place) → owns g.geo (settled o g) (sights k).hold p b ≡ true → owns g.geo (settled o g) (with_runs (sights k).hold dirty) p b ≡ false → live (settled o g) g.geo g'.runs p ≡ true → is_in_making h p ≡ true → read cells.pool p b ≡ settled o g p b
          go (InRun c w) a u l m = at_bitmap c w b m (bare c w (becoming h dirty c || g.runs c) m l)
          go (InHuge c w) a u l m = absurd (both_ways (there (settled o g) (Big (g.geo.first c))) (ap (λ a. there (settled o g) (Big a)) (made_first c m) ∙ no_chunk c m) (and_parts (settled o g (Descr (g.geo.first c)) 1) (lit (settled o g (InHuge (g.geo.first c) 1)) (huge_line g.geo c w)) (and_parts (nat_lt w 512) (settled o g (Descr (g.geo.first c)) 1 && lit (settled o g (InHuge (g.geo.first c) 1)) (huge_line g.geo c w)) l).1).0)
          go (Descr c) a u l m = made_place c b (Descr c) m (made_first c m) refl
          go RootWord a u l m = absurd (both_ways false refl m)

      back' : (p : Place) (b : ℕ) → owns g.geo (settled o g) (sights k).hold p b ≡ false → owns g.geo (settled o g) (with_runs (sights k).hold dirty) p b ≡ false → live (settled o g) g.geo g'.runs p ≡ true
          → (live (settled o g) g.geo g.runs p ≡ true) × ((j : ℕ) → j ≢ k → owns g.geo (settled o g) (sights j).hold p b ≡ false → owns g.geo (settled o g) (sights j).hold p b ≡ false)
      back' (InRun c w) b u u' l = (sym (ap (λ r. (r || g.runs c) && shown (settled o g) (g.geo.class c) c w) (unmade c (Rattle.pm_world.proofs.Frame.not_making h c (part (g.geo.class c) w b) u))) ∙ l, λ j ne y. y)
      back' (InHuge c w) b u u' l = (l, λ j ne y. y)
      back' (Descr c) b u u' l = (l, λ j ne y. y)
      back' RootWord b u u' l = (l, λ j ne y. y)

      made' : (c : ℕ) → (dirty c && h.making c) ≡ false → ((j : ℕ) → j ≢ k → (sights j).hold.making c ≡ false) → cells.descr c ≡ cond (becoming h dirty c || g.runs c) (g.geo.class c) 0
      made' c u w = ⊎_elim (λ (y : becoming h dirty c ≡ true). (f.hold.making c (becomes_made c y)).1 ∙ sym (cond-true (becoming h dirty c || g.runs c) (g.geo.class c) 0 (or_left (becoming h dirty c) (g.runs c) y)))
          (λ (y : becoming h dirty c ≡ false). let e : h.making c ≡ false = false_from_ne_true (h.making c) (λ m. both_ways (dirty c && h.making c) u (still_making c y m)) in
          same_made sh L o cells sights g x k ink (sights k) (λ d. refl) c e w ∙ ap (λ r. cond (r || g.runs c) (g.geo.class c) 0) (sym y)) (cases_Bool (becoming h dirty c))

      occ' : (a : Block) → is_occupancy sh a ≡ true → cells.occ a ≡ is_taken (settled o g) g' a
      occ' (Small c i) in_ = x.occ (Small c i) in_ ∙ split (becoming h dirty c) (λ z. (not (g.runs c && nat_lt i (blocks_of (g.geo.class c))) || (there (settled o g) (Small c i) || not (g.holder (Small c i) == 0))) ≡ (not ((z || g.runs c) && nat_lt i (blocks_of (g.geo.class c))) || (there (settled o g) (Small c i) || not (cond (z && nat_lt i (blocks_of (h.class c))) (suc k) (g.holder (Small c i)) == 0))))
          (λ y. let m = becomes_made c y in or_left (not (g.runs c && nat_lt i (blocks_of (g.geo.class c)))) (there (settled o g) (Small c i) || not (g.holder (Small c i) == 0)) (not_from_false (g.runs c && nat_lt i (blocks_of (g.geo.class c))) (and_left (g.runs c) (nat_lt i (blocks_of (g.geo.class c))) (no_run_of c m)))
          ∙ sym (taken (nat_lt i (blocks_of (g.geo.class c))) (nat_lt i (blocks_of (h.class c))) (there (settled o g) (Small c i)) (g.holder (Small c i)) (ap (λ cl. nat_lt i (blocks_of cl)) (known c m)))) (λ _. refl)
        where
          taken : (n n' t : Bool) (y : ℕ) → n' ≡ n → (not n || (t || not (cond n' (suc k) y == 0))) ≡ true
          taken false n' t y e = refl
          taken true n' t y e = or_right t (not (cond n' (suc k) y == 0)) (ap not (ne_eqb (cond n' (suc k) y) 0 (λ z. let w : cond n' (suc k) y ≡ suc k = cond-true n' (suc k) y e in absurd (omega arith))))
      occ' (Big c) in_ = x.occ (Big c) in_ ∙ let e = g.geo.first c in ⊎_elim
          (λ (y : becoming h dirty c ≡ true). let m = becomes_made c y in let q : g.holder (Big e) ≡ suc k = ap (λ a. g.holder (Big a)) (made_first c m) ∙ (f.hold.mine (Big c) (f.hold.making c m).0).0 in
          or_right (g.runs c) (there (settled o g) (Big e) || not (g.holder (Big e) == 0)) (or_right (there (settled o g) (Big e)) (not (g.holder (Big e) == 0)) (ap not (ne_eqb (g.holder (Big e)) 0 (λ z. absurd (omega arith)))))
          ∙ sym (or_left (becoming h dirty c || g.runs c) (there (settled o g) (Big e) || not (cond (becoming h dirty e) 0 (g.holder (Big e)) == 0)) (or_left (becoming h dirty c) (g.runs c) y)))
          (λ (y : becoming h dirty c ≡ false). let n : becoming h dirty e ≡ false = false_from_ne_true (becoming h dirty e) (λ z. let m = becomes_made e z in both_ways (becoming h dirty c) y (ap (becoming h dirty) (alone_in e c m refl) ∙ z)) in
          sym (ap (λ r. (r || g.runs c) || (there (settled o g) (Big e) || not (cond (becoming h dirty e) 0 (g.holder (Big e)) == 0))) y ∙ ap (λ r. g.runs c || (there (settled o g) (Big e) || not (cond r 0 (g.holder (Big e)) == 0))) n)) (cases_Bool (becoming h dirty c))
      occ' Root in_ = x.occ Root in_

-- ---- THE STORE of a run's descriptor: the chunk is one that the lane makes a run, of this class

-- the place is of the chunk
abbrev pub is_of_chunk : ℕ → Place → Bool
is_of_chunk c (InRun d w) = d == c
is_of_chunk c (InHuge d w) = d == c
is_of_chunk c (Descr d) = d == c
is_of_chunk c RootWord = false

abbrev pub with_mark : Hold → ℕ → ℕ → Hold
with_mark h c cl = record h { making = λ d. (d == c) || h.making d; class = put1 h.class c cl }

abbrev pub ghost_with_mark : Ghost → ℕ → ℕ → Ghost
ghost_with_mark g c cl = record g { geo = record g.geo { class = put1 g.geo.class c cl } }

module _ (sh : Shape) (L : ℕ) (o : State) (cells : Cells) (sights : ℕ → Sight) (g : Ghost) (x : Bits sh L o cells sights g) (k : ℕ) (ink : k < L) (c₀ cl : ℕ) where
  -- the chunk is a block of the lane's own, one alone, that it does not know as a run, with a bitmap of 0; nothing that the call makes final or has undrained is
  -- there
  pub record Marks (pool' : State) (so : Place → ℕ → Bool) : Type 0 where
    pub own_ : (sights k).hold.mine (Big c₀) ≡ true
    pub one : (sights k).hold.span c₀ ≡ 1
    pub unknown : (sights k).hold.class c₀ ≡ 0
    pub some_ : 1 ≤ cl
    pub blocks : 0 < blocks_of cl
    pub empty : (b : ℕ) → read cells.pool (InRun c₀ 0) b ≡ false
    pub undiffed : (p : Place) (b : ℕ) → is_of_chunk c₀ p ≡ true → given (diff (sights k).call p b) ≡ false
    pub pictured : (w b : ℕ) (y : Bool) → (sights k).picture (InRun c₀ w) b ≡ Some y → (sights k).picture (InHuge c₀ w) b ≡ Some y
    pub fewer : (p : Place) (b : ℕ) → so p b ≡ true → ((sights k).soiled p b ≡ true) × (is_of_chunk c₀ p ≡ false)
    -- the descriptor tells of no huge block
    pub clear : (b : ℕ) → pool' (Descr c₀) b ≡ false
    pub same_pool : (p : Place) (b : ℕ) → (p ≡ Descr c₀ → ⊥) → pool' p b ≡ cells.pool p b

  pub marks_run : (pool' : State) (so : Place → ℕ → Bool) → Marks pool' so → is_decided (sights k).phase ≡ false → in_flight (sights k).phase ≡ false
      → (sights' : ℕ → Sight) → Turned sights sights' k (record (sights k) { hold = with_mark (sights k).hold c₀ cl; soiled = so }) → Around k (sights k).hold (λ j. (sights j).hold) cells (record cells { pool = pool'; descr = put1 cells.descr c₀ cl }) (settled o g) (settled o g) g (ghost_with_mark g c₀ cl)
      × Bits sh L o (record cells { pool = pool'; descr = put1 cells.descr c₀ cl }) sights' (ghost_with_mark g c₀ cl)
  marks_run pool' so q early flight sights' t =
      let a : Around k (sights k).hold (λ j. (sights j).hold) cells (record cells { pool = pool'; descr = put1 cells.descr c₀ cl }) (settled o g) (settled o g) g (ghost_with_mark g c₀ cl) = record {
        writer = λ l j ne. refl;
        reader = λ l j ne. refl;
        pool = λ p b u w. read_same p b;
        set = λ p b u. refl;
        descr = λ c u. put_else cells.descr c (λ e. both_ways (own h (Big c)) u (ap (λ a. own h (Big a)) e ∙ own0));
        up = λ c n e. put_else cells.descr c (λ s. let z : cells.descr c ≡ 0 = ap cells.descr s ∙ untold in absurd (omega arith)) ∙ e;
        runs = λ c u. refl;
        holder = λ B j ne e. e;
        holder_back = λ B j ne e. e;
        class = λ c u. put_else g.geo.class c (λ e. both_ways (own h (Big c)) u (ap (λ a. own h (Big a)) e ∙ own0));
        first = λ c j ne. inl refl;
        flies = λ j n d ne w y. y;
      } in (
        a,
        goes_on sh L o cells sights g x k ink (settled o g) cells' x' g' sights' refl a record {
          hold = record {
            locks = f.hold.locks;
            reading = f.hold.reading;
            found = λ B a. let y = f.hold.found B a in (ap (λ l. h.locked l || h.reads l) (header_same B y.1) ∙ y.0, valid_same B y.1, y.2);
            here = λ B a. let y = f.hold.here B a in (ap h.locked (header_same B (f.hold.found B y.1).1) ∙ y.0, y.1);
            found_here = λ B a l. f.hold.found_here B a (sym (ap h.locked (header_same B (f.hold.found B a).1)) ∙ l);
            mine = λ B a. let y = f.hold.mine B a in (y.0, valid_same B y.1, y.2);
            holds = f.hold.holds;
            class = λ c i. split (eqb c c₀) (λ z. ((h.mine (Small c i) || (h.here (Small c i) || (z || h.making c))) || h.found (Small c i)) ≡ true → cond z cl (h.class c) ≡ cond z cl (g.geo.class c)) (λ _ _. refl) (λ _ a. f.hold.class c i a);
            span = f.hold.span;
            first = f.hold.first;
            zone = f.hold.zone;
            making = λ c. split (eqb c c₀) (λ z. (z || h.making c) ≡ true → (h.mine (Big c) ≡ true) × (cond z cl (cells.descr c) ≡ cond z cl (g.geo.class c)) × (1 ≤ cond z cl (g.geo.class c)) × (0 < blocks_of (cond z cl (g.geo.class c))) × (h.span c ≡ 1))
                (λ e _. let s = eqb-true c c₀ e in (ap (λ a. h.mine (Big a)) s ∙ q.own_, refl, q.some_, q.blocks, ap h.span s ∙ q.one)) (λ _ a. f.hold.making c a);
            free = f.hold.free;
            seen = λ c n. split (eqb c c₀) (λ z. cond z cl (h.class c) ≡ suc n → cond z cl (cells.descr c) ≡ suc n) (λ _ e. e) (λ _ e. f.hold.seen c n e);
          };
          bits = λ p b a. subst (λ m. BitFits (live (settled o g) g'.geo g.runs p) (blank (with_mark h c₀ cl) p) (is_decided (sights k).phase) (left (sights k).phase p b) ((sights k).logged p) (latest (sights k).call.entries p b) ((sights k).picture p b) m (settled o g p b)) (sym (read_same p b)) (bits' p b a);
          picture = λ p b s y e. read_same p b ∙ f.picture p b (sees_same p b s) y e;
          turns = turns';
          call = f.call;
          reach = λ p b y. reach' p b y (f.reach p b y);
          plain = λ p b y. plain' p b y (f.plain p b y);
          logged = λ p b u y. let z = logged_diff p b u y in let w = f.logged p b u y in (reach' p b z w.0, plain' p b z w.1);
          stored = f.stored;
          fresh = f.fresh;
          sizes = sizes';
          born = λ y. absurd (both_ways (in_flight (sights k).phase) flight y);
          guarded = λ y. absurd (both_ways (in_flight (sights k).phase) flight y);
          soiled = λ p b y. let z = q.fewer p b y in soiled' p b z.1 (f.soiled p b z.0);
        } record {
          gone = λ p b a u l. read_same p b ∙ gone' p b a u;
          back = back';
          made = λ c. split (eqb c c₀) (λ z. (z || h.making c) ≡ false → ((j : ℕ) → j ≢ k → (sights j).hold.making c ≡ false) → cond z cl (cells.descr c) ≡ cond (g.runs c) (cond z cl (g.geo.class c)) 0) (λ _ u. absurd (both_ways true u refl)) (λ _ u w. same_made sh L o cells sights g x k ink (sights k) (λ d. refl) c u w);
          occ = occ';
          geo = record {
            twice = x.geo.twice;
            classes = λ c r. split (eqb c c₀) (λ z. (1 ≤ cond z cl (g.geo.class c)) × (0 < blocks_of (cond z cl (g.geo.class c)))) (λ _. (q.some_, q.blocks)) (λ _. x.geo.classes c r);
            shape = x.geo.shape;
            head = x.geo.head;
            huge = x.geo.huge;
            zeros = x.geo.zeros;
            in_zone = x.geo.in_zone;
            within = λ c i y. valid_same (Small c i) (x.geo.within c i y);
          };
          alone = x.alone;
          counter = x.counter;
          flying = still_flying sh L o cells sights g x k ink x' (λ n y. y);
        } t,
      )
    where
      h : Hold
      h = (sights k).hold

      x' : Sight
      x' = record (sights k) { hold = with_mark (sights k).hold c₀ cl; soiled = so }

      cells' : Cells
      cells' = record cells { pool = pool'; descr = put1 cells.descr c₀ cl }

      g' : Ghost
      g' = ghost_with_mark g c₀ cl

      f : SightFits sh cells (settled o g) (Flies g k) g k (sights k)
      f = x.each_lane k

      own0 : own h (Big c₀) ≡ true
      own0 = mine_own h (Big c₀) q.own_

      first0 : g.geo.first c₀ ≡ c₀
      first0 = eqb-true (g.geo.first c₀) c₀ (f.hold.mine (Big c₀) q.own_).1

      no_run0 : g.runs c₀ ≡ false
      no_run0 = f.hold.free c₀ (subst (λ a. h.mine (Big a) ≡ true) (sym first0) q.own_)

      put_else : (e : ℕ → ℕ) (c : ℕ) → (c ≡ c₀ → ⊥) → cond (c == c₀) cl (e c) ≡ e c
      put_else e c ne = cond-false (eqb c c₀) cl (e c) (ne_eqb c c₀ ne)

      unmaking : (j : ℕ) → (sights j).hold.making c₀ ≡ false
      unmaking j = false_from_ne_true ((sights j).hold.making c₀) (λ m. ⊎_elim
          (λ (e : j ≡ k). let m' = subst (λ i. (sights i).hold.making c₀ ≡ true) e m in let a = (f.hold.making c₀ m').2 in let b : h.class c₀ ≡ g.geo.class c₀ = f.hold.class c₀ 0 (own_has h (Small c₀ 0) (making_own h c₀ 0 m')) in let z = q.unknown in absurd (omega arith))
          (λ (ne : j ≢ k). let fj = x.each_lane j in let a = (fj.hold.mine (Big c₀) (fj.hold.making c₀ m).0).0 in let b = (f.hold.mine (Big c₀) q.own_).0 in ne (omega arith)) (cases_eq j k))

      untold : cells.descr c₀ ≡ 0
      untold = x.descr c₀ unmaking ∙ cond-false (g.runs c₀) (g.geo.class c₀) 0 no_run0

      -- its blocks were nobody's
      nobody : (j c i : ℕ) → eqb c c₀ ≡ true → own (sights j).hold (Small c i) ≡ false
      nobody j c i e = subst (λ a. own (sights j).hold (Small a i) ≡ false) (sym (eqb-true c c₀ e)) (false_from_ne_true (own (sights j).hold (Small c₀ i)) (λ t. ⊎_elim (λ (r : g.runs c₀ ≡ true). both_ways (g.runs c₀) no_run0 r) (λ (r : (sights j).hold.making c₀ ≡ true). both_ways ((sights j).hold.making c₀) (unmaking j) r) (small_cases sh cells (settled o g) (Flies g j) g x.geo j (sights j) (x.each_lane j) c₀ i t)))

      run_else : (c : ℕ) → g.runs c ≡ true → eqb c c₀ ≡ false
      run_else c r = ne_eqb c c₀ (λ e. both_ways (g.runs c₀) no_run0 (sym (ap g.runs e) ∙ r))

      valid_run : (c i : ℕ) → valid g (Small c i) ≡ true → eqb c c₀ ≡ false
      valid_run c i v = run_else c (and_parts (g.runs c) (nat_lt i (blocks_of (g.geo.class c))) v).0

      header_same : (B : Block) → valid g B ≡ true → header sh g'.geo B ≡ header sh g.geo B
      header_same (Small c i) v = ap (λ z. header sh (record g.geo { class = λ d. cond z cl (g.geo.class d) }) (Small c i)) (valid_run c i v)
      header_same (Big y) v = refl
      header_same Root v = refl

      valid_same : (B : Block) → valid g B ≡ true → valid g' B ≡ true
      valid_same (Small c i) v = ap (λ z. g.runs c && nat_lt i (blocks_of (cond z cl (g.geo.class c)))) (valid_run c i v) ∙ v
      valid_same (Big y) v = v
      valid_same Root v = v

      -- the descriptor told of no huge block before
      was_clear : (b : ℕ) → cells.pool (Descr c₀) b ≡ false
      was_clear b = (f.bits (Descr c₀) b (subst (λ a. own h (Big a) ≡ true) (sym first0) own0)).0 refl (nothing (left (sights k).phase (Descr c₀) b) (λ z e. both_ways (given (diff (sights k).call (Descr c₀) b)) (q.undiffed (Descr c₀) b (eq-eqb c₀ c₀ refl)) (some_first (latest (sights k).call.entries (Descr c₀) b) ((sights k).call.fresh (Descr c₀) b) (ap given (f.call.todo (Descr c₀) b z e)))))
          (and_left ((sights k).logged (Descr c₀)) (not (is_decided (sights k).phase)) (false_from_ne_true ((sights k).logged (Descr c₀)) (λ y. both_ways (given (diff (sights k).call (Descr c₀) b)) (q.undiffed (Descr c₀) b (eq-eqb c₀ c₀ refl)) (fresh_given (latest (sights k).call.entries (Descr c₀) b) ((sights k).call.fresh (Descr c₀) b) (f.stored (Descr c₀) b early y)))))
          ∙ x.geo.zeros c₀ (f.hold.mine (Big c₀) q.own_).2 b
        where
          nothing : (a : Option Bool) → ((y : Bool) → a ≡ Some y → ⊥) → given a ≡ false
          nothing None n = refl
          nothing (Some y) n = absurd (n y refl)

      is_descr : Place → Bool
      is_descr (InRun c w) = false
      is_descr (InHuge c w) = false
      is_descr (Descr c) = true
      is_descr RootWord = false

      read_same : (p : Place) (b : ℕ) → read pool' p b ≡ read cells.pool p b
      read_same (InRun c w) b = q.same_pool (InRun c w) b (λ e. both_ways false refl (ap is_descr e))
      read_same (InHuge c w) b = q.same_pool (InRun c w) b (λ e. both_ways false refl (ap is_descr e))
      read_same (Descr c) b = ⊎_elim (λ (e : c ≡ c₀). ap (λ a. pool' (Descr a) b) e ∙ (q.clear b ∙ (sym (was_clear b) ∙ ap (λ a. cells.pool (Descr a) b) (sym e)))) (λ (ne : c ≢ c₀). q.same_pool (Descr c) b (λ e. ne (ap of e))) (cases_eq c c₀)
        where
          of : Place → ℕ
          of (InRun c w) = c
          of (InHuge c w) = c
          of (Descr c) = c
          of RootWord = 0
      read_same RootWord b = q.same_pool RootWord b (λ e. both_ways false refl (ap is_descr e))

      -- what the lane owned before it owns still, in the same block
      bits' : (p : Place) (b : ℕ) → owns g'.geo (settled o g) (with_mark h c₀ cl) p b ≡ true
          → BitFits (live (settled o g) g'.geo g.runs p) (blank (with_mark h c₀ cl) p) (is_decided (sights k).phase) (left (sights k).phase p b) ((sights k).logged p) (latest (sights k).call.entries p b) ((sights k).picture p b) (read cells.pool p b) (settled o g p b)
      bits' (InRun c w) b = split (eqb c c₀) (λ z. (h.mine (Small c (part (cond z cl (g.geo.class c)) w b)) || (h.here (Small c (part (cond z cl (g.geo.class c)) w b)) || (z || h.making c))) ≡ true
          → BitFits (g.runs c && shown (settled o g) (cond z cl (g.geo.class c)) c w) ((w == 0) && (z || h.making c)) (is_decided (sights k).phase) (left (sights k).phase (InRun c w) b) ((sights k).logged (InRun c w)) (latest (sights k).call.entries (InRun c w) b) ((sights k).picture (InRun c w) b) (read cells.pool (InRun c w) b) (settled o g (InRun c w) b))
          (λ e _. let s = eqb-true c c₀ e in (
            λ al. absurd (both_ways (g.runs c) (ap g.runs s ∙ no_run0) (and_parts (g.runs c) (shown (settled o g) cl c w) al).0),
            λ bl. let y = eqb-true w 0 (and_parts (w == 0) true bl).0 in ap (λ v. read cells.pool (InRun c v) b) y ∙ (ap (λ a. read cells.pool (InRun a 0) b) s ∙ q.empty b),
            λ dec. absurd (both_ways (is_decided (sights k).phase) early dec),
            λ y a. subst (λ d. read cells.pool (InRun d w) b ≡ y) (sym s) ((f.bits (InHuge c₀ w) b (subst (λ a. own h (Big a) ≡ true) (sym first0) own0)).3 y (q.pictured w b y (ap (λ d. (sights k).picture (InRun d w) b) (sym s) ∙ a))),
          ))
          (λ _ a. f.bits (InRun c w) b a)
      bits' (InHuge c w) b = λ a. f.bits (InHuge c w) b a
      bits' (Descr c) b = λ a. f.bits (Descr c) b a
      bits' RootWord b = λ a. f.bits RootWord b a

      sees_same : (p : Place) (b : ℕ) → Rattle.pm_world.specs.Lanes.sees g'.geo (settled o g) (with_mark h c₀ cl) p b ≡ true → Rattle.pm_world.specs.Lanes.sees g.geo (settled o g) h p b ≡ true
      sees_same (InRun c w) b s = subst (λ z. h.found (Small c (part (cond z cl (g.geo.class c)) w b)) ≡ true) (valid_run c (part (cond (eqb c c₀) cl (g.geo.class c)) w b) (f.hold.found (Small c (part (cond (eqb c c₀) cl (g.geo.class c)) w b)) s).1) s
      sees_same (InHuge c w) b s = s
      sees_same (Descr c) b s = s
      sees_same RootWord b s = s

      turns' : (B : Block) → TurnFits (sights k).phase (h.locked (header sh g'.geo B)) (h.mine B) (h.here B) (turn (latest (sights k).call.entries) B)
      turns' (Small c i) = split (eqb c c₀) (λ z. TurnFits (sights k).phase (h.locked (header sh (record g.geo { class = λ d. cond z cl (g.geo.class d) }) (Small c i))) (h.mine (Small c i)) (h.here (Small c i)) (turn (latest (sights k).call.entries) (Small c i)))
          (λ e. subst (TurnFits (sights k).phase (h.locked (header sh (record g.geo { class = λ d. cl }) (Small c i))) (h.mine (Small c i)) (h.here (Small c i))) (sym (turn_stays (sights k).phase (h.locked (header sh g.geo (Small c i))) (h.mine (Small c i)) (h.here (Small c i)) (h.making c) (turn (latest (sights k).call.entries) (Small c i)) (f.turns (Small c i)) (nobody k c i e)))
          (stay_fits (sights k).phase (h.locked (header sh (record g.geo { class = λ d. cl }) (Small c i))) (h.mine (Small c i)) (h.here (Small c i)))) (λ _. f.turns (Small c i))
      turns' (Big y) = f.turns (Big y)
      turns' Root = f.turns Root

      reach' : (p : Place) (b : ℕ) → given (diff (sights k).call p b) ≡ true → owns g.geo (settled o g) h p b ≡ true → owns g'.geo (settled o g) (with_mark h c₀ cl) p b ≡ true
      reach' (InRun c w) b y = split (eqb c c₀) (λ z. (h.mine (Small c (part (g.geo.class c) w b)) || (h.here (Small c (part (g.geo.class c) w b)) || h.making c)) ≡ true → (h.mine (Small c (part (cond z cl (g.geo.class c)) w b)) || (h.here (Small c (part (cond z cl (g.geo.class c)) w b)) || (z || h.making c))) ≡ true)
          (λ e a. absurd (both_ways (own h (Small c (part (g.geo.class c) w b))) (nobody k c (part (g.geo.class c) w b) e) a)) (λ _ a. a)
      reach' (InHuge c w) b y = λ a. a
      reach' (Descr c) b y = λ a. a
      reach' RootWord b y = λ a. a

      plain' : (p : Place) (b : ℕ) → given (diff (sights k).call p b) ≡ true → is_in_making h p ≡ false → is_in_making (with_mark h c₀ cl) p ≡ false
      plain' p b y = go p (false_from_ne_true (is_of_chunk c₀ p) (λ e. both_ways (given (diff (sights k).call p b)) (q.undiffed p b e) y))
        where
          go : (p : Place) → is_of_chunk c₀ p ≡ false → is_in_making h p ≡ false → is_in_making (with_mark h c₀ cl) p ≡ false
          go (InRun c w) n e = or_from (c == c₀) (h.making c) n e
          go (InHuge c w) n e = or_from (c == c₀) (h.making c) n e
          go (Descr c) n e = or_from (c == c₀) (h.making c) n e
          go RootWord n e = refl

      logged_diff : (p : Place) (b : ℕ) → is_decided (sights k).phase ≡ false → (sights k).logged p ≡ true → given (diff (sights k).call p b) ≡ true
      logged_diff p b u y = fresh_given (latest (sights k).call.entries p b) ((sights k).call.fresh p b) (f.stored p b u y)

      sizes' : (p : Place) (b : ℕ) → Rattle.pm_world.specs.Lanes.is_size g'.geo p ≡ true → (given (latest (sights k).call.entries p b) ≡ false) × (given ((sights k).call.fresh p b) ≡ true → turn (latest (sights k).call.entries) (block_of g'.geo p b) ≡ Some true)
      sizes' (InRun c w) b = split (eqb c c₀) (λ z. (nat_le 8 w && (((w / 8 - 1) % cond z cl (g.geo.class c) == 0) && (w % 8 == 1))) ≡ true → (given (latest (sights k).call.entries (InRun c w) b) ≡ false) × (given ((sights k).call.fresh (InRun c w) b) ≡ true → turn (latest (sights k).call.entries) (Small c (part (cond z cl (g.geo.class c)) w b)) ≡ Some true))
          (λ e _. let n = q.undiffed (InRun c w) b e in (
            false_from_ne_true (given (latest (sights k).call.entries (InRun c w) b)) (λ y. both_ways (given (diff (sights k).call (InRun c w) b)) n (some_first (latest (sights k).call.entries (InRun c w) b) ((sights k).call.fresh (InRun c w) b) y)),
            λ y. absurd (both_ways (given (diff (sights k).call (InRun c w) b)) n (fresh_given (latest (sights k).call.entries (InRun c w) b) ((sights k).call.fresh (InRun c w) b) y)),
          )) (λ _ s. f.sizes (InRun c w) b s)
      sizes' (InHuge c w) b = λ s. f.sizes (InHuge c w) b s
      sizes' (Descr c) b = λ s. f.sizes (Descr c) b s
      sizes' RootWord b = λ s. f.sizes RootWord b s

      soiled' : (p : Place) (b : ℕ) → is_of_chunk c₀ p ≡ false → (soils (sights k).phase p (h.mine (block_of g.geo p b)) ((sights k).logged p) (latest (sights k).call.entries p b) ≡ true) × (is_in_making h p ≡ false)
          → (soils (sights k).phase p (h.mine (block_of g'.geo p b)) ((sights k).logged p) (latest (sights k).call.entries p b) ≡ true) × (is_in_making (with_mark h c₀ cl) p ≡ false)
      soiled' (InRun c w) b n u = subst (λ z. (soils (sights k).phase (InRun c w) (h.mine (Small c (part (cond z cl (g.geo.class c)) w b))) ((sights k).logged (InRun c w)) (latest (sights k).call.entries (InRun c w) b) ≡ true) × ((z || h.making c) ≡ false)) (sym n) u
      soiled' (InHuge c w) b n u = (u.0, or_from (c == c₀) (h.making c) n u.1)
      soiled' (Descr c) b n u = (u.0, or_from (c == c₀) (h.making c) n u.1)
      soiled' RootWord b n u = u

      gone' : (p : Place) (b : ℕ) → owns g.geo (settled o g) h p b ≡ true → owns g'.geo (settled o g) (with_mark h c₀ cl) p b ≡ false → read cells.pool p b ≡ settled o g p b
      gone' (InRun c w) b a = split (eqb c c₀) (λ z. (h.mine (Small c (part (cond z cl (g.geo.class c)) w b)) || (h.here (Small c (part (cond z cl (g.geo.class c)) w b)) || (z || h.making c))) ≡ false → read cells.pool (InRun c w) b ≡ settled o g (InRun c w) b)
          (λ e _. absurd (both_ways (own h (Small c (part (g.geo.class c) w b))) (nobody k c (part (g.geo.class c) w b) e) a)) (λ _ u. absurd (both_ways (own h (Small c (part (g.geo.class c) w b))) u a))
      gone' (InHuge c w) b a = λ u. absurd (both_ways (own h (Big (g.geo.first c))) u a)
      gone' (Descr c) b a = λ u. absurd (both_ways (own h (Big (g.geo.first c))) u a)
      gone' RootWord b a = λ u. absurd (both_ways (owns g.geo (settled o g) h RootWord b) u a)

      back' : (p : Place) (b : ℕ) → owns g.geo (settled o g) h p b ≡ false → owns g'.geo (settled o g) (with_mark h c₀ cl) p b ≡ false → live (settled o g) g'.geo g.runs p ≡ true
          → (live (settled o g) g.geo g.runs p ≡ true) × ((j : ℕ) → j ≢ k → owns g'.geo (settled o g) (sights j).hold p b ≡ false → owns g.geo (settled o g) (sights j).hold p b ≡ false)
      back' (InRun c w) b u u' = split (eqb c c₀) (λ z. (g.runs c && shown (settled o g) (cond z cl (g.geo.class c)) c w) ≡ true → ((g.runs c && shown (settled o g) (g.geo.class c) c w) ≡ true) × ((j : ℕ) → j ≢ k → own (sights j).hold (Small c (part (cond z cl (g.geo.class c)) w b)) ≡ false → own (sights j).hold (Small c (part (g.geo.class c) w b)) ≡ false))
          (λ e l. absurd (both_ways (g.runs c) (ap g.runs (eqb-true c c₀ e) ∙ no_run0) (and_parts (g.runs c) (shown (settled o g) cl c w) l).0)) (λ _ l. (l, λ j ne y. y))
      back' (InHuge c w) b u u' = λ l. (l, λ j ne y. y)
      back' (Descr c) b u u' = λ l. (l, λ j ne y. y)
      back' RootWord b u u' = λ l. (l, λ j ne y. y)

      occ' : (a : Block) → is_occupancy sh a ≡ true → cells.occ a ≡ is_taken (settled o g) g' a
      occ' (Small c i) in_ = x.occ (Small c i) in_ ∙ split (eqb c c₀) (λ z. (not (g.runs c && nat_lt i (blocks_of (g.geo.class c))) || (there (settled o g) (Small c i) || not (g.holder (Small c i) == 0))) ≡ (not (g.runs c && nat_lt i (blocks_of (cond z cl (g.geo.class c)))) || (there (settled o g) (Small c i) || not (g.holder (Small c i) == 0))))
          (λ e. let r = ap g.runs (eqb-true c c₀ e) ∙ no_run0 in ap (λ y. not (y && nat_lt i (blocks_of (g.geo.class c))) || (there (settled o g) (Small c i) || not (g.holder (Small c i) == 0))) r ∙ sym (ap (λ y. not (y && nat_lt i (blocks_of cl)) || (there (settled o g) (Small c i) || not (g.holder (Small c i) == 0))) r)) (λ _. refl)
      occ' (Big c) in_ = x.occ (Big c) in_
      occ' Root in_ = x.occ Root in_
