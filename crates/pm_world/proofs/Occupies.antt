-- A lane takes occupancy bits, over bits: its rights grow by a block that was nobody's and is not allocated.
use Rattle.std.proofs.Common.{◌≡◌, ◌≢◌, ℕ, zero, suc, ◌+◌, ◌-◌, ◌*◌, ◌/◌, ◌%◌, ◌<◌, ◌≤◌, ◌⊎◌, inl, inr, ⊎_elim, nat_le, nat_lt, Bool, true, false, cond, not, ◌&&◌, ◌||◌, eqb, ◌==◌, refl, sym, ap, ◌∙◌, subst, arith, eq-eqb, ne_eqb, Option, None, Some}
use Rattle.std.proofs.lemmas.Bool.{cases_eq, cases_Bool, eqb-true, both_ways, le-leb, lt-ltb, and_parts, and_from, or_cases, or_left, or_right, or_parts, or_from, cond-true, cond-false, false_from_ne_true, true_from_ne_false}
use Rattle.pm_layout.specs.declared.shape.Shape.{Shape}
use Rattle.pm_layout.specs.Sizes.{blocks_of}
use Rattle.pm_view.specs.Places.{Place, InRun, InHuge, Descr, RootWord, Block, Small, Big, Root, Geometry, part, block_of, header, in_span, is_data, same}
use Rattle.pm_view.specs.Entries.{latest, turn}
use Rattle.pm_view.specs.Log.{Phase, Idle, Open, Drawn, Sealing, Applying, Clearing, Retiring, Voiding}
use Rattle.pm_view.specs.Claims.{making_of}
use Rattle.pm_world.specs.States.{State, Diff, diff, given, there, lit, bright_huge, live, guards, read, claimed, Cells}
use Rattle.pm_world.specs.Sights.{Hold, Sight}
use Rattle.pm_world.specs.Lanes.{Ghost, own, rights, owns, has, valid, is_decided, in_flight, left, blank, BitFits, open_soils, soils, TurnFits, settled, SightFits, Flies, is_occupancy, is_taken, is_size, DescrFits, GeoFits, Bits}
use Rattle.pm_world.proofs.Geometry.{same_true}
use Rattle.pm_world.proofs.Frame.{Around, own_cases, mine_own, own_has, maker_no_run, turn_stays, stay_fits, some_first, fresh_given, soiled_owned}
use Rattle.pm_world.proofs.Going.{Turned, goes_on, same_made, still_flying}

-- by cases of a test that stands in several places
pub split : (t : Bool) (P : Bool → Type 0) → (t ≡ true → P true) → (t ≡ false → P false) → P t
split true P a b = a refl
split false P a b = b refl

-- what may be undrained may be so still where more blocks are the lane's own
more_open : (p : Place) (m m' lg : Bool) → (m ≡ true → m' ≡ true) → open_soils p m lg ≡ true → open_soils p m' lg ≡ true
more_open (InRun c w) m m' lg u t = let y = and_parts (is_data (InRun c w)) (m || lg) t in and_from (is_data (InRun c w)) (m' || lg) y.0 (more m m' lg u y.1)
  where
    more : (m m' lg : Bool) → (m ≡ true → m' ≡ true) → (m || lg) ≡ true → (m' || lg) ≡ true
    more m m' lg u t = ⊎_elim (λ (e : m ≡ true). or_left m' lg (u e)) (λ (e : lg ≡ true). or_right m' lg e) (or_cases m lg t)
more_open (InHuge c w) m m' lg u t = ⊎_elim (λ (e : m ≡ true). or_left m' lg (u e)) (λ (e : lg ≡ true). or_right m' lg e) (or_cases m lg t)
more_open (Descr c) m m' lg u t = t
more_open RootWord m m' lg u t = t

pub more_soils : (ph : Phase) (p : Place) (m m' lg : Bool) (en : Option Bool) → (m ≡ true → m' ≡ true) → soils ph p m lg en ≡ true → soils ph p m' lg en ≡ true
more_soils Idle p m m' lg en u t = more_open p m m' lg u t
more_soils Open p m m' lg en u t = more_open p m m' lg u t
more_soils (Drawn n) p m m' lg en u t = t
more_soils (Sealing n) p m m' lg en u t = t
more_soils (Applying todo) p m m' lg en u t = t
more_soils Clearing p m m' lg en u t = t
more_soils (Retiring n) p m m' lg en u t = t
more_soils Voiding p m m' lg en u t = t

-- a class that the lane knows is what the descriptor tells
known_class : (a d : ℕ) → ((n : ℕ) → a ≡ suc n → d ≡ suc n) → a ≢ 0 → d ≡ a
known_class zero d u ne = absurd (ne refl)
known_class (suc n) d u ne = u n refl

-- the lane's own blocks with these too
abbrev pub with_mine : Hold → (Block → Bool) → Hold
with_mine h new = record h { mine = λ B. new B || h.mine B }

more_own : (h : Hold) (new : Block → Bool) (B : Block) → own h B ≡ true → own (with_mine h new) B ≡ true
more_own h new B t = ⊎_elim (λ (m : h.mine B ≡ true). or_left (new B || h.mine B) (h.here B || making_of h.making B) (or_right (new B) (h.mine B) m)) (λ (r : (h.here B || making_of h.making B) ≡ true). or_right (new B || h.mine B) (h.here B || making_of h.making B) r) (or_cases (h.mine B) (h.here B || making_of h.making B) t)

less_own : (h : Hold) (new : Block → Bool) (B : Block) → own (with_mine h new) B ≡ true → (new B ≡ true) ⊎ (own h B ≡ true)
less_own h new B t = ⊎_elim (λ (m : (new B || h.mine B) ≡ true). ⊎_elim (λ (y : new B ≡ true). inl y) (λ (y : h.mine B ≡ true). inr (mine_own h B y)) (or_cases (new B) (h.mine B) m)) (λ (r : (h.here B || making_of h.making B) ≡ true). inr (or_right (h.mine B) (h.here B || making_of h.making B) r)) (or_cases (new B || h.mine B) (h.here B || making_of h.making B) t)

-- the root word is no block that is taken
module _ (G : Geometry) (S : State) (h : Hold) (new : Block → Bool) (no_root : new Root ≡ false) where
  root_same : (b : ℕ) → owns G S (with_mine h new) RootWord b ≡ owns G S h RootWord b
  root_same b = ap (λ t. ((t || h.mine Root) || false) || Rattle.pm_world.specs.Lanes.all_held h.locked (guards S RootWord)) no_root

  pub more_owned : (p : Place) (b : ℕ) → owns G S h p b ≡ true → owns G S (with_mine h new) p b ≡ true
  more_owned (InRun c w) b t = more_own h new (block_of G (InRun c w) b) t
  more_owned (InHuge c w) b t = more_own h new (block_of G (InHuge c w) b) t
  more_owned (Descr c) b t = more_own h new (block_of G (Descr c) b) t
  more_owned RootWord b t = root_same b ∙ t

  pub less_owned : (p : Place) (b : ℕ) → owns G S (with_mine h new) p b ≡ true → (new (block_of G p b) ≡ true) ⊎ (owns G S h p b ≡ true)
  less_owned (InRun c w) b t = less_own h new (block_of G (InRun c w) b) t
  less_owned (InHuge c w) b t = less_own h new (block_of G (InHuge c w) b) t
  less_owned (Descr c) b t = less_own h new (block_of G (Descr c) b) t
  less_owned RootWord b t = inr (sym (root_same b) ∙ t)

-- ---- ONE BLOCK OF A RUN: its bit was clear, and the lane knows the run's class. What the lane has a picture of it keeps; of the new block it has none
module _ (sh : Shape) (L : ℕ) (o : State) (cells : Cells) (sights : ℕ → Sight) (g : Ghost) (x : Bits sh L o cells sights g) (k : ℕ) (ink : k < L) (c i : ℕ) (new : Block → Bool) (is : (B : Block) → new B ≡ same B (Small c i)) where
  abbrev S : State
  S = settled o g

  abbrev h : Hold
  h = (sights k).hold

  abbrev g' : Ghost
  g' = record g { holder = λ B. cond (new B) (suc k) (g.holder B) }

  new_is : (B : Block) → new B ≡ true → B ≡ Small c i
  new_is B t = same_true B (Small c i) (sym (is B) ∙ t)

  no_big : (f : ℕ) → new (Big f) ≡ false
  no_big f = is (Big f)

  -- it is a block, nobody's, and not allocated
  pub free_block : is_occupancy sh (Small c i) ≡ true → cells.occ (Small c i) ≡ false → (valid g (Small c i) ≡ true) × (there (settled o g) (Small c i) ≡ false) × (g.holder (Small c i) ≡ 0)
  free_block ins free = let t = or_parts (not (valid g (Small c i))) (there (settled o g) (Small c i) || not (g.holder (Small c i) == 0)) (sym (x.occ (Small c i) ins) ∙ free) in
      let y = or_parts (there (settled o g) (Small c i)) (not (g.holder (Small c i) == 0)) t.1 in
      (true_from_ne_false (valid g (Small c i)) (λ e. both_ways (not (valid g (Small c i))) t.0 (ap not e)), y.0, eqb-true (g.holder (Small c i)) 0 (true_from_ne_false (eqb (g.holder (Small c i)) 0) (λ e. both_ways (not (g.holder (Small c i) == 0)) y.1 (ap not e))))

  pub nobody : valid g (Small c i) ≡ true → there (settled o g) (Small c i) ≡ false → g.holder (Small c i) ≡ 0 → (j : ℕ) → own (sights j).hold (Small c i) ≡ false
  nobody v u e j = let f = x.each_lane j in false_from_ne_true (own (sights j).hold (Small c i)) (λ t. ⊎_elim (λ (m : (sights j).hold.mine (Small c i) ≡ true). let y = (f.hold.mine (Small c i) m).0 in absurd (omega arith))
      (⊎_elim (λ (m : (sights j).hold.here (Small c i) ≡ true). both_ways (there (settled o g) (Small c i)) u (f.hold.found (Small c i) (f.hold.here (Small c i) m).1).2)
      (λ (m : (sights j).hold.making c ≡ true). both_ways (g.runs c) (maker_no_run sh cells (settled o g) (Flies g j) g x.geo j (sights j) f c m) (and_parts (g.runs c) (nat_lt i (blocks_of (g.geo.class c))) v).0)) (own_cases (sights j).hold (Small c i) t))

  -- the lane knows the run's class
  pub class_known : valid g (Small c i) ≡ true → (sights k).hold.class c ≢ 0 → (sights k).hold.class c ≡ g.geo.class c
  class_known v kn = let f = x.each_lane k in let r : g.runs c ≡ true = (and_parts (g.runs c) (nat_lt i (blocks_of (g.geo.class c))) v).0 in
      sym (known_class ((sights k).hold.class c) (cells.descr c) (f.hold.seen c) kn)
      ∙ (x.descr c (λ j. false_from_ne_true ((sights j).hold.making c) (λ m. both_ways (g.runs c) (maker_no_run sh cells (settled o g) (Flies g j) g x.geo j (sights j) (x.each_lane j) c m) r)) ∙ cond-true (g.runs c) (g.geo.class c) 0 r)

  -- what the lane has a picture of where its rights have grown
  pub record Pictured (pc : Diff) : Type 0 where
    pub less : (p : Place) (b : ℕ) (y : Bool) → pc p b ≡ Some y → (sights k).picture p b ≡ Some y
    pub none_ : (p : Place) (b : ℕ) → new (block_of g.geo p b) ≡ true → pc p b ≡ None
    pub else_ : (p : Place) (b : ℕ) → owns g.geo (settled o g) (sights k).hold p b ≡ true → pc p b ≡ (sights k).picture p b

  pub occupies_small : is_occupancy sh (Small c i) ≡ true → cells.occ (Small c i) ≡ false → (sights k).hold.class c ≢ 0 → is_decided (sights k).phase ≡ false → in_flight (sights k).phase ≡ false
      → (occ' : Block → Bool) → ((a : Block) → is_occupancy sh a ≡ true → occ' a ≡ (new a || cells.occ a)) → (pc : Diff) → Pictured pc
      → (sights' : ℕ → Sight) → Turned sights sights' k (record (sights k) { hold = with_mine (sights k).hold new; picture = pc }) → Around k (sights k).hold (λ j. (sights j).hold) cells (record cells { occ = occ' }) (settled o g) (settled o g) g (record g { holder = λ B. cond (new B) (suc k) (g.holder B) })
      × Bits sh L o (record cells { occ = occ' }) sights' (record g { holder = λ B. cond (new B) (suc k) (g.holder B) })
  occupies_small ins free kn early flight occ' occs pc pic sights' t =
      let a : Around k (sights k).hold (λ j. (sights j).hold) cells (record cells { occ = occ' }) (settled o g) (settled o g) g (record g { holder = λ B. cond (new B) (suc k) (g.holder B) }) = record {
        writer = λ l j ne. refl;
        reader = λ l j ne. refl;
        pool = λ p b u w. refl;
        set = λ p b u. refl;
        descr = λ d u. refl;
        up = λ d n e. e;
        runs = λ d u. refl;
        holder = λ B j ne e. split (new B) (λ z. cond z (suc k) (g.holder B) ≡ suc j) (λ y. let a = holder0 B y in absurd (omega arith)) (λ _. e);
        holder_back = λ B j ne. split (new B) (λ z. cond z (suc k) (g.holder B) ≡ suc j → g.holder B ≡ suc j) (λ y e. absurd (ne (omega arith))) (λ _ e. e);
        class = λ d u. refl;
        first = λ d j ne. inl refl;
        flies = λ j n d ne w y. y;
      } in (
        a,
        goes_on sh L o cells sights g x k ink (settled o g) (record cells { occ = occ' }) x' g' sights' refl a record {
          hold = record {
            locks = f.hold.locks;
            reading = f.hold.reading;
            found = f.hold.found;
            here = f.hold.here;
            found_here = f.hold.found_here;
            mine = λ B. split (new B) (λ z. (z || h.mine B) ≡ true → (cond z (suc k) (g.holder B) ≡ suc k) × (valid g B ≡ true) × (there (settled o g) B ≡ false))
                (λ y _. subst (λ C. (suc k ≡ suc k) × (valid g C ≡ true) × (there (settled o g) C ≡ false)) (sym (new_is B y)) (refl, fb.0, fb.1)) (λ _ m. f.hold.mine B m);
            holds = λ B. split (new B) (λ z. cond z (suc k) (g.holder B) ≡ suc k → (z || h.mine B) ≡ true) (λ _ _. refl) (λ _ e. f.hold.holds B e);
            class = λ d j. λ a. ⊎_elim (λ (y : new (Small d j) ≡ true). subst (λ C. class_at C) (sym (new_is (Small d j) y)) class_here) (λ (y : has h (Small d j) ≡ true). f.hold.class d j y) (less_has (Small d j) a);
            span = λ y a. f.hold.span y (big_has y a);
            first = λ d a. f.hold.first d (big_has (g.geo.first d) a);
            zone = λ y a. f.hold.zone y (big_has y a);
            making = λ d a. let y = f.hold.making d a in (or_right (new (Big d)) (h.mine (Big d)) y.0, y.1, y.2, y.3, y.4);
            free = λ d a. f.hold.free d (sym (ap (λ z. z || h.mine (Big (g.geo.first d))) (no_big (g.geo.first d))) ∙ a);
            seen = f.hold.seen;
          };
          bits = bits';
          picture = λ p b s y e. f.picture p b s y (pic.less p b y e);
          turns = λ B. split (new B) (λ z. TurnFits (sights k).phase (h.locked (header sh g.geo B)) (z || h.mine B) (h.here B) (turn (latest (sights k).call.entries) B))
              (λ y. subst (TurnFits (sights k).phase (h.locked (header sh g.geo B)) true (h.here B)) (sym (turn_stays (sights k).phase (h.locked (header sh g.geo B)) (h.mine B) (h.here B) (making_of h.making B) (turn (latest (sights k).call.entries) B) (f.turns B) (subst (λ C. own h C ≡ false) (sym (new_is B y)) (none_ k)))) (stay_fits (sights k).phase (h.locked (header sh g.geo B)) true (h.here B))) (λ _. f.turns B);
          call = f.call;
          reach = λ p b y. more_owned g.geo (settled o g) h new (is Root) p b (f.reach p b y);
          plain = f.plain;
          logged = λ p b u y. let z = f.logged p b u y in (more_owned g.geo (settled o g) h new (is Root) p b z.0, z.1);
          stored = f.stored;
          fresh = λ p b y e. pic.else_ p b (f.reach p b (fresh_given (latest (sights k).call.entries p b) ((sights k).call.fresh p b) (ap given e))) ∙ f.fresh p b y e;
          sizes = f.sizes;
          born = λ y. absurd (both_ways (in_flight (sights k).phase) flight y);
          guarded = λ y. absurd (both_ways (in_flight (sights k).phase) flight y);
          soiled = λ p b y. let z = f.soiled p b y in let B = block_of g.geo p b in (more_soils (sights k).phase p (h.mine B) (new B || h.mine B) ((sights k).logged p) (latest (sights k).call.entries p b) (or_right (new B) (h.mine B)) z.0, z.1);
        } record {
          gone = λ p b q u l. absurd (both_ways (owns g.geo (settled o g) (with_mine h new) p b) u (more_owned g.geo (settled o g) h new (is Root) p b q));
          back = λ p b u u' l. (l, λ j ne y. y);
          made = same_made sh L o cells sights g x k ink x' (λ d. refl);
          occ = λ a in_. occs a in_ ∙ occ_after a in_;
          geo = record { twice = x.geo.twice; classes = x.geo.classes; shape = x.geo.shape; head = x.geo.head; huge = x.geo.huge; zeros = x.geo.zeros; in_zone = x.geo.in_zone; within = x.geo.within };
          alone = x.alone;
          counter = x.counter;
          flying = still_flying sh L o cells sights g x k ink x' (λ n y. y);
        } t,
      )
    where
      x' : Sight
      x' = record (sights k) { hold = with_mine (sights k).hold new; picture = pc }

      f : SightFits sh cells (settled o g) (Flies g k) g k (sights k)
      f = x.each_lane k

      fb : (valid g (Small c i) ≡ true) × (there (settled o g) (Small c i) ≡ false) × (g.holder (Small c i) ≡ 0)
      fb = free_block ins free

      run : g.runs c ≡ true
      run = (and_parts (g.runs c) (nat_lt i (blocks_of (g.geo.class c))) fb.0).0

      none_ : (j : ℕ) → own (sights j).hold (Small c i) ≡ false
      none_ = nobody fb.0 fb.1 fb.2

      holder0 : (B : Block) → new B ≡ true → g.holder B ≡ 0
      holder0 B y = subst (λ C. g.holder C ≡ 0) (sym (new_is B y)) fb.2

      no_maker : (j : ℕ) → (sights j).hold.making c ≡ false
      no_maker j = false_from_ne_true ((sights j).hold.making c) (λ m. both_ways (g.runs c) (maker_no_run sh cells (settled o g) (Flies g j) g x.geo j (sights j) (x.each_lane j) c m) run)

      class_at : Block → Type 0
      class_at (Small d j) = h.class d ≡ g.geo.class d
      class_at (Big d) = h.class d ≡ g.geo.class d
      class_at Root = h.class c ≡ g.geo.class c

      class_here : h.class c ≡ g.geo.class c
      class_here = class_known fb.0 kn

      less_has : (B : Block) → has (with_mine h new) B ≡ true → (new B ≡ true) ⊎ (has h B ≡ true)
      less_has B a = ⊎_elim (λ (y : own (with_mine h new) B ≡ true). ⊎_elim (λ (z : new B ≡ true). inl z) (λ (z : own h B ≡ true). inr (own_has h B z)) (less_own h new B y)) (λ (y : h.found B ≡ true). inr (or_right (own h B) (h.found B) y)) (or_cases (own (with_mine h new) B) (h.found B) a)

      big_has : (y : ℕ) → has (with_mine h new) (Big y) ≡ true → has h (Big y) ≡ true
      big_has y a = ⊎_elim (λ (z : new (Big y) ≡ true). absurd (both_ways (new (Big y)) (no_big y) z)) (λ (z : has h (Big y) ≡ true). z) (less_has (Big y) a)

      lives : (p : Place) (b : ℕ) → new (block_of g.geo p b) ≡ true → live (settled o g) g.geo g.runs p ≡ true → read cells.pool p b ≡ settled o g p b
      lives (InRun d w) b y l = x.unowned (InRun d w) b (λ j. subst (λ C. own (sights j).hold C ≡ false) (sym (new_is (block_of g.geo (InRun d w) b) y)) (none_ j)) l
      lives (InHuge d w) b y l = absurd (both_ways (new (Big (g.geo.first d))) (no_big (g.geo.first d)) y)
      lives (Descr d) b y l = absurd (both_ways (new (Big (g.geo.first d))) (no_big (g.geo.first d)) y)
      lives RootWord b y l = absurd (both_ways (new Root) (is Root) y)

      not_blank : (p : Place) (b : ℕ) → new (block_of g.geo p b) ≡ true → blank h p ≡ true → ⊥
      not_blank (InRun d w) b y bl = let m = (and_parts (eqb w 0) (h.making d) bl).1 in both_ways (h.making c) (no_maker k) (ap h.making (sym (ap chunk_of (new_is (block_of g.geo (InRun d w) b) y))) ∙ m)
        where
          chunk_of : Block → ℕ
          chunk_of (Small d j) = d
          chunk_of (Big d) = d
          chunk_of Root = 0
      not_blank (InHuge d w) b y bl = both_ways false refl bl
      not_blank (Descr d) b y bl = both_ways false refl bl
      not_blank RootWord b y bl = both_ways false refl bl

      bits' : (p : Place) (b : ℕ) → owns g.geo (settled o g) (with_mine h new) p b ≡ true
          → BitFits (live (settled o g) g.geo g.runs p) (blank h p) (is_decided (sights k).phase) (left (sights k).phase p b) ((sights k).logged p) (latest (sights k).call.entries p b) (pc p b) (read cells.pool p b) (settled o g p b)
      bits' p b a = ⊎_elim (λ (y : new (block_of g.geo p b) ≡ true). (
        λ al _ _. lives p b y al,
        λ bl. absurd (not_blank p b y bl),
        λ dec. absurd (both_ways (is_decided (sights k).phase) early dec),
        λ z e. absurd (both_ways true (ap given (sym e ∙ pic.none_ p b y)) refl),
      ))
          (λ (y : owns g.geo (settled o g) h p b ≡ true). let u = f.bits p b y in (u.0, u.1, u.2, λ z e. u.3 z (sym (pic.else_ p b y) ∙ e))) (less_owned g.geo (settled o g) h new (is Root) p b a)

      occ_after : (a : Block) → is_occupancy sh a ≡ true → (new a || cells.occ a) ≡ is_taken (settled o g) g' a
      occ_after (Small d j) in_ = split (new (Small d j)) (λ z. (z || cells.occ (Small d j)) ≡ (not (valid g (Small d j)) || (there (settled o g) (Small d j) || not (cond z (suc k) (g.holder (Small d j)) == 0))))
          (λ _. sym (or_right (not (valid g (Small d j))) (there (settled o g) (Small d j) || not (suc k == 0)) (or_right (there (settled o g) (Small d j)) (not (suc k == 0)) (ap not (ne_eqb (suc k) 0 (λ e. omega arith)))))) (λ _. x.occ (Small d j) in_)
      occ_after (Big d) in_ = ap (λ z. z || cells.occ (Big d)) (no_big d) ∙ (x.occ (Big d) in_ ∙ ap (λ z. g.runs d || (there (settled o g) (Big (g.geo.first d)) || not (cond z (suc k) (g.holder (Big (g.geo.first d))) == 0))) (sym (no_big (g.geo.first d))))
      occ_after Root in_ = absurd (both_ways false refl in_)

-- ---- CHUNKS OF A ZONE, one after another: their bits were clear, and they are one claim from here on
abbrev pub with_claim : Hold → (Block → Bool) → ℕ → (ℕ → ℕ) → Hold
with_claim h new n first = record h { mine = λ B. new B || h.mine B; span = λ y. cond (new (Big y)) n (h.span y); first = first }

abbrev pub ghost_with_claim : ℕ → Ghost → (Block → Bool) → ℕ → ℕ → Ghost
ghost_with_claim k g new f₀ n = record g { geo = claimed g.geo f₀ n; holder = λ B. cond (new B) (suc k) (g.holder B) }

module _ (sh : Shape) (L : ℕ) (o : State) (cells : Cells) (sights : ℕ → Sight) (g : Ghost) (x : Bits sh L o cells sights g) (k : ℕ) (ink : k < L) (f₀ n : ℕ) (one : 1 ≤ n) (new : Block → Bool) (is : (B : Block) → new B ≡ same B (Big f₀))
    (found : (c : ℕ) → in_span f₀ n c ≡ true → (is_occupancy sh (Big c) ≡ true) × (cells.occ (Big c) ≡ false))
    (first_now : ℕ → ℕ) (first_in : (c : ℕ) → in_span f₀ n c ≡ true → first_now c ≡ f₀) (first_out : (c : ℕ) → in_span f₀ n c ≡ false → (sights k).hold.first c ≢ f₀ → first_now c ≡ (sights k).hold.first c) where
  abbrev hk : Hold
  hk = (sights k).hold

  abbrev pub first' : ℕ → ℕ
  first' c = cond (in_span f₀ n c) f₀ (cond (in_span f₀ n (g.geo.first c)) c (g.geo.first c))

  in_f : in_span f₀ n f₀ ≡ true
  in_f = and_from (nat_le f₀ f₀) (nat_lt f₀ (f₀ + n)) (le-leb f₀ f₀ (omega arith)) (lt-ltb f₀ (f₀ + n) (omega arith))

  not_f : (c : ℕ) → in_span f₀ n c ≡ false → c ≡ f₀ → ⊥
  not_f c u e = both_ways (in_span f₀ n c) u (ap (in_span f₀ n) e ∙ in_f)

  new_else : (y : ℕ) → (y ≡ f₀ → ⊥) → new (Big y) ≡ false
  new_else y ne = is (Big y) ∙ ne_eqb y f₀ ne

  new_f : new (Big f₀) ≡ true
  new_f = is (Big f₀) ∙ eq-eqb f₀ f₀ refl

  -- neither allocated nor anybody's
  abbrev Nothing : ℕ → Type 0
  Nothing c = ((j : ℕ) → own (sights j).hold (Big c) ≡ false) × (there (settled o g) (Big c) ≡ false) × (g.holder (Big c) ≡ 0)

  unowned_big : (c : ℕ) → there (settled o g) (Big c) ≡ false → g.holder (Big c) ≡ 0 → (j : ℕ) → own (sights j).hold (Big c) ≡ false
  unowned_big c u e j = let f = x.each_lane j in false_from_ne_true (own (sights j).hold (Big c)) (λ t. ⊎_elim (λ (m : (sights j).hold.mine (Big c) ≡ true). let y = (f.hold.mine (Big c) m).0 in absurd (omega arith))
      (⊎_elim (λ (m : (sights j).hold.here (Big c) ≡ true). both_ways (there (settled o g) (Big c)) u (f.hold.found (Big c) (f.hold.here (Big c) m).1).2) (λ (m : false ≡ true). both_ways false refl m)) (own_cases (sights j).hold (Big c) t))

  unfound : (c : ℕ) → Nothing c → (j : ℕ) → has (sights j).hold (Big c) ≡ false
  unfound c z j = or_from (own (sights j).hold (Big c)) ((sights j).hold.found (Big c)) (z.0 j) (false_from_ne_true ((sights j).hold.found (Big c)) (λ t. both_ways (there (settled o g) (Big c)) z.1 ((x.each_lane j).hold.found (Big c) t).2))

  pub free_chunk : (c : ℕ) → in_span f₀ n c ≡ true → (g.runs c ≡ false) × (there (settled o g) (Big (g.geo.first c)) ≡ false) × (g.holder (Big (g.geo.first c)) ≡ 0)
  free_chunk c t = let e = g.geo.first c in let y = found c t in let z = or_parts (g.runs c) (there (settled o g) (Big e) || not (g.holder (Big e) == 0)) (sym (x.occ (Big c) y.0) ∙ y.1) in
      let w = or_parts (there (settled o g) (Big e)) (not (g.holder (Big e) == 0)) z.1 in (z.0, w.0, eqb-true (g.holder (Big e)) 0 (true_from_ne_false (eqb (g.holder (Big e)) 0) (λ q. both_ways (not (g.holder (Big e) == 0)) w.1 (ap not q))))

  pub none_in : (c : ℕ) → in_span f₀ n c ≡ true → Nothing (g.geo.first c)
  none_in c t = let y = free_chunk c t in (unowned_big (g.geo.first c) y.1 y.2, y.1, y.2)

  none_loose : (c : ℕ) → (g.geo.first c ≡ c → ⊥) → Nothing c
  none_loose c ne = let u : there (settled o g) (Big c) ≡ false = false_from_ne_true (there (settled o g) (Big c)) (λ t. ne (x.geo.head c t)) in let e = unheld (g.holder (Big c)) refl in (unowned_big c u e, u, e)
    where
      unheld : (y : ℕ) → g.holder (Big c) ≡ y → g.holder (Big c) ≡ 0
      unheld zero e = e
      unheld (suc j) e = let f = x.each_lane j in absurd (ne (eqb-true (g.geo.first c) c (f.hold.mine (Big c) (f.hold.holds (Big c) e)).1))

  pub none_f : Nothing f₀
  none_f = ⊎_elim (λ (e : g.geo.first f₀ ≡ f₀). subst Nothing e (none_in f₀ in_f)) (λ (ne : g.geo.first f₀ ≢ f₀). none_loose f₀ ne) (cases_eq (g.geo.first f₀) f₀)

  -- a chunk is of the new claim; or it was named to be of a block of which a chunk is taken, and is its own; or its block stays
  abbrev New : ℕ → Type 0
  New c = (in_span f₀ n c ≡ true) × (first' c ≡ f₀) × Nothing (g.geo.first c)

  abbrev Loose : ℕ → Type 0
  Loose c = (in_span f₀ n c ≡ false) × (in_span f₀ n (g.geo.first c) ≡ true) × (first' c ≡ c) × Nothing (g.geo.first c) × Nothing c

  abbrev Stays : ℕ → Type 0
  Stays c = (in_span f₀ n c ≡ false) × (in_span f₀ n (g.geo.first c) ≡ false) × (first' c ≡ g.geo.first c)

  cases : (c : ℕ) → New c ⊎ (Loose c ⊎ Stays c)
  cases c = let e = g.geo.first c in ⊎_elim (λ (t : in_span f₀ n c ≡ true). inl (t, cond-true (in_span f₀ n c) f₀ (cond (in_span f₀ n e) c e) t, none_in c t))
      (λ (u : in_span f₀ n c ≡ false). let z = cond-false (in_span f₀ n c) f₀ (cond (in_span f₀ n e) c e) u in
      ⊎_elim (λ (t : in_span f₀ n e ≡ true). inr (inl (u, t, z ∙ cond-true (in_span f₀ n e) c e t, subst Nothing (x.geo.twice c) (none_in e t), none_loose c (λ s. both_ways (in_span f₀ n c) u (ap (in_span f₀ n) (sym s) ∙ t)))))
      (λ (w : in_span f₀ n e ≡ false). inr (inr (u, w, z ∙ cond-false (in_span f₀ n e) c e w))) (cases_Bool (in_span f₀ n e))) (cases_Bool (in_span f₀ n c))

  moves : (c : ℕ) → (first' c ≡ g.geo.first c) ⊎ (Nothing (g.geo.first c) × Nothing (first' c))
  moves c = ⊎_elim (λ (t : New c). inr (t.2, subst Nothing (sym t.1) none_f)) (λ (r : Loose c ⊎ Stays c). ⊎_elim (λ (t : Loose c). inr (t.3, subst Nothing (sym t.2) t.4)) (λ (t : Stays c). inl t.2) r) (cases c)

  -- a claim's or an allocated block's chunks stay its own
  claim_same : (y : ℕ) → (Nothing y → ⊥) → (c : ℕ) → eqb (first' c) y ≡ eqb (g.geo.first c) y
  claim_same y some_ c = ⊎_elim (λ (t : first' c ≡ g.geo.first c). ap (λ a. eqb a y) t) (λ (t : Nothing (g.geo.first c) × Nothing (first' c)). ne_eqb (first' c) y (λ s. some_ (subst Nothing s t.1)) ∙ sym (ne_eqb (g.geo.first c) y (λ s. some_ (subst Nothing s t.0)))) (moves c)

  pub chunks_of_new : (c : ℕ) → eqb (first' c) f₀ ≡ in_span f₀ n c
  chunks_of_new c = ⊎_elim (λ (t : New c). eq-eqb (first' c) f₀ t.1 ∙ sym t.0)
      (λ (r : Loose c ⊎ Stays c). ⊎_elim (λ (t : Loose c). ne_eqb (first' c) f₀ (λ s. not_f c t.0 (sym t.2 ∙ s)) ∙ sym t.0) (λ (t : Stays c). ne_eqb (first' c) f₀ (λ s. not_f (g.geo.first c) t.1 (sym t.2 ∙ s)) ∙ sym t.0) r) (cases c)

  first_of_block : (y : ℕ) → (Nothing y → ⊥) → g.geo.first y ≡ y → first' y ≡ y
  first_of_block y some_ e = eqb-true (first' y) y (claim_same y some_ y ∙ eq-eqb (g.geo.first y) y e)

  geo_after : GeoFits sh (settled o g) (ghost_with_claim k g new f₀ n)
  geo_after = record {
    twice = λ c. ⊎_elim (λ (t : New c). ap first' t.1 ∙ (eqb-true (first' f₀) f₀ (chunks_of_new f₀ ∙ in_f) ∙ sym t.1))
        (λ (r : Loose c ⊎ Stays c). ⊎_elim (λ (t : Loose c). ap first' t.2)
        (λ (t : Stays c). let e = g.geo.first c in let tw = x.geo.twice c in ap first' t.2 ∙ (cond-false (in_span f₀ n e) f₀ (cond (in_span f₀ n (g.geo.first e)) e (g.geo.first e)) t.1 ∙ (cond-false (in_span f₀ n (g.geo.first e)) e (g.geo.first e) (ap (in_span f₀ n) tw ∙ t.1) ∙ (tw ∙ sym t.2)))) r) (cases c);
    classes = x.geo.classes;
    shape = λ y t c. claim_same y (λ z. both_ways (there (settled o g) (Big y)) z.1 t) c ∙ x.geo.shape y t c;
    head = λ y t. first_of_block y (λ z. both_ways (there (settled o g) (Big y)) z.1 t) (x.geo.head y t);
    huge = λ c t. ⊎_elim (λ (e : first' c ≡ g.geo.first c). x.geo.huge c (ap (λ a. there (settled o g) (Big a)) (sym e) ∙ t)) (λ (z : Nothing (g.geo.first c) × Nothing (first' c)). absurd (both_ways (there (settled o g) (Big (first' c))) z.1.1 t)) (moves c);
    zeros = x.geo.zeros;
    in_zone = x.geo.in_zone;
    within = x.geo.within;
  }

  abbrev h' : Hold
  h' = with_claim (sights k).hold new n first_now

  no_root : new Root ≡ false
  no_root = is Root

  no_small : (c i : ℕ) → new (Small c i) ≡ false
  no_small c i = is (Small c i)

  owned_some : (y : ℕ) → own (sights k).hold (Big y) ≡ true → Nothing y → ⊥
  owned_some y t z = both_ways (own hk (Big y)) (z.0 k) t

  more_has : (B : Block) → own (sights k).hold B ≡ true → own (with_claim (sights k).hold new n first_now) B ≡ true
  more_has B t = more_own hk new B t

  less_big : (y : ℕ) → (y ≡ f₀ → ⊥) → own (with_claim (sights k).hold new n first_now) (Big y) ≡ own (sights k).hold (Big y)
  less_big y ne = ap (λ t. (t || hk.mine (Big y)) || (hk.here (Big y) || false)) (new_else y ne)

  less_small : (c i : ℕ) → own (with_claim (sights k).hold new n first_now) (Small c i) ≡ own (sights k).hold (Small c i)
  less_small c i = ap (λ t. (t || hk.mine (Small c i)) || (hk.here (Small c i) || hk.making c)) (no_small c i)

  -- of what the lane owned the blocks stay
  pub blocks_stay : (p : Place) (b : ℕ) → owns g.geo (settled o g) (sights k).hold p b ≡ true → block_of (claimed g.geo f₀ n) p b ≡ block_of g.geo p b
  blocks_stay (InRun c w) b t = refl
  blocks_stay (InHuge c w) b t = ⊎_elim (λ (e : first' c ≡ g.geo.first c). ap (λ a. Big a) e) (λ (z : Nothing (g.geo.first c) × Nothing (first' c)). absurd (owned_some (g.geo.first c) t z.0)) (moves c)
  blocks_stay (Descr c) b t = ⊎_elim (λ (e : first' c ≡ g.geo.first c). ap (λ a. Big a) e) (λ (z : Nothing (g.geo.first c) × Nothing (first' c)). absurd (owned_some (g.geo.first c) t z.0)) (moves c)
  blocks_stay RootWord b t = refl

  pub owns_more : (p : Place) (b : ℕ) → owns g.geo (settled o g) (sights k).hold p b ≡ true → owns (claimed g.geo f₀ n) (settled o g) (with_claim (sights k).hold new n first_now) p b ≡ true
  owns_more (InRun c w) b t = more_has (block_of g.geo (InRun c w) b) t
  owns_more (InHuge c w) b t = subst (λ B. own h' B ≡ true) (sym (blocks_stay (InHuge c w) b t)) (more_has (Big (g.geo.first c)) t)
  owns_more (Descr c) b t = subst (λ B. own h' B ≡ true) (sym (blocks_stay (Descr c) b t)) (more_has (Big (g.geo.first c)) t)
  owns_more RootWord b t = ap (λ z. ((z || hk.mine Root) || false) || Rattle.pm_world.specs.Lanes.all_held hk.locked (guards (settled o g) RootWord)) no_root ∙ t

  size_stays : (p : Place) (b : ℕ) → owns g.geo (settled o g) (sights k).hold p b ≡ true → is_size (claimed g.geo f₀ n) p ≡ true → is_size g.geo p ≡ true
  size_stays (InRun c w) b t s = s
  size_stays (InHuge c w) b t s = ⊎_elim (λ (e : first' c ≡ g.geo.first c). sym (ap (λ a. (a == c) && (w == 1)) e) ∙ s) (λ (z : Nothing (g.geo.first c) × Nothing (first' c)). absurd (owned_some (g.geo.first c) t z.0)) (moves c)
  size_stays (Descr c) b t s = s
  size_stays RootWord b t s = s

  -- a huge block's chunk: of the new claim, or as it was
  chunk_cases : (c : ℕ) → has (with_claim (sights k).hold new n first_now) (Big (first' c)) ≡ true → New c ⊎ ((first' c ≡ g.geo.first c) × (has (sights k).hold (Big (g.geo.first c)) ≡ true))
  chunk_cases c a = ⊎_elim (λ (t : New c). inl t) (λ (r : Loose c ⊎ Stays c). ⊎_elim
      (λ (t : Loose c). absurd (both_ways (has hk (Big c)) (unfound c t.4 k) (sym (ap (λ z. z || hk.found (Big c)) (less_big c (not_f c t.0))) ∙ subst (λ a. has h' (Big a) ≡ true) t.2 a)))
      (λ (t : Stays c). inr (t.2, sym (ap (λ z. z || hk.found (Big (g.geo.first c))) (less_big (g.geo.first c) (not_f (g.geo.first c) t.1))) ∙ subst (λ a. has h' (Big a) ≡ true) t.2 a)) r) (cases c)

  turn_f : turn (latest (sights k).call.entries) (Big f₀) ≡ None
  turn_f = turn_stays (sights k).phase (hk.locked (header sh g.geo (Big f₀))) (hk.mine (Big f₀)) (hk.here (Big f₀)) false (turn (latest (sights k).call.entries) (Big f₀)) ((x.each_lane k).turns (Big f₀)) (none_f.0 k)

  pub record PicturedClaim (pc : Diff) : Type 0 where
    pub less : (p : Place) (b : ℕ) (y : Bool) → pc p b ≡ Some y → (sights k).picture p b ≡ Some y
    pub none_ : (p : Place) (b : ℕ) → new (block_of (claimed g.geo f₀ n) p b) ≡ true → pc p b ≡ None
    pub else_ : (p : Place) (b : ℕ) → owns g.geo (settled o g) (sights k).hold p b ≡ true → pc p b ≡ (sights k).picture p b

  pub occupies_chunks : f₀ % 64 + n ≤ 64 → is_decided (sights k).phase ≡ false → in_flight (sights k).phase ≡ false
      → (occ' : Block → Bool) → ((c i : ℕ) → is_occupancy sh (Small c i) ≡ true → occ' (Small c i) ≡ cells.occ (Small c i)) → ((c : ℕ) → is_occupancy sh (Big c) ≡ true → occ' (Big c) ≡ (in_span f₀ n c || cells.occ (Big c))) → (pc : Diff) → PicturedClaim pc
      → (sights' : ℕ → Sight) → Turned sights sights' k (record (sights k) { hold = with_claim (sights k).hold new n first_now; picture = pc }) → Around k (sights k).hold (λ j. (sights j).hold) cells (record cells { occ = occ' }) (settled o g) (settled o g) g (ghost_with_claim k g new f₀ n)
      × Bits sh L o (record cells { occ = occ' }) sights' (ghost_with_claim k g new f₀ n)
  occupies_chunks zone0 early flight occ' small_occs big_occs pc pic sights' t =
      let a : Around k (sights k).hold (λ j. (sights j).hold) cells (record cells { occ = occ' }) (settled o g) (settled o g) g (ghost_with_claim k g new f₀ n) = record {
        writer = λ l j ne. refl;
        reader = λ l j ne. refl;
        pool = λ p b u w. refl;
        set = λ p b u. refl;
        descr = λ d u. refl;
        up = λ d n e. e;
        runs = λ d u. refl;
        holder = λ B j ne e. split (new B) (λ z. cond z (suc k) (g.holder B) ≡ suc j) (λ y. let a = holder0 B y in absurd (omega arith)) (λ _. e);
        holder_back = λ B j ne. split (new B) (λ z. cond z (suc k) (g.holder B) ≡ suc j → g.holder B ≡ suc j) (λ y e. absurd (ne (omega arith))) (λ _ e. e);
        class = λ d u. refl;
        first = λ c j ne. ⊎_elim (λ (e : first' c ≡ g.geo.first c). inl e) (λ (z : Nothing (g.geo.first c) × Nothing (first' c)). inr (unfound (g.geo.first c) z.0 j, unfound (first' c) z.1 j)) (moves c);
        flies = λ j n d ne w y. y;
      } in (
        a,
        goes_on sh L o cells sights g x k ink (settled o g) (record cells { occ = occ' }) x' g' sights' refl a record {
          hold = record {
            locks = f.hold.locks;
            reading = f.hold.reading;
            found = λ B a. let y = f.hold.found B a in (ap (λ l. hk.locked l || hk.reads l) (header_same B) ∙ y.0, valid_there B y.1 y.2, y.2);
            here = λ B a. let y = f.hold.here B a in (ap hk.locked (header_same B) ∙ y.0, y.1);
            found_here = λ B a l. f.hold.found_here B a (sym (ap hk.locked (header_same B)) ∙ l);
            mine = λ B. split (new B) (λ z. (z || hk.mine B) ≡ true → (cond z (suc k) (g.holder B) ≡ suc k) × (valid g' B ≡ true) × (there (settled o g) B ≡ false))
                (λ y _. subst (λ C. (suc k ≡ suc k) × (valid g' C ≡ true) × (there (settled o g) C ≡ false)) (sym (new_is B y)) (refl, chunks_of_new f₀ ∙ in_f, none_f.1)) (λ _ m. let y = f.hold.mine B m in (y.0, valid_mine B m y.1, y.2));
            holds = λ B. split (new B) (λ z. cond z (suc k) (g.holder B) ≡ suc k → (z || hk.mine B) ≡ true) (λ _ _. refl) (λ _ e. f.hold.holds B e);
            class = λ d j a. f.hold.class d j (sym (ap (λ z. z || hk.found (Small d j)) (less_small d j)) ∙ a);
            span = λ y a c. ⊎_elim (λ (e : y ≡ f₀). subst (λ a. (first' c == a) ≡ in_span a (cond (new (Big a)) n (hk.span a)) c) (sym e) (chunks_of_new c ∙ sym (ap (λ m. in_span f₀ m c) (cond-true (new (Big f₀)) n (hk.span f₀) new_f))))
                (λ (ne : y ≢ f₀). let w = old_has y ne a in claim_same y (λ z. both_ways (has hk (Big y)) (unfound y z k) w) c ∙ (f.hold.span y w c ∙ sym (ap (λ m. in_span y m c) (cond-false (new (Big y)) n (hk.span y) (new_else y ne))))) (cases_eq y f₀);
            first = λ c a. ⊎_elim (λ (z : New c). first_in c z.0 ∙ sym z.1)
                (λ (z : (first' c ≡ g.geo.first c) × (has hk (Big (g.geo.first c)) ≡ true)). ⊎_elim (λ (t : in_span f₀ n c ≡ true). absurd (both_ways (has hk (Big (g.geo.first c))) (unfound (g.geo.first c) (none_in c t) k) z.1)) (λ (u : in_span f₀ n c ≡ false). first_out c u (λ q. both_ways (has hk (Big (g.geo.first c))) (unfound (g.geo.first c) (subst Nothing (sym q ∙ f.hold.first c z.1) none_f) k) z.1) ∙ (f.hold.first c z.1 ∙ sym z.0)) (cases_Bool (in_span f₀ n c))) (chunk_cases c a);
            zone = λ y a. ⊎_elim (λ (e : y ≡ f₀). subst (λ a. a % 64 + cond (new (Big a)) n (hk.span a) ≤ 64) (sym e) (subst (λ m. f₀ % 64 + m ≤ 64) (sym (cond-true (new (Big f₀)) n (hk.span f₀) new_f)) zone0))
                (λ (ne : y ≢ f₀). subst (λ m. y % 64 + m ≤ 64) (sym (cond-false (new (Big y)) n (hk.span y) (new_else y ne))) (f.hold.zone y (old_has y ne a))) (cases_eq y f₀);
            making = λ c a. let y = f.hold.making c a in (or_right (new (Big c)) (hk.mine (Big c)) y.0, y.1, y.2, y.3, cond-false (new (Big c)) n (hk.span c) (new_else c (λ e. owned_some c (mine_own hk (Big c) y.0) (subst Nothing (sym e) none_f))) ∙ y.4);
            free = λ c a. ⊎_elim (λ (z : New c). (free_chunk c z.0).0) (λ (z : (first' c ≡ g.geo.first c) × (has hk (Big (g.geo.first c)) ≡ true)). f.hold.free c (mine_of (g.geo.first c) (λ e. both_ways (has hk (Big (g.geo.first c))) (unfound (g.geo.first c) (subst Nothing (sym e) none_f) k) z.1) (subst (λ a. (new (Big a) || hk.mine (Big a)) ≡ true) z.0 a)))
                (chunk_cases c (own_has h' (Big (first' c)) (mine_own h' (Big (first' c)) a)));
            seen = f.hold.seen;
          };
          bits = bits';
          picture = λ p b s y e. f.picture p b (sees_same p b s) y (pic.less p b y e);
          turns = turns';
          call = record {
            flight = f.call.flight;
            todo = f.call.todo;
            descr = λ y. ⊎_elim (λ (e : y ≡ f₀). subst (λ a. DescrFits (turn (latest (sights k).call.entries) (Big a)) a (cond (new (Big a)) n (hk.span a)) (λ b. diff (sights k).call (Descr a) b)) (sym e)
                (subst (λ t. DescrFits t f₀ (cond (new (Big f₀)) n (hk.span f₀)) (λ b. diff (sights k).call (Descr f₀) b)) (sym turn_f) (subst (λ t. DescrFits t f₀ (hk.span f₀) (λ b. diff (sights k).call (Descr f₀) b)) turn_f (f.call.descr f₀))))
                (λ (ne : y ≢ f₀). subst (λ m. DescrFits (turn (latest (sights k).call.entries) (Big y)) y m (λ b. diff (sights k).call (Descr y) b)) (sym (cond-false (new (Big y)) n (hk.span y) (new_else y ne))) (f.call.descr y)) (cases_eq y f₀);
          };
          reach = λ p b y. owns_more p b (f.reach p b y);
          plain = f.plain;
          logged = λ p b u y. let z = f.logged p b u y in (owns_more p b z.0, z.1);
          stored = f.stored;
          fresh = λ p b y e. pic.else_ p b (f.reach p b (fresh_given (latest (sights k).call.entries p b) ((sights k).call.fresh p b) (ap given e))) ∙ f.fresh p b y e;
          sizes = λ p b s. (
            false_from_ne_true (given (latest (sights k).call.entries p b)) (λ u. both_ways (given (latest (sights k).call.entries p b)) (f.sizes p b (size_stays p b (f.reach p b (some_first (latest (sights k).call.entries p b) ((sights k).call.fresh p b) u)) s)).0 u),
            λ u. let w = f.reach p b (fresh_given (latest (sights k).call.entries p b) ((sights k).call.fresh p b) u) in subst (λ B. turn (latest (sights k).call.entries) B ≡ Some true) (sym (blocks_stay p b w)) ((f.sizes p b (size_stays p b w s)).1 u),
          );
          born = λ y. absurd (both_ways (in_flight (sights k).phase) flight y);
          guarded = λ y. absurd (both_ways (in_flight (sights k).phase) flight y);
          soiled = λ p b y. let z = f.soiled p b y in let w = soiled_owned sh cells (settled o g) (Flies g k) g x.geo k (sights k) f p b y in let B = block_of g.geo p b in
              (subst (λ C. soils (sights k).phase p (new C || hk.mine C) ((sights k).logged p) (latest (sights k).call.entries p b) ≡ true) (sym (blocks_stay p b w)) (more_soils (sights k).phase p (hk.mine B) (new B || hk.mine B) ((sights k).logged p) (latest (sights k).call.entries p b) (or_right (new B) (hk.mine B)) z.0), z.1);
        } record {
          gone = λ p b q u l. absurd (both_ways (owns (claimed g.geo f₀ n) (settled o g) (with_claim hk new n first_now) p b) u (owns_more p b q));
          back = back';
          made = same_made sh L o cells sights g x k ink x' (λ d. refl);
          occ = occ_after;
          geo = geo_after;
          alone = x.alone;
          counter = x.counter;
          flying = still_flying sh L o cells sights g x k ink x' (λ n y. y);
        } t,
      )
    where
      x' : Sight
      x' = record (sights k) { hold = with_claim (sights k).hold new n first_now; picture = pc }

      g' : Ghost
      g' = ghost_with_claim k g new f₀ n

      f : SightFits sh cells (settled o g) (Flies g k) g k (sights k)
      f = x.each_lane k

      new_is : (B : Block) → new B ≡ true → B ≡ Big f₀
      new_is B t = same_true B (Big f₀) (sym (is B) ∙ t)

      holder0 : (B : Block) → new B ≡ true → g.holder B ≡ 0
      holder0 B y = subst (λ C. g.holder C ≡ 0) (sym (new_is B y)) none_f.2

      header_same : (B : Block) → header sh (claimed g.geo f₀ n) B ≡ header sh g.geo B
      header_same (Small c i) = refl
      header_same (Big y) = refl
      header_same Root = refl

      valid_there : (B : Block) → valid g B ≡ true → there (settled o g) B ≡ true → valid g' B ≡ true
      valid_there (Small c i) v u = v
      valid_there (Big y) v u = claim_same y (λ z. both_ways (there (settled o g) (Big y)) z.1 u) y ∙ v
      valid_there Root v u = v

      valid_mine : (B : Block) → hk.mine B ≡ true → valid g B ≡ true → valid g' B ≡ true
      valid_mine (Small c i) m v = v
      valid_mine (Big y) m v = claim_same y (owned_some y (mine_own hk (Big y) m)) y ∙ v
      valid_mine Root m v = v

      old_has : (y : ℕ) → (y ≡ f₀ → ⊥) → has h' (Big y) ≡ true → has hk (Big y) ≡ true
      old_has y ne a = sym (ap (λ z. z || hk.found (Big y)) (less_big y ne)) ∙ a

      mine_of : (y : ℕ) → (y ≡ f₀ → ⊥) → (new (Big y) || hk.mine (Big y)) ≡ true → hk.mine (Big y) ≡ true
      mine_of y ne a = sym (ap (λ z. z || hk.mine (Big y)) (new_else y ne)) ∙ a

      sees_same : (p : Place) (b : ℕ) → Rattle.pm_world.specs.Lanes.sees (claimed g.geo f₀ n) (settled o g) (with_claim hk new n first_now) p b ≡ true → Rattle.pm_world.specs.Lanes.sees g.geo (settled o g) hk p b ≡ true
      sees_same (InRun c w) b s = s
      sees_same (InHuge c w) b s = ⊎_elim (λ (e : first' c ≡ g.geo.first c). subst (λ a. hk.found (Big a) ≡ true) e s) (λ (z : Nothing (g.geo.first c) × Nothing (first' c)). absurd (both_ways (there (settled o g) (Big (first' c))) z.1.1 (f.hold.found (Big (first' c)) s).2)) (moves c)
      sees_same (Descr c) b s = ⊎_elim (λ (e : first' c ≡ g.geo.first c). subst (λ a. hk.found (Big a) ≡ true) e s) (λ (z : Nothing (g.geo.first c) × Nothing (first' c)). absurd (both_ways (there (settled o g) (Big (first' c))) z.1.1 (f.hold.found (Big (first' c)) s).2)) (moves c)
      sees_same RootWord b s = s

      turns' : (B : Block) → TurnFits (sights k).phase (hk.locked (header sh (claimed g.geo f₀ n) B)) (new B || hk.mine B) (hk.here B) (turn (latest (sights k).call.entries) B)
      turns' B = subst (λ l. TurnFits (sights k).phase (hk.locked l) (new B || hk.mine B) (hk.here B) (turn (latest (sights k).call.entries) B)) (sym (header_same B)) (split (new B) (λ z. TurnFits (sights k).phase (hk.locked (header sh g.geo B)) (z || hk.mine B) (hk.here B) (turn (latest (sights k).call.entries) B))
          (λ y. subst (TurnFits (sights k).phase (hk.locked (header sh g.geo B)) true (hk.here B)) (sym (subst (λ C. turn (latest (sights k).call.entries) C ≡ None) (sym (new_is B y)) turn_f)) (stay_fits (sights k).phase (hk.locked (header sh g.geo B)) true (hk.here B))) (λ _. f.turns B))

      abbrev_fits : Place → ℕ → Bool → Bool → Option Bool → Type 0
      abbrev_fits p b al bl y = BitFits al bl (is_decided (sights k).phase) (left (sights k).phase p b) ((sights k).logged p) (latest (sights k).call.entries p b) y (read cells.pool p b) (settled o g p b)

      -- a bit of the new claim
      claimed_bit : (p : Place) (b : ℕ) (al : Bool) → (al ≡ true → read cells.pool p b ≡ settled o g p b) → new (block_of (claimed g.geo f₀ n) p b) ≡ true → abbrev_fits p b al false (pc p b)
      claimed_bit p b al u y = (λ a _ _. u a, λ bl. absurd (both_ways false refl bl), λ dec. absurd (both_ways (is_decided (sights k).phase) early dec), λ z e. absurd (both_ways true (ap given (sym e ∙ pic.none_ p b y)) refl))

      -- a bit that the lane owned
      same_bit : (p : Place) (b : ℕ) (al bl : Bool) → owns g.geo (settled o g) hk p b ≡ true → abbrev_fits p b al bl ((sights k).picture p b) → abbrev_fits p b al bl (pc p b)
      same_bit p b al bl a u = (u.0, u.1, u.2, λ z e. u.3 z (sym (pic.else_ p b a) ∙ e))

      huge_dead : (c w : ℕ) → New c → live (settled o g) (claimed g.geo f₀ n) g.runs (InHuge c w) ≡ true → ⊥
      huge_dead c w z al = both_ways (there (settled o g) (Big (first' c))) (subst (λ a. there (settled o g) (Big a) ≡ false) (sym z.1) none_f.1) (and_parts (settled o g (Descr (first' c)) 1) (lit (settled o g (InHuge (first' c) 1)) (64 * (c - first' c) + w / 8)) (and_parts (nat_lt w 512) (bright_huge (settled o g) (first' c) (64 * (c - first' c) + w / 8)) al).1).0

      owned_old : (c : ℕ) → own h' (Big (first' c)) ≡ true → New c ⊎ ((first' c ≡ g.geo.first c) × (own hk (Big (g.geo.first c)) ≡ true))
      owned_old c a = ⊎_elim (λ (z : New c). inl z) (λ (z : (first' c ≡ g.geo.first c) × (has hk (Big (g.geo.first c)) ≡ true)). inr (z.0, sym (less_big (g.geo.first c) (λ e. both_ways (has hk (Big (g.geo.first c))) (unfound (g.geo.first c) (subst Nothing (sym e) none_f) k) z.1)) ∙ subst (λ a. own h' (Big a) ≡ true) z.0 a)) (chunk_cases c (own_has h' (Big (first' c)) a))

      bits' : (p : Place) (b : ℕ) → owns (claimed g.geo f₀ n) (settled o g) (with_claim hk new n first_now) p b ≡ true
          → BitFits (live (settled o g) (claimed g.geo f₀ n) g.runs p) (blank (with_claim hk new n first_now) p) (is_decided (sights k).phase) (left (sights k).phase p b) ((sights k).logged p) (latest (sights k).call.entries p b) (pc p b) (read cells.pool p b) (settled o g p b)
      bits' (InRun c w) b a = let a' = sym (less_small c (part (g.geo.class c) w b)) ∙ a in same_bit (InRun c w) b (live (settled o g) g.geo g.runs (InRun c w)) (blank hk (InRun c w)) a' (f.bits (InRun c w) b a')
      bits' (InHuge c w) b a = ⊎_elim (λ (z : New c). claimed_bit (InHuge c w) b (live (settled o g) (claimed g.geo f₀ n) g.runs (InHuge c w)) (λ al. absurd (huge_dead c w z al)) (ap (λ a. new (Big a)) z.1 ∙ new_f))
          (λ (z : (first' c ≡ g.geo.first c) × (own hk (Big (g.geo.first c)) ≡ true)). let u = f.bits (InHuge c w) b z.1 in
          same_bit (InHuge c w) b (live (settled o g) (claimed g.geo f₀ n) g.runs (InHuge c w)) false z.1 (λ al. u.0 (sym (ap (λ a. nat_lt w 512 && bright_huge (settled o g) a (64 * (c - a) + w / 8)) z.0) ∙ al), u.1, u.2, u.3)) (owned_old c a)
      bits' (Descr c) b a = ⊎_elim (λ (z : New c). claimed_bit (Descr c) b true (λ _. x.unowned (Descr c) b z.2.0 refl) (ap (λ a. new (Big a)) z.1 ∙ new_f)) (λ (z : (first' c ≡ g.geo.first c) × (own hk (Big (g.geo.first c)) ≡ true)). same_bit (Descr c) b true false z.1 (f.bits (Descr c) b z.1)) (owned_old c a)
      bits' RootWord b a = let a' = sym (ap (λ z. ((z || hk.mine Root) || false) || Rattle.pm_world.specs.Lanes.all_held hk.locked (guards (settled o g) RootWord)) no_root) ∙ a in same_bit RootWord b true false a' (f.bits RootWord b a')

      back' : (p : Place) (b : ℕ) → owns g.geo (settled o g) hk p b ≡ false → owns (claimed g.geo f₀ n) (settled o g) (with_claim hk new n first_now) p b ≡ false → live (settled o g) (claimed g.geo f₀ n) g.runs p ≡ true
          → (live (settled o g) g.geo g.runs p ≡ true) × ((j : ℕ) → j ≢ k → owns (claimed g.geo f₀ n) (settled o g) (sights j).hold p b ≡ false → owns g.geo (settled o g) (sights j).hold p b ≡ false)
      back' (InRun c w) b u u' l = (l, λ j ne t. t)
      back' (InHuge c w) b u u' l = ⊎_elim (λ (e : first' c ≡ g.geo.first c). (sym (ap (λ a. nat_lt w 512 && bright_huge (settled o g) a (64 * (c - a) + w / 8)) e) ∙ l, λ j ne t. subst (λ a. own (sights j).hold (Big a) ≡ false) e t))
          (λ (z : Nothing (g.geo.first c) × Nothing (first' c)). absurd (both_ways (there (settled o g) (Big (first' c))) z.1.1 (and_parts (settled o g (Descr (first' c)) 1) (lit (settled o g (InHuge (first' c) 1)) (64 * (c - first' c) + w / 8)) (and_parts (nat_lt w 512) (bright_huge (settled o g) (first' c) (64 * (c - first' c) + w / 8)) l).1).0)) (moves c)
      back' (Descr c) b u u' l = (refl, λ j ne t. ⊎_elim (λ (e : first' c ≡ g.geo.first c). subst (λ a. own (sights j).hold (Big a) ≡ false) e t) (λ (z : Nothing (g.geo.first c) × Nothing (first' c)). z.0.0 j) (moves c))
      back' RootWord b u u' l = (l, λ j ne t. t)

      -- a chunk that is nobody's is taken exactly where it is a run
      nothing_taken : (r : Bool) (y : ℕ) → Nothing y → (r || (there (settled o g) (Big y) || not (g.holder (Big y) == 0))) ≡ (r || false)
      nothing_taken r y z = ap (λ t. r || t) (or_from (there (settled o g) (Big y)) (not (g.holder (Big y) == 0)) z.1 (ap (λ m. not (m == 0)) z.2))

      holder_else : (y : ℕ) → (y ≡ f₀ → ⊥) → g'.holder (Big y) ≡ g.holder (Big y)
      holder_else y ne = cond-false (new (Big y)) (suc k) (g.holder (Big y)) (new_else y ne)

      occ_after : (a : Block) → is_occupancy sh a ≡ true → occ' a ≡ is_taken (settled o g) g' a
      occ_after (Small c i) in_ = small_occs c i in_ ∙ (x.occ (Small c i) in_ ∙ ap (λ m. not (valid g (Small c i)) || (there (settled o g) (Small c i) || not (m == 0))) (sym (cond-false (new (Small c i)) (suc k) (g.holder (Small c i)) (no_small c i))))
      occ_after (Big c) in_ = big_occs c in_ ∙ ⊎_elim
          (λ (z : New c). or_left (in_span f₀ n c) (cells.occ (Big c)) z.0 ∙ sym (or_right (g.runs c) (there (settled o g) (Big (first' c)) || not (g'.holder (Big (first' c)) == 0)) (or_right (there (settled o g) (Big (first' c))) (not (g'.holder (Big (first' c)) == 0))
          (ap not (ne_eqb (g'.holder (Big (first' c))) 0 (λ e. let w : g'.holder (Big (first' c)) ≡ suc k = ap (λ a. g'.holder (Big a)) z.1 ∙ cond-true (new (Big f₀)) (suc k) (g.holder (Big f₀)) new_f in absurd (omega arith)))))))
          (λ (r : Loose c ⊎ Stays c). ⊎_elim
          (λ (z : Loose c). ap (λ t. t || cells.occ (Big c)) z.0 ∙ (x.occ (Big c) in_ ∙ (nothing_taken (g.runs c) (g.geo.first c) z.3 ∙ (sym (nothing_taken (g.runs c) c z.4)
          ∙ (ap (λ m. g.runs c || (there (settled o g) (Big c) || not (m == 0))) (sym (holder_else c (not_f c z.0))) ∙ ap (λ a. g.runs c || (there (settled o g) (Big a) || not (g'.holder (Big a) == 0))) (sym z.2))))))
          (λ (z : Stays c). ap (λ t. t || cells.occ (Big c)) z.0 ∙ (x.occ (Big c) in_ ∙ (ap (λ m. g.runs c || (there (settled o g) (Big (g.geo.first c)) || not (m == 0))) (sym (holder_else (g.geo.first c) (not_f (g.geo.first c) z.1))) ∙ ap (λ a. g.runs c || (there (settled o g) (Big a) || not (g'.holder (Big a) == 0))) (sym z.2)))) r) (cases c)
      occ_after Root in_ = absurd (both_ways false refl in_)
