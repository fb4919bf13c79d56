-- A lane gives back occupancy bits, over bits: blocks of its own that are not allocated come to be nobody's.
use Rattle.std.proofs.Common.{◌≡◌, ◌≢◌, ℕ, suc, ◌<◌, inl, ⊎_elim, Bool, true, false, cond, not, ◌&&◌, ◌||◌, ◌==◌, refl, sym, ap, ◌∙◌, subst, arith, Option, None, Some}
use Rattle.std.proofs.lemmas.Bool.{cases_eq, cases_Bool, eqb-true, both_ways, and_parts, and_from, or_cases, or_left, or_right, or_parts, or_from, not_from_true, not_from_false, not-true, false_from_ne_true, true_from_ne_false}
use Rattle.pm_layout.specs.declared.shape.Shape.{Shape}
use Rattle.pm_view.specs.Places.{Place, InRun, InHuge, Descr, RootWord, Block, Small, Big, Root, Geometry, block_of, header}
use Rattle.pm_view.specs.Entries.{latest, turn}
use Rattle.pm_view.specs.Claims.{making_of}
use Rattle.pm_world.specs.States.{State, diff, given, there, live, guards, read, Cells}
use Rattle.pm_world.specs.Sights.{Hold, Sight}
use Rattle.pm_world.specs.Lanes.{Ghost, own, owns, all_held, has, valid, is_decided, in_flight, left, soils, TurnFits, settled, SightFits, Flies, atom, is_occupancy, is_taken, Bits}
use Rattle.pm_world.proofs.Frame.{Around, mine_own, own_has, stay_fits, some_first, fresh_given}
use Rattle.pm_world.proofs.Going.{Turned, goes_on, same_made, still_flying}
use Rattle.pm_world.proofs.Occupies.{split}

-- the lane's own blocks without these
abbrev pub without_mine : Hold → (Block → Bool) → Hold
without_mine h out = record h { mine = λ B. not (out B) && h.mine B }

still_own : (h : Hold) (out : Block → Bool) (B : Block) → own (without_mine h out) B ≡ true → own h B ≡ true
still_own h out B t = ⊎_elim (λ (m : (not (out B) && h.mine B) ≡ true). mine_own h B (and_parts (not (out B)) (h.mine B) m).1) (λ (r : (h.here B || making_of h.making B) ≡ true). or_right (h.mine B) (h.here B || making_of h.making B) r) (or_cases (not (out B) && h.mine B) (h.here B || making_of h.making B) t)

kept_own : (h : Hold) (out : Block → Bool) (B : Block) → out B ≡ false → own (without_mine h out) B ≡ own h B
kept_own h out B e = ap (λ t. (not t && h.mine B) || (h.here B || making_of h.making B)) e

module _ (G : Geometry) (S : State) (h : Hold) (out : Block → Bool) (no_root : out Root ≡ false) where
  pub kept_owned : (p : Place) (b : ℕ) → out (block_of G p b) ≡ false → owns G S (without_mine h out) p b ≡ owns G S h p b
  kept_owned (InRun c w) b e = kept_own h out (block_of G (InRun c w) b) e
  kept_owned (InHuge c w) b e = kept_own h out (block_of G (InHuge c w) b) e
  kept_owned (Descr c) b e = kept_own h out (block_of G (Descr c) b) e
  kept_owned RootWord b e = ap (λ t. ((not t && h.mine Root) || false) || all_held h.locked (guards S RootWord)) e

  pub still_owned : (p : Place) (b : ℕ) → owns G S (without_mine h out) p b ≡ true → owns G S h p b ≡ true
  still_owned (InRun c w) b t = still_own h out (block_of G (InRun c w) b) t
  still_owned (InHuge c w) b t = still_own h out (block_of G (InHuge c w) b) t
  still_owned (Descr c) b t = still_own h out (block_of G (Descr c) b) t
  still_owned RootWord b t = sym (kept_owned RootWord b no_root) ∙ t

-- ---- THE BITS OF BLOCKS THAT ARE THE LANE'S OWN ARE CLEARED, a huge block's all together; no chunk is a run in the making, the call has no entry, and nothing
-- that it makes final or has undrained is there
module _ (sh : Shape) (L : ℕ) (o : State) (cells : Cells) (sights : ℕ → Sight) (g : Ghost) (x : Bits sh L o cells sights g) (k : ℕ) (ink : k < L) (out : Block → Bool) where
  pub record GivesBack : Type 0 where
    pub root : out Root ≡ false
    pub own_ : (a : Block) → out a ≡ true → (sights k).hold.mine (atom g.geo a) ≡ true
    pub whole : (c : ℕ) → out (Big c) ≡ out (Big (g.geo.first c))
    pub unmade : (c : ℕ) → out (Big c) ≡ true → (sights k).hold.making c ≡ false
    pub turns : (B : Block) → out B ≡ true → turn (latest (sights k).call.entries) B ≡ None
    pub undiffed : (p : Place) (b : ℕ) → out (block_of g.geo p b) ≡ true → given (diff (sights k).call p b) ≡ false
    pub clean : (p : Place) (b : ℕ) → out (block_of g.geo p b) ≡ true → (sights k).soiled p b ≡ false

  pub vacates : GivesBack → is_decided (sights k).phase ≡ false → in_flight (sights k).phase ≡ false → (occ' : Block → Bool) → ((a : Block) → is_occupancy sh a ≡ true → occ' a ≡ (not (out a) && cells.occ a))
      → (sights' : ℕ → Sight) → Turned sights sights' k (record (sights k) { hold = without_mine (sights k).hold out }) → Around k (sights k).hold (λ j. (sights j).hold) cells (record cells { occ = occ' }) (settled o g) (settled o g) g (record g { holder = λ B. cond (out B) 0 (g.holder B) })
      × Bits sh L o (record cells { occ = occ' }) sights' (record g { holder = λ B. cond (out B) 0 (g.holder B) })
  vacates q early flight occ' occs sights' t =
      let a : Around k (sights k).hold (λ j. (sights j).hold) cells (record cells { occ = occ' }) (settled o g) (settled o g) g (record g { holder = λ B. cond (out B) 0 (g.holder B) }) = record {
        writer = λ l j ne. refl;
        reader = λ l j ne. refl;
        pool = λ p b u w. refl;
        set = λ p b u. refl;
        descr = λ d u. refl;
        up = λ d n e. e;
        runs = λ d u. refl;
        holder = λ B j ne e. split (out B) (λ z. cond z 0 (g.holder B) ≡ suc j) (λ y. absurd (not_others B j ne e y)) (λ _. e);
        holder_back = λ B j ne. split (out B) (λ z. cond z 0 (g.holder B) ≡ suc j → g.holder B ≡ suc j) (λ y e. absurd (omega arith)) (λ _ e. e);
        class = λ d u. refl;
        first = λ d j ne. inl refl;
        flies = λ j n d ne w y. y;
      } in (
        a,
        goes_on sh L o cells sights g x k ink (settled o g) (record cells { occ = occ' }) x' g' sights' refl a record {
          hold = record {
            locks = f.hold.locks;
            reading = f.hold.reading;
            found = f.hold.found;
            here = f.hold.here;
            found_here = f.hold.found_here;
            mine = λ B. split (out B) (λ z. (not z && h.mine B) ≡ true → (cond z 0 (g.holder B) ≡ suc k) × (valid g B ≡ true) × (there (settled o g) B ≡ false)) (λ _ m. absurd (both_ways false refl m)) (λ _ m. f.hold.mine B m);
            holds = λ B. split (out B) (λ z. cond z 0 (g.holder B) ≡ suc k → (not z && h.mine B) ≡ true) (λ _ e. absurd (omega arith)) (λ _ e. f.hold.holds B e);
            class = λ d j a. f.hold.class d j (less_has (Small d j) a);
            span = λ y a. f.hold.span y (less_has (Big y) a);
            first = λ d a. f.hold.first d (less_has (Big (g.geo.first d)) a);
            zone = λ y a. f.hold.zone y (less_has (Big y) a);
            making = λ d a. let y = f.hold.making d a in (and_from (not (out (Big d))) (h.mine (Big d)) (not_from_false (out (Big d)) (false_from_ne_true (out (Big d)) (λ z. both_ways (h.making d) (q.unmade d z) a))) y.0, y.1, y.2, y.3, y.4);
            free = λ d a. f.hold.free d (and_parts (not (out (Big (g.geo.first d)))) (h.mine (Big (g.geo.first d))) a).1;
            seen = f.hold.seen;
          };
          bits = λ p b a. f.bits p b (still_owned g.geo (settled o g) h out q.root p b a);
          picture = f.picture;
          turns = λ B. split (out B) (λ z. TurnFits (sights k).phase (h.locked (header sh g.geo B)) (not z && h.mine B) (h.here B) (turn (latest (sights k).call.entries) B))
              (λ y. subst (TurnFits (sights k).phase (h.locked (header sh g.geo B)) false (h.here B)) (sym (q.turns B y)) (stay_fits (sights k).phase (h.locked (header sh g.geo B)) false (h.here B))) (λ _. f.turns B);
          call = f.call;
          reach = λ p b y. kept_owned g.geo (settled o g) h out q.root p b (not_out p b y) ∙ f.reach p b y;
          plain = f.plain;
          logged = λ p b u y. let z = f.logged p b u y in (kept_owned g.geo (settled o g) h out q.root p b (not_out p b (logged_diff p b y)) ∙ z.0, z.1);
          stored = f.stored;
          fresh = f.fresh;
          sizes = f.sizes;
          born = λ y. absurd (both_ways (in_flight (sights k).phase) flight y);
          guarded = λ y. absurd (both_ways (in_flight (sights k).phase) flight y);
          soiled = λ p b y. let z = f.soiled p b y in let B = block_of g.geo p b in
              (subst (λ m. soils (sights k).phase p m ((sights k).logged p) (latest (sights k).call.entries p b) ≡ true) (sym (ap (λ r. not r && h.mine B) (false_from_ne_true (out B) (λ r. both_ways ((sights k).soiled p b) (q.clean p b r) y)))) z.0, z.1);
        } record {
          gone = gone';
          back = λ p b u u' l. (l, λ j ne y. y);
          made = same_made sh L o cells sights g x k ink x' (λ d. refl);
          occ = λ a in_. occs a in_ ∙ occ_after a in_;
          geo = record { twice = x.geo.twice; classes = x.geo.classes; shape = x.geo.shape; head = x.geo.head; huge = x.geo.huge; zeros = x.geo.zeros; in_zone = x.geo.in_zone; within = x.geo.within };
          alone = x.alone;
          counter = x.counter;
          flying = still_flying sh L o cells sights g x k ink x' (λ n y. y);
        } t,
      )
    where
      h : Hold
      h = (sights k).hold

      x' : Sight
      x' = record (sights k) { hold = without_mine (sights k).hold out }

      g' : Ghost
      g' = record g { holder = λ B. cond (out B) 0 (g.holder B) }

      f : SightFits sh cells (settled o g) (Flies g k) g k (sights k)
      f = x.each_lane k

      less_has : (B : Block) → has (without_mine h out) B ≡ true → has h B ≡ true
      less_has B a = ⊎_elim (λ (y : own (without_mine h out) B ≡ true). own_has h B (still_own h out B y)) (λ (y : h.found B ≡ true). or_right (own h B) (h.found B) y) (or_cases (own (without_mine h out) B) (h.found B) a)

      -- no other lane has a block that is given back, nor one that begins inside of it
      not_others : (B : Block) (j : ℕ) → j ≢ k → g.holder B ≡ suc j → out B ≡ true → ⊥
      not_others B j ne e y = let a = (x.each_lane j).hold.holds B e in let v = ((x.each_lane j).hold.mine B a).1 in
          let m : g.holder B ≡ suc k = (f.hold.mine B (subst (λ C. h.mine C ≡ true) (atom_valid B v) (q.own_ B y))).0 in ne (omega arith)
        where
          atom_valid : (B : Block) → valid g B ≡ true → atom g.geo B ≡ B
          atom_valid (Small c i) v = refl
          atom_valid (Big c) v = ap (λ a. Big a) (eqb-true (g.geo.first c) c v)
          atom_valid Root v = refl

      not_out : (p : Place) (b : ℕ) → given (diff (sights k).call p b) ≡ true → out (block_of g.geo p b) ≡ false
      not_out p b y = false_from_ne_true (out (block_of g.geo p b)) (λ z. both_ways (given (diff (sights k).call p b)) (q.undiffed p b z) y)

      logged_diff : (p : Place) (b : ℕ) → (sights k).logged p ≡ true → given (diff (sights k).call p b) ≡ true
      logged_diff p b y = fresh_given (latest (sights k).call.entries p b) ((sights k).call.fresh p b) (f.stored p b early y)

      gone' : (p : Place) (b : ℕ) → owns g.geo (settled o g) h p b ≡ true → owns g.geo (settled o g) (without_mine h out) p b ≡ false → live (settled o g) g.geo g.runs p ≡ true → read cells.pool p b ≡ settled o g p b
      gone' p b a u l = let r : out (block_of g.geo p b) ≡ true = true_from_ne_false (out (block_of g.geo p b)) (λ e. both_ways (owns g.geo (settled o g) (without_mine h out) p b) u (kept_owned g.geo (settled o g) h out q.root p b e ∙ a)) in
          (f.bits p b a).0 l (nothing_left (left (sights k).phase p b) (λ z e. both_ways (given (diff (sights k).call p b)) (q.undiffed p b r) (some_first (latest (sights k).call.entries p b) ((sights k).call.fresh p b) (ap given (f.call.todo p b z e)))))
          (Rattle.std.proofs.lemmas.Bool.and_left ((sights k).logged p) (not (is_decided (sights k).phase)) (false_from_ne_true ((sights k).logged p) (λ y. both_ways (given (diff (sights k).call p b)) (q.undiffed p b r) (logged_diff p b y))))
        where
          nothing_left : (a : Option Bool) → ((y : Bool) → a ≡ Some y → ⊥) → given a ≡ false
          nothing_left None n = refl
          nothing_left (Some y) n = absurd (n y refl)

      none_taken : (a b c : Bool) → a ≡ false → b ≡ false → c ≡ true → false ≡ (a || (b || not c))
      none_taken a b c e m n = sym (or_from a (b || not c) e (or_from b (not c) m (not_from_true c n)))

      occ_after : (a : Block) → is_occupancy sh a ≡ true → (not (out a) && cells.occ a) ≡ is_taken (settled o g) g' a
      occ_after (Small d j) in_ = split (out (Small d j)) (λ z. (not z && cells.occ (Small d j)) ≡ (not (valid g (Small d j)) || (there (settled o g) (Small d j) || not (cond z 0 (g.holder (Small d j)) == 0))))
          (λ y. let m = f.hold.mine (Small d j) (q.own_ (Small d j) y) in none_taken (not (valid g (Small d j))) (there (settled o g) (Small d j)) (0 == 0) (not_from_true (valid g (Small d j)) m.1) m.2 refl) (λ _. x.occ (Small d j) in_)
      occ_after (Big d) in_ = let e = g.geo.first d in ap (λ z. not z && cells.occ (Big d)) (q.whole d) ∙ split (out (Big e)) (λ z. (not z && cells.occ (Big d)) ≡ (g.runs d || (there (settled o g) (Big e) || not (cond z 0 (g.holder (Big e)) == 0))))
          (λ y. let n : h.mine (Big e) ≡ true = q.own_ (Big d) (q.whole d ∙ y) in none_taken (g.runs d) (there (settled o g) (Big e)) (0 == 0) (f.hold.free d n) (f.hold.mine (Big e) n).2 refl) (λ _. x.occ (Big d) in_)
      occ_after Root in_ = absurd (both_ways false refl in_)
