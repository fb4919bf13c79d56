-- Two lanes own no bit in common, and a step of one lane leaves the other lanes' facts as they were.
use Rattle.std.specs.Prelude.{List, ◌∷◌}
use Rattle.std.proofs.Common.{◌≡◌, ◌≢◌, ℕ, suc, ◌+◌, ◌-◌, ◌*◌, ◌/◌, ◌%◌, ◌<◌, ◌≤◌, ◌⊎◌, inl, inr, ⊎_elim, nat_le, nat_lt, Bool, true, false, ◌&&◌, ◌||◌, eqb, ◌==◌, refl, sym, ap, ◌∙◌, subst, arith, ne_eqb, Option, None, Some}
use Rattle.std.proofs.lemmas.Bool.{cases_Bool, eqb-true, both_ways, and_parts, or_cases, or_left, or_right, or_parts, false_from_ne_true}
use Rattle.pm_layout.specs.declared.shape.Shape.{Shape}
use Rattle.pm_layout.specs.Sizes.{blocks_of}
use Rattle.pm_layout.specs.Chunks.{line_of_chunk}
use Rattle.pm_view.specs.Places.{Place, InRun, InHuge, Descr, RootWord, Block, Small, Big, Root, part, block_of, header, is_data, twin}
use Rattle.pm_view.specs.Entries.{latest, first_of_two, turn}
use Rattle.pm_view.specs.Log.{Phase, Idle, Open, Drawn, Sealing, Applying, Clearing, Retiring, Voiding}
use Rattle.pm_view.specs.Claims.{making_of}
use Rattle.pm_world.specs.States.{State, Diff, diff, given, over, after_diff, there, val, lit, shown, bright_huge, live, root_line, read, Cells}
use Rattle.pm_world.specs.Sights.{Hold, Sight}
use Rattle.pm_world.specs.Lanes.{Ghost, own, all_held, rights, owns, sees, has, valid, is_decided, left, blank, BitFits, open_soils, soils, is_size, TurnBefore, TurnFlight, TurnAfter, TurnFits, FlightFits, HoldFits, SightFits, Flies, Alone, GeoFits}
use Rattle.pm_world.proofs.Geometry.{huge_line, alloc_block, live_same}

small_root : (c i : ℕ) → Root ≡ Small c i → ⊥
small_root c i e = both_ways true (ap of e) refl
  where
    of : Block → Bool
    of (Small c i) = false
    of (Big f) = false
    of Root = true

big_root : (f : ℕ) → Root ≡ Big f → ⊥
big_root f e = both_ways true (ap of e) refl
  where
    of : Block → Bool
    of (Small c i) = false
    of (Big f) = false
    of Root = true

pub some_first : (a c : Option Bool) → given a ≡ true → given (first_of_two a c) ≡ true
some_first None c t = absurd (both_ways false refl t)
some_first (Some y) c t = refl

pub fresh_given : (a c : Option Bool) → given c ≡ true → given (first_of_two a c) ≡ true
fresh_given None c t = t
fresh_given (Some y) c t = refl

-- ---- ONE LANE

abbrev pub is_single : Place → Bool
is_single (InRun c w) = false
is_single (InHuge c w) = false
is_single (Descr c) = true
is_single RootWord = true

pub own_cases : (h : Hold) (B : Block) → own h B ≡ true → (h.mine B ≡ true) ⊎ ((h.here B ≡ true) ⊎ (making_of h.making B ≡ true))
own_cases h B e = ⊎_elim (λ (a : h.mine B ≡ true). inl a) (λ (r : (h.here B || making_of h.making B) ≡ true). inr (or_cases (h.here B) (making_of h.making B) r)) (or_cases (h.mine B) (h.here B || making_of h.making B) e)

pub mine_own : (h : Hold) (B : Block) → h.mine B ≡ true → own h B ≡ true
mine_own h B e = or_left (h.mine B) (h.here B || making_of h.making B) e

pub here_own : (h : Hold) (B : Block) → h.here B ≡ true → own h B ≡ true
here_own h B e = or_right (h.mine B) (h.here B || making_of h.making B) (or_left (h.here B) (making_of h.making B) e)

pub making_own : (h : Hold) (c i : ℕ) → h.making c ≡ true → own h (Small c i) ≡ true
making_own h c i e = or_right (h.mine (Small c i)) (h.here (Small c i) || h.making c) (or_right (h.here (Small c i)) (h.making c) e)

pub not_making : (h : Hold) (c i : ℕ) → own h (Small c i) ≡ false → h.making c ≡ false
not_making h c i e = (or_parts (h.here (Small c i)) (h.making c) (or_parts (h.mine (Small c i)) (h.here (Small c i) || h.making c) e).1).1

pub own_has : (h : Hold) (B : Block) → own h B ≡ true → has h B ≡ true
own_has h B e = or_left (own h B) (h.found B) e

pub found_has : (h : Hold) (B : Block) → h.found B ≡ true → has h B ≡ true
found_has h B e = or_right (own h B) (h.found B) e

module _ (sh : Shape) (cells : Cells) (S : State) (flies : ℕ → Diff → Type 0) (g : Ghost) (geo : GeoFits sh S g) (k : ℕ) (x : Sight) (f : SightFits sh cells S flies g k x) where
  pub found_valid : (B : Block) → x.hold.here B ≡ true → (valid g B ≡ true) × (there S B ≡ true)
  found_valid B t = let y = f.hold.found B (f.hold.here B t).1 in (y.1, y.2)

  -- a huge block that is the lane's is one, and none of its chunks is a run
  pub big_valid : (c : ℕ) → own x.hold (Big c) ≡ true → g.geo.first c ≡ c
  big_valid c t = ⊎_elim (λ (n : x.hold.mine (Big c) ≡ true). eqb-true (g.geo.first c) c (f.hold.mine (Big c) n).1) (⊎_elim (λ (n : x.hold.here (Big c) ≡ true). eqb-true (g.geo.first c) c (found_valid (Big c) n).0) (λ (n : false ≡ true). absurd (both_ways false refl n))) (own_cases x.hold (Big c) t)

  pub no_run : (c : ℕ) → own x.hold (Big (g.geo.first c)) ≡ true → g.runs c ≡ false
  no_run c t = ⊎_elim (λ (n : x.hold.mine (Big (g.geo.first c)) ≡ true). f.hold.free c n) (⊎_elim (λ (n : x.hold.here (Big (g.geo.first c)) ≡ true). geo.huge c (found_valid (Big (g.geo.first c)) n).1) (λ (n : false ≡ true). absurd (both_ways false refl n))) (own_cases x.hold (Big (g.geo.first c)) t)

  pub maker_owns : (c : ℕ) → x.hold.making c ≡ true → (own x.hold (Big c) ≡ true) × (g.geo.first c ≡ c)
  maker_owns c t = let o = mine_own x.hold (Big c) (f.hold.making c t).0 in (o, big_valid c o)

  pub maker_no_run : (c : ℕ) → x.hold.making c ≡ true → g.runs c ≡ false
  maker_no_run c t = let y = maker_owns c t in no_run c (subst (λ a. own x.hold (Big a) ≡ true) (sym y.1) y.0)

  pub small_run : (c i : ℕ) → valid g (Small c i) ≡ true → g.runs c ≡ true
  small_run c i v = (and_parts (g.runs c) (nat_lt i (blocks_of (g.geo.class c))) v).0

  -- a small block that is the lane's lies in a run, or in a chunk that it makes one
  pub small_cases : (c i : ℕ) → own x.hold (Small c i) ≡ true → (g.runs c ≡ true) ⊎ (x.hold.making c ≡ true)
  small_cases c i t = ⊎_elim (λ (n : x.hold.mine (Small c i) ≡ true). inl (small_run c i (f.hold.mine (Small c i) n).1)) (⊎_elim (λ (n : x.hold.here (Small c i) ≡ true). inl (small_run c i (found_valid (Small c i) n).0)) (λ (n : x.hold.making c ≡ true). inr n)) (own_cases x.hold (Small c i) t)

  -- the root word is no lane's own, nor made
  pub root_rights : (l : ℕ) (t : List ℕ) → rights x.hold Root (l ∷ t) ≡ true → x.hold.locked l ≡ true
  root_rights l t e = ⊎_elim (λ (n : (x.hold.mine Root || false) ≡ true). ⊎_elim (λ (m : x.hold.mine Root ≡ true). absurd (both_ways true (f.hold.mine Root m).2 refl)) (λ (m : false ≡ true). absurd (both_ways false refl m)) (or_cases (x.hold.mine Root) false n))
      (λ (n : (x.hold.locked l && all_held x.hold.locked t) ≡ true). (and_parts (x.hold.locked l) (all_held x.hold.locked t) n).0) (or_cases (x.hold.mine Root || false) (x.hold.locked l && all_held x.hold.locked t) e)

  pub undecided_owned : (p : Place) (b : ℕ) → is_decided x.phase ≡ false → x.logged p ≡ true → owns g.geo S x.hold p b ≡ true
  undecided_owned p b u t = (f.logged p b u t).0

  pub soiled_owned : (p : Place) (b : ℕ) → x.soiled p b ≡ true → owns g.geo S x.hold p b ≡ true
  soiled_owned p b e = go x.phase p (f.soiled p b e).0 (λ u t. undecided_owned p b u t) (λ t. f.reach p b (some_first (latest x.call.entries p b) (x.call.fresh p b) t))
    where
      open_owned : (p : Place) → open_soils p (x.hold.mine (block_of g.geo p b)) (x.logged p) ≡ true → (x.logged p ≡ true → owns g.geo S x.hold p b ≡ true) → owns g.geo S x.hold p b ≡ true
      open_owned (InRun c w) e l = let B = block_of g.geo (InRun c w) b in ⊎_elim (λ (m : x.hold.mine B ≡ true). mine_own x.hold B m) (λ (m : x.logged (InRun c w) ≡ true). l m) (or_cases (x.hold.mine B) (x.logged (InRun c w)) (and_parts (is_data (InRun c w)) (x.hold.mine B || x.logged (InRun c w)) e).1)
      open_owned (InHuge c w) e l = let B = block_of g.geo (InHuge c w) b in ⊎_elim (λ (m : x.hold.mine B ≡ true). mine_own x.hold B m) (λ (m : x.logged (InHuge c w) ≡ true). l m) (or_cases (x.hold.mine B) (x.logged (InHuge c w)) e)
      open_owned (Descr c) e l = absurd (both_ways false refl e)
      open_owned RootWord e l = l e

      go : (ph : Phase) (p : Place) → soils ph p (x.hold.mine (block_of g.geo p b)) (x.logged p) (latest x.call.entries p b) ≡ true → (is_decided ph ≡ false → x.logged p ≡ true → owns g.geo S x.hold p b ≡ true) → (given (latest x.call.entries p b) ≡ true → owns g.geo S x.hold p b ≡ true) → owns g.geo S x.hold p b ≡ true
      go Idle p e l r = open_owned p e (l refl)
      go Open p e l r = open_owned p e (l refl)
      go (Drawn n) p e l r = absurd (both_ways false refl e)
      go (Sealing n) p e l r = absurd (both_ways false refl e)
      go (Applying t) p e l r = r e
      go Clearing p e l r = absurd (both_ways false refl e)
      go (Retiring n) p e l r = absurd (both_ways false refl e)
      go Voiding p e l r = absurd (both_ways false refl e)

  -- a living word is in no claim of its other use
  pub twin_dead : (p : Place) (b : ℕ) → live S g.geo g.runs p ≡ true → owns g.geo S x.hold (twin p) b ≡ true → is_single p ≡ true
  twin_dead (InRun c w) b l t = absurd (both_ways (g.runs c) (no_run c t) (and_parts (g.runs c) (shown S (g.geo.class c) c w) l).0)
  twin_dead (InHuge c w) b l t = let y = (and_parts (nat_lt w 512) (bright_huge S (g.geo.first c) (huge_line g.geo c w)) l).1 in
      let e = (and_parts (S (Descr (g.geo.first c)) 1) (lit (S (InHuge (g.geo.first c) 1)) (huge_line g.geo c w)) y).0 in
      ⊎_elim (λ (r : g.runs c ≡ true). absurd (both_ways (g.runs c) (geo.huge c e) r)) (λ (r : x.hold.making c ≡ true). absurd (both_ways (S (Descr c) 1) (f.hold.mine (Big c) (f.hold.making c r).0).2 (ap (λ a. S (Descr a) 1) (sym (maker_owns c r).1) ∙ e))) (small_cases c (part (g.geo.class c) w b) t)
  twin_dead (Descr c) b l t = refl
  twin_dead RootWord b l t = refl

  -- so of what lives the lane does not own the other use, if it owns not this
  pub twin_free : (p : Place) (b : ℕ) → live S g.geo g.runs p ≡ true → owns g.geo S x.hold p b ≡ false → owns g.geo S x.hold (twin p) b ≡ false
  twin_free p b l u = false_from_ne_true (owns g.geo S x.hold (twin p) b) (λ t. go p u t (twin_dead p b l t))
    where
      go : (p : Place) → owns g.geo S x.hold p b ≡ false → owns g.geo S x.hold (twin p) b ≡ true → is_single p ≡ true → ⊥
      go (InRun c w) u t e = both_ways false refl e
      go (InHuge c w) u t e = both_ways false refl e
      go (Descr c) u t e = both_ways (own x.hold (Big (g.geo.first c))) u t
      go RootWord u t e = both_ways (owns g.geo S x.hold RootWord b) u t

-- ---- TWO LANES

module _ (sh : Shape) (cells : Cells) (S : State) (fj fk : ℕ → Diff → Type 0) (g : Ghost) (geo : GeoFits sh S g) (al : Alone cells.writer cells.reader) (j k : ℕ) (v x : Sight) (a : SightFits sh cells S fj g j v) (z : SightFits sh cells S fk g k x) (ne : j ≢ k) where
  both_mine : (B : Block) → v.hold.mine B ≡ true → x.hold.mine B ≡ true → ⊥
  both_mine B m n = let am = (a.hold.mine B m).0 in let zm = (z.hold.mine B n).0 in ne (omega arith)

  -- a line that one lane holds, for writing or reading, no other has locked
  pub lock_apart : (l : ℕ) → (v.hold.locked l || v.hold.reads l) ≡ true → x.hold.locked l ≡ false
  lock_apart l t = false_from_ne_true (x.hold.locked l) (λ o. let y = al l k (z.hold.locks l ∙ o) j in
      ⊎_elim (λ (i : v.hold.locked l ≡ true). both_ways (cells.writer l j) (y.1 ne) (a.hold.locks l ∙ i)) (λ (i : v.hold.reads l ≡ true). both_ways (cells.reader l j) y.0 (a.hold.reading l ∙ i)) (or_cases (v.hold.locked l) (v.hold.reads l) t))

  making_apart : (c i : ℕ) → own v.hold (Small c i) ≡ true → x.hold.making c ≡ true → ⊥
  making_apart c i o n = ⊎_elim (λ (t : g.runs c ≡ true). both_ways (g.runs c) (maker_no_run sh cells S fk g geo k x z c n) t) (λ (t : v.hold.making c ≡ true). both_mine (Big c) (a.hold.making c t).0 (z.hold.making c n).0) (small_cases sh cells S fj g geo j v a c i o)

  -- DISJOINT: no block is owned by two lanes
  pub disjoint : (B : Block) → own v.hold B ≡ true → own x.hold B ≡ false
  disjoint B o = false_from_ne_true (own x.hold B) (λ o'. ⊎_elim (λ (m : v.hold.mine B ≡ true). ⊎_elim (λ (n : x.hold.mine B ≡ true). both_mine B m n) (⊎_elim (λ (n : x.hold.here B ≡ true). both_ways (there S B) (a.hold.mine B m).2 (found_valid sh cells S fk g geo k x z B n).1) (λ (n : making_of x.hold.making B ≡ true). makes B o n)) (own_cases x.hold B o'))
      (⊎_elim (λ (m : v.hold.here B ≡ true). ⊎_elim (λ (n : x.hold.mine B ≡ true). both_ways (there S B) (z.hold.mine B n).2 (found_valid sh cells S fj g geo j v a B m).1)
      (⊎_elim (λ (n : x.hold.here B ≡ true). both_ways (x.hold.locked (header sh g.geo B)) (lock_apart (header sh g.geo B) (or_left (v.hold.locked (header sh g.geo B)) (v.hold.reads (header sh g.geo B)) (a.hold.here B m).0)) (z.hold.here B n).0) (λ (n : making_of x.hold.making B ≡ true). makes B o n)) (own_cases x.hold B o'))
      (λ (m : making_of v.hold.making B ≡ true). made B m o')) (own_cases v.hold B o))
    where
      makes : (B : Block) → own v.hold B ≡ true → making_of x.hold.making B ≡ true → ⊥
      makes (Small c i) o n = making_apart c i o n
      makes (Big f) o n = both_ways false refl n
      makes Root o n = both_ways false refl n

      made : (B : Block) → making_of v.hold.making B ≡ true → own x.hold B ≡ true → ⊥
      made (Small c i) m o = ⊎_elim (λ (t : g.runs c ≡ true). both_ways (g.runs c) (maker_no_run sh cells S fj g geo j v a c m) t) (λ (t : x.hold.making c ≡ true). both_mine (Big c) (a.hold.making c m).0 (z.hold.making c t).0) (small_cases sh cells S fk g geo k x z c i o)
      made (Big f) m o = both_ways false refl m
      made Root m o = both_ways false refl m

  -- the root word is not the other's where a lane holds line 0
  pub root_apart : (v.hold.locked 0 || v.hold.reads 0) ≡ true → (b : ℕ) → owns g.geo S x.hold RootWord b ≡ false
  root_apart t b = false_from_ne_true (owns g.geo S x.hold RootWord b) (λ o. both_ways (x.hold.locked 0) (lock_apart 0 t) (root_rights sh cells S fk g geo k x z 0 (root_line (val (S RootWord) 0 64)) o))

  -- NO BIT is owned by two lanes
  pub owns_apart : (p : Place) (b : ℕ) → owns g.geo S v.hold p b ≡ true → owns g.geo S x.hold p b ≡ false
  owns_apart (InRun c u) b o = disjoint (block_of g.geo (InRun c u) b) o
  owns_apart (InHuge c u) b o = disjoint (block_of g.geo (InHuge c u) b) o
  owns_apart (Descr c) b o = disjoint (block_of g.geo (Descr c) b) o
  owns_apart RootWord b o = root_apart (or_left (v.hold.locked 0) (v.hold.reads 0) (root_rights sh cells S fj g geo j v a 0 (root_line (val (S RootWord) 0 64)) o)) b

  -- nor is a word of one lane's in its other use the other's
  small_clash : (c i : ℕ) → own v.hold (Small c i) ≡ true → own x.hold (Big (g.geo.first c)) ≡ true → ⊥
  small_clash c i o n = ⊎_elim (λ (t : g.runs c ≡ true). both_ways (g.runs c) (no_run sh cells S fk g geo k x z c n) t) (λ (t : v.hold.making c ≡ true). let y = maker_owns sh cells S fj g geo j v a c t in both_ways (own x.hold (Big c)) (disjoint (Big c) y.0) (subst (λ a. own x.hold (Big a) ≡ true) y.1 n)) (small_cases sh cells S fj g geo j v a c i o)

  big_clash : (c i : ℕ) → own v.hold (Big (g.geo.first c)) ≡ true → own x.hold (Small c i) ≡ true → ⊥
  big_clash c i o n = ⊎_elim (λ (t : g.runs c ≡ true). both_ways (g.runs c) (no_run sh cells S fj g geo j v a c o) t) (λ (t : x.hold.making c ≡ true). let y = maker_owns sh cells S fk g geo k x z c t in both_ways (own x.hold (Big (g.geo.first c))) (disjoint (Big (g.geo.first c)) o) (subst (λ a. own x.hold (Big a) ≡ true) (sym y.1) y.0)) (small_cases sh cells S fk g geo k x z c i n)

  pub twin_apart : (p : Place) (b : ℕ) → owns g.geo S v.hold p b ≡ true → owns g.geo S x.hold (twin p) b ≡ false
  twin_apart (InRun c u) b o = false_from_ne_true (own x.hold (Big (g.geo.first c))) (small_clash c (part (g.geo.class c) u b) o)
  twin_apart (InHuge c u) b o = false_from_ne_true (own x.hold (Small c (part (g.geo.class c) u b))) (big_clash c (part (g.geo.class c) u b) o)
  twin_apart (Descr c) b o = disjoint (Big (g.geo.first c)) o
  twin_apart RootWord b o = owns_apart RootWord b o

  -- nor does one lane own what another has found under a lock of either kind
  pub found_apart : (B : Block) → v.hold.found B ≡ true → own x.hold B ≡ false
  found_apart B t = let y = a.hold.found B t in false_from_ne_true (own x.hold B) (λ o. ⊎_elim (λ (n : x.hold.mine B ≡ true). both_ways (there S B) (z.hold.mine B n).2 y.2)
      (⊎_elim (λ (n : x.hold.here B ≡ true). both_ways (x.hold.locked (header sh g.geo B)) (lock_apart (header sh g.geo B) y.0) (z.hold.here B n).0) (λ (n : making_of x.hold.making B ≡ true). maker B n y.1)) (own_cases x.hold B o))
    where
      maker : (B : Block) → making_of x.hold.making B ≡ true → valid g B ≡ true → ⊥
      maker (Small c i) n v' = both_ways (g.runs c) (maker_no_run sh cells S fk g geo k x z c n) (small_run sh cells S fk g geo k x z c i v')
      maker (Big f) n v' = both_ways false refl n
      maker Root n v' = both_ways false refl n

  pub has_apart : (B : Block) → has v.hold B ≡ true → own x.hold B ≡ false
  has_apart B t = ⊎_elim (λ (o : own v.hold B ≡ true). disjoint B o) (λ (o : v.hold.found B ≡ true). found_apart B o) (or_cases (own v.hold B) (v.hold.found B) t)

  -- nor what it sees, in either use of the word
  pub sees_apart : (p : Place) (b : ℕ) → sees g.geo S v.hold p b ≡ true → owns g.geo S x.hold p b ≡ false
  sees_apart (InRun c u) b o = found_apart (block_of g.geo (InRun c u) b) o
  sees_apart (InHuge c u) b o = found_apart (block_of g.geo (InHuge c u) b) o
  sees_apart (Descr c) b o = found_apart (block_of g.geo (Descr c) b) o
  sees_apart RootWord b o = root_apart o b

  pub sees_twin : (p : Place) (b : ℕ) → sees g.geo S v.hold p b ≡ true → owns g.geo S x.hold (twin p) b ≡ false
  sees_twin (InRun c u) b o = let i = part (g.geo.class c) u b in false_from_ne_true (own x.hold (Big (g.geo.first c))) (λ n. both_ways (g.runs c) (no_run sh cells S fk g geo k x z c n) (small_run sh cells S fk g geo k x z c i (a.hold.found (Small c i) o).1))
  sees_twin (InHuge c u) b o = let e = (a.hold.found (Big (g.geo.first c)) o).2 in let i = part (g.geo.class c) u b in false_from_ne_true (own x.hold (Small c i)) (λ n. ⊎_elim (λ (t : g.runs c ≡ true). both_ways (g.runs c) (geo.huge c e) t)
      (λ (t : x.hold.making c ≡ true). let y = maker_owns sh cells S fk g geo k x z c t in both_ways (own x.hold (Big c)) (subst (λ a. own x.hold (Big a) ≡ false) y.1 (found_apart (Big (g.geo.first c)) o)) y.0) (small_cases sh cells S fk g geo k x z c i n))
  sees_twin (Descr c) b o = found_apart (Big (g.geo.first c)) o
  sees_twin RootWord b o = root_apart o b

  -- the chunk of a small block that a lane has is no huge block of another's
  pub class_apart : (c i : ℕ) → has v.hold (Small c i) ≡ true → own x.hold (Big c) ≡ false
  class_apart c i o = false_from_ne_true (own x.hold (Big c)) (λ t. let t' = subst (λ a. own x.hold (Big a) ≡ true) (sym (big_valid sh cells S fk g geo k x z c t)) t in
      ⊎_elim (λ (n : own v.hold (Small c i) ≡ true). small_clash c i n t') (λ (n : v.hold.found (Small c i) ≡ true). both_ways (g.runs c) (no_run sh cells S fk g geo k x z c t') (small_run sh cells S fk g geo k x z c i (a.hold.found (Small c i) n).1)) (or_cases (own v.hold (Small c i)) (v.hold.found (Small c i)) o))

-- ---- WHAT A STEP OF LANE k, which held h, LEAVES FOR THE OTHERS, whose holds are these
pub record Around (k : ℕ) (h : Hold) (holds : ℕ → Hold) (cells cells' : Cells) (S S' : State) (g g' : Ghost) : Type 0 where
  pub writer : (l j : ℕ) → j ≢ k → cells'.writer l j ≡ cells.writer l j
  pub reader : (l j : ℕ) → j ≢ k → cells'.reader l j ≡ cells.reader l j
  pub pool : (p : Place) (b : ℕ) → owns g.geo S h p b ≡ false → owns g.geo S h (twin p) b ≡ false → read cells'.pool p b ≡ read cells.pool p b
  pub set : (p : Place) (b : ℕ) → owns g.geo S h p b ≡ false → S' p b ≡ S p b
  pub descr : (c : ℕ) → own h (Big c) ≡ false → cells'.descr c ≡ cells.descr c
  pub up : (c n : ℕ) → cells.descr c ≡ suc n → cells'.descr c ≡ suc n
  pub runs : (c : ℕ) → h.making c ≡ false → g'.runs c ≡ g.runs c
  pub holder : (B : Block) (j : ℕ) → j ≢ k → g.holder B ≡ suc j → g'.holder B ≡ suc j
  pub holder_back : (B : Block) (j : ℕ) → j ≢ k → g'.holder B ≡ suc j → g.holder B ≡ suc j
  -- the geometry changes only at chunks that are the lane's, or nobody's
  pub class : (c : ℕ) → own h (Big c) ≡ false → g'.geo.class c ≡ g.geo.class c
  pub first : (c j : ℕ) → j ≢ k → (g'.geo.first c ≡ g.geo.first c) ⊎ ((has (holds j) (Big (g.geo.first c)) ≡ false) × (has (holds j) (Big (g'.geo.first c)) ≡ false))
  pub flies : (j n : ℕ) (d : Diff) → j ≢ k → ((p : Place) (b : ℕ) → given (d p b) ≡ true → owns g.geo S h p b ≡ false) → Flies g j n d → Flies g' j n d

flight_kept : (P Q : ℕ → Diff → Type 0) (ph : Phase) (d : Diff) → ((n : ℕ) → P n d → Q n d) → FlightFits P ph d → FlightFits Q ph d
flight_kept P Q Idle d m f = f
flight_kept P Q Open d m f = f
flight_kept P Q (Drawn n) d m f = m n f
flight_kept P Q (Sealing n) d m f = m n f
flight_kept P Q (Applying t) d m f = f
flight_kept P Q Clearing d m f = f
flight_kept P Q (Retiring n) d m f = m n f
flight_kept P Q Voiding d m f = f

turn_before : (l m h y : Bool) (a : Option Bool) → TurnBefore l m h a → (m || (h || y)) ≡ false → a ≡ None
turn_before l m h y None f e = refl
turn_before l m h y (Some true) f e = absurd (both_ways m (or_parts m (h || y) e).0 f)
turn_before l m h y (Some false) f e = absurd (both_ways h (or_parts h y (or_parts m (h || y) e).1).0 f)

turn_flight : (l m h y : Bool) (a : Option Bool) → TurnFlight l m h a → (m || (h || y)) ≡ false → a ≡ None
turn_flight l m h y None f e = refl
turn_flight l m h y (Some true) f e = absurd (both_ways m (or_parts m (h || y) e).0 f.0)
turn_flight l m h y (Some false) f e = absurd (both_ways h (or_parts h y (or_parts m (h || y) e).1).0 f)

turn_after : (l m h y : Bool) (a : Option Bool) → TurnAfter l m h a → (m || (h || y)) ≡ false → a ≡ None
turn_after l m h y None f e = refl
turn_after l m h y (Some true) f e = absurd (both_ways h (or_parts h y (or_parts m (h || y) e).1).0 f)
turn_after l m h y (Some false) f e = absurd (both_ways m (or_parts m (h || y) e).0 f.0)

-- a call leaves blocks alone that the lane does not own
pub turn_stays : (ph : Phase) (l m h y : Bool) (a : Option Bool) → TurnFits ph l m h a → (m || (h || y)) ≡ false → a ≡ None
turn_stays Idle l m h y a f e = f
turn_stays Open l m h y a f e = turn_before l m h y a f e
turn_stays (Drawn n) l m h y a f e = turn_flight l m h y a f e
turn_stays (Sealing n) l m h y a f e = turn_flight l m h y a f e
turn_stays (Applying t) l m h y a f e = turn_after l m h y a f e
turn_stays Clearing l m h y a f e = turn_after l m h y a f e
turn_stays (Retiring n) l m h y a f e = f
turn_stays Voiding l m h y a f e = f

pub stay_fits : (ph : Phase) (l m h : Bool) → TurnFits ph l m h None
stay_fits Idle l m h = refl
stay_fits Open l m h = tt
stay_fits (Drawn n) l m h = tt
stay_fits (Sealing n) l m h = tt
stay_fits (Applying t) l m h = tt
stay_fits Clearing l m h = tt
stay_fits (Retiring n) l m h = refl
stay_fits Voiding l m h = refl

-- THE FRAME: lane j's facts are kept
module _ (sh : Shape) (k : ℕ) (x : Sight) (holds : ℕ → Hold) (cells cells' : Cells) (S S' : State) (g g' : Ghost) (geo : GeoFits sh S g) (al : Alone cells.writer cells.reader) (z : SightFits sh cells S (Flies g k) g k x) (m : Around k x.hold holds cells cells' S S' g g')
    (j : ℕ) (ne : j ≢ k) (v : Sight) (hv : holds j ≡ v.hold) (f : SightFits sh cells S (Flies g j) g j v) where
  away : (B : Block) → own v.hold B ≡ true → own x.hold B ≡ false
  away = disjoint sh cells S (Flies g j) (Flies g k) g geo al j k v x f z ne

  pub has_away : (B : Block) → has v.hold B ≡ true → own x.hold B ≡ false
  has_away = has_apart sh cells S (Flies g j) (Flies g k) g geo al j k v x f z ne

  pub bit_away : (p : Place) (b : ℕ) → owns g.geo S v.hold p b ≡ true → owns g.geo S x.hold p b ≡ false
  bit_away = owns_apart sh cells S (Flies g j) (Flies g k) g geo al j k v x f z ne

  first_is : (c : ℕ) → (g'.geo.first c ≡ g.geo.first c) ⊎ ((has v.hold (Big (g.geo.first c)) ≡ false) × (has v.hold (Big (g'.geo.first c)) ≡ false))
  first_is c = let P : Hold → Type 0 = λ u. (g'.geo.first c ≡ g.geo.first c) ⊎ ((has u (Big (g.geo.first c)) ≡ false) × (has u (Big (g'.geo.first c)) ≡ false)) in subst P hv (m.first c j ne)

  first_kept : (c : ℕ) → has v.hold (Big (g.geo.first c)) ≡ true → g'.geo.first c ≡ g.geo.first c
  first_kept c o = ⊎_elim (λ (t : g'.geo.first c ≡ g.geo.first c). t) (λ (t : (has v.hold (Big (g.geo.first c)) ≡ false) × (has v.hold (Big (g'.geo.first c)) ≡ false)). absurd (both_ways (has v.hold (Big (g.geo.first c))) t.0 o)) (first_is c)

  first_back : (c : ℕ) → has v.hold (Big (g'.geo.first c)) ≡ true → g'.geo.first c ≡ g.geo.first c
  first_back c o = ⊎_elim (λ (t : g'.geo.first c ≡ g.geo.first c). t) (λ (t : (has v.hold (Big (g.geo.first c)) ≡ false) × (has v.hold (Big (g'.geo.first c)) ≡ false)). absurd (both_ways (has v.hold (Big (g'.geo.first c))) t.1 o)) (first_is c)

  pub class_kept : (c i : ℕ) → has v.hold (Small c i) ≡ true → g'.geo.class c ≡ g.geo.class c
  class_kept c i o = m.class c (class_apart sh cells S (Flies g j) (Flies g k) g geo al j k v x f z ne c i o)

  -- which places are whose stays, of what lane j has
  pub block_kept : (p : Place) (b : ℕ) → has v.hold (block_of g.geo p b) ≡ true → block_of g'.geo p b ≡ block_of g.geo p b
  block_kept (InRun c u) b o = ap (λ cl. Small c (part cl u b)) (class_kept c (part (g.geo.class c) u b) o)
  block_kept (InHuge c u) b o = ap (λ y. Big y) (first_kept c o)
  block_kept (Descr c) b o = ap (λ y. Big y) (first_kept c o)
  block_kept RootWord b o = refl

  block_back : (p : Place) (b : ℕ) → has v.hold (block_of g'.geo p b) ≡ true → block_of g'.geo p b ≡ block_of g.geo p b
  block_back (InRun c u) b o = ap (λ cl. Small c (part cl u b)) (class_kept c (part (g'.geo.class c) u b) o)
  block_back (InHuge c u) b o = ap (λ y. Big y) (first_back c o)
  block_back (Descr c) b o = ap (λ y. Big y) (first_back c o)
  block_back RootWord b o = refl

  -- the root word is as it was, where lane j holds line 0
  root_same : (s s' : State) → ((p : Place) (b : ℕ) → owns g.geo S x.hold p b ≡ false → s' p b ≡ s p b) → (v.hold.locked 0 || v.hold.reads 0) ≡ true → s' RootWord ≡ s RootWord
  root_same s s' u t = λ i b. u RootWord b (root_apart sh cells S (Flies g j) (Flies g k) g geo al j k v x f z ne t b) i

  root_locked : (l : ℕ) (t : List ℕ) → rights v.hold Root (l ∷ t) ≡ true → v.hold.locked l ≡ true
  root_locked l t e = root_rights sh cells S (Flies g j) g geo j v f l t e

  owned_root : (s s' : State) → ((p : Place) (b : ℕ) → owns g.geo S x.hold p b ≡ false → s' p b ≡ s p b) → (b : ℕ) → owns g.geo s v.hold RootWord b ≡ true → owns g'.geo s' v.hold RootWord b ≡ true
  owned_root s s' u b o = subst (λ y. rights v.hold Root (0 ∷ root_line (val y 0 64)) ≡ true) (sym (root_same s s' u (or_left (v.hold.locked 0) (v.hold.reads 0) (root_locked 0 (root_line (val (s RootWord) 0 64)) o)))) o

  owned_root_back : (s s' : State) → ((p : Place) (b : ℕ) → owns g.geo S x.hold p b ≡ false → s' p b ≡ s p b) → (b : ℕ) → owns g'.geo s' v.hold RootWord b ≡ true → owns g.geo s v.hold RootWord b ≡ true
  owned_root_back s s' u b o = subst (λ y. rights v.hold Root (0 ∷ root_line (val y 0 64)) ≡ true) (root_same s s' u (or_left (v.hold.locked 0) (v.hold.reads 0) (root_locked 0 (root_line (val (s' RootWord) 0 64)) o))) o

  pub owned_back : (p : Place) (b : ℕ) → owns g'.geo S' v.hold p b ≡ true → owns g.geo S v.hold p b ≡ true
  owned_back (InRun c u) b o = subst (λ B. own v.hold B ≡ true) (block_back (InRun c u) b (own_has v.hold (block_of g'.geo (InRun c u) b) o)) o
  owned_back (InHuge c u) b o = subst (λ B. own v.hold B ≡ true) (block_back (InHuge c u) b (own_has v.hold (block_of g'.geo (InHuge c u) b) o)) o
  owned_back (Descr c) b o = subst (λ B. own v.hold B ≡ true) (block_back (Descr c) b (own_has v.hold (block_of g'.geo (Descr c) b) o)) o
  owned_back RootWord b o = owned_root_back S S' m.set b o

  pub owned_kept : (p : Place) (b : ℕ) → owns g.geo S v.hold p b ≡ true → owns g'.geo S' v.hold p b ≡ true
  owned_kept (InRun c u) b o = subst (λ B. own v.hold B ≡ true) (sym (block_kept (InRun c u) b (own_has v.hold (block_of g.geo (InRun c u) b) o))) o
  owned_kept (InHuge c u) b o = subst (λ B. own v.hold B ≡ true) (sym (block_kept (InHuge c u) b (own_has v.hold (block_of g.geo (InHuge c u) b) o))) o
  owned_kept (Descr c) b o = subst (λ B. own v.hold B ≡ true) (sym (block_kept (Descr c) b (own_has v.hold (block_of g.geo (Descr c) b) o))) o
  owned_kept RootWord b o = owned_root S S' m.set b o

  sees_back : (p : Place) (b : ℕ) → sees g'.geo S' v.hold p b ≡ true → sees g.geo S v.hold p b ≡ true
  sees_back (InRun c u) b o = subst (λ B. v.hold.found B ≡ true) (block_back (InRun c u) b (found_has v.hold (block_of g'.geo (InRun c u) b) o)) o
  sees_back (InHuge c u) b o = subst (λ B. v.hold.found B ≡ true) (block_back (InHuge c u) b (found_has v.hold (block_of g'.geo (InHuge c u) b) o)) o
  sees_back (Descr c) b o = subst (λ B. v.hold.found B ≡ true) (block_back (Descr c) b (found_has v.hold (block_of g'.geo (Descr c) b) o)) o
  sees_back RootWord b o = o

  size_back : (p : Place) (b : ℕ) → owns g.geo S v.hold p b ≡ true → is_size g'.geo p ≡ true → is_size g.geo p ≡ true
  size_back (InRun c u) b o t = subst (λ cl. (nat_le 8 u && (((u / 8 - 1) % cl == 0) && (u % 8 == 1))) ≡ true) (class_kept c (part (g.geo.class c) u b) (own_has v.hold (block_of g.geo (InRun c u) b) o)) t
  size_back (InHuge c u) b o t = subst (λ y. ((y == c) && (u == 1)) ≡ true) (first_kept c (own_has v.hold (Big (g.geo.first c)) o)) t
  size_back (Descr c) b o t = t
  size_back RootWord b o t = t

  -- the block of an owned bit stays, and the moving lane does not own it
  pub owned_block : (p : Place) (b : ℕ) → owns g.geo S v.hold p b ≡ true → block_of g'.geo p b ≡ block_of g.geo p b
  owned_block (InRun c u) b o = block_kept (InRun c u) b (own_has v.hold (block_of g.geo (InRun c u) b) o)
  owned_block (InHuge c u) b o = block_kept (InHuge c u) b (own_has v.hold (block_of g.geo (InHuge c u) b) o)
  owned_block (Descr c) b o = block_kept (Descr c) b (own_has v.hold (block_of g.geo (Descr c) b) o)
  owned_block RootWord b o = refl

  runs_kept : (c i : ℕ) → has v.hold (Small c i) ≡ true → g'.runs c ≡ g.runs c
  runs_kept c i o = m.runs c (not_making x.hold c i (has_away (Small c i) o))

  pub header_kept : (B : Block) → has v.hold B ≡ true → header sh g'.geo B ≡ header sh g.geo B
  header_kept (Small c i) o = ap (λ cl. line_of_chunk sh c + (1 + cl * i)) (class_kept c i o)
  header_kept (Big y) o = refl
  header_kept Root o = refl

  valid_kept : (B : Block) → has v.hold B ≡ true → valid g B ≡ true → valid g' B ≡ true
  valid_kept (Small c i) o u = ap (λ r. r && nat_lt i (blocks_of (g'.geo.class c))) (runs_kept c i o) ∙ (ap (λ cl. g.runs c && nat_lt i (blocks_of cl)) (class_kept c i o) ∙ u)
  valid_kept (Big y) o u = let t = eqb-true (g.geo.first y) y u in ap (λ a. eqb a y) (first_kept y (subst (λ a. has v.hold (Big a) ≡ true) (sym t) o)) ∙ u
  valid_kept Root o u = refl

  there_kept : (B : Block) → has v.hold B ≡ true → valid g B ≡ true → there S' B ≡ there S B
  there_kept (Small c i) o u = m.set (InRun c 0) i (has_away (Small c i) o)
  there_kept (Big y) o u = m.set (Descr y) 1 (subst (λ C. own x.hold C ≡ false) (sym (alloc_block g (Big y) u)) (has_away (Big y) o))
  there_kept Root o u = refl

  -- states that agree where lane k owns nothing show lane j's bits alike
  state_kept : (s s' : State) → ((p : Place) (b : ℕ) → owns g.geo S x.hold p b ≡ false → s' p b ≡ s p b) → (B : Block) → own x.hold B ≡ false → (q : Place) (e : ℕ) → block_of g.geo q e ≡ B → (q ≡ RootWord → ⊥) → s' q e ≡ s q e
  state_kept s s' u B a (InRun c y) e t r = u (InRun c y) e (subst (λ C. own x.hold C ≡ false) (sym t) a)
  state_kept s s' u B a (InHuge c y) e t r = u (InHuge c y) e (subst (λ C. own x.hold C ≡ false) (sym t) a)
  state_kept s s' u B a (Descr c) e t r = u (Descr c) e (subst (λ C. own x.hold C ≡ false) (sym t) a)
  state_kept s s' u B a RootWord e t r = absurd (r refl)

  pub live_kept : (s s' : State) → ((p : Place) (b : ℕ) → owns g.geo S x.hold p b ≡ false → s' p b ≡ s p b) → (p : Place) (b : ℕ) → owns g.geo S v.hold p b ≡ true → live s' g'.geo g'.runs p ≡ live s g.geo g.runs p
  live_kept s s' u (InRun c y) b o = let i = part (g.geo.class c) y b in let t = own_has v.hold (Small c i) o in
      ap (λ r. r && shown s' (g'.geo.class c) c y) (runs_kept c i t) ∙ (ap (λ cl. g.runs c && shown s' cl c y) (class_kept c i t)
      ∙ live_same g.geo g.runs s s' geo.twice (λ c r. (geo.classes c r).0) (InRun c y) b (λ q e r. state_kept s s' u (Small c i) (away (Small c i) o) q e r (λ a. small_root c i (sym (ap (λ p. block_of g.geo p e) a) ∙ r))))
  live_kept s s' u (InHuge c y) b o = let B = Big (g.geo.first c) in
      ap (λ a. nat_lt y 512 && bright_huge s' a (64 * (c - a) + y / 8)) (first_kept c (own_has v.hold B o))
      ∙ live_same g.geo g.runs s s' geo.twice (λ c r. (geo.classes c r).0) (InHuge c y) b (λ q e r. state_kept s s' u B (away B o) q e r (λ a. big_root (g.geo.first c) (sym (ap (λ p. block_of g.geo p e) a) ∙ r)))
  live_kept s s' u (Descr c) b o = refl
  live_kept s s' u RootWord b o = refl

  after_kept : (p : Place) (b : ℕ) → owns g.geo S x.hold p b ≡ false → after_diff (diff v.call) S' p b ≡ after_diff (diff v.call) S p b
  after_kept p b u = ap (λ y. over (diff v.call p b) y) (m.set p b u)

  hold_kept : HoldFits sh cells'.writer cells'.reader cells'.descr S' g' j v.hold
  hold_kept = record {
    locks = λ l. m.writer l j ne ∙ f.hold.locks l;
    reading = λ l. m.reader l j ne ∙ f.hold.reading l;
    found = λ B t. let y = f.hold.found B t in let o = found_has v.hold B t in (ap (λ l. v.hold.locked l || v.hold.reads l) (header_kept B o) ∙ y.0, valid_kept B o y.1, there_kept B o y.1 ∙ y.2);
    here = λ B t. let y = f.hold.here B t in (ap v.hold.locked (header_kept B (found_has v.hold B y.1)) ∙ y.0, y.1);
    found_here = λ B t l. f.hold.found_here B t (sym (ap v.hold.locked (header_kept B (found_has v.hold B t))) ∙ l);
    mine = λ B o. let t = f.hold.mine B o in let u = own_has v.hold B (mine_own v.hold B o) in (m.holder B j ne t.0, valid_kept B u t.1, there_kept B u t.1 ∙ t.2);
    holds = λ B e. f.hold.holds B (m.holder_back B j ne e);
    class = λ c i o. f.hold.class c i o ∙ sym (class_kept c i o);
    span = λ y o c. ⊎_elim (λ (t : g'.geo.first c ≡ g.geo.first c). ap (λ a. eqb a y) t ∙ f.hold.span y o c)
        (λ (t : (has v.hold (Big (g.geo.first c)) ≡ false) × (has v.hold (Big (g'.geo.first c)) ≡ false)).
        ne_eqb (g'.geo.first c) y (λ s. both_ways (has v.hold (Big y)) (subst (λ a. has v.hold (Big a) ≡ false) s t.1) o)
        ∙ (sym (ne_eqb (g.geo.first c) y (λ s. both_ways (has v.hold (Big y)) (subst (λ a. has v.hold (Big a) ≡ false) s t.0) o)) ∙ f.hold.span y o c)) (first_is c);
    first = λ c o. let s = first_back c o in f.hold.first c (subst (λ a. has v.hold (Big a) ≡ true) s o) ∙ sym s;
    zone = f.hold.zone;
    making = λ c o. let t = f.hold.making c o in let e = class_kept c 0 (own_has v.hold (Small c 0) (making_own v.hold c 0 o)) in
        (t.0, m.descr c (away (Big c) (mine_own v.hold (Big c) t.0)) ∙ (t.1 ∙ sym e), subst (λ cl. 1 ≤ cl) (sym e) t.2, subst (λ cl. 0 < blocks_of cl) (sym e) t.3, t.4);
    free = λ c o. let s = first_back c (own_has v.hold (Big (g'.geo.first c)) (mine_own v.hold (Big (g'.geo.first c)) o)) in let o' : v.hold.mine (Big (g.geo.first c)) ≡ true = subst (λ a. v.hold.mine (Big a) ≡ true) s o in
        m.runs c (false_from_ne_true (x.hold.making c) (λ y. let t = maker_owns sh cells S (Flies g k) g geo k x z c y in both_ways (own x.hold (Big c)) (subst (λ a. own x.hold (Big a) ≡ false) t.1 (away (Big (g.geo.first c)) (mine_own v.hold (Big (g.geo.first c)) o'))) t.0)) ∙ f.hold.free c o';
    seen = λ c n o. m.up c n (f.hold.seen c n o);
  }

  pub kept : SightFits sh cells' S' (Flies g' j) g' j v
  kept = record {
    hold = hold_kept;
    bits = λ p b o'. let o = owned_back p b o' in let u = bit_away p b o in
        let F : Bool → Bool → Bool → Type 0 = λ al. BitFits al (blank v.hold p) (is_decided v.phase) (left v.phase p b) (v.logged p) (latest v.call.entries p b) (v.picture p b) in
        let t1 = f.bits p b o in
        let t2 = subst (λ al. F al (read cells.pool p b) (S p b)) (sym (live_kept S S' m.set p b o)) t1 in
        let t3 = subst (λ y. F (live S' g'.geo g'.runs p) y (S p b)) (sym (m.pool p b u (twin_apart sh cells S (Flies g j) (Flies g k) g geo al j k v x f z ne p b o))) t2 in
        subst (F (live S' g'.geo g'.runs p) (read cells'.pool p b)) (sym (m.set p b u)) t3;
    picture = λ p b o' y e. let o = sees_back p b o' in m.pool p b (sees_apart sh cells S (Flies g j) (Flies g k) g geo al j k v x f z ne p b o) (sees_twin sh cells S (Flies g j) (Flies g k) g geo al j k v x f z ne p b o) ∙ f.picture p b o y e;
    turns = λ B. ⊎_elim (λ (o : own v.hold B ≡ true). subst (λ l. TurnFits v.phase (v.hold.locked l) (v.hold.mine B) (v.hold.here B) (turn (latest v.call.entries) B)) (sym (header_kept B (own_has v.hold B o))) (f.turns B))
        (λ (o : own v.hold B ≡ false). subst (TurnFits v.phase (v.hold.locked (header sh g'.geo B)) (v.hold.mine B) (v.hold.here B)) (sym (turn_stays v.phase (v.hold.locked (header sh g.geo B)) (v.hold.mine B) (v.hold.here B) (making_of v.hold.making B) (turn (latest v.call.entries) B) (f.turns B) o)) (stay_fits v.phase (v.hold.locked (header sh g'.geo B)) (v.hold.mine B) (v.hold.here B))) (cases_Bool (own v.hold B));
    call = record {
      flight = flight_kept (Flies g j) (Flies g' j) v.phase (diff v.call) (λ n. m.flies j n (diff v.call) ne (λ p b t. bit_away p b (f.reach p b t))) f.call.flight;
      todo = f.call.todo;
      descr = f.call.descr;
    };
    reach = λ p b t. owned_kept p b (f.reach p b t);
    plain = f.plain;
    logged = λ p b u t. let y = f.logged p b u t in (owned_kept p b y.0, y.1);
    stored = f.stored;
    fresh = f.fresh;
    sizes = λ p b t. (
      false_from_ne_true (given (latest v.call.entries p b)) (λ u. both_ways (given (latest v.call.entries p b)) (f.sizes p b (size_back p b (f.reach p b (some_first (latest v.call.entries p b) (v.call.fresh p b) u)) t)).0 u),
      λ u. let o = f.reach p b (fresh_given (latest v.call.entries p b) (v.call.fresh p b) u) in subst (λ B. turn (latest v.call.entries) B ≡ Some true) (sym (owned_block p b o)) ((f.sizes p b (size_back p b o t)).1 u),
    );
    born = λ t p b o' n l. let o = owned_back p b o' in f.born t p b o (sym (live_kept S S' m.set p b o) ∙ n) (sym (live_kept (after_diff (diff v.call) S) (after_diff (diff v.call) S') after_kept p b o) ∙ l);
    guarded = λ t b o'. owned_root (after_diff (diff v.call) S) (after_diff (diff v.call) S') after_kept b (f.guarded t b (owned_root_back S S' m.set b o'));
    soiled = λ p b t. let o = soiled_owned sh cells S (Flies g j) g geo j v f p b t in let y = f.soiled p b t in (subst (λ B. soils v.phase p (v.hold.mine B) (v.logged p) (latest v.call.entries p b) ≡ true) (sym (owned_block p b o)) y.0, y.1);
  }
