-- THE CRASH LAW, bit by bit, over what each lane's log gives a bit in the image: recovered, each living bit is as the kept calls make it.
use Rattle.std.proofs.Common.{◌≡◌, ◌≢◌, ℕ, zero, suc, ◌-◌, ◌/◌, ◌%◌, ◌<◌, ◌≤◌, ◌⊎◌, inl, inr, ⊎_elim, nat_le, nat_lt, Bool, true, false, not, ◌&&◌, ◌||◌, eqb, ◌==◌, refl, sym, ap, ◌∙◌, subst, arith, eq-eqb, ne_eqb, Option, None, Some}
use Rattle.std.proofs.lemmas.Bool.{cases_eq, cases_lt, cases_Bool, eqb-true, leb-true, both_ways, and_parts, and_from, or_cases, or_left, or_right, false_from_ne_true, true_from_ne_false, cond-false}
use Rattle.pm_layout.specs.declared.shape.Shape.{Shape}
use Rattle.pm_view.specs.Places.{Place, InRun, InHuge, Descr, RootWord, Block, Small, Big, Root, Geometry, part, block_of, is_place, twin}
use Rattle.pm_view.specs.Entries.{latest, first_of_two}
use Rattle.pm_view.specs.Log.{Phase, Idle, Open, Drawn, Sealing, Applying, Clearing, Retiring, Voiding}
use Rattle.pm_world.specs.States.{State, Diff, Call, diff, given, over, after_diff, lit, size_at, bright, shown, bright_huge, live, guards, read, replay, Cells}
use Rattle.pm_world.specs.Sights.{Hold, Sight}
use Rattle.pm_world.specs.Lanes.{Ghost, settled, own, owns, is_decided, in_flight, left, open_soils, FlightFits, SightFits, Flies, Bits}
use Rattle.pm_world.proofs.Basics.{and_false, some_of, none_of}
use Rattle.pm_world.proofs.Geometry.{huge_line, live_same}
use Rattle.pm_world.proofs.Replays.{over_none, replay_same, replay_last}
use Rattle.pm_world.proofs.Frame.{some_first, fresh_given, is_single, no_run, maker_owns, maker_no_run, small_cases, soiled_owned, owns_apart, twin_apart}

-- ---- WHAT A LANE'S LOG GIVES in the image: `spoken p b` is what it makes of bit b of the word of place p; `stands`, that the image has its deciding store

abbrev pub InPool : Shape → Place → ℕ → Type 0
InPool sh p b = (is_place sh p ≡ true) × (b < 64)

-- the records are valid: each drained one gives its words, and what is given is settled, where it is alive and of this use of the word
pub record Restores (sh : Shape) (S : State) (g : Ghost) (x : Sight) (spoken : Diff) : Type 0 where
  pub all : (p : Place) (b : ℕ) → InPool sh p b → x.logged p ≡ true → given (spoken p b) ≡ true
  pub olds : (p : Place) (b : ℕ) → InPool sh p b → given (spoken p b) ≡ true
      → ((owns g.geo S x.hold p b ≡ true) × (live S g.geo g.runs p ≡ true → spoken p b ≡ Some (S p b))) ⊎ ((is_single p ≡ false) × (owns g.geo S x.hold (twin p) b ≡ true))

-- the entries are sealed, and no record is valid
abbrev pub Redoes : Shape → Sight → Diff → Type 0
Redoes sh x spoken = (p : Place) (b : ℕ) → InPool sh p b → (twin p ≡ p) ⊎ (given (latest x.call.entries (twin p) b) ≡ false) → spoken p b ≡ latest x.call.entries p b

-- neither
abbrev pub IsSilent : Shape → Diff → Type 0
IsSilent sh spoken = (p : Place) (b : ℕ) → InPool sh p b → spoken p b ≡ None

-- what stands under records is settled again
abbrev pub IsPutBack : Shape → State → State → Sight → Type 0
IsPutBack sh m S x = (p : Place) (b : ℕ) → InPool sh p b → x.logged p ≡ true → m p b ≡ S p b

-- by how far the call has come
abbrev pub PhaseSays : Shape → State → State → Ghost → Sight → Diff → Bool → Phase → Type 0
PhaseSays sh m S g x spoken st Idle = Restores sh S g x spoken
PhaseSays sh m S g x spoken st Open = Restores sh S g x spoken
PhaseSays sh m S g x spoken st (Drawn n) = Restores sh S g x spoken
PhaseSays sh m S g x spoken st (Sealing n) = (Redoes sh x spoken × (st ≡ true)) ⊎ (Restores sh S g x spoken × (st ≡ false))
PhaseSays sh m S g x spoken st (Applying todo) = Redoes sh x spoken
PhaseSays sh m S g x spoken st Clearing = Redoes sh x spoken ⊎ IsSilent sh spoken
PhaseSays sh m S g x spoken st (Retiring n) = (Redoes sh x spoken × (st ≡ true)) ⊎ (Restores sh S g x spoken × (st ≡ false))
PhaseSays sh m S g x spoken st Voiding = (IsSilent sh spoken × IsPutBack sh m S x) ⊎ Restores sh S g x spoken

-- the call in flight is decided in the image
abbrev pub decides : Phase → Bool → ℕ → Bool
decides (Sealing m) st n = (m == n) && st
decides (Retiring m) st n = (m == n) && st
decides phase st n = false

abbrev pub decided_by : (ℕ → Sight) → (ℕ → Bool) → ℕ → ℕ → Bool
decided_by sights stands zero n = false
decided_by sights stands (suc k) n = decides (sights k).phase (stands k) n || decided_by sights stands k n

-- THE IMAGE, at places: `im` has its bits, `rec` those recovered
pub record Image (sh : Shape) (pool_lanes : ℕ) (m S : State) (g : Ghost) (sights : ℕ → Sight) (im rec : State) (spoken : ℕ → Diff) (stands : ℕ → Bool) : Type 0 where
  -- a bit is as in memory, or some lane has an undrained change of it, in this use of the word or the other
  pub pool : (p : Place) (b : ℕ) → InPool sh p b → (im p b ≡ m p b) ⊎ ((k : ℕ) × (((sights k).soiled p b ≡ true) ⊎ ((sights k).soiled (twin p) b ≡ true)))
  pub logs : (k : ℕ) → k < pool_lanes → PhaseSays sh m S g (sights k) (spoken k) (stands k) (sights k).phase
  pub no_logs : (k : ℕ) → pool_lanes ≤ k → IsSilent sh (spoken k)
  -- where one lane's log alone gives the bit, recovery does so
  pub joins : (p : Place) (b k : ℕ) → k < pool_lanes → InPool sh p b → ((j : ℕ) → j ≢ k → given (spoken j p b) ≡ false) → rec p b ≡ over (spoken k p b) (im p b)

-- ---- one-bit facts

first_is : (d e : Option Bool) (y : Bool) → d ≡ Some y → first_of_two d e ≡ Some y
first_is d e y q = ap (λ z. first_of_two z e) q

second_is : (d e : Option Bool) → given d ≡ false → first_of_two d e ≡ e
second_is d e q = ap (λ z. first_of_two z e) (none_of d q)

and_none : (t u : Bool) → t ≡ false → (t && u) ≡ false
and_none t u e = ap (λ z. z && u) e

pub single_twin : (p : Place) → is_single p ≡ true → twin p ≡ p
single_twin (InRun c w) e = absurd (both_ways false refl e)
single_twin (InHuge c w) e = absurd (both_ways false refl e)
single_twin (Descr c) e = refl
single_twin RootWord e = refl

decides_flies : (P : ℕ → Diff → Type 0) (ph : Phase) (st : Bool) (d : Diff) (n : ℕ) → decides ph st n ≡ true → FlightFits P ph d → P n d
decides_flies P Idle st d n e f = absurd (both_ways false refl e)
decides_flies P Open st d n e f = absurd (both_ways false refl e)
decides_flies P (Drawn m) st d n e f = absurd (both_ways false refl e)
decides_flies P (Sealing m) st d n e f = subst (λ z. P z d) (eqb-true m n (and_parts (eqb m n) st e).0) f
decides_flies P (Applying t) st d n e f = absurd (both_ways false refl e)
decides_flies P Clearing st d n e f = absurd (both_ways false refl e)
decides_flies P (Retiring m) st d n e f = subst (λ z. P z d) (eqb-true m n (and_parts (eqb m n) st e).0) f
decides_flies P Voiding st d n e f = absurd (both_ways false refl e)

abbrev is_root : Block → Bool
is_root (Small c i) = false
is_root (Big f) = false
is_root Root = true

-- what is in one block is owned alike
owned_alike : (G : Geometry) (s : State) (h : Hold) (p q : Place) (b e : ℕ) → block_of G q e ≡ block_of G p b → owns G s h q e ≡ owns G s h p b
owned_alike G s h (InRun c w) (InRun d v) b e y = ap (own h) y
owned_alike G s h (InRun c w) (InHuge d v) b e y = ap (own h) y
owned_alike G s h (InRun c w) (Descr d) b e y = ap (own h) y
owned_alike G s h (InRun c w) RootWord b e y = absurd (both_ways true (ap is_root y) refl)
owned_alike G s h (InHuge c w) (InRun d v) b e y = ap (own h) y
owned_alike G s h (InHuge c w) (InHuge d v) b e y = ap (own h) y
owned_alike G s h (InHuge c w) (Descr d) b e y = ap (own h) y
owned_alike G s h (InHuge c w) RootWord b e y = absurd (both_ways true (ap is_root y) refl)
owned_alike G s h (Descr c) (InRun d v) b e y = ap (own h) y
owned_alike G s h (Descr c) (InHuge d v) b e y = ap (own h) y
owned_alike G s h (Descr c) (Descr d) b e y = ap (own h) y
owned_alike G s h (Descr c) RootWord b e y = absurd (both_ways true (ap is_root y) refl)
owned_alike G s h RootWord (InRun d v) b e y = absurd (both_ways false refl (ap is_root y))
owned_alike G s h RootWord (InHuge d v) b e y = absurd (both_ways false refl (ap is_root y))
owned_alike G s h RootWord (Descr d) b e y = absurd (both_ways false refl (ap is_root y))
owned_alike G s h RootWord RootWord b e y = refl

-- a living word of a run is in a block that exists
run_exists : (s : State) (G : Geometry) (c w b : ℕ) → eqb w 0 ≡ false → shown s (G.class c) c w ≡ true → s (InRun c 0) (part (G.class c) w b) ≡ true
run_exists s G c w b z l = let cl = G.class c in let i = (w / 8 - 1) / cl in let inside = nat_le 8 w && nat_lt w 512 in let br = bright s cl c i ((w / 8 - 1) % cl) in
    let y = ⊎_elim (λ (t : (eqb w 0) ≡ true). absurd (both_ways (eqb w 0) z t)) (λ (t : (inside && br) ≡ true). t) (or_cases (eqb w 0) (inside && br) l) in
    ap (s (InRun c 0)) (cond-false (eqb w 0) b i z) ∙ (and_parts (s (InRun c 0) i) (lit (s (size_at cl c i)) ((w / 8 - 1) % cl)) (and_parts inside br y).1).0

huge_exists : (s : State) (G : Geometry) (c w : ℕ) → (nat_lt w 512 && bright_huge s (G.first c) (huge_line G c w)) ≡ true → s (Descr (G.first c)) 1 ≡ true
huge_exists s G c w l = (and_parts (s (Descr (G.first c)) 1) (lit (s (InHuge (G.first c) 1)) (huge_line G c w)) (and_parts (nat_lt w 512) (bright_huge s (G.first c) (huge_line G c w)) l).1).0

-- some of the first lanes passes a test, or none does
pub some_lane : (P : ℕ → Bool) (n : ℕ) → ((j : ℕ) × (P j ≡ true)) ⊎ ((j : ℕ) → j < n → P j ≡ false)
some_lane P zero = inr (λ j l. absurd (omega arith))
some_lane P (suc n) = ⊎_elim (λ (t : P n ≡ true). inl (n, t))
    (λ (f : P n ≡ false). ⊎_elim (λ (y : (j : ℕ) × (P j ≡ true)). inl y) (λ (h : (j : ℕ) → j < n → P j ≡ false). inr (λ j l. ⊎_elim (λ (e : j ≡ n). ap P e ∙ f) (λ (ne : j ≢ n). h j (omega arith)) (cases_eq j n))) (some_lane P n)) (cases_Bool (P n))

module _ (sh : Shape) (L pool_lanes : ℕ) (some : 1 ≤ L) (within : L ≤ pool_lanes) (o : State) (cells : Cells) (sights : ℕ → Sight) (g : Ghost) (x : Bits sh L o cells sights g) (im rec : State) (spoken : ℕ → Diff) (stands : ℕ → Bool)
    (y : Image sh pool_lanes (read cells.pool) (settled o g) g sights im rec spoken stands) where
  abbrev S : State
  S = settled o g

  abbrev pub keep : ℕ → Bool
  keep n = g.decided n || decided_by sights stands L n

  abbrev pub K : State
  K = replay keep o g.log g.length

  abbrev m : State
  m = read cells.pool

  abbrev hold_at : ℕ → Hold
  hold_at j = (sights j).hold

  abbrev call_at : ℕ → Call
  call_at j = (sights j).call

  abbrev Fits : ℕ → Sight → Type 0
  Fits k v = SightFits sh cells (settled o g) (Flies g k) g k v

  fit : (k : ℕ) → Fits k (sights k)
  fit k = x.each_lane k

  at : (k : ℕ) (ph : Phase) → (sights k).phase ≡ ph → Fits k (record (sights k) { phase = ph })
  at k ph e = subst (λ z. Fits k (record (sights k) { phase = z })) e (fit k)

  says : (k : ℕ) → k < pool_lanes → (ph : Phase) → (sights k).phase ≡ ph → PhaseSays sh (read cells.pool) (settled o g) g (sights k) (spoken k) (stands k) ph
  says k ink ph e = subst (PhaseSays sh (read cells.pool) (settled o g) g (sights k) (spoken k) (stands k)) e (y.logs k ink)

  apart : (j k : ℕ) → j ≢ k → (p : Place) (b : ℕ) → owns g.geo (settled o g) (hold_at j) p b ≡ true → owns g.geo (settled o g) (hold_at k) p b ≡ false
  apart j k ne = owns_apart sh cells (settled o g) (Flies g j) (Flies g k) g x.geo x.alone j k (sights j) (sights k) (fit j) (fit k) ne

  away : (j k : ℕ) → j ≢ k → (p : Place) (b : ℕ) → owns g.geo (settled o g) (hold_at j) p b ≡ true → owns g.geo (settled o g) (hold_at k) (twin p) b ≡ false
  away j k ne = twin_apart sh cells (settled o g) (Flies g j) (Flies g k) g x.geo x.alone j k (sights j) (sights k) (fit j) (fit k) ne

  undiffed : (k : ℕ) (p : Place) (b : ℕ) → owns g.geo (settled o g) (hold_at k) p b ≡ false → given (diff (call_at k) p b) ≡ false
  undiffed k p b u = false_from_ne_true (given (diff (call_at k) p b)) (λ t. both_ways (owns g.geo (settled o g) (hold_at k) p b) u ((fit k).reach p b t))

  unentered : (k : ℕ) (p : Place) (b : ℕ) → owns g.geo (settled o g) (hold_at k) p b ≡ false → given (latest (call_at k).entries p b) ≡ false
  unentered k p b u = false_from_ne_true (given (latest (call_at k).entries p b)) (λ t. both_ways (given (diff (call_at k) p b)) (undiffed k p b u) (some_first (latest (call_at k).entries p b) ((call_at k).fresh p b) t))

  -- lanes beyond own nothing
  beyond_owns : (k : ℕ) → L ≤ k → (p : Place) (b : ℕ) → owns g.geo (settled o g) (hold_at k) p b ≡ false
  beyond_owns k out (InRun c w) b = (x.beyond k out (block_of g.geo (InRun c w) b)).0
  beyond_owns k out (InHuge c w) b = (x.beyond k out (block_of g.geo (InHuge c w) b)).0
  beyond_owns k out (Descr c) b = (x.beyond k out (block_of g.geo (Descr c) b)).0
  beyond_owns k out RootWord b = false_from_ne_true (owns g.geo (settled o g) (hold_at k) RootWord b) (λ t. both_ways ((hold_at k).locked 0) ((x.beyond k out Root).1 0)
      (Rattle.pm_world.proofs.Frame.root_rights sh cells (settled o g) (Flies g k) g x.geo k (sights k) (fit k) 0 (Rattle.pm_world.specs.States.root_line (Rattle.pm_world.specs.States.val (settled o g RootWord) 0 64)) t))

  owner : (p : Place) (b : ℕ) → ((j : ℕ) × (owns g.geo (settled o g) (hold_at j) p b ≡ true)) ⊎ ((j : ℕ) → owns g.geo (settled o g) (hold_at j) p b ≡ false)
  owner p b = ⊎_elim (λ (t : (j : ℕ) × (owns g.geo (settled o g) (hold_at j) p b ≡ true)). inl t)
      (λ (h : (j : ℕ) → j < L → owns g.geo (settled o g) (hold_at j) p b ≡ false). inr (λ j. ⊎_elim (λ (l : j < L). h j l) (λ (l : L ≤ j). beyond_owns j l p b) (cases_lt j L))) (some_lane (λ j. owns g.geo (settled o g) (hold_at j) p b) L)

  -- ---- THE KEPT CALLS

  decided_lane : (n m : ℕ) → decided_by sights stands n m ≡ true → (j : ℕ) × (decides (sights j).phase (stands j) m ≡ true)
  decided_lane zero m e = absurd (both_ways false refl e)
  decided_lane (suc n) m e = ⊎_elim (λ (t : decides (sights n).phase (stands n) m ≡ true). (n, t)) (λ t. decided_lane n m t) (or_cases (decides (sights n).phase (stands n) m) (decided_by sights stands n m) e)

  lane_decided : (n m k : ℕ) → k < n → decides (sights k).phase (stands k) m ≡ true → decided_by sights stands n m ≡ true
  lane_decided zero m k l e = absurd (omega arith)
  lane_decided (suc n) m k l e = let r : k < n → decided_by sights stands n m ≡ true = λ l'. lane_decided n m k l' e in
      ⊎_elim (λ (q : k ≡ n). or_left (decides (sights n).phase (stands n) m) (decided_by sights stands n m) (subst (λ z. decides (sights z).phase (stands z) m ≡ true) q e))
      (λ (ne : k ≢ n). or_right (decides (sights n).phase (stands n) m) (decided_by sights stands n m) (r (omega arith))) (cases_eq k n)

  flies_so : (k n : ℕ) → decides (sights k).phase (stands k) n ≡ true → Flies g k n (diff (call_at k))
  flies_so k n e = decides_flies (Flies g k) (sights k).phase (stands k) (diff (call_at k)) n e (fit k).call.flight

  -- where no call in flight that the image keeps changes a bit, the kept calls make what the decided made
  kept_settled : (p : Place) (b : ℕ) → ((k n : ℕ) → decides (sights k).phase (stands k) n ≡ true → given (diff (call_at k) p b) ≡ false) → K p b ≡ S p b
  kept_settled p b h = replay_same g.decided keep o g.log g.log p b g.length (λ m l. (
    refl,
    ⊎_elim (λ (e : decided_by sights stands L m ≡ true). let t = decided_lane L m e in inr (ap given ((flies_so t.0 m t.1).1 p b) ∙ h t.0 m t.1))
        (λ (e : decided_by sights stands L m ≡ false). inl (go (g.decided m) (decided_by sights stands L m) e)) (cases_Bool (decided_by sights stands L m)),
  ))
    where
      go : (s z : Bool) → z ≡ false → (s || z) ≡ s
      go true z e = refl
      go false z e = e

  -- a kept call in flight is there
  kept_new : (k n : ℕ) → k < L → decides (sights k).phase (stands k) n ≡ true → (p : Place) (b : ℕ) (v : Bool) → diff (call_at k) p b ≡ Some v → K p b ≡ v
  kept_new k n ink e p b v d = let fl = flies_so k n e in replay_last keep o g.log p b g.length n v fl.0 (or_right (g.decided n) (decided_by sights stands L n) (lane_decided L n k ink e)) (fl.1 p b ∙ d) (λ i mi ni. fl.4 i mi ni p b (ap given d))

  -- of a bit that lane k owns only its own call in flight changes what is settled
  kept_owned : (k : ℕ) (p : Place) (b : ℕ) → owns g.geo (settled o g) (hold_at k) p b ≡ true → ((n : ℕ) → decides (sights k).phase (stands k) n ≡ true → given (diff (call_at k) p b) ≡ false) → K p b ≡ S p b
  kept_owned k p b t u = kept_settled p b (λ j n e. ⊎_elim (λ (q : j ≡ k). subst (λ z. given (diff (call_at z) p b) ≡ false) (sym q) (u n (subst (λ z. decides (sights z).phase (stands z) n ≡ true) q e)))
      (λ (ne : j ≢ k). undiffed j p b (apart k j (λ q. ne (sym q)) p b t)) (cases_eq j k))

  kept_nobody : (p : Place) (b : ℕ) → ((j : ℕ) → owns g.geo (settled o g) (hold_at j) p b ≡ false) → K p b ≡ S p b
  kept_nobody p b none_ = kept_settled p b (λ j n e. undiffed j p b (none_ j))

  -- a huge block of the kept history has no run in it
  kept_no_run : (c : ℕ) → K (Descr (g.geo.first c)) 1 ≡ true → g.runs c ≡ false
  kept_no_run c l = let f = g.geo.first c in let tw : Big (g.geo.first f) ≡ Big f = ap (λ a. Big a) (x.geo.twice c) in
      ⊎_elim (λ (z : (j : ℕ) × (owns g.geo (settled o g) (hold_at j) (Descr f) 1 ≡ true)). no_run sh cells (settled o g) (Flies g z.0) g x.geo z.0 (sights z.0) (fit z.0) c (subst (λ B. own (hold_at z.0) B ≡ true) tw z.1))
      (λ (none_ : (j : ℕ) → owns g.geo (settled o g) (hold_at j) (Descr f) 1 ≡ false). x.geo.huge c (sym (kept_nobody (Descr f) 1 none_) ∙ l)) (owner (Descr f) 1)

  -- the chunk of a run in the making is no huge block, settled or kept
  making_dead : (j c : ℕ) → (hold_at j).making c ≡ true → K (Descr c) 1 ≡ false
  making_dead j c r = let f = fit j in let z = maker_owns sh cells (settled o g) (Flies g j) g x.geo j (sights j) f c r in
      kept_owned j (Descr c) 1 (subst (λ a. own (hold_at j) (Big a) ≡ true) (sym z.1) z.0) (λ n _. false_from_ne_true (given (diff (call_at j) (Descr c) 1)) (λ t. both_ways ((hold_at j).making c) (f.plain (Descr c) 1 t) r))
      ∙ (f.hold.mine (Big c) (f.hold.making c r).0).2

  -- a living word is nobody's in its other use
  twin_kept : (j : ℕ) (p : Place) (b : ℕ) → live K g.geo g.runs p ≡ true → owns g.geo (settled o g) (hold_at j) (twin p) b ≡ true → is_single p ≡ true
  twin_kept j (InRun c w) b l t = absurd (both_ways (g.runs c) (no_run sh cells (settled o g) (Flies g j) g x.geo j (sights j) (fit j) c t) (and_parts (g.runs c) (shown K (g.geo.class c) c w) l).0)
  twin_kept j (InHuge c w) b l t = let e = huge_exists K g.geo c w l in
      ⊎_elim (λ (r : g.runs c ≡ true). absurd (both_ways (g.runs c) (kept_no_run c e) r))
      (λ (r : (hold_at j).making c ≡ true). let z = maker_owns sh cells (settled o g) (Flies g j) g x.geo j (sights j) (fit j) c r in absurd (both_ways (K (Descr c) 1) (making_dead j c r) (ap (λ a. K (Descr a) 1) (sym z.1) ∙ e)))
      (small_cases sh cells (settled o g) (Flies g j) g x.geo j (sights j) (fit j) c (part (g.geo.class c) w b) t)
  twin_kept j (Descr c) b l t = refl
  twin_kept j RootWord b l t = refl

  twin_clear : (j : ℕ) (p : Place) (b : ℕ) → live K g.geo g.runs p ≡ true → (twin p ≡ p) ⊎ (owns g.geo (settled o g) (hold_at j) (twin p) b ≡ false)
  twin_clear j p b l = ⊎_elim (λ (t : owns g.geo (settled o g) (hold_at j) (twin p) b ≡ true). inl (single_twin p (twin_kept j p b l t))) (λ (u : owns g.geo (settled o g) (hold_at j) (twin p) b ≡ false). inr u) (cases_Bool (owns g.geo (settled o g) (hold_at j) (twin p) b))

  -- ---- NO LOG gives a bit of a word that its lane owns in neither use

  abbrev IsOther : ℕ → Place → ℕ → Type 0
  IsOther k p b = (owns g.geo (settled o g) (hold_at k) p b ≡ false) × (owns g.geo (settled o g) (hold_at k) (twin p) b ≡ false)

  by_records : (k : ℕ) (p : Place) (b : ℕ) → InPool sh p b → IsOther k p b → Restores sh (settled o g) g (sights k) (spoken k) → given (spoken k p b) ≡ false
  by_records k p b i u r = false_from_ne_true (given (spoken k p b)) (λ t. ⊎_elim (λ z. both_ways (owns g.geo (settled o g) (hold_at k) p b) u.0 z.0) (λ z. both_ways (owns g.geo (settled o g) (hold_at k) (twin p) b) u.1 z.1) (r.olds p b i t))

  by_entries : (k : ℕ) (p : Place) (b : ℕ) → InPool sh p b → IsOther k p b → Redoes sh (sights k) (spoken k) → given (spoken k p b) ≡ false
  by_entries k p b i u r = ap given (r p b i (inr (unentered k (twin p) b u.1))) ∙ unentered k p b u.0

  spoken_by : (k : ℕ) → k < pool_lanes → (p : Place) (b : ℕ) → InPool sh p b → IsOther k p b → (ph : Phase) → (sights k).phase ≡ ph → given (spoken k p b) ≡ false
  spoken_by k ink p b i u Idle e = by_records k p b i u (says k ink Idle e)
  spoken_by k ink p b i u Open e = by_records k p b i u (says k ink Open e)
  spoken_by k ink p b i u (Drawn n) e = by_records k p b i u (says k ink (Drawn n) e)
  spoken_by k ink p b i u (Sealing n) e = ⊎_elim (λ z. by_entries k p b i u z.0) (λ z. by_records k p b i u z.0) (says k ink (Sealing n) e)
  spoken_by k ink p b i u (Applying t) e = by_entries k p b i u (says k ink (Applying t) e)
  spoken_by k ink p b i u Clearing e = ⊎_elim (λ z. by_entries k p b i u z) (λ z. ap given (z p b i)) (says k ink Clearing e)
  spoken_by k ink p b i u (Retiring n) e = ⊎_elim (λ z. by_entries k p b i u z.0) (λ z. by_records k p b i u z.0) (says k ink (Retiring n) e)
  spoken_by k ink p b i u Voiding e = ⊎_elim (λ z. ap given (z.0 p b i)) (λ z. by_records k p b i u z) (says k ink Voiding e)

  pub unspoken : (k : ℕ) (p : Place) (b : ℕ) → InPool sh p b → IsOther k p b → given (spoken k p b) ≡ false
  unspoken k p b i u = ⊎_elim (λ (ink : k < pool_lanes). spoken_by k ink p b i u (sights k).phase refl) (λ (out : pool_lanes ≤ k). ap given (y.no_logs k out p b i)) (cases_lt k pool_lanes)

  -- which lane has the bit undrained
  who_soiled : (p : Place) (b : ℕ) → live K g.geo g.runs p ≡ true → (j : ℕ) → ((sights j).soiled p b ≡ true) ⊎ ((sights j).soiled (twin p) b ≡ true) → (sights j).soiled p b ≡ true
  who_soiled p b l j d = ⊎_elim (λ (t : (sights j).soiled p b ≡ true). t) (λ (t : (sights j).soiled (twin p) b ≡ true). ⊎_elim (λ (e : twin p ≡ p). subst (λ q. (sights j).soiled q b ≡ true) e t)
      (λ (u : owns g.geo (settled o g) (hold_at j) (twin p) b ≡ false). absurd (both_ways (owns g.geo (settled o g) (hold_at j) (twin p) b) u (soiled_is j (twin p) b t))) (twin_clear j p b l)) d
    where
      soiled_is : (j : ℕ) (p : Place) (b : ℕ) → (sights j).soiled p b ≡ true → owns g.geo (settled o g) (hold_at j) p b ≡ true
      soiled_is j p b t = soiled_owned sh cells (settled o g) (Flies g j) g x.geo j (sights j) (fit j) p b t

  soils_own : (j : ℕ) (p : Place) (b : ℕ) → (sights j).soiled p b ≡ true → owns g.geo (settled o g) (hold_at j) p b ≡ true
  soils_own j p b t = soiled_owned sh cells (settled o g) (Flies g j) g x.geo j (sights j) (fit j) p b t

  -- NO LANE owns the bit
  nobody_law : (p : Place) (b : ℕ) → InPool sh p b → ((j : ℕ) → owns g.geo (settled o g) (hold_at j) p b ≡ false) → live K g.geo g.runs p ≡ true → rec p b ≡ K p b
  nobody_law p b i none_ l = let l' : live S g.geo g.runs p ≡ true = sym (live_same g.geo g.runs S K x.geo.twice (λ c r. (x.geo.classes c r).0) p b (λ q e w. kept_nobody q e (λ j. owned_alike g.geo (settled o g) (hold_at j) p q b e w ∙ none_ j))) ∙ l in
      let still : im p b ≡ read cells.pool p b = ⊎_elim (λ (e : im p b ≡ read cells.pool p b). e) (λ (z : (j : ℕ) × (((sights j).soiled p b ≡ true) ⊎ ((sights j).soiled (twin p) b ≡ true))). absurd (both_ways (owns g.geo (settled o g) (hold_at z.0) p b) (none_ z.0) (soils_own z.0 p b (who_soiled p b l z.0 z.1)))) (y.pool p b i) in
      let other : (j : ℕ) → given (spoken j p b) ≡ false = λ j. unspoken j p b i (none_ j, ⊎_elim (λ (e : twin p ≡ p). subst (λ q. owns g.geo (settled o g) (hold_at j) q b ≡ false) (sym e) (none_ j)) (λ (u : owns g.geo (settled o g) (hold_at j) (twin p) b ≡ false). u) (twin_clear j p b l)) in
      y.joins p b 0 (omega arith) i (λ j _. other j) ∙ (over_none (spoken 0 p b) (im p b) (other 0) ∙ (still ∙ (x.unowned p b none_ l' ∙ sym (kept_nobody p b none_))))

  -- undrained bits of an open call are not alive, or recorded
  dry : (k : ℕ) (p : Place) (b : ℕ) → live S g.geo g.runs p ≡ true → (sights k).logged p ≡ false → open_soils p ((hold_at k).mine (block_of g.geo p b)) ((sights k).logged p) ≡ true → ⊥
  dry k (InRun c w) b l u d = let z = and_parts (nat_le 8 w) ((hold_at k).mine (block_of g.geo (InRun c w) b) || (sights k).logged (InRun c w)) d in
      ⊎_elim (λ (t : (hold_at k).mine (block_of g.geo (InRun c w) b) ≡ true). both_ways (S (InRun c 0) (part (g.geo.class c) w b)) ((fit k).hold.mine (block_of g.geo (InRun c w) b) t).2
      (run_exists S g.geo c w b (not_first w z.0) (and_parts (g.runs c) (shown S (g.geo.class c) c w) l).1)) (λ t. both_ways ((sights k).logged (InRun c w)) u t) (or_cases ((hold_at k).mine (block_of g.geo (InRun c w) b)) ((sights k).logged (InRun c w)) z.1)
    where
      not_first : (w : ℕ) → nat_le 8 w ≡ true → eqb w 0 ≡ false
      not_first w e = let l = leb-true 8 w e in ne_eqb w 0 (λ q. omega arith)
  dry k (InHuge c w) b l u d = ⊎_elim (λ (t : (hold_at k).mine (Big (g.geo.first c)) ≡ true). both_ways (S (Descr (g.geo.first c)) 1) ((fit k).hold.mine (Big (g.geo.first c)) t).2 (huge_exists S g.geo c w l)) (λ t. both_ways ((sights k).logged (InHuge c w)) u t)
      (or_cases ((hold_at k).mine (Big (g.geo.first c))) ((sights k).logged (InHuge c w)) d)
  dry k (Descr c) b l u d = both_ways false refl d
  dry k RootWord b l u d = both_ways ((sights k).logged RootWord) u d

  never : (k : ℕ) (ph : Phase) → (sights k).phase ≡ ph → ((n : ℕ) → decides ph (stands k) n ≡ false) → (n : ℕ) → decides (sights k).phase (stands k) n ≡ true → ⊥
  never k ph e z n f = both_ways (decides ph (stands k) n) (z n) (sym (ap (λ ph. decides ph (stands k) n) e) ∙ f)

  -- ONE LANE owns the bit
  module _ (k : ℕ) (p : Place) (b : ℕ) (i : InPool sh p b) (t : owns g.geo (settled o g) (hold_at k) p b ≡ true) (l : live K g.geo g.runs p ≡ true) where
    abbrev Says : Type 0
    Says = over (spoken k p b) (im p b) ≡ K p b

    abbrev Settled : Type 0
    Settled = live S g.geo g.runs p ≡ true → over (spoken k p b) (im p b) ≡ S p b

    abbrev en : Option Bool
    en = latest (call_at k).entries p b

    stays : ((sights k).soiled p b ≡ true → ⊥) → im p b ≡ read cells.pool p b
    stays n = ⊎_elim (λ (e : im p b ≡ read cells.pool p b). e) (λ (z : (j : ℕ) × (((sights j).soiled p b ≡ true) ⊎ ((sights j).soiled (twin p) b ≡ true))). let d = who_soiled p b l z.0 z.1 in
        absurd (⊎_elim (λ (e : z.0 ≡ k). n (subst (λ j. (sights j).soiled p b ≡ true) e d)) (λ (ne : z.0 ≢ k). both_ways (owns g.geo (settled o g) (hold_at k) p b) (apart z.0 k ne p b (soils_own z.0 p b d)) t) (cases_eq z.0 k))) (y.pool p b i)

    entries_here : (twin p ≡ p) ⊎ (given (latest (call_at k).entries (twin p) b) ≡ false)
    entries_here = ⊎_elim (λ (e : twin p ≡ p). inl e) (λ (u : owns g.geo (settled o g) (hold_at k) (twin p) b ≡ false). inr (unentered k (twin p) b u)) (twin_clear k p b l)

    -- where the lane's call is not kept but for the decided: the whole block is settled
    settled_lane : ((n : ℕ) → decides (sights k).phase (stands k) n ≡ true → ⊥) → Settled → Says
    settled_lane u r = r (sym (live_same g.geo g.runs S K x.geo.twice (λ c r. (x.geo.classes c r).0) p b (λ q e w. kept_owned k q e (owned_alike g.geo (settled o g) (hold_at k) p q b e w ∙ t) (λ n f. absurd (u n f)))) ∙ l)
        ∙ sym (kept_owned k p b t (λ n f. absurd (u n f)))

    -- the records give its old value, or it is none of theirs
    restored : (ph : Phase) → (sights k).phase ≡ ph → left ph p b ≡ None → ((sights k).logged p ≡ false → live S g.geo g.runs p ≡ true → (sights k).soiled p b ≡ true → ⊥) → Restores sh (settled o g) g (sights k) (spoken k) → Settled
    restored ph e z d r l' = ⊎_elim (λ (s : given (spoken k p b) ≡ true). ⊎_elim (λ w. ap (λ v. over v (im p b)) (w.1 l')) (λ w. absurd (both_ways (is_single p) w.0 (twin_kept k p b l w.1))) (r.olds p b i s))
        (λ (s : given (spoken k p b) ≡ false). let lg : (sights k).logged p ≡ false = false_from_ne_true ((sights k).logged p) (λ w. both_ways (given (spoken k p b)) s (r.all p b i w)) in
        over_none (spoken k p b) (im p b) s ∙ (stays (d lg l') ∙ ((at k ph e).bits p b t).0 l' (ap given z) (and_none ((sights k).logged p) (not (is_decided ph)) lg))) (cases_Bool (given (spoken k p b)))

    -- the entries are sealed and decided
    redone : (ph : Phase) → (sights k).phase ≡ ph → is_decided ph ≡ true → ((sights k).soiled p b ≡ true → given en ≡ true) → Redoes sh (sights k) (spoken k) → Settled
    redone ph e dec d r l' = let f = at k ph e in let n = r p b i entries_here in
        ⊎_elim (λ (s : given en ≡ true). let v = some_of en s in ap (λ z. over z (im p b)) (n ∙ v.1) ∙ sym ((f.bits p b t).2 dec v.0 v.1))
        (λ (s : given en ≡ false). ap (λ z. over z (im p b)) n ∙ (over_none en (im p b) s ∙ (stays (λ w. both_ways (given en) s (d w)) ∙ (f.bits p b t).0 l'
        (false_from_ne_true (given (left ph p b)) (λ w. let v = some_of (left ph p b) w in both_ways (given en) s (ap given (f.call.todo p b v.0 v.1))))
        (ap (λ z. (sights k).logged p && not z) dec ∙ and_false ((sights k).logged p))))) (cases_Bool (given en))

    -- the image keeps the call, which was not decided
    kept_call : k < L → (n : ℕ) (ph : Phase) → (sights k).phase ≡ ph → decides ph (stands k) n ≡ true → in_flight ph ≡ true → left ph p b ≡ None → ((sights k).soiled p b ≡ true → ⊥) → is_decided ph ≡ false → Redoes sh (sights k) (spoken k) → Says
    kept_call ink n ph e dc fl nl clean dec r = let f = at k ph e in let a = call_at k in let dk : decides (sights k).phase (stands k) n ≡ true = ap (λ z. decides z (stands k) n) e ∙ dc in
        let bs = r p b i entries_here in
        let new : (q : Place) (c : ℕ) (v : Bool) → diff a q c ≡ Some v → K q c ≡ v = λ q c v d. kept_new k n ink dk q c v d in
        let is : (q : Place) (c : ℕ) → block_of g.geo q c ≡ block_of g.geo p b → K q c ≡ after_diff (diff a) S q c = λ q c w. ⊎_elim (λ (s : given (diff a q c) ≡ true). let v = some_of (diff a q c) s in new q c v.0 v.1 ∙ sym (ap (λ d. over d (S q c)) v.1))
        (λ (s : given (diff a q c) ≡ false). kept_owned k q c (owned_alike g.geo (settled o g) (hold_at k) p q b c w ∙ t) (λ _ _. s) ∙ sym (over_none (diff a q c) (S q c) s)) (cases_Bool (given (diff a q c))) in
        ⊎_elim (λ (s : given en ≡ true). let v = some_of en s in ap (λ z. over z (im p b)) (bs ∙ v.1) ∙ sym (new p b v.0 (first_is en (a.fresh p b) v.0 v.1)))
        (λ (s : given en ≡ false). ap (λ z. over z (im p b)) bs ∙ (over_none en (im p b) s ∙ (stays clean ∙ ⊎_elim
        (λ (c : given (diff a p b) ≡ true). let v = some_of (diff a p b) c in (f.bits p b t).3 v.0 (f.fresh p b v.0 (sym (second_is en (a.fresh p b) s) ∙ v.1)) ∙ sym (new p b v.0 v.1))
        (λ (c : given (diff a p b) ≡ false). let lg : (sights k).logged p ≡ false = false_from_ne_true ((sights k).logged p) (λ w. both_ways (given (diff a p b)) c (fresh_given en (a.fresh p b) (f.stored p b dec w))) in
        (f.bits p b t).0 (true_from_ne_false (live S g.geo g.runs p) (λ u. both_ways (given (diff a p b)) c (f.born fl p b t u (sym (live_same g.geo g.runs (after_diff (diff a) S) K x.geo.twice (λ c r. (x.geo.classes c r).0) p b is) ∙ l))))
        (ap given nl) (and_none ((sights k).logged p) (not (is_decided ph)) lg)
        ∙ sym (kept_owned k p b t (λ _ _. c))) (cases_Bool (given (diff a p b)))))) (cases_Bool (given en))

    silent : (ph : Phase) → (sights k).phase ≡ ph → left ph p b ≡ None → ((sights k).soiled p b ≡ true → ⊥) → IsSilent sh (spoken k) → ((sights k).logged p && not (is_decided ph)) ≡ false → Settled
    silent ph e z clean n lg l' = ap (λ v. over v (im p b)) (n p b i) ∙ (stays clean ∙ ((at k ph e).bits p b t).0 l' (ap given z) lg)

    lane_law : k < L → (ph : Phase) → (sights k).phase ≡ ph → Says
    lane_law ink Idle e = settled_lane (never k Idle e (λ n. refl)) (restored Idle e refl (λ u l' d. dry k p b l' u ((at k Idle e).soiled p b d).0) (says k (omega arith) Idle e))
    lane_law ink Open e = settled_lane (never k Open e (λ n. refl)) (restored Open e refl (λ u l' d. dry k p b l' u ((at k Open e).soiled p b d).0) (says k (omega arith) Open e))
    lane_law ink (Drawn n) e = settled_lane (never k (Drawn n) e (λ n. refl)) (restored (Drawn n) e refl (λ u l' d. both_ways false refl ((at k (Drawn n) e).soiled p b d).0) (says k (omega arith) (Drawn n) e))
    lane_law ink (Sealing n) e = ⊎_elim (λ z. kept_call ink n (Sealing n) e (and_from (eqb n n) (stands k) (eq-eqb n n refl) z.1) refl refl (λ d. both_ways false refl ((at k (Sealing n) e).soiled p b d).0) refl z.0)
        (λ z. settled_lane (never k (Sealing n) e (λ m. ap (λ s. eqb n m && s) z.1 ∙ and_false (eqb n m))) (restored (Sealing n) e refl (λ u l' d. both_ways false refl ((at k (Sealing n) e).soiled p b d).0) z.0)) (says k (omega arith) (Sealing n) e)
    lane_law ink (Applying r) e = settled_lane (never k (Applying r) e (λ n. refl)) (redone (Applying r) e refl (λ d. ((at k (Applying r) e).soiled p b d).0) (says k (omega arith) (Applying r) e))
    lane_law ink Clearing e = let clean : (sights k).soiled p b ≡ true → ⊥ = λ d. both_ways false refl ((at k Clearing e).soiled p b d).0 in settled_lane (never k Clearing e (λ n. refl))
        (⊎_elim (λ z. redone Clearing e refl (λ d. absurd (clean d)) z) (λ z. silent Clearing e refl clean z (and_false ((sights k).logged p))) (says k (omega arith) Clearing e))
    lane_law ink (Retiring n) e = ⊎_elim (λ z. kept_call ink n (Retiring n) e (and_from (eqb n n) (stands k) (eq-eqb n n refl) z.1) refl refl (λ d. both_ways false refl ((at k (Retiring n) e).soiled p b d).0) refl z.0)
        (λ z. settled_lane (never k (Retiring n) e (λ m. ap (λ s. eqb n m && s) z.1 ∙ and_false (eqb n m))) (restored (Retiring n) e refl (λ u l' d. both_ways false refl ((at k (Retiring n) e).soiled p b d).0) z.0)) (says k (omega arith) (Retiring n) e)
    lane_law ink Voiding e = let clean : (sights k).soiled p b ≡ true → ⊥ = λ d. both_ways false refl ((at k Voiding e).soiled p b d).0 in settled_lane (never k Voiding e (λ n. refl))
        (⊎_elim (λ z. ⊎_elim (λ (w : (sights k).logged p ≡ true) _. ap (λ v. over v (im p b)) (z.0 p b i) ∙ (stays clean ∙ z.1 p b i w)) (λ (w : (sights k).logged p ≡ false). silent Voiding e refl clean z.0 (and_none ((sights k).logged p) true w)) (cases_Bool ((sights k).logged p)))
        (λ z. restored Voiding e refl (λ u l' d. clean d) z) (says k (omega arith) Voiding e))

  -- THE LAW
  pub means_kept : (p : Place) (b : ℕ) → InPool sh p b → live K g.geo g.runs p ≡ true → rec p b ≡ K p b
  means_kept p b i l = ⊎_elim (λ (z : (j : ℕ) × (owns g.geo (settled o g) (hold_at j) p b ≡ true)). let k = z.0 in ⊎_elim
      (λ (ink : k < L). y.joins p b k (omega arith) i (λ j ne. unspoken j p b i (apart k j (λ q. ne (sym q)) p b z.1, away k j (λ q. ne (sym q)) p b z.1)) ∙ lane_law k p b i z.1 l ink (sights k).phase refl)
      (λ (out : L ≤ k). absurd (both_ways (owns g.geo (settled o g) (hold_at k) p b) (beyond_owns k out p b) z.1)) (cases_lt k L))
      (λ none_. nobody_law p b i none_ l) (owner p b)
