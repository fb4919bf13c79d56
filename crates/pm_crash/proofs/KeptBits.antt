-- THE BITS OF KEPT CALLS at one moment of a world: beside the settled ones, those that calls in
-- flight make of what their lanes own. The geometry of the world fits them too.
use Rattle.std.proofs.Common.{◌≡◌, ◌≢◌, ◌⊎◌, inl, inr, ⊎_elim, ℕ, ◌<◌, ◌≤◌, ◌==◌, Bool, true, false, cond, Option, None, Some, refl, sym, ap, ◌∙◌, subst, arith}
use Rattle.std.proofs.lemmas.Bool.{both_ways, cases_Bool, cases_eq, cases_lt, cond-false, cond-true, eqb-true, false_from_ne_true}
use Rattle.pm_view.specs.Entries.{latest, turn, first_of_two}
use Rattle.pm_view.specs.Log.{Phase, Idle, Open, Drawn, Sealing, Applying, Clearing, Retiring, Voiding}
use Rattle.pm_view.specs.Places.{Place, InRun, InHuge, Descr, RootWord, Block, Small, Big, Root, in_span}
use Rattle.pm_world.specs.States.{State, Diff, diff, given, over, spans, there}
use Rattle.pm_world.specs.Sights.{Sight, sight_of}
use Rattle.pm_world.specs.Lanes.{DescrFits, FlightFits, Flies, Ghost, SightFits, TurnFits, TurnFlight, flies_at, own, owns, valid}
use Rattle.pm_world.specs.Memory.{Memory, cells_of}
use Rattle.pm_world.specs.World.{Opening, Views, Past, World, ghost_of, origin, settled_words}
use Rattle.pm_world.proofs.Frame.{disjoint, mine_own, own_has}
use Rattle.pm_world.proofs.Finds.{some_lane}
use Rattle.pm_world.proofs.Replays.{over_none, replay_last, replay_same}
use Rattle.pm_crash.specs.Footprints.{KeepsDecided, kept_bits}

at_flight : (ph : Phase) (n : ℕ) (d : Diff) (P : ℕ → Diff → Type 0)
    → flies_at ph n → FlightFits P ph d → P n d
at_flight Idle n d P e f = absurd e
at_flight Open n d P e f = absurd e
at_flight (Drawn m) n d P e f = subst (λ z. P z d) e f
at_flight (Sealing m) n d P e f = subst (λ z. P z d) e f
at_flight (Applying t) n d P e f = absurd e
at_flight Clearing n d P e f = absurd e
at_flight (Retiring m) n d P e f = subst (λ z. P z d) e f
at_flight Voiding n d P e f = absurd e

-- the call that a lane has in flight is kept
abbrev pub is_flight_kept : (ℕ → Bool) → Phase → Bool
is_flight_kept keep Idle = false
is_flight_kept keep Open = false
is_flight_kept keep (Drawn n) = keep n
is_flight_kept keep (Sealing n) = keep n
is_flight_kept keep (Applying todo) = false
is_flight_kept keep Clearing = false
is_flight_kept keep (Retiring n) = keep n
is_flight_kept keep Voiding = false

-- what a call in flight does to a block rests on what its lane holds
turn_in_flight : (keep : ℕ → Bool) (ph : Phase) → is_flight_kept keep ph ≡ true
    → (l m h : Bool) (a : Option Bool) → TurnFits ph l m h a → TurnFlight l m h a
turn_in_flight keep Idle e l m h a f = absurd (both_ways false refl e)
turn_in_flight keep Open e l m h a f = absurd (both_ways false refl e)
turn_in_flight keep (Drawn n) e l m h a f = f
turn_in_flight keep (Sealing n) e l m h a f = f
turn_in_flight keep (Applying todo) e l m h a f = absurd (both_ways false refl e)
turn_in_flight keep Clearing e l m h a f = absurd (both_ways false refl e)
turn_in_flight keep (Retiring n) e l m h a f = subst (TurnFlight l m h) (sym f) tt
turn_in_flight keep Voiding e l m h a f = absurd (both_ways false refl e)

pub option_cases : (a : Option Bool) → (a ≡ None) ⊎ ((a ≡ Some true) ⊎ (a ≡ Some false))
option_cases None = inl refl
option_cases (Some true) = inr (inl refl)
option_cases (Some false) = inr (inr refl)

some_value : (a : Option Bool) → (given a ≡ false) ⊎ ((y : Bool) × (a ≡ Some y))
some_value None = inl refl
some_value (Some y) = inr (y, refl)

module _ (o : Opening) (mem : Memory) (views : Views) (g : Past) (x : World o mem views g)
    (keep : ℕ → Bool) (d : KeepsDecided g keep) where
  abbrev pub S : State
  S = settled_words o g

  abbrev pub K : State
  K = kept_bits o g keep g.length

  abbrev G : Ghost
  G = ghost_of g

  abbrev sight : ℕ → Sight
  sight j = sight_of (views j)

  pub fit : (j : ℕ) → SightFits o.shape (cells_of o.shape mem) (settled_words o g)
      (Flies (ghost_of g) j) (ghost_of g) j (sight_of (views j))
  fit j = x.bits.each_lane j

  abbrev owned : ℕ → Place → ℕ → Bool
  owned j p b = owns g.geo (settled_words o g) (sight_of (views j)).hold p b

  -- ---- ONE BIT

  -- a call that is not decided makes nothing of a bit that its lane does not own
  undecided_apart : (m : ℕ) → m < g.length → g.decided m ≡ false → (p : Place) (b : ℕ)
      → owned (G.who m) p b ≡ false → given (diff (G.log m) p b) ≡ false
  undecided_apart m l u p b t =
      let j = G.who m in
      let d = diff (sight j).call in
      let f = at_flight (sight j).phase m d (Flies G j) (x.bits.flying m l u) (fit j).call.flight in
      ap given (f.1 p b) ∙ false_from_ne_true (given (d p b))
      (λ e. both_ways (owned j p b) t ((fit j).reach p b e))

  -- where each undecided call is left out, or makes nothing of it
  same_if : (p : Place) (b : ℕ)
      → ((m : ℕ) → m < g.length → g.decided m ≡ false
      → (keep m ≡ false) ⊎ (given (diff (G.log m) p b) ≡ false))
      → K p b ≡ S p b
  same_if p b h = replay_same g.decided keep (origin o) G.log G.log p b g.length (λ m l. (
    refl,
    ⊎_elim (λ (y : g.decided m ≡ true). inl (d m l y ∙ sym y))
        (λ (y : g.decided m ≡ false). ⊎_elim (λ (z : keep m ≡ false). inl (z ∙ sym y))
        (λ (z : given (diff (G.log m) p b) ≡ false). inr z) (h m l y)) (cases_Bool (g.decided m)),
  ))

  -- NO LANE OWNS IT: it is settled
  pub unowned_same : (p : Place) (b : ℕ) → ((j : ℕ) → owned j p b ≡ false) → K p b ≡ S p b
  unowned_same p b t = same_if p b (λ m l u. inr (undecided_apart m l u p b (t (G.who m))))

  -- NO OTHER LANE OWNS IT: it is as lane j's call in flight makes it, where that is kept
  module _ (j : ℕ) (p : Place) (b : ℕ) (alone : (i : ℕ) → i ≢ j → owned i p b ≡ false) where
    abbrev Is : Phase → Type 0
    Is ph = K p b
        ≡ cond (is_flight_kept keep ph) (over (diff (sight j).call p b) (S p b)) (S p b)

    -- where an undecided call of lane j is the one in flight
    others : (P : ℕ → Type 0)
        → ((m : ℕ) → m < g.length → g.decided m ≡ false → flies_at (sight j).phase m → P m)
        → ((m : ℕ) → given (diff (G.log m) p b) ≡ false → P m)
        → (m : ℕ) → m < g.length → g.decided m ≡ false → P m
    others P here else_ m l u = ⊎_elim
        (λ (e : G.who m ≡ j). here m l u (subst (λ i. flies_at (sight i).phase m) e (x.bits.flying m l u)))
        (λ (ne : G.who m ≢ j). else_ m (undecided_apart m l u p b (alone (G.who m) ne)))
        (cases_eq (G.who m) j)

    abbrev Left : ℕ → Type 0
    Left m = (keep m ≡ false) ⊎ (given (diff (G.log m) p b) ≡ false)

    grounded : ((m : ℕ) → flies_at (sight j).phase m → ⊥) → K p b ≡ S p b
    grounded none = same_if p b (others Left (λ m l u f. absurd (none m f)) (λ m e. inr e))

    flown : (n : ℕ) → ((m : ℕ) → flies_at (sight j).phase m → n ≡ m)
        → Flies G j n (diff (sight j).call)
        → K p b ≡ cond (keep n) (over (diff (sight j).call p b) (S p b)) (S p b)
    flown n only f = let c = diff (sight j).call in
        ⊎_elim
        (λ (k : keep n ≡ true). ⊎_elim
        (λ (e : given (c p b) ≡ false).
        same_if p b (others Left
        (λ m l u q. inr (subst (λ i. given (diff (G.log i) p b) ≡ false) (only m q) (ap given (f.1 p b) ∙ e)))
        (λ m e. inr e))
        ∙ (sym (over_none (c p b) (S p b) e) ∙ sym (cond-true (keep n) (over (c p b) (S p b)) (S p b) k)))
        (λ (e : (y : Bool) × (c p b ≡ Some y)).
        replay_last keep (origin o) G.log p b g.length n e.0 f.0 k (f.1 p b ∙ e.1)
        (λ m a l. f.4 m a l p b (ap given e.1))
        ∙ (sym (ap (λ z. over z (S p b)) e.1) ∙ sym (cond-true (keep n) (over (c p b) (S p b)) (S p b) k)))
        (some_value (c p b)))
        (λ (k : keep n ≡ false).
        same_if p b (others Left
        (λ m l u q. inl (subst (λ i. keep i ≡ false) (only m q) k)) (λ m e. inr e))
        ∙ sym (cond-false (keep n) (over (c p b) (S p b)) (S p b) k))
        (cases_Bool (keep n))

    by_phase : (ph : Phase) → (sight j).phase ≡ ph → Is ph
    by_phase Idle e = grounded (λ m f. subst (λ z. flies_at z m) e f)
    by_phase Open e = grounded (λ m f. subst (λ z. flies_at z m) e f)
    by_phase (Drawn n) e = flown n (λ m f. subst (λ z. flies_at z m) e f)
        (subst (λ z. FlightFits (Flies G j) z (diff (sight j).call)) e (fit j).call.flight)
    by_phase (Sealing n) e = flown n (λ m f. subst (λ z. flies_at z m) e f)
        (subst (λ z. FlightFits (Flies G j) z (diff (sight j).call)) e (fit j).call.flight)
    by_phase (Applying t) e = grounded (λ m f. subst (λ z. flies_at z m) e f)
    by_phase Clearing e = grounded (λ m f. subst (λ z. flies_at z m) e f)
    by_phase (Retiring n) e = flown n (λ m f. subst (λ z. flies_at z m) e f)
        (subst (λ z. FlightFits (Flies G j) z (diff (sight j).call)) e (fit j).call.flight)
    by_phase Voiding e = grounded (λ m f. subst (λ z. flies_at z m) e f)

    pub kept_over : Is (sight j).phase
    kept_over = by_phase (sight j).phase refl

  -- ---- ONE BLOCK

  -- some lane owns the block, and no other does; or none does
  pub owner_of : (B : Block) → ((j : ℕ) × (own (sight j).hold B ≡ true)
      × ((i : ℕ) → i ≢ j → own (sight i).hold B ≡ false))
      ⊎ ((j : ℕ) → own (sight j).hold B ≡ false)
  owner_of B = ⊎_elim
      (λ (y : (j : ℕ) × (own (sight j).hold B ≡ true)). inl (
        y.0,
        y.1,
        λ i ne. disjoint o.shape (cells_of o.shape mem) S (Flies G y.0) (Flies G i) G x.bits.geo x.bits.alone
            y.0 i (sight y.0) (sight i) (fit y.0) (fit i) (λ e. ne (sym e)) B y.1,
      ))
      (λ (y : (j : ℕ) → j < o.lanes → own (sight j).hold B ≡ false). inr (λ j. ⊎_elim
      (λ (l : j < o.lanes). y j l) (λ (l : o.lanes ≤ j). (x.bits.beyond j l B).0) (cases_lt j o.lanes)))
      (some_lane (λ j. own (sight j).hold B) o.lanes)

  -- the descriptor of a huge block is settled; a kept call makes the block, which is its lane's own; or
  -- frees it
  pub record IsMade (f : ℕ) : Type 0 where
    pub lane : ℕ
    pub mine : (sight_of (views lane)).hold.mine (Big f) ≡ true
    pub there : there (kept_bits o g keep g.length) (Big f) ≡ true
    pub spans : (c : ℕ) → spans (kept_bits o g keep g.length (Descr f)) f c
        ≡ in_span f ((sight_of (views lane)).hold.span f) c

  abbrev pub IsSettled : ℕ → Type 0
  IsSettled f = (b : ℕ) → K (Descr f) b ≡ S (Descr f) b

  abbrev pub IsFreed : ℕ → Type 0
  IsFreed f = (b : ℕ) → b < 64 → K (Descr f) b ≡ false

  module _ (f j : ℕ) (is : is_flight_kept keep (sight j).phase ≡ true)
      (over_here : (b : ℕ) → K (Descr f) b ≡ over (diff (sight j).call (Descr f) b) (S (Descr f) b)) where
    abbrev act : Option Bool
    act = turn (latest (sight j).call.entries) (Big f)

    turns : TurnFlight ((sight j).hold.locked (Rattle.pm_view.specs.Places.header o.shape g.geo (Big f)))
        ((sight j).hold.mine (Big f)) ((sight j).hold.here (Big f)) act
    turns = turn_in_flight keep (sight j).phase is
        ((sight j).hold.locked (Rattle.pm_view.specs.Places.header o.shape g.geo (Big f)))
        ((sight j).hold.mine (Big f)) ((sight j).hold.here (Big f)) act ((fit j).turns (Big f))

    abbrev Describes : Option Bool → Type 0
    Describes a = DescrFits a f ((sight j).hold.span f) (λ b. diff (sight j).call (Descr f) b)

    by_turn : IsSettled f ⊎ (IsMade f ⊎ IsFreed f)
    by_turn = ⊎_elim
        (λ (e : act ≡ None). inl (λ b. over_here b ∙ over_none (diff (sight j).call (Descr f) b) (S (Descr f) b)
        (subst Describes e ((fit j).call.descr f) b)))
        (⊎_elim
        (λ (e : act ≡ Some true). let c = diff (sight j).call in
        let mine = (subst (TurnFlight ((sight j).hold.locked (Rattle.pm_view.specs.Places.header o.shape g.geo (Big f)))
        ((sight j).hold.mine (Big f)) ((sight j).hold.here (Big f))) e turns).0 in
        let gone = ((fit j).hold.mine (Big f) mine).2 in
        let now : (b : ℕ) → K (Descr f) b ≡ over (c (Descr f) b) false = λ b. over_here b
        ∙ ap (over (c (Descr f) b)) (x.bits.geo.zeros f gone b) in
        inr (inl (record {
          lane = j;
          mine = mine;
          there = now 1 ∙ ap (λ z. over (first_of_two z ((sight j).call.fresh (Descr f) 1)) false) e;
          spans = λ k. ap (λ w. spans w f k) (λ i b. now b i)
              ∙ subst Describes e ((fit j).call.descr f) k;
        })))
        (λ (e : act ≡ Some false). inr (inr (λ b small. over_here b
        ∙ ap (λ z. over z (S (Descr f) b)) (subst Describes e ((fit j).call.descr f) b small)))))
        (option_cases act)

  pub descriptor_cases : (f : ℕ) → IsSettled f ⊎ (IsMade f ⊎ IsFreed f)
  descriptor_cases f = ⊎_elim
      (λ (y : (j : ℕ) × (own (sight j).hold (Big (g.geo.first f)) ≡ true)
      × ((i : ℕ) → i ≢ j → own (sight i).hold (Big (g.geo.first f)) ≡ false)).
      let ph = (sight y.0).phase in
      ⊎_elim
      (λ (is : is_flight_kept keep ph ≡ true). by_turn f y.0 is (λ b. kept_over y.0 (Descr f) b (λ i ne. y.2 i ne)
      ∙ cond-true (is_flight_kept keep ph) (over (diff (sight y.0).call (Descr f) b) (S (Descr f) b)) (S (Descr f) b) is))
      (λ (is : is_flight_kept keep ph ≡ false). inl (λ b. kept_over y.0 (Descr f) b (λ i ne. y.2 i ne)
      ∙ cond-false (is_flight_kept keep ph) (over (diff (sight y.0).call (Descr f) b) (S (Descr f) b)) (S (Descr f) b) is))
      (cases_Bool (is_flight_kept keep ph)))
      (λ (y : (j : ℕ) → own (sight j).hold (Big (g.geo.first f)) ≡ false).
      inl (λ b. unowned_same (Descr f) b (λ j. y j)))
      (owner_of (Big (g.geo.first f)))

  -- ---- THE GEOMETRY FITS

  pub shape : (f : ℕ) → there K (Big f) ≡ true → (c : ℕ)
      → (g.geo.first c == f) ≡ spans (K (Descr f)) f c
  shape f t c = ⊎_elim
      (λ (e : IsSettled f). x.bits.geo.shape f (sym (e 1) ∙ t) c ∙ ap (λ w. spans w f c) (λ i b. sym (e b) i))
      (⊎_elim
      (λ (e : IsMade f). let h = (sight e.lane).hold in
      (fit e.lane).hold.span f (own_has h (Big f) (mine_own h (Big f) e.mine)) c ∙ sym (e.spans c))
      (λ (e : IsFreed f). absurd (both_ways (K (Descr f) 1) (e 1 (omega arith)) t)))
      (descriptor_cases f)

  pub head : (f : ℕ) → there K (Big f) ≡ true → g.geo.first f ≡ f
  head f t = ⊎_elim
      (λ (e : IsSettled f). x.bits.geo.head f (sym (e 1) ∙ t))
      (⊎_elim
      (λ (e : IsMade f). eqb-true (g.geo.first f) f ((fit e.lane).hold.mine (Big f) e.mine).1)
      (λ (e : IsFreed f). absurd (both_ways (K (Descr f) 1) (e 1 (omega arith)) t)))
      (descriptor_cases f)

  pub huge : (c : ℕ) → there K (Big (g.geo.first c)) ≡ true → g.runs c ≡ false
  huge c t = let f = g.geo.first c in ⊎_elim
      (λ (e : IsSettled f). x.bits.geo.huge c (sym (e 1) ∙ t))
      (⊎_elim
      (λ (e : IsMade f). (fit e.lane).hold.free c e.mine)
      (λ (e : IsFreed f). absurd (both_ways (K (Descr f) 1) (e 1 (omega arith)) t)))
      (descriptor_cases f)

  pub zeros : (c : ℕ) → there K (Big c) ≡ false → (b : ℕ) → b < 64 → K (Descr c) b ≡ false
  zeros c t b small = ⊎_elim
      (λ (e : IsSettled c). e b ∙ x.bits.geo.zeros c (sym (e 1) ∙ t) b)
      (⊎_elim
      (λ (e : IsMade c). absurd (both_ways (there K (Big c)) t e.there))
      (λ (e : IsFreed c). e b small))
      (descriptor_cases c)

  pub within : (c i : ℕ) → there K (Small c i) ≡ true → valid G (Small c i) ≡ true
  within c i t = ⊎_elim
      (λ (y : (j : ℕ) × (own (sight j).hold (Small c i) ≡ true)
      × ((k : ℕ) → k ≢ j → own (sight k).hold (Small c i) ≡ false)).
      let ph = (sight y.0).phase in let e = diff (sight y.0).call (InRun c 0) i in
      let now = kept_over y.0 (InRun c 0) i (λ k ne. y.2 k ne) in
      ⊎_elim
      (λ (is : is_flight_kept keep ph ≡ true). made c i t y.0 is
      (now ∙ cond-true (is_flight_kept keep ph) (over e (S (InRun c 0) i)) (S (InRun c 0) i) is))
      (λ (is : is_flight_kept keep ph ≡ false). x.bits.geo.within c i
      (sym (now ∙ cond-false (is_flight_kept keep ph) (over e (S (InRun c 0) i)) (S (InRun c 0) i) is) ∙ t))
      (cases_Bool (is_flight_kept keep ph)))
      (λ (y : (j : ℕ) → own (sight j).hold (Small c i) ≡ false).
      x.bits.geo.within c i (sym (unowned_same (InRun c 0) i (λ j. y j)) ∙ t))
      (owner_of (Small c i))
    where
      made : (c i : ℕ) → there K (Small c i) ≡ true → (j : ℕ)
          → is_flight_kept keep (sight j).phase ≡ true
          → K (InRun c 0) i ≡ over (diff (sight j).call (InRun c 0) i) (S (InRun c 0) i)
          → valid G (Small c i) ≡ true
      made c i t j is now =
          let a = latest (sight j).call.entries (InRun c 0) i in
          let line = Rattle.pm_view.specs.Places.header o.shape g.geo (Small c i) in
          let turns = turn_in_flight keep (sight j).phase is ((sight j).hold.locked line)
          ((sight j).hold.mine (Small c i)) ((sight j).hold.here (Small c i)) a ((fit j).turns (Small c i)) in
          ⊎_elim
          (λ (e : a ≡ None). x.bits.geo.within c i
          (sym (now ∙ ap (λ z. over (first_of_two z None) (S (InRun c 0) i)) e) ∙ t))
          (⊎_elim
          (λ (e : a ≡ Some true). ((fit j).hold.mine (Small c i)
          (subst (TurnFlight ((sight j).hold.locked line) ((sight j).hold.mine (Small c i)) ((sight j).hold.here (Small c i))) e turns).0).1)
          (λ (e : a ≡ Some false). absurd (both_ways (K (InRun c 0) i)
          (now ∙ ap (λ z. over (first_of_two z None) (S (InRun c 0) i)) e) t)))
          (option_cases a)
