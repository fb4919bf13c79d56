-- EACH OBJECT FITS ITS BLOCK after every lawful step.
use Rattle.std.proofs.Common.{◌≡◌, ◌≢◌, ℕ, ◌+◌, ◌-◌, ◌*◌, ◌/◌, ◌%◌, ◌^◌, ◌<◌, ◌≤◌, ◌⊎◌, inl, inr, ⊎_elim, nat_le, nat_lt, Bool, true, false, cond, ◌==◌, ◌&&◌, eqb, List, [], ◌∷◌, refl, sym, ap, ◌∙◌, subst, arith, eq-eqb, ne_eqb, Option, None, Some}
use Rattle.std.proofs.lemmas.Bool.{cases_eq, eqb-true, both_ways, and_parts, and_from, cond-true, le-leb, lt-ltb, ltb-true, false_from_ne_true}
use Rattle.std.proofs.Math.Nat.{mul-mod_right}
use Rattle.pm_layout.specs.Chunks.{word_of_chunk}
use Rattle.pm_layout.specs.Sizes.{blocks_of}
use Rattle.pm_view.specs.declared.occ.Occ.TheVariants.{Run, Zone}
use Rattle.pm_view.specs.Changes.{Undrained, drained}
use Rattle.pm_view.specs.Claims.{class, geometry, span}
use Rattle.pm_view.specs.Entries.{first_of_two, latest, redos, turn}
use Rattle.pm_view.specs.Log.{Phase, Idle, Open, Drawn, Sealing, Applying, Clearing, Retiring, Voiding, is_early}
use Rattle.pm_view.specs.Parts.{Part, GenerationPart, SealPart, EntryPart, SlotPart, RootPart, DescriptorPart, ChunkPart, OtherPart}
use Rattle.pm_view.specs.Places.{Place, InRun, Descr, Block, Small, Big, Root, Geometry, block_of, header, in_span, is_data, part, word_of}
use Rattle.pm_view.specs.Steps.Step.{Load, Store, Or, And, Flush, Drain, TakeWrite, TakeRead, Raise, Give, ZoneTry, ZoneGive, Occupied, Occupy, Vacate, Draw, NumberSeen, StopSeen, SetStop, Tell}
use Rattle.pm_view.specs.Steps.{Step}
use Rattle.pm_view.specs.View.{View}
use Rattle.pm_view.specs.Views.{after, part_in, value_in}
use Rattle.pm_world.specs.Course.{past_after, past_decided, past_drained, past_drawn, past_made, past_stored}
use Rattle.pm_world.specs.Lanes.{settled, has, valid, is_size, TurnBefore, TurnFlight, TurnFits, FlightFits, SightFits, Flies, flies_at}
use Rattle.pm_world.specs.Lawful.{IsLawful, MayDraw, StoreFits}
use Rattle.pm_world.specs.Laws.{Turn}
use Rattle.pm_world.specs.Memory.{Memory, bit, cells_of}
use Rattle.pm_world.specs.Moves.{Moves}
use Rattle.pm_world.specs.Runs.{IsRun, Leads, Moment}
use Rattle.pm_world.specs.Sights.{call_in, is_pictured, sight_of}
use Rattle.pm_world.specs.Sizes.{size_place, stored_size, HasRoomFor, AreFitting, ObjectsFit, KeepsSizes, RunsKeepSizes}
use Rattle.pm_world.specs.States.{State, Diff, diff, given, over, after_diff, there, val, size_at, put1}
use Rattle.pm_world.specs.World.{Opening, Views, Past, World, origin, ghost_of, settled_words}
use Rattle.pm_world.proofs.Basics.{first_none, given_cases, none_of, val_alike}
use Rattle.pm_world.proofs.Births.{first_known, stored_at}
use Rattle.pm_world.proofs.BlockLines.{run_fits}
use Rattle.pm_world.proofs.EveryStep.{every_step}
use Rattle.pm_world.proofs.Frame.{mine_own, own_has}
use Rattle.pm_world.proofs.Geometry.{size_part}
use Rattle.pm_world.proofs.Replays.{over_none, put1_here, put1_else, replay_last, replay_same}
use Rattle.pm_world.proofs.RunsKept.{next_world}
use Rattle.pm_world.proofs.StepDraw.{drawn_settled}
use Rattle.pm_world.proofs.Values.{val_word}

-- ---- A CALL IN FLIGHT allocates blocks of its lane's own
some_true : (a : Option Bool) → a ≡ None → a ≡ Some true → ⊥
some_true a n e = both_ways (given a) (ap given n) (ap given e)

turn_alike : (d c : Diff) → ((p : Place) (b : ℕ) → d p b ≡ c p b) → (B : Block) → turn d B ≡ turn c B
turn_alike d c e (Small f i) = e (InRun f 0) i
turn_alike d c e (Big f) = e (Descr f) 1
turn_alike d c e Root = refl

-- entries alone allocate
pub plain_turn : (v : View) (B : Block) → turn (diff (call_in v)) B ≡ turn (latest (redos v.log.entries)) B
plain_turn v (Small c i) = first_none (latest (redos v.log.entries) (InRun c 0) i)
plain_turn v (Big f) = first_none (latest (redos v.log.entries) (Descr f) 1)
plain_turn v Root = refl

before_mine : (l m h : Bool) (a : Option Bool) → TurnBefore l m h a → a ≡ Some true → m ≡ true
before_mine l m h None f e = absurd (some_true None refl e)
before_mine l m h (Some true) f e = f
before_mine l m h (Some false) f e = absurd (both_ways false refl (ap (λ a. over a false) e))

flight_mine : (l m h : Bool) (a : Option Bool) → TurnFlight l m h a → a ≡ Some true → m ≡ true
flight_mine l m h None f e = absurd (some_true None refl e)
flight_mine l m h (Some true) f e = f.0
flight_mine l m h (Some false) f e = absurd (both_ways false refl (ap (λ a. over a false) e))

flight : (ph : Phase) (flies : ℕ → Diff → Type 0) (d : Diff) (n : ℕ) → flies_at ph n → FlightFits flies ph d → flies n d
flight Idle flies d n at f = absurd at
flight Open flies d n at f = absurd at
flight (Drawn m) flies d n at f = subst (λ j. flies j d) at f
flight (Sealing m) flies d n at f = subst (λ j. flies j d) at f
flight (Applying todo) flies d n at f = absurd at
flight Clearing flies d n at f = absurd at
flight (Retiring m) flies d n at f = subst (λ j. flies j d) at f
flight Voiding flies d n at f = absurd at

flying_mine : (ph : Phase) (n : ℕ) (l m h : Bool) (a : Option Bool) → flies_at ph n → TurnFits ph l m h a → a ≡ Some true → m ≡ true
flying_mine Idle n l m h a at f e = absurd at
flying_mine Open n l m h a at f e = absurd at
flying_mine (Drawn j) n l m h a at f e = flight_mine l m h a f e
flying_mine (Sealing j) n l m h a at f e = flight_mine l m h a f e
flying_mine (Applying todo) n l m h a at f e = absurd at
flying_mine Clearing n l m h a at f e = absurd at
flying_mine (Retiring j) n l m h a at f e = absurd (some_true a f e)
flying_mine Voiding n l m h a at f e = absurd at

grounded : (ph : Phase) (n : ℕ) → is_early ph ≡ true → flies_at ph n → ⊥
grounded Idle n e at = at
grounded Open n e at = at
grounded (Drawn m) n e at = both_ways false refl e
grounded (Sealing m) n e at = both_ways false refl e
grounded (Applying todo) n e at = at
grounded Clearing n e at = at
grounded (Retiring m) n e at = both_ways false refl e
grounded Voiding n e at = at

-- lane k's view becomes this
pub turned_to : Views → ℕ → View → Views
turned_to views k v j = cond (eqb j k) v (views j)

pub turns_to : (views : Views) (k : ℕ) (v : View) → Turn views (turned_to views k v) k v
unfolding turned_to
turns_to views k v = record { here = cond-true (eqb k k) v (views k) (eq-eqb k k refl); else_ = λ j ne. ap (λ b. cond b v (views j)) (ne_eqb j k ne) }

abbrev pub is_root : Block → Bool
is_root (Small c i) = false
is_root (Big f) = false
is_root Root = true

pub not_root : (B : Block) → is_root B ≡ false → B ≢ Root
not_root B u e = both_ways (is_root B) u (ap is_root e)

module _ (o : Opening) (mem : Memory) (views : Views) (g : Past) (k : ℕ) (x : World o mem views g) (ink : k < o.lanes) (h : ObjectsFit o g) where
  abbrev S : State
  S = settled_words o g

  abbrev v : View
  v = views k

  fit : (j : ℕ) → SightFits o.shape (cells_of o.shape mem) (settled_words o g) (Flies (ghost_of g) j) (ghost_of g) j (sight_of (views j))
  fit j = x.bits.each_lane j

  -- ---- the word of a block's size
  pub small_run : (c i : ℕ) → valid (ghost_of g) (Small c i) ≡ true → (g.runs c ≡ true) × (i < blocks_of (g.geo.class c)) × (1 ≤ g.geo.class c)
  small_run c i t = let y = and_parts (g.runs c) (nat_lt i (blocks_of (g.geo.class c))) t in (y.0, ltb-true i (blocks_of (g.geo.class c)) y.1, (x.bits.geo.classes c y.0).0)

  pub size_is : (B : Block) → (B ≢ Root) → valid (ghost_of g) B ≡ true → is_size g.geo (size_place g.geo B) ≡ true
  size_is (Small c i) ne t = let cl = g.geo.class c in let w = 8 * (1 + cl * i) + 1 in let e : w / 8 - 1 ≡ cl * i = omega arith in
      and_from (nat_le 8 w) (((w / 8 - 1) % cl == 0) && (w % 8 == 1)) (le-leb 8 w (omega arith))
      (and_from ((w / 8 - 1) % cl == 0) (w % 8 == 1) (eq-eqb ((w / 8 - 1) % cl) 0 (ap (λ n. n % cl) e ∙ mul-mod_right cl i)) (eq-eqb (w % 8) 1 (omega arith)))
  size_is (Big f) ne t = and_from (g.geo.first f == f) true t refl
  size_is Root ne t = absurd (ne refl)

  pub size_block : (B : Block) → valid (ghost_of g) B ≡ true → (b : ℕ) → block_of g.geo (size_place g.geo B) b ≡ B
  size_block (Small c i) t b = ap (λ n. Small c n) (size_part (g.geo.class c) i b (small_run c i t).2)
  size_block (Big f) t b = ap (λ n. Big n) (eqb-true (g.geo.first f) f t)
  size_block Root t b = refl

  is_valid : (B : Block) → there (settled_words o g) B ≡ true → valid (ghost_of g) B ≡ true
  is_valid (Small c i) t = x.bits.geo.within c i t
  is_valid (Big f) t = eq-eqb (g.geo.first f) f (x.bits.geo.head f t)
  is_valid Root t = refl

  -- ---- THE GEOMETRY MOVES, before the lane's call takes its number: where it stays for allocated blocks, and for other lanes' own
  abbrev Stays : Block → Type 0
  Stays B = (there (settled_words o g) B ≡ true) ⊎ ((j : ℕ) × (j ≢ k) × ((sight_of (views j)).hold.mine B ≡ true))

  stays_valid : (B : Block) → Stays B → valid (ghost_of g) B ≡ true
  stays_valid B = ⊎_elim (λ (t : there (settled_words o g) B ≡ true). is_valid B t) (λ (y : (j : ℕ) × (j ≢ k) × ((sight_of (views j)).hold.mine B ≡ true)). ((fit y.0).hold.mine B y.2).1)

  allocates_own : (n : ℕ) → n < g.length → g.decided n ≡ false → (B : Block) → turn (diff (call_in (g.drew n))) B ≡ Some true → (sight_of (views (g.drew n).fixed.lane)).hold.mine B ≡ true
  allocates_own n l u B t = let j = (g.drew n).fixed.lane in let at = x.bits.flying n l u in
      let y = flight (sight_of (views j)).phase (Flies (ghost_of g) j) (diff (sight_of (views j)).call) n at (fit j).call.flight in
      flying_mine (sight_of (views j)).phase n ((sight_of (views j)).hold.locked (header o.shape g.geo B)) ((sight_of (views j)).hold.mine B) ((sight_of (views j)).hold.here B) (turn (latest (redos (views j).log.entries)) B) at ((fit j).turns B)
      (sym (plain_turn (views j) B) ∙ (sym (turn_alike (diff (call_in (g.drew n))) (diff (call_in (views j))) y.1 B) ∙ t))

  moved : (G : Geometry) → is_early (views k).log.phase ≡ true → ((c : ℕ) → g.runs c ≡ true → G.class c ≡ g.geo.class c) → ((f c : ℕ) → Stays (Big f) → g.geo.first c ≡ f → G.first c ≡ f)
      → AreFitting G (settled_words o g) g.drew g.length g.decided
  moved G early classes firsts = record {
    settled = λ B t. moves B (settled_words o g) (inl t) (h.settled B t);
    flying = λ n l u B t s. moves B (after_diff (diff (call_in (g.drew n))) s) (inr ((g.drew n).fixed.lane, λ e. grounded (views k).log.phase n early (subst (λ j. flies_at (sight_of (views j)).phase n) e (x.bits.flying n l u)), allocates_own n l u B t)) (h.flying n l u B t s);
  }
    where
      moves : (B : Block) (s : State) → Stays B → HasRoomFor g.geo B (stored_size g.geo s B) → HasRoomFor G B (stored_size G s B)
      moves (Small c i) s st y = subst (λ m. 64 + val (s (size_at m c i)) 0 64 ≤ 64 * m) (sym (classes c (small_run c i (stays_valid (Small c i) st)).0)) y
      moves (Big f) s st y = λ n l. firsts f (f + n) st (y n l)
      moves Root s st y = tt

  -- chunks become one claim: the world after it says so too
  claims : (zone bits : ℕ) (new : Memory) → IsLawful (views k) (Occupy (Zone zone) bits true) → Moves k (Occupy (Zone zone) bits true) mem new → ObjectsFit o (past_after g (views k) (Occupy (Zone zone) bits true))
  claims zone bits new law m = moved now.geo law.allowed.early (λ c r. refl) (λ f c st e. eqb-true (now.geo.first c) f (⊎_elim
      (λ (t : there (settled_words o g) (Big f) ≡ true). w.bits.geo.shape f t c ∙ (sym (x.bits.geo.shape f t c) ∙ eq-eqb (g.geo.first c) f e))
      (λ (y : (j : ℕ) × (j ≢ k) × ((sight_of (views j)).hold.mine (Big f) ≡ true)). let hd = (sight_of (views y.0)).hold in let hs = own_has hd (Big f) (mine_own hd (Big f) y.2) in
      subst (λ (u : View). has (sight_of u).hold (Big f) ≡ true → (c : ℕ) → (now.geo.first c == f) ≡ in_span f ((sight_of u).hold.span f) c) (turn_now.else_ y.0 y.1) ((w.bits.each_lane y.0).hold.span f) hs c
      ∙ (sym ((fit y.0).hold.span f hs c) ∙ eq-eqb (g.geo.first c) f e)) st))
    where
      now : Past
      now = past_after g (views k) (Occupy (Zone zone) bits true)

      next : Views
      next = turned_to views k (after (views k) (Occupy (Zone zone) bits true))

      turn_now : Turn views next k (after (views k) (Occupy (Zone zone) bits true))
      turn_now = turns_to views k (after (views k) (Occupy (Zone zone) bits true))

      w : World o new next (past_after g (views k) (Occupy (Zone zone) bits true))
      w = (every_step (Occupy (Zone zone) bits true) o mem new views next g k x ink law m turn_now).0

  -- a chunk gets a class, which is no run yet
  stored : (w y : ℕ) (ph : Phase) (pt : Part) → (views k).log.phase ≡ ph → StoreFits (views k) w y ph pt → ObjectsFit o (past_stored ph pt y g)
  stored w y Open (DescriptorPart c) e f = moved (record g.geo { class = put1 g.geo.class c (y / 256) }) (ap is_early e) (λ d r. put1_else g.geo.class c (y / 256) d (λ q. both_ways (g.runs d) (subst (λ a. g.runs a ≡ false) (sym q) no_run) r)) (λ i d st q. q)
    where
      no_run : g.runs c ≡ false
      no_run = let m = (fit k).hold.mine (Big c) f.own in (fit k).hold.free c (ap (λ a. (sight_of (views k)).hold.mine (Big a)) (eqb-true (g.geo.first c) c m.1) ∙ f.own)
  stored w y Open GenerationPart e f = h
  stored w y Open SealPart e f = h
  stored w y Open EntryPart e f = h
  stored w y Open SlotPart e f = h
  stored w y Open RootPart e f = h
  stored w y Open (ChunkPart c i) e f = h
  stored w y Open OtherPart e f = h
  stored w y Idle pt e f = h
  stored w y (Drawn n) pt e f = h
  stored w y (Sealing n) pt e f = h
  stored w y (Applying todo) pt e f = h
  stored w y Clearing pt e f = h
  stored w y (Retiring n) pt e f = h
  stored w y Voiding pt e f = h

  -- ---- THE CALL OF LANE k IS DECIDED, which flies as number n
  module _ (n : ℕ) (fl : Flies (ghost_of g) k n (diff (sight_of (views k)).call)) where
    abbrev call : Diff
    call = diff (sight_of (views k)).call

    abbrev S' : State
    S' = settled (origin o) (record (ghost_of g) { decided = put1 g.decided n true })

    now : (p : Place) (b : ℕ) → S' p b ≡ over (diff (sight_of (views k)).call p b) (settled_words o g p b)
    now p b = by (diff (sight_of (views k)).call p b) refl
      where
        by : (d : Option Bool) → diff (sight_of (views k)).call p b ≡ d → S' p b ≡ over d (settled_words o g p b)
        by None e = replay_same g.decided (put1 g.decided n true) (origin o) (ghost_of g).log (ghost_of g).log p b g.length
            (λ m a. (refl, ⊎_elim (λ (i : m ≡ n). inr (ap given (ap (λ z. diff ((ghost_of g).log z) p b) i ∙ (fl.1 p b ∙ e)))) (λ (ne : m ≢ n). inl (put1_else g.decided n true m ne)) (cases_eq m n)))
        by (Some y) e = replay_last (put1 g.decided n true) (origin o) (ghost_of g).log p b g.length n y fl.0 (put1_here g.decided n true) (fl.1 p b ∙ e) (λ m a c. fl.4 m a c p b (ap given e))

    there_now : (B : Block) → there S' B ≡ over (turn call B) (there (settled_words o g) B)
    there_now (Small c i) = now (InRun c 0) i
    there_now (Big f) = now (Descr f) 1
    there_now Root = refl

    -- the size of a block that it does not allocate stays
    size_kept : (B : Block) → (B ≢ Root) → there (settled_words o g) B ≡ true → turn call B ≡ None → (b : ℕ) → S' (size_place g.geo B) b ≡ settled_words o g (size_place g.geo B) b
    size_kept B ne t e b = let p = size_place g.geo B in let ok = is_valid B t in let y = (fit k).sizes p b (size_is B ne ok) in
        now p b ∙ over_none (call p b) (settled_words o g p b) (false_from_ne_true (given (call p b)) (λ q. ⊎_elim
        (λ (a : given (latest (redos (views k).log.entries) p b) ≡ true). both_ways (given (latest (redos (views k).log.entries) p b)) y.0 a)
        (λ (a : given ((sight_of (views k)).call.fresh p b) ≡ true). some_true (turn call B) e (plain_turn (views k) B ∙ (ap (turn (latest (redos (views k).log.entries))) (sym (size_block B ok b)) ∙ y.1 a)))
        (given_cases (latest (redos (views k).log.entries) p b) ((sight_of (views k)).call.fresh p b) q)))

    fits_now : (B : Block) → (B ≢ Root) → there S' B ≡ true → (a : Option Bool) → turn call B ≡ a → HasRoomFor g.geo B (stored_size g.geo S' B)
    fits_now B ne t None e = let before = sym (there_now B ∙ ap (λ a. over a (there (settled_words o g) B)) e) ∙ t in
        subst (HasRoomFor g.geo B) (sym (val_alike (S' (size_place g.geo B)) (settled_words o g (size_place g.geo B)) 0 64 (λ b _. size_kept B ne before e b))) (h.settled B before)
    fits_now B ne t (Some false) e = absurd (both_ways (there S' B) (there_now B ∙ ap (λ a. over a (there (settled_words o g) B)) e) t)
    fits_now B ne t (Some true) e = let p = size_place g.geo B in let d = diff (call_in (g.drew n)) in
        subst (HasRoomFor g.geo B) (val_alike (after_diff d (settled_words o g) p) (S' p) 0 64 (λ b _. ap (λ a. over a (settled_words o g p b)) (fl.1 p b) ∙ sym (now p b)))
        (h.flying n fl.0 fl.3 B (turn_alike d call fl.1 B ∙ e) (settled_words o g))

    decides : AreFitting g.geo S' g.drew g.length (put1 g.decided n true)
    decides = record {
      settled = each;
      flying = λ m l u. h.flying m l (sym (put1_else g.decided n true m (λ e. both_ways (put1 g.decided n true m) u (ap (put1 g.decided n true) e ∙ put1_here g.decided n true))) ∙ u);
    }
      where
        each : (B : Block) → there S' B ≡ true → HasRoomFor g.geo B (stored_size g.geo S' B)
        each (Small c i) t = fits_now (Small c i) (not_root (Small c i) refl) t (turn call (Small c i)) refl
        each (Big f) t = fits_now (Big f) (not_root (Big f) refl) t (turn call (Big f)) refl
        each Root t = tt

  drains : (ph : Phase) → (views k).log.phase ≡ ph → ObjectsFit o (past_decided ph (views k) (past_made g (views k) []))
  drains (Sealing n) e = decides n (subst (λ ph. FlightFits (Flies (ghost_of g) k) ph (diff (sight_of (views k)).call)) e (fit k).call.flight)
  drains (Retiring n) e = decides n (subst (λ ph. FlightFits (Flies (ghost_of g) k) ph (diff (sight_of (views k)).call)) e (fit k).call.flight)
  drains Idle e = h
  drains Open e = h
  drains (Drawn n) e = h
  drains (Applying todo) e = h
  drains Clearing e = h
  drains Voiding e = h

  -- ---- THE CALL TAKES ITS NUMBER: what it allocates has room
  module _ (a : MayDraw (views k)) where
    own_new : (B : Block) → turn (latest (redos (views k).log.entries)) B ≡ Some true → (sight_of (views k)).hold.mine B ≡ true
    own_new B t = before_mine ((sight_of (views k)).hold.locked (header o.shape g.geo B)) ((sight_of (views k)).hold.mine B) ((sight_of (views k)).hold.here B) (turn (latest (redos (views k).log.entries)) B)
        (subst (λ ph. TurnFits ph ((sight_of (views k)).hold.locked (header o.shape g.geo B)) ((sight_of (views k)).hold.mine B) ((sight_of (views k)).hold.here B) (turn (latest (redos (views k).log.entries)) B)) a.is_open ((fit k).turns B)) t

    -- its size is stored, whatever the words before
    stores_size : (B : Block) → (B ≢ Root) → valid (ghost_of g) B ≡ true → is_data (size_place g.geo B) ≡ true → is_pictured (size_place g.geo B) ≡ true → ((b : ℕ) → block_of (geometry (views k).fixed.shape (views k).claims) (size_place g.geo B) b ≡ B)
        → turn (latest (redos (views k).log.entries)) B ≡ Some true → (size : ℕ) → size < 2 ^ 64 → value_in (views k) (word_of (views k).fixed.shape (size_place g.geo B)) ≡ Some size → (s : State) → stored_size g.geo (after_diff (diff (call_in (views k))) s) B ≡ size
    stores_size B ne ok user pictured of t size small at s = val_alike (after_diff (diff (call_in (views k))) s (size_place g.geo B)) (bit size) 0 64 (λ b _. ap (λ d. over d (s (size_place g.geo B) b)) (given_here b)) ∙ val_word size small
      where
        given_here : (b : ℕ) → diff (call_in (views k)) (size_place g.geo B) b ≡ Some (bit size b)
        given_here b = ap (λ d. first_of_two d ((call_in (views k)).fresh (size_place g.geo B) b)) (none_of (latest (redos (views k).log.entries) (size_place g.geo B) b) ((fit k).sizes (size_place g.geo B) b (size_is B ne ok)).0)
            ∙ stored_at o.shape (cells_of o.shape mem) (settled_words o g) (Flies (ghost_of g) k) (ghost_of g) x.bits.geo k (views k) (fit k) a.new_blocks (size_place g.geo B) b user pictured (ap (turn (latest (redos (views k).log.entries))) (of b) ∙ t) size at

    new_fits : (B : Block) → turn (latest (redos (views k).log.entries)) B ≡ Some true → (s : State) → HasRoomFor g.geo B (stored_size g.geo (after_diff (diff (call_in (views k))) s) B)
    new_fits (Small c i) t s = let m = a.new_blocks (Small c i) t in let hd = (sight_of (views k)).hold in let mi = own_new (Small c i) t in let ok = ((fit k).hold.mine (Small c i) mi).1 in let run = small_run c i ok in let cl = g.geo.class c in
        let known : class (views k).claims c ≡ cl = (fit k).hold.class c i (own_has hd (Small c i) (mine_own hd (Small c i) mi)) in
        let row = run_fits cl i run.1 in let w = 8 * (1 + cl * i) + 1 in let user = le-leb 8 w (omega arith) in
        let base = word_of_chunk (views k).fixed.shape c in
        let sized : value_in (views k) (base + w) ≡ Some m.size = ap (value_in (views k)) (let e : base + w ≡ base + 8 * (1 + cl * i) + 1 = omega arith in e ∙ ap (λ q. base + 8 * (1 + q * i) + 1) (sym known)) ∙ m.sized in
        let stored = stores_size (Small c i) (not_root (Small c i) refl) ok user (and_from (nat_le 8 w) (nat_lt w 512) user (lt-ltb w 512 (let one = run.2 in omega arith)))
        (λ b. ap (λ q. Small c (part q w b)) known ∙ size_block (Small c i) ok b) t m.size m.small sized s in
        let room = m.fits in
        subst (λ q. 64 + q ≤ 64 * g.geo.class c) (sym stored) (let top : (m.size + 63) / 64 < cl = subst (λ q. (m.size + 63) / 64 < q) known room in omega arith)
    new_fits (Big f) t s = let m = a.new_blocks (Big f) t in let hd = (sight_of (views k)).hold in let mi = own_new (Big f) t in let ok = ((fit k).hold.mine (Big f) mi).1 in let hs = own_has hd (Big f) (mine_own hd (Big f) mi) in
        let head : g.geo.first f ≡ f = eqb-true (g.geo.first f) f ok in let hs' = subst (λ q. has (sight_of (views k)).hold (Big q) ≡ true) (sym head) hs in
        let stored = stores_size (Big f) (not_root (Big f) refl) ok refl refl
        (λ b. ap (λ q. Big q) (first_known o.shape (cells_of o.shape mem) (settled_words o g) (Flies (ghost_of g) k) (ghost_of g) k (views k) (fit k) f hs' ∙ head)) t m.size m.small m.sized s in
        let room = m.fits in
        λ n l. let l' : 4096 * n < 64 + m.size = subst (λ q. 4096 * n < 64 + q) stored l in let many = span (views k).fixed.shape (views k).claims f in
        eqb-true (g.geo.first (f + n)) f ((fit k).hold.span f hs (f + n) ∙ and_from (nat_le f (f + n)) (nat_lt (f + n) (f + many)) (le-leb f (f + n) (omega arith)) (lt-ltb (f + n) (f + many) (omega arith)))
    new_fits Root t s = tt

    draws : settled_words o (past_drawn g (views k)) ≡ settled_words o g → ObjectsFit o (past_drawn g (views k))
    draws same = record {
      settled = subst (λ s. (B : Block) → there s B ≡ true → HasRoomFor g.geo B (stored_size g.geo s B)) (sym same) h.settled;
      flying = λ n l u. ⊎_elim
          (λ (e : n ≡ g.length). subst (λ (w : View). (B : Block) → turn (diff (call_in w)) B ≡ Some true → (s : State) → HasRoomFor g.geo B (stored_size g.geo (after_diff (diff (call_in w)) s) B))
          (sym (ap (put1 g.drew g.length (views k)) e ∙ put1_here g.drew g.length (views k))) (λ B t. new_fits B (sym (plain_turn (views k) B) ∙ t)))
          (λ (ne : n ≢ g.length). subst (λ (w : View). (B : Block) → turn (diff (call_in w)) B ≡ Some true → (s : State) → HasRoomFor g.geo B (stored_size g.geo (after_diff (diff (call_in w)) s) B))
          (sym (put1_else g.drew g.length (views k) n ne)) (h.flying n (omega arith) (sym (put1_else g.decided g.length _ n ne) ∙ u))) (cases_eq n g.length);
    }

-- EVERY LAWFUL STEP KEEPS IT
pub keeps : (s : Step) → KeepsSizes s
keeps (Store w y) o old mem views g k x ink law m h = stored o old views g k x ink h w y (views k).log.phase (part_in (views k) w) refl law.allowed.fits
keeps Drain o old mem views g k x ink law m h = by_left (drained (views k).changes)
  where
    by_left : (left : List Undrained) → ObjectsFit o (past_drained g (views k) left)
    by_left [] = drains o old views g k x ink h (views k).log.phase refl
    by_left (u ∷ left) = h
keeps (Occupy (Zone zone) bits true) o old mem views g k x ink law m h = claims o old views g k x ink h zone bits mem law m
keeps (Occupy (Run place) bits true) o old mem views g k x ink law m h = h
keeps (Occupy at bits false) o old mem views g k x ink law m h = h
keeps (Vacate at bits) o old mem views g k x ink law m h = h
keeps (Draw n) o old mem views g k x ink law m h = draws o old views g k x ink h law.allowed
    (drawn_settled o old mem views (turned_to views k (after (views k) (Draw g.length))) g x k ink law.allowed m.0.0 (let c = m.0.1 in let e : n ≡ g.length = m.1 ∙ x.bits.counter in omega arith) (turns_to views k (after (views k) (Draw g.length))))
keeps (Load w found) o old mem views g k x ink law m h = h
keeps (Or w bits found) o old mem views g k x ink law m h = h
keeps (And w bits found) o old mem views g k x ink law m h = h
keeps (Flush line) o old mem views g k x ink law m h = h
keeps (TakeWrite line won) o old mem views g k x ink law m h = h
keeps (TakeRead line won) o old mem views g k x ink law m h = h
keeps (Raise line won) o old mem views g k x ink law m h = h
keeps (Give line) o old mem views g k x ink law m h = h
keeps (ZoneTry zone won) o old mem views g k x ink law m h = h
keeps (ZoneGive zone) o old mem views g k x ink law m h = h
keeps (Occupied at found) o old mem views g k x ink law m h = h
keeps (NumberSeen n) o old mem views g k x ink law m h = h
keeps (StopSeen set) o old mem views g k x ink law m h = h
keeps SetStop o old mem views g k x ink law m h = h
keeps (Tell operation reply) o old mem views g k x ink law m h = h

pub runs_keep_sizes : RunsKeepSizes
unfolding IsRun
runs_keep_sizes o [] old new x run h = subst (λ (m : Moment). ObjectsFit o m.past) (sym run) h
runs_keep_sizes o (t ∷ rest) old new x run h =
    let l : Leads o old t run.0 = run.1 in
    runs_keep_sizes o rest run.0 new (next_world o t old run.0 x l) run.2
    (subst (ObjectsFit o) (sym l.past) (keeps t.step o old.mem run.0.mem old.views old.past t.lane x l.runs l.lawful l.moves h))
