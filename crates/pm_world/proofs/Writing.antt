-- A DATA WORD IS STORED, over bits: under its drained record, or in a block of the lane's own.
use Rattle.std.specs.Prelude.{◌∷◌, not}
use Rattle.std.proofs.Common.{◌≡◌, ℕ, ◌⊎◌, inl, inr, ⊎_elim, Bool, true, false, cond, ◌==◌, ◌&&◌, ◌||◌, refl, sym, ap, ◌∙◌, subst, eq-eqb, Option, None, Some}
use Rattle.std.specs.Option.{option_map}
use Rattle.std.proofs.lemmas.Bool.{both_ways, and_parts, and_from, or_cases, cond-true, false_from_ne_true}
use Rattle.pm_layout.specs.declared.shape.Shape.{Shape}
use Rattle.pm_view.specs.Claims.{Knows, geometry, pictured}
use Rattle.pm_view.specs.Entries.{latest, redos, turn}
use Rattle.pm_view.specs.Log.{Phase}
use Rattle.pm_view.specs.Places.{Place, InRun, InHuge, Descr, RootWord, Block, block_of, is_data, twin, word_of}
use Rattle.pm_view.specs.View.{View}
use Rattle.pm_world.specs.States.{State, Diff, diff, given, live, cell, Cells}
use Rattle.pm_world.specs.Sights.{is_pictured, picture, is_soiled, is_made, is_recorded, hold_of, call_of, call_in, sight_of}
use Rattle.pm_world.specs.Lanes.{Ghost, owns, is_in_making, is_decided, in_flight, left, blank, BitFits, open_soils, soils, FlightFits, SightFits}
use Rattle.pm_world.specs.Memory.{bit}
use Rattle.pm_world.proofs.Basics.{given_cond, some_cond}
use Rattle.pm_world.proofs.Entering.{logged_recorded}
use Rattle.pm_world.proofs.Frame.{some_first, fresh_given}
use Rattle.pm_world.proofs.StoreArea.{undrained_by}

given_either : {A : Type 0} → (a c : Option A) → given (Rattle.pm_view.specs.Entries.first_of_two a c) ≡ true → (given a ≡ true) ⊎ (given c ≡ true)
given_either None c e = inr e
given_either (Some y) c e = inl refl

pub one_cell_twin : (p : Place) → cell (twin p) ≡ cell p
one_cell_twin (InRun c w) = refl
one_cell_twin (InHuge c w) = refl
one_cell_twin (Descr c) = refl
one_cell_twin RootWord = refl

no_blank : (p : Place) → is_data p ≡ true → (h : Rattle.pm_world.specs.Sights.Hold) → is_in_making h p ≡ false → blank h p ≡ false
no_blank (InRun c w) d h e = false_from_ne_true ((w == 0) && h.making c) (λ t. both_ways (h.making c) e (and_parts (w == 0) (h.making c) t).1)
no_blank (InHuge c w) d h e = refl
no_blank (Descr c) d h e = refl
no_blank RootWord d h e = refl

-- what is so of the word that is stored: its place is this one
pub record Writes (S : State) (g : Ghost) (v : View) (ph : Phase) (w n : ℕ) (p₀ : Place) (pool pool' : State) : Type 0 where
  pub data_ : is_data p₀ ≡ true
  pub seen : is_pictured p₀ ≡ true
  pub at : w ≡ word_of v.fixed.shape p₀
  pub here : (b : ℕ) → pool' (cell p₀) b ≡ bit n b
  pub own : (b : ℕ) → owns g.geo S (sight_of v).hold p₀ b ≡ true
  pub other_use : (b : ℕ) → owns g.geo S (sight_of v).hold (twin p₀) b ≡ false
  pub plain : is_in_making (sight_of v).hold p₀ ≡ false
  pub quiet : ((sight_of v).logged p₀ ≡ true) ⊎ ((live S g.geo g.runs p₀ ≡ false) × (is_recorded v.log.records p₀ ≡ false))
  pub soil : (b : ℕ) → open_soils p₀ ((sight_of v).hold.mine (block_of g.geo p₀ b)) ((sight_of v).logged p₀) ≡ true
  pub no_turn : (B : Block) → turn (latest (redos v.log.entries)) B ≡ None
  pub recorded : (p : Place) (b : ℕ) → is_recorded v.log.records p ≡ true → owns g.geo S (sight_of v).hold p b ≡ true
  -- every place is this one, its other use, or as it was
  pub places : (p : Place) → (p ≡ p₀) ⊎ ((p ≡ twin p₀) ⊎ ((b : ℕ) → (pool' (cell p) b ≡ pool (cell p) b) × (picture v.fixed.shape (Knows w n ∷ v.claims) p b ≡ picture v.fixed.shape v.claims p b)))
  pub dirty : (p : Place) (b : ℕ) → is_soiled v.fixed.shape (sight_of v).hold (undrained_by v w ∷ v.changes) p b ≡ true → (p ≡ p₀) ⊎ ((sight_of v).soiled p b ≡ true)
  -- no number is drawn yet
  pub early : is_decided ph ≡ false
  pub before : in_flight ph ≡ false
  pub soils_ : (p : Place) (mi lg : Bool) (en : Option Bool) → soils ph p mi lg en ≡ open_soils p mi lg

module _ (sh : Shape) (cells : Cells) (S : State) (flies : ℕ → Diff → Type 0) (g : Ghost) (k : ℕ) (v : View) (ph : Phase) (w n : ℕ) (p₀ : Place) (pool' : State) (generation seal : ℕ → ℕ) (entry slot : ℕ → ℕ → ℕ → ℕ)
    (f : SightFits sh cells S flies g k (record (sight_of v) { phase = ph })) (a : Writes S g v ph w n p₀ cells.pool pool') (flight : (d : Diff) → FlightFits flies ph d) where
  abbrev test : Place → ℕ → Bool
  test p b = is_data p && (is_made (turn (latest (redos v.log.entries)) (block_of (geometry v.fixed.shape v.claims) p b)) || is_recorded v.log.records p)

  picture_here : (b : ℕ) → picture v.fixed.shape (Knows w n ∷ v.claims) p₀ b ≡ Some (bit n b)
  picture_here b = cond-true (is_pictured p₀) (option_map (λ y. bit y b) (cond (w == word_of v.fixed.shape p₀) (Some n) (pictured v.fixed.shape v.claims (word_of v.fixed.shape p₀)))) None a.seen
      ∙ ap (option_map (λ y. bit y b)) (cond-true (w == word_of v.fixed.shape p₀) (Some n) (pictured v.fixed.shape v.claims (word_of v.fixed.shape p₀)) (eq-eqb w (word_of v.fixed.shape p₀) a.at))

  -- what is made final is recorded
  tested : (p : Place) (b : ℕ) → test p b ≡ true → is_recorded v.log.records p ≡ true
  tested p b t = let B = block_of (geometry v.fixed.shape v.claims) p b in ⊎_elim (λ (q : is_made (turn (latest (redos v.log.entries)) B) ≡ true). absurd (both_ways (is_made (turn (latest (redos v.log.entries)) B)) (ap is_made (a.no_turn B)) q)) (λ (q : is_recorded v.log.records p ≡ true). q)
      (or_cases (is_made (turn (latest (redos v.log.entries)) B)) (is_recorded v.log.records p) (and_parts (is_data p) (is_made (turn (latest (redos v.log.entries)) B) || is_recorded v.log.records p) t).1)

  -- a word that is recorded is this one, or has the picture that it had
  kept : (p : Place) (b : ℕ) → is_recorded v.log.records p ≡ true → (p ≡ p₀) ⊎ (picture v.fixed.shape (Knows w n ∷ v.claims) p b ≡ picture v.fixed.shape v.claims p b)
  kept p b r = ⊎_elim (λ (e : p ≡ p₀). inl e) (λ (q : (p ≡ twin p₀) ⊎ ((b : ℕ) → (pool' (cell p) b ≡ cells.pool (cell p) b) × (picture v.fixed.shape (Knows w n ∷ v.claims) p b ≡ picture v.fixed.shape v.claims p b))).
      ⊎_elim (λ (e : p ≡ twin p₀). absurd (both_ways (owns g.geo S (sight_of v).hold p b) (subst (λ q. owns g.geo S (sight_of v).hold q b ≡ false) (sym e) (a.other_use b)) (a.recorded p b r))) (λ (z : (b : ℕ) → (pool' (cell p) b ≡ cells.pool (cell p) b) × (picture v.fixed.shape (Knows w n ∷ v.claims) p b ≡ picture v.fixed.shape v.claims p b)). inr (z b).1) q) (a.places p)

  -- what is given now is recorded, and this word or given before
  fresh_cases : (p : Place) (b : ℕ) → given ((call_of v.fixed.shape (Knows w n ∷ v.claims) v.log).fresh p b) ≡ true → ((p ≡ p₀) × (is_recorded v.log.records p ≡ true)) ⊎ (given ((call_in v).fresh p b) ≡ true)
  fresh_cases p b t = let y = given_cond (test p b) (picture v.fixed.shape (Knows w n ∷ v.claims) p b) t in let r = tested p b y.0 in
      ⊎_elim (λ (e : p ≡ p₀). inl (e, r)) (λ (e : picture v.fixed.shape (Knows w n ∷ v.claims) p b ≡ picture v.fixed.shape v.claims p b). inr (ap given (cond-true (test p b) (picture v.fixed.shape v.claims p b) None y.0) ∙ (sym (ap given e) ∙ y.1))) (kept p b r)

  diff_cases : (p : Place) (b : ℕ) → given (diff (call_of v.fixed.shape (Knows w n ∷ v.claims) v.log) p b) ≡ true → (p ≡ p₀) ⊎ (given (diff (call_in v) p b) ≡ true)
  diff_cases p b t = ⊎_elim (λ (q : given (latest (redos v.log.entries) p b) ≡ true). inr (some_first (latest (redos v.log.entries) p b) ((call_in v).fresh p b) q))
      (λ (q : given ((call_of v.fixed.shape (Knows w n ∷ v.claims) v.log).fresh p b) ≡ true). ⊎_elim (λ (y : (p ≡ p₀) × (is_recorded v.log.records p ≡ true)). inl y.0) (λ (y : given ((call_in v).fresh p b) ≡ true). inr (fresh_given (latest (redos v.log.entries) p b) ((call_in v).fresh p b) y)) (fresh_cases p b q))
      (given_either (latest (redos v.log.entries) p b) ((call_of v.fixed.shape (Knows w n ∷ v.claims) v.log).fresh p b) t)

  abbrev BitAt : Place → ℕ → Type 0
  BitAt p b = BitFits (live S g.geo g.runs p) (blank (sight_of v).hold p) (is_decided ph) (left ph p b) ((sight_of v).logged p) (latest (redos v.log.entries) p b) (picture v.fixed.shape (Knows w n ∷ v.claims) p b) (pool' (cell p) b) (S p b)

  bit_here : (b : ℕ) → BitAt p₀ b
  bit_here b = (
    λ al lf lg. absurd (⊎_elim (λ (t : (sight_of v).logged p₀ ≡ true). both_ways ((sight_of v).logged p₀ && not (is_decided ph)) lg (and_from ((sight_of v).logged p₀) (not (is_decided ph)) t (ap not a.early))) (λ (t : (live S g.geo g.runs p₀ ≡ false) × (is_recorded v.log.records p₀ ≡ false)). both_ways (live S g.geo g.runs p₀) t.0 al) a.quiet),
    λ bl. absurd (both_ways (blank (sight_of v).hold p₀) (no_blank p₀ a.data_ (sight_of v).hold a.plain) bl),
    λ dec. absurd (both_ways (is_decided ph) a.early dec),
    λ y e. a.here b ∙ some_same (bit n b) y (sym (picture_here b) ∙ e),
  )
    where
      value : Option Bool → Bool
      value None = false
      value (Some y) = y

      some_same : (c d : Bool) → Some c ≡ Some d → c ≡ d
      some_same c d e = ap value e

  -- THE LANE'S SIGHT FITS after the store
  pub written_fits : SightFits sh (record cells { pool = pool'; generation = generation; seal = seal; entry = entry; slot = slot }) S flies g k (record (sight_of v) { phase = ph; call = call_of v.fixed.shape (Knows w n ∷ v.claims) v.log; picture = picture v.fixed.shape (Knows w n ∷ v.claims); soiled = is_soiled v.fixed.shape (sight_of v).hold (undrained_by v w ∷ v.changes) })
  written_fits = record {
    hold = f.hold;
    bits = λ p b o. ⊎_elim (λ (e : p ≡ p₀). subst (λ q. BitAt q b) (sym e) (bit_here b)) (λ (q : (p ≡ twin p₀) ⊎ ((b : ℕ) → (pool' (cell p) b ≡ cells.pool (cell p) b) × (picture v.fixed.shape (Knows w n ∷ v.claims) p b ≡ picture v.fixed.shape v.claims p b))).
        ⊎_elim (λ (e : p ≡ twin p₀). absurd (both_ways (owns g.geo S (sight_of v).hold p b) (subst (λ q. owns g.geo S (sight_of v).hold q b ≡ false) (sym e) (a.other_use b)) o))
        (λ (z : (b : ℕ) → (pool' (cell p) b ≡ cells.pool (cell p) b) × (picture v.fixed.shape (Knows w n ∷ v.claims) p b ≡ picture v.fixed.shape v.claims p b)).
        let F : Option Bool → Bool → Type 0 = λ pc m. BitFits (live S g.geo g.runs p) (blank (sight_of v).hold p) (is_decided ph) (left ph p b) ((sight_of v).logged p) (latest (redos v.log.entries) p b) pc m (S p b) in
        subst (λ pc. F pc (pool' (cell p) b)) (sym (z b).1) (subst (F (picture v.fixed.shape v.claims p b)) (sym (z b).0) (f.bits p b o))) q) (a.places p);
    picture = λ p b o y e. ⊎_elim (λ (q : p ≡ p₀). subst (λ r. picture v.fixed.shape (Knows w n ∷ v.claims) r b ≡ Some y → pool' (cell r) b ≡ y) (sym q) ((bit_here b).3 y) e) (λ (q : (p ≡ twin p₀) ⊎ ((b : ℕ) → (pool' (cell p) b ≡ cells.pool (cell p) b) × (picture v.fixed.shape (Knows w n ∷ v.claims) p b ≡ picture v.fixed.shape v.claims p b))).
        ⊎_elim (λ (r : p ≡ twin p₀). twin_told p b y r e)
        (λ (z : (b : ℕ) → (pool' (cell p) b ≡ cells.pool (cell p) b) × (picture v.fixed.shape (Knows w n ∷ v.claims) p b ≡ picture v.fixed.shape v.claims p b)). (z b).0 ∙ f.picture p b o y (sym (z b).1 ∙ e)) q) (a.places p);
    turns = f.turns;
    call = record { flight = flight (diff (call_of v.fixed.shape (Knows w n ∷ v.claims) v.log)); todo = f.call.todo; descr = f.call.descr };
    reach = λ p b t. ⊎_elim (λ (e : p ≡ p₀). subst (λ q. owns g.geo S (sight_of v).hold q b ≡ true) (sym e) (a.own b)) (λ (q : given (diff (call_in v) p b) ≡ true). f.reach p b q) (diff_cases p b t);
    plain = λ p b t. ⊎_elim (λ (e : p ≡ p₀). subst (λ q. is_in_making (sight_of v).hold q ≡ false) (sym e) a.plain) (λ (q : given (diff (call_in v) p b) ≡ true). f.plain p b q) (diff_cases p b t);
    logged = f.logged;
    stored = λ p b u t. let r = logged_recorded v.fixed.shape v.fixed.lane v.changes 0 v.log.records p t in let y = given_cond (test p b) (picture v.fixed.shape v.claims p b) (f.stored p b u t) in
        ap given (cond-true (test p b) (picture v.fixed.shape (Knows w n ∷ v.claims) p b) None y.0) ∙ ⊎_elim (λ (e : p ≡ p₀). ap (λ q. given (picture v.fixed.shape (Knows w n ∷ v.claims) q b)) e ∙ ap given (picture_here b)) (λ (e : picture v.fixed.shape (Knows w n ∷ v.claims) p b ≡ picture v.fixed.shape v.claims p b). ap given e ∙ y.1) (kept p b r);
    fresh = λ p b y q. some_cond (test p b) (picture v.fixed.shape (Knows w n ∷ v.claims) p b) y q;
    sizes = λ p b s. ((f.sizes p b s).0, λ q. ⊎_elim (λ (y : (p ≡ p₀) × (is_recorded v.log.records p ≡ true)). (f.sizes p b s).1 (given_here p b y.0 y.1)) (λ (y : given ((call_in v).fresh p b) ≡ true). (f.sizes p b s).1 y) (fresh_cases p b q));
    born = λ y. absurd (both_ways (in_flight ph) a.before y);
    guarded = λ y. absurd (both_ways (in_flight ph) a.before y);
    soiled = λ p b t. ⊎_elim (λ (e : p ≡ p₀). subst (λ q. (soils ph q ((sight_of v).hold.mine (block_of g.geo q b)) ((sight_of v).logged q) (latest (redos v.log.entries) q b) ≡ true) × (is_in_making (sight_of v).hold q ≡ false)) (sym e)
        (a.soils_ p₀ ((sight_of v).hold.mine (block_of g.geo p₀ b)) ((sight_of v).logged p₀) (latest (redos v.log.entries) p₀ b) ∙ a.soil b, a.plain)) (λ (q : (sight_of v).soiled p b ≡ true). f.soiled p b q) (a.dirty p b t);
  }
    where
      -- the word in its other use has the same bits
      twin_told : (p : Place) (b : ℕ) (y : Bool) → p ≡ twin p₀ → picture v.fixed.shape (Knows w n ∷ v.claims) p b ≡ Some y → pool' (cell p) b ≡ y
      twin_told p b y r e = ap (λ q. pool' q b) (ap cell r ∙ one_cell_twin p₀) ∙ (a.here b ∙ some_bit p r (some_cond (is_pictured p) (option_map (λ z. bit z b) (cond (w == word_of v.fixed.shape p) (Some n) (pictured v.fixed.shape v.claims (word_of v.fixed.shape p)))) y e))
        where
          value : Option Bool → Bool
          value None = false
          value (Some y) = y

          twin_word : (p : Place) → word_of v.fixed.shape (twin p) ≡ word_of v.fixed.shape p
          twin_word (InRun c w) = refl
          twin_word (InHuge c w) = refl
          twin_word (Descr c) = refl
          twin_word RootWord = refl

          some_bit : (p : Place) → p ≡ twin p₀ → option_map (λ z. bit z b) (cond (w == word_of v.fixed.shape p) (Some n) (pictured v.fixed.shape v.claims (word_of v.fixed.shape p))) ≡ Some y → bit n b ≡ y
          some_bit p r e = ap value (sym (ap (option_map (λ z. bit z b)) (cond-true (w == word_of v.fixed.shape p) (Some n) (pictured v.fixed.shape v.claims (word_of v.fixed.shape p)) (eq-eqb w (word_of v.fixed.shape p) (a.at ∙ sym (ap (word_of v.fixed.shape) r ∙ twin_word p₀))))) ∙ e)

      -- a recorded word that is stored was given before
      given_here : (p : Place) (b : ℕ) → p ≡ p₀ → is_recorded v.log.records p ≡ true → given ((call_in v).fresh p b) ≡ true
      given_here p b e r = ⊎_elim (λ (t : (sight_of v).logged p₀ ≡ true). f.stored p b a.early (ap (sight_of v).logged e ∙ t)) (λ (t : (live S g.geo g.runs p₀ ≡ false) × (is_recorded v.log.records p₀ ≡ false)). absurd (both_ways (is_recorded v.log.records p₀) t.1 (sym (ap (is_recorded v.log.records) e) ∙ r))) a.quiet
