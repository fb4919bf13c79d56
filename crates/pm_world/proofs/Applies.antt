-- AN ENTRY OF A DECIDED CALL IS APPLIED, over bits: its bits come to be the settled ones, and no other bit changes that a meaning looks at.
use Rattle.std.specs.Prelude.{List}
use Rattle.std.proofs.Common.{◌≡◌, ℕ, ◌⊎◌, inl, inr, ⊎_elim, Bool, true, false, ◌==◌, refl, sym, ap, ◌∙◌, subst, Option, None, Some}
use Rattle.std.proofs.lemmas.Bool.{both_ways, and_parts, cond-true}
use Rattle.pm_layout.specs.declared.shape.Shape.{Shape}
use Rattle.pm_view.specs.Places.{Place, InRun, InHuge, Descr, RootWord, Block, block_of, twin, same_place}
use Rattle.pm_view.specs.Entries.{Entry, Redo, given_bit, delta, latest, redos, turn, first_of_two}
use Rattle.pm_view.specs.Log.{Applying}
use Rattle.pm_world.specs.States.{State, Diff, given, live, read, Cells}
use Rattle.pm_world.specs.Sights.{Hold, Sight}
use Rattle.pm_world.specs.Lanes.{Ghost, owns, sees, is_in_making, blank, BitFits, is_size, HoldFits, SightFits, GeoFits}
use Rattle.pm_world.proofs.Basics.{and_false, given_cases, some_of, same_place_refl, twin_twin}
use Rattle.pm_world.proofs.Decides.{first_none, first_left}
use Rattle.pm_world.proofs.Frame.{is_single, some_first, twin_dead}
use Rattle.pm_world.proofs.Stored.{OwnWords}

pub twin_making : (h : Hold) (p : Place) → is_in_making h (twin p) ≡ is_in_making h p
twin_making h (InRun c w) = refl
twin_making h (InHuge c w) = refl
twin_making h (Descr c) = refl
twin_making h RootWord = refl

blank_making : (h : Hold) (p : Place) → blank h p ≡ true → is_in_making h p ≡ true
blank_making h (InRun c w) e = (and_parts (w == 0) (h.making c) e).1
blank_making h (InHuge c w) e = absurd (both_ways false refl e)
blank_making h (Descr c) e = absurd (both_ways false refl e)
blank_making h RootWord e = absurd (both_ways false refl e)

single_twin : (p : Place) → is_single p ≡ true → twin p ≡ p
single_twin (InRun c w) e = absurd (both_ways false refl e)
single_twin (InHuge c w) e = absurd (both_ways false refl e)
single_twin (Descr c) e = refl
single_twin RootWord e = refl

pub first_given : (a c : Option Bool) → given c ≡ true → (y : Bool) × (first_of_two a c ≡ Some y)
first_given None c e = some_of c e
first_given (Some y) c e = (y, refl)

-- a bit before and after an entry was applied: the entry makes nothing of it; it makes it this; or it gives it in the word's other use
abbrev pub AppliedAt : Bool → Bool → Redo → Place → ℕ → Type 0
AppliedAt old new e p b = ((new ≡ old) × (delta e p b ≡ None))
    ⊎ (((y : Bool) × (given_bit e.op e.value b ≡ Some y) × (new ≡ y) × (p ≡ e.place)) ⊎ ((given (given_bit e.op e.value b) ≡ true) × (p ≡ twin e.place) × (same_place e.place p ≡ false)))

-- what the lane's view makes of it: the picture has the new word, the entry's bits are undrained, and what was stored in blocks is the lane's
pub record Applied (S : State) (g : Ghost) (cells cells' : Cells) (x : Sight) (e : Redo) (fresh picture : Diff) (soiled : Place → ℕ → Bool) : Type 0 where
  pub at : (p : Place) (b : ℕ) → AppliedAt (read cells.pool p b) (read cells'.pool p b) e p b
  pub pictured : (p : Place) (b : ℕ) → ((picture p b ≡ x.picture p b) × (read cells'.pool p b ≡ read cells.pool p b)) ⊎ ((y : Bool) → picture p b ≡ Some y → read cells'.pool p b ≡ y)
  pub soils : (p : Place) (b : ℕ) → soiled p b ≡ true → (x.soiled p b ≡ true) ⊎ (given (delta e p b) ≡ true)
  pub descr : (c b : ℕ) → fresh (Descr c) b ≡ x.call.fresh (Descr c) b
  pub seen : (p : Place) (b : ℕ) (y : Bool) → fresh p b ≡ Some y → picture p b ≡ Some y
  pub reach : (p : Place) (b : ℕ) → given (fresh p b) ≡ true → owns g.geo S x.hold p b ≡ true
  pub plain : (p : Place) (b : ℕ) → given (fresh p b) ≡ true → is_in_making x.hold p ≡ false
  pub sizes : (p : Place) (b : ℕ) → is_size g.geo p ≡ true → given (fresh p b) ≡ true → turn (latest x.call.entries) (block_of g.geo p b) ≡ Some true

module _ (sh : Shape) (cells cells' : Cells) (S : State) (flies : ℕ → Diff → Type 0) (g : Ghost) (geo : GeoFits sh S g) (k : ℕ) (x : Sight) (e : Redo) (before after : List Entry)
    (f : SightFits sh cells S flies g k (record x { phase = Applying before })) (left_is : (p : Place) (b : ℕ) → latest (redos before) p b ≡ first_of_two (latest (redos after) p b) (delta e p b)) where
  delta_here : (b : ℕ) → delta e e.place b ≡ given_bit e.op e.value b
  delta_here b = cond-true (same_place e.place e.place) (given_bit e.op e.value b) None (same_place_refl e.place)

  -- the entry's bits are the call's, so the lane's own, and in no chunk that it makes a run
  pub delta_given : (p : Place) (b : ℕ) → given (delta e p b) ≡ true → given (latest x.call.entries p b) ≡ true
  delta_given p b z = let y = first_given (latest (redos after) p b) (delta e p b) z in ap given (f.call.todo p b y.0 (left_is p b ∙ y.1))

  pub given_here : (b : ℕ) → given (given_bit e.op e.value b) ≡ true → given (latest x.call.entries e.place b) ≡ true
  given_here b z = delta_given e.place b (ap given (delta_here b) ∙ z)

  pub own_here : (b : ℕ) → given (given_bit e.op e.value b) ≡ true → owns g.geo S x.hold e.place b ≡ true
  own_here b z = f.reach e.place b (some_first (latest x.call.entries e.place b) (x.call.fresh e.place b) (given_here b z))

  pub plain_here : (b : ℕ) → given (given_bit e.op e.value b) ≡ true → is_in_making x.hold e.place ≡ false
  plain_here b z = f.plain e.place b (some_first (latest x.call.entries e.place b) (x.call.fresh e.place b) (given_here b z))

  module _ (w : OwnWords S g x.hold cells cells') (fresh picture : Diff) (logged : Place → Bool) (soiled : Place → ℕ → Bool) (a : Applied S g cells cells' x e fresh picture soiled) where
    hold' : HoldFits sh cells'.writer cells'.reader cells'.descr S g k x.hold
    hold' = record {
      locks = λ l. w.writer l k ∙ f.hold.locks l;
      reading = λ l. w.reader l k ∙ f.hold.reading l;
      found = f.hold.found;
      here = f.hold.here;
      found_here = f.hold.found_here;
      mine = f.hold.mine;
      holds = f.hold.holds;
      class = f.hold.class;
      span = f.hold.span;
      first = f.hold.first;
      zone = f.hold.zone;
      making = λ c t. let y = f.hold.making c t in (y.0, w.descr c ∙ y.1, y.2, y.3, y.4);
      free = f.hold.free;
      seen = λ c n t. w.descr c ∙ f.hold.seen c n t;
    }

    bit' : (p : Place) (b : ℕ) → owns g.geo S x.hold p b ≡ true → BitFits (live S g.geo g.runs p) (blank x.hold p) true (latest (redos after) p b) (logged p) (latest x.call.entries p b) (picture p b) (read cells'.pool p b) (S p b)
    bit' p b o = let z = f.bits p b o in (λ al lf _. settled al lf (a.at p b), λ bl. empty bl (a.at p b), z.2, λ y q. ⊎_elim (λ (r : (picture p b ≡ x.picture p b) × (read cells'.pool p b ≡ read cells.pool p b)). r.1 ∙ z.3 y (sym r.0 ∙ q)) (λ (r : (y : Bool) → picture p b ≡ Some y → read cells'.pool p b ≡ y). r y q) (a.pictured p b))
      where
        settled : live S g.geo g.runs p ≡ true → given (latest (redos after) p b) ≡ false → AppliedAt (read cells.pool p b) (read cells'.pool p b) e p b → read cells'.pool p b ≡ S p b
        settled al lf (inl z) = z.0 ∙ (f.bits p b o).0 al (ap given (left_is p b ∙ (first_none (latest (redos after) p b) (delta e p b) lf ∙ z.1))) (and_false (x.logged p))
        settled al lf (inr (inl z)) = let here : delta e p b ≡ Some z.0 = ap (λ q. delta e q b) z.3 ∙ (delta_here b ∙ z.1) in
            z.2 ∙ sym ((f.bits p b o).2 refl z.0 (f.call.todo p b z.0 (left_is p b ∙ (first_none (latest (redos after) p b) (delta e p b) lf ∙ here))))
        settled al lf (inr (inr z)) = let other : twin p ≡ e.place = ap twin z.1 ∙ twin_twin e.place in
            let single = twin_dead sh cells S flies g geo k (record x { phase = Applying before }) f p b al (subst (λ q. owns g.geo S x.hold q b ≡ true) (sym other) (own_here b z.0)) in
            absurd (both_ways (same_place e.place p) z.2 (subst (λ q. same_place q p ≡ true) (sym (single_twin p single) ∙ other) (same_place_refl p)))

        empty : blank x.hold p ≡ true → AppliedAt (read cells.pool p b) (read cells'.pool p b) e p b → read cells'.pool p b ≡ false
        empty bl (inl z) = z.0 ∙ (f.bits p b o).1 bl
        empty bl (inr (inl z)) = absurd (both_ways (is_in_making x.hold p) (ap (is_in_making x.hold) z.3 ∙ plain_here b (ap given z.1)) (blank_making x.hold p bl))
        empty bl (inr (inr z)) = absurd (both_ways (is_in_making x.hold p) (ap (is_in_making x.hold) z.1 ∙ (twin_making x.hold e.place ∙ plain_here b z.0)) (blank_making x.hold p bl))

    -- THE LANE'S SIGHT FITS
    pub applied_fits : SightFits sh cells' S flies g k (record x { phase = Applying after; call = record { entries = x.call.entries; fresh = fresh }; picture = picture; logged = logged; soiled = soiled })
    applied_fits = record {
      hold = hold';
      bits = bit';
      picture = λ p b o y q. ⊎_elim (λ (r : (picture p b ≡ x.picture p b) × (read cells'.pool p b ≡ read cells.pool p b)). r.1 ∙ f.picture p b o y (sym r.0 ∙ q)) (λ (r : (y : Bool) → picture p b ≡ Some y → read cells'.pool p b ≡ y). r y q) (a.pictured p b);
      turns = f.turns;
      call = record { flight = tt; todo = λ p b y q. f.call.todo p b y (left_is p b ∙ first_left (latest (redos after) p b) (delta e p b) y q); descr = λ c. subst (λ (d : ℕ → Option Bool). Rattle.pm_world.specs.Lanes.DescrFits (turn (latest x.call.entries) (Rattle.pm_view.specs.Places.Big c)) c (x.hold.span c) (λ b. first_of_two (latest x.call.entries (Descr c) b) (d b))) (λ i b. sym (a.descr c b) i) (f.call.descr c) };
      reach = λ p b t. ⊎_elim (λ (q : given (latest x.call.entries p b) ≡ true). f.reach p b (some_first (latest x.call.entries p b) (x.call.fresh p b) q)) (λ (q : given (fresh p b) ≡ true). a.reach p b q) (given_cases (latest x.call.entries p b) (fresh p b) t);
      plain = λ p b t. ⊎_elim (λ (q : given (latest x.call.entries p b) ≡ true). f.plain p b (some_first (latest x.call.entries p b) (x.call.fresh p b) q)) (λ (q : given (fresh p b) ≡ true). a.plain p b q) (given_cases (latest x.call.entries p b) (fresh p b) t);
      logged = λ p b q. absurd (both_ways true q refl);
      stored = λ p b q. absurd (both_ways true q refl);
      fresh = a.seen;
      sizes = λ p b s. ((f.sizes p b s).0, a.sizes p b s);
      born = λ q. absurd (both_ways false refl q);
      guarded = λ q. absurd (both_ways false refl q);
      soiled = λ p b t. ⊎_elim (λ (q : x.soiled p b ≡ true). f.soiled p b q) (λ (q : given (delta e p b) ≡ true). let z = delta_given p b q in (z, f.plain p b (some_first (latest x.call.entries p b) (x.call.fresh p b) z))) (a.soils p b t);
    }
