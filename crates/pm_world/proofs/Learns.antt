-- A load of a word that a lane has, or found, before its number is drawn: its picture grows by what memory has.
use Rattle.std.proofs.Common.{◌≡◌, ℕ, ◌<◌, ◌⊎◌, inl, inr, ⊎_elim, Bool, true, false, ◌||◌, refl, sym, subst, Some}
use Rattle.std.proofs.lemmas.Bool.{both_ways, or_left, or_right}
use Rattle.pm_layout.specs.declared.shape.Shape.{Shape}
use Rattle.pm_view.specs.Places.{Place, Descr, Big, block_of}
use Rattle.pm_view.specs.Entries.{latest, first_of_two, turn}
use Rattle.pm_view.specs.Log.{Phase, Idle, Open, Drawn, Sealing, Applying, Clearing, Retiring, Voiding, is_early}
use Rattle.pm_world.specs.States.{State, Diff, diff, given, read, Cells}
use Rattle.pm_world.specs.Sights.{Sight}
use Rattle.pm_world.specs.Lanes.{Ghost, owns, sees, in_flight, is_in_making, settled, DescrFits, FlightFits, Flies, Bits}
use Rattle.pm_world.proofs.Basics.{given_cases}
use Rattle.pm_world.proofs.Frame.{some_first, fresh_given}
use Rattle.pm_world.proofs.Going.{Turned, own_fits, unchanged}
use Rattle.pm_world.proofs.Locks.{early_grounded}

early_flight : (flies : ℕ → Diff → Type 0) (ph : Phase) (d : Diff) → is_early ph ≡ true → FlightFits flies ph d
early_flight flies Idle d e = tt
early_flight flies Open d e = tt
early_flight flies (Drawn n) d e = absurd (both_ways false refl e)
early_flight flies (Sealing n) d e = absurd (both_ways false refl e)
early_flight flies (Applying t) d e = tt
early_flight flies Clearing d e = tt
early_flight flies (Retiring n) d e = absurd (both_ways false refl e)
early_flight flies Voiding d e = tt

module _ (sh : Shape) (L : ℕ) (o : State) (cells : Cells) (sights : ℕ → Sight) (g : Ghost) (x : Bits sh L o cells sights g) (k : ℕ) (ink : k < L) where
  -- what the step owes: the picture of what the lane owns or sees is true; the call makes more only in blocks that it allocates
  pub record Learns (pc fr : Diff) : Type 0 where
    pub early : is_early (sights k).phase ≡ true
    pub pictures : (p : Place) (b : ℕ) → (owns g.geo (settled o g) (sights k).hold p b || sees g.geo (settled o g) (sights k).hold p b) ≡ true → (y : Bool) → pc p b ≡ Some y → read cells.pool p b ≡ y
    pub fresh : (p : Place) (b : ℕ) (y : Bool) → fr p b ≡ Some y → pc p b ≡ Some y
    pub more : (p : Place) (b : ℕ) → given ((sights k).call.fresh p b) ≡ true → given (fr p b) ≡ true
    pub made : (p : Place) (b : ℕ) → given (fr p b) ≡ true → (given ((sights k).call.fresh p b) ≡ true) ⊎ ((turn (latest (sights k).call.entries) (block_of g.geo p b) ≡ Some true) × (owns g.geo (settled o g) (sights k).hold p b ≡ true) × (is_in_making (sights k).hold p ≡ false))
    pub descr : (f b : ℕ) → fr (Descr f) b ≡ (sights k).call.fresh (Descr f) b

  abbrev pub learning : Diff → Diff → Sight
  learning pc fr = record (sights k) { picture = pc; call = record (sights k).call { fresh = fr } }

  pub learns : (pc fr : Diff) → Learns pc fr → (sights' : ℕ → Sight) → Turned sights sights' k (learning pc fr) → Bits sh L o cells sights' g
  learns pc fr r sights' t = let f = own_fits sh L o cells sights g x k ink in let q = sights k in
      unchanged sh L o cells sights g x k ink (learning pc fr) sights' refl (λ n y. y)
      record {
        hold = f.hold;
        bits = λ p b w. let y = f.bits p b w in (y.0, y.1, y.2, r.pictures p b (or_left (owns g.geo (settled o g) q.hold p b) (sees g.geo (settled o g) q.hold p b) w));
        picture = λ p b s. r.pictures p b (or_right (owns g.geo (settled o g) q.hold p b) (sees g.geo (settled o g) q.hold p b) s);
        turns = f.turns;
        call = record {
          flight = early_flight (Flies g k) q.phase (diff (record q.call { fresh = fr })) r.early;
          todo = f.call.todo;
          descr = λ y. subst (λ d. DescrFits (turn (latest q.call.entries) (Big y)) y (q.hold.span y) d) (λ i b. first_of_two (latest q.call.entries (Descr y) b) (sym (r.descr y b) i)) (f.call.descr y);
        };
        reach = λ p b e. ⊎_elim (λ (d : given (diff q.call p b) ≡ true). f.reach p b d) (λ (d : (turn (latest q.call.entries) (block_of g.geo p b) ≡ Some true) × (owns g.geo (settled o g) q.hold p b ≡ true) × (is_in_making q.hold p ≡ false)). d.1) (cases p b e);
        plain = λ p b e. ⊎_elim (λ (d : given (diff q.call p b) ≡ true). f.plain p b d) (λ (d : (turn (latest q.call.entries) (block_of g.geo p b) ≡ Some true) × (owns g.geo (settled o g) q.hold p b ≡ true) × (is_in_making q.hold p ≡ false)). d.2) (cases p b e);
        logged = f.logged;
        stored = λ p b u l. r.more p b (f.stored p b u l);
        fresh = r.fresh;
        sizes = λ p b s. let y = f.sizes p b s in (y.0, λ e. ⊎_elim (λ (d : given (q.call.fresh p b) ≡ true). y.1 d) (λ (d : (turn (latest q.call.entries) (block_of g.geo p b) ≡ Some true) × (owns g.geo (settled o g) q.hold p b ≡ true) × (is_in_making q.hold p ≡ false)). d.0) (r.made p b e));
        born = λ y. absurd (both_ways (in_flight q.phase) (early_grounded q.phase r.early) y);
        guarded = λ y. absurd (both_ways (in_flight q.phase) (early_grounded q.phase r.early) y);
        soiled = f.soiled;
      } t
    where
      cases : (p : Place) (b : ℕ) → given (first_of_two (latest (sights k).call.entries p b) (fr p b)) ≡ true
          → (given (diff (sights k).call p b) ≡ true) ⊎ ((turn (latest (sights k).call.entries) (block_of g.geo p b) ≡ Some true) × (owns g.geo (settled o g) (sights k).hold p b ≡ true) × (is_in_making (sights k).hold p ≡ false))
      cases p b e = ⊎_elim (λ (a : given (latest (sights k).call.entries p b) ≡ true). inl (some_first (latest (sights k).call.entries p b) ((sights k).call.fresh p b) a))
          (λ (a : given (fr p b) ≡ true). ⊎_elim (λ (d : given ((sights k).call.fresh p b) ≡ true). inl (fresh_given (latest (sights k).call.entries p b) ((sights k).call.fresh p b) d))
          (λ (d : (turn (latest (sights k).call.entries) (block_of g.geo p b) ≡ Some true) × (owns g.geo (settled o g) (sights k).hold p b ≡ true) × (is_in_making (sights k).hold p ≡ false)). inr d) (r.made p b a)) (given_cases (latest (sights k).call.entries p b) (fr p b) e)
