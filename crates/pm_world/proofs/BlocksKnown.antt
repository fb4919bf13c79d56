-- THE BLOCK OF A WORD, as a lane knows it, is so where it has that block.
use Rattle.std.proofs.Common.{◌≡◌, ℕ, ⊎_elim, true, false, refl, sym, ap, ◌∙◌, subst}
use Rattle.std.proofs.lemmas.Bool.{cases_Bool, eqb-true, or_cases, cond-true, cond-false}
use Rattle.pm_layout.specs.declared.shape.Shape.{Shape}
use Rattle.pm_view.specs.Claims.{class, last_first, first, span, geometry}
use Rattle.pm_view.specs.Log.{Phase}
use Rattle.pm_view.specs.Places.{Place, InRun, InHuge, Descr, RootWord, Small, Big, part, block_of, in_span}
use Rattle.pm_view.specs.View.{View}
use Rattle.pm_world.specs.States.{State, Diff, Cells}
use Rattle.pm_world.specs.Sights.{sight_of}
use Rattle.pm_world.specs.Lanes.{Ghost, own, has, SightFits, GeoFits}
use Rattle.pm_world.proofs.Frame.{big_valid}

module _ (sh : Shape) (cells : Cells) (S : State) (flies : ℕ → Diff → Type 0) (g : Ghost) (geo : GeoFits sh S g) (k : ℕ) (v : View) (ph : Phase) (f : SightFits sh cells S flies g k (record (sight_of v) { phase = ph })) where
  first_valid : (c : ℕ) → has (sight_of v).hold (Big c) ≡ true → g.geo.first c ≡ c
  first_valid c o = ⊎_elim (λ (q : own (sight_of v).hold (Big c) ≡ true). big_valid sh cells S flies g geo k (record (sight_of v) { phase = ph }) f c q)
      (λ (q : (sight_of v).hold.found (Big c) ≡ true). eqb-true (g.geo.first c) c (f.hold.found (Big c) q).1) (or_cases (own (sight_of v).hold (Big c)) ((sight_of v).hold.found (Big c)) o)

  pub first_so : (c : ℕ) → has (sight_of v).hold (Big (first v.fixed.shape v.claims c)) ≡ true → first v.fixed.shape v.claims c ≡ g.geo.first c
  first_so c o = let a = last_first v.fixed.shape v.claims c in let t = in_span a (span v.fixed.shape v.claims a) c in
      ⊎_elim (λ (e : t ≡ true). let r = cond-true t a c e in r ∙ sym (eqb-true (g.geo.first c) a (f.hold.span a (subst (λ y. has (sight_of v).hold (Big y) ≡ true) r o) c ∙ e)))
      (λ (e : t ≡ false). let r = cond-false t a c e in r ∙ sym (first_valid c (subst (λ y. has (sight_of v).hold (Big y) ≡ true) r o))) (cases_Bool t)

  pub block_so : (p : Place) (b : ℕ) → has (sight_of v).hold (block_of (geometry v.fixed.shape v.claims) p b) ≡ true → block_of (geometry v.fixed.shape v.claims) p b ≡ block_of g.geo p b
  block_so (InRun c u) b o = ap (λ cl. Small c (part cl u b)) (f.hold.class c (part (class v.claims c) u b) o)
  block_so (InHuge c u) b o = ap (λ y. Big y) (first_so c o)
  block_so (Descr c) b o = ap (λ y. Big y) (first_so c o)
  block_so RootWord b o = refl
