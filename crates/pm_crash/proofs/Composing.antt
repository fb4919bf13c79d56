-- What a lane knows no less of after one step and after another it knows no less of after both.
use Rattle.std.proofs.Common.{◌≡◌, inr, ⊎_elim, ℕ, ◌+◌, ◌-◌, ◌*◌, ◌/◌, ◌%◌, ◌≤◌, ◌==◌, ◌&&◌, nat_le, nat_lt, not, Bool, true, false, Some, refl, sym, ap, ◌∙◌, subst}
use Rattle.std.proofs.lemmas.Bool.{and_from, and_parts, both_ways, eqb-true, or_cases, or_left, or_right}
use Rattle.pm_view.specs.Claims.{class, first}
use Rattle.pm_view.specs.Places.{Place, InRun, InHuge, Descr, RootWord, Small, Big}
use Rattle.pm_view.specs.View.{View}
use Rattle.pm_world.specs.Memory.{bit}
use Rattle.pm_world.specs.Sights.{is_recorded}
use Rattle.pm_world.specs.States.{size_at}
use Rattle.pm_crash.specs.Footprints.{bit_before, has_found}
use Rattle.pm_crash.specs.Sim.{Grows, GrowthsCompose, IsInObject, IsSamePlace, is_kept_block, sees_at, size_place}

same_twice : (v mid next : View) (p : Place) → IsSamePlace v mid p → IsSamePlace mid next p → IsSamePlace v next p
same_twice v mid next (InRun c w) a b = b ∙ a
same_twice v mid next (InHuge c w) a b = b ∙ a
same_twice v mid next (Descr c) a b = tt
same_twice v mid next RootWord a b = tt

module _ (v next : View) (kept kept' : Bool) (g : Grows v kept next kept') where
  -- a place that is known to be an object's is so still
  pub still_object : (p : Place) (b : ℕ) → sees_at v p b ≡ true → IsInObject v p → IsInObject next p
  still_object (InRun c w) b t y =
      let e : class next.claims c ≡ class v.claims c = (g.sees (InRun c w) b t).1 in
      let at : size_place next (InRun c w) ≡ size_place v (InRun c w) = λ i. size_at (e i) c ((w / 8 - 1) / e i) in
      record {
        of_block = ap (λ n. not (n == 0) && (nat_le 8 w && nat_lt w 512)) e ∙ y.of_block;
        size = y.size;
        small = y.small;
        has_line = subst (λ n. (w / 8 - 1) % n ≤ (y.size + 63) / 64) (sym e) y.has_line;
        sees = λ d. subst (λ q. sees_at next q d ≡ true) (sym at) (g.sees (size_place v (InRun c w)) d (y.sees d)).0;
        sized = λ d l. subst (λ q. bit_before next q d ≡ Some (bit y.size d)) (sym at) (g.knows (size_place v (InRun c w)) d (bit y.size d) (y.sees d) (y.sized d l));
      }
  still_object (InHuge c w) b t y =
      let f : ℕ = first v.fixed.shape v.claims c in
      let u = and_parts (nat_lt w 512) (first v.fixed.shape v.claims f == f) y.of_block in
      let own : first v.fixed.shape v.claims f ≡ f = eqb-true (first v.fixed.shape v.claims f) f u.1 in
      let e : first next.fixed.shape next.claims c ≡ first v.fixed.shape v.claims c = (g.sees (InHuge c w) b t).1 in
      let same : first next.fixed.shape next.claims f ≡ first v.fixed.shape v.claims f = (g.sees (InHuge f w) b (ap (λ n. has_found v (Big n)) own ∙ t)).1 in
      let at : size_place next (InHuge c w) ≡ size_place v (InHuge c w) = λ i. InHuge (e i) 1 in
      record {
        of_block = and_from (nat_lt w 512) (first next.fixed.shape next.claims (first next.fixed.shape next.claims c) == first next.fixed.shape next.claims c) u.0
            (ap (λ n. first next.fixed.shape next.claims n == n) e ∙ (ap (λ n. n == f) same ∙ u.1));
        size = y.size;
        small = y.small;
        has_line = subst (λ n. 64 * (c - n) + w / 8 ≤ (y.size + 63) / 64) (sym e) y.has_line;
        sees = λ d. subst (λ q. sees_at next q d ≡ true) (sym at) (g.sees (size_place v (InHuge c w)) d (y.sees d)).0;
        sized = λ d l. subst (λ q. bit_before next q d ≡ Some (bit y.size d)) (sym at) (g.knows (size_place v (InHuge c w)) d (bit y.size d) (y.sees d) (y.sized d l));
      }
  still_object (Descr c) b t y = absurd (both_ways false refl y.of_block)
  still_object RootWord b t y = absurd (both_ways false refl y.of_block)

pub growths_compose : GrowthsCompose
growths_compose v mid next kept between kept' g h = record {
  found = λ B t. h.found B (g.found B t);
  spans = λ f t. h.spans f (g.found (Big f) t) ∙ g.spans f t;
  class = λ c i t. h.class c i (⊎_elim
      (λ (f : has_found v (Small c i) ≡ true). or_left (has_found mid (Small c i)) (is_kept_block mid between (Small c i)) (g.found (Small c i) f))
      (λ (m : is_kept_block v kept (Small c i) ≡ true). or_right (has_found mid (Small c i)) (is_kept_block mid between (Small c i)) (g.own (Small c i) m))
      (or_cases (has_found v (Small c i)) (is_kept_block v kept (Small c i)) t)) ∙ g.class c i t;
  own = λ B t. h.own B (g.own B t);
  lines = λ B line t a. h.lines B line (g.own B t) (g.lines B line t a);
  sees = λ p b t. let a = g.sees p b t in let c = h.sees p b a.0 in (c.0, same_twice v mid next p a.1 c.1);
  recorded = λ p b t r. ⊎_elim
      (λ (m : is_recorded mid.log.records p ≡ true). h.recorded p b (g.sees p b t).0 m)
      (λ (m : IsInObject mid p). inr (still_object mid next between kept' h p b (g.sees p b t).0 m))
      (g.recorded p b t r);
  knows = λ p b y t e. h.knows p b y (g.sees p b t).0 (g.knows p b y t e);
  roots = λ l x t. h.roots l x (g.roots l x t);
}
