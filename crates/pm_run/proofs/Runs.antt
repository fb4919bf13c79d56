-- What lanes leave that ran works, once all came back and the table closed.
use Rattle.std.proofs.Common.{◌≡◌, ℕ, zero, suc, ◌<◌, Bool, List, [], ◌∷◌, length, get_or}
use Rattle.std.proofs.Common.{sym, ◌∙◌, subst, arith}
use mathlib.Core.Option.{some, some-injective, some-ne-none}
use lib.ListN.{get_elem?}
use Rattle.pm_crash.specs.Facts.{HaveFacts}
use Rattle.pm_lanes.specs.Closed.{AllAreBack, AllHaveFacts, BackWith, KeptImagesSurvive}
use Rattle.pm_memory.specs.Changes.{AreUndrained}
use Rattle.pm_memory.specs.Keep.{IsKeptImage}
use Rattle.pm_shared.specs.Closings.{Closes}
use Rattle.pm_shared.specs.declared.rule.Beginning.{Beginning}
use Rattle.pm_view.specs.View.{View}
use Rattle.pm_view.specs.declared.change.Change.{Change}
use Rattle.pm_run.specs.Fates.{AreJudged}
use Rattle.pm_run.specs.Jobs.{AreBack, LaneBack}
use Rattle.pm_run.specs.Runs.{HaveRun}
use Rattle.pm_run.proofs.Jobs.{some_item}

inside : {A : Type 0} (xs : List A) (x : A) (k : ℕ) → get_elem? xs k ≡ some x → k < length xs
inside [] x k e = absurd (some-ne-none x (sym e))
inside (y ∷ xs) x zero e = omega arith
inside (y ∷ xs) x (suc k) e = let h = inside xs x k e in omega (arith, h)

module _ {W : Type 0} (left : W → W → View → Type 0) (before : List W) (back : List View)
    (undrained : List (List Change)) (after : List W)
    (are : AreBack left before back undrained after) where
  at_lane : (k : ℕ) (l : k < length after) → LaneBack left back undrained k
      (get_or before k (some_item after k l)) (get_or after k (some_item after k l))
  at_lane k l = are.each k (some_item after k l) l

  at_place : (n : ℕ) (v : View) → get_elem? back n ≡ some v → n < length after
  at_place n v there = subst (λ m. n < m) are.views (inside back v n there)

  -- the view at a place is that of the lane with this number
  same : (n : ℕ) (v : View) (there : get_elem? back n ≡ some v)
      → (at_lane n (at_place n v there)).ran.view ≡ v
  same n v there =
      let is = (at_lane n (at_place n v there)).ran in
      some-injective is.view v (sym is.there ∙ there)

  all_back : (lanes : ℕ) → length after ≡ lanes → AllAreBack lanes back
  all_back lanes count k l =
      let is = (at_lane k (subst (λ n. k < n) (sym count) l)).ran in
      record { place = k; view = is.view; there = is.there; lane_is = is.lane_is }

  all_facts : AllHaveFacts back
  all_facts n v there =
      subst HaveFacts (same n v there) (at_lane n (at_place n v there)).facts

  all_with : BackWith back undrained
  all_with = record {
    all = all_back (length undrained) (sym are.lists);
    each = λ n v there. let is = at_lane n (at_place n v there) in
        subst (λ (u : View). AreUndrained (get_or undrained u.fixed.lane []) u.changes)
        (same n v there)
        (subst (λ m. AreUndrained (get_or undrained m []) is.ran.view.changes)
        (sym is.ran.lane_is) is.drained);
    formed = are.formed;
  }

  pub have_run : KeptImagesSurvive → (b : Beginning) (words image : List ℕ) (keep : ℕ)
      → (flags : List Bool) → length after ≡ b.lanes → Closes b back words
      → IsKeptImage keep words undrained image → AreJudged b.shape words undrained image flags
      → HaveRun left b keep before after image flags
  have_run survive b words image keep flags count closed is judged = record {
    back = back;
    words = words;
    closed = closed;
    all = all_back b.lanes count;
    facts = all_facts;
    undrained = undrained;
    count = are.lists ∙ count;
    back_with = all_with;
    kept = is;
    survives = survive b back words image undrained keep closed all_with
        (let n : length undrained ≡ b.lanes = are.lists ∙ count in omega (arith, n)) is;
    size = is.size ∙ closed.size;
    judged = judged;
    works = count;
    each = λ k w l. (are.each k w (subst (λ n. k < n) (sym count) l)).ran;
  }
