-- Lanes are handed out with their works and come back, one after the other.
use Rattle.std.proofs.Common.{◌≡◌, ◌≢◌, ℕ, zero, suc, ◌+◌, ◌-◌, ◌<◌, List, [], ◌∷◌, ◌++◌, All, ⊎_elim}
use Rattle.std.proofs.Common.{length, get_or, refl, sym, ap, ◌∙◌, subst, arith, length-append}
use Rattle.std.proofs.lemmas.Bool.{cases_eq}
use Rattle.std.proofs.lemmas.List.{append-nil, get_or_append_left, get_or_default, length_push}
use Rattle.std.proofs.lemmas.List.Elements.{All-from_get_or, All-nil, All-push}
use mathlib.Core.Option.{some, some-ne-none}
use lib.ListN.{get_elem?}
use Rattle.pm_crash.specs.Facts.{HaveFacts}
use Rattle.pm_memory.specs.Changes.{AreUndrained}
use Rattle.pm_shared.specs.declared.rule.Beginning.{Beginning}
use Rattle.pm_shared.specs.Openings.{idle_from, pool_of, pool_with}
use Rattle.pm_view.specs.Changes.{IsFormed}
use Rattle.pm_view.specs.View.{View}
use Rattle.pm_view.specs.declared.change.Change.{Change}
use Rattle.pm_run.specs.Jobs.{AllRan, AreBack, AreDone, AreReady, CanRun, IsDone, IsReady, LaneBack}
use Rattle.pm_run.specs.declared.job.Job.{Job}

-- ---- ONE MORE AT THE END OF A LIST

module _ {A : Type 0} where
  older : (xs : List A) (x d : A) (k : ℕ) → k < length xs
      → get_or (xs ++ x ∷ []) k d ≡ get_or xs k d
  older xs x d k l = get_or_append_left xs (x ∷ []) d k l

  next_item : (xs ys : List A) (x d : A) → get_or (xs ++ x ∷ ys) (length xs) d ≡ x
  next_item [] ys x d = refl
  next_item (y ∷ xs) ys x d = next_item xs ys x d

  older_there : (xs : List A) (x y : A) (k : ℕ) → get_elem? xs k ≡ some y
      → get_elem? (xs ++ x ∷ []) k ≡ some y
  older_there [] x y k e = absurd (some-ne-none y (sym e))
  older_there (z ∷ xs) x y zero e = e
  older_there (z ∷ xs) x y (suc k) e = older_there xs x y k e

  newest_there : (xs : List A) (x : A) → get_elem? (xs ++ x ∷ []) (length xs) ≡ some x
  newest_there [] x = refl
  newest_there (z ∷ xs) x = newest_there xs x

  -- what is so of each item and of one more is so of each of all
  pub one_more_each : (P : ℕ → A → Type 0) (xs : List A) (x : A)
      → ((k : ℕ) (d : A) → k < length xs → P k (get_or xs k d)) → P (length xs) x
      → (k : ℕ) (d : A) → k < length (xs ++ x ∷ []) → P k (get_or (xs ++ x ∷ []) k d)
  one_more_each P xs x each more k d l = ⊎_elim
      (λ (e : k ≡ length xs). subst (λ n. P n (get_or (xs ++ x ∷ []) n d)) (sym e)
      (subst (P (length xs)) (sym (next_item xs [] x d)) more))
      (λ (ne : k ≢ length xs).
      let low : k < length xs = let n = length_push xs x in omega (arith, l, n, ne) in
      subst (P k) (sym (older xs x d k low)) (each k d low))
      (cases_eq k (length xs))

  -- what was yielded, with the rest, is the whole
  pub next_of : (xs ys zs : List A) (x d : A) → xs ++ x ∷ ys ≡ zs → get_or zs (length xs) d ≡ x
  next_of xs ys zs x d e = ap (λ (l : List A). get_or l (length xs) d) (sym e) ∙ next_item xs ys x d

  pub fewer : (xs ys zs : List A) (x : A) → xs ++ x ∷ ys ≡ zs → length xs < length zs
  fewer xs ys zs x e = let n = length-append xs (x ∷ ys) in
      let m : length (xs ++ x ∷ ys) ≡ length zs = ap length e in omega (arith, n, m)

  pub whole : (xs ys zs : List A) → xs ++ ys ≡ zs → length ys ≡ 0 → xs ≡ zs
  whole xs [] zs e l = sym (append-nil xs) ∙ e
  whole xs (y ∷ ys) zs e l = absurd (omega (arith, l))

-- a list of some length has an item
pub some_item : {A : Type 0} (xs : List A) (k : ℕ) → k < length xs → A
some_item [] k l = absurd (omega (arith, l))
some_item (x ∷ xs) k l = x

-- what is so at each place is so of all items
all_at : {A : Type 0} (P : A → Type 0) (xs : List A)
    → ((k : ℕ) (x : A) → k < length xs → P (get_or xs k x)) → All P xs
all_at P [] each = All-nil P
all_at P (x ∷ xs) each = All-from_get_or P (x ∷ xs) x (λ k l. each k x l)

-- ---- LANES ARE HANDED OUT

-- no lane is left with the pool
pub all_out : (b : Beginning) (n : ℕ) → n ≡ b.lanes → pool_of b n [] ≡ pool_with []
all_out b n e = let none : b.lanes - n ≡ 0 = omega (arith, e) in
    ap (λ m. pool_with (idle_from b n m ++ [])) none

module _ {N W : Type 0} where
  pub none_ready : (jobs : List (Job N W)) → jobs ≡ [] → AreReady [] jobs
  none_ready jobs none = record {
    count = ap length none;
    each = λ k w job l. absurd (omega (arith, l));
  }

  module _ (works : List W) (jobs : List (Job N W)) (work : W) (job : Job N W)
      (are : AreReady works jobs) (is : IsReady (length works) work job) where
    abbrev ReadyAt : ℕ → W → Job N W → Type 0
    ReadyAt k w j = IsReady k (get_or (works ++ work ∷ []) k w) (get_or (jobs ++ job ∷ []) k j)

    last_ready : (w : W) (j : Job N W) → ReadyAt (length works) w j
    last_ready w j =
        subst (λ (x : W). IsReady (length works) x (get_or (jobs ++ job ∷ []) (length works) j))
        (sym (next_item works [] work w))
        (subst (λ (x : Job N W). IsReady (length works) work x)
        (sym (ap (λ n. get_or (jobs ++ job ∷ []) n j) (sym are.count) ∙ next_item jobs [] job j)) is)

    earlier_ready : (k : ℕ) (w : W) (j : Job N W) → k < length works → ReadyAt k w j
    earlier_ready k w j l = subst (λ (x : W). IsReady k x (get_or (jobs ++ job ∷ []) k j))
        (sym (older works work w k l))
        (subst (λ (x : Job N W). IsReady k (get_or works k w) x)
        (sym (older jobs job j k (subst (λ n. k < n) (sym are.count) l))) (are.each k w j l))

    pub one_more_ready : AreReady (works ++ work ∷ []) (jobs ++ job ∷ [])
    one_more_ready = record {
      count = length_push jobs job ∙ (ap (λ n. n + 1) are.count ∙ sym (length_push works work));
      each = λ k w j l. ⊎_elim
          (λ (e : k ≡ length works). subst (λ n. ReadyAt n w j) (sym e) (last_ready w j))
          (λ (ne : k ≢ length works). earlier_ready k w j
          (let n = length_push works work in omega (arith, l, n, ne)))
          (cases_eq k (length works));
    }

  -- jobs that are ready can run, and are done once they ran
  pub all_can_run : (can : W → Type 0) (works : List W) (jobs : List (Job N W)) → All can works
      → AreReady works jobs → All (CanRun can) jobs
  all_can_run can works jobs all are = all_at (CanRun can) jobs (λ k job l.
      let here = subst (λ n. k < n) are.count l in
      let d = some_item works k here in
      let is = are.each k d job here in
      (subst can (sym is.work_is) (all k d here), is.is_new))

  pub all_done : (left : W → W → View → Type 0) (works : List W) (old new : List (Job N W))
      → AreReady works old → length new ≡ length old → AllRan left old new
      → AreDone left works new
  all_done left works old new are same ran = record {
    count = same ∙ are.count;
    each = λ k w job l.
        let here : k < length old = subst (λ n. k < n) same l in
        let is = are.each k w job (subst (λ n. k < n) are.count here) in
        subst (λ (x : W). IsDone left k x (get_or new k job)) is.work_is
        (subst (λ n. IsDone left n (get_or old k job).work (get_or new k job)) is.number_is
        (ran k job here));
  }

-- ---- THEY COME BACK

module _ {W : Type 0} (left : W → W → View → Type 0) (before : List W) where
  pub none_back : (undrained : List (List Change)) (after : List W) → undrained ≡ [] → after ≡ []
      → AreBack left before [] undrained after
  none_back undrained after no_lists no_works = subst (λ l. AreBack left before [] l after)
      (sym no_lists) (subst (λ (l : List W). AreBack left before [] [] l) (sym no_works)
      record { views = refl; lists = refl; formed = All-nil (All IsFormed); each = λ k w l. absurd (omega (arith, l)) })

  module _ (back : List View) (undrained : List (List Change)) (after : List W) (v : View)
      (changes : List Change) (work : W) (are : AreBack left before back undrained after) where
    abbrev BackAt : ℕ → W → Type 0
    BackAt k w = LaneBack left (back ++ v ∷ []) (undrained ++ changes ∷ []) k (get_or before k w)
        (get_or (after ++ work ∷ []) k w)

    earlier_back : (k : ℕ) (w : W) → k < length after → BackAt k w
    earlier_back k w l = let is = are.each k w l in record {
      ran = record {
        view = is.ran.view;
        there = older_there back v is.ran.view k is.ran.there;
        lane_is = is.ran.lane_is;
        work_says = subst (λ (x : W). left (get_or before k w) x is.ran.view)
            (sym (older after work w k l)) is.ran.work_says;
      };
      facts = is.facts;
      drained = subst (λ (cs : List Change). AreUndrained cs is.ran.view.changes)
          (sym (older undrained changes [] k (subst (λ n. k < n) (sym are.lists) l))) is.drained;
    }

    module _ (lane_is : v.fixed.lane ≡ length after) (facts : HaveFacts v)
        (drained : AreUndrained changes v.changes) (formed : All IsFormed changes)
        (so : (w : W) → left (get_or before (length after) w) work v) where
      last_back : (w : W) → BackAt (length after) w
      last_back w = record {
        ran = record {
          view = v;
          there = subst (λ n. get_elem? (back ++ v ∷ []) n ≡ some v) are.views
              (newest_there back v);
          lane_is = lane_is;
          work_says = subst (λ (x : W). left (get_or before (length after) w) x v)
              (sym (next_item after [] work w)) (so w);
        };
        facts = facts;
        drained = subst (λ (cs : List Change). AreUndrained cs v.changes)
            (sym (ap (λ n. get_or (undrained ++ changes ∷ []) n []) (sym are.lists)
            ∙ next_item undrained [] changes [])) drained;
      }

      pub one_more_back : AreBack left before (back ++ v ∷ []) (undrained ++ changes ∷ [])
          (after ++ work ∷ [])
      one_more_back = record {
        views = length_push back v
            ∙ (ap (λ n. n + 1) are.views ∙ sym (length_push after work));
        lists = length_push undrained changes
            ∙ (ap (λ n. n + 1) are.lists ∙ sym (length_push after work));
        formed = All-push (All IsFormed) undrained changes are.formed formed;
        each = λ k w l. ⊎_elim
            (λ (e : k ≡ length after). subst (λ n. BackAt n w) (sym e) (last_back w))
            (λ (ne : k ≢ length after). earlier_back k w
            (let n = length_push after work in omega (arith, l, n, ne)))
            (cases_eq k (length after));
      }

-- the next of the jobs that are done
module _ {N W : Type 0} (left : W → W → View → Type 0) (before : List W)
    (jobs yielded rest : List (Job N W)) (job : Job N W) (done : AreDone left before jobs)
    (all : yielded ++ job ∷ rest ≡ jobs) where
  pub next_done : IsDone left (length yielded) (get_or before (length yielded) job.work) job
  next_done = subst
      (λ (j : Job N W). IsDone left (length yielded) (get_or before (length yielded) job.work) j)
      (next_of yielded rest jobs job job all)
      (done.each (length yielded) job.work job (fewer yielded rest jobs job all))

  pub next_back : (back : List View) (undrained : List (List Change)) (after : List W)
      (changes : List Change) → AreBack left before back undrained after
      → length after ≡ length yielded → AreUndrained changes next_done.view.changes
      → All IsFormed changes
      → AreBack left before (back ++ next_done.view ∷ []) (undrained ++ changes ∷ [])
      (after ++ job.work ∷ [])
  next_back back undrained after changes are count drained formed =
      one_more_back left before back undrained after next_done.view changes job.work are
      (next_done.lane_is ∙ sym count) next_done.facts drained formed
      (λ w. subst (λ (x : W). left x job.work next_done.view)
      (sym (ap (λ n. get_or before n w) count
      ∙ get_or_default before (length yielded) w job.work
      (subst (λ n. length yielded < n) done.count (fewer yielded rest jobs job all))))
      next_done.work_says)
