-- How plans are put together.
use Rattle.std.proofs.Common.{◌≡◌, ◌+◌, ◌-◌, ℕ, zero, suc, ◌<◌, ◌≤◌, ⊎_elim, List, [], ◌∷◌, ◌++◌, take, length-append, Result, Ok, Err, refl, sym, ap, ◌∙◌, subst, T, IsErr, arith, rules}
use Rattle.std.proofs.Math.Nat.{eq-or-lt_of_le}
use Rattle.std.proofs.lemmas.List.{take-append-le}
use Rattle.std.specs.Prelude.{Some, unwrap_or}
use Rattle.pm_memory.proofs.Runs.{stops_after, stops_at_once}
use Rattle.pm_memory.specs.Runs.{Ran, Stops, MadeOrStopped, Made}
use Rattle.pm_memory.specs.declared.lane_mem.Stopped.{Stopped}
use Rattle.pm_view.specs.Counts.{IsAtStop, is_counted, counted as calls_in}
use Rattle.pm_view.specs.Founds.{knows}
use Rattle.pm_view.specs.Steps.{Step}
use Rattle.pm_view.specs.Steps.Step.{Load}
use Rattle.pm_view.specs.View.{View}
use Rattle.pm_view.specs.Views.{after, after_all}
use Rattle.pm_world.specs.Lawful.{Allowed}
use Rattle.pm_plan.specs.Plans.{Plan, nothing, one, in_turn, repeated, by_view, looks, known_word, Ready, IsReady, Runs}

-- ---- steps one after the other
pub after_all-append : (v : View) (first second : List Step) → after_all v (first ++ second) ≡ after_all (after_all v first) second
unfolding after_all
after_all-append v [] second = refl
after_all-append v (s ∷ first) second = after_all-append (after v s) first second

-- the first of steps that may be made may be made, and the rest from where they end
pub ready_left : (v : View) (xs ys : List Step) → Ready v (xs ++ ys) → Ready v xs
unfolding Ready
ready_left v [] ys r = tt
ready_left v (x ∷ xs) ys r = (r.0, r.1, ready_left (after v x) xs ys r.2)

pub ready_right : (v : View) (xs ys : List Step) → Ready v (xs ++ ys) → Ready (after_all v xs) ys
unfolding Ready after_all
ready_right v [] ys r = r
ready_right v (x ∷ xs) ys r = ready_right (after v x) xs ys r.2

pub ready_both : (v : View) (xs ys : List Step) → Ready v xs → Ready (after_all v xs) ys → Ready v (xs ++ ys)
unfolding Ready after_all
ready_both v [] ys r s = s
ready_both v (x ∷ xs) ys r s = (r.0, r.1, ready_both (after v x) xs ys r.2 s)

-- stopped among the first steps, or after them
pub stops_left : (new : View → Type 0) (v : View) (xs ys : List Step) → Stops new v xs → Stops new v (xs ++ ys)
stops_left new v xs ys s =
    let same : take s.made (xs ++ ys) ≡ take s.made xs = take-append-le s.made xs ys (omega (arith, s.fewer)) in
    record {
      made = s.made;
      fewer = omega (arith, s.fewer, length-append xs ys);
      seen = subst (λ (steps : List Step). new (after_all v steps)) (sym same) s.seen;
      stopped = subst (λ (steps : List Step). IsAtStop (after_all v steps)) (sym same) s.stopped;
      due = ap calls_in (take-append-le (s.made + 1) xs ys (omega (arith, s.fewer))) ∙ s.due ∙ ap (λ (steps : List Step). calls_in steps + 1) (sym same);
    }

pub stops_right : (new : View → Type 0) (v : View) (xs ys : List Step) → Stops new (after_all v xs) ys → Stops new v (xs ++ ys)
unfolding after_all
stops_right new v [] ys s = s
stops_right new v (x ∷ xs) ys s = stops_after new v x (xs ++ ys) (stops_right new (after v x) xs ys s)

-- a plan that stopped answers an error
ran_of_error : {T : Type 0} (new : View → Type 0) (v : View) (steps : List Step) (result : Result T Stopped) → IsErr result → Stops new v steps → Ran new v steps result
ran_of_error new v steps (Ok answer) error stops = absurd (search rules)
ran_of_error new v steps (Err stopped) error stops = stops

-- ---- two plans in turn
pub ready_first : (old : View → Type 0) (s t : Plan) → IsReady old (in_turn s t) → IsReady old s
unfolding IsReady in_turn
ready_first old s t r = (r.0, (r.1.0, ready_left r.0 (s r.0) (t (after_all r.0 (s r.0))) r.1.1))

pub ready_then : {T : Type 0} (old new : View → Type 0) (s t : Plan) (answer : T) → IsReady old (in_turn s t) → Runs old new s (Ok answer) → IsReady new t
unfolding IsReady Runs in_turn
ready_then old new s t answer r ran =
    let v : View = r.0 in
    (after_all v (s v), (ran v r.1.0 (ready_left v (s v) (t (after_all v (s v))) r.1.1), ready_right v (s v) (t (after_all v (s v))) r.1.1))

-- the first stopped, so both did
pub runs_err : {U : Type 0} (T : Type 0) (old new : View → Type 0) (s t : Plan) (stopped : Stopped) (result : Result U Stopped)
    → IsErr result → Runs {T = T} old new s (Err stopped) → Runs old new (in_turn s t) result
unfolding Runs in_turn
runs_err T old new s t stopped result error ran v seen r =
    let ys : List Step = t (after_all v (s v)) in
    ran_of_error new v (s v ++ ys) result error (stops_left new v (s v) ys (ran v seen (ready_left v (s v) ys r)))

-- whatever an error answers, the first steps were made up to the stop
pub answered_by_error : {U : Type 0} (T : Type 0) (old new : View → Type 0) (s : Plan) (stopped : Stopped) (result : Result U Stopped) → IsErr result → Runs {T = T} old new s (Err stopped) → Runs old new s result
unfolding Runs
answered_by_error T old new s stopped result error ran v seen r = ran_of_error new v (s v) result error (ran v seen r)

-- the first was carried out, and then the second ran
pub runs_then : {T U : Type 0} (old mid new : View → Type 0) (s t : Plan) (answer : T) (result : Result U Stopped)
    → Runs old mid s (Ok answer) → Runs mid new t result → Runs old new (in_turn s t) result
unfolding Runs in_turn
runs_then old mid new s t answer (Ok done) first second v seen r =
    let xs : List Step = s v in let ys : List Step = t (after_all v (s v)) in
    let there = first v seen (ready_left v xs ys r) in
    subst new (sym (after_all-append v xs ys)) (second (after_all v xs) there (ready_right v xs ys r))
runs_then old mid new s t answer (Err stopped) first second v seen r =
    let xs : List Step = s v in let ys : List Step = t (after_all v (s v)) in
    let there = first v seen (ready_left v xs ys r) in
    stops_right new v xs ys (second (after_all v xs) there (ready_right v xs ys r))

pub runs_nothing : {T : Type 0} (old : View → Type 0) (answer : T) → Runs old old nothing (Ok answer)
unfolding Runs nothing after_all
runs_nothing old answer v seen r = seen

-- ---- single steps: a memory promises of a step what it does for the views that allow it
pub granted : {T : Type 0} (may : View → Step → Type 0) (old new : View → Type 0) (step : T → Step) (result : Result T Stopped) → ((v : View) (s : Step) → Allowed v s → may v s) → MadeOrStopped may old new step result → MadeOrStopped Allowed old new step result
granted may old new step (Ok answer) grants made = λ v seen allowed. made v seen (grants v (step answer) allowed)
granted may old new step (Err stopped) grants made = made

pub runs_one : {U : Type 0} (may : View → Step → Type 0) (old new : View → Type 0) (s : Step) (result : Result U Stopped) → T (is_counted s) → ((v : View) (s : Step) → Allowed v s → may v s) → MadeOrStopped may old new (λ _. s) result → Runs old new (one s) result
unfolding Runs one Ready after_all
runs_one may old new s (Ok answer) counts grants made v seen r = (made v seen (grants v s r.0)).0
runs_one may old new s (Err stopped) counts grants made v seen r = let m = made v seen in stops_at_once new v s [] counts m.0 m.1

-- the plan of one step that the lane may make
pub allowed_one : (old : View → Type 0) (s : Step) → IsReady old (one s) → (v : View) × (old v × Allowed v s)
unfolding IsReady one Ready
allowed_one old s r = (r.0, (r.1.0, r.1.1.0))

-- a load of a known word
pub runs_look : (may : View → Step → Type 0) (old new : View → Type 0) (w found : ℕ) → ((v : View) (s : Step) → Allowed v s → may v s) → Made may old new (Load w found) → Runs {T = Unit {0}} old new (looks w) (Ok tt)
unfolding Runs looks Ready after_all
runs_look may old new w found grants made v seen r =
    let m = made v seen (grants v (Load w found) r.0) in
    subst (λ x. new (after v (Load w x))) (is_known v w found r.1 m.1) m.0
  where
    is_known : (v : View) (w found : ℕ) → knows v w ≡ Some (known_word v w) → Rattle.pm_view.specs.Founds.FindsKnown v w found → found ≡ known_word v w
    is_known v w found e f = subst (λ k. Rattle.std.specs.Prelude.IfSome k (λ x. found ≡ x)) e f

pub look_finds : (may : View → Step → Type 0) (old new : View → Type 0) (w found : ℕ) → ((v : View) (s : Step) → Allowed v s → may v s) → Made may old new (Load w found)
    → (v : View) → old v → Ready v (looks w v) → found ≡ known_word v w
unfolding looks Ready
look_finds may old new w found grants made v seen r =
    let m = made v seen (grants v (Load w found) r.0) in
    subst (λ k. Rattle.std.specs.Prelude.IfSome k (λ x. found ≡ x)) r.1 m.1

pub allowed_look : (old : View → Type 0) (w : ℕ) → IsReady old (looks w) → (v : View) × (old v × ((found : ℕ) → Allowed v (Load w found)))
unfolding IsReady looks Ready
allowed_look old w r = (r.0, (r.1.0, λ found. r.1.1.0))

-- ---- a plan chosen by the view, where each view that the memory may be seen as chooses this one
pub ready_by_view : (old : View → Type 0) (choose : View → Plan) (plan : Plan) → ((v : View) → old v → Ready v (choose v v) → choose v ≡ plan) → IsReady old (by_view choose) → IsReady old plan
unfolding IsReady by_view
ready_by_view old choose plan is r = (r.0, (r.1.0, subst (λ (s : Plan). Ready r.0 (s r.0)) (is r.0 r.1.0 r.1.1) r.1.1))

pub runs_by_view : {T : Type 0} (old new : View → Type 0) (choose : View → Plan) (plan : Plan) (result : Result T Stopped)
    → ((v : View) → old v → Ready v (choose v v) → choose v ≡ plan) → Runs old new plan result → Runs old new (by_view choose) result
unfolding Runs by_view
runs_by_view old new choose plan result is runs v seen r =
    subst (λ (s : Plan). Ran new v (s v) result) (sym (is v seen r)) (runs v seen (subst (λ (s : Plan). Ready v (s v)) (is v seen r) r))

-- the first part is the same whatever the view chooses, and the second as the view before the first chooses it
pub ready_view_first : (old : View → Type 0) (s : Plan) (choose : View → Plan) → IsReady old (by_view (λ v. in_turn s (choose v))) → IsReady old s
unfolding IsReady by_view in_turn
ready_view_first old s choose r = (r.0, (r.1.0, ready_left r.0 (s r.0) (choose r.0 (after_all r.0 (s r.0))) r.1.1))

pub chosen_after : (old : View → Type 0) (s t : Plan) (choose : View → Plan) → ((v : View) → old v → Ready v (s v) → choose v ≡ t)
    → (v : View) → old v → Ready v (in_turn s (choose v) v) → in_turn s (choose v) ≡ in_turn s t
unfolding in_turn
chosen_after old s t choose is v seen r = ap (in_turn s) (is v seen (ready_left v (s v) (choose v (after_all v (s v))) r))

-- ---- loops
module _ (old : View → Type 0) (plans : ℕ → Plan) where
  pub repeated_none : Runs {T = Unit {0}} old old (repeated plans 0) (Ok tt)
  unfolding repeated
  repeated_none = runs_nothing old tt

  ready_before : (j : ℕ) → IsReady old (repeated plans (suc j)) → IsReady old (repeated plans j)
  unfolding repeated
  ready_before j r = ready_first old (repeated plans j) (plans j) r

  -- the first so many of those that may be carried out may be
  front_up : (n k m : ℕ) → m ≡ n + k → IsReady old (repeated plans m) → IsReady old (repeated plans k)
  front_up zero k m e r = subst (λ j. IsReady old (repeated plans j)) (let same : m ≡ k = omega (arith, e) in same) r
  front_up (suc n) k m e r =
      front_up n k (n + k) refl
      (ready_before (n + k) (subst (λ j. IsReady old (repeated plans j)) (let same : m ≡ suc (n + k) = omega (arith, e) in same) r))

  front : (n k : ℕ) → k < n → IsReady old (repeated plans n) → IsReady old (repeated plans (suc k))
  front n k below r = front_up (n - suc k) (suc k) n (omega (arith, below)) r

  pub repeated_next : {T : Type 0} (n k : ℕ) (mid : View → Type 0) (answer : T) → k < n → IsReady old (repeated plans n) → Runs old mid (repeated plans k) (Ok answer) → IsReady mid (plans k)
  unfolding repeated
  repeated_next n k mid answer below r runs = ready_then old mid (repeated plans k) (plans k) answer (front n k below r) runs

  more : {T U : Type 0} (k : ℕ) (mid new : View → Type 0) (answer : T) (result : Result U Stopped) → Runs old mid (repeated plans k) (Ok answer) → Runs mid new (plans k) result → Runs old new (repeated plans (suc k)) result
  unfolding repeated
  more k mid new answer result runs step = runs_then old mid new (repeated plans k) (plans k) answer result runs step

  pub repeated_more : {T U : Type 0} (k : ℕ) (mid new : View → Type 0) (answer : T) (last : U) → Runs old mid (repeated plans k) (Ok answer) → Runs mid new (plans k) (Ok last) → Runs old new (repeated plans (k + 1)) (Ok last)
  repeated_more k mid new answer last runs step = subst (λ n. Runs old new (repeated plans n) (Ok last)) (let e : suc k ≡ k + 1 = omega arith in e) (more k mid new answer (Ok last) runs step)

  stopped_after : (U : Type 0) (j : ℕ) (new : View → Type 0) (stopped : Stopped) → Runs {T = U} old new (repeated plans j) (Err stopped) → Runs {T = U} old new (repeated plans (suc j)) (Err stopped)
  unfolding repeated
  stopped_after U j new stopped runs = runs_err U old new (repeated plans j) (plans j) stopped (Err stopped) (search rules) runs

  -- stopped in the first part, so in all
  stopped_up : (U : Type 0) (n k m : ℕ) (new : View → Type 0) (stopped : Stopped) → m ≡ n + k → Runs {T = U} old new (repeated plans k) (Err stopped) → Runs {T = U} old new (repeated plans m) (Err stopped)
  stopped_up U zero k m new stopped e runs = subst (λ j. Runs {T = U} old new (repeated plans j) (Err stopped)) (let same : k ≡ m = omega (arith, e) in same) runs
  stopped_up U (suc n) k m new stopped e runs =
      subst (λ j. Runs {T = U} old new (repeated plans j) (Err stopped)) (let same : suc (n + k) ≡ m = omega (arith, e) in same) (stopped_after U (n + k) new stopped (stopped_up U n k (n + k) new stopped refl runs))

  pub repeated_err : {U : Type 0} (S T : Type 0) (n k : ℕ) (mid new : View → Type 0) (answer : S) (stopped : Stopped) (result : Result U Stopped) → k < n
      → Runs {T = S} old mid (repeated plans k) (Ok answer) → Runs {T = T} mid new (plans k) (Err stopped) → IsErr result → Runs old new (repeated plans n) result
  repeated_err S T n k mid new answer stopped result below runs step error =
      answered_by_error T old new (repeated plans n) stopped result error
      (stopped_up T (n - suc k) (suc k) n new stopped (omega (arith, below)) (more k mid new answer (Err stopped) runs step))

-- of so many plans in turn each may be carried out from where those before it end
pub repeated_ready : (plans : ℕ → Plan) (v : View) (n k : ℕ) → k < n → Ready v (repeated plans n v) → Ready v (repeated plans k v) × Ready (after_all v (repeated plans k v)) (plans k (after_all v (repeated plans k v)))
unfolding repeated in_turn
repeated_ready plans v zero k below r = absurd (omega (arith, below))
repeated_ready plans v (suc n) k below r =
    ⊎_elim
    (λ (same : k ≡ n). subst (λ j. Ready v (repeated plans j v) × Ready (after_all v (repeated plans j v)) (plans j (after_all v (repeated plans j v)))) (sym same)
    (ready_left v (repeated plans n v) (plans n (after_all v (repeated plans n v))) r, ready_right v (repeated plans n v) (plans n (after_all v (repeated plans n v))) r))
    (λ (lower : k < n). repeated_ready plans v n k lower (ready_left v (repeated plans n v) (plans n (after_all v (repeated plans n v))) r))
    (eq-or-lt_of_le (let e : k ≤ n = omega (arith, below) in e))
