-- How sequences are put together.
use Rattle.std.proofs.Common.{true, eqb, eq-eqb, Contains, ◌≡◌, ◌+◌, ◌-◌, ℕ, zero, suc, ◌<◌, ◌≤◌, ⊎_elim, List, [], ◌∷◌, ◌++◌, take, length-append, Result, Ok, Err, refl, sym, ap, ◌∙◌, subst, T, IsErr, slice_index, arith, rules, ◌⊎◌}
use Rattle.std.proofs.Math.Nat.{eq-or-lt_of_le}
use Rattle.std.specs.List.{list_any}
use Rattle.std.proofs.lemmas.Bool.{or_right}
use Rattle.std.proofs.lemmas.List.Folds.{list_any_at}
use Rattle.std.proofs.lemmas.List.{take-append-le}
use Rattle.solo_memory.proofs.Runs.{stops_after, stops_at_once}
use Rattle.solo_memory.specs.Runs.{Ran, Stops, MadeOrStopped, Made}
use Rattle.solo_memory.specs.declared.lane_mem.Stopped.{Stopped}
use Rattle.solo_view.proofs.Sequences.{after_all-append}
use Rattle.solo_view.specs.Counts.{IsAtStop, is_counted, counted as calls_in}
use Rattle.solo_view.specs.Steps.{Step}
use Rattle.solo_view.specs.Steps.Step.{Load, Or, And}
use Rattle.solo_view.specs.View.{View}
use Rattle.solo_view.specs.Views.{after, after_all}
use Rattle.pm_record.specs.declared.redo.Op.TheVariants as op
use Rattle.solo_view.specs.Area.{is_in_area}
use Rattle.solo_view.specs.Held.{is_known}
use Rattle.solo_world.specs.Lawful.{Allowed, MayChange, ChangesAlone}
use Rattle.solo_world.specs.Sequences.{Sequence, nothing, one, in_turn, counted, by_view, by_lane, with_word, finds_in, looks, Ready, IsReady, Runs}
use Rattle.solo_world.specs.Entries.{IsKnownWord}
use Rattle.solo_view.specs.Founds.{IsAlone}

-- the first of steps that may be made may be made, and the rest from where they end
pub ready_left : (v : View) (xs ys : List Step) → Ready v (xs ++ ys) → Ready v xs
unfolding Ready
ready_left v [] ys r = tt
ready_left v (x ∷ xs) ys r = (r.0, r.1, ready_left (after v x) xs ys r.2)

pub ready_right : (v : View) (xs ys : List Step) → Ready v (xs ++ ys) → Ready (after_all v xs) ys
unfolding Ready after_all
ready_right v [] ys r = r
ready_right v (x ∷ xs) ys r = ready_right (after v x) xs ys r.2

pub ready_both : (v : View) (xs ys : List Step) → Ready v xs → Ready (after_all v xs) ys → Ready v (xs ++ ys)
unfolding Ready after_all
ready_both v [] ys r s = s
ready_both v (x ∷ xs) ys r s = (r.0, r.1, ready_both (after v x) xs ys r.2 s)

-- stopped among the first steps, or behind them
stops_left : (new : View → Type 0) (v : View) (xs ys : List Step) → Stops new v xs → Stops new v (xs ++ ys)
stops_left new v xs ys s =
    let same : take s.made (xs ++ ys) ≡ take s.made xs = take-append-le s.made xs ys (omega (arith, s.fewer)) in
    record {
      made = s.made;
      fewer = omega (arith, s.fewer, length-append xs ys);
      seen = subst (λ (steps : List Step). new (after_all v steps)) (sym same) s.seen;
      stopped = subst (λ (steps : List Step). IsAtStop (after_all v steps)) (sym same) s.stopped;
      due = ap calls_in (take-append-le (s.made + 1) xs ys (omega (arith, s.fewer))) ∙ s.due ∙ ap (λ (steps : List Step). calls_in steps + 1) (sym same);
    }

stops_right : (new : View → Type 0) (v : View) (xs ys : List Step) → Stops new (after_all v xs) ys → Stops new v (xs ++ ys)
unfolding after_all
stops_right new v [] ys s = s
stops_right new v (x ∷ xs) ys s = stops_after new v x (xs ++ ys) (stops_right new (after v x) xs ys s)

-- what was stopped is answered by an error
ran_of_error : {T : Type 0} (new : View → Type 0) (v : View) (steps : List Step) (result : Result T Stopped) → IsErr result → Stops new v steps → Ran new v steps result
ran_of_error new v steps (Ok answer) error stops = absurd (search rules)
ran_of_error new v steps (Err stopped) error stops = stops

-- a lane that may make two sequences in turn may make the first
pub ready_first : (old : View → Type 0) (s t : Sequence) → IsReady old (in_turn s t) → IsReady old s
unfolding IsReady in_turn
ready_first old s t r = (r.0, (r.1.0, ready_left r.0 (s r.0) (t (after_all r.0 (s r.0))) r.1.1))

-- and once it is made, the second
pub ready_then : {T : Type 0} (old new : View → Type 0) (s t : Sequence) (answer : T) → IsReady old (in_turn s t) → Runs old new s (Ok answer) → IsReady new t
unfolding IsReady Runs in_turn
ready_then old new s t answer r ran =
    let v : View = r.0 in
    (after_all v (s v), (ran v r.1.0 (ready_left v (s v) (t (after_all v (s v))) r.1.1), ready_right v (s v) (t (after_all v (s v))) r.1.1))

-- the first stopped, so both did
pub runs_err : {U : Type 0} (T : Type 0) (old new : View → Type 0) (s t : Sequence) (stopped : Stopped) (result : Result U Stopped)
    → IsErr result → Runs {T = T} old new s (Err stopped) → Runs old new (in_turn s t) result
unfolding Runs in_turn
runs_err T old new s t stopped result error ran v seen r =
    let ys : List Step = t (after_all v (s v)) in
    ran_of_error new v (s v ++ ys) result error (stops_left new v (s v) ys (ran v seen (ready_left v (s v) ys r)))

-- whatever an error answers, the first steps were made up to the stop
answered_by_error : {U : Type 0} (T : Type 0) (old new : View → Type 0) (s : Sequence) (stopped : Stopped) (result : Result U Stopped) → IsErr result → Runs {T = T} old new s (Err stopped) → Runs old new s result
unfolding Runs
answered_by_error T old new s stopped result error ran v seen r = ran_of_error new v (s v) result error (ran v seen r)

-- the first was made, and then the second ran
pub runs_then : {T U : Type 0} (old mid new : View → Type 0) (s t : Sequence) (answer : T) (result : Result U Stopped)
    → Runs old mid s (Ok answer) → Runs mid new t result → Runs old new (in_turn s t) result
unfolding Runs in_turn
runs_then old mid new s t answer (Ok done) first second v seen r =
    let xs : List Step = s v in let ys : List Step = t (after_all v (s v)) in
    let there = first v seen (ready_left v xs ys r) in
    subst new (sym (after_all-append v xs ys)) (second (after_all v xs) there (ready_right v xs ys r))
runs_then old mid new s t answer (Err stopped) first second v seen r =
    let xs : List Step = s v in let ys : List Step = t (after_all v (s v)) in
    let there = first v seen (ready_left v xs ys r) in
    stops_right new v xs ys (second (after_all v xs) there (ready_right v xs ys r))

-- nothing was to be made
pub runs_nothing : {T : Type 0} (old : View → Type 0) (answer : T) → Runs old old nothing (Ok answer)
unfolding Runs nothing after_all
runs_nothing old answer v seen r = seen

-- one counted step
pub runs_one : {U : Type 0} (old new : View → Type 0) (s : Step) (result : Result U Stopped) → T (is_counted s) → MadeOrStopped old new (λ _. s) result → Runs old new (one s) result
unfolding Runs one after_all
runs_one old new s (Ok answer) counts made v seen r = (made v seen).0
runs_one old new s (Err stopped) counts made v seen r = let m = made v seen in stops_at_once new v s [] counts m.0 m.1

-- the first of two sequences is one step that the lane may make
pub allowed_one : (old : View → Type 0) (s : Step) → IsReady old (one s) → (v : View) × (old v × Allowed v s)
unfolding IsReady one Ready
allowed_one old s r = (r.0, (r.1.0, r.1.1.0))

-- one OR or AND of a word that the view knows, which finds what the view has
listed_known : (v : View) (w : ℕ) → Contains v.known w → is_known v w ≡ true
listed_known v w there = or_right (is_in_area v.lane w) (list_any (λ other. eqb other w) v.known) (list_any_at (λ other. eqb other w) v.known there.0 w there.1 (ap (λ other. eqb other w) there.2 ∙ eq-eqb w w refl))

-- so what is found there is what the view has, or it is where the lane is alone
found_known : (v : View) (w found : ℕ) → IsKnownWord v w ⊎ ChangesAlone v w → (is_known v w ≡ true → found ≡ slice_index v.words w) → (IsAlone v → found ≡ slice_index v.words w) → found ≡ slice_index v.words w
found_known v w found may known alone = ⊎_elim (λ (here : IsKnownWord v w). known (listed_known v w here.known)) (λ (changes : ChangesAlone v w). alone changes.alone) may

pub may_or : (old : View → Type 0) (w bits : ℕ) → IsReady old (finds_in w (Or w bits)) → (v : View) × (old v × MayChange v op.Or w bits)
unfolding IsReady finds_in Ready
may_or old w bits r = (r.0, (r.1.0, r.1.1.0))

pub may_and : (old : View → Type 0) (w bits : ℕ) → IsReady old (finds_in w (And w bits)) → (v : View) × (old v × MayChange v op.And w bits)
unfolding IsReady finds_in Ready
may_and old w bits r = (r.0, (r.1.0, r.1.1.0))

pub ran_or : (old new : View → Type 0) (w bits found : ℕ) → MadeOrStopped old new (Or w bits) (Ok found) → Runs {T = Unit {0}} old new (finds_in w (Or w bits)) (Ok tt)
unfolding Runs finds_in Ready after_all
ran_or old new w bits found made v seen r =
    let t = made v seen in subst (λ x. new (after v (Or w bits x))) (found_known v w found r.0.known t.1 t.3) t.0

pub ran_and : (old new : View → Type 0) (w bits found : ℕ) → MadeOrStopped old new (And w bits) (Ok found) → Runs {T = Unit {0}} old new (finds_in w (And w bits)) (Ok tt)
unfolding Runs finds_in Ready after_all
ran_and old new w bits found made v seen r =
    let t = made v seen in subst (λ x. new (after v (And w bits x))) (found_known v w found r.0.known t.1 t.3) t.0

pub stopped_in : (old new : View → Type 0) (w : ℕ) (step : ℕ → Step) (stopped : Stopped) → ((found : ℕ) → T (is_counted (step found))) → MadeOrStopped old new step (Err stopped) → Runs {T = Unit {0}} old new (finds_in w step) (Err stopped)
unfolding Runs finds_in
stopped_in old new w step stopped counts made v seen r = let m = made v seen in stops_at_once new v (step (slice_index v.words w)) [] (counts (slice_index v.words w)) m.0 m.1

-- one load of a known word
pub runs_look : (old new : View → Type 0) (w found : ℕ) → Made old new (Load w found) → Runs {T = Unit {0}} old new (looks w) (Ok tt)
unfolding Runs looks Ready after_all
runs_look old new w found made v seen r =
    let m = made v seen in
    subst (λ x. new (after v (Load w x))) (m.1 r.1.0) m.0

-- the first of two sequences is a load that the lane may make
pub allowed_look : (old : View → Type 0) (w : ℕ) → IsReady old (looks w) → (v : View) × (old v × ((found : ℕ) → Allowed v (Load w found)))
unfolding IsReady looks Ready
allowed_look old w r = (r.0, (r.1.0, λ found. r.1.1.0))

-- a sequence chosen by the view, where each view that the memory may be seen as chooses this one
pub ready_by_view : (old : View → Type 0) (choose : View → Sequence) (steps : Sequence) → ((v : View) → old v → Ready v (choose v v) → choose v ≡ steps) → IsReady old (by_view choose) → IsReady old steps
unfolding IsReady by_view
ready_by_view old choose steps is r = (r.0, (r.1.0, subst (λ (s : Sequence). Ready r.0 (s r.0)) (is r.0 r.1.0 r.1.1) r.1.1))

pub runs_by_view : {T : Type 0} (old new : View → Type 0) (choose : View → Sequence) (steps : Sequence) (result : Result T Stopped)
    → ((v : View) → old v → Ready v (choose v v) → choose v ≡ steps) → Runs old new steps result → Runs old new (by_view choose) result
unfolding Runs by_view
runs_by_view old new choose steps result is runs v seen r =
    subst (λ (s : Sequence). Ran new v (s v) result) (sym (is v seen r)) (runs v seen (subst (λ (s : Sequence). Ready v (s v)) (is v seen r) r))

-- the first part is the same whatever the view chooses
pub ready_view_first : (old : View → Type 0) (s : Sequence) (choose : View → Sequence) → IsReady old (by_view (λ v. in_turn s (choose v))) → IsReady old s
unfolding IsReady by_view in_turn
ready_view_first old s choose r = (r.0, (r.1.0, ready_left r.0 (s r.0) (choose r.0 (after_all r.0 (s r.0))) r.1.1))

-- the second part as the view before the first chooses it
pub chosen_behind : (old : View → Type 0) (s t : Sequence) (choose : View → Sequence) → ((v : View) → old v → Ready v (s v) → choose v ≡ t)
    → (v : View) → old v → Ready v (in_turn s (choose v) v) → in_turn s (choose v) ≡ in_turn s t
unfolding in_turn
chosen_behind old s t choose is v seen r = ap (in_turn s) (is v seen (ready_left v (s v) (choose v (after_all v (s v))) r))

module _ (old : View → Type 0) (lane : ℕ) (is_lane : (v : View) → old v → lane ≡ v.lane) (steps : ℕ → Sequence) where
  -- the lane's number is what every view has
  pub lane_ready : IsReady old (by_lane steps) → IsReady old (steps lane)
  unfolding by_lane
  lane_ready r = ready_by_view old (λ v. steps v.lane) (steps lane) (λ v seen ready. ap steps (sym (is_lane v seen))) r

  pub lane_runs : {T : Type 0} (new : View → Type 0) (result : Result T Stopped) → Runs old new (steps lane) result → Runs old new (by_lane steps) result
  unfolding by_lane
  lane_runs new result runs = runs_by_view old new (λ v. steps v.lane) (steps lane) result (λ v seen ready. ap steps (sym (is_lane v seen))) runs

-- so a bound on it holds of the number that was told
pub lane_below : (old : View → Type 0) (lane : ℕ) (s : Sequence) → ((v : View) → old v → lane ≡ v.lane) → ((v : View) → old v → v.lane < 32) → IsReady old s → lane < 32
unfolding IsReady
lane_below old lane s is_lane below r = subst (λ k. k < 32) (sym (is_lane r.0 r.1.0)) (below r.0 r.1.0)

module _ (old : View → Type 0) (w : ℕ) (steps : ℕ → Sequence) where
  -- a known word may be loaded
  pub word_allowed : IsReady old (with_word w steps) → (v : View) × (old v × ((found : ℕ) → Allowed v (Load w found)))
  unfolding with_word
  word_allowed r = allowed_look old w (ready_view_first old (looks w) (λ v. steps (slice_index v.words w)) r)

  module _ (mid : View → Type 0) (value : ℕ) (loaded : Made old mid (Load w value)) where
    word_chosen : (v : View) → old v → Ready v (looks w v) → steps (slice_index v.words w) ≡ steps value
    unfolding looks Ready
    word_chosen v seen r = ap steps (sym ((loaded v seen).1 r.1.0))

    -- what is found is what some view has
    pub word_found : IsReady old (with_word w steps) → (v : View) × (old v × (value ≡ slice_index v.words w))
    unfolding IsReady with_word by_view in_turn looks Ready
    word_found r = (r.0, (r.1.0, (loaded r.0 r.1.0).1 r.1.1.1.0))

    -- and what is found chooses what follows
    pub word_ready : IsReady old (with_word w steps) → IsReady mid (steps value)
    unfolding with_word
    word_ready r =
        ready_then old mid (looks w) (steps value) tt
        (ready_by_view old (λ v. in_turn (looks w) (steps (slice_index v.words w))) (in_turn (looks w) (steps value)) (chosen_behind old (looks w) (steps value) (λ v. steps (slice_index v.words w)) word_chosen) r)
        (runs_look old mid w value loaded)

    pub word_runs : {T : Type 0} (new : View → Type 0) (result : Result T Stopped) → Runs mid new (steps value) result → Runs old new (with_word w steps) result
    unfolding with_word
    word_runs new result runs =
        runs_by_view old new (λ v. in_turn (looks w) (steps (slice_index v.words w))) (in_turn (looks w) (steps value)) result
        (chosen_behind old (looks w) (steps value) (λ v. steps (slice_index v.words w)) word_chosen)
        (runs_then old mid new (looks w) (steps value) tt result (runs_look old mid w value loaded) runs)

module _ (old : View → Type 0) (steps : ℕ → Sequence) where
  pub counted_none : Runs {T = Unit {0}} old old (counted steps 0) (Ok tt)
  unfolding counted
  counted_none = runs_nothing old tt

  ready_before : (j : ℕ) → IsReady old (counted steps (suc j)) → IsReady old (counted steps j)
  unfolding counted
  ready_before j r = ready_first old (counted steps j) (steps j) r

  -- the first so many of those that may be made may be made
  counted_front : (n k m : ℕ) → m ≡ n + k → IsReady old (counted steps m) → IsReady old (counted steps k)
  counted_front zero k m e r = subst (λ j. IsReady old (counted steps j)) (let same : m ≡ k = omega (arith, e) in same) r
  counted_front (suc n) k m e r =
      counted_front n k (n + k) refl
      (ready_before (n + k) (subst (λ j. IsReady old (counted steps j)) (let same : m ≡ suc (n + k) = omega (arith, e) in same) r))

  front : (n k : ℕ) → k < n → IsReady old (counted steps n) → IsReady old (counted steps (suc k))
  front n k below r = counted_front (n - suc k) (suc k) n (omega (arith, below)) r

  pub counted_next : {T : Type 0} (n k : ℕ) (mid : View → Type 0) (answer : T) → k < n → IsReady old (counted steps n) → Runs old mid (counted steps k) (Ok answer) → IsReady mid (steps k)
  unfolding counted
  counted_next n k mid answer below r runs = ready_then old mid (counted steps k) (steps k) answer (front n k below r) runs

  more : {T U : Type 0} (k : ℕ) (mid new : View → Type 0) (answer : T) (result : Result U Stopped) → Runs old mid (counted steps k) (Ok answer) → Runs mid new (steps k) result → Runs old new (counted steps (suc k)) result
  unfolding counted
  more k mid new answer result runs step = runs_then old mid new (counted steps k) (steps k) answer result runs step

  pub counted_more : {T U : Type 0} (k : ℕ) (mid new : View → Type 0) (answer : T) (last : U) → Runs old mid (counted steps k) (Ok answer) → Runs mid new (steps k) (Ok last) → Runs old new (counted steps (k + 1)) (Ok last)
  counted_more k mid new answer last runs step = subst (λ n. Runs old new (counted steps n) (Ok last)) (let e : suc k ≡ k + 1 = omega arith in e) (more k mid new answer (Ok last) runs step)

  stopped_behind : (U : Type 0) (j : ℕ) (new : View → Type 0) (stopped : Stopped) → Runs {T = U} old new (counted steps j) (Err stopped) → Runs {T = U} old new (counted steps (suc j)) (Err stopped)
  unfolding counted
  stopped_behind U j new stopped runs = runs_err U old new (counted steps j) (steps j) stopped (Err stopped) (search rules) runs

  -- stopped in the front, so in all
  stopped_up : (U : Type 0) (n k m : ℕ) (new : View → Type 0) (stopped : Stopped) → m ≡ n + k → Runs {T = U} old new (counted steps k) (Err stopped) → Runs {T = U} old new (counted steps m) (Err stopped)
  stopped_up U zero k m new stopped e runs = subst (λ j. Runs {T = U} old new (counted steps j) (Err stopped)) (let same : k ≡ m = omega (arith, e) in same) runs
  stopped_up U (suc n) k m new stopped e runs =
      subst (λ j. Runs {T = U} old new (counted steps j) (Err stopped)) (let same : suc (n + k) ≡ m = omega (arith, e) in same) (stopped_behind U (n + k) new stopped (stopped_up U n k (n + k) new stopped refl runs))

  pub counted_err : {U : Type 0} (S T : Type 0) (n k : ℕ) (mid new : View → Type 0) (answer : S) (stopped : Stopped) (result : Result U Stopped) → k < n
      → Runs {T = S} old mid (counted steps k) (Ok answer) → Runs {T = T} mid new (steps k) (Err stopped) → IsErr result → Runs old new (counted steps n) result
  counted_err S T n k mid new answer stopped result below runs step error =
      answered_by_error T old new (counted steps n) stopped result error
      (stopped_up T (n - suc k) (suc k) n new stopped (omega (arith, below)) (more k mid new answer (Err stopped) runs step))

-- of so many sequences in turn each may be made from where those before it end
pub counted_ready : (steps : ℕ → Sequence) (v : View) (n k : ℕ) → k < n → Ready v (counted steps n v) → Ready v (counted steps k v) × Ready (after_all v (counted steps k v)) (steps k (after_all v (counted steps k v)))
unfolding counted in_turn
counted_ready steps v zero k below r = absurd (omega (arith, below))
counted_ready steps v (suc n) k below r =
    ⊎_elim
    (λ (same : k ≡ n). subst (λ j. Ready v (counted steps j v) × Ready (after_all v (counted steps j v)) (steps j (after_all v (counted steps j v)))) (sym same)
    (ready_left v (counted steps n v) (steps n (after_all v (counted steps n v))) r, ready_right v (counted steps n v) (steps n (after_all v (counted steps n v))) r))
    (λ (lower : k < n). counted_ready steps v n k lower (ready_left v (counted steps n v) (steps n (after_all v (counted steps n v))) r))
    (eq-or-lt_of_le (let e : k ≤ n = omega (arith, below) in e))
