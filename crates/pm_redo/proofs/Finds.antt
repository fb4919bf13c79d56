-- Entries are applied one after another, for what each finds.
use Rattle.std.proofs.Common.{◌≡◌, ℕ, zero, suc, ◌+◌, ◌/◌, ◌<◌, cond, ◌==◌, List, length, refl, sym, ap, ◌∙◌, subst, arith, rules, eq-eqb, ne_eqb, Result, Ok, Err, IsErr}
use Rattle.std.proofs.lemmas.Bool.{cond-true, cond-false}
use Rattle.pm_memory.specs.declared.lane_mem.Stopped.{Stopped}
use Rattle.pm_record.specs.declared.redo.Op.TheVariants.{Set, Or, And}
use Rattle.pm_record.specs.declared.redo.Redo.{Redo}
use Rattle.pm_view.specs.View.{View}
use Rattle.pm_plan.specs.Plans.{IsMade, IsReady, Plan, Runs, RunsFinding, ands, in_turn, ors, persists_all, repeated, stores, IsReadyFor, RunsFor}
use Rattle.pm_plan.proofs.Plans.{answered_by_error, ready_first, ready_then, runs_err, runs_then, repeated_err, repeated_more, repeated_next}
use Rattle.pm_redo.specs.Entries.{entry_at}
use Rattle.pm_redo.specs.Plans.{applies_all, applies_each, applies_entry, does}

-- ---- one entry, by its operation
pub set_is : (e : Redo) (found : ℕ) → e.op ≡ Set → applies_entry e found ≡ stores (e.place / 8)
    e.value
unfolding applies_entry
set_is e found is = ap (λ op. does op (e.place / 8) e.value found) is

pub or_is : (e : Redo) (found : ℕ) → e.op ≡ Or → applies_entry e found ≡ ors (e.place / 8) e.value
    found
unfolding applies_entry
or_is e found is = ap (λ op. does op (e.place / 8) e.value found) is

pub and_is : (e : Redo) (found : ℕ) → e.op ≡ And → applies_entry e found ≡ ands (e.place / 8)
    e.value found
unfolding applies_entry
and_is e found is = ap (λ op. does op (e.place / 8) e.value found) is

pub finding_same : (old new : View → Type 0) (p q : ℕ → Plan) (result : Result ℕ Stopped)
    → ((found : ℕ) → p found ≡ q found) → RunsFinding old new q result
    → RunsFinding old new p result
finding_same old new p q (Ok found) same runs =
    subst (λ (s : Plan). Runs {T = ℕ} old new s (Ok found)) (sym (same found)) runs
finding_same old new p q (Err stopped) same runs = λ found. subst
    (λ (s : Plan). Runs {T = ℕ} old new s (Err stopped)) (sym (same found)) (runs found)

-- whatever was answered, the plan was carried out
pub runs_any : (T U : Type 0) (old new : View → Type 0) (s : Plan) (answer : T) (other : U)
    → Runs old new s (Ok answer) → Runs old new s (Ok other)
unfolding Runs
runs_any T U old new s answer other runs = runs

pub finding_none : (T : Type 0) (old new : View → Type 0) (p : ℕ → Plan) (s : Plan)
    (stopped : Stopped) (result : Result ℕ Stopped) → ((found : ℕ) → p found ≡ s) → IsErr result
    → Runs {T = T} old new s (Err stopped) → RunsFinding old new p result
finding_none T old new p s stopped (Ok found) same error runs = absurd (search rules)
finding_none T old new p s stopped (Err e) same error runs = λ found. subst
    (λ (q : Plan). Runs {T = ℕ} old new q (Err e)) (sym (same found))
    (answered_by_error T old new s stopped (Err e) (search rules) runs)

repeated_same : (p q : ℕ → Plan) (n : ℕ) → ((k : ℕ) → k < n → p k ≡ q k) → repeated p n ≡ repeated q
    n
unfolding repeated
repeated_same p q zero same = refl
repeated_same p q (suc n) same = ap (λ s. in_turn s (p n))
    (repeated_same p q n (λ k low. same k (omega (arith, low)))) ∙ ap (in_turn (repeated q n))
    (same n (omega arith))

-- ---- many
module _ (old : View → Type 0) (entries : List Redo) where
  abbrev pub plans : (ℕ → ℕ) → ℕ → Plan
  plans found i = applies_entry (entry_at entries i) (found i)

  -- this is found next
  abbrev with_found : (ℕ → ℕ) → ℕ → ℕ → ℕ → ℕ
  with_found found k x i = cond (i == k) x (found i)

  still : (found : ℕ → ℕ) (k x : ℕ) → repeated (plans found) k ≡ repeated
      (plans (with_found found k x)) k
  still found k x = repeated_same (plans found) (plans (with_found found k x)) k
      (λ i low. ap (applies_entry (entry_at entries i))
      (sym (cond-false (i == k) x (found i) (ne_eqb i k (λ e. omega (arith, e, low))))))

  here : (found : ℕ → ℕ) (k x : ℕ) → plans (with_found found k x) k ≡ applies_entry
      (entry_at entries k) x
  here found k x = ap (applies_entry (entry_at entries k))
      (cond-true (k == k) x (found k) (eq-eqb k k refl))

  made_still : (found : ℕ → ℕ) (k x : ℕ) (mid : View → Type 0)
      → IsMade old mid (repeated (plans found) k)
      → IsMade old mid (repeated (plans (with_found found k x)) k)
  made_still found k x mid made = subst (IsMade old mid) (still found k x) made

  pub next_ready : (found : ℕ → ℕ) (k : ℕ) (mid : View → Type 0)
      → IsReadyFor old (applies_each entries) → k < length entries
      → IsMade old mid (repeated (plans found) k) → (x : ℕ)
      → IsReady mid (applies_entry (entry_at entries k) x)
  unfolding applies_each IsReadyFor
  next_ready found k mid ready low made x =
      subst (IsReady mid) (here found k x) (repeated_next old (plans (with_found found k x))
      (length entries) k mid tt low (ready (with_found found k x))
      (made_still found k x mid made))

  pub next_made : (found : ℕ → ℕ) (k x : ℕ) (mid new : View → Type 0)
      → IsMade old mid (repeated (plans found) k)
      → Runs {T = ℕ} mid new (applies_entry (entry_at entries k) x) (Ok x) → (f : ℕ → ℕ)
      × IsMade old new (repeated (plans f) (k + 1))
  next_made found k x mid new made runs = (
    with_found found k x,
    repeated_more old (plans (with_found found k x)) k mid new tt tt (made_still found k x mid made)
        (runs_any ℕ (Unit {0}) mid new (plans (with_found found k x) k) x tt
        (subst (λ (s : Plan). Runs {T = ℕ} mid new s (Ok x)) (sym (here found k x)) runs)),
  )

  pub next_err : (found : ℕ → ℕ) (k : ℕ) (mid new : View → Type 0) (stopped : Stopped)
      (result : Result (Unit {0}) Stopped) → k < length entries
      → IsMade old mid (repeated (plans found) k)
      → ((x : ℕ) → Runs {T = ℕ} mid new (applies_entry (entry_at entries k) x) (Err stopped))
      → IsErr result → RunsFor old new (applies_each entries) result
  unfolding applies_each RunsFor
  next_err found k mid new stopped result low made runs error = (
    with_found found k 0,
    repeated_err old (plans (with_found found k 0)) (Unit {0}) ℕ (length entries) k mid new tt
        stopped result low (made_still found k 0 mid made)
        (subst (λ (s : Plan). Runs {T = ℕ} mid new s (Err stopped)) (sym (here found k 0)) (runs 0))
        error,
  )

  pub all_made : (found : ℕ → ℕ) (k : ℕ) (new : View → Type 0) → k ≡ length entries
      → IsMade old new (repeated (plans found) k) → RunsFor {T = Unit {0}} old new
      (applies_each entries) (Ok tt)
  unfolding applies_each RunsFor
  all_made found k new is made =
      (found, subst (λ n. Runs {T = Unit {0}} old new (repeated (plans found) n) (Ok tt)) is made)

-- ---- and made persistent
module _ (old : View → Type 0) (entries : List Redo) where
  pub told_ready : IsReadyFor old (applies_all entries) → IsReadyFor old (applies_each entries)
  unfolding applies_all IsReadyFor
  told_ready ready found = ready_first old (applies_each entries found) persists_all (ready found)

  pub told_next : (mid : View → Type 0) → IsReadyFor old (applies_all entries)
      → RunsFor {T = Unit {0}} old mid (applies_each entries) (Ok tt) → IsReady mid persists_all
  unfolding applies_all IsReadyFor RunsFor
  told_next mid ready told = ready_then old mid (applies_each entries told.0) persists_all tt
      (ready told.0) told.1

  pub told_err : (mid : View → Type 0) (stopped : Stopped) (result : Result (Unit {0}) Stopped)
      → IsErr result → RunsFor {T = Unit {0}} old mid (applies_each entries) (Err stopped)
      → RunsFor old mid (applies_all entries) result
  unfolding applies_all RunsFor
  told_err mid stopped result error told = (
    told.0,
    runs_err (Unit {0}) old mid (applies_each entries told.0) persists_all stopped result
        error told.1,
  )

  pub told_then : (mid new : View → Type 0) (result : Result (Unit {0}) Stopped)
      → RunsFor {T = Unit {0}} old mid (applies_each entries) (Ok tt) → Runs mid new persists_all
      result → RunsFor old new (applies_all entries) result
  unfolding applies_all RunsFor
  told_then mid new result told second = (
    told.0,
    runs_then old mid new (applies_each entries told.0) persists_all tt result told.1
        second,
  )
