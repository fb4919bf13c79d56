-- STEPS OF NO PLAN: those of looks and of locks.
use Rattle.std.proofs.Common.{◌≡◌, ℕ, zero, suc, Bool, true, false, List, [], ◌∷◌, ◌++◌, filter, map, refl, sym, ap, ◌∙◌, subst, ⊎_elim}
use Rattle.pm_layout.specs.declared.shape.Shape.{Shape}
use Rattle.pm_view.specs.Steps.{Step}
use Rattle.pm_view.specs.Steps.Step.{Give, Load, Raise, StopSeen}
use Rattle.pm_view.specs.View.{View}
use Rattle.pm_view.specs.Views.{after, after_all}
use Rattle.pm_world.specs.declared.lane.HeldLock.{HeldLock}
use Rattle.pm_lock.specs.Acquiring.{AreFinds}
use Rattle.pm_lock.specs.Objects.{finds, has_lines, looks_at_bitmap}
use Rattle.pm_lock.specs.Raising.{is_raised, raises}
use Rattle.pm_lock.specs.Steps.{AreWaits, gives, refusals, stops, takes, tries, waits}
use Rattle.pm_lock.proofs.Waiting.{all_then}
use Rattle.pm_call.specs.Held.{Looks}
use Rattle.pm_call.specs.LocksGot.{AreGotBy}
use Rattle.pm_call.specs.Quiet.{AreQuiet, WentQuietly, is_quiet}

pub quiet_both : (one two : List Step) → AreQuiet one → AreQuiet two → AreQuiet (one ++ two)
quiet_both [] two a b = b
quiet_both (s ∷ one) two a b = (a.0, quiet_both one two a.1 b)

quiet_map : {A : Type 0} (f : A → Step) → ((x : A) → is_quiet (f x) ≡ true) → (xs : List A)
    → AreQuiet (map f xs)
quiet_map f each [] = tt
quiet_map f each (x ∷ xs) = (each x, quiet_map f each xs)

-- ---- FROM ONE VIEW TO ANOTHER

pub quiet_by : (v : View) (steps : List Step) → AreQuiet steps → WentQuietly v (after_all v steps)
quiet_by v steps quiet = record { steps = steps; quiet = quiet; then = refl }

pub quiet_none : (v : View) → WentQuietly v v
unfolding after_all
quiet_none v = record { steps = []; quiet = tt; then = refl }

pub quiet_one : (v : View) (s : Step) → is_quiet s ≡ true → WentQuietly v (after v s)
unfolding after_all
quiet_one v s is = record { steps = s ∷ []; quiet = (is, tt); then = refl }

pub quiet_then : (u v w : View) → WentQuietly u v → WentQuietly v w → WentQuietly u w
quiet_then u v w one more = record {
  steps = one.steps ++ more.steps;
  quiet = quiet_both one.steps more.steps one.quiet more.quiet;
  then = more.then ∙ ap (λ (y : View). after_all y more.steps) one.then
      ∙ sym (all_then u one.steps more.steps);
}

-- ---- LOOKS

pub looks_quiet : (n : ℕ) (v w : View) → Looks n v w → WentQuietly v w
unfolding Looks
looks_quiet zero v w looks = subst (WentQuietly v) (sym looks) (quiet_none v)
looks_quiet (suc n) v w looks =
    let u : View = looks.0 in
    quiet_then v u w (subst (WentQuietly v) (sym looks.1.then) (quiet_one v (Load _ looks.1.value) refl))
    (looks_quiet n u w looks.2)

bitmap_quiet : (sh : Shape) (c bitmap : ℕ) (b : Bool) → AreQuiet (looks_at_bitmap sh c bitmap b)
bitmap_quiet sh c bitmap true = (refl, tt)
bitmap_quiet sh c bitmap false = tt

pub finds_quiet : (sh : Shape) (locks : List HeldLock) (steps : List Step) → AreFinds sh locks steps
    → AreQuiet steps
unfolding AreFinds
finds_quiet sh [] steps are = subst AreQuiet (sym are) tt
finds_quiet sh (l ∷ locks) steps are = subst AreQuiet (sym are.3)
    (quiet_both (finds sh l.line are.0 are.1) are.2 (refl, bitmap_quiet sh _ are.1 (has_lines are.0))
    (finds_quiet sh locks are.2 are.4))

-- ---- LOCKS

pub takes_quiet : (line : ℕ) (write won : Bool) → is_quiet (takes line write won) ≡ true
takes_quiet line true won = refl
takes_quiet line false won = refl

pub gives_quiet : (locks : List HeldLock) → AreQuiet (gives locks)
gives_quiet locks = quiet_map (λ (l : HeldLock). Give l.line) (λ l. refl) locks

pub tries_quiet : (locks : List HeldLock) → AreQuiet (tries locks)
tries_quiet locks = quiet_map (λ (l : HeldLock). takes l.line l.write true)
    (λ l. takes_quiet l.line l.write true) locks

pub raises_quiet : (writes : ℕ → Bool) (locks : List HeldLock) → AreQuiet (raises writes locks)
raises_quiet writes locks = quiet_map (λ (l : HeldLock). Raise l.line true) (λ l. refl)
    (filter (is_raised writes) locks)

refusals_quiet : (n line : ℕ) (write : Bool) → AreQuiet (refusals n line write)
unfolding refusals
refusals_quiet zero line write = tt
refusals_quiet (suc n) line write =
    (takes_quiet line write false, (refl, refusals_quiet n line write))

pub waits_quiet : (locks : List HeldLock) (steps : List Step) → AreWaits locks steps
    → AreQuiet steps
unfolding AreWaits waits
waits_quiet [] steps are = subst AreQuiet (sym are) tt
waits_quiet (l ∷ locks) steps are = subst AreQuiet (sym are.2)
    (quiet_both (waits are.0 l.line l.write) are.1
    (quiet_both (refusals are.0 l.line l.write) (takes l.line l.write true ∷ [])
    (refusals_quiet are.0 l.line l.write) (takes_quiet l.line l.write true, tt))
    (waits_quiet locks are.1 are.3))

pub stops_quiet : (n line : ℕ) (write : Bool) → AreQuiet (stops n line write)
unfolding stops
stops_quiet n line write =
    quiet_both (refusals n line write) (takes line write false ∷ StopSeen true ∷ [])
    (refusals_quiet n line write) (takes_quiet line write false, (refl, tt))

pub got_quiet : (locks : List HeldLock) (steps : List Step) → AreGotBy locks steps → AreQuiet steps
got_quiet locks steps got = ⊎_elim
    (λ (e : steps ≡ tries locks). subst AreQuiet (sym e) (tries_quiet locks))
    (λ (w : AreWaits locks steps). waits_quiet locks steps w)
    got
