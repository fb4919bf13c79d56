-- WHAT RAISED LOCKS LEAVE of a view.
use Rattle.std.proofs.Common.{◌≡◌, ◌≢◌, ℕ, Bool, true, false, not, cond, ◌==◌, ◌||◌, List, [], ◌∷◌, map, refl, sym, ap, ◌∙◌, subst, eq-eqb, ne_eqb}
use Rattle.std.specs.Prelude.{filter}
use Rattle.std.specs.List.{AllByRecursion}
use Rattle.std.proofs.lemmas.Bool.{and_from, and_parts, both_ways, or_left, or_right}
use Rattle.pm_view.specs.Claims.{Claim, Raised, locked, reads}
use Rattle.pm_view.specs.Steps.Step.{Raise}
use Rattle.pm_view.specs.View.{View}
use Rattle.pm_view.specs.Views.{after, after_all}
use Rattle.pm_world.specs.declared.lane.HeldLock.{HeldLock}
use Rattle.pm_lock.specs.Holding.{IsHeldAs}
use Rattle.pm_lock.specs.Locking.{lock_of}
use Rattle.pm_lock.specs.Raising.{AreRaised, is_raised, raised, raises, rose}

rose_on : (v w u : View) (l : HeldLock) (locks : List HeldLock) → w ≡ record v { claims = Raised l.line ∷ v.claims; seen = w.seen } → u ≡ record w { claims = rose locks w.claims; seen = u.seen } → u ≡ record v { claims = rose (l ∷ locks) v.claims; seen = u.seen }
rose_on v w u l locks a b = b ∙ ap (λ (y : View). record y { claims = rose locks y.claims; seen = u.seen }) a

rose_so : (locks : List HeldLock) (v : View) → after_all v (map (λ (l : HeldLock). Raise l.line true) locks) ≡ record v { claims = rose locks v.claims; seen = (after_all v (map (λ (l : HeldLock). Raise l.line true) locks)).seen }
unfolding after_all
rose_so [] v = refl
rose_so (l ∷ locks) v = rose_on v (after v (Raise l.line true)) (after_all v (map (λ (l : HeldLock). Raise l.line true) (l ∷ locks))) l locks refl (rose_so locks (after v (Raise l.line true)))

locked_rose : (locks : List HeldLock) (t : List Claim) (line : ℕ) → locked t line ≡ true → locked (rose locks t) line ≡ true
locked_rose [] t line e = e
locked_rose (l ∷ locks) t line e = locked_rose locks (Raised l.line ∷ t) line (or_right (l.line == line) (locked t line) e)

reads_rose : (locks : List HeldLock) (t : List Claim) (line : ℕ) → AllByRecursion (λ (l : HeldLock). l.line ≢ line) locks → reads t line ≡ true → reads (rose locks t) line ≡ true
reads_rose [] t line apart e = e
reads_rose (l ∷ locks) t line apart e = reads_rose locks (Raised l.line ∷ t) line apart.1 (and_from (not (l.line == line)) (reads t line) (ap not (ne_eqb l.line line apart.0)) e)

module _ (writes : ℕ → Bool) where
  -- each that is raised is locked
  rose_has : (locks : List HeldLock) (t : List Claim) → AllByRecursion (λ (l : HeldLock). is_raised writes l ≡ true → locked (rose (filter (is_raised writes) locks) t) l.line ≡ true) locks
  rose_has [] t = tt
  rose_has (l ∷ locks) t = at (filter (is_raised writes) locks) (λ t. rose_has locks t) (is_raised writes l) refl where
    at : (rest : List HeldLock) → ((t : List Claim) → AllByRecursion (λ (k : HeldLock). is_raised writes k ≡ true → locked (rose rest t) k.line ≡ true) locks) → (b : Bool) → is_raised writes l ≡ b
        → (is_raised writes l ≡ true → locked (rose (cond b (l ∷ rest) rest) t) l.line ≡ true) × AllByRecursion (λ (k : HeldLock). is_raised writes k ≡ true → locked (rose (cond b (l ∷ rest) rest) t) k.line ≡ true) locks
    at rest all true e = ((λ _. locked_rose rest (Raised l.line ∷ t) l.line (or_left (l.line == l.line) (locked t l.line) (eq-eqb l.line l.line refl))), all (Raised l.line ∷ t))
    at rest all false e = ((λ is. absurd (both_ways (is_raised writes l) e is)), all t)

  -- a line that is not to be written is none of those that are raised
  apart_from : (locks : List HeldLock) (line : ℕ) → writes line ≡ false → AllByRecursion (λ (l : HeldLock). l.line ≢ line) (filter (is_raised writes) locks)
  apart_from [] line no_ = tt
  apart_from (l ∷ locks) line no_ = at (apart_from locks line no_) (is_raised writes l) refl where
    at : AllByRecursion (λ (l : HeldLock). l.line ≢ line) (filter (is_raised writes) locks) → (b : Bool) → is_raised writes l ≡ b → AllByRecursion (λ (k : HeldLock). k.line ≢ line) (cond b (l ∷ filter (is_raised writes) locks) (filter (is_raised writes) locks))
    at rest true e = ((λ same. both_ways (writes line) no_ (ap writes (sym same) ∙ (and_parts (not l.write) (writes l.line) e).1)), rest)
    at rest false e = rest

  one_held : (all : List HeldLock) (t : List Claim) (l : HeldLock) → (is_raised writes l ≡ true → locked (rose (filter (is_raised writes) all) t) l.line ≡ true) → IsHeldAs t l → IsHeldAs (rose (filter (is_raised writes) all) t) (lock_of l.line (l.write || writes l.line))
  one_held all t l up held = at l.write refl (writes l.line) refl where
    at : (a : Bool) → l.write ≡ a → (b : Bool) → writes l.line ≡ b → IsHeldAs (rose (filter (is_raised writes) all) t) (lock_of l.line (a || b))
    at true e b f = ((λ w. locked_rose (filter (is_raised writes) all) t l.line (held.0 e)), (λ r. absurd (both_ways true r refl)))
    at false e true f = ((λ w. up (and_from (not l.write) (writes l.line) (ap not e) f)), (λ r. absurd (both_ways true r refl)))
    at false e false f = ((λ w. absurd (both_ways false refl w)), (λ r. reads_rose (filter (is_raised writes) all) t l.line (apart_from all l.line f) (held.1 e)))

  all_held : (all locks : List HeldLock) (t : List Claim) → AllByRecursion (λ (l : HeldLock). is_raised writes l ≡ true → locked (rose (filter (is_raised writes) all) t) l.line ≡ true) locks → AllByRecursion (IsHeldAs t) locks → AllByRecursion (IsHeldAs (rose (filter (is_raised writes) all) t)) (raised writes locks)
  all_held all [] t up held = tt
  all_held all (l ∷ locks) t up held = (one_held all t l up.0 held.0, all_held all locks t up.1 held.1)

  pub are_raised : (v : View) (locks : List HeldLock) → AreRaised v writes locks (after_all v (raises writes locks))
  are_raised v locks = let e = rose_so (filter (is_raised writes) locks) v in record {
    same = e;
    held = λ held. subst (λ t. AllByRecursion (IsHeldAs t) (raised writes locks)) (sym (ap (λ (y : View). y.claims) e)) (all_held locks locks v.claims (rose_has locks v.claims) held);
  }
