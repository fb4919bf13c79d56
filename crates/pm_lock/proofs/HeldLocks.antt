-- The locks of a lane's list stand.
use Rattle.std.proofs.Common.{◌≡◌, ◌≢◌, ℕ, zero, suc, ◌/◌, ◌<◌, Bool, true, false, take, List, [], ◌∷◌, ◌++◌, eqb, refl, sym, ap, ◌∙◌, subst, arith, eq-eqb}
use Rattle.std.specs.List.{AllByRecursion, list_any}
use Rattle.std.proofs.lemmas.Bool.{both_ways, or_left, or_right}
use Rattle.pm_layout.specs.declared.shape.Shape.{Shape}
use Rattle.pm_layout.specs.Chunks.{words_of}
use Rattle.pm_objects.specs.declared.calls.Want.{Want}
use Rattle.pm_view.specs.Claims.{Claim}
use Rattle.pm_view.specs.View.{View}
use Rattle.pm_world.specs.declared.lane.HeldLock.{HeldLock}
use Rattle.pm_lock.specs.Held.{HeldAreRaised, HeldBefore, HeldGrow, HeldMayBeGiven, HeldMayBeRaised, HeldStay, HoldsEach}
use Rattle.pm_lock.specs.Holding.{AreOnce, IsHeldAs, IsTaken, Rises, took}
use Rattle.pm_lock.specs.Raising.{raised}
use Rattle.pm_lock.specs.Wants.{is_listed, wanted}
use Rattle.pm_lock.proofs.Acquired.{held_as, line_inside, wanted_all, wanted_rises}
use Rattle.pm_lock.proofs.CanBegin.{has_header}
use Rattle.pm_lock.proofs.Holds.{still_locked, still_reads, taken_holds, tries_taken}
use Rattle.pm_lock.proofs.Waiting.{all_then, once_more}
use Rattle.pm_lock.specs.Acquiring.{MayWant}
use Rattle.pm_lock.specs.Steps.{takes, tries}
use Rattle.pm_view.specs.Views.{after, after_all}
use Rattle.pm_world.specs.Lawful.{GiveFits, MayGive}
use Rattle.pm_lock.proofs.Planned.{all_weaker}
use Rattle.pm_lock.proofs.RaisedClaims.{are_raised}

all_append : (P : HeldLock → Type 0) (xs ys : List HeldLock) → AllByRecursion P xs → AllByRecursion P ys → AllByRecursion P (xs ++ ys)
all_append P [] ys a b = b
all_append P (x ∷ xs) ys a b = (a.0, all_append P xs ys a.1 b)

-- ---- no two of one line
rises_once : (locks : List HeldLock) → Rises locks → AreOnce locks
rises_once [] r = tt
rises_once (l ∷ locks) r = (all_weaker (λ (k : HeldLock). l.line < k.line) (λ (k : HeldLock). l.line ≢ k.line) locks (λ k low e. omega (arith, low, e)) r.0, rises_once locks r.1)

once_append : (xs ys : List HeldLock) → AreOnce xs → AreOnce ys → AllByRecursion (λ (x : HeldLock). AllByRecursion (λ (k : HeldLock). x.line ≢ k.line) ys) xs → AreOnce (xs ++ ys)
once_append [] ys a b apart = b
once_append (x ∷ xs) ys a b apart = (all_append (λ (k : HeldLock). x.line ≢ k.line) xs ys a.0 apart.0, once_append xs ys a.1 b apart.1)

in_list : (all locks : List HeldLock) → ((line : ℕ) → list_any (λ (l : HeldLock). eqb l.line line) locks ≡ true → list_any (λ (l : HeldLock). eqb l.line line) all ≡ true)
    → AllByRecursion (λ (x : HeldLock). list_any (λ (l : HeldLock). eqb l.line x.line) all ≡ true) locks
in_list all [] up = tt
in_list all (l ∷ locks) up = (
  up l.line (or_left (eqb l.line l.line) (list_any (λ (k : HeldLock). eqb k.line l.line) locks) (eq-eqb l.line l.line refl)),
  in_list all locks (λ line e. up line (or_right (eqb l.line line) (list_any (λ (k : HeldLock). eqb k.line line) locks) e)),
)

held_took : (plan : List HeldLock) (t : List Claim) (l : HeldLock) → IsHeldAs t l → IsHeldAs (took plan t) l
held_took plan t l h = ((λ w. still_locked plan t l.line (h.0 w)), (λ r. still_reads plan t l.line (h.1 r)))

module _ (v : View) (sh : Shape) (pool : ℕ) (locks : List HeldLock) (new : List ℕ) (wants : List Want) (may : MayWant v sh locks new) where
  -- what is said of each lock that is wanted
  abbrev IsNew : HeldLock → Type 0
  IsNew l = (is_listed locks new l.line ≡ false) × (l.line < words_of v.fixed.shape / 8)

  all_new : AllByRecursion IsNew (wanted sh pool locks new wants)
  all_new = wanted_all sh pool (is_listed locks new) IsNew (λ id line w is free. (free, subst (λ s. line < words_of s / 8) (sym may.shape) (line_inside sh line (has_header sh pool line id is).chunk))) wants [] tt

  rises_all : Rises (wanted sh pool locks new wants)
  rises_all = wanted_rises sh pool (is_listed locks new) wants [] tt

  -- of some of them
  module _ (plan : List HeldLock) (rises : Rises plan) (each : AllByRecursion IsNew plan) where
    apart : AllByRecursion (λ (x : HeldLock). AllByRecursion (λ (k : HeldLock). x.line ≢ k.line) plan) locks
    apart = all_weaker (λ (x : HeldLock). list_any (λ (l : HeldLock). eqb l.line x.line) locks ≡ true) (λ (x : HeldLock). AllByRecursion (λ (k : HeldLock). x.line ≢ k.line) plan) locks
        (λ x there. all_weaker IsNew (λ (k : HeldLock). x.line ≢ k.line) plan (λ k is e. both_ways (is_listed locks new k.line) is.0
        (ap (is_listed locks new) (sym e) ∙ or_left (list_any (λ (l : HeldLock). eqb l.line x.line) locks) (list_any (λ other. eqb other x.line) new) there)) each)
        (in_list locks locks (λ line e. e))

    grow_by : (u : View) → HoldsEach v locks → IsTaken v plan u → HoldsEach u (locks ++ plan)
    grow_by u h taken = subst (λ y. HoldsEach y (locks ++ plan)) (sym taken) (record {
      once = once_append locks plan h.once (rises_once plan rises) apart;
      inside = all_append (λ (l : HeldLock). l.line < words_of v.fixed.shape / 8) locks plan h.inside (all_weaker IsNew (λ (l : HeldLock). l.line < words_of v.fixed.shape / 8) plan (λ l is. is.1) each);
      held = all_append (IsHeldAs (took plan v.claims)) locks plan
          (all_weaker (IsHeldAs v.claims) (IsHeldAs (took plan v.claims)) locks (λ l k. held_took plan v.claims l k) h.held)
          (subst (λ (y : View). AllByRecursion (IsHeldAs y.claims) plan) taken (taken_holds v u plan taken));
    })

take_each : (P : HeldLock → Type 0) (k : ℕ) (locks : List HeldLock) → AllByRecursion P locks → AllByRecursion P (take k locks)
take_each P zero locks all = tt
take_each P (suc k) [] all = tt
take_each P (suc k) (l ∷ locks) all = (all.0, take_each P k locks all.1)

take_rises : (k : ℕ) (locks : List HeldLock) → Rises locks → Rises (take k locks)
take_rises zero locks r = tt
take_rises (suc k) [] r = tt
take_rises (suc k) (l ∷ locks) r = (take_each (λ (k : HeldLock). l.line < k.line) k locks r.0, take_rises k locks r.1)

-- a try that fails leaves what was taken
refused_taken : (v u : View) (locks : List HeldLock) (line : ℕ) (write : Bool) → IsTaken v locks u → IsTaken v locks (after u (takes line write false))
refused_taken v u locks line true taken = ap (λ (y : View). record y { seen = (after u (takes line true false)).seen }) taken
refused_taken v u locks line false taken = ap (λ (y : View). record y { seen = (after u (takes line false false)).seen }) taken

pub held_grow : HeldGrow
held_grow v u sh pool locks new wants may h taken = grow_by v sh pool locks new wants may (wanted sh pool locks new wants) (rises_all v sh pool locks new wants may) (all_new v sh pool locks new wants may) u h taken

pub held_before : HeldBefore
held_before v sh pool locks new wants k line write may h =
    let plan : List HeldLock = wanted sh pool locks new wants in
    let u : View = after_all v (tries (take k plan)) in
    subst (λ y. HoldsEach y (locks ++ take k plan)) (sym (all_then v (tries (take k plan)) (takes line write false ∷ []) ∙ once_more u (takes line write false)))
    (grow_by v sh pool locks new wants may (take k plan) (take_rises k plan (rises_all v sh pool locks new wants may)) (take_each (IsNew v sh pool locks new wants may) k plan (all_new v sh pool locks new wants may)) (after u (takes line write false)) h
    (refused_taken v u (take k plan) line write (tries_taken v (take k plan))))

pub held_may_be_given : HeldMayBeGiven
held_may_be_given v locks idle h = record { once = h.once; each = each locks h.inside h.held } where
  each : (locks : List HeldLock) → AllByRecursion (λ (l : HeldLock). l.line < words_of v.fixed.shape / 8) locks → AllByRecursion (IsHeldAs v.claims) locks → AllByRecursion (λ (l : HeldLock). MayGive v l.line) locks
  each [] inside held = tt
  each (l ∷ locks) inside held = (record { inside = inside.0; held = held_as v.claims l held.0; fits = subst (GiveFits v l.line) (sym idle) tt }, each locks inside.1 held.1)

pub held_stay : HeldStay
held_stay v w locks stays h = subst (λ y. HoldsEach y locks) (sym stays.same) (record {
  once = h.once;
  inside = h.inside;
  held = all_weaker (IsHeldAs v.claims) (IsHeldAs w.claims) locks (λ l k. ((λ e. stays.locked l.line ∙ k.0 e), (λ e. stays.reads l.line ∙ k.1 e))) h.held;
})

pub held_may_be_raised : HeldMayBeRaised
held_may_be_raised v locks early h = record { once = h.once; each = each locks h.inside h.held } where
  each : (locks : List HeldLock) → AllByRecursion (λ (l : HeldLock). l.line < words_of v.fixed.shape / 8) locks → AllByRecursion (IsHeldAs v.claims) locks
      → AllByRecursion (λ (l : HeldLock). l.write ≡ false → Rattle.pm_world.specs.Lawful.MayRaise v l.line) locks
  each [] inside held = tt
  each (l ∷ locks) inside held = ((λ r. record { inside = inside.0; held = held.0.1 r; early = early }), each locks inside.1 held.1)

module _ (writes : ℕ → Bool) where
  lines_kept : (P : ℕ → Type 0) (locks : List HeldLock) → AllByRecursion (λ (l : HeldLock). P l.line) locks → AllByRecursion (λ (l : HeldLock). P l.line) (raised writes locks)
  lines_kept P [] all = tt
  lines_kept P (l ∷ locks) all = (all.0, lines_kept P locks all.1)

  once_kept : (locks : List HeldLock) → AreOnce locks → AreOnce (raised writes locks)
  once_kept [] once = tt
  once_kept (l ∷ locks) once = (lines_kept (λ line. l.line ≢ line) locks once.0, once_kept locks once.1)

pub held_are_raised : HeldAreRaised
held_are_raised v writes locks h = let r = are_raised writes v locks in record {
  once = once_kept writes locks h.once;
  inside = subst (λ (y : View). AllByRecursion (λ (l : HeldLock). l.line < words_of y.fixed.shape / 8) (raised writes locks)) (sym r.same) (lines_kept writes (λ line. line < words_of v.fixed.shape / 8) locks h.inside);
  held = r.held h.held;
}
