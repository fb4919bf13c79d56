-- Many locks: which may be taken next, and given back next.
use Rattle.std.proofs.Common.{◌≡◌, ◌≢◌, ℕ, zero, suc, ◌+◌, ◌<◌, Bool, true, false, not, ◌==◌, ◌&&◌, ◌||◌, List, [], ◌∷◌, ◌++◌, length, take, get_or, refl, sym, ap, ◌∙◌, subst, arith, ne_eqb, eq-eqb}
use Rattle.std.specs.List.{AllByRecursion}
use Rattle.std.proofs.lemmas.Bool.{and_left, and_right, and_from, or_from, or_parts, or_left, or_right, both_ways}
use Rattle.std.proofs.lemmas.List.{append_assoc, append-nil, take_more, map-append}
use Rattle.pm_view.specs.Claims.{Claim, Took, Gave, found, header_in, holds, locked, reads}
use Rattle.pm_view.specs.Log.{Phase, Idle, Open, Drawn, Sealing, Applying, Clearing, Retiring, Voiding}
use Rattle.pm_view.specs.Steps.{Step}
use Rattle.pm_view.specs.Steps.Step.{Give}
use Rattle.pm_view.specs.View.{View}
use Rattle.pm_view.specs.Views.{after, after_all}
use Rattle.pm_world.specs.Lawful.{GiveFits, MayGive, MayTake}
use Rattle.pm_world.specs.declared.lane.HeldLock.{HeldLock}
use Rattle.pm_lock.specs.Holding.{AreOnce, IsGiven, IsHeldAs, IsTaken, MayGiveAll, MayTakeAll, Rises, took}
use Rattle.pm_lock.specs.Locking.{lock_at, no_lock}
use Rattle.pm_lock.specs.Steps.{AreWaits, gives, takes, tries, waits}
use Rattle.pm_lock.proofs.Waiting.{all_then, taken_so, waited_so}

-- ---- what was taken
pub taken_on : (v w u : View) (l : HeldLock) (locks : List HeldLock) → w ≡ record v { claims = Took l.line l.write ∷ v.claims; seen = w.seen } → IsTaken w locks u → IsTaken v (l ∷ locks) u
taken_on v w u l locks a b = b ∙ ap (λ (y : View). record y { claims = took locks y.claims; seen = u.seen }) a

pub waits_taken : (v : View) (locks : List HeldLock) (steps : List Step) → AreWaits locks steps → IsTaken v locks (after_all v steps)
unfolding AreWaits after_all
waits_taken v [] steps are = subst (λ (ss : List Step). IsTaken v [] (after_all v ss)) (sym are) refl
waits_taken v (l ∷ locks) steps are =
    let n : ℕ = are.0 in let rest : List Step = are.1 in
    let w : View = after_all v (waits n l.line l.write) in
    let e : after_all v steps ≡ after_all w rest = ap (after_all v) are.2 ∙ all_then v (waits n l.line l.write) rest in
    subst (IsTaken v (l ∷ locks)) (sym e) (taken_on v w (after_all w rest) l locks (waited_so n v l.line l.write) (waits_taken w locks rest are.3))

pub tries_taken : (v : View) (locks : List HeldLock) → IsTaken v locks (after_all v (tries locks))
unfolding after_all
tries_taken v [] = refl
tries_taken v (l ∷ locks) = taken_on v (after v (takes l.line l.write true)) (after_all v (tries (l ∷ locks))) l locks
    (taken_so v l.line l.write ∙ ap (λ seen. record v { claims = Took l.line l.write ∷ v.claims; seen = seen }) (sym (ap (λ (y : View). y.seen) (taken_so v l.line l.write)))) (tries_taken (after v (takes l.line l.write true)) locks)

pub still_locked : (locks : List HeldLock) (t : List Claim) (line : ℕ) → locked t line ≡ true → locked (took locks t) line ≡ true
still_locked [] t line e = e
still_locked (l ∷ locks) t line e = still_locked locks (Took l.line l.write ∷ t) line (or_right (l.write && (l.line == line)) (locked t line) e)

pub still_reads : (locks : List HeldLock) (t : List Claim) (line : ℕ) → reads t line ≡ true → reads (took locks t) line ≡ true
still_reads [] t line e = e
still_reads (l ∷ locks) t line e = still_reads locks (Took l.line l.write ∷ t) line (or_right (not l.write && (l.line == line)) (reads t line) e)

took_holds : (locks : List HeldLock) (t : List Claim) → AllByRecursion (IsHeldAs (took locks t)) locks
took_holds [] t = tt
took_holds (l ∷ locks) t = (
  (
    (λ w. still_locked locks (Took l.line l.write ∷ t) l.line (or_left (l.write && (l.line == l.line)) (locked t l.line) (and_from l.write (l.line == l.line) w (eq-eqb l.line l.line refl)))),
    (λ w. still_reads locks (Took l.line l.write ∷ t) l.line (or_left (not l.write && (l.line == l.line)) (reads t l.line) (and_from (not l.write) (l.line == l.line) (ap not w) (eq-eqb l.line l.line refl)))),
  ),
  took_holds locks (Took l.line l.write ∷ t),
)

pub taken_holds : (v w : View) (locks : List HeldLock) → IsTaken v locks w → AllByRecursion (IsHeldAs w.claims) locks
taken_holds v w locks is = subst (λ t. AllByRecursion (IsHeldAs t) locks) (sym (ap (λ (y : View). y.claims) is)) (took_holds locks v.claims)

-- ---- the next may be taken: it is above those before it
at_index : {A : Type 0} (P : A → Type 0) (xs : List A) (d : A) (k : ℕ) → AllByRecursion P xs → k < length xs → P (get_or xs k d)
at_index P [] d k all low = absurd (omega (arith, low))
at_index P (x ∷ xs) d zero all low = all.0
at_index P (x ∷ xs) d (suc k) all low = at_index P xs d k all.1 (omega (arith, low))

not_held : (m line : ℕ) (write : Bool) (t : List Claim) → m ≢ line → holds t line ≡ false → holds (Took m write ∷ t) line ≡ false
not_held m line write t other free = let p = or_parts (locked t line) (reads t line) free in
    or_from ((write && (m == line)) || locked t line) ((not write && (m == line)) || reads t line)
    (or_from (write && (m == line)) (locked t line) (and_right write (m == line) (ne_eqb m line other)) p.0) (or_from (not write && (m == line)) (reads t line) (and_right (not write) (m == line) (ne_eqb m line other)) p.1)

next_free : (locks : List HeldLock) (t : List Claim) (k : ℕ) → Rises locks → k < length locks → holds t (lock_at locks k).line ≡ false → holds (took (take k locks) t) (lock_at locks k).line ≡ false
next_free [] t k rises low free = absurd (omega (arith, low))
next_free (l ∷ locks) t zero rises low free = free
next_free (l ∷ locks) t (suc k) rises low free = next_free locks (Took l.line l.write ∷ t) k rises.1 (omega (arith, low))
    (not_held l.line (lock_at locks k).line l.write t (λ e. let above = at_index (λ (q : HeldLock). l.line < q.line) locks no_lock k rises.0 (omega (arith, low)) in omega (arith, e, above)) free)

pub may_next : (v u : View) (locks : List HeldLock) (k : ℕ) → MayTakeAll v locks → k < length locks → IsTaken v (take k locks) u → MayTake u (lock_at locks k).line
may_next v u locks k may low is = let m = at_index (λ (l : HeldLock). MayTake v l.line) locks no_lock k may.each low in
    subst (λ (y : View). MayTake y (lock_at locks k).line) (sym is) (record { inside = m.inside; free = next_free locks v.claims k may.rises low m.free; early = m.early })

-- ---- waits and tries grow at their end
pub waits_snoc : (locks : List HeldLock) (steps : List Step) (l : HeldLock) (n : ℕ) → AreWaits locks steps → AreWaits (locks ++ l ∷ []) (steps ++ waits n l.line l.write)
unfolding AreWaits
waits_snoc [] steps l n are = (n, [], (ap (λ s. s ++ waits n l.line l.write) are ∙ sym (append-nil (waits n l.line l.write))), refl)
waits_snoc (k ∷ locks) steps l n are = (are.0, (are.1 ++ waits n l.line l.write), (ap (λ s. s ++ waits n l.line l.write) are.2 ∙ append_assoc (waits are.0 k.line k.write) are.1 (waits n l.line l.write)), waits_snoc locks are.1 l n are.3)

pub no_waits : AreWaits [] []
unfolding AreWaits
no_waits = refl

-- ---- giving back
pub gives_given : (v : View) (locks : List HeldLock) → IsGiven v locks (after_all v (gives locks))
unfolding after_all
gives_given v [] = refl
gives_given v (l ∷ locks) = gives_given (after v (Give l.line)) locks

still_held : (m line : ℕ) (t : List Claim) → m ≢ line → holds t line ≡ true → holds (Gave m ∷ t) line ≡ true
still_held m line t other e = ap (λ b. (not b && locked t line) || (not b && reads t line)) (ne_eqb m line other) ∙ e

still_unfound : (v : View) (line m : ℕ) (ph : Phase) → GiveFits v line ph → GiveFits (record v { claims = Gave m ∷ v.claims }) line ph
still_unfound v line m Idle fits = fits
still_unfound v line m Open fits = ((λ B e. fits.0 B (Rattle.std.proofs.lemmas.Bool.and_parts (not (m == header_in v.fixed.shape v.claims B)) (found v.fixed.shape v.claims B) e).1), fits.1)
still_unfound v line m (Drawn n) fits = fits
still_unfound v line m (Sealing n) fits = fits
still_unfound v line m (Applying todo) fits = fits
still_unfound v line m Clearing fits = fits
still_unfound v line m (Retiring n) fits = fits
still_unfound v line m Voiding fits = fits

given_rest : (v : View) (m : ℕ) (locks : List HeldLock) → AllByRecursion (λ (k : HeldLock). m ≢ k.line) locks → AllByRecursion (λ (l : HeldLock). MayGive v l.line) locks → AllByRecursion (λ (l : HeldLock). MayGive (record v { claims = Gave m ∷ v.claims }) l.line) locks
given_rest v m [] apart each = tt
given_rest v m (l ∷ locks) apart each = (record { inside = each.0.inside; held = still_held m l.line v.claims apart.0 each.0.held; fits = still_unfound v l.line m v.log.phase each.0.fits }, given_rest v m locks apart.1 each.1)

next_given : (v : View) (locks : List HeldLock) (k : ℕ) → AreOnce locks → AllByRecursion (λ (l : HeldLock). MayGive v l.line) locks → k < length locks → MayGive (after_all v (gives (take k locks))) (lock_at locks k).line
unfolding after_all
next_given v [] k once each low = absurd (omega (arith, low))
next_given v (l ∷ locks) zero once each low = each.0
next_given v (l ∷ locks) (suc k) once each low = next_given (record v { claims = Gave l.line ∷ v.claims }) locks k once.1 (given_rest v l.line locks once.0 each.1) (omega (arith, low))

pub may_give_next : (v : View) (locks : List HeldLock) (k : ℕ) → MayGiveAll v locks → k < length locks → MayGive (after_all v (gives (take k locks))) (lock_at locks k).line
may_give_next v locks k may low = next_given v locks k may.once may.each low

pub gives_more : (v : View) (locks : List HeldLock) (k : ℕ) → k < length locks → after (after_all v (gives (take k locks))) (Give (lock_at locks k).line) ≡ after_all v (gives (take (k + 1) locks))
unfolding after_all
gives_more v locks k low = sym (ap (λ ls. after_all v (gives ls)) (take_more locks k no_lock low) ∙ (ap (after_all v) (map-append (λ (l : HeldLock). Give l.line) (take k locks) (lock_at locks k ∷ [])) ∙ all_then v (gives (take k locks)) (Give (lock_at locks k).line ∷ [])))
