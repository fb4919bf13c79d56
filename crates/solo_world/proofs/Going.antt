-- Which views a sequence leads from which to which, each step being lawful.
use Rattle.std.proofs.Common.{◌≡◌, ◌+◌, ℕ, zero, suc, ◌<◌, sym, subst, arith}
use Rattle.solo_view.proofs.Sequences.{after_all-append}
use Rattle.solo_view.specs.Steps.{Step}
use Rattle.solo_view.specs.View.{View}
use Rattle.solo_view.specs.Views.{after, after_all}
use Rattle.solo_world.specs.Lawful.{Allowed}
use Rattle.solo_world.specs.Sequences.{Sequence, nothing, one, in_turn, counted, by_view, IsForeseen, Ready}
use Rattle.solo_world.proofs.Sequencing.{ready_both}

-- from each view of which the first holds the lane may make the sequence, and the second holds of where it ends
abbrev pub Goes : (View → Type 0) → Sequence → (View → Type 0) → Type 0
Goes P steps Q = (v : View) → P v → Ready v (steps v) × Q (after_all v (steps v))

pub goes_nothing : (P : View → Type 0) → Goes P nothing P
unfolding nothing Ready after_all
goes_nothing P v p = (tt, p)

pub goes_one : (P Q : View → Type 0) (s : Step) → ((v : View) → P v → Allowed v s × IsForeseen v s × Q (after v s)) → Goes P (one s) Q
unfolding one Ready after_all
goes_one P Q s step v p = let r = step v p in ((r.0, r.1, tt), r.2)

pub goes_then : (P Q R : View → Type 0) (s t : Sequence) → Goes P s Q → Goes Q t R → Goes P (in_turn s t) R
unfolding in_turn
goes_then P Q R s t first second v p =
    let a = first v p in let b = second (after_all v (s v)) a.1 in
    (ready_both v (s v) (t (after_all v (s v))) a.0 b.0, subst R (sym (after_all-append v (s v) (t (after_all v (s v))))) b.1)

pub goes_by_view : (P Q : View → Type 0) (choose : View → Sequence) → ((v : View) → P v → Ready v (choose v v) × Q (after_all v (choose v v))) → Goes P (by_view choose) Q
unfolding by_view
goes_by_view P Q choose steps v p = steps v p

-- a sequence for each number, where each leads on from the one before
pub goes_counted : (P : ℕ → View → Type 0) (steps : ℕ → Sequence) (n : ℕ) → ((k : ℕ) → k < n → Goes (P k) (steps k) (P (k + 1))) → Goes (P 0) (counted steps n) (P n)
unfolding counted
goes_counted P steps zero each = goes_nothing (P 0)
goes_counted P steps (suc n) each =
    goes_then (P 0) (P n) (P (suc n)) (counted steps n) (steps n) (goes_counted P steps n (λ k below. each k (omega (arith, below))))
    (λ v p. let r = each n (omega arith) v p in (r.0, subst (λ k. P k (after_all v (steps n v))) (let e : n + 1 ≡ suc n = omega arith in e) r.1))

-- more is known before, and less asked behind
pub goes_weaker : (P P' Q Q' : View → Type 0) (s : Sequence) → ((v : View) → P' v → P v) → ((v : View) → Q v → Q' v) → Goes P s Q → Goes P' s Q'
goes_weaker P P' Q Q' s before behind goes v p = let r = goes v (before v p) in (r.0, behind _ r.1)
