-- Steps that leave a lane with as many entries draw no number.
use Rattle.std.proofs.Common.{◌≡◌, ◌≤◌, List, [], ◌∷◌, ◌++◌, length, refl, ap, arith, length-append}
use Rattle.solo_crash.specs.HeldHistory.{DrawsEnded}
use Rattle.solo_view.specs.Log.{Phase}
use Rattle.solo_view.specs.Log.Phase.{Idle, Open, Drawn, Sealing, Applying, Clearing, Retiring}
use Rattle.solo_view.specs.Steps.{Step}
use Rattle.solo_view.specs.Steps.Step.{Load, Store, Or, And, Flush, Drain, TakeWrite, TakeRead, Raise, Give, ZoneTry, ZoneGive, Occupied, Occupy, Vacate, Draw, NumberSeen, StopSeen, SetStop, Tell}
use Rattle.solo_view.specs.View.{View}
use Rattle.solo_view.specs.Views.{after, after_all, begun}
use Rattle.solo_lock.specs.Leading.{DrawEnded}

entries_begun : (phase : Phase) (v : View) → (begun phase v).entries ≡ v.entries
entries_begun Idle v = refl
entries_begun (Open slot pair) v = refl
entries_begun Drawn v = refl
entries_begun Sealing v = refl
entries_begun (Applying applied) v = refl
entries_begun Clearing v = refl
entries_begun Retiring v = refl

-- a step keeps the entries, or draws one more
pub kept : (v : View) (s : Step) → length v.entries ≤ length (after v s).entries
kept v (Load w x) = omega arith
kept v (Store w x) = omega arith
kept v (Or w bits found) = omega arith
kept v (And w bits found) = omega arith
kept v (Flush line) = omega arith
kept v Drain = omega arith
kept v (TakeWrite line won) = omega arith
kept v (TakeRead line won) = omega arith
kept v (Raise line won) = omega arith
kept v (Give line) = omega arith
kept v (ZoneTry zone won) = omega arith
kept v (ZoneGive zone) = omega arith
kept v (Occupied at found) = omega arith
kept v (Occupy at bits won) = omega arith
kept v (Vacate at bits) = omega arith
kept v (Draw n) = let e = length-append v.entries (record { number = n; call = v.call } ∷ []) in omega (arith, e)
kept v (NumberSeen n) = let e = ap length (entries_begun v.log.phase v) in omega (arith, e)
kept v (StopSeen set) = omega arith
kept v SetStop = omega arith
kept v (Tell operation reply) = omega arith

pub kept_by_all : (v : View) (steps : List Step) → length v.entries ≤ length (after_all v steps).entries
unfolding after_all
kept_by_all v [] = omega arith
kept_by_all v (s ∷ steps) = let a = kept v s in let b = kept_by_all (after v s) steps in omega (arith, a, b)

-- a step without a new entry owes nothing
owes_nothing : (v : View) (s : Step) → length (after v s).entries ≤ length v.entries → DrawsEnded v s
owes_nothing v (Load w x) few = tt
owes_nothing v (Store w x) few = tt
owes_nothing v (Or w bits found) few = tt
owes_nothing v (And w bits found) few = tt
owes_nothing v (Flush line) few = tt
owes_nothing v Drain few = tt
owes_nothing v (TakeWrite line won) few = tt
owes_nothing v (TakeRead line won) few = tt
owes_nothing v (Raise line won) few = tt
owes_nothing v (Give line) few = tt
owes_nothing v (ZoneTry zone won) few = tt
owes_nothing v (ZoneGive zone) few = tt
owes_nothing v (Occupied at found) few = tt
owes_nothing v (Occupy at bits won) few = tt
owes_nothing v (Vacate at bits) few = tt
owes_nothing v (Draw n) few = absurd (let e = length-append v.entries (record { number = n; call = v.call } ∷ []) in omega (arith, e, few))
owes_nothing v (NumberSeen n) few = tt
owes_nothing v (StopSeen set) few = tt
owes_nothing v SetStop few = tt
owes_nothing v (Tell operation reply) few = tt

pub drawless : (v : View) (steps : List Step) → length (after_all v steps).entries ≤ length v.entries → DrawEnded v steps
unfolding DrawEnded after_all
drawless v [] few = tt
drawless v (s ∷ steps) few =
    let a = kept v s in let b = kept_by_all (after v s) steps in
    (owes_nothing v s (omega (arith, b, few)), drawless (after v s) steps (omega (arith, a, few)))

pub drawn_in_turn : (v : View) (xs ys : List Step) → DrawEnded v xs → DrawEnded (after_all v xs) ys → DrawEnded v (xs ++ ys)
unfolding DrawEnded after_all
drawn_in_turn v [] ys first second = second
drawn_in_turn v (x ∷ xs) ys first second = (first.0, drawn_in_turn (after v x) xs ys first.1 second)
