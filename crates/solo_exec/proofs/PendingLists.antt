-- What is pending behind a line, and behind a call that drew its number; and which steps store no generation.
use Rattle.std.proofs.Common.{◌≡◌, ◌≤◌, Bool, true, false, cond, refl, arith, ℕ, All, List, [], ◌∷◌, ◌++◌, map, sym, ap, subst, ◌∙◌}
use Rattle.std.proofs.lemmas.List.Elements.{All-nil}
use Rattle.solo_crash.specs.CallBlocks.{reserved_in, reserved_object}
use Rattle.solo_crash.specs.Reserving.{HasReserved}
use Rattle.solo_crash.proofs.ReservedOn.{none_reserved}
use Rattle.solo_transaction.specs.AtWork.{LiesInReserved}
use Rattle.solo_pending.specs.Pending.{pending_of}
use Rattle.solo_crash.specs.Pending.{pending_before, pending_behind, pending_from, pending_in, pending_told}
use Rattle.solo_crash.proofs.PendingOn.{calls_further, pending_once_more, same_before}
use Rattle.solo_model.specs.Actions.{Pending, none_pending}
use Rattle.solo_pending.specs.declared.pending.PendingActions.{PendingActions}
use Rattle.solo_view.specs.View.{Numbered, Told, View}
use Rattle.solo_crash.specs.Alone.{is_raise, raises}
use Rattle.solo_crash.proofs.Raises.{raise_by}
use Rattle.solo_view.specs.Counts.{counted, is_counted}
use Rattle.solo_view.specs.Steps.{Step}
use Rattle.solo_view.specs.Steps.Step.{And, Drain, Draw, Flush, Give, Load, NumberSeen, Occupied, Occupy, Or, Raise, SetStop, StopSeen, Store, TakeRead, TakeWrite, Tell, Vacate, ZoneGive, ZoneTry}
use Rattle.solo_pending.specs.AllPending.{IsPendingAs}

-- the list is the same, where the same is pending
pub still_pending : {actions : PendingActions} {before : Pending} (behind : Pending) → behind ≡ before → IsPendingAs actions before → IsPendingAs actions behind
still_pending {actions} behind same is = subst (IsPendingAs actions) (sym same) is

-- behind a call that came to one operation more and drew its number
pub drawn_pending : (first v w : View) (n : ℕ) (t : Told) → v.entries ≡ first.entries → w.entries ≡ first.entries ++ record { number = n; call = w.call } ∷ [] → w.call ≡ v.call ++ t ∷ []
    → pending_before w ≡ pending_behind t.operation t.reply (pending_in v)
drawn_pending first v w n t kept drawn told =
    let e : Numbered = record { number = n; call = w.call } in
    let u : View = record v { call = w.call } in
    ap (pending_from none_pending) drawn ∙ calls_further none_pending first.entries e ∙ ap (λ (p : Pending). pending_told p w.call) (sym (same_before first v kept))
    ∙ pending_once_more v u t.operation t.reply (λ j. v.entries) told

-- the call drew it at its one operation
pub drawn_first : (first w : View) (n : ℕ) (t : Told) → w.entries ≡ first.entries ++ record { number = n; call = t ∷ [] } ∷ [] → pending_before w ≡ pending_behind t.operation t.reply (pending_before first)
unfolding pending_told
drawn_first first w n t drawn = ap (pending_from none_pending) drawn ∙ calls_further none_pending first.entries (record { number = n; call = t ∷ [] })

-- a step that is no counted call stores none
raises_counted : (s : Step) → raise_by s ≤ cond (is_counted s) 1 0
raises_counted (Load w x) = omega arith
raises_counted (Store w x) = at (is_raise (Store w x)) where
  at : (b : Bool) → cond b 1 0 ≤ 1
  at true = omega arith
  at false = omega arith
raises_counted (Or w bits found) = omega arith
raises_counted (And w bits found) = omega arith
raises_counted (Flush line) = omega arith
raises_counted Drain = omega arith
raises_counted (TakeWrite line won) = omega arith
raises_counted (TakeRead line won) = omega arith
raises_counted (Raise line won) = omega arith
raises_counted (Give line) = omega arith
raises_counted (ZoneTry zone won) = omega arith
raises_counted (ZoneGive zone) = omega arith
raises_counted (Occupied at found) = omega arith
raises_counted (Occupy at bits won) = omega arith
raises_counted (Vacate at bits) = omega arith
raises_counted (Draw n) = omega arith
raises_counted (NumberSeen n) = omega arith
raises_counted (StopSeen set) = omega arith
raises_counted SetStop = omega arith
raises_counted (Tell operation reply) = omega arith

pub uncounted_raises : (steps : List Step) → counted steps ≡ 0 → raises steps ≡ 0
unfolding raises counted
uncounted_raises [] none = refl
uncounted_raises (s ∷ steps) none =
    let here = raises_counted s in
    let one : ℕ = cond (is_counted s) 1 0 in
    let first : one ≡ 0 = omega (arith, none) in
    let rest = uncounted_raises steps (let e : counted steps ≡ 0 = omega (arith, none) in e) in
    omega (arith, here, first, rest)
