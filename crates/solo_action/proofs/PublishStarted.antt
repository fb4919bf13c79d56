-- A publish of a lane that rested alone: as its next call begins, with all that is pending, or with nothing.
use Rattle.std.proofs.Common.{◌≡◌, ⊎_elim, ℕ, true, false, List, [], ◌∷◌, length, refl, sym, ap, subst, arith}
use Rattle.std.proofs.lemmas.Bool.{cases_Bool}
use Rattle.std.proofs.lemmas.List.{length-map}
use Rattle.solo_crash.proofs.PendingOn.{same_before}
use Rattle.solo_crash.specs.Pending.{pending_before}
use Rattle.solo_epoch.proofs.RestingReservations.{begun_entries}
use Rattle.solo_epoch.specs.Reserving.{with_next_call}
use Rattle.solo_model.specs.Actions.{Action, Pending, none_pending}
use Rattle.pm_objects.specs.declared.ids.Oid.{Oid}
use Rattle.solo_pending.specs.AllPending.{IsPendingAs, count_in, reserved_as}
use Rattle.solo_pending.specs.Pending.{action_of}
use Rattle.solo_pending.specs.declared.pending.PendingActions.{PendingActions}
use Rattle.solo_pending.specs.declared.pending.Reserved.{Reserved}
use Rattle.solo_view.specs.View.{View}
use Rattle.solo_world.specs.declared.lane.Lane.{Lane}
use Rattle.solo_lock.proofs.Leads.{led_then}
use Rattle.solo_tx.specs.Beginning.{IsBegunBy}
use Rattle.solo_tx.specs.Sequences.{starts}
use Rattle.solo_action.specs.Holding.{BeginsToPublish, StaysSound}
use Rattle.solo_action.specs.Outside.{RestsAlone}
use Rattle.solo_action.proofs.BeginningAlone.{begins_alone_next, next_led}
use Rattle.solo_action.proofs.LateFrees.{late_frees}

empty_list : {A : Type 0} (xs : List A) → length xs ≡ 0 → xs ≡ []
empty_list [] none = refl
empty_list (x ∷ xs) none = absurd (omega (arith, none))

-- where nothing is listed nothing is pending, nor was anything asked for late
pub none_listed : (list : PendingActions) (v : View) → IsPendingAs list (pending_before v) → count_in list ≡ 0 → pending_before v ≡ none_pending
none_listed list v is none =
    let p : Pending = pending_before v in
    let sets = ap (λ (actions : List Action). length actions) is.sets in let n = length-map list.sets.items action_of in
    let frees = ap (λ (ids : List Oid). length ids) is.frees in
    let reserved = ap (λ (rs : List Reserved). length rs) is.reserved in let m = length-map p.reserved reserved_as in
    let no_sets : p.sets ≡ [] = empty_list p.sets (omega (arith, none, sets, n)) in
    let no_frees : p.frees ≡ [] = empty_list p.frees (omega (arith, none, frees)) in
    let no_reserved : p.reserved ≡ [] = empty_list p.reserved (omega (arith, none, reserved, m)) in
    let in_time : p.late ≡ false = ⊎_elim
    (λ (late : p.late ≡ true). absurd (let some = late_frees v late in let low = ap (λ (ids : List Oid). length ids) no_frees in omega (arith, some, low)))
    (λ (early : p.late ≡ false). early) (cases_Bool p.late) in
    λ i. record { sets = no_sets i; frees = no_frees i; reserved = no_reserved i; late = in_time i }

pub begins_to_publish : {M : Type 0} (at : M → View → Type 0) (old mid : Lane M) (v : View) (n : ℕ) (r : RestsAlone at old v) (started : IsBegunBy at mid v (starts n)) → mid ≡ record old { memory = mid.memory } → StaysSound at v → (list : PendingActions)
    → IsPendingAs list (pending_before v) → BeginsToPublish at mid list (with_next_call v)
begins_to_publish at old mid v n r started same stays list are = record {
  begins = begins_alone_next at old mid v n r started same;
  sound = λ memory w led there. stays memory w (led_then v (with_next_call v) w (next_led at old mid v n r started) led) there;
  listed = subst (IsPendingAs list) (sym (same_before v (with_next_call v) (begun_entries v))) are;
}
