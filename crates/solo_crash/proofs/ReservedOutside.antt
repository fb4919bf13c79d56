-- The calls outside of a transaction that reserve an object, or write bytes into what is reserved, are steps of the plain model, refused or not.
use Rattle.std.proofs.Common.{◌≡◌, ⊎_elim, ℕ, ◌+◌, ◌<◌, ◌≤◌, ◌&&◌, ◌||◌, Bool, cond, true, false, not, eqb, leb, ltb, List, [], ◌∷◌, ◌++◌, length, Option, Some, None, refl, sym, ◌∙◌, ap, subst}
use Rattle.std.specs.Prelude.{IsSome}
use Rattle.std.specs.List.{All, find}
use Rattle.std.specs.Option.{option_map}
use Rattle.std.proofs.Math.Bool.{or-false}
use Rattle.std.proofs.lemmas.Bool.{eq-eqb, le-leb, lt-leb, lt-ltb, or_left, or_right}
use Rattle.std.proofs.lemmas.List.Elements.{All-append, All-contains, All-nil}
use Rattle.pm_header.specs.declared.header.Header.{Header}
use Rattle.pm_image.proofs.Members.{first_member}
use Rattle.pm_layout.specs.Sizes.{class_of}
use Rattle.pm_objects.specs.Pool.{object_at}
use Rattle.pm_objects.specs.declared.calls.Operation.TheVariants.{Reserve, WriteReserved}
use Rattle.pm_objects.specs.declared.calls.Want.{Want}
use Rattle.pm_objects.specs.declared.history.Value.TheVariants.{Offset, Refused}
use Rattle.pm_objects.specs.declared.ids.Oid.{Oid}
use Rattle.pm_objects.specs.declared.pool.PoolView.{PoolView}
use Rattle.pm_objects.specs.declared.refusal.Refusal.{Refusal}
use Rattle.pm_objects.specs.declared.refusal.Refusal.TheVariants as refusal
use Rattle.solo_model.specs.Actions.{Pending, bytes_reserved, is_reserved, max_actions, pending_count}
use Rattle.solo_model.specs.Answers.{IsBeside, IsNewPlace, changes_nothing}
use Rattle.solo_model.specs.Outside.{Outside, refusal_outside}
use Rattle.solo_model.specs.Places.{CanHold}
use Rattle.solo_model.specs.Transaction.{resting}
use Rattle.solo_view.specs.View.{View}
use Rattle.solo_crash.specs.CallBlocks.{MayPrecede, NewObject, allocated_in, allocated_told}
use Rattle.solo_crash.specs.Held.{HoldsPool}
use Rattle.solo_crash.specs.OpenCall.{IsWholeCall, MakesItsStep}
use Rattle.solo_crash.specs.Pending.{pending_before}
use Rattle.solo_crash.specs.Reserving.{IsReserveReason, PutsOutside, RefusesReserveOutside, ReservesOutside, put_refusal}
use Rattle.solo_crash.proofs.ActionsOutside.{alone_step, answers_seen, changes_whole, none_recorded, outside_with, refused_seen, ChangesAlone}
use Rattle.solo_crash.proofs.Continued.{two_same}
use Rattle.solo_crash.proofs.PutOn.{first_put}
use Rattle.solo_crash.proofs.RefusedAlloc.{first_of_three, saw_full, sized_well}

-- ---- a reservation

-- the first refusal, by what the checks of the size, of room and of free blocks say
reserve_checks : (full : Bool) (pool : PoolView) (p : Pending) (size kind : ℕ)
    → refusal_outside (saw_full full) (outside_with pool p) (Reserve size kind) ≡ first_of_three (eqb size 0 || ltb 262080 size) (leb max_actions (pending_count p)) full
unfolding refusal_outside first_of_three
reserve_checks full pool p size kind = refl

-- where the object may stand it is reserved there
reserve_alone : (pool : PoolView) (p : Pending) (size kind off : ℕ) → 1 ≤ size → size ≤ 262080 → pending_count p < max_actions → IsNewPlace (resting pool p) size off → ChangesAlone pool p (Reserve size kind) (Some (Offset off))
unfolding first_of_three
reserve_alone pool p size kind off some most room place = record {
  answers =
      answers_seen (outside_with pool p) (Reserve size kind) (Some (Offset off)) (saw_full false) refl (All-nil (λ (want : Want). IsSome (object_at pool.objects want.id.off))) tt
      (reserve_checks false pool p size kind ∙ (λ j. first_of_three (sized_well size some most j) (lt-leb max_actions (pending_count p) room j) false))
      (off, place, refl);
  leaves = refl;
}

refused_alone : (pool : PoolView) (p : Pending) (size kind : ℕ) (full : Bool) (r : Refusal) → refusal_outside (saw_full full) (outside_with pool p) (Reserve size kind) ≡ Some r → changes_nothing r ≡ false
    → ChangesAlone pool p (Reserve size kind) (Some (Refused r))
refused_alone pool p size kind full r first traced = record { answers = refused_seen (outside_with pool p) (Reserve size kind) (saw_full full) r refl first traced; leaves = refl }

by_reason : (pool : PoolView) (p : Pending) (size kind : ℕ) (r : Refusal) → IsReserveReason p size r → ChangesAlone pool p (Reserve size kind) (Some (Refused r))
unfolding first_of_three
by_reason pool p size kind refusal.BadSize reason =
    let bad : (eqb size 0 || ltb 262080 size) ≡ true = ⊎_elim
    (λ (none : size ≡ 0). or_left (eqb size 0) (ltb 262080 size) (eq-eqb size 0 none)) (λ (over : 262080 < size). or_right (eqb size 0) (ltb 262080 size) (lt-ltb 262080 size over)) reason in
    refused_alone pool p size kind false refusal.BadSize (reserve_checks false pool p size kind ∙ (λ j. first_of_three (bad j) (leb max_actions (pending_count p)) false)) refl
by_reason pool p size kind refusal.ActionsFull reason =
    refused_alone pool p size kind false refusal.ActionsFull
    (reserve_checks false pool p size kind ∙ (λ j. first_of_three (sized_well size reason.0 reason.1 j) (le-leb max_actions (pending_count p) reason.2 j) false)) refl
by_reason pool p size kind refusal.NoSpace reason =
    refused_alone pool p size kind true refusal.NoSpace
    (reserve_checks true pool p size kind ∙ (λ j. first_of_three (sized_well size reason.0 reason.1 j) (lt-leb max_actions (pending_count p) reason.2 j) true)) refl
by_reason pool p size kind r reason = absurd reason

-- it needs room for its object alone
allocates_one : (v : View) (n : NewObject) → ReservesOutside v n → allocated_in v ≡ n ∷ []
unfolding allocated_told
allocates_one v n reserves = ap (allocated_told (pending_before v)) reserves.call

-- which a pool that may be the one before has
may_stand : (v : View) (n : NewObject) (w : ℕ → ℕ) (header : Header) (pool : PoolView) → ReservesOutside v n → HoldsPool w v.lanes v.zones header pool → MayPrecede pool v
    → IsNewPlace (resting pool (pending_before v)) n.size n.off
may_stand v n w header pool reserves holds may =
    let beside : All (IsBeside n.size n.off) pool.objects = All-contains (λ (m : NewObject). All (IsBeside m.size m.off) pool.objects) (n ∷ []) n
    (subst (All (λ (m : NewObject). All (IsBeside m.size m.off) pool.objects)) (allocates_one v n reserves) may.room) (first_member n []) in
    record {
      begins = two_same (λ (lanes zones : ℕ). CanHold lanes zones (class_of n.size) n.off) v.lanes pool.lanes v.zones pool.zones
          (sym (ap (λ (p : PoolView). p.lanes) holds.is_pool)) (sym (ap (λ (p : PoolView). p.zones) holds.is_pool)) reserves.place;
      apart = All-append (IsBeside n.size n.off) (pool.objects ++ pool.objects) [] (All-append (IsBeside n.size n.off) pool.objects pool.objects beside beside) (All-nil (IsBeside n.size n.off));
      unreserved = reserves.unreserved;
    }

pub outside_reserve_steps : (v : View) (n : NewObject) → ReservesOutside v n → MakesItsStep v
outside_reserve_steps v n reserves = record {
  outside = none_recorded v reserves.no_records;
  makes = λ w header pool holds id before may free.
      alone_step v w header pool (Reserve n.size n.kind) (Some (Offset n.off)) reserves.call reserves.no_records reserves.no_entries holds
      (reserve_alone pool (pending_before v) n.size n.kind n.off reserves.some reserves.most reserves.room (may_stand v n w header pool reserves holds may));
}

pub outside_refusal_is_step : (v : View) (size kind : ℕ) (r : Refusal) → RefusesReserveOutside v size kind r → IsWholeCall v
outside_refusal_is_step v size kind r refuses =
    changes_whole v (Reserve size kind) (Some (Refused r)) refuses.call refuses.no_records refuses.no_entries
    (λ w header pool holds id before. by_reason pool (pending_before v) size kind r refuses.reason)

-- ---- bytes that are written into what is reserved

put_checks : (pool : PoolView) (p : Pending) (id : Oid) (off : ℕ) (bytes : List ℕ)
    → refusal_outside (saw_full false) (outside_with pool p) (WriteReserved id off bytes) ≡ first_put (not (eqb id.pool pool.id && is_reserved p id.off)) (ltb (length (bytes_reserved p id.off)) (off + length bytes))
unfolding refusal_outside first_put
put_checks pool p id off bytes =
    (λ j. option_map (λ (check : Refusal × Bool). check.0) (find (λ (check : Refusal × Bool). check.1)
    ((refusal.NotReserved, not (eqb id.pool pool.id && is_reserved p id.off))
    ∷ (refusal.OutOfRange, or-false (ltb (length (bytes_reserved p id.off)) (off + length bytes)) j)
    ∷ [])))

put_alone : (pool : PoolView) (p : Pending) (id : Oid) (off : ℕ) (bytes : List ℕ) (r : Option Refusal) → r ≡ put_refusal pool.id p id off (length bytes) → ChangesAlone pool p (WriteReserved id off bytes) (option_map Refused r)
unfolding first_put
put_alone pool p id off bytes r told =
    by_tests (not (eqb id.pool pool.id && is_reserved p id.off)) (ltb (length (bytes_reserved p id.off)) (off + length bytes)) (put_checks pool p id off bytes) told where
      s : Outside
      s = outside_with pool p

      refused : (x : Refusal) → refusal_outside (saw_full false) s (WriteReserved id off bytes) ≡ Some x → changes_nothing x ≡ false → ChangesAlone pool p (WriteReserved id off bytes) (Some (Refused x))
      refused x first traced = record { answers = refused_seen s (WriteReserved id off bytes) (saw_full false) x refl first traced; leaves = refl }

      by_tests : (lacks past : Bool) → refusal_outside (saw_full false) s (WriteReserved id off bytes) ≡ first_put lacks past
          → r ≡ cond lacks (Some refusal.NotReserved) (cond past (Some refusal.OutOfRange) None) → ChangesAlone pool p (WriteReserved id off bytes) (option_map Refused r)
      by_tests true past first told = subst (λ (x : Option Refusal). ChangesAlone pool p (WriteReserved id off bytes) (option_map Refused x)) (sym told) (refused refusal.NotReserved first refl)
      by_tests false true first told = subst (λ (x : Option Refusal). ChangesAlone pool p (WriteReserved id off bytes) (option_map Refused x)) (sym told) (refused refusal.OutOfRange first refl)
      by_tests false false first told = subst (λ (x : Option Refusal). ChangesAlone pool p (WriteReserved id off bytes) (option_map Refused x)) (sym told) (record {
        answers = answers_seen s (WriteReserved id off bytes) None (saw_full false) refl (All-nil (λ (want : Want). IsSome (object_at pool.objects want.id.off))) tt first refl;
        leaves = refl;
      })

pub outside_put_is_step : (v : View) (id : Oid) (off : ℕ) (bytes : List ℕ) (r : Option Refusal) → PutsOutside v id off bytes r → IsWholeCall v
outside_put_is_step v id off bytes r puts =
    changes_whole v (WriteReserved id off bytes) (option_map Refused r) puts.call puts.no_records puts.no_entries
    (λ w header pool holds same_id before.
    let of_pool : pool.id ≡ v.pool = ap (λ (p : PoolView). p.id) holds.is_pool ∙ sym same_id in
    put_alone pool (pending_before v) id off bytes r (puts.answer ∙ ap (λ (k : ℕ). put_refusal k (pending_before v) id off (length bytes)) (sym of_pool)))
