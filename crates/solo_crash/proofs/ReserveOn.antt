-- A call under way goes on where it reserves an object, as the plain model's transaction does, or refuses to.
use Rattle.std.proofs.Common.{◌≡◌, ⊎_elim, ℕ, ◌<◌, ◌≤◌, ◌||◌, Bool, true, false, eqb, ltb, leb, List, [], ◌∷◌, ◌++◌, length, Option, Some, None, MatchOption, refl, sym, ◌∙◌, subst, arith}
use Rattle.std.specs.List.{All, Contains, find}
use Rattle.std.specs.Option.{option_map}
use Rattle.std.proofs.lemmas.Bool.{eq-eqb, le-leb, le-ltb, lt-leb, lt-ltb, or_left, or_right}
use Rattle.std.proofs.lemmas.List.Elements.{All-contains, All-nil, Contains-push}
use Rattle.pm_objects.specs.declared.calls.Operation.TheVariants.{Reserve}
use Rattle.pm_objects.specs.declared.history.TxErr.TheVariants as error
use Rattle.pm_objects.specs.declared.history.Value.TheVariants.{Offset, Refused}
use Rattle.pm_objects.specs.declared.pool.PoolView.{PoolView}
use Rattle.pm_objects.specs.declared.refusal.Refusal.{Refusal}
use Rattle.pm_objects.specs.declared.refusal.Refusal.TheVariants as refusal
use Rattle.solo_model.specs.declared.stage.Stage.TheVariants as stage
use Rattle.solo_model.specs.Actions.{Pending, max_actions, pending_count, with_reservation}
use Rattle.solo_model.specs.Answers.{IsBeside, IsDone, IsNewPlace, IsRefused, changes_nothing}
use Rattle.solo_model.specs.Checks.{first_refusal}
use Rattle.solo_model.specs.Transaction.{Transaction, locked_all}
use Rattle.solo_view.specs.View.{View}
use Rattle.solo_crash.specs.CallBlocks.{MayPrecede, NewObject, allocated_in}
use Rattle.solo_crash.specs.OpenCall.{IsPerformable, IsUnderWay}
use Rattle.solo_crash.specs.Reserving.{IsReserveReason, RefusesReserve, ReservesObject}
use Rattle.solo_crash.proofs.CallBlocks.{allocated_once_more}
use Rattle.solo_crash.proofs.CallWords.{call_works}
use Rattle.solo_crash.proofs.MovedOn.{moves_known, moves_none, Moves}
use Rattle.solo_crash.proofs.NewPlaces.{new_place}
use Rattle.solo_crash.proofs.Passing.{no_tx, no_work, not_busy, not_spent, Works}
use Rattle.solo_crash.proofs.RefusedAlloc.{first_of_three, saw_full, sized_well}

-- ---- the model's transaction

-- the first refusal, by what the checks of the size, of room and of free blocks say
reserve_checks : (full : Bool) (tx : Transaction) (size kind : ℕ) → Works tx
    → first_refusal (saw_full full) tx (Reserve size kind) ≡ first_of_three (eqb size 0 || ltb 262080 size) (leb max_actions (pending_count tx.actions)) full
unfolding first_refusal first_of_three locked_all
reserve_checks full tx size kind works =
    (λ j. option_map (λ (check : Refusal × Bool). check.0) (find (λ (check : Refusal × Bool). check.1)
    ((refusal.NotWork, no_work tx works j)
    ∷ (refusal.NoTx, no_tx tx (Reserve size kind) works j)
    ∷ (refusal.Spent, not_spent tx j)
    ∷ (refusal.Deep, false)
    ∷ (refusal.LocksFull, (le-ltb 64 (length tx.locks) works.few) j)
    ∷ (refusal.Unaligned, false)
    ∷ (refusal.BadSize, eqb size 0 || ltb 262080 size)
    ∷ (refusal.NotLocked, false)
    ∷ (refusal.NoObject, false)
    ∷ (refusal.Busy, not_busy tx (Reserve size kind) j)
    ∷ (refusal.NoObject, false)
    ∷ (refusal.NoObject, false)
    ∷ (refusal.RootKept, false)
    ∷ (refusal.Listed, false)
    ∷ (refusal.OutOfRange, false)
    ∷ (refusal.NotAdded, false)
    ∷ (refusal.LogFull, false)
    ∷ (refusal.ActionsFull, leb max_actions (pending_count tx.actions))
    ∷ (refusal.NoSpace, full)
    ∷ [])))

-- where the object may stand it is reserved there
reserve_moves : (tx : Transaction) (size kind off : ℕ) → Works tx → 1 ≤ size → size ≤ 262080 → pending_count tx.actions < max_actions → IsNewPlace tx size off → Moves (Reserve size kind) (Some (Offset off)) tx
unfolding first_of_three
reserve_moves tx size kind off works some most room place =
    let passes : first_refusal (saw_full false) tx (Reserve size kind) ≡ None =
    reserve_checks false tx size kind works ∙ (λ j. first_of_three (sized_well size some most j) (lt-leb max_actions (pending_count tx.actions) room j) false) in
    let done : IsDone tx (Reserve size kind) (Some (Offset off)) = record { there = λ k d inside. absurd (omega (arith, inside)); stands = tt; value = (off, place, refl) } in
    record {
      answers = record {
        known = refl;
        seen = saw_full false;
        answer = subst (λ (fr : Option Refusal). MatchOption fr (IsDone tx (Reserve size kind) (Some (Offset off))) (λ r. IsRefused r (Some (Offset off)))) (sym passes) done;
      };
      leaves = moves_none tx (with_reservation off kind size tx.actions);
    }

-- refused, it leaves all as it was
reserve_stays : (full : Bool) (tx : Transaction) (size kind : ℕ) (r : Refusal) → first_refusal (saw_full full) tx (Reserve size kind) ≡ Some r → changes_nothing r ≡ false → Moves (Reserve size kind) (Some (Refused r)) tx
reserve_stays full tx size kind r first traced = record {
  answers = record {
    known = refl;
    seen = saw_full full;
    answer =
        subst (λ (fr : Option Refusal). MatchOption fr (IsDone tx (Reserve size kind) (Some (Refused r))) (λ (x : Refusal). IsRefused x (Some (Refused r)))) (sym first)
        (record { traced = traced; told = refl });
  };
  leaves = moves_none tx tx.actions;
}

by_reason : (tx : Transaction) (size kind : ℕ) (r : Refusal) → Works tx → IsReserveReason tx.actions size r → Moves (Reserve size kind) (Some (Refused r)) tx
unfolding first_of_three
by_reason tx size kind refusal.BadSize works reason =
    let bad : (eqb size 0 || ltb 262080 size) ≡ true = ⊎_elim
    (λ (none : size ≡ 0). or_left (eqb size 0) (ltb 262080 size) (eq-eqb size 0 none)) (λ (over : 262080 < size). or_right (eqb size 0) (ltb 262080 size) (lt-ltb 262080 size over)) reason in
    reserve_stays false tx size kind refusal.BadSize (reserve_checks false tx size kind works ∙ (λ j. first_of_three (bad j) (leb max_actions (pending_count tx.actions)) false)) refl
by_reason tx size kind refusal.ActionsFull works reason =
    reserve_stays false tx size kind refusal.ActionsFull
    (reserve_checks false tx size kind works ∙ (λ j. first_of_three (sized_well size reason.0 reason.1 j) (le-leb max_actions (pending_count tx.actions) reason.2 j) false)) refl
by_reason tx size kind refusal.NoSpace works reason =
    reserve_stays true tx size kind refusal.NoSpace
    (reserve_checks true tx size kind works ∙ (λ j. first_of_three (sized_well size reason.0 reason.1 j) (lt-leb max_actions (pending_count tx.actions) reason.2 j) true)) refl
by_reason tx size kind r works reason = absurd reason

-- ---- the call

-- a pool that may be the one before has room for the object
pool_has_room : (v next : View) (n : NewObject) (pool : PoolView) → ReservesObject v next n → MayPrecede pool next → All (IsBeside n.size n.off) pool.objects
pool_has_room v next n pool reserves may =
    let now : allocated_in next ≡ allocated_in v ++ n ∷ [] = allocated_once_more v next (Reserve n.size n.kind) (Some (Offset n.off)) reserves.tells.keeps.entries reserves.tells.call in
    All-contains (λ (m : NewObject). All (IsBeside m.size m.off) pool.objects) (allocated_in next) n may.room (subst (λ (ns : List NewObject). Contains ns n) (sym now) (Contains-push (allocated_in v) n))

pub reserve_goes_on : (v next : View) (n : NewObject) (level : ℕ) → 1 ≤ level → IsUnderWay v level stage.Work error.None → ReservesObject v next n → IsUnderWay next level stage.Work error.None
reserve_goes_on v next n level some under_way reserves =
    moves_known v next (Reserve n.size n.kind) (Some (Offset n.off)) level under_way reserves.tells reserves.logs reserves.keeps refl
    (λ w header pool holds same_id before may c.
    let place : IsNewPlace c.tx n.size n.off =
    new_place v n level under_way reserves.apart_made w header pool holds (pool_has_room v next n pool reserves may) c reserves.place reserves.unreserved in (
      reserve_moves c.tx n.size n.kind n.off (call_works v w header pool level some under_way c) reserves.some reserves.most
          (subst (λ (p : Pending). pending_count p < max_actions) (sym c.actions) reserves.room) place,
      All-nil (IsPerformable v w),
    ))

pub refused_reserve_goes_on : (v next : View) (size kind : ℕ) (r : Refusal) (level : ℕ) → 1 ≤ level → IsUnderWay v level stage.Work error.None → RefusesReserve v next size kind r → IsUnderWay next level stage.Work error.None
refused_reserve_goes_on v next size kind r level some under_way refuses =
    moves_known v next (Reserve size kind) (Some (Refused r)) level under_way refuses.tells refuses.logs refuses.keeps refl
    (λ w header pool holds same_id before may c. (
      by_reason c.tx size kind r (call_works v w header pool level some under_way c) (subst (λ (p : Pending). IsReserveReason p size r) (sym c.actions) refuses.reason),
      All-nil (IsPerformable v w),
    ))
