-- A call that made no object behind an operation made none before it.
use Rattle.std.proofs.Common.{◌≡◌, ℕ, ◌||◌, ⊎_elim, not, Bool, true, false, cond, List, [], ◌∷◌, ◌++◌, length, Option, None, Some, refl, ap, subst, arith}
use Rattle.std.specs.List.{Contains, filter, list_any}
use Rattle.std.proofs.lemmas.Bool.{cases_Bool}
use Rattle.pm_image.proofs.Members.{first_member, no_member}
use Rattle.pm_objects.specs.declared.calls.Operation.{Operation}
use Rattle.pm_objects.specs.declared.calls.Operation.TheVariants.{Abort, Alloc, Cancel, DeferFree, Free, Publish, SetValue}
use Rattle.pm_objects.specs.declared.history.Value.{Value}
use Rattle.pm_objects.specs.declared.history.Value.TheVariants.{Offset, Refused}
use Rattle.pm_objects.specs.declared.ids.Oid.{Oid}
use Rattle.solo_model.specs.Actions.{Pending, Reservation}
use Rattle.solo_model.specs.Answers.{changes_nothing}
use Rattle.solo_model.specs.Checks.{is_action}
use Rattle.solo_view.specs.View.{View}
use Rattle.solo_world.proofs.StepGive.{contains-filter}
use Rattle.solo_crash.proofs.CallBlocks.{blocks_once_more, same_blocks}
use Rattle.solo_crash.specs.CallBlocks.{CallBlocks, KeepsBlocks, NewObject, blocks_behind, blocks_in, is_at, no_blocks, reserved_object, with_all_freed, with_all_made, with_freed, with_made}
use Rattle.solo_crash.specs.Pending.{pending_in}
use Rattle.solo_crash.specs.OnActions.{IsPendingAnswer}
use Rattle.solo_tx.specs.AtWork.{MakesNone}
use Rattle.solo_tx.specs.Ending.{told_more}

-- the operation with its reply leaves the call what it made: it is no abort, and no refusal that gives the call up
abbrev pub LeavesMade : Operation → Option Value → Type 0
LeavesMade op (Some (Refused r)) = (is_action op || changes_nothing r) ≡ true
LeavesMade (Abort errnum) reply = ⊥
LeavesMade op reply = Unit {0}

abbrev HasNone : CallBlocks → Type 0
HasNone b = (b.made ≡ []) × (b.dropped ≡ [])

no_front : (front back : List NewObject) → front ++ back ≡ [] → (front ≡ []) × (back ≡ [])
no_front [] back none = (refl, none)
no_front (n ∷ front) back none = absurd (let many = ap length none in omega (arith, many))

-- what is made is dropped where it is freed, so it stays
none_freed : (off : ℕ) (made dropped : List NewObject) → filter (λ n. not (is_at off n)) made ≡ [] → dropped ++ filter (is_at off) made ≡ [] → (made ≡ []) × (dropped ≡ [])
none_freed off [] dropped left gone = (refl, (no_front dropped [] gone).0)
none_freed off (m ∷ made) dropped left gone = ⊎_elim
    (λ (here : is_at off m ≡ true). absurd (no_member m (subst (λ (ns : List NewObject). Contains ns m) (no_front dropped (filter (is_at off) (m ∷ made)) gone).1 (contains-filter (is_at off) (m ∷ made) m (first_member m made) here))))
    (λ (other : is_at off m ≡ false). absurd (no_member m (subst (λ (ns : List NewObject). Contains ns m) left (contains-filter (λ n. not (is_at off n)) (m ∷ made) m (first_member m made) (ap not other)))))
    (cases_Bool (is_at off m))

none_by_freed : (off : ℕ) (b : CallBlocks) → HasNone (with_freed off b) → HasNone b
none_by_freed off b none = by (list_any (is_at off) b.made) none where
  by : (made : Bool) → HasNone (cond made (record b { made = filter (λ n. not (is_at off n)) b.made; dropped = b.dropped ++ filter (is_at off) b.made }) (record b { freed = b.freed ++ off ∷ [] })) → HasNone b
  by true none = none_freed off b.made b.dropped none.0 none.1
  by false none = none

none_by_frees : (ids : List Oid) (b : CallBlocks) → HasNone (with_all_freed ids b) → HasNone b
none_by_frees [] b none = none
none_by_frees (id ∷ ids) b none = none_by_freed id.off b (none_by_frees ids (with_freed id.off b) none)

none_by_made : {X : Type 0} (n : NewObject) (b : CallBlocks) → HasNone (with_made n b) → X
none_by_made n b none = absurd (let one = (no_front b.made (n ∷ []) none.0).1 in let many = ap length one in omega (arith, many))

none_by_reserved : (rs : List Reservation) (b : CallBlocks) → HasNone (with_all_made rs b) → HasNone b
none_by_reserved [] b none = none
none_by_reserved (r ∷ rs) b none = none_by_made (reserved_object r) b (none_by_reserved rs (with_made (reserved_object r) b) none)

none_before : (op : Operation) (reply : Option Value) (p : Pending) (b : CallBlocks) → LeavesMade op reply → HasNone (blocks_behind op reply p b) → HasNone b
none_before op (Some (Refused r)) p b leaves none = by (is_action op || changes_nothing r) leaves none where
  by : (stays : Bool) → stays ≡ true → HasNone (cond stays b no_blocks) → HasNone b
  by true stays none = none
  by false stays none = absurd cc
none_before (Alloc size kind) (Some (Offset off)) p b leaves none = none_by_made (record { off = off; kind = kind; size = size }) b none
none_before (Free id) reply p b leaves none = none_by_freed id.off b none
none_before Publish None p b leaves none = none_by_frees p.frees b (none_by_reserved p.reserved (with_all_freed p.frees b) none)
none_before (Abort errnum) reply p b leaves none = absurd leaves
none_before op reply p b leaves none = none

-- where one more operation is told that leaves the call what it made
pub made_none_before : (v w : View) (op : Operation) (reply : Option Value) → w.entries ≡ v.entries → w.call ≡ told_more v.call op reply → LeavesMade op reply → MakesNone w → MakesNone v
made_none_before v w op reply entries call leaves none = none_before op reply (pending_in v) (blocks_in v) leaves (subst HasNone (blocks_once_more v w op reply entries call) none)

-- a call on the pending actions alone leaves what was made
pub pending_leaves_made : (p : Pending) (op : Operation) (reply : Option Value) → IsPendingAnswer p op reply → LeavesMade op reply
pending_leaves_made p (SetValue id off value) (Some (Refused r)) answer = refl
pending_leaves_made p (SetValue id off value) reply answer = tt
pending_leaves_made p (DeferFree id) (Some (Refused r)) answer = refl
pending_leaves_made p (DeferFree id) reply answer = tt
pending_leaves_made p Cancel (Some (Refused r)) answer = refl
pending_leaves_made p Cancel reply answer = tt
pending_leaves_made p op reply answer = absurd answer

-- where nothing more is told
pub made_none_same : (v w : View) → w.entries ≡ v.entries → w.call ≡ v.call → MakesNone w → MakesNone v
made_none_same v w entries call none = subst HasNone (same_blocks v w entries call) none

-- a call that kept the blocks made none
pub keeps_made_none : (v : View) → KeepsBlocks v → MakesNone v
keeps_made_none v keeps = (ap (λ (b : CallBlocks). b.made) keeps.blocks, ap (λ (b : CallBlocks). b.dropped) keeps.blocks)
