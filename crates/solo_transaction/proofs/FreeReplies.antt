-- A free that the plain model does not refuse answers nothing; so an object that a call freed is not the root on which the call agrees.
use Rattle.std.proofs.Common.{◌≢◌, ◌⊎◌, ⊎_elim, inl, inr, ◌||◌, ℕ, Bool, true, false, not, cond, Contains, List, [], ◌∷◌, ◌++◌, map, MatchOption, Option, None, Some, sym, subst}
use Rattle.std.specs.List.{All, filter, list_any}
use Rattle.std.proofs.lemmas.List.Elements.{All-cons, All-head, All-nil, All-tail, Contains-append_cases}
use Rattle.pm_image.proofs.Members.{no_member, only_member}
use Rattle.pm_objects.specs.declared.calls.Operation.{Operation}
use Rattle.pm_objects.specs.declared.calls.Operation.TheVariants.{Abort, Alloc, Free, Publish}
use Rattle.pm_objects.specs.declared.history.Value.{Value}
use Rattle.pm_objects.specs.declared.history.Value.TheVariants.{Offset, Refused}
use Rattle.pm_objects.specs.declared.ids.Oid.{Oid}
use Rattle.pm_objects.specs.declared.pool.PoolView.{PoolView}
use Rattle.pm_objects.specs.declared.refusal.Refusal.{Refusal}
use Rattle.solo_model.specs.Actions.{Pending, Reservation}
use Rattle.solo_model.specs.Answers.{Answers, IsDone, IsRefused, after, changes_nothing}
use Rattle.solo_model.specs.Checks.{first_refusal, is_action}
use Rattle.solo_model.specs.Transaction.{Transaction, resting}
use Rattle.solo_view.specs.View.{Told, View}
use Rattle.solo_crash.specs.CallBlocks.{AgreesOnRoot, AllTellOfRoot, CallBlocks, FreeNoRoot, TellsOfRoot, blocks_behind, blocks_in, blocks_told, is_at, no_blocks, reserved_object, with_all_freed, with_all_made, with_freed, with_made}
use Rattle.solo_crash.specs.OpenCall.{GoesOn, RunsTo}
use Rattle.solo_crash.specs.Pending.{pending_before, pending_behind, told_in, told_of}

-- a free answers nothing, or a refusal
abbrev IsFreeReply : Operation → Option Value → Type 0
IsFreeReply (Free id) None = Unit {0}
IsFreeReply (Free id) (Some (Refused r)) = Unit {0}
IsFreeReply (Free id) (Some value) = ⊥
IsFreeReply op reply = Unit {0}

abbrev HasFreeReply : Told → Type 0
HasFreeReply t = IsFreeReply t.operation t.reply

free_reply : (tx : Transaction) (id : Oid) (reply : Option Value) (found : Option Refusal) → MatchOption found (IsDone tx (Free id) reply) (λ r. IsRefused r reply) → IsFreeReply (Free id) reply
free_reply tx id reply None done = subst (IsFreeReply (Free id)) (sym done.value) tt
free_reply tx id reply (Some r) refused = subst (IsFreeReply (Free id)) (sym refused.told) tt

answered_free : (tx : Transaction) (op : Operation) (reply : Option Value) → Answers tx op reply → IsFreeReply op reply
answered_free tx (Free id) reply answers = free_reply tx id reply (first_refusal answers.seen tx (Free id)) answers.answer
answered_free tx op reply answers = tt

goes_free : (calls : List Told) (tx now : Transaction) → GoesOn tx (map told_of calls) now → All HasFreeReply calls
unfolding GoesOn
goes_free [] tx now goes = All-nil HasFreeReply
goes_free (t ∷ calls) tx now goes = All-cons HasFreeReply t calls (answered_free tx t.operation t.reply goes.1) (goes_free calls (after (told_of t) tx) now goes.2)

runs_free : (calls : List Told) (pool : PoolView) (actions : Pending) (now : Transaction) → RunsTo pool actions (map told_of calls) now → All HasFreeReply calls
unfolding RunsTo
runs_free [] pool actions now runs = All-nil HasFreeReply
runs_free (t ∷ calls) pool actions now runs =
    All-cons HasFreeReply t calls (answered_free (resting pool actions) t.operation t.reply runs.0) (goes_free calls (after (told_of t) (resting pool actions)) now runs.1)

-- ---- what is freed

module _ (root : Option ℕ) (off : ℕ) where
  -- it was freed before, or is not the root
  abbrev Before : CallBlocks → Type 0
  Before b = Contains b.freed off ⊎ (root ≢ Some off)

  one_more : (at : ℕ) (b : CallBlocks) → root ≢ Some at → Contains (with_freed at b).freed off → Before b
  one_more at b other = by (list_any (is_at at) b.made) where
    by : (made : Bool) → Contains (cond made (record b { made = filter (λ n. not (is_at at n)) b.made; dropped = b.dropped ++ filter (is_at at) b.made }) (record b { freed = b.freed ++ at ∷ [] })).freed off → Before b
    by true there = inl there
    by false there = ⊎_elim
        (λ (before : Contains b.freed off). inl before)
        (λ (now : Contains (at ∷ []) off). inr (subst (λ x. root ≢ Some x) (only_member at off now) other))
        (Contains-append_cases b.freed (at ∷ []) off there)

  refused_before : (keeps : Bool) (b : CallBlocks) → Contains (cond keeps b no_blocks).freed off → Before b
  refused_before true b there = inl there
  refused_before false b there = absurd (no_member off there)

  more_freed : (ids : List Oid) (b : CallBlocks) → FreeNoRoot root ids → Contains (with_all_freed ids b).freed off → Before b
  more_freed [] b others there = inl there
  more_freed (id ∷ ids) b others there = ⊎_elim
      (λ (now : Contains (with_freed id.off b).freed off). one_more id.off b (All-head (λ (other : Oid). root ≢ Some other.off) id ids others) now)
      (λ (other : root ≢ Some off). inr other)
      (more_freed ids (with_freed id.off b) (All-tail (λ (other : Oid). root ≢ Some other.off) id ids others) there)

  none_more : (rs : List Reservation) (b : CallBlocks) → Contains (with_all_made rs b).freed off → Contains b.freed off
  none_more [] b there = there
  none_more (r ∷ rs) b there = none_more rs (with_made (reserved_object r) b) there

  one_freed : (op : Operation) (reply : Option Value) (p : Pending) (b : CallBlocks) → IsFreeReply op reply → TellsOfRoot root op reply p → Contains (blocks_behind op reply p b).freed off → Before b
  one_freed op (Some (Refused r)) p b free agrees there = refused_before (is_action op || changes_nothing r) b there
  one_freed (Alloc size kind) (Some (Offset at)) p b free agrees there = inl there
  one_freed (Free id) None p b free agrees there = one_more id.off b agrees there
  one_freed (Free id) (Some value) p b free agrees there = absurd free
  one_freed Publish None p b free agrees there = more_freed p.frees b agrees (none_more p.reserved (with_all_freed p.frees b) there)
  one_freed (Abort errnum) reply p b free agrees there = absurd (no_member off there)
  one_freed op reply p b free agrees there = inl there

  all_freed : (p : Pending) (b : CallBlocks) (calls : List Told) → All HasFreeReply calls → AllTellOfRoot root p calls → Contains (blocks_told p b calls).freed off → Before b
  unfolding blocks_told AllTellOfRoot
  all_freed p b [] free agrees there = inl there
  all_freed p b (t ∷ calls) free agrees there = ⊎_elim
      (λ (now : Contains (blocks_behind t.operation t.reply p b).freed off). one_freed t.operation t.reply p b (All-head HasFreeReply t calls free) agrees.0 now)
      (λ (other : root ≢ Some off). inr other)
      (all_freed (pending_behind t.operation t.reply p) (blocks_behind t.operation t.reply p b) calls (All-tail HasFreeReply t calls free) agrees.1 there)

-- what a call freed that the plain model runs is not the root on which the call agrees
pub freed_is_no_root : (v : View) (root : Option ℕ) (pool : PoolView) (actions : Pending) (tx : Transaction) (off : ℕ) → RunsTo pool actions (told_in v) tx → AgreesOnRoot v root → Contains (blocks_in v).freed off → root ≢ Some off
freed_is_no_root v root pool actions tx off runs agrees there = ⊎_elim
    (λ (never : Contains [] off). absurd (no_member off never))
    (λ (other : root ≢ Some off). other)
    (all_freed root off (pending_before v) no_blocks v.call (runs_free v.call pool actions tx runs) agrees there)
