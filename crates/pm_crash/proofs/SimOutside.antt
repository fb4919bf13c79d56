-- A call that is one operation outside a transaction has its fact.
use Rattle.std.proofs.Common.{◌≡◌, inr, ℕ, true, false, List, [], ◌∷◌, ◌++◌, Option, Some, None, refl, sym, ap, ◌∙◌, subst}
use Rattle.std.specs.Prelude.{MatchOption}
use Rattle.std.proofs.lemmas.Bool.{both_ways}
use Rattle.std.proofs.lemmas.List.Elements.{All-nil}
use Rattle.pm_header.specs.declared.header.Header.{Header}
use Rattle.pm_layout.specs.Sizes.{class_of}
use Rattle.pm_objects.specs.declared.calls.Operation.{Operation}
use Rattle.pm_objects.specs.declared.calls.Operation.TheVariants.{Reserve, WriteReserved, DeferFree, SetValue, Publish, Cancel, AllocTo, ReallocAt, FreeAt, UsableSize, TypeNumber, Insert, InsertNew, Remove, MoveTo, Members, Root, RootSize}
use Rattle.pm_objects.specs.declared.history.Value.{Value}
use Rattle.pm_objects.specs.declared.history.Value.TheVariants as value
use Rattle.pm_objects.specs.declared.pool.PoolView.{PoolView}
use Rattle.pm_objects.specs.declared.refusal.Refusal.{Refusal}
use Rattle.pm_model.specs.CallStep.{CallRun, OutsideStep, with_pending}
use Rattle.pm_model.specs.Inside.{IsRefused, Ran, is_action}
use Rattle.pm_model.specs.Blocks.{IsNewBlock}
use Rattle.pm_model.specs.Items.{Items, PlainPool, all_edited, plain_pool}
use Rattle.pm_model.specs.Places.{CanHold}
use Rattle.pm_model.specs.Outside.{IsDoneOutside, Outside, RepliesOutside, after_outside, after_reply_outside, done_outside, is_outside, refusal_outside}
use Rattle.pm_model.specs.Outside as outside
use Rattle.pm_model.specs.Parts.{parts_outside}
use Rattle.pm_model.specs.Pending.{Pending, blocks_reserved}
use Rattle.pm_view.specs.View.{Told, View}
use Rattle.pm_view.specs.Places.{RootWord}
use Rattle.pm_world.specs.States.{State, given}
use Rattle.pm_crash.specs.Calls.{IsRunOf, pending_after, pending_of, pending_then, pending_with, state_of, told_by}
use Rattle.pm_crash.specs.Facts.{bits_after, change_of}
use Rattle.pm_crash.specs.Freshness.{root_told}
use Rattle.pm_crash.specs.Looked.{pool_seen}
use Rattle.pm_crash.specs.Objects.{item_of}
use Rattle.pm_crash.specs.Sim.{Agrees, change_so_far}
use Rattle.pm_crash.specs.SimAllocs.{HasBlockFor}
use Rattle.pm_crash.specs.SimOutside.{ActionsAreFacts, BareOutsidesAreFacts, IsAction, IsActionDone, IsBare, IsLone, LeavesPool, OutsidesAreFacts, outside_before, pool_after, refusal_alone}
use Rattle.pm_crash.specs.Spelled.{Holds, number}
use Rattle.pm_crash.proofs.Effects.{effects_are_facts, quiet_calls}
use Rattle.pm_crash.proofs.FreeBlocks.{is_free}
use Rattle.pm_crash.proofs.SimFacts.{may_agree}
use Rattle.pm_crash.proofs.Simulation.{nothing_yet}

-- ---- WHAT IS PENDING THEN, by the operation and its reply

-- a refused call leaves it
refused_pending : (op : Operation) (r : Refusal) (p : Pending) → pending_with op (Some (value.Refused r)) p ≡ p
refused_pending (Reserve size kind) r p = refl
refused_pending (WriteReserved id at bytes) r p = refl
refused_pending (DeferFree id) r p = refl
refused_pending (SetValue id at x) r p = refl
refused_pending Publish r p = refl
refused_pending Cancel r p = refl
refused_pending op r p = refl

-- one that is done and leaves it
module _ (op : Operation) (s : Outside) (stays : (off : ℕ) → outside.pending_after s.pending op off ≡ s.pending) where
  left_pending : (reply : Option Value) → (after_reply_outside op reply s).pending ≡ s.pending
  left_pending None = stays 0
  left_pending (Some (value.Offset off)) = stays off
  left_pending (Some (value.Number n)) = stays 0
  left_pending (Some (value.Bytes bytes)) = stays 0
  left_pending (Some (value.Members members)) = stays 0
  left_pending (Some (value.Refused r)) = refl

replied_pending : (op : Operation) (reply : Option Value) (s : Outside) → reply ≡ None
    → pending_with op None s.pending ≡ outside.pending_after s.pending op 0
    → (after_reply_outside op reply s).pending ≡ pending_with op reply s.pending
replied_pending op reply s e same = subst (λ r. (after_reply_outside op r s).pending ≡ pending_with op r s.pending) (sym e) (sym same)

done_pending : (op : Operation) (seen : Rattle.pm_model.specs.Refusals.Seen) (reply : Option Value) (s : Outside) → is_outside op ≡ true → IsDoneOutside s op seen reply
    → (after_reply_outside op reply s).pending ≡ pending_with op reply s.pending
done_pending (Reserve size kind) seen reply s u d = let y = d.value in
    subst (λ r. (after_reply_outside (Reserve size kind) r s).pending ≡ pending_with (Reserve size kind) r s.pending) (sym y.2) refl
done_pending (WriteReserved id at bytes) seen reply s u d = replied_pending (WriteReserved id at bytes) reply s d.value refl
done_pending (DeferFree id) seen reply s u d = replied_pending (DeferFree id) reply s d.value refl
done_pending (SetValue id at x) seen reply s u d = replied_pending (SetValue id at x) reply s d.value refl
done_pending Publish seen reply s u d = replied_pending Publish reply s d.value refl
done_pending Cancel seen reply s u d = replied_pending Cancel reply s d.value refl
done_pending (AllocTo dest size kind) seen reply s u d = left_pending (AllocTo dest size kind) s (λ off. refl) reply
done_pending (ReallocAt dest size kind) seen reply s u d = left_pending (ReallocAt dest size kind) s (λ off. refl) reply
done_pending (FreeAt dest) seen reply s u d = left_pending (FreeAt dest) s (λ off. refl) reply
done_pending (UsableSize id) seen reply s u d = left_pending (UsableSize id) s (λ off. refl) reply
done_pending (TypeNumber id) seen reply s u d = left_pending (TypeNumber id) s (λ off. refl) reply
done_pending (Insert head at id) seen reply s u d = left_pending (Insert head at id) s (λ off. refl) reply
done_pending (InsertNew head at size kind) seen reply s u d = left_pending (InsertNew head at size kind) s (λ off. refl) reply
done_pending (Remove head id free) seen reply s u d = left_pending (Remove head id free) s (λ off. refl) reply
done_pending (MoveTo head new_head at id) seen reply s u d = left_pending (MoveTo head new_head at id) s (λ off. refl) reply
done_pending (Members head) seen reply s u d = left_pending (Members head) s (λ off. refl) reply
done_pending (Root size) seen reply s u d = left_pending (Root size) s (λ off. refl) reply
done_pending RootSize seen reply s u d = left_pending RootSize s (λ off. refl) reply
done_pending op seen reply s u d = absurd (both_ways false refl u)

pending_now : (s : Outside) (ran : Ran) → RepliesOutside s ran → (after_outside ran s).pending ≡ pending_with ran.operation ran.reply s.pending
pending_now s ran y = by (refusal_outside ran.seen s ran.operation) y.reply
  where
    by : (o : Option Refusal) → MatchOption o (IsDoneOutside s ran.operation ran.seen ran.reply) (λ r. IsRefused r ran.reply)
        → (after_reply_outside ran.operation ran.reply s).pending ≡ pending_with ran.operation ran.reply s.pending
    by None d = done_pending ran.operation ran.seen ran.reply s y.outside d
    by (Some r) d = subst (λ q. (after_reply_outside ran.operation q s).pending ≡ pending_with ran.operation q s.pending) (sym d.replied)
        (sym (refused_pending ran.operation r s.pending))

one_pending : (t : Told) (p : Pending) → pending_after (t ∷ []) p ≡ pending_with t.operation t.reply p
unfolding pending_after
one_pending t p = refl

-- of a call that is this operation alone
lone_pending : (v : View) (ran : Ran) (p : Pending) → IsLone v ran → pending_after v.call p ≡ pending_with ran.operation ran.reply p
lone_pending v ran p e = ap (λ (t : List Told). pending_after t p) e ∙ one_pending (told_by ran) p

-- ---- THE STEP OF THE MODEL

module _ (v : View) (ran : Ran) (lone : IsLone v ran) (pool : PoolView) (pending : ℕ → Pending) (lane : pending v.fixed.lane ≡ pending_of v.entries)
    (replies : RepliesOutside (outside_before v (plain_pool pool)) ran) where
  abbrev before : Outside
  before = record { pool = plain_pool pool; pending = pending v.fixed.lane }

  same_before : outside_before v (plain_pool pool) ≡ before
  same_before = λ i. record { pool = plain_pool pool; pending = sym lane i }

  pub run : CallRun
  run = record { lane = v.fixed.lane; operations = ran ∷ []; parts = parts_outside before ran }

  pub is_run : IsRunOf v run
  unfolding run
  is_run = record { lane = refl; told = sym lone }

  pub step : (next : PlainPool) → next ≡ pool_after v ran (plain_pool pool)
      → OutsideStep (state_of pool pending) run (record { pool = next; pending = pending_then v pending })
  unfolding run
  step next is = record {
    ran = ran;
    single = refl;
    replies = subst (λ b. RepliesOutside b ran) same_before replies;
    parts = refl;
    leaves = λ i. record {
      pool = (is ∙ ap (λ b. (after_outside ran b).pool) same_before) i;
      pending = with_pending pending v.fixed.lane ((lone_pending v ran (pending v.fixed.lane) lone ∙ sym (pending_now before ran (subst (λ b. RepliesOutside b ran) same_before replies))) i);
    };
  }

-- the pool then has other objects and another root, and else stays
left_pool : (op : Operation) (reply : Option Value) (s : Outside)
    → record s.pool { items = (after_reply_outside op reply s).pool.items; root = (after_reply_outside op reply s).pool.root } ≡ (after_reply_outside op reply s).pool
left_pool op None s = refl
left_pool op (Some (value.Offset off)) s = refl
left_pool op (Some (value.Number n)) s = refl
left_pool op (Some (value.Bytes bytes)) s = refl
left_pool op (Some (value.Members members)) s = refl
left_pool op (Some (value.Refused r)) s = refl

pool_is : (v : View) (ran : Ran) (pool : PlainPool) (root : Option ℕ) → (pool_after v ran pool).root ≡ root
    → record pool { items = (pool_after v ran pool).items; root = root } ≡ pool_after v ran pool
pool_is v ran pool root e = (λ i. record pool { items = (pool_after v ran pool).items; root = sym e i }) ∙ left_pool ran.operation ran.reply (outside_before v pool)

same_some : {A : Type 0} → (a b : A) → Some a ≡ Some b → a ≡ b
same_some {A = A} a b e = ap (λ (z : Option A). Rattle.std.specs.Prelude.unwrap_or z a) e

pub outsides_are_facts : OutsidesAreFacts
outsides_are_facts v ran lone owes = effects_are_facts v (λ classes s header pool pending x holds id lane.
    let y = owes classes s header pool (may_agree classes v true s x) holds id in
    record {
      changes = y.heap;
      items = (pool_after v ran (plain_pool pool)).items;
      has = y.stands.has;
      stands = λ off item e.
          let b = y.stands.only off item e in
          record {
            block = b.0;
            allocated = b.1;
            at = b.2;
            is = same_some item (item_of v.fixed.shape classes (bits_after v s) b.0) (sym e ∙ (ap (pool_after v ran (plain_pool pool)).items b.2 ∙ y.stands.has b.0 b.1));
          };
      run = run v ran lone pool pending lane y.replies;
      is_run = is_run v ran lone pool pending lane y.replies;
      steps = inr (step v ran lone pool pending lane y.replies
          (record (plain_pool pool) { items = (pool_after v ran (plain_pool pool)).items; root = root_told (number (bits_after v s RootWord)) })
          (pool_is v ran (plain_pool pool) (root_told (number (bits_after v s RootWord))) y.root));
    })

-- ---- ONE THAT CHANGES NO OBJECT

nothing_changed : (v : View) → IsBare v → (p : Rattle.pm_view.specs.Places.Place) (b : ℕ) → given (change_of v p b) ≡ false
nothing_changed v y p b = ap given (ap (λ es. change_so_far v es p b) y.entries ∙ nothing_yet v y.records p b)

pub bare_outsides_are_facts : BareOutsidesAreFacts
bare_outsides_are_facts v ran lone bare owes classes s header pool pending x holds id lane =
    let y = owes classes s header pool (may_agree classes v true s x) holds id in
    quiet_calls v classes s header pool pending (run v ran lone pool pending lane y.replies) holds (nothing_changed v bare)
    (is_run v ran lone pool pending lane y.replies)
    (inr (step v ran lone pool pending lane y.replies (plain_pool pool) (sym y.same)))

-- ---- WHAT IS ASKED OF THE PENDING LIST

-- its first refusal looks at the pool's id alone
refused_alike : (seen : Rattle.pm_model.specs.Refusals.Seen) (op : Operation) (pool other : PlainPool) (p : Pending) → is_action op ≡ true → pool.id ≡ other.id
    → refusal_outside seen (record { pool = pool; pending = p }) op ≡ refusal_outside seen (record { pool = other; pending = p }) op
refused_alike seen (Reserve size kind) pool other p a e = refl
refused_alike seen (WriteReserved id at bytes) pool other p a e = λ i. Rattle.pm_model.specs.Refusals.first_of
    ((Rattle.pm_objects.specs.declared.refusal.Refusal.TheVariants.Spent, seen.spent)
    ∷ Rattle.pm_model.specs.Refusals.pending_tests seen (e i) p (WriteReserved id at bytes)
    ++ outside.found_tests seen pool [])
refused_alike seen (DeferFree id) pool other p a e = refl
refused_alike seen (SetValue id at x) pool other p a e = refl
refused_alike seen Cancel pool other p a e = refl
refused_alike seen op pool other p a e = absurd (both_ways false refl a)

no_edits : (items : Items) → all_edited [] items ≡ items
unfolding all_edited
no_edits items = refl

-- one that edits nothing leaves the pool
module _ (op : Operation) (s : Outside) (none : (off : ℕ) → outside.edits_of s.pool s.pending op off ≡ []) (root : (off : ℕ) → outside.root_after s.pool op off ≡ s.pool.root) where
  done_same : (off : ℕ) → (done_outside op off s).pool ≡ s.pool
  done_same off = λ i. record s.pool {
    items = (ap (λ es. all_edited es s.pool.items) (none off) ∙ no_edits s.pool.items) i;
    root = root off i;
  }

  pub left_same : (reply : Option Value) → (after_reply_outside op reply s).pool ≡ s.pool
  left_same None = done_same 0
  left_same (Some (value.Offset off)) = done_same off
  left_same (Some (value.Number n)) = done_same 0
  left_same (Some (value.Bytes bytes)) = done_same 0
  left_same (Some (value.Members members)) = done_same 0
  left_same (Some (value.Refused r)) = refl

action_same : (op : Operation) (reply : Option Value) (s : Outside) → is_action op ≡ true → (after_reply_outside op reply s).pool ≡ s.pool
action_same (Reserve size kind) reply s a = left_same (Reserve size kind) s (λ off. refl) (λ off. refl) reply
action_same (WriteReserved id at bytes) reply s a = left_same (WriteReserved id at bytes) s (λ off. refl) (λ off. refl) reply
action_same (DeferFree id) reply s a = left_same (DeferFree id) s (λ off. refl) (λ off. refl) reply
action_same (SetValue id at x) reply s a = left_same (SetValue id at x) s (λ off. refl) (λ off. refl) reply
action_same Cancel reply s a = left_same Cancel s (λ off. refl) (λ off. refl) reply
action_same op reply s a = absurd (both_ways false refl a)

action_outside : (op : Operation) → is_action op ≡ true → is_outside op ≡ true
action_outside (Reserve size kind) a = refl
action_outside (WriteReserved id at bytes) a = refl
action_outside (DeferFree id) a = refl
action_outside (SetValue id at x) a = refl
action_outside Cancel a = refl
action_outside op a = absurd (both_ways false refl a)

matched : (o : Option Refusal) (A B : Type 0) (R : Refusal → Type 0) → (A → B) → MatchOption o A R → MatchOption o B R
matched None A B R f m = f m
matched (Some r) A B R f m = m

module _ (v : View) (classes : ℕ → ℕ) (s : State) (header : Header) (pool : PoolView) (agrees : Agrees classes v true s)
    (holds : Holds v.fixed.shape classes s header pool) (id : header.id ≡ v.fixed.pool) where
  pool_id : (plain_pool pool).id ≡ v.fixed.pool
  pool_id = ap (λ (p : PoolView). p.id) holds.is_pool ∙ id

  new_block : (size off : ℕ) → CanHold v.fixed.shape.lanes v.fixed.shape.zones (class_of size) off
      → HasBlockFor v true (blocks_reserved (pending_of v.entries)) (record { off = off; size = size })
      → IsNewBlock (plain_pool pool) (blocks_reserved (pending_of v.entries)) (record { off = off; size = size })
  new_block size off can room = record {
    place = subst (λ n. CanHold n pool.zones (class_of size) off) (sym (ap (λ (p : PoolView). p.lanes) holds.is_pool))
        (subst (λ n. CanHold v.fixed.shape.lanes n (class_of size) off) (sym (ap (λ (p : PoolView). p.zones) holds.is_pool)) can);
    free = is_free v.fixed.shape classes s header pool holds v refl true agrees (blocks_reserved (pending_of v.entries)) (record { off = off; size = size }) room;
  }

  action_done : (op : Operation) (seen : Rattle.pm_model.specs.Refusals.Seen) (reply : Option Value) → is_action op ≡ true → IsActionDone v op reply
      → IsDoneOutside (outside_before v (plain_pool pool)) op seen reply
  action_done (Reserve size kind) seen reply a d = record { there = All-nil _; publishes = tt; value = (d.0, new_block size d.0 d.1 d.2, d.3) }
  action_done (WriteReserved id at bytes) seen reply a d = record { there = All-nil _; publishes = tt; value = d }
  action_done (DeferFree id) seen reply a d = record { there = All-nil _; publishes = tt; value = d }
  action_done (SetValue id at x) seen reply a d = record { there = All-nil _; publishes = tt; value = d }
  action_done Cancel seen reply a d = record { there = All-nil _; publishes = tt; value = d }
  action_done op seen reply a d = absurd (both_ways false refl a)

  action_leaves : (ran : Ran) → IsAction v ran → LeavesPool v ran (plain_pool pool)
  action_leaves ran y = record {
    replies = record {
      outside = action_outside ran.operation y.action;
      reply = subst (λ o. MatchOption o (IsDoneOutside (outside_before v (plain_pool pool)) ran.operation ran.seen ran.reply) (λ r. IsRefused r ran.reply))
          (sym (refused_alike ran.seen ran.operation (plain_pool pool) (pool_seen v None) (pending_of v.entries) y.action pool_id))
          (matched (refusal_alone ran.seen v ran.operation) (IsActionDone v ran.operation ran.reply)
          (IsDoneOutside (outside_before v (plain_pool pool)) ran.operation ran.seen ran.reply) (λ r. IsRefused r ran.reply)
          (λ d. action_done ran.operation ran.seen ran.reply y.action d) y.replies);
    };
    same = action_same ran.operation ran.reply (outside_before v (plain_pool pool)) y.action;
  }

pub actions_are_facts : ActionsAreFacts
actions_are_facts v ran y = bare_outsides_are_facts v ran y.lone y.bare
    (λ classes s header pool agrees holds id. action_leaves v classes s header pool agrees holds id ran y)
