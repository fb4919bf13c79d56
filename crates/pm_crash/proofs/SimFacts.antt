-- A transaction that is over, and came to what the model's transaction has, has its fact.
use Rattle.std.proofs.Common.{◌≡◌, ⊎_elim, inl, ℕ, zero, suc, ◌-◌, ◌&&◌, ◌||◌, not, nat_le, Bool, true, false, cond, List, [], ◌∷◌, map, Option, Some, None, IsSome, refl, sym, ◌∙◌, ap, subst}
use Rattle.std.proofs.lemmas.Bool.{and_parts, both_ways, or_cases, or_left, or_right}
use Rattle.pm_header.specs.declared.header.Header.{Header}
use Rattle.pm_layout.specs.declared.shape.Shape.{Shape}
use Rattle.pm_objects.specs.declared.calls.Operation.{Operation}
use Rattle.pm_objects.specs.declared.calls.Operation.TheVariants.{Abort, Commit}
use Rattle.pm_objects.specs.declared.history.TxErr.{TxErr}
use Rattle.pm_objects.specs.declared.history.Value.{Value}
use Rattle.pm_objects.specs.declared.history.Value.TheVariants.{Refused}
use Rattle.pm_objects.specs.declared.history.TxErr.TheVariants as error
use Rattle.pm_objects.specs.declared.pool.PoolView.{PoolView}
use Rattle.pm_model.specs.CallStep.{CallRun, Runs, TransactionStep, is_transaction}
use Rattle.pm_model.specs.Inside.{Ran, after, after_reply, is_action}
use Rattle.pm_model.specs.Items.{Items, all_edited, plain_pool}
use Rattle.pm_model.specs.Parts.{parts_inside}
use Rattle.pm_model.specs.Pending.{Pending, set_edits}
use Rattle.pm_model.specs.Refusals.{Seen}
use Rattle.pm_model.specs.Shown.{aborts, is_abort}
use Rattle.pm_model.specs.Transaction.{Transaction, aborted, committed, idle, is_none, is_working, pool_of}
use Rattle.pm_model.specs.declared.stage.Stage.TheVariants as stage
use Rattle.pm_view.specs.Entries.{latest, turn}
use Rattle.pm_view.specs.Places.{Place, InRun, InHuge, Descr, RootWord, Block, Small, Big, Root, block_of, is_data}
use Rattle.pm_view.specs.View.{Told, View}
use Rattle.pm_world.specs.Sights.{is_made, is_recorded, picture}
use Rattle.pm_world.specs.States.{State as Bits, Diff, given}
use Rattle.pm_crash.specs.Calls.{IsRunOf, pending_after, pending_of, state_of, told_by}
use Rattle.pm_crash.specs.Facts.{HasEffect, state_with}
use Rattle.pm_crash.specs.Footprints.{MayPrecede, geometry_of, has_found, has_own}
use Rattle.pm_crash.specs.Freshness.{root_told}
use Rattle.pm_crash.specs.HeapChanges.{ChangesHeap, Frees, Makes}
use Rattle.pm_crash.specs.Looked.{ChangesAt, Enters, IsChanged}
use Rattle.pm_crash.specs.Objects.{item_of}
use Rattle.pm_crash.specs.OpenRuns.{AreReplies, after_told, no_pool}
use Rattle.pm_crash.specs.Sim.{Agrees, Came, Sim, bits_now, change_so_far, copy_of, is_kept_block, tx_with}
use Rattle.pm_crash.specs.SimFacts.{CallsWithoutEntriesAreOver, CallsWithoutEntriesHaveFacts, CallsWithoutLogAreOver, EndsTransaction, IsOver, IsSized, SimsAreFacts, TransactionsEnd, is_begun, lists_after}
use Rattle.pm_crash.specs.Spelled.{Holds, number}
use Rattle.pm_crash.proofs.Effects.{effects_are_facts}
use Rattle.pm_crash.proofs.OpenPools.{pending_so, root_stays}
use Rattle.pm_crash.proofs.OpenRuns.{are_runs, told_once_more}
use Rattle.pm_crash.proofs.OwnEntries.{kept_is_own}
use Rattle.pm_crash.proofs.Simulation.{no_turn, now_is}
use Rattle.pm_crash.proofs.SimHeap as good

same_some : {A : Type 0} → (a b : A) → Some a ≡ Some b → a ≡ b
same_some {A = A} a b e = ap (λ (z : Option A). Rattle.std.specs.Prelude.unwrap_or z a) e

-- what may precede a call agrees with it
pub may_agree : (classes : ℕ → ℕ) (v : View) (kept : Bool) (s : Bits) → MayPrecede classes v s → Agrees classes v kept s
may_agree classes v kept s x = record {
  found = x.found;
  spans = x.spans;
  whole = x.whole;
  plain = x.plain;
  class = λ c i t. x.class c i (⊎_elim
      (λ (f : has_found v (Rattle.pm_view.specs.Places.Small c i) ≡ true). or_left (has_found v (Rattle.pm_view.specs.Places.Small c i)) (has_own v (Rattle.pm_view.specs.Places.Small c i)) f)
      (λ (o : is_kept_block v kept (Rattle.pm_view.specs.Places.Small c i) ≡ true). or_right (has_found v (Rattle.pm_view.specs.Places.Small c i)) (has_own v (Rattle.pm_view.specs.Places.Small c i)) (kept_is_own v kept (Rattle.pm_view.specs.Places.Small c i) o))
      (or_cases (has_found v (Rattle.pm_view.specs.Places.Small c i)) (is_kept_block v kept (Rattle.pm_view.specs.Places.Small c i)) t));
  known = x.known;
  apart = λ B C line o a c. x.apart B C line (kept_is_own v kept B o) a c;
  roots = x.roots;
}

-- what was told is a run of the model
run_of : (runs : List Ran) (told : List Told) (tx : Transaction) → map told_by runs ≡ told → is_begun told ≡ true → AreReplies true tx runs
    → (is_transaction runs ≡ true) × Runs tx runs (after_told (map told_by runs) tx)
run_of [] told tx e begun so = absurd (both_ways false refl (ap is_begun e ∙ begun))
run_of (r ∷ runs) told tx e begun so = (ap is_begun e ∙ begun, are_runs r runs tx so)

module _ (v : View) (sim : Sim v v.log.entries) (y : IsOver v) (classes : ℕ → ℕ) (s : Bits) (header : Header) (pool : PoolView) (pending : ℕ → Pending)
    (x : MayPrecede classes v s) (holds : Holds v.fixed.shape classes s header pool) (id : header.id ≡ v.fixed.pool) (lane : pending v.fixed.lane ≡ pending_of v.entries) where
  abbrev sh : Shape
  sh = v.fixed.shape

  abbrev now : Bits
  now = bits_now v v.log.entries s

  abbrev d : Diff
  d = change_so_far v v.log.entries

  agrees : Agrees classes v true s
  agrees = may_agree classes v true s x

  came : Came v v.log.entries true classes s (plain_pool pool)
  came = sim.come true classes s header pool agrees holds id

  abbrev copy : Items
  copy = copy_of v (plain_pool pool)

  -- ---- THE HEAP IS GOOD

  same_copy : (after_told (map told_by came.runs) (idle (plain_pool pool) (pending_of v.entries))).items ≡ copy
  same_copy = ap (λ (t : List Told). (after_told t (idle (plain_pool pool) (pending_of v.entries))).items) came.told

  kept_root : (r : ℕ) → (plain_pool pool).root ≡ Some r → IsSome ((plain_pool pool).items r) → IsSome (copy r)
  kept_root r is there = subst (λ (items : Items). IsSome (items r)) same_copy
      (root_stays true (plain_pool pool) (pending_of v.entries) came.runs r is there came.replies)

  heap : ChangesHeap sh classes s d
  heap = good.heap v y.enters y.sized classes s header pool holds agrees copy came.stands kept_root

  -- ---- THE STEP OF THE MODEL

  abbrev start : Transaction
  start = idle (plain_pool pool) (pending v.fixed.lane)

  abbrev run : CallRun
  run = record { lane = v.fixed.lane; operations = came.runs; parts = parts_inside start came.runs }

  is_run : IsRunOf v run
  is_run = record { lane = refl; told = came.told }

  replies : AreReplies true start came.runs
  replies = subst (λ p. AreReplies true (idle (plain_pool pool) p) came.runs) (sym lane) came.replies

  abbrev last : Transaction
  last = after_told (map told_by came.runs) start

  last_is : last ≡ tx_with v (plain_pool pool) copy
  last_is = (λ i. after_told (came.told i) (idle (plain_pool pool) (lane i))) ∙ now_is v (plain_pool pool)

  last_pending : last.pending ≡ pending_after v.call (pending v.fixed.lane)
  last_pending = pending_so true start came.runs replies ∙ ap (λ (t : List Told). pending_after t (pending v.fixed.lane)) came.told

  same_root : root_told (number (now RootWord)) ≡ (plain_pool pool).root
  same_root = good.same_root v y.enters y.sized classes s header pool holds agrees copy came.stands kept_root

  leaves : state_with v s pool pending copy ≡ Rattle.pm_model.specs.CallStep.state_with (state_of pool pending) v.fixed.lane (record { pool = pool_of last; pending = last.pending })
  leaves = λ i. record {
    pool = pools i;
    pending = Rattle.pm_model.specs.CallStep.with_pending pending v.fixed.lane (sym last_pending i);
  }
    where
      pools : record (plain_pool pool) { items = copy; root = root_told (number (now RootWord)) } ≡ pool_of last
      pools = (λ i. record (plain_pool pool) { items = copy; root = same_root i }) ∙ ap pool_of (sym last_is)

  step : TransactionStep (state_of pool pending) run (state_with v s pool pending copy)
  step =
      let t = run_of came.runs v.call start came.told y.begun replies in
      record {
        last = last;
        begins = t.0;
        over = ap (λ (tx : Transaction). is_working tx.stage) last_is ∙ y.over;
        runs = t.1;
        parts = refl;
        leaves = leaves;
      }

  pub effect : HasEffect v classes s pool pending
  effect = record {
    changes = heap;
    items = copy;
    has = came.stands.has;
    stands = λ off item e.
        let b = came.stands.only off item e in
        record {
          block = b.0;
          allocated = b.1;
          at = b.2;
          is = same_some item (item_of sh classes now b.0) (sym e ∙ (ap copy b.2 ∙ came.stands.has b.0 b.1));
        };
    run = run;
    is_run = is_run;
    steps = inl step;
  }

pub sims_are_facts : SimsAreFacts
sims_are_facts v sim y = effects_are_facts v (λ classes s header pool pending x holds id lane. effect v sim y classes s header pool pending x holds id lane)

-- ---- A TRANSACTION ENDS

refused_stage : (b : Bool) (e : TxErr) (tx : Transaction) → not b ≡ true → is_working (cond b tx (aborted e tx)).stage ≡ false
refused_stage true e tx t = absurd (both_ways false refl t)
refused_stage false e tx t = refl

-- an operation that aborts leaves none at work
abort_stage : (op : Operation) (seen : Seen) (reply : Option Value) (tx : Transaction) → aborts (record { operation = op; seen = seen; reply = reply }) ≡ true
    → is_working (after_reply op reply tx).stage ≡ false
abort_stage (Abort n) seen (Some (Refused r)) tx t = refl
abort_stage (Abort n) seen reply tx t = refl
abort_stage op seen (Some (Refused r)) tx t = refused_stage (is_action op) (error.Refused r) tx (⊎_elim
    (λ (a : (not (is_action op) && true) ≡ true). (and_parts (not (is_action op)) true a).0)
    (λ (n : is_abort op ≡ true). absurd (both_ways false refl n))
    (or_cases (not (is_action op) && true) (is_abort op) t))
abort_stage op seen reply tx t = absurd (both_ways false refl t)

level_stage : (n : ℕ) (outermost inner : Transaction) → n ≡ 1 → is_working outermost.stage ≡ false → is_working (cond (nat_le n 1) outermost inner).stage ≡ false
level_stage n outermost inner e none = ap (λ k. is_working (cond (nat_le k 1) outermost inner).stage) e ∙ none

-- nor does the outermost commit
commit_stage : (tx : Transaction) → tx.level ≡ 1 → is_working (after_reply Commit None tx).stage ≡ false
commit_stage tx e = level_stage tx.level (record (idle tx.before tx.pending) { items = all_edited (set_edits tx.sets) tx.items })
    (record (committed tx) { level = tx.level - 1; stage = cond (is_none tx.error) stage.Work stage.OnAbort }) e refl

end_stage : (tx : Transaction) (ran : Ran) → EndsTransaction tx ran → is_working (after ran tx).stage ≡ false
end_stage tx ran ends = ⊎_elim
    (λ (a : aborts ran ≡ true). abort_stage ran.operation ran.seen ran.reply tx a)
    (λ (c : (ran.operation ≡ Commit) × (ran.reply ≡ None) × (tx.level ≡ 1)).
    (λ i. is_working (after_reply (c.0 i) (c.1 i) tx).stage) ∙ commit_stage tx c.2)
    ends

pub transactions_end : TransactionsEnd
transactions_end v earlier ran y =
    ap (λ (told : List Told). is_working (lists_after v told).stage) y.call
    ∙ (ap (λ (tx : Transaction). is_working tx.stage) (told_once_more earlier (told_by ran) (idle no_pool (pending_of v.entries)))
    ∙ end_stage (lists_after v earlier) ran y.ends)

-- ---- WITHOUT ENTRIES

given_second : (d m r : Bool) (x : Option Bool) → m ≡ false → given (cond (d && (m || r)) x None) ≡ true → r ≡ true
given_second true true r x none t = absurd (both_ways true none refl)
given_second true false true x none t = refl
given_second true false false x none t = t
given_second false m r x none t = absurd (both_ways false refl t)

module _ (v : View) where
  -- no block is made or freed
  pub no_block : (B : Block) → given (turn (change_so_far v []) B) ≡ false
  no_block (Small c i) = refl
  no_block (Big f) = refl
  no_block Root = refl

  made_none : {Q : Type 0} (B : Block) → Makes (change_so_far v []) B → Q
  made_none B m = absurd (both_ways (given (turn (change_so_far v []) B)) (no_block B) (ap given m))

  freed_none : {Q : Type 0} (B : Block) → Frees (change_so_far v []) B → Q
  freed_none B m = absurd (both_ways (given (turn (change_so_far v []) B)) (no_block B) (ap given m))

  -- what is changed was recorded
  pub was_recorded : (p : Place) (b : ℕ) → given (change_so_far v [] p b) ≡ true → is_recorded v.log.records p ≡ true
  was_recorded p b t =
      let B = block_of (geometry_of v) p b in
      given_second (is_data p) (is_made (turn (latest []) B)) (is_recorded v.log.records p) (picture v.fixed.shape v.claims p b)
      (ap is_made (no_turn B)) t

  changes_recorded : ((p : Place) → is_recorded v.log.records p ≡ true → IsChanged v p)
      → (p : Place) (b : ℕ) → given (change_so_far v [] p b) ≡ true → ChangesAt v (change_so_far v []) p
  changes_recorded known (InRun c zero) b t = tt
  changes_recorded known (InRun c (suc w)) b t = known (InRun c (suc w)) (was_recorded (InRun c (suc w)) b t)
  changes_recorded known (InHuge c w) b t = known (InHuge c w) (was_recorded (InHuge c w) b t)
  changes_recorded known (Descr c) b t = absurd (both_ways false refl t)
  changes_recorded known RootWord b t = absurd (both_ways false refl t)

  pub no_entries : ((p : Place) → is_recorded v.log.records p ≡ true → IsChanged v p) → Enters v []
  no_entries known = record {
    makes = λ B m. made_none B m;
    frees = λ B m. freed_none B m;
    of_run = λ c i m. made_none (Small c i) m;
    of_zone = λ f m. made_none (Big f) m;
    says = λ f b m few. made_none (Big f) m;
    no_run = λ f c i m t n. made_none (Big f) m;
    no_other = λ f c m t n. made_none (Big f) m;
    changes = changes_recorded known;
  }

pub calls_without_entries : CallsWithoutEntriesAreOver
calls_without_entries v earlier ran y none known = record {
  begun = y.begun;
  over = transactions_end v earlier ran y;
  enters = subst (Enters v) (sym none) (no_entries v known);
  sized = λ B. subst (λ entries. Makes (change_so_far v entries) B → IsSized v entries B) (sym none) (λ m. made_none v B m);
}

pub calls_without_log : CallsWithoutLogAreOver
calls_without_log v earlier ran y none empty = calls_without_entries v earlier ran y none
    (λ p t. absurd (both_ways false refl (ap (λ records. is_recorded records p) (sym empty) ∙ t)))

pub without_entries_have_facts : CallsWithoutEntriesHaveFacts
without_entries_have_facts v none sim y = sims_are_facts v (subst (Sim v) (sym none) sim) y
