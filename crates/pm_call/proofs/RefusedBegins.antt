-- AN OUTERMOST BEGIN THAT IS REFUSED is told so and takes its number, and its call is over then.
use Rattle.std.proofs.Common.{◌≡◌, inl, ℕ, suc, ◌==◌, ◌&&◌, nat_le, Bool, true, false, cond, not, All, Contains, List, [], ◌∷◌, ◌++◌, length, refl, sym, ap, ◌∙◌, subst, rules, Option, None, Some}
use Rattle.std.proofs.lemmas.Bool.{and_left, and_right, both_ways}
use Rattle.std.proofs.lemmas.List.Elements.{All-nil}
use Rattle.pm_model.specs.Inside.{Ran, is_untraced}
use Rattle.pm_model.specs.Items.{is_among}
use Rattle.pm_model.specs.Refusals.{Seen, first_of}
use Rattle.pm_model.specs.Transaction.{idle, is_working}
use Rattle.pm_objects.specs.declared.calls.Operation.{Operation}
use Rattle.pm_objects.specs.declared.calls.Operation.TheVariants.{Begin}
use Rattle.pm_objects.specs.declared.calls.Want.{Want}
use Rattle.pm_objects.specs.declared.history.Value.{Value}
use Rattle.pm_objects.specs.declared.history.Value.TheVariants.{Refused}
use Rattle.pm_objects.specs.declared.ids.Oid.{Oid}
use Rattle.pm_objects.specs.declared.refusal.Refusal.{Refusal}
use Rattle.pm_objects.specs.declared.refusal.Refusal.TheVariants.{Busy, NoObject}
use Rattle.pm_view.specs.Changes.{Undrained}
use Rattle.pm_view.specs.Counts.{lines_up_to, unflushed_lines}
use Rattle.pm_view.specs.Entries.{Entry, latest, redos, turn}
use Rattle.pm_view.specs.Log.{Idle, Log, Open, Recorded, new_log, phase_drawn}
use Rattle.pm_view.specs.Places.{Place}
use Rattle.pm_view.specs.Steps.{Step}
use Rattle.pm_view.specs.Steps.Step.{Drain, Draw, Flush, Tell}
use Rattle.pm_view.specs.View.{Told, View}
use Rattle.pm_view.specs.Views.{after, after_all}
use Rattle.pm_world.specs.LaneFields.{Standing, last_number, moved}
use Rattle.pm_world.specs.Lawful.{KeepsRoot, MayDraw}
use Rattle.pm_world.specs.Sights.{is_recorded}
use Rattle.pm_world.specs.declared.lane.HeldLock.{HeldLock}
use Rattle.pm_crash.specs.Calls.{Fact, pending_of, told_by}
use Rattle.pm_crash.specs.Facts.{BusyWasTried, HaveFacts, MissWasSeen}
use Rattle.pm_crash.specs.Looked.{items_seen, pool_seen, refusal_by}
use Rattle.pm_crash.specs.Missed.{FoundNone}
use Rattle.pm_crash.specs.OpenRuns.{after_told, no_pool}
use Rattle.pm_crash.specs.Sim.{Sim, lists_of, tx_with}
use Rattle.pm_crash.specs.SimFacts as sims
use Rattle.pm_crash.specs.SimFacts.{is_begun}
use Rattle.pm_crash.specs.SimOps.{LookedAt}
use Rattle.pm_crash.proofs.EntryFacts.{before_recorded, draws_keep_facts, records_miss, told_busy}
use Rattle.pm_crash.proofs.SimFacts.{calls_without_log, no_entries, without_entries_have_facts}
use Rattle.pm_crash.proofs.SimOps.{sim_refuses}
use Rattle.pm_crash.proofs.Simulation.{no_turn}
use Rattle.pm_crash.proofs.Telling.{no_root_is_asked, tells_grow}
use Rattle.pm_plan.specs.Plans.{Ready, drains, flushes, in_turn, one, persists_all}
use Rattle.pm_undo.specs.Plans.{restores, retires}
use Rattle.pm_call.specs.Beginning.{BeginRefusals, RefusedBeginsArePast, RefusedBeginsEnd}
use Rattle.pm_call.specs.Did.{IsOver, next}
use Rattle.pm_call.specs.GivenUp.{LeavesOver, generation_after, with_locks}
use Rattle.pm_call.specs.LockRefusals.{TriedLocks, locking_tests}
use Rattle.pm_call.specs.Locking.{CanLockWith, IsOpened}
use Rattle.pm_call.specs.Plans.{ends_call, gives_up, takes_back}
use Rattle.pm_call.proofs.BusyTests.{busy_was_seen, told_refusal}
use Rattle.pm_call.proofs.Ending.{first_traced}
use Rattle.pm_call.proofs.LockRefusals.{first_skip, tests_same}
use Rattle.pm_call.proofs.MissedObjects.{why_recorded}
use Rattle.pm_call.proofs.OpenedCalls.{opened_lanes_may_lock}
use Rattle.pm_call.proofs.OverCalls.{ClaimsStand, claims_ended, ended_pending, over_as, over_by}
use Rattle.pm_call.proofs.RefusedWants.{tests_at}
use Rattle.pm_call.proofs.TriedLocks.{fixed_on, leaves_open, view_on}

-- ---- WHY IT IS REFUSED
module _ (s : Standing) (all : List HeldLock) (is : CanLockWith s all) (call : s.view.call ≡ [])
  where
    no_level : (lists_of s.view).level ≡ 0
    unfolding after_told
    no_level = ap (λ (told : List Told). (after_told told
        (idle no_pool (pending_of s.view.entries))).level) call

    pub refusals_with : (wants : List Want) (seen : Seen) → seen.spent ≡ false → seen.busy ≡ false
        → refusal_by seen s.view None (Begin wants) ≡ first_of (locking_tests seen s wants)
    refusals_with wants seen spent busy =
        first_skip _ _ (and_left (nat_le 1 (lists_of s.view).level)
        (not (is_working (lists_of s.view).stage)) (ap (nat_le 1) no_level))
        ∙ (first_skip _ _ (and_right ((lists_of s.view).level == 0) seen.spent spent)
        ∙ (first_skip _ _ (ap (nat_le 64) no_level)
        ∙ tests_same s wants seen is.lists (λ b. and_right (nat_le 1 (lists_of s.view).level && b)
        seen.busy busy ∙ sym (and_right b seen.busy busy))))

-- ---- THE CALL ENDS, with nothing to roll back
none_undrained : (v : View) → v.changes ≡ [] → persists_all v ≡ []
unfolding persists_all in_turn flushes drains after_all unflushed_lines lines_up_to
none_undrained v e =
    ap (λ (cs : List Undrained). Rattle.std.specs.Prelude.map Flush (unflushed_lines cs) ++ drains
    (after_all v (Rattle.std.specs.Prelude.map Flush (unflushed_lines cs)))) e
    ∙ ap (λ (cs : List Undrained). cond (length cs == 0) [] (Drain ∷ [])) e

pub none_back : (v : View) → v.log.records ≡ [] → v.changes ≡ [] → takes_back v ≡ []
none_back v records drained = ap (λ (rs : List Recorded). cond (length rs == 0) (persists_all v)
    (in_turn restores retires v)) records ∙ none_undrained v drained

-- so what is left of giving it up is that it is told, and takes its number
module _ (v : View) (op : Operation) (reply : Option Value) (n : ℕ) where
  pub only_ends : takes_back v ≡ [] → gives_up op reply n v ≡ ends_call op reply n v
  unfolding in_turn after_all
  only_ends none = ap (λ (steps : List Step). steps ++ ends_call op reply n (after_all v steps))
      none

  pub ends_so : ends_call op reply n v ≡ Tell op reply ∷ Draw n ∷ []
  unfolding in_turn one after_all
  ends_so = refl

  pub ended_so : after_all v (ends_call op reply n v) ≡ after (after v (Tell op reply)) (Draw n)
  unfolding in_turn one after_all
  ended_so = refl

module _ (s : Standing) (all : List HeldLock) (is : CanLockWith s all) (call : s.view.call ≡ [])
    (records : s.view.log.records ≡ []) (drained : s.view.changes ≡ [])
    (wants : List Want) (seen : Seen) (r : Refusal)
    (first : refusal_by seen s.view None (Begin wants) ≡ Some r)
    (traced : is_untraced r ≡ false) (unbusy : seen.busy ≡ false)
    (missing : (off : ℕ) → is_among seen.missing off ≡ true → FoundNone s.view off) where
  abbrev v : View
  v = s.view

  abbrev op : Operation
  op = Begin wants

  abbrev reply : Option Value
  reply = Some (Refused r)

  abbrev ran : Ran
  ran = record { operation = op; seen = seen; reply = reply }

  abbrev told : View
  told = after v (Tell op reply)

  abbrev done : ℕ → View
  done n = after told (Draw n)

  no_id : (id : Oid) → Contains [] id → ⊥
  no_id id among = search rules

  none_recorded : (p : Place) → is_recorded v.log.records p ≡ true → ⊥
  none_recorded p e = both_ways (is_recorded v.log.records p)
      (ap (λ rs. is_recorded rs p) records) e

  looks : LookedAt v [] None op
  looks = record {
    enters = no_entries v (λ p e. absurd (none_recorded p e));
    sizes = λ id write among held stays. absurd (no_id id among);
    knows_root = no_root_is_asked v None op refl;
  }

  sim : Sim told []
  sim = sim_refuses v told [] [] None ran is.sim (record
      { keeps = record { fixed = refl; entries = refl }; call = refl }) is.tells
      (tells_grow v op reply) (record {
        inside = refl;
        looks = looks;
        refusal = r;
        first = first;
        traced = traced;
        replied = refl;
        left = (records, refl);
      })

  over : sims.IsOver told
  over = calls_without_log told v.call ran (record {
    begun = ap (λ (calls : List Told). is_begun (calls ++ told_by ran ∷ [])) call;
    call =
        refl;
    ends = inl refl;
  }) is.working.unentered records

  fact : Fact told
  fact = without_entries_have_facts told is.working.unentered sim over

  -- ---- it takes its number
  may_draw : MayDraw told
  may_draw = record {
    is_open = is.working.is_open;
    whole = is.working.whole;
    first = is.number.none;
    drained = inl drained;
    found = is.number.seen;
    seen = is.number.told;
    below = is.number.below;
    new_blocks = λ B e. absurd (let z : Some true ≡ None = sym e
        ∙ (ap (λ (es : List Entry). turn (latest (redos es)) B) is.working.unentered
        ∙ no_turn B) in cc);
    root = subst (All (KeepsRoot told)) (sym is.working.unentered) (All-nil _);
    entries = inl is.working.unentered;
  }

  -- it is not told as Busy
  tried : BusyWasTried told.call told.seen
  tried = told_busy v.call (record { operation = op; reply = reply }) told.seen
      (λ e. absurd (both_ways seen.busy unbusy
      (busy_was_seen seen (tx_with v (pool_seen v None) (items_seen v)) op
      (first ∙ ap (λ x. Some x) (told_refusal r Busy e)))))

  -- its lane saw why, where it is recorded as NoObject
  missed : MissWasSeen told
  missed = records_miss told v.call (record { operation = op; reply = reply }) refl
      (λ e. why_recorded v told seen None op refl
      (ap (λ (calls : List Told). after_told calls (idle no_pool (pending_of v.entries)))
      (before_recorded v.call (record { operation = op; reply = reply })))
      missing
      (first ∙ ap (λ x. Some x) (told_refusal r NoObject e)))

  facts : (n : ℕ) → HaveFacts (done n)
  facts n = draws_keep_facts told n fact tried missed is.facts

  log_is : v.log ≡ new_log Open v.log.generation
  log_is = λ i. record {
    phase = is.working.is_open i;
    generation = v.log.generation;
    bumped = is.unbumped i;
    records = records i;
    entries = is.working.unentered i;
    slot = is.working.whole.0 i;
    pair = is.working.whole.1 i;
  }

  log_done : (n : ℕ) → (done n).log ≡ new_log Idle (done n).log.generation
  log_done n = ap (λ (l : Log). record l { phase = phase_drawn n l.records l.entries }) log_is

  claims : ClaimsStand v all
  claims = record {
    lane = is.working.lane;
    lanes = is.working.lanes;
    zones = is.working.zones;
    unmaking = is.working.unmaking;
    sound = is.sound;
    sizes = is.sizes;
    holds = is.holds;
    own = is.own;
  }

  is_over : (n : ℕ) → IsOver (moved (with_locks all s) (done n))
  is_over n = over_by (moved (with_locks all s) (done n)) (log_done n) drained is.working.known
      is.sealed (facts n) (ended_pending v op reply n (λ p. refl) refl is.pending)
      (claims_ended v op reply n all claims)

  -- ---- the steps
  plan_is : (n : ℕ) → gives_up op reply n v ≡ Tell op reply ∷ Draw n ∷ []
  plan_is n = only_ends v op reply n (none_back v records drained) ∙ ends_so v op reply n

  steps_ready : (n : ℕ) → Ready v (Tell op reply ∷ Draw n ∷ [])
  unfolding Ready
  steps_ready n = (is.working.is_open, tt, (may_draw, tt, tt))

  ends_at : (n : ℕ) → after_all v (gives_up op reply n v) ≡ done n
  ends_at n = ap (after_all v) (only_ends v op reply n (none_back v records drained))
      ∙ ended_so v op reply n

  pub refused_ends : (n : ℕ) → LeavesOver (with_locks all s) op reply n
  refused_ends n = record {
    ready = subst (Ready v) (sym (plan_is n)) (steps_ready n);
    over = subst (λ (w : View). IsOver (moved (with_locks all s) w)) (sym (ends_at n)) (is_over n);
    generation = ap (λ (w : View). w.log.generation) (ends_at n)
        ∙ ap (λ (rs : List Recorded). generation_after rs v.log.generation) (sym records);
    number = ap (λ (w : View). last_number w.entries) (ends_at n);
  }

-- ---- THE LAWS
pub begin_refusals : BeginRefusals
begin_refusals s wants seen is spent busy = refusals_with s s.locks (opened_lanes_may_lock s is)
    is.call wants seen spent busy

-- a refusal for locks leaves a trace
locks_traced : (seen : Seen) (s : Standing) (wants : List Want) (r : Refusal)
    → first_of (locking_tests seen s wants) ≡ Some r → is_untraced r ≡ false
locks_traced seen s wants r = first_traced (locking_tests seen s wants) r
    (λ e. refl, (λ e. refl, (λ e. refl, (λ e. refl, tt))))

-- nothing was done that is to be rolled back
pub opened_none_back : (s : Standing) (wants : List Want) (all : List HeldLock) (x : View)
    → IsOpened s → TriedLocks s wants all x → takes_back x ≡ []
opened_none_back s wants all x is tried =
    let same = view_on s wants all x tried in
    none_back x (ap (λ (y : View). y.log.records) same
    ∙ is.records) (ap (λ (y : View). y.changes) same ∙ is.drained)

pub refused_begins_end : RefusedBeginsEnd
refused_begins_end s wants all x seen r n is tried spent busy first missing =
    let can = opened_lanes_may_lock s is in
    let same = view_on s wants all x tried in
    let may : CanLockWith (moved s x) all = leaves_open s wants all x can tried in
    let call : x.call ≡ [] = ap (λ (y : View). y.call) same ∙ is.call in
    refused_ends (moved s x) all may call (ap (λ (y : View). y.log.records) same
    ∙ is.records) (ap (λ (y : View). y.changes) same ∙ is.drained) wants seen r
    (refusals_with (moved s x) all may call wants seen spent busy
    ∙ (ap first_of (tests_at s wants seen x (fixed_on s wants all x tried)) ∙ first))
    (locks_traced seen s wants r first) busy missing n

pub refused_begins_are_past : {M : Type 0} (at : M → View → Type 0) → RefusedBeginsArePast at
refused_begins_are_past at lane s wants r one up = record {
  sees = record { memory = up.sees.memory; fields = up.sees.fields };
  past = record {
    past = refl;
    some = subst (λ n. Rattle.std.specs.Prelude.◌≤◌ 1 n) (sym one)
        (omega Rattle.std.proofs.Common.arith);
    most = subst (λ n. Rattle.std.specs.Prelude.◌≤◌ n 64) (sym one)
        (omega Rattle.std.proofs.Common.arith);
    leaves = (
      over_as (next s (gives_up (Begin wants) (Some (Refused r)) up.number)) [] s.level
          up.over,
      refl,
    );
  };
}
