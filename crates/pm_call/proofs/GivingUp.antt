-- A LANE AT WORK MAY GIVE ITS TRANSACTION UP, whatever number it takes; and the call is over then.
use Rattle.std.proofs.Common.{◌≡◌, ◌≢◌, ℕ, ◌+◌, ◌*◌, ◌<◌, ◌≤◌, inl, inr, ⊎_elim, true, false, ◌&&◌, not, Contains, rules, List, [], ◌∷◌, ◌++◌, refl, sym, ap, ◌∙◌, subst, arith, Option, None, Some}
use Rattle.std.proofs.lemmas.Bool.{and_from, both_ways, or_left, or_right}
use Rattle.std.proofs.lemmas.List.Elements.{All-nil}
use Rattle.pm_layout.specs.Areas.{word_of_generation, word_of_seal}
use Rattle.pm_model.specs.Inside.{Ran, is_action, is_refusal}
use Rattle.pm_model.specs.Pending.{Pending}
use Rattle.pm_model.specs.Shown.{aborts, is_abort}
use Rattle.pm_model.specs.Transaction.{idle, is_working}
use Rattle.pm_objects.specs.declared.calls.Operation.{Operation}
use Rattle.pm_objects.specs.declared.history.Value.{Value}
use Rattle.pm_objects.specs.declared.history.Value.TheVariants.{Refused}
use Rattle.pm_objects.specs.declared.ids.Oid.{Oid}
use Rattle.pm_objects.specs.declared.refusal.Refusal.TheVariants.{Busy, NoObject}
use Rattle.pm_view.specs.Claims.{class, header_in}
use Rattle.pm_view.specs.Log.{Open, new_log}
use Rattle.pm_view.specs.Places.{Place, InRun, InHuge, Descr, RootWord, Block, Small, Big, Root, word_of}
use Rattle.pm_view.specs.Steps.Step.{Draw, Tell}
use Rattle.pm_view.specs.View.{Told, View}
use Rattle.pm_view.specs.Views.{actions_told, after, after_all}
use Rattle.pm_world.specs.LaneFields.{Standing, last_number, moved}
use Rattle.pm_world.specs.Lawful.{MayDraw}
use Rattle.pm_world.specs.Sights.{is_pictured}
use Rattle.pm_world.specs.declared.lane.HeldLock.{HeldLock}
use Rattle.pm_crash.specs.Calls.{Fact, pending_of, pending_with}
use Rattle.pm_crash.specs.Facts.{BusyWasTried, HaveFacts, MissWasSeen}
use Rattle.pm_crash.specs.Looked.{word_place, words_in}
use Rattle.pm_crash.specs.Missed.{lists_before}
use Rattle.pm_crash.specs.OpenRuns.{after_told, no_pool}
use Rattle.pm_crash.specs.Sim.{Sim}
use Rattle.pm_crash.specs.SimFacts.{IsOver}
use Rattle.pm_model.specs.Refusals.{Seen}
use Rattle.pm_crash.specs.SimOps.{RollsBack, IsAborted, IsRefusedBy}
use Rattle.pm_crash.proofs.EntryFacts.{before_recorded, draws_keep_facts, records_miss, told_busy}
use Rattle.pm_crash.proofs.Rollbacks.{sim_rolls_back}
use Rattle.pm_crash.proofs.SimFacts.{calls_without_log, no_entries, without_entries_have_facts}
use Rattle.pm_crash.proofs.Simulation.{no_turn}
use Rattle.pm_crash.proofs.Telling.{no_root_is_asked}
use Rattle.pm_plan.specs.Plans.{Ready, in_turn, one}
use Rattle.pm_plan.proofs.Plans.{after_all-append, ready_both}
use Rattle.pm_call.specs.At.{IsAtWith}
use Rattle.pm_call.specs.Did as did
use Rattle.pm_call.specs.Did.{unseen}
use Rattle.pm_call.specs.GivenUp.{GivesUp, IsAbort, IsRefusedWith, LeavesOver, TransactionsMayBeGivenUp, with_locks}
use Rattle.pm_call.specs.Plans.{gives_up, takes_back, tells}
use Rattle.pm_call.proofs.BusyTests.{busy_was_seen, told_refusal}
use Rattle.pm_call.proofs.Ending.{abort_unrefused, begun_still, refusal_traced, refused_actions, refused_pending}
use Rattle.pm_call.proofs.Frames.{noting}
use Rattle.pm_call.proofs.MissedObjects.{found_none_noted, why_recorded}
use Rattle.pm_call.proofs.RolledBack.{is_changed, rolls_back}
use Rattle.pm_call.proofs.OverCalls.{ClaimsStand, claims_at_work, claims_ended, claims_noted, ended_pending, over_by, size_apart, size_no_generation}
use Rattle.pm_call.proofs.Staying.{has_pending}
use Rattle.pm_call.proofs.TakenBack.{IsTakenBack, take_back_lawful}

-- a word of which a lane has a picture is in no lane's area
far_picture : (v : View) (p : Place) → v.fixed.lane < v.fixed.shape.lanes → v.fixed.shape.lanes ≤ 32 → is_pictured p ≡ true → word_of v.fixed.shape p ≢ word_of_generation v.fixed.shape v.fixed.lane
far_picture v (InRun c w) lane lanes seen e = omega (arith, e, lane)
far_picture v (InHuge c w) lane lanes seen e = omega (arith, e, lane)
far_picture v (Descr c) lane lanes seen e = both_ways false refl seen
far_picture v RootWord lane lanes seen e = omega (arith, e, lane)

-- and a recorded word is no seal
far_seal : (v : View) (B : Block) (k : ℕ) → v.fixed.lane < v.fixed.shape.lanes → v.fixed.shape.lanes ≤ 32 → k < words_in v B → word_of_seal v.fixed.shape v.fixed.lane ≢ word_of v.fixed.shape (word_place v B k)
far_seal v (Small c i) k lane lanes within e = let m : ℕ = class v.claims c * i in omega (arith, e, lane)
far_seal v (Big f) k lane lanes within e = omega (arith, e, lane)
far_seal v Root k lane lanes within e = absurd (omega (arith, within))

none_among : (id : Oid) → Contains [] id → ⊥
none_among id among = search rules

module _ (s : Standing) (locks : List HeldLock) (is : IsAtWith s s.level locks) (op : Operation) (reply : Option Value) (gives : GivesUp s op reply) where
  abbrev pub v : View
  v = s.view

  taken : Ready v (takes_back v) × IsTakenBack v (after_all v (takes_back v))
  taken = take_back_lawful v is.working is.unbumped is.recorded

  pub b : IsTakenBack v (after_all v (takes_back v))
  b = taken.1

  abbrev pub back : View
  back = noting v b.notes [] b.calls (new_log Open b.generation)

  abbrev pub told : View
  told = after back (Tell op reply)

  abbrev pub done : ℕ → View
  done n = after told (Draw n)

  abbrev ran : Seen → Ran
  ran seen = record { operation = op; seen = seen; reply = reply }

  works : is_working (Rattle.pm_crash.specs.Sim.lists_of v).stage ≡ true
  works = is.lists.works

  some : 1 ≤ (Rattle.pm_crash.specs.Sim.lists_of v).level
  some = let e = is.lists.level_is in let l = is.some in omega (arith, e, l)

  -- ---- the model's transaction ends with it
  abort_by : IsAbort op reply → IsAborted v [] told None (ran unseen)
  abort_by a = record {
    number = a.errnum;
    aborts = a.is;
    replied = a.replied;
    looks = record {
      enters = no_entries v (is_changed v b.notes b.calls b.generation b.each is.working.unmaking is.sound is.recorded b.restored b.others (λ p e. far_picture v p is.working.lane is.working.lanes e));
      sizes = subst (λ o. Rattle.pm_crash.specs.Looked.KnowsSizes v [] None o) (sym a.is) (λ id write among held stays. absurd (none_among id among));
      knows_root = no_root_is_asked v None op (ap (Rattle.pm_crash.specs.Looks.ids_freed (Rattle.pm_crash.specs.Sim.lists_of v)) a.is);
    };
    unrefused = ap (λ o. Rattle.pm_crash.specs.Looked.refusal_by unseen v None o) a.is ∙ abort_unrefused (Rattle.pm_crash.specs.Sim.tx_with v (Rattle.pm_crash.specs.Looked.pool_seen v None) (Rattle.pm_crash.specs.Looked.items_seen v)) works some unseen a.errnum;
    records = refl;
  }

  refusal_by_ : (r : IsRefusedWith s op reply) → IsRefusedBy v [] told [] r.root (ran r.seen)
  refusal_by_ r = record {
    inside = r.inside;
    looks = r.looks;
    refusal = r.refusal;
    first = r.first;
    traced = refusal_traced (Rattle.pm_crash.specs.Sim.tx_with v (Rattle.pm_crash.specs.Looked.pool_seen v r.root) (Rattle.pm_crash.specs.Looked.items_seen v)) works some r.seen op r.refusal r.first;
    replied = r.replied;
    left = subst (λ c. Rattle.pm_crash.specs.SimOps.LeavesBits v [] told [] c) (sym r.plain) (refl, refl);
  }

  rolls : RollsBack v told op
  rolls = rolls_back v b.notes b.calls b.generation b.each is.working.unmaking is.sound is.recorded b.restored b.others (λ p e. far_picture v p is.working.lane is.working.lanes e) op reply

  sim : Sim told []
  sim = ⊎_elim
      (λ (r : IsRefusedWith s op reply). sim_rolls_back v told [] r.root (ran r.seen) is.sim (record { keeps = record { fixed = refl; entries = refl }; call = refl }) (inr works) rolls (inr (r.plain, refusal_by_ r)))
      (λ (a : IsAbort op reply). sim_rolls_back v told [] None (ran unseen) is.sim (record { keeps = record { fixed = refl; entries = refl }; call = refl }) (inr works) rolls (inl (abort_by a)))
      gives

  ends : aborts (ran unseen) ≡ true
  ends = ⊎_elim
      (λ (r : IsRefusedWith s op reply). or_left (not (is_action op) && is_refusal reply) (is_abort op) (and_from (not (is_action op)) (is_refusal reply) (ap not r.plain) (ap is_refusal r.replied)))
      (λ (a : IsAbort op reply). or_right (not (is_action op) && is_refusal reply) (is_abort op) (ap is_abort a.is))
      gives

  over : IsOver told
  over = calls_without_log told v.call (ran unseen) (record { begun = begun_still v.call (record { operation = op; reply = reply } ∷ []) is.begun; call = refl; ends = inl ends }) refl refl

  fact : Fact told
  fact = without_entries_have_facts told refl sim over

  -- ---- it takes its number
  may_draw : MayDraw told
  may_draw = record {
    is_open = refl;
    whole = (refl, refl);
    first = is.number.none;
    drained = inl refl;
    found = is.number.seen;
    seen = is.number.told;
    below = is.number.below;
    new_blocks = λ B e. absurd (let z : Some true ≡ None = sym e ∙ no_turn B in cc);
    root = All-nil _;
    entries = inl refl;
  }

  -- a lock was tried in it, where it is told as Busy
  tried : BusyWasTried told.call told.seen
  tried = told_busy v.call (record { operation = op; reply = reply }) told.seen (λ e. ⊎_elim
      (λ (r : IsRefusedWith s op reply). r.busy (busy_was_seen r.seen (Rattle.pm_crash.specs.Sim.tx_with v (Rattle.pm_crash.specs.Looked.pool_seen v r.root) (Rattle.pm_crash.specs.Looked.items_seen v)) op
      (r.first ∙ ap (λ x. Some x) (told_refusal r.refusal Busy (sym r.replied ∙ e)))))
      (λ (a : IsAbort op reply). absurd (let z : None ≡ Some (Refused Busy) = sym a.replied ∙ e in cc))
      gives)

  -- its lane saw why, where it is recorded as NoObject
  lists_same : lists_before told ≡ Rattle.pm_crash.specs.Sim.lists_of v
  lists_same = ap (λ (call : List Told). after_told call (idle no_pool (pending_of v.entries))) (before_recorded v.call (record { operation = op; reply = reply }))

  missed : MissWasSeen told
  missed = records_miss told v.call (record { operation = op; reply = reply }) refl (λ e. ⊎_elim
      (λ (r : IsRefusedWith s op reply). why_recorded v told r.seen r.root op refl lists_same
      (λ off m. found_none_noted v b.notes [] b.calls (new_log Open b.generation) off (r.missing off m))
      (r.first ∙ ap (λ x. Some x) (told_refusal r.refusal NoObject (sym r.replied ∙ e))))
      (λ (a : IsAbort op reply). absurd (let z : None ≡ Some (Refused NoObject) = sym a.replied ∙ e in cc))
      gives)

  facts : (n : ℕ) → HaveFacts (done n)
  facts n = draws_keep_facts told n fact tried missed is.facts

  -- ---- and the lane holds what it held
  pub actions_same : actions_told op reply v.actions ≡ v.actions
  actions_same = ⊎_elim
      (λ (r : IsRefusedWith s op reply). ap (λ o. actions_told op o v.actions) r.replied ∙ refused_actions op r.refusal v.actions)
      (λ (a : IsAbort op reply). λ i. actions_told (a.is i) (a.replied i) v.actions)
      gives

  plain : (p : Pending) → pending_with op reply p ≡ p
  plain p = ⊎_elim
      (λ (r : IsRefusedWith s op reply). ap (λ o. pending_with op o p) r.replied ∙ refused_pending op r.refusal p)
      (λ (a : IsAbort op reply). λ i. pending_with (a.is i) (a.replied i) p)
      gives

  back_claims : ClaimsStand back locks
  back_claims = claims_noted v b.notes [] b.calls (new_log Open b.generation) b.each locks
      (λ B found inside. b.others (8 * header_in v.fixed.shape v.claims B + 1)
      (λ p r e. let d = is.recorded p r in size_apart v is.sound B d.object.block d.index found inside d.found d.data_ d.within (e ∙ ap (word_of v.fixed.shape) d.at))
      (size_no_generation v is.working.lane B inside))
      (claims_at_work s s.level locks is)

  is_over : (n : ℕ) → did.IsOver (moved (with_locks locks s) (done n))
  is_over n = over_by (moved (with_locks locks s) (done n)) refl refl b.known
      (b.others (word_of_seal v.fixed.shape v.fixed.lane) (λ p r e. let d = is.recorded p r in far_seal v d.object.block d.index is.working.lane is.working.lanes d.within (e ∙ ap (word_of v.fixed.shape) d.at)) (λ e. omega (arith, e)) ∙ is.sealed)
      (facts n)
      (ended_pending back op reply n plain actions_same (has_pending v back refl refl is.pending))
      (claims_ended back op reply n locks back_claims)

  -- ---- the steps
  steps_ready : (n : ℕ) → Ready (after_all v (takes_back v)) (Tell op reply ∷ Draw n ∷ [])
  unfolding Ready
  steps_ready n = subst (λ (w : View). Ready w (Tell op reply ∷ Draw n ∷ [])) (sym b.same) (refl, tt, (may_draw, tt, tt))

  steps_are : (w : View) (n : ℕ) → in_turn (tells op reply) (one (Draw n)) w ≡ Tell op reply ∷ Draw n ∷ []
  unfolding in_turn one
  steps_are w n = refl

  pub plan_is : (n : ℕ) → gives_up op reply n v ≡ takes_back v ++ (Tell op reply ∷ Draw n ∷ [])
  unfolding in_turn
  plan_is n = ap (λ z. takes_back v ++ z) (steps_are (after_all v (takes_back v)) n)

  told_so : (w : View) (n : ℕ) → after_all w (Tell op reply ∷ Draw n ∷ []) ≡ after (after w (Tell op reply)) (Draw n)
  unfolding after_all
  told_so w n = refl

  pub ends_at : (n : ℕ) → after_all v (gives_up op reply n v) ≡ done n
  ends_at n = ap (after_all v) (plan_is n)
      ∙ (after_all-append v (takes_back v) (Tell op reply ∷ Draw n ∷ [])
      ∙ (told_so (after_all v (takes_back v)) n ∙ ap (λ (w : View). after (after w (Tell op reply)) (Draw n)) b.same))

  pub taken_at : after_all v (takes_back v) ≡ back
  taken_at = b.same

  pub leaves_over : (n : ℕ) → LeavesOver (with_locks locks s) op reply n
  leaves_over n = record {
    ready = subst (Ready v) (sym (plan_is n)) (ready_both v (takes_back v) (Tell op reply ∷ Draw n ∷ []) taken.0 (steps_ready n));
    over = subst (λ (w : View). did.IsOver (moved (with_locks locks s) w)) (sym (ends_at n)) (is_over n);
    generation = ap (λ (w : View). w.log.generation) (ends_at n) ∙ b.next;
    number = ap (λ (w : View). last_number w.entries) (ends_at n);
  }

pub transactions_may_be_given_up : TransactionsMayBeGivenUp
transactions_may_be_given_up s locks op reply n is gives = leaves_over s locks is op reply gives n
