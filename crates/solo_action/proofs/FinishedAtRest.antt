-- A lane at rest made all persistent and gave back what it had reserved, or stopped before that.
use Rattle.std.proofs.Common.{◌≡◌, ◌⊎◌, ⊎_elim, inl, inr, List, [], ◌∷◌, map, None, Err, is_some, refl, sym, ap, ◌∙◌, subst}
use Rattle.solo_crash.specs.CallBlocks.{NewObject, block_of}
use Rattle.solo_crash.specs.Pending.{pending_before}
use Rattle.solo_epoch.specs.GivingBack.{gives_back, with_given_back}
use Rattle.solo_epoch.proofs.GivenAll.{all_ready, given_all}
use Rattle.solo_epoch.proofs.GivenBlocks.{GivesAll, HasGiven, beside}
use Rattle.pm_layout.specs.declared.shape.Shape.{Shape}
use Rattle.solo_memory.specs.Runs.{Stops}
use Rattle.solo_memory.specs.declared.lane_mem.Stopped.{Stopped}
use Rattle.solo_pending.specs.AllPending.{IsPendingAs, object_of, reserved_as}
use Rattle.solo_pending.specs.declared.pending.PendingActions.{PendingActions}
use Rattle.solo_undo.proofs.Restored.{open_settled}
use Rattle.solo_undo.proofs.Settled.{settle_lawful}
use Rattle.solo_undo.specs.Working.{log_settled}
use Rattle.solo_view.proofs.Sequences.{after_all-append}
use Rattle.solo_view.specs.declared.change.Change.{Change}
use Rattle.solo_view.specs.Log.{Log, log_drained, no_log}
use Rattle.solo_view.specs.Log.Phase.{Idle, Open}
use Rattle.solo_view.specs.View.{View}
use Rattle.solo_view.specs.Views.{after_all}
use Rattle.solo_world.proofs.Sequencing.{ready_both, runs_err}
use Rattle.solo_world.specs.Lanes.{IsOfShape, IsSeenAs, span_of}
use Rattle.solo_world.specs.Sequences.{Ready, Runs, by_view, in_turn, settles}
use Rattle.solo_world.specs.declared.lane.Lane.{Lane}
use Rattle.solo_lock.specs.Resting.{IsFresh}
use Rattle.solo_transaction.specs.GivingInTurn.{MayGiveInTurn}
use Rattle.solo_transaction.proofs.GivenInTurn.{objects_listed, seen_given}
use Rattle.solo_action.specs.Canceling.{HasFinished, IsStoppedFinishing, finishes, gives_reserved, objects_reserved}
use Rattle.solo_action.specs.Outside.{RestsAlone}
use Rattle.solo_action.proofs.AloneAtRest.{gives_all_there, may_give_in_turn}
use Rattle.solo_action.proofs.SameOwn.{own_settled}

-- ---- an empty log stays as all is made persistent

abbrev IsEmptyLog : Log → Type 0
IsEmptyLog log = (log ≡ no_log Idle) ⊎ (log ≡ no_log (Open [] []))

idle_drained : (changes : List Change) (v : View) → v.log ≡ no_log Idle → log_settled changes v ≡ v.log
idle_drained [] v idle = refl
idle_drained (c ∷ changes) v idle = ap (λ (log : Log). log_drained log.phase (is_some v.number) log) idle ∙ sym idle

empty_settled : (v : View) → IsEmptyLog v.log → (after_all v (settles v)).log ≡ v.log
empty_settled v empty =
    ap (λ (u : View). u.log) (settle_lawful v).1
    ∙ ⊎_elim (λ (idle : v.log ≡ no_log Idle). idle_drained v.changes v idle) (λ (is_open : v.log ≡ no_log (Open [] [])). open_settled v.changes v [] [] (ap (λ (log : Log). log.phase) is_open)) empty

empty_so : (v : View) → IsFresh v → IsEmptyLog v.log
empty_so v = ⊎_elim (λ (idle : v.log ≡ no_log Idle). inl idle) (λ (is_open : (v.log ≡ no_log (Open [] [])) × (v.number ≡ None) × (v.call ≡ [])). inr is_open.0)

-- ---- what a lane is seen as

-- its memory became another, at a view that differs so
pub seen_settled : {M : Type 0} (at : M → View → Type 0) (lane new : Lane M) (v : View) → IsSeenAs at lane v → (after_all v (settles v)).log ≡ v.log → new ≡ record lane { memory = new.memory } → at new.memory (after_all v (settles v)) → IsSeenAs at new (after_all v (settles v))
seen_settled {M} at lane new v seen log same there =
    let m : View = after_all v (settles v) in
    let is = (settle_lawful v).1 in
    let w : View = record v { changes = []; calls = m.calls; log = log_settled v.changes v } in
    subst (λ (l : Lane M). IsSeenAs at l m) (sym same) (subst (IsSeenAs at (record lane { memory = new.memory })) (sym is) (record {
      memory = subst (at new.memory) is there;
      pool = seen.pool;
      shape = record { lanes = seen.shape.lanes; zones = seen.shape.zones; size = seen.shape.size };
      locks = seen.locks;
      records = seen.records ∙ ap (λ (l : Log). map span_of l.records) (sym log ∙ ap (λ (u : View). u.log) is);
      drawn = seen.drawn;
      last = seen.last;
    }))

-- ---- the end of its work

at_stop : Stopped
at_stop = record {}

module _ {M : Type 0} (at : M → View → Type 0) (old : Lane M) (v : View) (r : RestsAlone at old v) where
  abbrev m : View
  m = after_all v (settles v)

  abbrev ns : List NewObject
  ns = objects_reserved v

  log_same : m.log ≡ v.log
  log_same = empty_settled v (empty_so v r.rests.fresh)

  of_shape : IsOfShape m old.shape
  of_shape = subst (λ (u : View). IsOfShape u old.shape) (sym (settle_lawful v).1) (let s = r.rests.seen.shape in record { lanes = s.lanes; zones = s.zones; size = s.size })

  drained : m.changes ≡ []
  drained = ap (λ (u : View). u.changes) (settle_lawful v).1

  gives_all : GivesAll m old.shape (map block_of ns)
  gives_all = gives_all_there at old v r m (own_settled v) of_shape (subst IsEmptyLog (sym log_same) (empty_so v r.rests.fresh)) drained

  ready : Ready v (finishes v)
  unfolding finishes by_view in_turn
  ready = ready_both v (settles v) (gives_back m.lanes ns) (settle_lawful v).0 (all_ready m old.shape ns gives_all)

  behind : after_all v (finishes v) ≡ with_given_back m ns
  unfolding finishes by_view in_turn
  behind = after_all-append v (settles v) (gives_back m.lanes ns)

  -- what is reserved may be given back once all is persistent
  pub may_give_up : (mid : Lane M) → mid ≡ record old { memory = mid.memory } → (list : PendingActions) → IsPendingAs list (pending_before v) → MayGiveInTurn m mid.shape (map object_of list.reserved.items)
  may_give_up mid same list is =
      subst (λ (shape : Shape). MayGiveInTurn m shape (map object_of list.reserved.items)) (sym (ap (λ (l : Lane M). l.shape) same))
      (subst (MayGiveInTurn m old.shape) (sym (objects_listed list (pending_before v) is)) (may_give_in_turn at old v r m (own_settled v) of_shape (subst IsEmptyLog (sym log_same) (empty_so v r.rests.fresh)) drained))

  -- it is
  pub finished : (mid new : Lane M) → mid ≡ record old { memory = mid.memory } → at mid.memory m → (list : PendingActions) → IsPendingAs list (pending_before v)
      → ((u : View) → at mid.memory u → u.lanes ≡ mid.shape.lanes → at new.memory (with_given_back u (map object_of list.reserved.items))) → new ≡ record mid { memory = new.memory } → HasFinished at new v
  finished mid new same there list is given later =
      let x : View = with_given_back m ns in
      let all : HasGiven m.lanes m x old.shape (map block_of ns) [] = given_all m old.shape ns gives_all in
      let lanes : m.lanes ≡ mid.shape.lanes = of_shape.lanes ∙ sym (ap (λ (l : Lane M). l.shape.lanes) same) in
      let now : at new.memory x = subst (λ (os : List NewObject). at new.memory (with_given_back m os)) (objects_listed list (pending_before v) is) (given m there lanes) in
      record {
        ready = ready;
        seen = subst (IsSeenAs at new) (sym behind) (seen_given at mid new m x (seen_settled at old mid v r.rests.seen log_same same there) all.same later now);
        drained = ap (λ (u : View). u.changes) (behind ∙ all.same) ∙ drained;
      }

  -- or the lane stopped before that
  pub stopped_finishing : (new : Lane M) → Stops (at new.memory) v (settles v) → IsStoppedFinishing at new v
  unfolding finishes by_view in_turn Runs
  stopped_finishing new stops = record {
    ready = ready;
    settling = stops;
    stops = runs_err {U = Unit {0}} (Unit {0}) (λ u. u ≡ v) (at new.memory) settles (gives_reserved v) at_stop (Err at_stop) refl (λ u same may. subst (λ (w : View). Stops (at new.memory) w (settles w)) (sym same) stops) v refl ready;
  }
