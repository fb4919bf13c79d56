-- What a begin comes to once its locks are planned.
use Rattle.std.proofs.Common.{◌≡◌, ◌≢◌, ◌⊎◌, ⊎_elim, inr, ℕ, ◌≤◌, Bool, true, false, List, [], ◌∷◌, ◌++◌, map, length, slice_index, None, Some, Result, Ok, Err, refl, sym, ap, ◌∙◌, subst, arith}
use Rattle.std.specs.Prelude.{IfErr, OnOk}
use Rattle.solo_crash.specs.Locks.{AreSameLocks}
use Rattle.solo_crash.specs.OpenCall.{locks_of}
use Rattle.solo_crash.specs.OpenCall.{lock_of as model_lock}
use Rattle.solo_crash.specs.Operations.{IsBeginReason, TakesWanted}
use Rattle.pm_layout.specs.declared.shape.Shape.{Shape}
use Rattle.solo_model.specs.Transaction.{Lock as Locked, locked_all}
use Rattle.pm_objects.specs.declared.calls.Operation.TheVariants.{Begin}
use Rattle.pm_objects.specs.declared.calls.Want.{Want}
use Rattle.pm_objects.specs.declared.history.TxErr.TheVariants as error
use Rattle.pm_objects.specs.declared.refusal.Refusal.{Refusal}
use Rattle.pm_objects.specs.declared.refusal.Refusal.TheVariants as refusal
use Rattle.solo_undo.specs.Working.{FindsOpening}
use Rattle.solo_view.proofs.SameLane.{same_lane-then}
use Rattle.solo_view.specs.Counts.{counted}
use Rattle.solo_view.specs.Area.{area_word}
use Rattle.solo_view.specs.Log.{Phase}
use Rattle.solo_view.specs.Log.Phase.{Idle}
use Rattle.solo_view.specs.Steps.Step.{Load, Tell}
use Rattle.solo_view.specs.View.{View, Told, Numbered}
use Rattle.solo_view.specs.Views.{after, after_all, begun as begun_view}
use Rattle.solo_world.specs.Lanes.{IsSeenAs, lock_of}
use Rattle.solo_world.specs.Opening.{Opening, IsSound}
use Rattle.solo_world.specs.declared.lane.HeldLock.{HeldLock}
use Rattle.solo_world.specs.Sequences.{by_lane, by_view, in_turn, looks, one}
use Rattle.solo_world.specs.declared.lane.Lane.{Lane}
use Rattle.solo_world.specs.declared.lane.Stage.TheVariants as stage
use Rattle.solo_lock.proofs.FoundObjects.{plan_models}
use Rattle.solo_lock.proofs.Leads.{heap_still, led_once, led_same, led_then, ready_led}
use Rattle.solo_lock.specs.Finding.{FindsObjects, HasFound}
use Rattle.solo_lock.specs.Leading.{IsLed, KeepsHeap, LeaveBlocks}
use Rattle.solo_lock.specs.Locking.{HasTaken, IsBusy}
use Rattle.solo_lock.specs.Plans.{IsPlan, model_locks, unfound}
use Rattle.solo_lock.specs.Resting.{IsAtRest}
use Rattle.solo_tx.proofs.BeganWanted.{found_none, lacks_wanted, no_object, takes_wanted}
use Rattle.solo_tx.proofs.Beginnings.{may_tell}
use Rattle.solo_tx.proofs.Refused.{stopped_or_not}
use Rattle.solo_tx.specs.AtWork.{IsAtWork}
use Rattle.solo_tx.specs.Beginning.{IsBegunBy}
use Rattle.solo_tx.specs.Begins.{FailsToBegin, HasBegun, HasFoundNone, HasRefused, HasStoppedRefused, IsRefusedAtOnce, IsStartedCause, LeavesLane}
use Rattle.solo_tx.specs.Sequences.{sees_generation, starts}

-- what a view further on was refused, the one before was
pub refused_further : {M : Type 0} (at : M → View → Type 0) (lane : Lane M) (u v : View) (wants : List Want) (r : Refusal) → IsLed u v → v.entries ≡ u.entries → HasRefused at lane v wants r → HasRefused at lane u wants r
refused_further at lane u v wants r led entries was = record {
  found = was.found;
  led = led_then u v was.found led was.led;
  undrawn = was.undrawn ∙ entries;
  working = was.working;
  log = was.log;
  ended = was.ended;
  view = was.view;
  is = was.is;
  same = same_lane-then u v was.view (led_same u v led) was.same;
  over = was.over;
  number = was.number;
  call = was.call;
  entries = was.entries ∙ ap (λ (es : List Numbered). es ++ record { number = lane.last; call = was.view.call } ∷ []) entries;
}

-- and where the lane stopped as it was
stopped_further : {M : Type 0} (at : M → View → Type 0) (lane : Lane M) (u v : View) (wants : List Want) → IsLed u v → v.entries ≡ u.entries → HasStoppedRefused at lane v wants → HasStoppedRefused at lane u wants
stopped_further at lane u v wants led entries was = record {
  why = was.why;
  found = was.found;
  led = led_then u v was.found led was.led;
  undrawn = was.undrawn ∙ entries;
  working = was.working;
  log = was.log;
  reason = was.reason;
  stopped = was.stopped;
}

-- with what it lacked
pub none_further : {M : Type 0} (at : M → View → Type 0) (lane : Lane M) (u v : View) (wants : List Want) → IsLed u v → v.entries ≡ u.entries → HasFoundNone at lane v wants → HasFoundNone at lane u wants
unfolding refused_further
none_further at lane u v wants led entries was = record { refused = refused_further at lane u v wants refusal.NoObject led entries was.refused; lacking = was.lacking }

-- and what has begun from it, from the one before
pub begun_further : {M : Type 0} (at : M → View → Type 0) (lane : Lane M) (u v : View) (wants : List Want) → IsLed u v → v.entries ≡ u.entries → HasBegun at lane v wants → HasBegun at lane u wants
begun_further at lane u v wants led entries was = record {
  view = was.view;
  led = led_then u v was.view led was.led;
  same = same_lane-then u v was.view (led_same u v led) was.same;
  seen = was.seen;
  call = was.call;
  undrawn = was.undrawn;
  entries = was.entries ∙ entries;
  locks = was.locks;
  opens = was.opens;
}

pub busy_further : {M : Type 0} (at : M → View → Type 0) (lane : Lane M) (u v : View) → IsLed u v → v.entries ≡ u.entries → IsBusy at lane v → IsBusy at lane u
busy_further at lane u v led entries was = record {
  view = was.view;
  led = led_then u v was.view led was.led;
  same = same_lane-then u v was.view (led_same u v led) was.same;
  rests = was.rests;
  entries = was.entries ∙ entries;
  line = was.line;
  write = was.write;
  refused = was.refused;
}

-- what fails from a view further on fails from the one before
pub fails_further : {M : Type 0} (at : M → View → Type 0) (lane : Lane M) (u v : View) (wants : List Want) (r : Refusal) → IsLed u v → v.entries ≡ u.entries → IsStartedCause r → FailsToBegin at lane v wants r → FailsToBegin at lane u wants r
fails_further at lane u v wants refusal.Stopped way same cause was = stopped_further at lane u v wants way same was
fails_further at lane u v wants refusal.Busy way same cause was = busy_further at lane u v way same was
fails_further at lane u v wants refusal.LocksFull way same cause was = refused_further at lane u v wants refusal.LocksFull way same was
fails_further at lane u v wants refusal.NoObject way same cause was = refused_further at lane u v wants refusal.NoObject way same was
fails_further at lane u v wants r way same cause was = absurd cause

-- a begin that is to be refused answers the refusal, or that the lane stopped before it was told
abbrev IsRefusal : Refusal → Type 0
IsRefusal why = (why ≡ refusal.LocksFull) ⊎ (why ≡ refusal.NoObject)

pub no_stop : (why : Refusal) → IsRefusal why → why ≢ refusal.Stopped
no_stop why cause stopped =
    ⊎_elim (λ (e : why ≡ refusal.LocksFull). let clash : refusal.LocksFull ≡ refusal.Stopped = sym e ∙ stopped in absurd cc) (λ (e : why ≡ refusal.NoObject). let clash : refusal.NoObject ≡ refusal.Stopped = sym e ∙ stopped in absurd cc) cause

pub no_object_goes : (answer : Refusal) → answer ≡ refusal.NoObject → answer ≢ refusal.Stopped
no_object_goes answer is = no_stop answer (inr is)

-- the lane once it was refused for this reason, and once it stopped before
abbrev LeftRefused : {M : Type 0} → Lane M → Lane M → Refusal → Type 0
LeftRefused old new why = new ≡ record old { memory = new.memory; level = 1; stage = stage.OnAbort; error = error.Refused why; drawn = Some new.last; last = new.last }

abbrev LeftStopped : {M : Type 0} → Lane M → Lane M → Type 0
LeftStopped old new = new ≡ record old { memory = new.memory; stopped = true }

module _ (why answer : Refusal) (cause : IsRefusal why) (answers : answer ≢ refusal.Stopped → answer ≡ why) where
  by_answer : (P : Refusal → Type 0) → (answer ≢ refusal.Stopped → P why) → (answer ≡ refusal.Stopped → P refusal.Stopped) → P answer
  by_answer P refused stopped =
      ⊎_elim (λ (e : answer ≡ refusal.Stopped). subst P (sym e) (stopped e)) (λ (goes : answer ≢ refusal.Stopped). subst P (sym (answers goes)) (refused goes)) (stopped_or_not answer)

  refused_as : (P : Refusal → Type 0) → P refusal.LocksFull → P refusal.NoObject → P why
  refused_as P full none = ⊎_elim (λ (e : why ≡ refusal.LocksFull). subst P (sym e) full) (λ (e : why ≡ refusal.NoObject). subst P (sym e) none) cause

  pub answered_cause : IsStartedCause answer
  answered_cause = by_answer IsStartedCause (λ goes. refused_as IsStartedCause tt tt) (λ e. tt)

  module _ {M : Type 0} (at : M → View → Type 0) (new : Lane M) (v : View) (wants : List Want) where
    pub answered_fails : (answer ≢ refusal.Stopped → HasRefused at new v wants why) → (answer ≡ refusal.Stopped → HasStoppedRefused at new v wants) → FailsToBegin at new v wants answer
    answered_fails refused stopped =
        by_answer (FailsToBegin at new v wants)
        (λ goes.
        ⊎_elim (λ (e : why ≡ refusal.LocksFull). subst (FailsToBegin at new v wants) (sym e) (subst (HasRefused at new v wants) e (refused goes)))
        (λ (e : why ≡ refusal.NoObject). subst (FailsToBegin at new v wants) (sym e) (subst (HasRefused at new v wants) e (refused goes))) cause)
        stopped

  module _ {M : Type 0} (old mid new : Lane M) (same : mid ≡ record old { memory = mid.memory; locks = mid.locks }) where
    with_locks : (r : Refusal) → LeftRefused mid new r → new ≡ record old { memory = new.memory; locks = new.locks; level = 1; stage = stage.OnAbort; error = error.Refused r; drawn = Some new.last; last = new.last }
    with_locks r left =
        left
        ∙ (ap (λ (l : Lane M). record l { memory = new.memory; level = 1; stage = stage.OnAbort; error = error.Refused r; drawn = Some new.last; last = new.last }) same
        ∙ ap (λ locks. record old { memory = new.memory; locks = locks; level = 1; stage = stage.OnAbort; error = error.Refused r; drawn = Some new.last; last = new.last }) (sym (ap (λ (l : Lane M). l.locks) left)))

    pub answered_leaves : old.stopped ≡ false → (answer ≢ refusal.Stopped → LeftRefused mid new why) → (answer ≡ refusal.Stopped → LeftStopped mid new) → LeavesLane answer old new
    answered_leaves goes_on refused stopped =
        by_answer (λ r. LeavesLane r old new)
        (λ goes.
        ⊎_elim (λ (e : why ≡ refusal.LocksFull). subst (λ r. LeavesLane r old new) (sym e) (with_locks refusal.LocksFull (subst (LeftRefused mid new) e (refused goes))))
        (λ (e : why ≡ refusal.NoObject). subst (λ r. LeavesLane r old new) (sym e) (with_locks refusal.NoObject (subst (LeftRefused mid new) e (refused goes)))) cause)
        (λ e. inr (
          goes_on,
          stopped e
              ∙ (ap (λ (l : Lane M). record l { memory = new.memory; stopped = true }) same
              ∙ ap (λ locks. record old { memory = new.memory; locks = locks; stopped = true }) (sym (ap (λ (l : Lane M). l.locks) (stopped e)))),
        ))

module _ {M : Type 0} (at : M → View → Type 0) (old mid lane : Lane M) (wants : List Want) (plan : List HeldLock) (is : IsPlan old.pool old.shape.lanes old.shape.zones wants plan) (pool : lane.pool ≡ old.pool) (shape : lane.shape ≡ old.shape) (v : View)
    (t : HasTaken at mid v (map lock_of (map unfound plan))) (all : Bool) (f : HasFound at lane t.view all) where
  pub of_pool : f.view.pool ≡ old.pool
  of_pool = f.begun.seen.pool ∙ pool

  pub plan_so : IsPlan old.pool f.view.lanes f.view.zones wants plan
  plan_so =
      let lanes = f.begun.seen.shape.lanes ∙ ap (λ (s : Shape). s.lanes) shape in
      let zones = f.begun.seen.shape.zones ∙ ap (λ (s : Shape). s.zones) shape in
      subst (λ n. IsPlan old.pool n f.view.zones wants plan) (sym lanes) (subst (λ z. IsPlan old.pool old.shape.lanes z wants plan) (sym zones) is)

  pub models : locks_of f.view ≡ model_locks plan
  models = f.locks ∙ ap (map model_lock) t.locks_are ∙ plan_models plan

  pub led : IsLed v f.view
  led = led_then v t.view f.view t.led f.led

  pub entries : f.view.entries ≡ v.entries
  entries = f.entries ∙ t.entries

  -- there is no object under one of them
  pub missing : all ≡ false → (new : Lane M) → (IsBeginReason f.view 0 [] wants refusal.NoObject → IsRefusedAtOnce at new f.view wants refusal.NoObject) → HasFoundNone at new v wants
  missing none new refuses =
      let holds = f.none none in
      let low = holds.held.1 in
      none_further at new v f.view wants led entries
      (found_none at new f.view wants (refuses (no_object old.pool f.view wants plan of_pool plan_so models (omega (arith, low)))) (lacks_wanted old.pool f.view wants plan of_pool plan_so models holds))

  pub missed : all ≡ false → (new : Lane M) (answer : Refusal) → (answer ≢ refusal.Stopped → answer ≡ refusal.NoObject) → (answer ≢ refusal.Stopped → IsBeginReason f.view 0 [] wants refusal.NoObject → HasRefused at new f.view wants refusal.NoObject)
      → (answer ≡ refusal.Stopped → IsBeginReason f.view 0 [] wants refusal.NoObject → HasStoppedRefused at new f.view wants) → FailsToBegin at new v wants answer
  missed none new answer answers refused stopped =
      let holds = f.none none in
      let low = holds.held.1 in
      let reason = no_object old.pool f.view wants plan of_pool plan_so models (omega (arith, low)) in
      fails_further at new v f.view wants answer led entries (answered_cause refusal.NoObject answer (inr refl) answers)
      (answered_fails refusal.NoObject answer (inr refl) answers at new f.view wants (λ goes. refused goes reason) (λ e. stopped e reason))

  abbrev w : View
  w = after f.view (Tell (Begin wants) None)

  opening_before : (o : Opening) → FindsOpening o w → FindsOpening o f.view
  opening_before o finds = record { lane = finds.lane; lanes = finds.lanes; size = finds.size; descriptors = finds.descriptors; locks = finds.locks }

  -- or all are there, and the transaction is open
  pub begun : all ≡ true → (new : Lane M) → IsSeenAs at new w → ((o : Opening) → IsSound o → FindsOpening o f.view → o.zones ≤ 32 → FindsObjects f.view → TakesWanted f.view [] wants → IsAtWork o at new w) → HasBegun at new v wants
  begun found new seen works =
      let more : IsLed f.view w = led_once f.view (Tell (Begin wants) None) (may_tell at lane f.view f.begun) tt tt refl (record { zone_locks = refl; reserved = refl; freed = refl }) in
      let all_led : IsLed v w = led_then v f.view w led more in
      record {
        view = w;
        led = all_led;
        same = led_same v w all_led;
        seen = seen;
        call = ap (λ (told : List Told). told ++ record { operation = Begin wants; reply = None } ∷ []) f.begun.untold;
        undrawn = f.begun.undrawn;
        entries = entries;
        locks = subst (λ (ls : List Locked). AreSameLocks ls (locked_all wants [])) (sym models) is.same;
        opens = λ o sound zones finds.
            let before = opening_before o finds in
            works o sound before zones (f.objects found) (takes_wanted old.pool f.view wants plan of_pool plan_so models (f.objects found) o before);
      }

module _ {M : Type 0} (at : M → View → Type 0) (old mid : Lane M) (v : View) (n : ℕ) (started : IsBegunBy at mid v (starts n)) where
  abbrev pub u : View
  u = after_all v (starts n v)

  none_counted : counted (starts n v) ≡ 0
  unfolding starts sees_generation by_lane by_view looks in_turn one counted after_all
  none_counted = refl

  begins_heap : (p : Phase) (w : View) → KeepsHeap w (begun_view p w)
  begins_heap Idle w = record { zone_locks = refl; reserved = refl; freed = refl }
  begins_heap p w = heap_still w

  started_heap : KeepsHeap v u
  unfolding starts sees_generation by_lane by_view looks in_turn one after_all
  started_heap = let m : View = after v (Load (area_word v.lane) (slice_index v.words (area_word v.lane))) in let b = begins_heap m.log.phase m in record { zone_locks = b.zone_locks; reserved = b.reserved; freed = b.freed }

  started_leaves : LeaveBlocks v (starts n v)
  unfolding starts sees_generation by_lane by_view looks in_turn one after_all LeaveBlocks
  started_leaves = let m : View = after v (Load (area_word v.lane) (slice_index v.words (area_word v.lane))) in let b = begins_heap m.log.phase m in (refl, (b.reserved, tt))

  pub started_led : IsLed v u
  started_led = ready_led v (starts n v) started.ready started.draws none_counted started_leaves started_heap

  pub no_locks : IsAtRest at old v → mid ≡ record old { memory = mid.memory } → mid.locks.items ≡ []
  no_locks rests same = ap (λ (l : Lane M). l.locks.items) same ∙ none_of old.locks.items (rests.seen.locks ∙ rests.free) where
    none_of : (locks : List HeldLock) → map lock_of locks ≡ [] → locks ≡ []
    none_of [] none = refl
    none_of (l ∷ locks) none = absurd (let n = ap length none in omega (arith, n))

-- what follows of a result from what is known of it
pub ok_so : {T E : Type 0} (P Q : Type 0) (result : Result T E) → (P → Q) → OnOk result P → OnOk result Q
ok_so P Q (Ok answer) so is = so is
ok_so P Q (Err e) so is = is

pub err_so : {T E : Type 0} (P C Q : E → Type 0) (result : Result T E) → ((e : E) → C e → P e → Q e) → IfErr result C → IfErr result P → IfErr result Q
err_so P C Q (Ok answer) so cause is = is
err_so P C Q (Err e) so cause is = so e cause is
