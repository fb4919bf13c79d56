-- A call that has begun ends by the one operation that it is.
use Rattle.std.proofs.Common.{◌≡◌, ℕ, All, false, List, [], ◌∷◌, ◌++◌, map, Option, Some, length, sym, ap, ◌∙◌, subst, arith}
use Rattle.solo_crash.proofs.PendingOn.{calls_further}
use Rattle.solo_model.specs.Actions.{none_pending}
use Rattle.solo_crash.specs.Pending.{pending_before, pending_behind, pending_from, pending_told}
use Rattle.pm_objects.specs.declared.calls.Operation.{Operation}
use Rattle.pm_objects.specs.declared.history.TxErr.TheVariants as error
use Rattle.pm_objects.specs.declared.history.Value.{Value}
use Rattle.solo_view.specs.declared.change.Change.{Change}
use Rattle.solo_view.specs.Held.{is_under}
use Rattle.solo_view.specs.Steps.{Step}
use Rattle.solo_view.specs.View.{Lock, Told, View}
use Rattle.solo_view.specs.Views.{after_all, after}
use Rattle.solo_view.specs.Log.{Log}
use Rattle.solo_view.specs.Steps.Step.{Tell}
use Rattle.solo_world.proofs.Plain.{empty_plain}
use Rattle.solo_world.proofs.Shapes.{IsOfSamePool}
use Rattle.solo_world.specs.Lanes.{lock_of}
use Rattle.solo_world.specs.Sequences.{IsMade, Ready, Runs, in_turn, one}
use Rattle.solo_world.specs.declared.lane.HeldLock.{HeldLock}
use Rattle.solo_world.specs.declared.lane.Lane.{Lane}
use Rattle.solo_lock.proofs.Drawless.{drawless}
use Rattle.solo_lock.proofs.GivenBack.{all_gives_leave, none_counted}
use Rattle.solo_lock.proofs.Leads.{led_same, led_then, ready_led}
use Rattle.solo_lock.specs.Begun.{IsBegun}
use Rattle.solo_lock.specs.Leading.{DrawEnded, IsLed}
use Rattle.solo_lock.specs.Locking.{gives}
use Rattle.solo_tx.specs.Ending.{IsAfterTold, IsClosedBy, IsToldAs, LiesUnlocked, drawn_more}
use Rattle.solo_tx.specs.Sequences.{ends_call}
use Rattle.solo_tx.proofs.Beginnings.{no_spans, works}
use Rattle.solo_tx.proofs.GivenBack.{none_locked}
use Rattle.solo_tx.proofs.GivenUp.{place_at_work}
use Rattle.solo_tx.proofs.DrainedBegins.{ended_leaves}
use Rattle.solo_tx.proofs.NothingUndrained.{ends_uncounted}
use Rattle.solo_tx.proofs.ToldBegun.{after_told, begun_heap, begun_over, begun_ready, begun_rests, ends_words}
use Rattle.solo_action.specs.Outside.{IsEndedOnceTold, IsToldAtOnce}

-- what is pending behind a call of one operation
pub pending_behind_one : (v : View) (n : ℕ) (op : Operation) (reply : Option Value) (w : View) → w.entries ≡ drawn_more v.entries n (record { operation = op; reply = reply } ∷ [])
    → pending_before w ≡ pending_behind op reply (pending_before v)
unfolding pending_told
pending_behind_one v n op reply w is = ap (pending_from none_pending) is ∙ calls_further none_pending v.entries (record { number = n; call = record { operation = op; reply = reply } ∷ [] })

-- a lane without locks has nothing undrained under one
pub begun_unlocked : {M : Type 0} (at : M → View → Type 0) (lane : Lane M) (v : View) → IsBegun at lane v → lane.locks.items ≡ [] → LiesUnlocked v
begun_unlocked at lane v is free = none_locked v (sym is.seen.locks ∙ ap (map lock_of) free)

-- what a call that has ended once it is told draws is an ended call's
pub ending_drawn : (v : View) → v.log.entries ≡ [] → (op : Operation) (reply : Option Value) → IsEndedOnceTold v op reply → (n : ℕ) → DrawEnded v (ends_call op reply n v)
unfolding ends_call in_turn one DrawEnded after_all
ending_drawn v unentered op reply ended n = (tt, ((ended, empty_plain (after v (Tell op reply)) unentered), tt))

-- the lane drew its last number
pub drawn_so : {M : Type 0} (lane drawn : Lane M) → drawn ≡ record lane { memory = drawn.memory; drawn = drawn.drawn; last = drawn.last } → drawn.drawn ≡ Some drawn.last → drawn ≡ record lane { memory = drawn.memory; drawn = Some drawn.last; last = drawn.last }
drawn_so lane drawn same number = same ∙ ap (λ (d : Option ℕ). record lane { memory = drawn.memory; drawn = d; last = drawn.last }) number

module _ {M : Type 0} (at : M → View → Type 0) (lane : Lane M) (v : View) (is : IsBegun at lane v) (op : Operation) (reply : Option Value) (drawn : Lane M) (fields : drawn ≡ record lane { memory = drawn.memory; drawn = Some drawn.last; last = drawn.last })
    (made : IsMade (at lane.memory) (at drawn.memory) (ends_call op reply drawn.last)) where
  abbrev ends : List Step
  ends = ends_call op reply drawn.last v

  abbrev mid : View
  mid = after_all v ends

  over : IsToldAs v mid drawn.last
  over = begun_over at lane v is op reply drawn.last

  ready : Ready v ends
  ready = begun_ready at lane v is op reply drawn.last

  pool_same : IsOfSamePool lane drawn
  pool_same = record { pool = ap (λ (l : Lane M). l.pool) fields; shape = ap (λ (l : Lane M). l.shape) fields }

  apart_still : LiesUnlocked v → LiesUnlocked mid
  apart_still apart =
      subst (λ (changes : List Change). All (λ (c : Change). All (λ (l : Lock). is_under c.word l ≡ false) mid.locks) changes) (sym over.changes)
      (subst (λ (locks : List Lock). All (λ (c : Change). All (λ (l : Lock). is_under c.word l ≡ false) locks) v.changes) (sym over.locks) apart)

  -- its call is over, and it holds its locks still
  pub ended : LiesUnlocked v → IsAfterTold at drawn mid
  unfolding Runs
  ended apart =
      after_told at lane drawn v mid is.seen is.lines (made v is.seen.memory ready) over (begun_rests at lane v is op reply drawn.last) (apart_still apart) (ap (λ (l : Lane M). l.locks.items) fields) (ap (λ (l : Lane M). l.records.items) fields ∙ no_spans at lane v is)
      (ap (λ (l : Lane M). l.entries.items) fields ∙ is.unlisted) (ap (λ (l : Lane M). l.drawn) fields) pool_same (ap (λ (l : Lane M). l.stopped) fields ∙ is.unstopped) (place_at_work v (works at lane v is))

  pub unharmed : drawn.error ≡ error.None
  unharmed = ap (λ (l : Lane M). l.error) fields ∙ is.unharmed

  told_alone : v.call ++ record { operation = op; reply = reply } ∷ [] ≡ record { operation = op; reply = reply } ∷ []
  told_alone = ap (λ (told : List Told). told ++ record { operation = op; reply = reply } ∷ []) is.untold

  mid_entries : mid.entries ≡ drawn_more v.entries drawn.last (record { operation = op; reply = reply } ∷ [])
  unfolding ends_call in_turn one after_all
  mid_entries = ap (drawn_more v.entries drawn.last) told_alone

  -- the locks that the call took go back
  pub closed_at_once : (new : Lane M) → IsClosedBy at new mid (gives drawn.locks.items) → new.last ≡ drawn.last → IsClosedBy at new (after_all v (ends_call op reply new.last v)) (gives lane.locks.items)
  closed_at_once new closed last =
      subst (λ (n : ℕ). IsClosedBy at new (after_all v (ends_call op reply n v)) (gives lane.locks.items)) (sym last)
      (subst (λ (locks : List HeldLock). IsClosedBy at new mid (gives locks)) (ap (λ (l : Lane M). l.locks.items) fields) closed)

  -- and the lane rests
  pub told_at_once : IsEndedOnceTold v op reply → (new : Lane M) → IsClosedBy at new mid (gives drawn.locks.items) → new.last ≡ drawn.last → IsToldAtOnce at new v op reply
  told_at_once ended new closed last =
      let w : View = after_all mid (gives drawn.locks.items mid) in
      let same : w ≡ record mid { locks = []; known = w.known } = closed.same in
      let back : IsLed mid w =
      ready_led mid (gives drawn.locks.items mid) closed.ready (drawless mid (gives drawn.locks.items mid) (let e = ap (λ (u : View). length u.entries) same in omega (arith, e))) (none_counted drawn.locks.items mid) (all_gives_leave drawn.locks.items mid)
      (record { zone_locks = ap (λ (u : View). u.zone_locks) same; reserved = ap (λ (u : View). u.reserved) same; freed = ap (λ (u : View). u.freed) same }) in
      let led : IsLed v w = led_then v mid w (ready_led v ends ready (ending_drawn v (ap (λ (log : Log). log.entries) is.log) op reply ended drawn.last) (ends_uncounted op reply drawn.last v) (ended_leaves v op reply drawn.last (ending_drawn v (ap (λ (log : Log). log.entries) is.log) op reply ended drawn.last)) (begun_heap at lane v is op reply drawn.last)) back in
      let entries : w.entries ≡ drawn_more v.entries drawn.last (record { operation = op; reply = reply } ∷ []) = ap (λ (u : View). u.entries) same ∙ mid_entries in
      record {
        told = record {
          view = w;
          led = led;
          same = led_same v w led;
          rests = closed.rests;
          idle = ap (λ (u : View). u.log) same ∙ over.log;
          entries = entries ∙ ap (λ n. drawn_more v.entries n (record { operation = op; reply = reply } ∷ [])) (sym last);
          pending = pending_behind_one v drawn.last op reply w entries;
        };
        words = ap (λ (u : View). u.words) same ∙ ends_words v op reply drawn.last;
      }
