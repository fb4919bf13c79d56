-- A call that has begun has begun still, at a view that its lane went on to without telling, drawing or locking; and it comes to rest where no lock goes back.
use Rattle.std.proofs.Common.{◌≡◌, ℕ, ◌/◌, ◌<◌, All, Contains, List, [], Option, length, map, refl, sym, ap, ◌∙◌, subst, arith}
use Rattle.std.specs.List.{IsDistinct}
use Rattle.std.specs.Prelude.{nat_eq}
use Rattle.pm_objects.specs.declared.calls.Operation.{Operation}
use Rattle.pm_objects.specs.declared.history.Value.{Value}
use Rattle.solo_view.specs.Constants.{IsSameLane}
use Rattle.solo_view.specs.Log.{Log}
use Rattle.solo_view.specs.Steps.{Step}
use Rattle.solo_view.specs.Steps.Step.{Draw, NumberSeen, Tell}
use Rattle.solo_view.specs.View.{Lock, View}
use Rattle.solo_view.specs.Views.{after, after_all}
use Rattle.solo_world.specs.Lanes.{last_number_of, span_of}
use Rattle.solo_world.specs.Lawful.{Allowed, generation_limit}
use Rattle.solo_world.specs.Records.{generation_of}
use Rattle.solo_world.specs.Sequences.{Ready, counted, in_turn, nothing, one}
use Rattle.solo_world.specs.declared.lane.HeldLock.{HeldLock}
use Rattle.solo_world.specs.declared.lane.Lane.{Lane}
use Rattle.solo_lock.specs.Begun.{IsBegun}
use Rattle.solo_lock.specs.Locking.{gives}
use Rattle.solo_lock.specs.Resting.{IsAtRest, MayRest}
use Rattle.solo_tx.proofs.ToldBegun.{begun_ready}
use Rattle.solo_tx.specs.Ending.{IsClosedBy}
use Rattle.solo_tx.specs.Sequences.{ends_call}

-- no lock is given back
give_none : (v : View) → after_all v (gives [] v) ≡ v
unfolding gives counted nothing after_all
give_none v = refl

pub closed_unlocked : {M : Type 0} (at : M → View → Type 0) (lane : Lane M) (v : View) (locks : List HeldLock) → locks ≡ [] → IsClosedBy at lane v (gives locks) → IsAtRest at lane v
closed_unlocked at lane v locks none closed =
    let same : after_all v (gives locks v) ≡ v = ap (λ (ls : List HeldLock). after_all v (gives ls v)) none ∙ give_none v in
    subst (IsAtRest at lane) same closed.rests

-- ---- where the lane went on

-- the call is as it was, of the same lane, with its locks and its log; it saw what it saw
pub record GoesOnBegun (v w : View) : Type 0 where
  pub lane : IsSameLane v w
  pub locks : w.locks ≡ v.locks
  pub call : w.call ≡ v.call
  pub number : w.number ≡ v.number
  pub entries : w.entries ≡ v.entries
  pub log : w.log ≡ v.log
  pub seen : (s : Step) → Contains v.seen s → Contains w.seen s
  pub below : generation_of w < generation_limit

pub begun_on : {M : Type 0} (at : M → View → Type 0) (lane : Lane M) (v w : View) → IsBegun at lane v → GoesOnBegun v w → MayRest w → (memory : M) → at memory w → IsBegun at (record lane { memory = memory }) w
begun_on at lane v w is goes rests memory there =
    let same = goes.lane in
    record {
      seen = record {
        memory = there;
        pool = same.pool ∙ is.seen.pool;
        shape = record { lanes = same.lanes ∙ is.seen.shape.lanes; zones = same.zones ∙ is.seen.shape.zones; size = same.size ∙ is.seen.shape.size };
        locks = is.seen.locks ∙ sym goes.locks;
        records = is.seen.records ∙ ap (λ (log : Log). map span_of log.records) (sym goes.log);
        drawn = λ number drawn. goes.number ∙ is.seen.drawn number drawn;
        last = is.seen.last ∙ ap last_number_of (sym goes.entries);
      };
      unharmed = is.unharmed;
      unstopped = is.unstopped;
      unlisted = is.unlisted;
      log = goes.log ∙ is.log;
      undrawn = goes.number ∙ is.undrawn;
      undrained = rests;
      untold = goes.call ∙ is.untold;
      area = (let area = is.area in let lane_is = same.lane in let lanes = same.lanes in let size = same.size in
          let low = area.lane in let few = area.few in let inside = area.inside in
          record { lane = omega (arith, low, lane_is, lanes); few = omega (arith, few, lane_is); inside = omega (arith, inside, lane_is, size); below = goes.below });
      may_come = record { found = is.may_come.found; seen = goes.seen (NumberSeen is.may_come.found) is.may_come.seen; below = is.may_come.below };
      lines = record {
        inside = subst (λ (n : ℕ). All (λ (l : Lock). l.line < n / 8) w.locks) (sym same.size) (subst (λ (locks : List Lock). All (λ (l : Lock). l.line < length v.words / 8) locks) (sym goes.locks) is.lines.inside);
        once = subst (λ (locks : List Lock). IsDistinct nat_eq (map (λ (l : Lock). l.line) locks)) (sym goes.locks) is.lines.once;
      };
    }

-- ---- its number

-- the number may be drawn once the operation is told
pub told_may_draw : {M : Type 0} (at : M → View → Type 0) (lane : Lane M) (u : View) → IsBegun at lane u → (op : Operation) (reply : Option Value) (n : ℕ) → Allowed (after u (Tell op reply)) (Draw n)
unfolding ends_call in_turn one Ready after_all
told_may_draw at lane u is op reply n = (begun_ready at lane u is op reply n).2.0

-- the view behind both
pub told_drawn : (u : View) (op : Operation) (reply : Option Value) (n : ℕ) → after_all u (ends_call op reply n u) ≡ after (after u (Tell op reply)) (Draw n)
unfolding ends_call in_turn one after_all
told_drawn u op reply n = refl
