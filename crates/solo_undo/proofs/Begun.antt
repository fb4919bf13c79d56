-- A call that begins is at work, and stays so while words are looked at, locks taken and operations told.
use Rattle.std.proofs.Common.{◌≡◌, ℕ, ◌<◌, Bool, true, false, ◌&&◌, Option, None, List, [], ◌∷◌, length, is_some, refl, sym, ◌∙◌, subst, arith}
use Rattle.std.specs.List.{list_any}
use Rattle.std.proofs.lemmas.Bool.{or_left}
use Rattle.std.proofs.lemmas.List.Folds.{list_any-append}
use Rattle.std.proofs.lemmas.Option.{none-some}
use Rattle.pm_objects.specs.declared.calls.Operation.{Operation}
use Rattle.pm_objects.specs.declared.history.Value.{Value}
use Rattle.solo_view.specs.Held.{is_known, is_under}
use Rattle.solo_view.specs.Log.Phase.{Idle}
use Rattle.solo_view.specs.Rights.{is_written}
use Rattle.solo_view.specs.Steps.{Step}
use Rattle.solo_view.specs.Steps.Step.{NumberSeen, TakeWrite, TakeRead, Tell}
use Rattle.solo_view.specs.View.{View, Lock, Told}
use Rattle.solo_view.specs.Views.{after, after_all, begun, taken, with_seen}
use Rattle.solo_world.specs.Sequences.{looks, Ready}
use Rattle.solo_undo.specs.Working.{HasArea, IsWorking, TellsNoBlock}
use Rattle.solo_undo.proofs.Retired.{may_look}
use Rattle.solo_undo.proofs.Staying.{looked, same_looked}
use Rattle.solo_undo.proofs.Written.{work_goes_on}

pub begin_works : (v : View) (n : ℕ) → HasArea v → v.log.phase ≡ Idle → IsWorking (after v (NumberSeen n))
begin_works v n area idle = subst (λ phase. IsWorking (with_seen (NumberSeen n) (begun phase v))) (sym idle) (record {
  is_open = refl;
  undrawn = refl;
  area = record { lane = area.lane; few = area.few; inside = area.inside; below = area.below };
  records = record {
    most = omega arith;
    stored = λ slot r there. absurd (none-some r there);
    some = λ slot r there. absurd (none-some r there);
    few = λ slot r there. absurd (none-some r there);
    each = λ slot r w there. absurd (none-some r there);
    once = λ slot other r q w there. absurd (none-some r there);
  };
  drained = λ slot low. absurd (omega (arith, low));
})

-- it saw, took and told more
abbrev busier : View → List Lock → List Step → List Told → List Told → View
busier v locks seen call actions = record v { locks = locks; seen = seen; call = call; actions = actions }

busier_works : (v : View) (locks : List Lock) (seen : List Step) (call actions : List Told) → ((u : ℕ) → is_written v u ≡ true → is_written (busier v locks seen call actions) u ≡ true) → IsWorking v → IsWorking (busier v locks seen call actions)
busier_works v locks seen call actions more working =
    let has = working.records in
    let area = working.area in
    record {
      is_open = working.is_open;
      undrawn = working.undrawn;
      area = record { lane = area.lane; few = area.few; inside = area.inside; below = area.below };
      records = record {
        most = has.most;
        stored = has.stored;
        some = has.some;
        few = has.few;
        each = λ slot r w there covering. let e = has.each slot r w there covering in record { own = more w e.own; known = e.known; outside = e.outside; inside = e.inside };
        once = has.once;
      };
      drained = working.drained;
    }

-- a lock more, or none
taken_writes : (v : View) (line : ℕ) (write won : Bool) (u : ℕ) → is_written v u ≡ true → is_written (record v { locks = taken line write won v.locks }) u ≡ true
taken_writes v line write true u e =
    let p : Lock → Bool = λ l. l.write && is_some l.block && is_under u l in
    let one : List Lock = record { line = line; write = write; block = None } ∷ [] in
    list_any-append p v.locks one ∙ or_left (list_any p v.locks) (list_any p one) e
taken_writes v line write false u e = e

pub take_works : (v : View) (line : ℕ) (won : Bool) → IsWorking v → IsWorking (after v (TakeWrite line won)) × IsWorking (after v (TakeRead line won))
take_works v line won working = (
  busier_works v (taken line true won v.locks) _ v.call v.actions (taken_writes v line true won) working,
  busier_works v (taken line false won v.locks) _ v.call v.actions (taken_writes v line false won) working,
)

pub tell_works : (v : View) (operation : Operation) (reply : Option Value) → IsWorking v → IsWorking (after v (Tell operation reply))
tell_works v operation reply working = busier_works v v.locks v.seen _ _ (λ u e. e) working

pub look_works : (v : View) (w : ℕ) → IsWorking v → w < length v.words → is_known v w ≡ true → TellsNoBlock v w → Ready v (looks w v) × IsWorking (after_all v (looks w v))
look_works v w working low known quiet =
    may_look v w IsWorking low known quiet (work_goes_on v (looked v w) working (same_looked v w) refl (λ u inside. refl) working.drained)
