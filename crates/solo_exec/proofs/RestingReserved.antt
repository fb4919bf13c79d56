-- A lane that rests with what it has reserved keeps that: in whatever world it begins there it rests with it; and so it does behind steps that make no counted call.
use Rattle.std.proofs.Common.{◌≡◌, ℕ, ◌<◌, All, Contains, List, [], map, refl, sym, ap, ◌∙◌, subst, arith}
use Rattle.std.proofs.lemmas.List.Elements.{All-weaker}
use Rattle.solo_crash.proofs.AloneCourse.{begins_alone}
use Rattle.solo_crash.proofs.ReservedStays.{nothing_made}
use Rattle.solo_crash.specs.CallBlocks.{reserved_object}
use Rattle.solo_crash.specs.Alone.{Begins, WorksAlone}
use Rattle.solo_crash.specs.Pending.{pending_before}
use Rattle.solo_epoch.proofs.NothingReserved.{rests_standing}
use Rattle.solo_epoch.specs.Reserving.{RestsWithReserved, with_next_call}
use Rattle.pm_header.specs.declared.header.Header.{Header}
use Rattle.pm_image.proofs.Members.{no_member}
use Rattle.solo_crash.specs.Leading.{Leads}
use Rattle.solo_lock.proofs.Leads.{led_same}
use Rattle.solo_lock.specs.Leading.{IsLed}
use Rattle.solo_lock.specs.Resting.{IsAtRest, IsFresh}
use Rattle.solo_memory.specs.Solo.{Sees, Solo}
use Rattle.solo_model.specs.Actions.{Pending, Reservation}
use Rattle.pm_objects.specs.declared.pool.PoolView.{PoolView}
use Rattle.solo_transaction.proofs.EndingAlone.{none_run}
use Rattle.solo_transaction.proofs.RestingViews.{NextOf, all_reserved, lies_for, next_known, next_of, next_pending}
use Rattle.solo_transaction.proofs.StandsBehindBegin.{led_lies, stands_led}
use Rattle.solo_crash.specs.Reserved.{IsReservedFor}
use Rattle.solo_transaction.specs.AtWork.{IsNotMaking, LiesInReserved}
use Rattle.solo_transaction.specs.Resting.{StandsAtRest}
use Rattle.solo_view.specs.Founds.{IsAlone}
use Rattle.solo_view.specs.Log.{no_log}
use Rattle.solo_view.specs.Log.Phase.{Idle}
use Rattle.solo_view.specs.View.{Lock, View}
use Rattle.solo_world.specs.Opening.{Opening}
use Rattle.solo_world.specs.declared.lane.Lane.{Lane}
use Rattle.solo_exec.proofs.BeginsBehind.{works}
use Rattle.solo_exec.specs.Progress.{KeepsReserved}

stays_there : (w : View) → Leads w [] w
unfolding Leads
stays_there w = refl

-- wherever it begins at rest, it rests with what stands
pub rest_keeps : (o : Opening) (lane : Lane Solo) (w : View) → IsAtRest Sees lane w → w.log ≡ no_log Idle → StandsAtRest w → IsNotMaking w → KeepsReserved o lane.shape w
rest_keeps o lane w rests idle stands quiet = record {
  quiet = quiet;
  stands = stands;
  rests = λ header pool begins.
      let works_here : WorksAlone o header pool w [] w = works o header pool lane w w [] begins (stays_there w) rests.seen.memory in
      rests_standing o header pool w [] w lane.shape works_here idle rests.free quiet.unlocked (begins_alone o header pool w begins) rests.seen.shape (none_run o header pool w w [] works_here quiet)
      stands.stands (All-weaker (LiesInReserved w) (IsReservedFor w) (lies_for w) (map reserved_object (pending_before w).reserved) stands.within);
}

-- where the same is reserved behind steps that lead on, it stands there
pub led_stands : (v w : View) → v.lane < v.lanes → IsFresh v → IsFresh w → IsAlone v → IsLed v w → w.locks ≡ [] → (pending_before w).reserved ≡ (pending_before v).reserved → StandsAtRest v → StandsAtRest w
led_stands v w inside fresh fresh_w alone led free kept rests =
    let next : NextOf v (with_next_call v) = next_of v inside fresh in
    let same = led_same v w led in
    let z : View = with_next_call w in
    let next_w : NextOf w z = next_of w (let l = same.lane in let ls = same.lanes in omega (arith, inside, l, ls)) fresh_w in
    record {
      stands = stands_led v next alone rests w led z next_w.lanes next_w.zones next_w.lane next_w.words (next_known w z next_w) (ap (λ (p : Pending). p.reserved) (next_pending w z next_w) ∙ kept) (nothing_made z next_w.call)
          (λ r l lines there held is. absurd (no_member l (subst (λ (ls : List Lock). Contains ls l) (next_w.locks ∙ free) held)));
      within = subst (λ (rs : List Reservation). All (LiesInReserved w) (map reserved_object rs)) (sym kept) (all_reserved (LiesInReserved w) (pending_before v).reserved (led_lies v next alone rests w led));
    }
