-- A lane that could not begin its call rests still with what it has reserved: it looked at words alone.
use Rattle.std.proofs.Common.{◌≡◌, ⊎_elim, inl, inr, ℕ, ◌+◌, ◌*◌, ◌<◌, ◌≤◌, All, Contains, List, [], ◌++◌, length, map, None, Some, slice_get, slice_index, refl, sym, ap, ◌∙◌, subst, arith}
use Rattle.std.specs.List.{list_any}
use Rattle.std.proofs.lemmas.List.Elements.{All-nil, All-weaker}
use Rattle.pm_header.specs.declared.header.Header.{Header}
use Rattle.solo_memory.specs.Solo.{Sees, Solo}
use Rattle.solo_model.specs.Actions.{Pending, Reservation}
use Rattle.pm_objects.specs.declared.pool.PoolView.{PoolView}
use Rattle.solo_view.specs.Founds.{IsAlone}
use Rattle.solo_view.specs.Log.{Log, Recorded, no_log}
use Rattle.solo_view.specs.Log.Phase.{Idle, Open}
use Rattle.solo_view.specs.Steps.{Step}
use Rattle.solo_view.specs.View.{Lock, View}
use Rattle.solo_view.specs.Views.{is_of_heap}
use Rattle.solo_world.specs.Lawful.{generation_limit}
use Rattle.solo_world.specs.Opening.{Opening}
use Rattle.solo_world.specs.Records.{IsRecordAt, generation_of}
use Rattle.std.proofs.lemmas.Option.{none-some}
use Rattle.solo_world.specs.declared.lane.Lane.{Lane}
use Rattle.solo_undo.specs.Working.{IsWorking}
use Rattle.solo_crash.specs.Alone.{Begins, WorksAlone}
use Rattle.solo_crash.specs.CallBlocks.{CallBlocks, reserved_object}
use Rattle.solo_crash.specs.Pending.{pending_before, pending_in}
use Rattle.solo_crash.specs.Reserved.{IsReservedFor, LiesFree, root_in}
use Rattle.solo_crash.specs.Reserving.{HasReserved}
use Rattle.solo_crash.proofs.AloneCourse.{begins_alone, begins_holds, begins_idle}
use Rattle.solo_crash.proofs.PendingOn.{same_before}
use Rattle.solo_crash.proofs.ReservedStays.{nothing_made}
use Rattle.solo_crash.proofs.SeenAlone.{works_where_seen}
use Rattle.solo_lock.proofs.Leads.{led_same}
use Rattle.solo_lock.specs.Leading.{IsLed}
use Rattle.solo_lock.specs.Resting.{IsAtRest, IsFresh}
use Rattle.solo_epoch.proofs.GainedObjects.{stood}
use Rattle.solo_epoch.proofs.MakingAlone.{makes_alone}
use Rattle.solo_epoch.proofs.NothingReserved.{rests_standing}
use Rattle.solo_epoch.proofs.OutsideCalls.{pending_untold}
use Rattle.solo_epoch.proofs.RestingReservations.{any_root, none_allocated}
use Rattle.solo_epoch.proofs.StandingPools.{own_fits}
use Rattle.solo_epoch.proofs.UntoldCalls.{rests_untold}
use Rattle.solo_epoch.specs.Epochs.{IsAtWorkAlone, ReservesNoRun}
use Rattle.solo_epoch.specs.Reserving.{IsAloneBetween, RestsWithReserved, with_next_call}
use Rattle.solo_transaction.proofs.EndingAlone.{none_run}
use Rattle.solo_transaction.proofs.NotMaking.{not_making_led}
use Rattle.solo_transaction.proofs.RestingViews.{NextOf, lies_for, next_of}
use Rattle.solo_transaction.proofs.StandsBehindBegin.{looked_stands, stands_led}
use Rattle.solo_transaction.specs.AtWork.{IsNotMaking, LiesInReserved}
use Rattle.solo_transaction.specs.Resting.{StandsAtRest}
use Rattle.solo_action.specs.Outside.{RestsAlone}
use Rattle.solo_exec.specs.Course.{IsFree}
use Rattle.solo_exec.proofs.Along.{alone_along}

module _ (o : Opening) (header : Header) (pool : PoolView) (lane : Lane Solo) (v w : View) (begins : Begins o header pool v) (quiet : IsNotMaking v) (stands : StandsAtRest v) (free : IsFree v w) (rests : IsAtRest Sees lane w) where
  abbrev steps : List Step
  steps = free.led.steps

  alone_v : IsAlone v
  alone_v = begins_alone o header pool v begins

  alone : IsAlone w
  alone = alone_along v w steps free.led.leads alone_v

  works : WorksAlone o header pool v steps w
  works = works_where_seen o header pool lane.memory v w steps begins free.led.leads rests.seen.memory

  inside : v.lane < v.lanes
  inside = let low = rests.place.lane in let same = led_same v w free.led in let l = same.lane in let ls = same.lanes in omega (arith, low, l, ls)

  next : NextOf v (with_next_call v)
  next = next_of v inside (inl (begins_idle o header pool v begins))

  quiet_still : IsNotMaking w
  quiet_still = not_making_led v w (led_same v w free.led) free.led alone_v quiet

  stands_still : StandsAtRest w
  stands_still = looked_stands v w inside (inl (begins_idle o header pool v begins)) rests.fresh alone_v free.led free.undrawn (λ l there. absurd (no_lock l there)) stands where
    no_lock : (l : Lock) → Contains w.locks l → ⊥
    no_lock l there = let t = subst (λ (ls : List Lock). Contains ls l) rests.free there in let low = t.1 in absurd (omega (arith, low))

  no_run : ReservesNoRun w.lanes w
  no_run = none_run o header pool v w steps works quiet_still

  its : All (IsReservedFor w) (map reserved_object (pending_before w).reserved)
  its = All-weaker (LiesInReserved w) (IsReservedFor w) (lies_for w) (map reserved_object (pending_before w).reserved) stands_still.within

  -- where its call is open, and nothing of it told, and a generation is left
  module _ (begun_so : w.log ≡ no_log (Open [] [])) (undrawn : w.number ≡ None) (untold : w.call ≡ []) where
    working : generation_of w < generation_limit → IsWorking w
    working below = record {
      is_open = ap (λ (l : Log). l.phase) begun_so;
      undrawn = undrawn;
      area = record { lane = rests.place.lane; few = rests.place.few; inside = rests.place.inside; below = below };
      records = record {
        most = (let many = ap (λ (l : Log). length l.records) begun_so in omega (arith, many));
        stored = λ slot r there. absurd (none_recorded slot r there);
        some = λ slot r there. absurd (none_recorded slot r there);
        few = λ slot r there. absurd (none_recorded slot r there);
        each = λ slot r i there. absurd (none_recorded slot r there);
        once = λ slot other r q i there. absurd (none_recorded slot r there);
      };
      drained = λ slot low. absurd (let many = ap (λ (l : Log). length l.records) begun_so in omega (arith, many, low));
    } where
      none_recorded : (slot : ℕ) (r : Recorded) → IsRecordAt w slot r → ⊥
      none_recorded slot r there = none-some r (subst (λ (log : Log). slice_get log.records slot ≡ Some r) begun_so there)

    at_work : generation_of w < generation_limit → IsAtWorkAlone w lane.shape
    at_work below =
        let s = stood o header pool v w steps works in
        let fits = own_fits o header pool w s in
        let shape = rests.seen.shape in
        let few : o.zones ≤ 32 = (begins_holds o header pool v begins).1.has_header.has_shape.shape.zones_to in
        record {
          alone = alone;
          working = working below;
          of_shape = shape;
          unlocked = quiet_still.unlocked;
          plain = ap (λ (l : Log). list_any (is_of_heap w) l.entries) begun_so;
          zones = (let zones = fits.lane.zones in let count = s.zone_count in omega (arith, zones, count, few));
          runs = (let pages = s.pages in let size = shape.size in let lanes = shape.lanes in let zones = shape.zones in omega (arith, pages, size, lanes, zones));
          no_run = no_run;
        }

    has_reserved : HasReserved w
    has_reserved =
        stands_led v next alone_v stands w free.led w refl refl refl refl (λ i there. there) (ap (λ (p : Pending). p.reserved) (pending_untold w untold ∙ same_before v w free.undrawn)) (nothing_made w untold)
        (λ r l lines there held. absurd (no_lock l held))
      where
        no_lock : (l : Lock) → Contains w.locks l → ⊥
        no_lock l there = let t = subst (λ (ls : List Lock). Contains ls l) rests.free there in let low = t.1 in absurd (omega (arith, low))

    between : generation_of w < generation_limit → IsAloneBetween o header pool v steps w lane.shape
    between below = record {
      outside = record {
        works = works;
        can = makes_alone o header pool v w steps lane.shape works (at_work below);
        no_records = ap (λ (l : Log). l.records) begun_so;
        no_entries = ap (λ (l : Log). l.entries) begun_so;
        free = rests.free;
        borne_out = record {
          made = subst (λ (b : CallBlocks). All (IsReservedFor w) (b.made ++ b.dropped)) (sym (nothing_made w untold)) (All-nil (IsReservedFor w));
          pending = subst (λ (p : Pending). All (IsReservedFor w) (map reserved_object p.reserved)) (sym (pending_untold w untold)) its;
          free = subst (All (LiesFree w)) (sym (none_allocated w untold)) (All-nil (LiesFree w));
          root = any_root w (root_in (slice_index w.words)) untold;
        };
        reserved = has_reserved;
      };
      untold = untold;
    }

    rests_open : RestsWithReserved o header pool v steps w lane.shape
    rests_open = record { works = works; free = rests.free; next = λ below. (rests_untold o header pool v steps w lane.shape (between below)).next below }

  rests_still : RestsWithReserved o header pool v steps w lane.shape
  rests_still = ⊎_elim
      (λ (idle : w.log ≡ no_log Idle). rests_standing o header pool v steps w lane.shape works idle rests.free quiet_still.unlocked alone rests.seen.shape no_run stands_still.stands its)
      (λ (begun : (w.log ≡ no_log (Open [] [])) × (w.number ≡ None) × (w.call ≡ [])). rests_open begun.0 begun.1 begun.2)
      rests.fresh

  -- so it may finish
  pub rests_alone_unbegun : RestsAlone Sees lane w
  rests_alone_unbegun = record { rests = rests; quiet = quiet_still; stands = stands_still; world = (o, header, pool, v, steps, rests_still) }
