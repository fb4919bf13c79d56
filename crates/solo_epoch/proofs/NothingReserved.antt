-- A lane that works alone and rests with no call open, and has what is reserved and pending standing in blocks that it reserved, or nothing, rests with that: as its next call begins it may make an object.
use Rattle.std.proofs.Common.{◌≡◌, ◌+◌, ◌*◌, ◌<◌, ◌≤◌, All, List, [], ◌++◌, length, map, slice_index, refl, sym, ap, ◌∙◌, subst, arith}
use Rattle.std.specs.Option.{ForSome}
use Rattle.std.proofs.lemmas.List.Elements.{All-nil, All-weaker}
use Rattle.pm_header.specs.declared.header.Header.{Header}
use Rattle.pm_layout.specs.declared.shape.Shape.{Shape}
use Rattle.solo_memory.specs.Solo.{AreNumbered}
use Rattle.solo_model.specs.Actions.{Pending, Reservation}
use Rattle.pm_objects.specs.declared.pool.PoolView.{PoolView}
use Rattle.solo_view.specs.Area.{area_word}
use Rattle.solo_view.specs.Founds.{IsAlone}
use Rattle.solo_view.specs.Log.{no_log}
use Rattle.solo_view.specs.Log.Phase.{Idle}
use Rattle.solo_view.specs.Steps.{Step}
use Rattle.solo_view.specs.View.{View}
use Rattle.solo_world.specs.Lanes.{IsOfShape}
use Rattle.solo_world.specs.Lawful.{generation_limit}
use Rattle.solo_world.specs.Opening.{Opening}
use Rattle.solo_world.specs.Records.{generation_of}
use Rattle.solo_undo.specs.Working.{IsWorking}
use Rattle.solo_crash.specs.Alone.{WorksAlone}
use Rattle.solo_crash.specs.CallBlocks.{CallBlocks, reserved_object}
use Rattle.solo_crash.specs.Leading.{Leads}
use Rattle.solo_crash.specs.Pending.{pending_before, pending_in}
use Rattle.solo_crash.specs.Reserved.{IsBorneOut, IsReservedFor, LiesFree, root_in}
use Rattle.solo_crash.proofs.AloneCourse.{StandsAlone, begins_holds}
use Rattle.solo_crash.proofs.Leading.{leads_then}
use Rattle.solo_crash.proofs.PendingOn.{same_before}
use Rattle.solo_crash.proofs.ReservedOn.{none_reserved}
use Rattle.solo_crash.proofs.ReservedStays.{nothing_made}
use Rattle.solo_crash.proofs.StillReserved.{HasSameHeads, reserved_still}
use Rattle.solo_crash.specs.Reserving.{HasReserved}
use Rattle.solo_epoch.specs.Epochs.{IsAtWorkAlone, ReservesNoRun}
use Rattle.solo_epoch.specs.Reserving.{RestsWithReserved, begins_next, with_next_call}
use Rattle.solo_epoch.proofs.GainedObjects.{stood}
use Rattle.solo_epoch.proofs.MakingAlone.{makes_alone}
use Rattle.solo_epoch.proofs.NextCalls.{idle_next, idle_then}
use Rattle.solo_epoch.proofs.OutsideCalls.{pending_untold}
use Rattle.solo_epoch.proofs.RestingReservations.{any_root, begun_entries, none_allocated}
use Rattle.solo_epoch.proofs.StandingPools.{own_fits}

module _ (o : Opening) (header : Header) (pool : PoolView) (start : View) (steps : List Step) (v : View) (shape : Shape) (works : WorksAlone o header pool start steps v) (idle : v.log ≡ no_log Idle) (free : v.locks ≡ [])
    (unlocked : v.zone_locks ≡ []) (alone : IsAlone v) (of_shape : IsOfShape v shape) (no_run : ReservesNoRun v.lanes v) where
  s : StandsAlone o header pool v
  s = stood o header pool start v steps works

  abbrev x : View
  x = with_next_call v

  abbrev z : View
  z = idle_then v free

  is_next : x ≡ z
  is_next = idle_next v free idle

  zones_few : o.zones ≤ 32
  zones_few = (begins_holds o header pool start works.begins).1.has_header.has_shape.shape.zones_to

  inside : 512 + 1024 * (v.lane + 1) ≤ length v.words
  inside =
      let fits = own_fits o header pool v s in
      let lane = fits.lane.lane in let size = fits.lane.size in let sound = s.goes.world.sound.size in let low = s.goes.in_lanes in omega (arith, lane, size, sound, low)

  working : generation_of v < generation_limit → IsWorking z
  working below = record {
    is_open = refl;
    undrawn = refl;
    area = record {
      lane = (let fits = own_fits o header pool v s in let lane = fits.lane.lane in let lanes = fits.lane.lanes in let low = s.goes.in_lanes in omega (arith, lane, lanes, low));
      few = (let fits = own_fits o header pool v s in let lane = fits.lane.lane in omega (arith, lane));
      inside = inside;
      below = below;
    };
    records = record {
      most = omega arith;
      stored = λ slot r at. absurd cc;
      some = λ slot r at. absurd cc;
      few = λ slot r at. absurd cc;
      each = λ slot r i at covered. absurd cc;
      once = λ slot other r q i at. absurd cc;
    };
    drained = λ slot low. absurd (omega (arith, low));
  }

  at_work : generation_of v < generation_limit → IsAtWorkAlone z shape
  at_work below = record {
    alone = alone;
    working = working below;
    of_shape = record { lanes = of_shape.lanes; zones = of_shape.zones; size = of_shape.size };
    unlocked = unlocked;
    plain = refl;
    zones = (let fits = own_fits o header pool v s in let zones = fits.lane.zones in let count = s.zone_count in let few = zones_few in omega (arith, zones, count, few));
    runs = (let pages = s.pages in let size = of_shape.size in let lanes = of_shape.lanes in let zones = of_shape.zones in omega (arith, pages, size, lanes, zones));
    no_run = no_run;
  }

  next_leads : Leads v (begins_next v) x
  unfolding Leads
  next_leads = (area_in, (λ alone. refl), tt, (tt, (λ alone. refl), tt, refl)) where
    area_in : area_word v.lane < length v.words
    area_in = let here = inside in omega (arith, here)

  works_next : WorksAlone o header pool start (steps ++ begins_next v) x
  works_next = record {
    begins = works.begins;
    leads = leads_then start v x steps (begins_next v) works.leads next_leads;
    numbered = subst (AreNumbered 1) (sym (begun_entries v)) works.numbered;
    within = subst (λ (w : View). ForSome w.stop (λ stop. w.calls ≤ stop)) (sym is_next) works.within;
  }

  untold : x.call ≡ []
  untold = ap (λ (w : View). w.call) is_next

  same_pending : pending_in x ≡ pending_before v
  same_pending = pending_untold x untold ∙ same_before v x (begun_entries v)

  same_heads : HasSameHeads v x
  same_heads = subst (HasSameHeads v) (sym is_next) (record { lanes = refl; zones = refl; reserved = refl; described = λ chunk inside. refl; bitmaps = λ chunk inside run. refl; root = refl })

  -- where what is reserved and pending stands then
  module _ (has : HasReserved x) (its : All (IsReservedFor v) (map reserved_object (pending_before v).reserved)) where
    bears_out : IsBorneOut x
    bears_out = record {
      made = subst (λ (b : CallBlocks). All (IsReservedFor x) (b.made ++ b.dropped)) (sym (nothing_made x untold)) (All-nil (IsReservedFor x));
      free = subst (All (LiesFree x)) (sym (none_allocated x untold)) (All-nil (LiesFree x));
      pending = subst (λ (p : Pending). All (IsReservedFor x) (map reserved_object p.reserved)) (sym same_pending) (All-weaker (IsReservedFor v) (IsReservedFor x) (reserved_still v x same_heads) (map reserved_object (pending_before v).reserved) its);
      root = any_root x (root_in (slice_index x.words)) untold;
    }

    pub rests_standing : RestsWithReserved o header pool start steps v shape
    rests_standing = record {
      works = works;
      free = free;
      next = λ below. record {
        outside = record {
          works = works_next;
          can = makes_alone o header pool start x (steps ++ begins_next v) shape works_next (subst (λ (w : View). IsAtWorkAlone w shape) (sym is_next) (at_work below));
          no_records = ap (λ (w : View). w.log.records) is_next;
          no_entries = ap (λ (w : View). w.log.entries) is_next;
          free = ap (λ (w : View). w.locks) is_next ∙ free;
          borne_out = bears_out;
          reserved = has;
        };
        untold = untold;
      };
    }

  -- and where nothing is
  pub rests_with_none : (pending_before v).reserved ≡ [] → RestsWithReserved o header pool start steps v shape
  rests_with_none none = rests_standing (none_reserved x (ap (λ (p : Pending). p.reserved) same_pending ∙ none))
      (subst (λ (rs : List Reservation). All (IsReservedFor v) (map reserved_object rs)) (sym none) (All-nil (IsReservedFor v)))
