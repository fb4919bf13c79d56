-- A lane alone whose call is open and told nothing rests with what it has reserved: the next call begins there as it does behind a draw.
use Rattle.std.proofs.Common.{◌≡◌, ◌≤◌, [], List, refl, sym, ap, ◌∙◌, subst}
use Rattle.std.specs.Option.{ForSome}
use Rattle.pm_header.specs.declared.header.Header.{Header}
use Rattle.pm_layout.specs.declared.shape.Shape.{Shape}
use Rattle.solo_memory.specs.Solo.{AreNumbered}
use Rattle.pm_objects.specs.declared.pool.PoolView.{PoolView}
use Rattle.solo_view.specs.Log.{no_log}
use Rattle.solo_view.specs.Log.Phase.{Open}
use Rattle.solo_view.specs.Steps.{Step}
use Rattle.solo_view.specs.View.{View}
use Rattle.solo_world.specs.Opening.{Opening}
use Rattle.solo_alloc.specs.NewObjects.{CanMakeObject}
use Rattle.solo_crash.specs.Leading.{Leads}
use Rattle.solo_crash.specs.Operations.{KeepsKnown, TellsNothing}
use Rattle.solo_crash.proofs.Leading.{leads_then}
use Rattle.solo_crash.proofs.ReservedStays.{quietly_stays}
use Rattle.solo_crash.proofs.StillReserved.{borne_still, HasSameHeads}
use Rattle.solo_epoch.specs.Reserving.{IsAloneBetween, RestsWithReserved, begins_next, with_next_call}
use Rattle.solo_epoch.proofs.NextCalls.{known_still, known_then, known_there, open_next, open_then}
use Rattle.solo_epoch.proofs.RestingReservations.{area_inside, open_log}
use Rattle.solo_epoch.proofs.ToldViews.{can_where_so}

module _ (o : Opening) (header : Header) (pool : PoolView) (start : View) (steps : List Step) (v : View) (shape : Shape) (c : IsAloneBetween o header pool start steps v shape) where
  abbrev x : View
  x = with_next_call v

  log_is : v.log ≡ no_log (Open [] [])
  log_is = open_log o header pool start steps v shape c.outside

  abbrev z : View
  z = open_then v c.outside.free

  is_next : x ≡ z
  is_next = open_next v c.outside.free log_is

  looked : TellsNothing v x
  looked = subst (TellsNothing v) (sym is_next) (record {
    keeps = record { lanes = refl; zones = refl; pool = refl; lane = refl; entries = refl; known = known_there v };
    locks = refl;
    call = refl;
  })

  keeps : KeepsKnown v x
  keeps = subst (KeepsKnown v) (sym is_next) (record { known = λ i out there. refl; recorded = λ i out there. refl })

  heads : HasSameHeads v x
  heads = subst (HasSameHeads v) (sym is_next) (record { lanes = refl; zones = refl; reserved = refl; described = λ chunk inside. refl; bitmaps = λ chunk inside run. refl; root = refl })

  can_next : CanMakeObject x shape
  can_next = subst (λ (w : View). CanMakeObject w shape) (sym is_next) (can_where_so v (known_then v) v.call v.actions z.seen v.number v.entries (known_still v) c.outside.can.run.working.undrawn shape c.outside.can)

  next_leads : Leads v (begins_next v) x
  unfolding Leads
  next_leads = (area_inside v shape c.outside.can, (λ alone. refl), tt, (tt, (λ alone. refl), tt, refl))

  pub rests_untold : RestsWithReserved o header pool start steps v shape
  rests_untold = record {
    works = c.outside.works;
    free = c.outside.free;
    next = λ below. record {
      outside = record {
        works = record {
          begins = c.outside.works.begins;
          leads = leads_then start v x steps (begins_next v) c.outside.works.leads next_leads;
          numbered = subst (AreNumbered 1) (sym looked.keeps.entries) c.outside.works.numbered;
          within = subst (λ (w : View). ForSome w.stop (λ stop. w.calls ≤ stop)) (sym is_next) c.outside.works.within;
        };
        can = can_next;
        no_records = ap (λ (w : View). w.log.records) is_next ∙ c.outside.no_records;
        no_entries = ap (λ (w : View). w.log.entries) is_next ∙ c.outside.no_entries;
        free = looked.locks ∙ c.outside.free;
        borne_out = borne_still v x heads looked.keeps.entries looked.call c.outside.borne_out;
        reserved = quietly_stays v x c.outside.reserved looked keeps;
      };
      untold = looked.call ∙ c.untold;
    };
  }
