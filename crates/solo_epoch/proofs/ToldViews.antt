-- What is told changes nothing else of a view: what a lane reserved it has, and it may make another object. So it is between two calls.
use Rattle.std.proofs.Common.{◌≡◌, ℕ, true, ◌++◌, ◌∷◌, [], inl, inr, List, None, Option, refl, subst, sym}
use Rattle.pm_header.specs.declared.header.Header.{Header}
use Rattle.pm_layout.specs.declared.shape.Shape.{Shape}
use Rattle.pm_objects.specs.declared.calls.Operation.{Operation}
use Rattle.pm_objects.specs.declared.history.Value.{Value}
use Rattle.pm_objects.specs.declared.pool.PoolView.{PoolView}
use Rattle.solo_view.specs.Held.{is_known}
use Rattle.solo_view.specs.Steps.{Step}
use Rattle.solo_view.specs.Steps.Step.{Tell}
use Rattle.solo_view.specs.View.{Numbered, Told, View}
use Rattle.solo_view.specs.Views.{after}
use Rattle.solo_world.specs.Lawful.{MayTell}
use Rattle.solo_world.specs.Opening.{Opening}
use Rattle.solo_undo.specs.Working.{HasRecords, IsWorking}
use Rattle.solo_blocks.specs.NewRuns.{MayMakeRun}
use Rattle.solo_alloc.specs.NewObjects.{CanMakeObject}
use Rattle.solo_crash.specs.Alone.{WorksAlone}
use Rattle.solo_crash.specs.CallBlocks.{NewObject}
use Rattle.solo_crash.specs.Leading.{Leads}
use Rattle.solo_crash.specs.Reserved.{IsReservedFor}
use Rattle.solo_crash.proofs.Leading.{leads_then}

-- ---- where a view differs in its call, its numbers, what is pending and what it saw alone, and may know more

module _ (u : View) (known : List ℕ) (call : List Told) (actions : List Told) (seen : List Step) (number : Option ℕ) (entries : List Numbered) where
  abbrev w : View
  w = record u { known = known; call = call; actions = actions; seen = seen; number = number; entries = entries }

  pub reserved_where_so : (n : NewObject) → IsReservedFor u n → IsReservedFor w n
  reserved_where_so n (inl run) =
      inl (record { chunk = run.chunk; lines = run.lines; index = run.index; in_pool = run.in_pool; low = run.low; described = run.described; reserved = run.reserved; is_block = run.is_block })
  reserved_where_so n (inr has) = inr (record {
    zone = has.zone;
    first = has.first;
    count = has.count;
    in_pool = has.in_pool;
    low = has.low;
    fits = has.fits;
    unused = λ j near. let t = has.unused j near in record { reserved = t.reserved; undescribed = t.undescribed };
    is_block = has.is_block;
  })

  -- it knows what it knew
  abbrev KnowsMore : Type 0
  KnowsMore = (i : ℕ) → is_known u i ≡ true → is_known w i ≡ true

  records_where_so : KnowsMore → HasRecords u → HasRecords w
  records_where_so more r = record {
    most = r.most;
    stored = r.stored;
    some = r.some;
    few = r.few;
    each = λ slot q i at covered. let user = r.each slot q i at covered in record { own = user.own; known = more i user.known; outside = user.outside; inside = user.inside };
    once = r.once;
  }

  working_where_so : KnowsMore → number ≡ None → IsWorking u → IsWorking w
  working_where_so more undrawn works = record {
    is_open = works.is_open;
    undrawn = undrawn;
    area = record { lane = works.area.lane; few = works.area.few; inside = works.area.inside; below = works.area.below };
    records = records_where_so more works.records;
    drained = works.drained;
  }

  run_where_so : KnowsMore → number ≡ None → (shape : Shape) → MayMakeRun u shape → MayMakeRun w shape
  run_where_so more undrawn shape may = record {
    search = record { shape = record { lanes = may.search.shape.lanes; zones = may.search.shape.zones; size = may.search.shape.size }; early = may.search.early; unlocked = may.search.unlocked };
    alone = may.alone;
    working = working_where_so more undrawn may.working;
    locked = may.locked;
    pictured = may.pictured;
    unused = λ zone chunk in_pool low clear. let t = may.unused zone chunk in_pool low clear in
        record { undescribed = t.undescribed; closed = t.closed; no_chunk = t.no_chunk; no_block = t.no_block; drained = t.drained; unlogged = t.unlogged };
  }

  pub can_where_so : KnowsMore → number ≡ None → (shape : Shape) → CanMakeObject u shape → CanMakeObject w shape
  can_where_so more undrawn shape can = record {
    run = run_where_so more undrawn shape can.run;
    pool = record { lane = can.pool.lane; size = can.pool.size; of_pool = can.pool.of_pool; no_bitmap = can.pool.no_bitmap };
    pictured = record { runs = can.pictured.runs; taken = can.pictured.taken };
  }

-- ---- where an operation is told

module _ (u : View) (op : Operation) (reply : Option Value) where
  abbrev v : View
  v = after u (Tell op reply)

  pub reserved_where_told : (n : NewObject) → IsReservedFor u n → IsReservedFor v n
  reserved_where_told = reserved_where_so u u.known v.call v.actions u.seen u.number u.entries

  pub can_where_told : (shape : Shape) → CanMakeObject u shape → CanMakeObject v shape
  can_where_told shape can = can_where_so u u.known v.call v.actions u.seen u.number u.entries (λ i known. known) can.run.working.undrawn shape can

  -- the lane may tell while its call is open
  tells : MayTell u.log.phase → Leads u (Tell op reply ∷ []) v
  unfolding Leads
  tells may = (may, tt, tt, refl)

  pub works_where_told : (o : Opening) (header : Header) (pool : PoolView) (start : View) (steps : List Step) → IsWorking u → WorksAlone o header pool start steps u → WorksAlone o header pool start (steps ++ Tell op reply ∷ []) v
  works_where_told o header pool start steps at_work works = record {
    begins = works.begins;
    leads = leads_then start u v steps (Tell op reply ∷ []) works.leads (tells (subst MayTell (sym at_work.is_open) tt));
    numbered = works.numbered;
    within = works.within;
  }
