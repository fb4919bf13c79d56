-- A lane that rests alone with what it has reserved: it knows what is taken, and may give back the block of each object that is reserved, one after another, wherever it has of the
-- heap what it has at rest, with nothing undrained and an empty log.
use Rattle.std.proofs.Common.{◌≡◌, ◌⊎◌, ℕ, ◌<◌, ◌≤◌, All, Contains, List, [], get_or, length, map, sym, ap, subst}
use Rattle.std.proofs.lemmas.List.Elements.{All-map, All-weaker, Contains-get_or}
use Rattle.pm_header.specs.declared.header.Header.{Header}
use Rattle.pm_image.specs.declared.block.Block.{Block}
use Rattle.pm_objects.specs.declared.pool.PoolView.{PoolView}
use Rattle.solo_model.specs.Actions.{Pending, Reservation}
use Rattle.solo_model.proofs.Blocks.{has_lines}
use Rattle.solo_crash.specs.Alone.{WorksAlone}
use Rattle.solo_crash.specs.CallBlocks.{NewObject, block_of, reserved_object}
use Rattle.solo_crash.specs.Pending.{pending_before, pending_in}
use Rattle.solo_crash.specs.Reserved.{IsReservedFor}
use Rattle.solo_crash.proofs.AloneCourse.{StandsAlone}
use Rattle.solo_crash.proofs.AloneMemory.{memory_of}
use Rattle.solo_epoch.specs.Epochs.{ReservesNoRun}
use Rattle.solo_epoch.specs.GivingBack.{LieApart}
use Rattle.solo_epoch.specs.Reserving.{with_next_call}
use Rattle.solo_epoch.proofs.GainedObjects.{stood}
use Rattle.solo_epoch.proofs.GivenAll.{apart_blocks, may_give_next, reserved_apart}
use Rattle.solo_epoch.proofs.GivenBlocks.{GivesAll}
use Rattle.solo_epoch.proofs.GivingSteps.{early_where_empty, unlogged_where_empty}
use Rattle.solo_epoch.proofs.KnowingLanes.{knows_at_work}
use Rattle.solo_epoch.proofs.RestingReservations.{reserved_is_kept}
use Rattle.solo_epoch.proofs.StandingPools.{own_fits}
use Rattle.solo_reclaim.specs.KeptBlocks.{Keeps}
use Rattle.solo_reclaim.specs.KnownTaken.{KnowsTaken}
use Rattle.solo_transaction.specs.AtWork.{IsNotMaking, LiesInReserved}
use Rattle.solo_transaction.proofs.NotMaking.{reserves_no_run}
use Rattle.solo_transaction.proofs.RestingViews.{lies_for, next_of, next_pending}
use Rattle.solo_view.specs.Founds.{IsAlone}
use Rattle.solo_view.specs.Log.{no_log}
use Rattle.solo_view.specs.Log.Phase.{Idle, Open}
use Rattle.solo_view.specs.Steps.{Step}
use Rattle.solo_view.specs.View.{View}
use Rattle.solo_world.specs.Fits.{LaneFits}
use Rattle.solo_world.specs.Heap.{heap_words}
use Rattle.solo_world.specs.History.{Flies, settled}
use Rattle.solo_world.specs.Lanes.{IsOfShape}
use Rattle.solo_world.specs.Opening.{Opening}
use Rattle.solo_world.specs.declared.lane.Lane.{Lane}
use Rattle.solo_transaction.specs.GivingInTurn.{MayGiveInTurn}
use Rattle.solo_action.specs.Canceling.{objects_reserved}
use Rattle.solo_action.specs.Outside.{RestsAlone}
use Rattle.solo_action.proofs.NextBegun.{works_no_table}
use Rattle.solo_action.proofs.SameOwn.{HasSameOwn, knows_so, no_run_so, reserved_so}

-- ---- in a world where it works alone

module _ (o : Opening) (header : Header) (pool : PoolView) (start v : View) (steps : List Step) (works : WorksAlone o header pool start steps v) where
  stands : StandsAlone o header pool v
  stands = stood o header pool start v steps works

  fits : LaneFits o (memory_of v) (settled o stands.log stands.decided) (Flies stands.log stands.decided 0) 0 v
  fits = own_fits o header pool v stands

  module _ (quiet : IsNotMaking v) where
    pub works_no_run : ReservesNoRun v.lanes v
    works_no_run = reserves_no_run o (heap_words o (memory_of v)) v fits.blocks fits.lane.lanes fits.lane.zones quiet

    pub works_knows : KnowsTaken v
    works_knows = knows_at_work o header pool start v steps works (subst (λ lanes. ReservesNoRun lanes v) fits.lane.lanes works_no_run)

-- ---- what it has reserved

module _ {M : Type 0} (at : M → View → Type 0) (lane : Lane M) (v : View) (r : RestsAlone at lane v) where
  world : WorksAlone r.world.0 r.world.1 r.world.2 r.world.3 r.world.4 v
  world = r.world.5.works

  pub rests_is_alone : IsAlone v
  rests_is_alone = works_no_table r.world.0 r.world.1 r.world.2 r.world.3 v r.world.4 world

  abbrev ns : List NewObject
  ns = objects_reserved v

  pub each_reserved : All (IsReservedFor v) ns
  each_reserved = All-weaker (LiesInReserved v) (IsReservedFor v) (lies_for v) ns r.stands.within

  next_is : (pending_in (with_next_call v)).reserved ≡ (pending_before v).reserved
  next_is = ap (λ (p : Pending). p.reserved) (next_pending v (with_next_call v) (next_of v r.rests.place.lane r.rests.fresh))

  pub lie_apart : LieApart ns
  lie_apart = subst (λ (rs : List Reservation). LieApart (map reserved_object rs)) next_is (reserved_apart (with_next_call v) r.stands.stands)

  each_there : (k : ℕ) (d : Reservation) → k < length (pending_before v).reserved → Contains (pending_in (with_next_call v)).reserved (get_or (pending_before v).reserved k d)
  each_there k d low = subst (λ (rs : List Reservation). Contains rs (get_or (pending_before v).reserved k d)) (sym next_is) (Contains-get_or (pending_before v).reserved k d low)

  -- ---- where it has of the heap what it has at rest

  module _ (y : View) (own : HasSameOwn v y) (of_shape : IsOfShape y lane.shape) (empty : (y.log ≡ no_log Idle) ⊎ (y.log ≡ no_log (Open [] []))) (drained : y.changes ≡ []) where
    pub gives_all_there : GivesAll y lane.shape (map block_of ns)
    gives_all_there = record {
      may = record {
        early = early_where_empty y empty;
        unlogged = unlogged_where_empty y empty;
        drained = drained;
        of_shape = of_shape;
        no_run = no_run_so v y own (works_no_run r.world.0 r.world.1 r.world.2 r.world.3 v r.world.4 world r.quiet);
        knows = knows_so v y own (works_knows r.world.0 r.world.1 r.world.2 r.world.3 v r.world.4 world r.quiet);
      };
      some = All-map (λ (b : Block). 1 ≤ b.lines) block_of ns (λ k d low. has_lines (get_or ns k d).size);
      keeps = All-map (Keeps y) block_of ns (All-weaker (IsReservedFor v) (λ n. Keeps y (block_of n)) (λ n is. reserved_is_kept y n (reserved_so v y own n is)) ns each_reserved);
      apart = apart_blocks ns lie_apart;
    }

    pub may_give_in_turn : MayGiveInTurn y lane.shape ns
    may_give_in_turn = record {
      of_shape = of_shape;
      behind = All-map (λ (n : NewObject). 64 ≤ n.off) reserved_object (pending_before v).reserved (λ k d low. (r.stands.stands.each _ (each_there k d low)).made.behind);
      most = All-map (λ (n : NewObject). n.size ≤ 262080) reserved_object (pending_before v).reserved (λ k d low. let made = (r.stands.stands.each _ (each_there k d low)).made in subst (λ (size : ℕ). size ≤ 262080) made.long made.object.most);
      each = λ given rest n parts. may_give_next y lane.shape given rest n (subst (λ (ms : List NewObject). GivesAll y lane.shape (map block_of ms)) parts gives_all_there);
    }
