-- A lane alone that came to its stop as it made an object: the first of the steps led there that make the run or fill the block.
use Rattle.std.proofs.Common.{◌≡◌, ⊎_elim, inl, inr, ℕ, ◌≤◌, ◌+◌, ◌*◌, List, [], Option, take, refl, sym, subst, arith}
use Rattle.std.specs.Option.{ForSome}
use Rattle.pm_header.specs.declared.header.Header.{Header}
use Rattle.pm_image.specs.declared.block.Block.{Block}
use Rattle.pm_layout.specs.Sizes.{class_of}
use Rattle.pm_layout.specs.declared.class.Class.{Class}
use Rattle.pm_layout.specs.declared.class.Class.TheVariants.{Chunks, Lines}
use Rattle.pm_layout.specs.declared.shape.Shape.{Shape}
use Rattle.solo_memory.specs.Runs.{Stops}
use Rattle.solo_memory.specs.Solo.{Sees, Solo}
use Rattle.solo_memory.specs.declared.lane_mem.Stopped.{Stopped}
use Rattle.pm_objects.specs.Pool.{block_lines}
use Rattle.pm_objects.specs.declared.pool.PoolView.{PoolView}
use Rattle.solo_view.specs.Counts.{IsAtStop}
use Rattle.solo_view.specs.Steps.{Step}
use Rattle.solo_view.specs.View.{View}
use Rattle.solo_view.specs.Views.{after_all}
use Rattle.solo_world.specs.Opening.{Opening}
use Rattle.solo_fresh.specs.Making.{makes_run, page_in}
use Rattle.solo_blocks.specs.AnyBlocks.{HasNoRoom}
use Rattle.solo_blocks.specs.declared.making.NoBlock.TheVariants as no_block
use Rattle.solo_alloc.specs.NewObjects.{CanMakeObject, GivesNoObject, HasStoppedFilling, fills_block}
use Rattle.solo_alloc.proofs.Fitting.{IsClass, class_fits}
use Rattle.solo_alloc.proofs.SomeRoom.{room_then, room_there, room_view, searched_then}
use Rattle.solo_crash.specs.Alone.{WorksAlone}
use Rattle.solo_crash.specs.Leading.{Leads}
use Rattle.solo_epoch.proofs.HeldApart.{AllFound}
use Rattle.solo_transaction.proofs.MadeBySteps.{IsWithin, filling_makes, run_makes}
use Rattle.solo_transaction.proofs.MakingSteps.{makes_more}
use Rattle.solo_transaction.specs.MakingSteps.{MakesBy, StopsMaking}

-- the lane came to its stop as it made a run for a block of the class
record StopsInRun (m : Solo) (v : View) (class : Class) (stop : Stopped) : Type 0 where
  view : View
  seen : Sees m view
  gives : HasNoRoom (λ u. u ≡ view) v class (no_block.Stopped stop)
  makes : MakesBy v view 2
  at_stop : IsAtStop view

-- what is seen of a memory made no more counted calls than up to its stop number
seen_within : (m : Solo) (v : View) → Sees m v → IsWithin v
seen_within m v seen = subst (λ (stop : Option ℕ). ForSome stop (λ s. v.calls ≤ s)) (sym seen.stop) seen.within

-- the stop was at this view alone
stops_there : (at : View → Type 0) (v : View) (steps : List Step) (stops : Stops at v steps) → Stops (λ u. u ≡ after_all v (take stops.made steps)) v steps
stops_there at v steps stops = record { made = stops.made; fewer = stops.fewer; seen = refl; stopped = stops.stopped; due = stops.due }

leads_nowhere : (v : View) → Leads v [] v
unfolding Leads
leads_nowhere v = refl

module _ (o : Opening) (header : Header) (pool : PoolView) (start v : View) (steps : List Step) (works : WorksAlone o header pool start steps v) (shape : Shape) (can : CanMakeObject v shape) (all : AllFound v.locks) (m : Solo) where
  stops_in_run : (class : Class) (stop : Stopped) → IsClass class → HasNoRoom (Sees m) v class (no_block.Stopped stop) → StopsInRun m v class stop
  stops_in_run (Lines lines) stop is (full, run) =
      let z : View = run.made.view in
      let making : List Step = makes_run z.lanes (page_in z.lanes run.zone run.chunk) lines z in
      let stops : Stops (Sees m) z making = run.made.there in
      let y : View = after_all z (take stops.made making) in
      let then : View → Type 0 = λ u. Stops (Sees m) u (makes_run u.lanes (page_in u.lanes run.zone run.chunk) lines u) in
      record {
        view = y;
        seen = stops.seen;
        gives = (
          full,
          record {
            zone = run.zone;
            chunk = run.chunk;
            in_zone = run.in_zone;
            least = run.least;
            made = searched_then then v (λ u. Stops (λ end. end ≡ y) u (makes_run u.lanes (page_in u.lanes run.zone run.chunk) lines u)) then _ _ run.made (stops_there (Sees m) z making stops);
          },
        );
        makes = run_makes o header pool start v steps works shape can all run.zone run.chunk lines run.in_zone is.lines run.least then _ run.made stops.made y [] (leads_nowhere y) (seen_within m y stops.seen);
        at_stop = stops.stopped;
      }
  stops_in_run (Chunks count) stop is none = absurd none

  stops_filling : (size kind : ℕ) (stop : Stopped) (block : Block) → HasStoppedFilling (Sees m) v size kind block → StopsMaking m v size kind
  stops_filling size kind stop block has =
      let then : View → Type 0 = λ u. Stops (Sees m) u (fills_block block kind size u) in
      let x : View = room_view then v (class_of size) block has in
      let filling : List Step = fills_block block kind size x in
      let stops : Stops (Sees m) x filling = room_there then v (class_of size) block has in
      let y : View = after_all x (take stops.made filling) in
      record {
        stop = stop;
        view = y;
        seen = stops.seen;
        gives = inr (block, room_then then v (λ u. Stops (λ end. end ≡ y) u (fills_block block kind size u)) (class_of size) block has (stops_there (Sees m) x filling stops));
        makes = filling_makes o header pool start v steps works shape can all then size kind block has stops.made (seen_within m y stops.seen);
        at_stop = stops.stopped;
      }

  pub stops_making : (size kind : ℕ) (stop : Stopped) → GivesNoObject (Sees m) v size kind (no_block.Stopped stop) → StopsMaking m v size kind
  stops_making size kind stop gives = ⊎_elim
      (λ (none : HasNoRoom (Sees m) v (class_of size) (no_block.Stopped stop)).
      let t : StopsInRun m v (class_of size) stop = stops_in_run (class_of size) stop (class_fits size) none in
      record { stop = stop; view = t.view; seen = t.seen; gives = inl t.gives; makes = makes_more v t.view 2 (8 * block_lines (class_of size) + 2) (omega arith) t.makes; at_stop = t.at_stop })
      (λ (filling : (block : Block) × HasStoppedFilling (Sees m) v size kind block). stops_filling size kind stop filling.0 filling.1)
      gives
