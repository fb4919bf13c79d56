-- The steps by which a lane reserved a block for an object, and made it one, lead on and draw no number: so a lane that worked alone works alone behind them.
use Rattle.std.proofs.Common.{◌≡◌, inl, inr, ℕ, ◌/◌, ◌<◌, List, ◌++◌, refl, sym, ap, ◌∙◌, subst}
use Rattle.pm_header.specs.declared.header.Header.{Header}
use Rattle.pm_image.specs.declared.block.Block.{Block}
use Rattle.pm_layout.specs.Sizes.{blocks_of, class_of}
use Rattle.pm_layout.specs.declared.class.Class.{Class}
use Rattle.pm_layout.specs.declared.class.Class.TheVariants.{Chunks, Lines}
use Rattle.pm_layout.specs.declared.shape.Shape.{Shape}
use Rattle.solo_memory.specs.Solo.{AreNumbered}
use Rattle.pm_objects.specs.declared.pool.PoolView.{PoolView}
use Rattle.solo_view.specs.Steps.{Step}
use Rattle.solo_view.specs.View.{View}
use Rattle.solo_view.specs.Views.{after_all}
use Rattle.solo_world.specs.Opening.{Opening}
use Rattle.solo_world.specs.Sequences.{Ready}
use Rattle.solo_chunks.specs.Chunks.{AreFree, HasGot, chunk_block}
use Rattle.solo_fresh.specs.Filled.{IsFilled}
use Rattle.solo_fresh.specs.Making.{makes_run, page_in}
use Rattle.solo_blocks.proofs.Taking.{lawful as lawfully_made, least_is_free}
use Rattle.solo_blocks.specs.AnyBlocks.{HasRoom}
use Rattle.solo_blocks.specs.NewRuns.{HasNewRun, with_run}
use Rattle.solo_alloc.specs.NewObjects.{CanMakeObject, fills_block}
use Rattle.solo_alloc.proofs.FilledRooms.{filled}
use Rattle.solo_alloc.proofs.Fitting.{IsClass, class_fits}
use Rattle.solo_alloc.proofs.Rooms.{IsRoom}
use Rattle.solo_alloc.proofs.SomeRoom.{has_room, room_there, room_view}
use Rattle.solo_crash.specs.Alone.{WorksAlone}
use Rattle.solo_crash.specs.Leading.{Leads}
use Rattle.solo_crash.proofs.Leading.{leads_then}
use Rattle.solo_epoch.specs.Allocating.{MakesObject}
use Rattle.solo_epoch.proofs.QuietSteps.{fills_lead, run_leads, search_leads}

-- ---- a block was reserved

module _ (v : View) (shape : Shape) (can : CanMakeObject v shape) (at : View → Type 0) where
  -- in a new run
  module _ (lines : ℕ) (block : Block) (class : 0 < blocks_of lines) (run : HasNewRun at v lines block) where
    abbrev w : View
    w = run.made.view

    abbrev then : View → Type 0
    then z = at (with_run run.zone run.chunk lines z)

    free : AreFree v 1 run.zone run.chunk
    free = least_is_free v run.zone run.chunk run.in_zone run.least

    -- the chunk, as it was got
    got : HasGot then v 1 (chunk_block v.lanes run.zone run.chunk 1)
    got = record {
      zone = run.zone;
      first = run.chunk;
      in_zones = free.in_zones;
      in_zone = free.in_zone;
      is_block = refl;
      searched = record {
        view = w;
        steps = run.made.steps;
        searches = run.made.searches;
        kept = run.made.kept;
        there = run.made.there;
        reserved = run.made.reserved;
        zones = run.made.zones;
        holds = tt;
      };
    }

    new_run_leads : Leads w (makes_run w.lanes (page_in w.lanes run.zone run.chunk) lines w) (with_run run.zone run.chunk lines w)
    unfolding got
    new_run_leads = run_leads w w.lanes (page_in w.lanes run.zone run.chunk) lines (lawfully_made v shape can.run lines class then (chunk_block v.lanes run.zone run.chunk 1) got run.least).0

  pub room_leads : (class : Class) (block : Block) → IsClass class → (room : HasRoom at v class block) → (more : List Step) × Leads v more (room_view at v class block room)
  unfolding room_view
  room_leads (Lines lines) block is (inl found) = (found.0.searched.steps, search_leads v found.0.searched.view found.0.searched.steps found.0.searched.searches)
  room_leads (Lines lines) block is (inr new) =
      let w : View = new.1.made.view in
      let making : List Step = makes_run w.lanes (page_in w.lanes new.1.zone new.1.chunk) lines w in (
        new.1.made.steps ++ making,
        leads_then v w (with_run new.1.zone new.1.chunk lines w) new.1.made.steps making (search_leads v w new.1.made.steps new.1.made.searches) (new_run_leads lines block is.lines new.1),
      )
  room_leads (Chunks count) block is room = (room.0.searched.steps, search_leads v room.0.searched.view room.0.searched.steps room.0.searched.searches)

  pub room_entries : (class : Class) (block : Block) → (room : HasRoom at v class block) → (room_view at v class block room).entries ≡ v.entries
  unfolding room_view
  room_entries (Lines lines) block (inl found) = ap (λ (z : View). z.entries) found.0.searched.kept.same
  room_entries (Lines lines) block (inr new) = ap (λ (z : View). z.entries) new.1.made.holds.0.same ∙ ap (λ (z : View). z.entries) new.1.made.kept.same
  room_entries (Chunks count) block room = ap (λ (z : View). z.entries) room.0.searched.kept.same

-- ---- and made an object

module _ (v : View) (shape : Shape) (can : CanMakeObject v shape) (u : View) (size kind : ℕ) (block : Block) (makes : MakesObject v u size kind block) where
  abbrev at : View → Type 0
  at z = after_all z (fills_block block kind size z) ≡ u

  abbrev pub room : View
  room = room_view at v (class_of size) block makes.made

  there : after_all room (fills_block block kind size room) ≡ u
  there = room_there at v (class_of size) block makes.made

  pub is_room : IsRoom v room shape block
  is_room = has_room at v shape can.run can.pool can.pictured (class_of size) block (class_fits size) makes.made

  both : Ready room (fills_block block kind size room) × IsFilled room (block.place / 64) block.lines kind size (after_all room (fills_block block kind size room))
  both = filled room shape (block.place / 64) block.lines kind size is_room.may is_room.pool is_room.some is_room.own

  pub is_filled : IsFilled room (block.place / 64) block.lines kind size u
  is_filled = subst (IsFilled room (block.place / 64) block.lines kind size) there both.1

  steps_made : (more : List Step) × Leads v more u
  steps_made =
      let first = room_leads v shape can at (class_of size) block (class_fits size) makes.made in
      let filling : List Step = fills_block block kind size room in
      let last : Leads room filling u = subst (Leads room filling) there (fills_lead room (block.place / 64) block.lines kind size both.0) in
      (first.0 ++ filling, leads_then v room u first.0 filling first.1 last)

  entries_made : u.entries ≡ v.entries
  entries_made = is_filled.call.entries ∙ room_entries v shape can at (class_of size) block makes.made

  pub works_made : (o : Opening) (header : Header) (pool : PoolView) (start : View) (steps : List Step) → WorksAlone o header pool start steps v → (more : List Step) × WorksAlone o header pool start (steps ++ more) u
  works_made o header pool start steps works = (
    steps_made.0,
    record {
      begins = works.begins;
      leads = leads_then start v u steps steps_made.0 works.leads steps_made.1;
      numbered = subst (AreNumbered 1) (sym entries_made) works.numbered;
      within = makes.within;
    },
  )
