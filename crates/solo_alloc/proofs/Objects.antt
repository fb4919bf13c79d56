-- What a lane makes of the block that it reserved, and what it may do behind that.
use Rattle.std.proofs.Common.{◌≡◌, ℕ, ◌+◌, ◌*◌, ◌/◌, [], Result, Ok, Err, IsErrAnd, sym, ◌∙◌, subst, arith, inl}
use Rattle.std.proofs.lemmas.Bool.{false_from_ne_true, false≢true}
use Rattle.std.proofs.lemmas.List.Elements.{All-nil}
use Rattle.pm_image.specs.declared.block.Block.{Block}
use Rattle.pm_layout.specs.Sizes.{class_of}
use Rattle.pm_layout.specs.declared.class.Class.{Class}
use Rattle.pm_layout.specs.declared.class.Class.TheVariants.{Chunks, Lines}
use Rattle.pm_layout.specs.declared.shape.Shape.{Shape}
use Rattle.solo_memory.specs.Runs.{Stops}
use Rattle.solo_memory.specs.declared.lane_mem.Stopped.{Stopped}
use Rattle.pm_objects.specs.declared.refusal.Refusal.{Refusal}
use Rattle.pm_objects.specs.declared.refusal.Refusal.TheVariants as refusal
use Rattle.solo_view.specs.Held.{is_reserved}
use Rattle.solo_view.specs.View.{Taken, View}
use Rattle.solo_view.specs.Views.{after_all}
use Rattle.solo_world.specs.Heap.{IsOcc}
use Rattle.solo_world.specs.Searches.{HasSearched}
use Rattle.solo_world.specs.Sequences.{IsReady, Ready, Runs}
use Rattle.solo_fresh.specs.Filled.{HasWholePool, IsFilled}
use Rattle.solo_blocks.proofs.StillMay.{may_still}
use Rattle.solo_blocks.specs.declared.making.NoBlock.{NoBlock}
use Rattle.solo_blocks.specs.declared.making.NoBlock.TheVariants as no_block
use Rattle.solo_blocks.specs.AnyBlocks.{HasNoRoom, HasRoom}
use Rattle.solo_alloc.specs.NewObjects.{CanMakeObject, HasNewObject, HasObject, HasStoppedFilling, MayMakeAnother, fills_block}
use Rattle.solo_alloc.proofs.Fitting.{class_fits}
use Rattle.solo_alloc.proofs.FilledRooms.{filled, filled_may, filled_pool}
use Rattle.solo_alloc.proofs.Pictures.{pictured_filled, pictured_still}
use Rattle.solo_alloc.proofs.Rooms.{IsRoom}
use Rattle.solo_alloc.proofs.SomeRoom.{has_room, room_lines, room_then, room_there, room_view}
use Rattle.solo_alloc.proofs.StillWhole.{pool_still}

module _ (v : View) (shape : Shape) (can : CanMakeObject v shape) (at : View → Type 0) (size kind : ℕ) (block : Block) (room : HasRoom at v (class_of size) block) where
  abbrev x : View
  x = room_view at v (class_of size) block room

  there : at x
  there = room_there at v (class_of size) block room

  is : IsRoom v x shape block
  is = has_room at v shape can.run can.pool can.pictured (class_of size) block (class_fits size) room

  abbrev y : View
  y = after_all x (fills_block block kind size x)

  both : Ready x (fills_block block kind size x) × IsFilled x (block.place / 64) block.lines kind size y
  both = filled x shape (block.place / 64) block.lines kind size is.may is.pool is.some is.own

  pub is_ready : IsReady at (fills_block block kind size)
  unfolding IsReady
  is_ready = (x, (there, both.0))

  module _ (new : View → Type 0) where
    pub stops : (stopped : Stopped) → Runs {T = Unit {0}} at new (fills_block block kind size) (Err stopped) → HasStoppedFilling new v size kind block
    unfolding Runs
    stops stopped ran = room_then at v (λ w. Stops new w (fills_block block kind size w)) (class_of size) block room (ran x there both.0)

    module _ (ran : Runs {T = Unit {0}} at new (fills_block block kind size) (Ok tt)) where
      there_then : new y
      unfolding Runs
      there_then = ran x there both.0

      pub has_new : HasNewObject new v size kind block
      has_new = room_then at v (λ w. new (after_all w (fills_block block kind size w))) (class_of size) block room there_then

      can_next : CanMakeObject y shape
      can_next = record {
        run = filled_may x shape (block.place / 64) block.lines kind size is.may is.pool is.some is.own y both.1;
        pool = filled_pool x shape (block.place / 64) block.lines kind size is.may is.pool is.some is.own y both.1;
        pictured = pictured_filled x (block.place / 64) block.lines kind size y both.1 is.pictured;
      }

      pub has_object : HasObject new v shape size kind block
      has_object = record {
        view = y;
        there = there_then;
        of_size = room_lines at v (class_of size) block room;
        words = both.1.there;
        fresh = λ place low. false_from_ne_true (is_reserved v (8 * (block.place / 64) + place)) (is.fresh (8 * (block.place / 64) + place) (omega arith) (omega (arith, low)));
        own = λ place low. both.1.reserved (8 * (block.place / 64) + place) ∙ (is.own (8 * (block.place / 64) + place) (omega arith) (omega (arith, low))).0;
        known = both.1.knows;
        persistent = λ line among. both.1.drained line (inl among);
        others = λ u beside no. both.1.others u beside ∙ is.others u no;
        beside = λ p none. both.1.beside p (is.beside p none);
        another = can_next;
      }

      pub may_next : (w : View) × (new w × CanMakeObject w shape)
      may_next = (y, (there_then, can_next))

-- ---- where none was reserved

module _ (v : View) (shape : Shape) (can : CanMakeObject v shape) (at : View → Type 0) where
  pool_now : (Q : View → Type 0) (searched : HasSearched at v [] Q) → HasWholePool searched.view
  pool_now Q searched = pool_still v shape can.run at [] Q searched can.pool (All-nil (λ (t : Taken). IsOcc v.lanes v.zones t.at)) (λ u start plain has. absurd (false≢true has))

  searched_none : (Q : View → Type 0) → HasSearched at v [] Q → (w : View) × (at w × CanMakeObject w shape)
  searched_none Q searched = (
    searched.view,
    (
      searched.there,
      record {
        run = may_still v shape can.run at [] Q searched;
        pool = pool_now Q searched;
        pictured = pictured_still v shape can.run can.pictured at [] Q searched (pool_now Q searched);
      },
    ),
  )

  pub none_next : (class : Class) (why : NoBlock) → HasNoRoom at v class why → MayMakeAnother at shape (Err why)
  none_next (Lines lines) (no_block.Refused r) none = refused r none where
    refused : (r : Refusal) → HasNoRoom at v (Lines lines) (no_block.Refused r) → MayMakeAnother at shape (Err (no_block.Refused r))
    refused refusal.NoSpace none = searched_none _ none.1.searched
    refused r none = absurd none.1
  none_next (Chunks count) (no_block.Refused r) none = refused r none where
    refused : (r : Refusal) → HasNoRoom at v (Chunks count) (no_block.Refused r) → MayMakeAnother at shape (Err (no_block.Refused r))
    refused refusal.NoSpace none = searched_none _ none.0
    refused r none = absurd none
  none_next class (no_block.Stopped stopped) none = tt

  pub next_of : (class : Class) (result : Result Block NoBlock) (why : NoBlock) → IsErrAnd result (λ e. e ≡ why) → HasNoRoom at v class why → MayMakeAnother at shape result
  next_of class (Ok block) why is none = absurd is
  next_of class (Err e) why is none = none_next class e (subst (HasNoRoom at v class) (sym is) none)
