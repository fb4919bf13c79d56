-- The view in which the lane has room for an object, and what is made from there.
use Rattle.std.proofs.Common.{◌≡◌, ap, sym, inl, inr, List}
use Rattle.pm_image.specs.declared.block.Block.{Block}
use Rattle.pm_layout.specs.declared.class.Class.{Class}
use Rattle.pm_layout.specs.declared.class.Class.TheVariants.{Chunks, Lines}
use Rattle.pm_layout.specs.declared.shape.Shape.{Shape}
use Rattle.pm_objects.specs.Pool.{block_lines}
use Rattle.solo_view.specs.View.{Taken, View}
use Rattle.solo_world.specs.Searches.{HasSearched}
use Rattle.solo_fresh.specs.Filled.{HasWholePool}
use Rattle.solo_blocks.specs.AnyBlocks.{HasRoom}
use Rattle.solo_blocks.specs.NewRuns.{MayMakeRun, with_run}
use Rattle.solo_alloc.specs.NewObjects.{ArePictured}
use Rattle.solo_alloc.proofs.Fitting.{IsClass}
use Rattle.solo_alloc.proofs.NewRooms.{new_room}
use Rattle.solo_alloc.proofs.Rooms.{IsRoom}
use Rattle.solo_alloc.proofs.RoomsInRuns.{room_in_run}
use Rattle.solo_alloc.proofs.RoomsOfChunks.{room_of_chunks}

module _ (at : View → Type 0) (v : View) where
  unfoldable pub room_view : (class : Class) (block : Block) → HasRoom at v class block → View
  room_view (Lines lines) block (inl found) = found.0.searched.view
  room_view (Lines lines) block (inr new) = with_run new.1.zone new.1.chunk lines new.1.made.view
  room_view (Chunks count) block room = room.0.searched.view

  pub room_there : (class : Class) (block : Block) (room : HasRoom at v class block) → at (room_view class block room)
  unfolding room_view
  room_there (Lines lines) block (inl found) = found.0.searched.there
  room_there (Lines lines) block (inr new) = new.1.made.there
  room_there (Chunks count) block room = room.0.searched.there

  -- the search is the same, whatever holds of the memory behind it
  pub searched_then : (new : View → Type 0) (at : View → Type 0) (more : List Taken) (Q : View → Type 0) (searched : HasSearched at v more Q) → new searched.view → HasSearched new v more Q
  searched_then new at more Q searched there = record {
    view = searched.view;
    steps = searched.steps;
    searches = searched.searches;
    kept = searched.kept;
    there = there;
    reserved = searched.reserved;
    zones = searched.zones;
    holds = searched.holds;
  }

  pub room_then : (new : View → Type 0) (class : Class) (block : Block) (room : HasRoom at v class block) → new (room_view class block room) → HasRoom new v class block
  unfolding room_view
  room_then new (Lines lines) block (inl found) there = inl (
    record {
      chunk = found.0.chunk;
      index = found.0.index;
      in_zones = found.0.in_zones;
      in_run = found.0.in_run;
      is_block = found.0.is_block;
      searched = searched_then new at _ _ found.0.searched there;
    },
    found.1,
  )
  room_then new (Lines lines) block (inr made) there = inr (
    made.0,
    record {
      zone = made.1.zone;
      chunk = made.1.chunk;
      in_zone = made.1.in_zone;
      is_block = made.1.is_block;
      least = made.1.least;
      made = searched_then (λ z. new (with_run made.1.zone made.1.chunk lines z)) (λ z. at (with_run made.1.zone made.1.chunk lines z)) _ _ made.1.made there;
    },
  )
  room_then new (Chunks count) block room there = (
    record {
      zone = room.0.zone;
      first = room.0.first;
      in_zones = room.0.in_zones;
      in_zone = room.0.in_zone;
      is_block = room.0.is_block;
      searched = searched_then new at _ _ room.0.searched there;
    },
    room.1,
  )

  pub has_room : (shape : Shape) → MayMakeRun v shape → HasWholePool v → ArePictured v → (class : Class) (block : Block) → IsClass class → (room : HasRoom at v class block) → IsRoom v (room_view class block room) shape block
  unfolding room_view
  has_room shape may pool pictured (Lines lines) block is (inl found) = room_in_run v shape may pool pictured at lines block found.0 found.1
  has_room shape may pool pictured (Lines lines) block is (inr new) = new_room v shape may pool pictured at lines block is.lines new.1
  has_room shape may pool pictured (Chunks count) block is room = room_of_chunks v shape may pool pictured at count block is.chunks room.0 room.1

  -- the block has as many lines as its class
  pub room_lines : (class : Class) (block : Block) → HasRoom at v class block → block_lines class ≡ block.lines
  room_lines (Lines lines) block (inl found) = sym (ap (λ (b : Block). b.lines) found.1.is_block)
  room_lines (Lines lines) block (inr new) = sym (ap (λ (b : Block). b.lines) new.1.is_block)
  room_lines (Chunks count) block room = sym (ap (λ (b : Block). b.lines) room.0.is_block)
