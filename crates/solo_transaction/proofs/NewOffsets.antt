-- Where a new object stands: behind its block's first line, in a page of the pool.
use Rattle.std.proofs.Common.{◌≡◌, inl, inr, ℕ, ◌+◌, ◌*◌, ◌≤◌, ◌<◌, ◌^◌, ap, arith}
use Rattle.pm_image.specs.declared.block.Block.{Block}
use Rattle.pm_image.proofs.Rooms.{run_fits}
use Rattle.pm_layout.specs.Sizes.{class_of}
use Rattle.pm_layout.specs.declared.class.Class.{Class}
use Rattle.pm_layout.specs.declared.class.Class.TheVariants.{Chunks, Lines}
use Rattle.solo_runs.proofs.Rows.{has_lines}
use Rattle.solo_view.specs.View.{View}
use Rattle.solo_alloc.proofs.Fitting.{IsClass, class_fits}
use Rattle.solo_alloc.specs.NewObjects.{HasNewObject, fills_block}
use Rattle.solo_blocks.proofs.Taking.{least_is_free}
use Rattle.solo_blocks.specs.AnyBlocks.{HasRoom}
use Rattle.solo_made.specs.Made.{BlockLists, FitsPages, IsOffsetIn}
use Rattle.solo_view.specs.Views.{after_all}
use Rattle.solo_world.specs.Opening.{Opening}
use Rattle.solo_world.specs.declared.lane.Lane.{Lane}
use Rattle.solo_transaction.specs.Allocating.{MayAllocate, made_in_block}

module _ (at : View → Type 0) (v : View) where
  abbrev pages : ℕ
  pages = 1 + 2 * v.lanes + 65 * v.zones

  room_offset : (class : Class) (block : Block) → IsClass class → HasRoom at v class block → IsOffsetIn pages (block.place + 64)
  room_offset (Lines lines) block is (inl found) =
      let got = found.0 in
      let place = ap (λ (b : Block). b.place) got.is_block in
      let room = run_fits block.lines got.index got.in_run in
      let some = has_lines block.lines got.index got.in_run in
      let in_zones = got.in_zones in
      record { aligned = omega (arith, place); behind = omega arith; inside = omega (arith, place, room, some, in_zones) }
  room_offset (Lines lines) block is (inr new) =
      let run = new.1 in
      let place = ap (λ (b : Block). b.place) run.is_block in
      let free = least_is_free v run.zone run.chunk run.in_zone run.least in
      let in_zones = free.in_zones in
      let low = run.in_zone in
      record { aligned = omega (arith, place); behind = omega arith; inside = omega (arith, place, in_zones, low) }
  room_offset (Chunks count) block is room =
      let got = room.0 in
      let place = ap (λ (b : Block). b.place) got.is_block in
      let in_zones = got.in_zones in
      let within = got.in_zone in
      let some = is.chunks in
      record { aligned = omega (arith, place); behind = omega arith; inside = omega (arith, place, in_zones, within, some) }

-- it fits the pages of a set of lines that has a word for each
pub new_fits : (at : View → Type 0) (v : View) (size kind : ℕ) (block : Block) (pages : ℕ) → HasNewObject at v size kind block → size ≤ 262080 → pages ≡ 1 + 2 * v.lanes + 65 * v.zones
    → FitsPages pages (made_in_block block size kind)
new_fits at v size kind block pages has most same =
    let offset = room_offset (λ w. at (after_all w (fills_block block kind size w))) v (class_of size) block (class_fits size) has in
    let inside = offset.inside in
    record { place = record { aligned = offset.aligned; behind = offset.behind; inside = omega (arith, inside, same) }; most = most }

-- no place of the pool of a lane at work is near the last number
pub new_inside : {M : Type 0} (o : Opening) (at : M → View → Type 0) (lane : Lane M) (blocks : BlockLists) (v : View) → MayAllocate o at lane blocks v → (seen : View → Type 0) (size kind : ℕ) (block : Block)
    → HasNewObject seen v size kind block → block.place + 64 < 2 ^ 64
new_inside o at lane blocks v may seen size kind block has =
    let inside = (room_offset (λ w. seen (after_all w (fills_block block kind size w))) v (class_of size) block (class_fits size) has).inside in
    let work = may.works.work in
    let lanes = work.opening.lanes in
    let few = work.sound.most_lanes in
    let few_zones = work.zones in
    let long = work.sound.size in
    let same = work.opening.size in
    let own = may.can.pool.size in
    omega (arith, inside, lanes, few, few_zones, long, same, own)
