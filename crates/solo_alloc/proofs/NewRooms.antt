-- The first block of a new run has room for an object.
use Rattle.std.proofs.Common.{◌≡◌, ◌⊎◌, inl, inr, ⊎_elim, ℕ, ◌+◌, ◌*◌, ◌/◌, ◌<◌, ◌≤◌, true, false, [], ◌∷◌, slice_index, Bool, refl, sym, ap, ◌∙◌, subst, arith}
use Rattle.std.specs.List.{list_any}
use Rattle.std.proofs.lemmas.Bool.{false≢true, or_left, or_right}
use Rattle.std.proofs.lemmas.List.Folds.{list_any-append}
use Rattle.pm_image.specs.declared.block.Block.{Block}
use Rattle.pm_image.proofs.Rooms.{run_fits}
use Rattle.pm_layout.specs.Sizes.{blocks_of}
use Rattle.pm_layout.specs.declared.shape.Shape.{Shape}
use Rattle.solo_view.specs.Blocks.{chunk_of, covers, describes, descriptor_word}
use Rattle.solo_view.specs.Held.{is_reserved}
use Rattle.solo_view.specs.View.{Taken, View}
use Rattle.solo_world.proofs.HeapWords.{page_in_chunk}
use Rattle.solo_world.specs.Opening.{IsChunk}
use Rattle.solo_runs.proofs.Rows.{has_lines}
use Rattle.solo_chunks.specs.Chunks.{AreFree, HasGot, chunk_block, taken_chunks}
use Rattle.solo_fresh.specs.Filled.{HasWholePool}
use Rattle.solo_fresh.specs.Made.{CanMakeRun, IsRunMade, first_block as new_block, touches, without_chunk}
use Rattle.solo_fresh.specs.Making.{page_in, run_at}
use Rattle.solo_blocks.proofs.Onward.{another}
use Rattle.solo_blocks.proofs.Taking.{can, least_is_free}
use Rattle.solo_blocks.specs.NewRuns.{HasNewRun, IsUnused, MayMakeRun, with_run}
use Rattle.solo_alloc.specs.NewObjects.{ArePictured, IsOfNewRun}
use Rattle.solo_alloc.proofs.Pictures.{pictured_made, pictured_still}
use Rattle.solo_alloc.proofs.Unreserved.{block_number, reserved_by}
use Rattle.solo_view.specs.Views.{has_chunk, reserves}
use Rattle.solo_alloc.proofs.MadePool.{made_pool}
use Rattle.solo_alloc.proofs.Rooms.{IsRoom, plain_word}
use Rattle.solo_alloc.proofs.RoomsInRuns.{block_covers, on_page}
use Rattle.solo_alloc.proofs.RoomsOfChunks.{pool_of_chunks}
use Rattle.solo_alloc.proofs.StillWhole.{beside_still, words_still}

module _ (v : View) (shape : Shape) (may : MayMakeRun v shape) (pool : HasWholePool v) (pictured : ArePictured v) (at : View → Type 0) (lines : ℕ) (block : Block) (class : 0 < blocks_of lines) (run : HasNewRun at v lines block) where
  abbrev zone : ℕ
  zone = run.zone

  abbrev chunk : ℕ
  chunk = run.chunk

  abbrev w : View
  w = run.made.view

  abbrev page : ℕ
  page = page_in w.lanes zone chunk

  abbrev u : View
  u = with_run zone chunk lines w

  made : IsRunMade w page lines u
  made = run.made.holds.0

  low : chunk < 64
  low = run.in_zone

  abbrev whole : Block
  whole = chunk_block v.lanes zone chunk 1

  free : AreFree v 1 zone chunk
  free = least_is_free v zone chunk low run.least

  -- the chunk, as it was got
  got : HasGot (λ z. at (with_run zone chunk lines z)) v 1 whole
  got = record {
    zone = zone;
    first = chunk;
    in_zones = free.in_zones;
    in_zone = free.in_zone;
    is_block = refl;
    searched = record {
      view = w;
      steps = run.made.steps;
      searches = run.made.searches;
      kept = run.made.kept;
      there = run.made.there;
      reserved = run.made.reserved;
      zones = run.made.zones;
      holds = tt;
    };
  }

  lanes_same : w.lanes ≡ v.lanes
  lanes_same = ap (λ (z : View). z.lanes) run.made.kept.same

  lanes_made : u.lanes ≡ w.lanes
  lanes_made = ap (λ (z : View). z.lanes) made.same

  words_same : w.words ≡ v.words
  unfolding got
  words_same = words_still v shape may (λ z. at (with_run zone chunk lines z)) (taken_chunks zone chunk 1 ∷ []) _ got.searched

  beside_here : (p : ℕ → Bool) → touches p v.changes ≡ false → touches p w.changes ≡ false
  unfolding got
  beside_here = beside_still v shape may (λ z. at (with_run zone chunk lines z)) (taken_chunks zone chunk 1 ∷ []) _ got.searched

  can_make : CanMakeRun w page lines
  unfolding got
  can_make = subst (λ n. CanMakeRun w (page_in n zone chunk) lines) (sym lanes_same) (can v shape may lines class (λ z. at (with_run zone chunk lines z)) whole got run.least)

  pool_then : HasWholePool w
  unfolding got
  pool_then = pool_of_chunks v shape may pool pictured (λ z. at (with_run zone chunk lines z)) 1 whole (omega arith) got run.least

  pictured_then : ArePictured w
  unfolding got
  pictured_then = pictured_still v shape may pictured (λ z. at (with_run zone chunk lines z)) (taken_chunks zone chunk 1 ∷ []) _ got.searched pool_then

  pictured_now : ArePictured u
  pictured_now = pictured_made w u page lines pictured_then pool_then can_make made run.made.holds.1

  pool_now : HasWholePool u
  pool_now = made_pool w u page lines pool_then can_make made

  is_chunk_here : IsChunk w.lanes page
  is_chunk_here = page_in_chunk w.lanes zone chunk low

  place_is : block.place ≡ 4096 * page + 64 * (1 + lines * 0)
  place_is =
      let place = ap (λ (b : Block). b.place) run.is_block in
      let lanes = lanes_same in
      omega (arith, place, lanes)

  lines_are : block.lines ≡ lines
  lines_are = ap (λ (b : Block). b.lines) run.is_block

  described : slice_index u.words (descriptor_word w.lanes page) / 256 ≡ lines
  described = let is = made.described in omega (arith, is)

  own_first : (q : ℕ) → 8 * (block.place / 64) ≤ q → q < 8 * (block.place / 64 + block.lines) → (is_reserved u q ≡ true) × (describes u.lanes q ≡ false)
  own_first q from to =
      let covered = block_covers w.lanes page lines 0 q u.words block.place block.lines class place_is lines_are described from to in
      let here = on_page w.lanes page lines 0 q u.words block.place block.lines class place_is lines_are described from to in
      let it = λ (t : Taken). covers w.lanes u.words t.at t.bits q in (
        (λ i. list_any (λ (t : Taken). covers (lanes_made i) u.words t.at t.bits q) (made.reserved i))
            ∙ (list_any-append it (without_chunk w page) (new_block page ∷ []) ∙ or_right (list_any it (without_chunk w page)) (list_any it (new_block page ∷ [])) (or_left (covers w.lanes u.words (run_at page) 1 q) false covered)),
        ap (λ n. describes n q) lanes_made ∙ plain_word w.lanes q (subst (λ p. 1 ≤ chunk_of w.lanes p) (sym here) is_chunk_here.1),
      )

  unused : IsUnused v (page_in v.lanes zone chunk)
  unused = may.unused zone chunk free.in_zones low (free.clear chunk (omega arith) (omega arith))

  page_is : block.place / 4096 ≡ page_in v.lanes zone chunk
  page_is = let place = ap (λ (b : Block). b.place) run.is_block in omega (arith, place)

  not_reserved : (q : ℕ) → 8 * (block.place / 64) ≤ q → q < 8 * (block.place / 64 + block.lines) → is_reserved v q ≡ true → ⊥
  not_reserved q from to has =
      let there : ℕ = page_in v.lanes zone chunk in
      let here : q / 512 ≡ there = on_page w.lanes page lines 0 q u.words block.place block.lines class place_is lines_are described from to ∙ ap (λ n. page_in n zone chunk) lanes_same in
      let plain : describes v.lanes q ≡ false = plain_word v.lanes q (subst (λ p. 1 ≤ chunk_of v.lanes p) (sym here) (page_in_chunk v.lanes zone chunk low).1) in
      ⊎_elim
      (λ (by_chunk : has_chunk v there ≡ true). false≢true (sym unused.no_chunk ∙ by_chunk))
      (λ (by_block : reserves v (run_at there) (block_number v pool there q) ≡ true). false≢true (sym (unused.no_block (block_number v pool there q)) ∙ by_block))
      (reserved_by v pool there q here plain has)

  page_then : page ≡ block.place / 4096
  page_then = ap (λ n. page_in n zone chunk) lanes_same ∙ sym page_is

  of_run : (q : ℕ) → (q ≡ descriptor_word w.lanes page) ⊎ (q ≡ 512 * page) → IsOfNewRun v block q
  of_run q tells = record {
    small = (let fits = run_fits lines 0 class in let same = lines_are in omega (arith, fits, same));
    undescribed = ap (λ p. slice_index v.words (descriptor_word v.lanes p)) page_is ∙ unused.undescribed;
    tells = subst (λ p. (q ≡ descriptor_word v.lanes p) ⊎ (q ≡ 512 * p)) page_then (subst (λ n. (q ≡ descriptor_word n page) ⊎ (q ≡ 512 * page)) lanes_same tells);
  }

  pub new_room : IsRoom v u shape block
  new_room = record {
    may = another v shape may at lines block run;
    pool = pool_now;
    pictured = pictured_now;
    fresh = not_reserved;
    some = (let has = has_lines lines 0 class in let same = lines_are in omega (arith, has, same));
    own = own_first;
    beside = λ p none. made.beside p (beside_here p none);
    others = λ q no. made.others q (λ same. no (of_run q (inl same))) (λ same. no (of_run q (inr same))) ∙ ap (λ ws. slice_index ws q) words_same;
  }
