-- The steps by which a lane that works alone makes an object: a search, a run that is made where one is needed, and the block that is filled.
use Rattle.std.proofs.Common.{◌≡◌, inl, inr, ℕ, ◌+◌, ◌*◌, ◌/◌, ◌<◌, ◌≤◌, true, List, [], ◌∷◌, ◌++◌, length, take, refl, sym, ap, ◌∙◌, subst, arith}
use Rattle.std.specs.Option.{ForSome}
use Rattle.std.proofs.lemmas.List.{take_all}
use Rattle.pm_header.specs.declared.header.Header.{Header}
use Rattle.pm_image.specs.declared.block.Block.{Block}
use Rattle.pm_layout.specs.Sizes.{blocks_of, class_of}
use Rattle.pm_layout.specs.declared.class.Class.{Class}
use Rattle.pm_layout.specs.declared.class.Class.TheVariants.{Chunks, Lines}
use Rattle.pm_layout.specs.declared.shape.Shape.{Shape}
use Rattle.solo_memory.specs.Solo.{AreNumbered}
use Rattle.pm_objects.specs.Pool.{block_lines}
use Rattle.pm_objects.specs.declared.pool.PoolView.{PoolView}
use Rattle.solo_view.specs.Blocks.{bitmap_word, chunk_of, descriptor_word}
use Rattle.solo_view.specs.Held.{is_reserved}
use Rattle.solo_view.specs.Log.{Log}
use Rattle.solo_view.specs.Steps.{Step}
use Rattle.solo_view.specs.View.{Numbered, View}
use Rattle.solo_view.specs.Views.{after_all, has_chunk}
use Rattle.solo_world.specs.Opening.{IsChunk, Opening}
use Rattle.solo_world.specs.Searches.{HasSearched}
use Rattle.solo_world.specs.Sequences.{Ready}
use Rattle.solo_world.proofs.HeapWords.{descriptor_tells, page_in_chunk}
use Rattle.solo_world.proofs.Reserved.{chunk_word_here}
use Rattle.solo_chunks.specs.Chunks.{AreFree, AreLeastFree, HasGot, chunk_block, taken_chunks}
use Rattle.solo_fresh.proofs.MakingRuns.{chunk_reserved}
use Rattle.solo_fresh.specs.Filled.{IsFilled}
use Rattle.solo_fresh.specs.Made.{IsRunMade}
use Rattle.solo_fresh.specs.Making.{makes_run, page_in}
use Rattle.solo_blocks.proofs.Taking.{can as can_be_made, lawful as lawfully_made, least_is_free}
use Rattle.solo_blocks.specs.AnyBlocks.{HasRoom}
use Rattle.solo_blocks.specs.NewRuns.{with_run}
use Rattle.solo_alloc.specs.NewObjects.{CanMakeObject, HasNewObject, fills_block}
use Rattle.solo_alloc.proofs.FilledRooms.{filled}
use Rattle.solo_alloc.proofs.Fitting.{IsClass, class_fits}
use Rattle.solo_alloc.proofs.Rooms.{IsRoom}
use Rattle.solo_alloc.proofs.SomeRoom.{has_room, room_lines, room_there, room_view}
use Rattle.solo_crash.specs.Alone.{WorksAlone}
use Rattle.solo_crash.specs.Leading.{Leads}
use Rattle.solo_crash.proofs.AloneCourse.{Grows, grows_along}
use Rattle.solo_crash.proofs.Leading.{leads_then}
use Rattle.solo_epoch.proofs.HeldApart.{AllFound}
use Rattle.solo_lock.proofs.Drawless.{drawless}
use Rattle.solo_lock.proofs.Leading.{front_leads}
use Rattle.solo_tx.proofs.StepKinds.{Each}
use Rattle.solo_transaction.proofs.MakingKinds.{IsMaking, fill_stores, only_fills, only_makes_run, run_stores}
use Rattle.solo_transaction.proofs.MakingSteps.{front_makes, makes_more, makes_then, search_makes}
use Rattle.solo_transaction.proofs.ReservedApart.{lane_is, reserved_outside, reserved_unfound}
use Rattle.solo_transaction.specs.MakingSteps.{MakesBy, MakesByFew}

-- it made no more counted calls than up to its stop number
abbrev pub IsWithin : View → Type 0
IsWithin v = ForSome v.stop (λ stop. v.calls ≤ stop)

-- so it was at a view on the way
within_before : (v w : View) → v.calls ≤ w.calls → w.stop ≡ v.stop → IsWithin w → IsWithin v
within_before v w calls stop within s is = let most = within s (stop ∙ is) in omega (arith, calls, most)

-- steps that leave the lane with its entries lead on, as many of them as are made
pub first_leads : (v : View) (steps : List Step) (made : ℕ) → Ready v steps → (after_all v steps).entries ≡ v.entries → Leads v (take made steps) (after_all v (take made steps))
first_leads v steps made ready same = front_leads v steps made ready (drawless v steps (let e = ap (λ (es : List Numbered). length es) same in omega (arith, e)))

module _ (o : Opening) (header : Header) (pool : PoolView) (start v : View) (steps : List Step) (works : WorksAlone o header pool start steps v) (shape : Shape) (can : CanMakeObject v shape) (all : AllFound v.locks) where
  -- it works alone at a view on the way
  works_at : (x y : View) (n : ℕ) (makes : MakesBy v x n) (rest : List Step) → Leads x rest y → IsWithin y → WorksAlone o header pool start (steps ++ makes.steps) x
  works_at x y n makes rest leads within =
      let grows : Grows x y = grows_along x rest y leads in
      record {
        begins = works.begins;
        leads = leads_then start v x steps makes.steps works.leads makes.leads;
        numbered = subst (AreNumbered 1) (sym makes.entries) works.numbered;
        within = within_before x y grows.calls grows.stop within;
      }

  -- ---- a chunk that was reserved is made a run

  module _ (zone chunk lines : ℕ) (low : chunk < 64) (class : 0 < blocks_of lines) (least : AreLeastFree v 1 (chunk_block v.lanes zone chunk 1)) (then : View → Type 0) (Q : View → Type 0)
      (searched : HasSearched then v (taken_chunks zone chunk 1 ∷ []) Q) where
    abbrev w : View
    w = searched.view

    abbrev page : ℕ
    page = page_in w.lanes zone chunk

    abbrev pub making : List Step
    making = makes_run w.lanes page lines w

    free : AreFree v 1 zone chunk
    free = least_is_free v zone chunk low least

    abbrev got : HasGot then v 1 (chunk_block v.lanes zone chunk 1)
    got = record {
      zone = zone;
      first = chunk;
      in_zones = free.in_zones;
      in_zone = free.in_zone;
      is_block = refl;
      searched = record {
        view = w;
        steps = searched.steps;
        searches = searched.searches;
        kept = searched.kept;
        there = searched.there;
        reserved = searched.reserved;
        zones = searched.zones;
        holds = tt;
      };
    }

    lawful : Ready w making × IsRunMade w page lines (after_all w making)
    lawful = lawfully_made v shape can.run lines class then (chunk_block v.lanes zone chunk 1) got least

    chunk_leads : (made : ℕ) → Leads w (take made making) (after_all w (take made making))
    chunk_leads made = first_leads w making made lawful.0 (ap (λ (z : View). z.entries) lawful.1.same)

    has : has_chunk w page ≡ true
    has = ap (λ n. has_chunk w (page_in n zone chunk)) (ap (λ (z : View). z.lanes) searched.kept.same) ∙ (can_be_made v shape can.run lines class then (chunk_block v.lanes zone chunk 1) got least).reserved

    chunk_here : IsChunk w.lanes page
    chunk_here = page_in_chunk w.lanes zone chunk low

    descriptor_own : is_reserved w (descriptor_word w.lanes page) ≡ true
    descriptor_own = chunk_reserved w page (descriptor_word w.lanes page) chunk_here has (descriptor_tells w.lanes page chunk_here)

    bitmap_own : is_reserved w (bitmap_word page) ≡ true
    bitmap_own =
        let here : bitmap_word page / 512 ≡ page = omega arith in
        chunk_reserved w page (bitmap_word page) chunk_here has (chunk_word_here w.lanes (bitmap_word page) (subst (λ p. 1 ≤ chunk_of w.lanes p) (sym here) chunk_here.1) ∙ here)

    found_first : MakesBy v w 0
    found_first = search_makes v shape can all then _ Q searched

    module _ (made : ℕ) (y : View) (rest : List Step) (leads : Leads (after_all w (take made making)) rest y) (within : IsWithin y) where
      works_w : WorksAlone o header pool start (steps ++ found_first.steps) w
      works_w = works_at w y 0 found_first (take made making ++ rest) (leads_then w (after_all w (take made making)) y (take made making) rest (chunk_leads made) leads) within

      abbrev K : ℕ → Type 0
      K i = is_reserved w i ≡ true

      lane_w : w.lane ≡ 0
      lane_w = lane_is o header pool start w (steps ++ found_first.steps) works_w

      each : Each (IsMaking K) making
      each = only_makes_run K w.lanes page lines bitmap_own descriptor_own w lane_w

      pub run_makes : MakesBy v (after_all w (take made making)) 2
      run_makes =
          makes_then v w (after_all w (take made making)) 0 2 2 (omega arith) found_first
          (front_makes K w (reserved_outside o header pool start w (steps ++ found_first.steps) works_w) (reserved_unfound o header pool start w (steps ++ found_first.steps) works_w) lane_w
          (ap (λ (l : Log). l.phase) found_first.log ∙ can.run.working.is_open) making made 2 each (chunk_leads made) (let two = run_stores w.lanes page lines w in omega (arith, two)))

  -- ---- a block was reserved

  module _ (at : View → Type 0) where
    pub room_makes : (class : Class) (block : Block) → IsClass class → (room : HasRoom at v class block) (y : View) (rest : List Step) → Leads (room_view at v class block room) rest y → IsWithin y
        → MakesBy v (room_view at v class block room) 2
    unfolding room_view
    room_makes (Lines lines) block is (inl found) y rest leads within = makes_more v found.0.searched.view 0 2 (omega arith) (search_makes v shape can all _ _ _ found.0.searched)
    room_makes (Lines lines) block is (inr new) y rest leads within =
        let run = new.1 in
        let z : View = run.made.view in
        let steps_run : List Step = makes_run z.lanes (page_in z.lanes run.zone run.chunk) lines z in
        let whole : take (length steps_run) steps_run ≡ steps_run = take_all (length steps_run) steps_run (omega arith) in
        subst (λ (front : List Step). MakesBy v (after_all z front) 2) whole
        (run_makes run.zone run.chunk lines run.in_zone is.lines run.least (λ u. at (with_run run.zone run.chunk lines u)) _ run.made (length steps_run) y rest
        (subst (λ (front : List Step). Leads (after_all z front) rest y) (sym whole) leads) within)
    room_makes (Chunks count) block is room y rest leads within = makes_more v room.0.searched.view 0 2 (omega arith) (search_makes v shape can all _ _ _ room.0.searched)

    -- ---- and is filled

    module _ (size kind : ℕ) (block : Block) (room : HasRoom at v (class_of size) block) where
      abbrev pub x : View
      x = room_view at v (class_of size) block room

      abbrev line : ℕ
      line = block.place / 64

      abbrev pub filling : List Step
      filling = fills_block block kind size x

      is_room : IsRoom v x shape block
      is_room = has_room at v shape can.run can.pool can.pictured (class_of size) block (class_fits size) room

      both : Ready x filling × IsFilled x line block.lines kind size (after_all x filling)
      both = filled x shape line block.lines kind size is_room.may is_room.pool is_room.some is_room.own

      lines_are : block_lines (class_of size) ≡ block.lines
      lines_are = room_lines at v (class_of size) block room

      module _ (made : ℕ) (within : IsWithin (after_all x (take made filling))) where
        leads_on : Leads x (take made filling) (after_all x (take made filling))
        leads_on = first_leads x filling made both.0 both.1.call.entries

        made_room : MakesBy v x 2
        made_room = room_makes (class_of size) block (class_fits size) room (after_all x (take made filling)) (take made filling) leads_on within

        works_x : WorksAlone o header pool start (steps ++ made_room.steps) x
        works_x = works_at x (after_all x (take made filling)) 2 made_room (take made filling) leads_on within

        abbrev R : ℕ → Type 0
        R i = is_reserved x i ≡ true

        lane_x : x.lane ≡ 0
        lane_x = lane_is o header pool start x (steps ++ made_room.steps) works_x

        each_fill : Each (IsMaking R) filling
        each_fill = only_fills R line block.lines kind size (λ place near. (is_room.own (8 * line + place) (omega arith) (omega (arith, near))).0) x lane_x

        pub filling_makes : MakesByFew v (after_all x (take made filling)) size
        filling_makes =
            makes_then v x (after_all x (take made filling)) 2 (block.lines * 8) (8 * block_lines (class_of size) + 2) (let lines = lines_are in omega (arith, lines)) made_room
            (front_makes R x (reserved_outside o header pool start x (steps ++ made_room.steps) works_x) (reserved_unfound o header pool start x (steps ++ made_room.steps) works_x) lane_x
            is_room.may.working.is_open filling made (block.lines * 8) each_fill leads_on (let count = fill_stores line block.lines kind size x in omega (arith, count)))

  -- ---- the whole object

  pub object_makes : (u : View) (size kind : ℕ) (block : Block) → HasNewObject (λ z. z ≡ u) v size kind block → IsWithin u → MakesByFew v u size
  object_makes u size kind block has_it within =
      let at : View → Type 0 = λ z. after_all z (fills_block block kind size z) ≡ u in
      let z : View = room_view at v (class_of size) block has_it in
      let fill : List Step = fills_block block kind size z in
      let there : after_all z fill ≡ u = room_there at v (class_of size) block has_it in
      let whole : after_all z (take (length fill) fill) ≡ u = ap (after_all z) (take_all (length fill) fill (omega arith)) ∙ there in
      subst (λ (end : View). MakesByFew v end size) whole (filling_makes at size kind block has_it (length fill) (subst IsWithin (sym whole) within))
