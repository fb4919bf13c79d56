-- An object that a lane that works alone made in a block: the steps lead on, what the lane had it has still, and the block has the object's words.
use Rattle.std.proofs.Common.{◌≡◌, ⊎_elim, inl, inr, ℕ, ◌+◌, ◌-◌, ◌*◌, ◌/◌, ◌%◌, ◌<◌, ◌≤◌, true, false, ◌||◌, eqb, eqb-true, Contains, List, ◌++◌, length, replicate, slice_index, refl, sym, ap, ◌∙◌, subst, arith}
use Rattle.std.specs.List.{list_any}
use Rattle.std.specs.Option.{ForSome}
use Rattle.std.proofs.lemmas.Bool.{cases_lt, false_from_ne_true, false≢true, or_cases}
use Rattle.std.proofs.lemmas.List.{length-replicate}
use Rattle.std.proofs.lemmas.List.Folds.{Any-from_list_any}
use Rattle.pm_header.specs.declared.header.Header.{Header}
use Rattle.pm_image.specs.declared.block.Block.{Block}
use Rattle.pm_image.specs.Blocks.{descriptor_word}
use Rattle.pm_image.specs.Contents.{bytes_in, data_words, size_in}
use Rattle.pm_image.specs.Reads.{ReadsBlock}
use Rattle.pm_image.proofs.Rooms.{lines_needed, words_fit}
use Rattle.pm_layout.specs.Sizes.{class_of, lines_for}
use Rattle.pm_layout.specs.declared.class.Class.{Class}
use Rattle.pm_layout.specs.declared.class.Class.TheVariants.{Chunks, Lines}
use Rattle.pm_layout.specs.declared.shape.Shape.{Shape}
use Rattle.solo_memory.specs.Solo.{AreNumbered}
use Rattle.solo_model.specs.NewObjects.{new_object}
use Rattle.solo_model.specs.Places.{CanHold}
use Rattle.pm_objects.specs.Pool.{block_lines}
use Rattle.pm_objects.specs.declared.pool.PoolView.{PoolView}
use Rattle.solo_view.specs.declared.occ.Occ.{Occ}
use Rattle.solo_view.specs.declared.occ.Occ.TheVariants.{Zone}
use Rattle.solo_view.specs.Area.{is_in_area}
use Rattle.solo_view.specs.Blocks.{describes}
use Rattle.solo_view.specs.Held.{is_known, is_reserved, is_under}
use Rattle.solo_view.specs.Steps.{Step}
use Rattle.solo_view.proofs.SameLane.{same_lane-then}
use Rattle.solo_view.specs.View.{Taken, View}
use Rattle.solo_view.specs.Views.{after_all, has_bit, reserves}
use Rattle.solo_world.specs.Fits.{LaneFits}
use Rattle.solo_world.specs.History.{Flies, settled}
use Rattle.solo_world.specs.Opening.{IsChunk, Opening}
use Rattle.solo_world.specs.Searches.{HasSearched}
use Rattle.solo_world.specs.Sequences.{Ready}
use Rattle.solo_world.proofs.Apart.{area_bounds}
use Rattle.solo_world.proofs.HeapWords.{describes_it}
use Rattle.solo_world.proofs.Reserved.{reserved_apart}
use Rattle.solo_fresh.specs.Filled.{IsFilled}
use Rattle.solo_blocks.specs.AnyBlocks.{HasRoom}
use Rattle.solo_alloc.specs.NewObjects.{CanMakeObject, fills_block}
use Rattle.solo_alloc.proofs.FilledRooms.{filled, filled_may, filled_pool}
use Rattle.solo_alloc.proofs.Fitting.{IsClass, class_fits}
use Rattle.solo_alloc.proofs.Pictures.{pictured_filled}
use Rattle.solo_alloc.proofs.Rooms.{IsRoom}
use Rattle.solo_alloc.proofs.SomeRoom.{has_room, room_lines, room_there, room_view}
use Rattle.solo_crash.specs.Alone.{WorksAlone}
use Rattle.solo_crash.specs.CallBlocks.{NewObject, block_of, object_made}
use Rattle.solo_crash.specs.HeapChanges.{run_at}
use Rattle.solo_crash.specs.Leading.{Leads}
use Rattle.solo_crash.specs.NewObjects.{HasNewObject, IsFreshBlock, block_of_chunks, block_of_run, unlinked}
use Rattle.solo_crash.specs.Reserved.{IsReservedFor, IsUnusedChunk}
use Rattle.solo_crash.proofs.AloneCourse.{StandsAlone, stands_at}
use Rattle.solo_crash.proofs.AloneMemory.{memory_of}
use Rattle.solo_crash.proofs.FoundBlocks.{page_of_chunk}
use Rattle.solo_crash.proofs.FreshObjects.{filled_is_new}
use Rattle.solo_crash.proofs.Leading.{leads_then}
use Rattle.solo_crash.proofs.OnTheWay.{works_up_to}
use Rattle.solo_epoch.specs.Allocating.{MakesObject, object_in_block}
use Rattle.solo_epoch.proofs.FilledBlocks.{filled_is_fresh}
use Rattle.solo_epoch.proofs.GainedRooms.{Gains, IsOfItsRun, WasFree, chunks_gain, chunks_held, run_gains, run_held}
use Rattle.solo_epoch.proofs.GainedRuns.{new_gains, new_held}
use Rattle.solo_epoch.proofs.HeldApart.{AllFound, locked_in_block, reserved_in_none}
use Rattle.solo_epoch.proofs.QuietSteps.{fills_lead, search_leads}
use Rattle.solo_epoch.proofs.RoomSteps.{room_leads, works_made}
use Rattle.solo_epoch.proofs.StandingPools.{own_fits}

-- it stands alone where it works alone
pub stood : (o : Opening) (header : Header) (pool : PoolView) (start v : View) (steps : List Step) → WorksAlone o header pool start steps v → StandsAlone o header pool v
stood o header pool start v steps works = stands_at o header pool start steps v works.begins works.leads works.numbered works.within

-- a word that is known, and not for being in the area, is among those that the lane learned
known_there : (v : View) (i : ℕ) → is_known v i ≡ true → is_in_area v.lane i ≡ false → Contains v.known i
known_there v i known out = ⊎_elim
    (λ (area : is_in_area v.lane i ≡ true). absurd (false≢true (sym out ∙ area)))
    (λ (learned : list_any (λ other. eqb other i) v.known ≡ true). let t = Any-from_list_any (λ other. eqb other i) v.known learned in subst (Contains v.known) (eqb-true t.1 i t.4) (t.0, t.2, t.3))
    (or_cases (is_in_area v.lane i) (list_any (λ other. eqb other i) v.known) known)

-- ---- a block was reserved

module _ (o : Opening) (header : Header) (pool : PoolView) (start v : View) (steps : List Step) (works : WorksAlone o header pool start steps v) (shape : Shape) (can : CanMakeObject v shape) (all : AllFound v.locks) (at : View → Type 0) where
  s : StandsAlone o header pool v
  s = stood o header pool start v steps works

  -- it works alone behind a search
  works_searched : (at : View → Type 0) (more : List Taken) (Q : View → Type 0) (searched : HasSearched at v more Q) → WorksAlone o header pool start (steps ++ searched.steps) searched.view
  works_searched at more Q searched = record {
    begins = works.begins;
    leads = leads_then start v searched.view steps searched.steps works.leads (search_leads v searched.view searched.steps searched.searches);
    numbered = subst (λ (z : View). AreNumbered 1 z.entries) (sym searched.kept.same) works.numbered;
    within = subst (λ (z : View). ForSome z.stop (λ stop. z.calls ≤ stop)) (sym searched.kept.same) works.within;
  }

  room_gains : (class : Class) (block : Block) → IsClass class → (room : HasRoom at v class block) → (n : NewObject) → block_of n ≡ block → Gains v (room_view at v class block room) n
  unfolding room_view
  room_gains (Lines lines) block is (inl found) n same = run_gains v shape can all at lines block found.0 found.1 n same
  room_gains (Lines lines) block is (inr new) n same =
      new_gains o header pool v s shape can all at lines block is.lines new.1 (stood o header pool start new.1.made.view (steps ++ new.1.made.steps) (works_searched _ _ _ new.1.made)) n same
  room_gains (Chunks count) block is room n same = chunks_gain v shape can all at count block is.chunks room.0 room.1 n same

  room_holds : (class : Class) (block : Block) → IsClass class → HasRoom at v class block → CanHold v.lanes v.zones class (block.place + 64)
  room_holds (Lines lines) block is (inl found) = run_held v shape can all at lines block found.0 found.1
  room_holds (Lines lines) block is (inr new) = new_held o header pool v s shape can all at lines block is.lines new.1
  room_holds (Chunks count) block is room = chunks_held v shape can all at count block is.chunks room.0 room.1

-- ---- and filled

module _ (o : Opening) (header : Header) (pool : PoolView) (start v : View) (steps : List Step) (works : WorksAlone o header pool start steps v) (shape : Shape) (can : CanMakeObject v shape) (all : AllFound v.locks)
    (u : View) (size kind : ℕ) (block : Block) (makes : MakesObject v u size kind block) where
  abbrev at : View → Type 0
  at z = after_all z (fills_block block kind size z) ≡ u

  abbrev x : View
  x = room_view at v (class_of size) block makes.made

  abbrev line : ℕ
  line = block.place / 64

  there : after_all x (fills_block block kind size x) ≡ u
  there = room_there at v (class_of size) block makes.made

  is : IsRoom v x shape block
  is = has_room at v shape can.run can.pool can.pictured (class_of size) block (class_fits size) makes.made

  both : Ready x (fills_block block kind size x) × IsFilled x line block.lines kind size (after_all x (fills_block block kind size x))
  both = filled x shape line block.lines kind size is.may is.pool is.some is.own

  f : IsFilled x line block.lines kind size u
  f = subst (IsFilled x line block.lines kind size) there both.1

  pub may_make_another : CanMakeObject u shape
  may_make_another = record {
    run = filled_may x shape line block.lines kind size is.may is.pool is.some is.own u f;
    pool = filled_pool x shape line block.lines kind size is.may is.pool is.some is.own u f;
    pictured = pictured_filled x line block.lines kind size u f is.pictured;
  }

  abbrev n : NewObject
  n = object_in_block block size kind

  lines_are : block_lines (class_of size) ≡ block.lines
  lines_are = room_lines at v (class_of size) block makes.made

  is_block : block_of n ≡ block
  is_block =
      let place : block.place + 64 - 64 ≡ block.place = omega arith in
      λ j. record { place = place j; lines = lines_are j }

  gained : Gains v x n
  gained = room_gains o header pool start v steps works shape can all at (class_of size) block (class_fits size) makes.made n is_block

  pub stands_in_chunk : CanHold v.lanes v.zones (class_of size) (block.place + 64)
  stands_in_chunk = room_holds o header pool start v steps works shape can all at (class_of size) block (class_fits size) makes.made

  -- ---- its steps

  room_steps : (more : List Step) × Leads v more x
  room_steps = room_leads v shape can at (class_of size) block (class_fits size) makes.made

  abbrev filling : List Step
  filling = fills_block block kind size x

  leads_x : Leads start (steps ++ room_steps.0) x
  leads_x = leads_then start v x steps room_steps.0 works.leads room_steps.1

  fill_leads : Leads x filling u
  fill_leads = subst (Leads x filling) there (fills_lead x line block.lines kind size both.0)

  entries_then : u.entries ≡ v.entries
  entries_then = f.call.entries ∙ gained.still.entries

  works_by_parts : WorksAlone o header pool start ((steps ++ room_steps.0) ++ filling) u
  works_by_parts = record {
    begins = works.begins;
    leads = leads_then start x u (steps ++ room_steps.0) filling leads_x fill_leads;
    numbered = subst (AreNumbered 1) (sym entries_then) works.numbered;
    within = makes.within;
  }

  pub works_on : (more : List Step) × WorksAlone o header pool start (steps ++ more) u
  works_on = works_made v shape can u size kind block makes o header pool start steps works

  stands_x : StandsAlone o header pool x
  stands_x = stood o header pool start x (steps ++ room_steps.0) (works_up_to o header pool start x u (steps ++ room_steps.0) filling works_by_parts leads_x)

  pub stands_u : StandsAlone o header pool u
  stands_u = stood o header pool start u ((steps ++ room_steps.0) ++ filling) works_by_parts

  -- ---- which words changed

  beside : (i : ℕ) → (8 * line ≤ i → i < 8 * (line + block.lines) → ⊥) → slice_index u.words i ≡ slice_index x.words i
  beside i out = f.others i (⊎_elim
      (λ (low : i < 8 * line). inl low)
      (λ (from : 8 * line ≤ i). ⊎_elim (λ (to : i < 8 * (line + block.lines)). absurd (out from to)) (λ (high : 8 * (line + block.lines) ≤ i). inr high) (cases_lt i (8 * (line + block.lines))))
      (cases_lt i (8 * line)))

  at_v : StandsAlone o header pool v
  at_v = stood o header pool start v steps works

  fits_v : LaneFits o (memory_of v) (settled o at_v.log at_v.decided) (Flies at_v.log at_v.decided 0) 0 v
  fits_v = own_fits o header pool v at_v

  -- what it knew is none of the block
  known_beside : (i : ℕ) → Contains v.known i → is_in_area v.lane i ≡ false → 8 * line ≤ i → i < 8 * (line + block.lines) → ⊥
  known_beside i known out from to = ⊎_elim
      (λ (core : (is_in_area v.lane i || list_any (is_under i) v.locks) ≡ true). ⊎_elim
      (λ (area : is_in_area v.lane i ≡ true). false≢true (sym out ∙ area))
      (λ (under : list_any (is_under i) v.locks ≡ true).
      reserved_in_none o header pool x stands_x i (is.own i from to).0 (locked_in_block o header pool v at_v all i under))
      (or_cases (is_in_area v.lane i) (list_any (is_under i) v.locks) core))
      (λ (own : is_reserved v i ≡ true). is.fresh i from to own)
      (or_cases (is_in_area v.lane i || list_any (is_under i) v.locks) (is_reserved v i) (fits_v.picture.held i known))

  lanes_x : x.lanes ≡ v.lanes
  lanes_x = gained.still.lanes

  lanes_o : x.lanes ≡ o.lanes
  lanes_o = (own_fits o header pool x stands_x).lane.lanes

  -- nor in a lane's area, nor the root's word
  block_behind : (i : ℕ) → 8 * line ≤ i → i < 8 * (line + block.lines) → 512 + 1024 * o.lanes ≤ i
  block_behind i from to = (reserved_apart o (memory_of x) x i lanes_o (own_fits o header pool x stands_x).blocks (is.own i from to).0).behind

  -- nor one that describes a chunk
  descriptor_same : (c : ℕ) → slice_index u.words (descriptor_word v.lanes c) ≡ slice_index x.words (descriptor_word v.lanes c)
  descriptor_same c = beside (descriptor_word v.lanes c) (λ from to.
      let page : ℕ = 2 + 2 * v.lanes + 65 * (c / 64) + c % 64 in
      let chunk : IsChunk v.lanes page = (omega arith, omega arith) in
      let told : describes v.lanes (descriptor_word v.lanes c) ≡ true = ap (describes v.lanes) (sym (page_of_chunk v.lanes page c refl).descriptor) ∙ describes_it v.lanes page chunk in
      false≢true (sym (is.own (descriptor_word v.lanes c) from to).1 ∙ (ap (λ m. describes m (descriptor_word v.lanes c)) lanes_x ∙ told)))

  reserves_same : (other : Occ) (bit : ℕ) → reserves u other bit ≡ reserves x other bit
  reserves_same other bit = ap (list_any (has_bit other bit)) f.call.reserved

  lanes_u : u.lanes ≡ x.lanes
  lanes_u = f.call.lane.lanes

  unused_then : (zone k : ℕ) → IsUnusedChunk v.lanes x zone k → IsUnusedChunk v.lanes u zone k
  unused_then zone k t = record { reserved = reserves_same (Zone zone) k ∙ t.reserved; undescribed = descriptor_same (64 * zone + k) ∙ t.undescribed }

  own_then : (own : IsReservedFor x n) → WasFree v x n own → IsOfItsRun x n own → (now : IsReservedFor u n) × (WasFree v u n now × IsOfItsRun u n now)
  own_then (inl run) free within = (
    inl (record {
      chunk = run.chunk;
      lines = run.lines;
      index = run.index;
      in_pool = (let inside = run.in_pool in let zones = f.call.lane.zones in omega (arith, inside, zones));
      low = run.low;
      described = ap (λ m. slice_index u.words (descriptor_word m run.chunk)) (lanes_u ∙ lanes_x) ∙ (descriptor_same run.chunk ∙ (ap (λ m. slice_index x.words (descriptor_word m run.chunk)) (sym lanes_x) ∙ run.described));
      reserved = reserves_same (run_at u.lanes run.chunk) run.index ∙ (ap (λ m. reserves x (run_at m run.chunk) run.index) lanes_u ∙ run.reserved);
      is_block = run.is_block ∙ ap (λ m. block_of_run m run.chunk run.lines run.index) (sym lanes_u);
    }),
    (free, within),
  )
  own_then (inr has) free within = (
    inr (record {
      zone = has.zone;
      first = has.first;
      count = has.count;
      in_pool = (let inside = has.in_pool in let zones = f.call.lane.zones in omega (arith, inside, zones));
      low = has.low;
      fits = has.fits;
      unused = λ j near. subst (λ m. IsUnusedChunk m u has.zone (has.first + j)) (sym (lanes_u ∙ lanes_x)) (unused_then has.zone (has.first + j) (subst (λ m. IsUnusedChunk m x has.zone (has.first + j)) lanes_x (has.unused j near)));
      is_block = has.is_block ∙ ap (λ m. block_of_chunks m (64 * has.zone + has.first) has.count) (sym lanes_u);
    }),
    (free, within),
  )

  owned : (now : IsReservedFor u n) × (WasFree v u n now × IsOfItsRun u n now)
  owned = own_then gained.own gained.free gained.within

  pub object_gained : Gains v u n
  object_gained = record {
    still = record {
      lanes = lanes_u ∙ lanes_x;
      zones = f.call.lane.zones ∙ gained.still.zones;
      pool = f.call.lane.pool ∙ gained.still.pool;
      lane = f.call.lane.lane ∙ gained.still.lane;
      entries = entries_then;
      call = f.call.call ∙ gained.still.call;
      locks = f.call.locks ∙ gained.still.locks;
      log = f.log ∙ gained.still.log;
      known = λ i there. f.call.remembers i (gained.still.known i there);
      same_lane = same_lane-then v x u gained.still.same_lane f.call.lane;
      number = f.call.number ∙ gained.still.number;
      seen = λ s there. f.call.seen s (gained.still.seen s there);
    };
    keeps = record {
      runs = λ c lines index in_pool low described own. let t = gained.keeps.runs c lines index in_pool low described own in (descriptor_same c ∙ t.0, reserves_same (run_at v.lanes c) index ∙ t.1);
      chunks = λ zone k in_pool low t. unused_then zone k (gained.keeps.chunks zone k in_pool low t);
    };
    own = owned.0;
    free = owned.1.0;
    within = owned.1.1;
    words = λ i known out. beside i (known_beside i known out) ∙ gained.words i known out;
    root = beside 64 (λ from to. let behind = block_behind 64 from to in absurd (omega (arith, behind))) ∙ gained.root;
  }

  -- ---- the object's words

  aligned_by : IsReservedFor x n → block.place % 64 ≡ 0
  aligned_by (inl run) = let place : (block_of n).place ≡ (block_of_run x.lanes run.chunk run.lines run.index).place = ap (λ (b : Block). b.place) run.is_block in omega (arith, place)
  aligned_by (inr has) = let place : (block_of n).place ≡ (block_of_chunks x.lanes (64 * has.zone + has.first) has.count).place = ap (λ (b : Block). b.place) has.is_block in omega (arith, place)

  pub aligned : block.place % 64 ≡ 0
  aligned = aligned_by gained.own

  module _ (some : 1 ≤ size) (most : size ≤ 262080) where
    fresh : IsFreshBlock (slice_index u.words) (block_of n) kind size
    fresh =
        let whole = aligned in
        let place : 64 * line ≡ block.place = omega (arith, whole) in
        subst (λ (b : Block). IsFreshBlock (slice_index u.words) b kind size) ((λ j. record { place = place j; lines = block.lines }) ∙ sym is_block)
        (filled_is_fresh x u line block.lines kind size f some most lines_are)

    new : HasNewObject (slice_index u.words) (block_of n) kind (replicate size 0)
    new = filled_is_new (slice_index u.words) (block_of n) kind size fresh

    pub zero_bytes : bytes_in (slice_index u.words) (block_of n) ≡ replicate size 0
    zero_bytes = new.holds

    pub has_object : HasNewObject (slice_index u.words) (block_of n) kind (bytes_in (slice_index u.words) (block_of n))
    has_object = subst (HasNewObject (slice_index u.words) (block_of n) kind) (sym zero_bytes) new

    pub is_long : length (bytes_in (slice_index u.words) (block_of n)) ≡ size
    is_long = ap (λ (bytes : List ℕ). length bytes) zero_bytes ∙ length-replicate size 0

    pub is_of_zeros : object_made u n ≡ new_object kind size
    is_of_zeros = ap (unlinked kind) zero_bytes

    module _ (i : ℕ) (reads : ReadsBlock (slice_index u.words) (block_of n) i) where
      in_block : (8 * line ≤ i) × (i < 8 * (line + block.lines))
      in_block =
          let whole = aligned in
          let from = reads.from in let to = reads.to in
          let size_is : size_in (slice_index u.words) (block_of n) ≡ size = fresh.words 1 (omega arith) in
          let words : data_words (size_in (slice_index u.words) (block_of n)) ≡ data_words size = ap data_words size_is in
          let fits : 8 + data_words size ≤ 8 * block.lines = words_fit size block.lines (subst (λ (k : ℕ). lines_for size ≤ k) lines_are (lines_needed size)) in
          (omega (arith, whole, from), omega (arith, whole, to, words, fits))

      pub read_outside : is_in_area v.lane i ≡ false
      read_outside = false_from_ne_true (is_in_area v.lane i) (λ area.
          let high = (area_bounds v.lane i area).1 in let lane = can.pool.lane in let lanes = lanes_x in let of = lanes_o in
          let behind = block_behind i in_block.0 in_block.1 in omega (arith, high, lane, lanes, of, behind))

      pub read_known : Contains u.known i
      read_known =
          let from = in_block.0 in let to = in_block.1 in
          let place : 8 * line + (i - 8 * line) ≡ i = omega (arith, from) in
          known_there u i (ap (is_known u) (sym place) ∙ f.knows (i - 8 * line) (omega (arith, from, to))) (ap (λ k. is_in_area k i) object_gained.still.lane ∙ read_outside)
