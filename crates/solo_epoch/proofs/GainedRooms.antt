-- A block that a search reserved for an object: what the lane had it has still, and of the block it had nothing.
use Rattle.std.proofs.Common.{◌≡◌, ℕ, ◌+◌, ◌*◌, ◌/◌, ◌%◌, ◌<◌, ◌≤◌, Bool, true, false, cond, IsTrue, is_some, All, Contains, List, [], ◌∷◌, map, set, slice_index, Option, Some, None, inl, inr, refl, sym, ap, ◌∙◌, subst, arith}
use Rattle.std.specs.Option.{IfSome}
use Rattle.std.proofs.Math.Nat.{mul-div_cancel_left}
use Rattle.std.proofs.lemmas.Bool.{false_from_ne_true, false≢true}
use Rattle.std.proofs.lemmas.List.{set-get_or}
use Rattle.std.proofs.lemmas.List.Elements.{All-head, All-tail}
use Rattle.std.proofs.lemmas.Nat.Bits.{bit_at-pow_same}
use Rattle.pm_image.specs.declared.block.Block.{Block}
use Rattle.pm_image.specs.Blocks.{chunk_word, descriptor_word}
use Rattle.pm_image.proofs.Rooms.{run_fits}
use Rattle.pm_layout.specs.Sizes.{block_place, blocks_of, descriptor_of}
use Rattle.pm_layout.specs.declared.class.Class.TheVariants.{Chunks, Lines}
use Rattle.pm_layout.specs.declared.shape.Shape.{Shape}
use Rattle.solo_model.specs.Places.{CanHold}
use Rattle.solo_view.specs.declared.occ.Occ.TheVariants.{Zone}
use Rattle.solo_view.specs.Area.{is_in_area}
use Rattle.solo_view.specs.Blocks.{allocation_word, block_at, is_word}
use Rattle.solo_view.specs.Blocks.{descriptor_word as lane_descriptor}
use Rattle.solo_view.specs.Constants.{IsSameLane}
use Rattle.solo_view.specs.Founds.{FoundAlone, IsAlone}
use Rattle.solo_view.specs.Steps.{Step}
use Rattle.solo_view.specs.Steps.Step.{Load, Store, Or, And, Flush, Drain, TakeWrite, TakeRead, Raise, Give, ZoneTry, ZoneGive, Occupied, Occupy, Vacate, Draw, NumberSeen, StopSeen, SetStop, Tell}
use Rattle.solo_view.specs.View.{Lock, Taken, View}
use Rattle.solo_view.specs.Views.{after, reserves, with_block}
use Rattle.solo_world.specs.Searches.{HasSearched, Searches, is_search}
use Rattle.solo_world.proofs.Resting.{reserved_before, reserved_last}
use Rattle.solo_world.proofs.Searched.{kept_one, still_alone}
use Rattle.solo_runs.proofs.Rows.{has_lines, index_low}
use Rattle.solo_runs.specs.Runs.{HasGot, IsLeastFree, page_of, taken_block}
use Rattle.solo_chunks.proofs.ChunkBits.{bit_inside}
use Rattle.solo_chunks.specs.Chunks.{AreLeastFree, taken_chunks}
use Rattle.solo_chunks.specs.Chunks.{HasGot as HasGotChunks}
use Rattle.solo_fresh.specs.Making.{page_in}
use Rattle.solo_blocks.proofs.Searching.{IsLeft, left_one}
use Rattle.solo_blocks.specs.NewRuns.{IsThere, IsUnused}
use Rattle.solo_alloc.specs.NewObjects.{CanMakeObject}
use Rattle.solo_alloc.proofs.StillWhole.{words_still}
use Rattle.solo_crash.specs.CallBlocks.{NewObject, block_of}
use Rattle.solo_crash.specs.HeapChanges.{run_at}
use Rattle.solo_crash.specs.NewObjects.{block_of_chunks, block_of_run}
use Rattle.solo_crash.specs.Reserved.{IsReservedFor, IsReservedInChunks, IsReservedInRun, IsUnusedChunk}
use Rattle.solo_crash.proofs.FoundBlocks.{page_of_chunk}
use Rattle.solo_epoch.proofs.HeldApart.{AllFound}

-- ---- what is gained

-- the lane is at the same call, with the same locks and log, and knows what it knew
pub record IsCallStill (v x : View) : Type 0 where
  pub lanes : x.lanes ≡ v.lanes
  pub zones : x.zones ≡ v.zones
  pub pool : x.pool ≡ v.pool
  pub lane : x.lane ≡ v.lane
  pub entries : x.entries ≡ v.entries
  pub call : x.call ≡ v.call
  pub locks : x.locks ≡ v.locks
  pub log : x.log ≡ v.log
  pub known : (i : ℕ) → Contains v.known i → Contains x.known i
  pub same_lane : IsSameLane v x
  pub number : x.number ≡ v.number
  pub seen : (s : Step) → Contains v.seen s → Contains x.seen s

-- each block of a run and each chunk that it reserved it has still, described as it was
pub record KeepsReserved (v x : View) : Type 0 where
  pub runs : (c lines index : ℕ) → c < 64 * v.zones → index < 64 → slice_index v.words (descriptor_word v.lanes c) ≡ descriptor_of (Lines lines) → reserves v (run_at v.lanes c) index ≡ true
      → (slice_index x.words (descriptor_word v.lanes c) ≡ descriptor_of (Lines lines)) × (reserves x (run_at v.lanes c) index ≡ true)
  pub chunks : (zone k : ℕ) → zone < v.zones → k < 64 → IsUnusedChunk v.lanes v zone k → IsUnusedChunk v.lanes x zone k

-- nothing of the object's block was reserved before
abbrev pub WasFree : (v x : View) (n : NewObject) → IsReservedFor x n → Type 0
WasFree v x n (inl run) = reserves v (run_at v.lanes run.chunk) run.index ≡ false
WasFree v x n (inr has) = (j : ℕ) → j < has.count → reserves v (Zone has.zone) (has.first + j) ≡ false

-- the object's block is one of those of its run
abbrev pub IsOfItsRun : (x : View) (n : NewObject) → IsReservedFor x n → Type 0
IsOfItsRun x n (inl run) = run.index < blocks_of run.lines
IsOfItsRun x n (inr has) = Unit {0}

-- the lane has reserved the object's block since, and no word that it knew changed, nor the root's
pub record Gains (v x : View) (n : NewObject) : Type 0 where
  pub still : IsCallStill v x
  pub keeps : KeepsReserved v x
  pub own : IsReservedFor x n
  pub free : WasFree v x n own
  pub within : IsOfItsRun x n own
  pub words : (i : ℕ) → Contains v.known i → is_in_area v.lane i ≡ false → slice_index x.words i ≡ slice_index v.words i
  pub root : slice_index x.words 64 ≡ slice_index v.words 64

-- ---- locks under which a block was found

found_there : (found there : Option ℕ) → IsTrue (is_some found) → IfSome found (λ n. there ≡ Some n) → found ≡ there
found_there None there some is = absurd (false≢true some)
found_there (Some n) there some is = sym is

module _ (lanes : ℕ) (words : List ℕ) (w : ℕ) where
  abbrev IsThereBy : Lock → Type 0
  IsThereBy l = IfSome l.block (λ n. block_at lanes words l.line ≡ Some n)

  lock_same : (l : Lock) → IsTrue (is_some l.block) → IsThereBy l → with_block lanes words w l ≡ l
  lock_same l some is = at (is_word (allocation_word lanes words l.line) w) where
    at : (b : Bool) → cond b (record l { block = block_at lanes words l.line }) l ≡ l
    at true = ap (λ block. record l { block = block }) (sym (found_there l.block (block_at lanes words l.line) some is))
    at false = refl

  locks_same : (locks : List Lock) → AllFound locks → All IsThereBy locks → map (with_block lanes words w) locks ≡ locks
  locks_same [] all there = refl
  locks_same (l ∷ locks) all there =
      (λ j. lock_same l (All-head (λ (m : Lock). IsTrue (is_some m.block)) l locks all) (All-head IsThereBy l locks there) j
      ∷ locks_same locks (All-tail (λ (m : Lock). IsTrue (is_some m.block)) l locks all) (All-tail IsThereBy l locks there) j)

locks_one : (v : View) (s : Step) → IsTrue (is_search s) → FoundAlone v s → IsAlone v → All (IsThere v) v.locks → AllFound v.locks → (after v s).locks ≡ v.locks
locks_one v (Load w x) is found alone there all =
    let words : List ℕ = set v.words w x in
    let same : words ≡ v.words = ap (set v.words w) (found alone) ∙ set-get_or v.words w 0 in
    locks_same v.lanes words w v.locks all (subst (λ ws. All (IsThereBy v.lanes ws w) v.locks) (sym same) there)
locks_one v (Occupied at found) is found_so alone there all = refl
locks_one v (Occupy at bits won) is found_so alone there all = refl
locks_one v (ZoneTry zone won) is found_so alone there all = refl
locks_one v (ZoneGive zone) is found_so alone there all = refl
locks_one v (Store w x) is found alone there all = absurd (false≢true is)
locks_one v (Or w bits found) is found_so alone there all = absurd (false≢true is)
locks_one v (And w bits found) is found_so alone there all = absurd (false≢true is)
locks_one v (Flush line) is found alone there all = absurd (false≢true is)
locks_one v Drain is found alone there all = absurd (false≢true is)
locks_one v (TakeWrite line won) is found alone there all = absurd (false≢true is)
locks_one v (TakeRead line won) is found alone there all = absurd (false≢true is)
locks_one v (Raise line won) is found alone there all = absurd (false≢true is)
locks_one v (Give line) is found alone there all = absurd (false≢true is)
locks_one v (Vacate at bits) is found alone there all = absurd (false≢true is)
locks_one v (Draw n) is found alone there all = absurd (false≢true is)
locks_one v (NumberSeen n) is found alone there all = absurd (false≢true is)
locks_one v (StopSeen set) is found alone there all = absurd (false≢true is)
locks_one v SetStop is found alone there all = absurd (false≢true is)
locks_one v (Tell operation reply) is found alone there all = absurd (false≢true is)

locks_kept : (v w : View) (steps : List Step) → Searches v steps w → IsAlone v → All (IsThere v) v.locks → AllFound v.locks → w.locks ≡ v.locks
unfolding Searches
locks_kept v w [] searches alone there all = ap (λ (z : View). z.locks) searches
locks_kept v w (s ∷ steps) searches alone there all =
    let one : IsLeft v (after v s) = left_one v s searches.0 searches.3 alone there in
    let same : (after v s).locks ≡ v.locks = locks_one v s searches.0 searches.3 alone there all in
    locks_kept (after v s) w steps searches.4 (still_alone v (after v s) (kept_one v s searches.0 searches.2) alone) one.locked (subst AllFound (sym same) all) ∙ same

-- ---- behind any search

module _ (v : View) (shape : Shape) (can : CanMakeObject v shape) (all : AllFound v.locks) (at : View → Type 0) where
  module _ (more : List Taken) (Q : View → Type 0) (searched : HasSearched at v more Q) where
    abbrev x : View
    x = searched.view

    pub search_words : x.words ≡ v.words
    search_words = words_still v shape can.run at more Q searched

    pub search_still : IsCallStill v x
    search_still = record {
      lanes = ap (λ (z : View). z.lanes) searched.kept.same;
      zones = ap (λ (z : View). z.zones) searched.kept.same;
      pool = ap (λ (z : View). z.pool) searched.kept.same;
      lane = ap (λ (z : View). z.lane) searched.kept.same;
      entries = ap (λ (z : View). z.entries) searched.kept.same;
      call = ap (λ (z : View). z.call) searched.kept.same;
      locks = locks_kept v x searched.steps searched.searches can.run.alone can.run.locked all;
      log = ap (λ (z : View). z.log) searched.kept.same;
      known = searched.kept.known;
      same_lane = record {
        lanes = ap (λ (z : View). z.lanes) searched.kept.same;
        zones = ap (λ (z : View). z.zones) searched.kept.same;
        pool = ap (λ (z : View). z.pool) searched.kept.same;
        lane = ap (λ (z : View). z.lane) searched.kept.same;
        stop = ap (λ (z : View). z.stop) searched.kept.same;
        table = ap (λ (z : View). z.table) searched.kept.same;
        size = searched.kept.words;
      };
      number = ap (λ (z : View). z.number) searched.kept.same;
      seen = searched.kept.remembers;
    }

    pub search_keeps : KeepsReserved v x
    search_keeps = record {
      runs = λ c lines index in_pool low is own. (ap (λ (ws : List ℕ). slice_index ws (descriptor_word v.lanes c)) search_words ∙ is, reserved_before x v.reserved more searched.reserved (run_at v.lanes c) index own);
      chunks = λ zone k in_pool low t. record {
        reserved = reserved_before x v.reserved more searched.reserved (Zone zone) k t.reserved;
        undescribed = ap (λ (ws : List ℕ). slice_index ws (descriptor_word v.lanes (64 * zone + k))) search_words ∙ t.undescribed;
      };
    }

    same_word : (i : ℕ) → slice_index x.words i ≡ slice_index v.words i
    same_word i = ap (λ (ws : List ℕ). slice_index ws i) search_words

  -- ---- a block of a run

  module _ (lines : ℕ) (block : Block) (got : HasGot at v block) (least : IsLeastFree v lines block) where
    abbrev c : ℕ
    c = least.chunk

    abbrev index : ℕ
    index = least.index

    lines_same : block.lines ≡ lines
    lines_same = ap (λ (b : Block). b.lines) least.is_block

    chunk_same : got.chunk ≡ c
    chunk_same =
        let here = ap (λ (b : Block). b.place) got.is_block in let there = ap (λ (b : Block). b.place) least.is_block in
        let room = run_fits block.lines got.index got.in_run in let other = run_fits lines index least.free.in_run in
        omega (arith, here, there, room, other)

    index_same : got.index ≡ index
    index_same =
        let here = ap (λ (b : Block). b.place) got.is_block in let there = ap (λ (b : Block). b.place) least.is_block in
        let room = run_fits block.lines got.index got.in_run in let other = run_fits lines index least.free.in_run in
        let some = has_lines lines index least.free.in_run in
        let as_many : block.lines * got.index ≡ lines * got.index = ap (λ n. n * got.index) lines_same in
        let same : lines * got.index ≡ lines * index = omega (arith, here, there, room, other, as_many) in
        sym (mul-div_cancel_left got.index some) ∙ (ap (λ n. n / lines) same ∙ mul-div_cancel_left index some)

    abbrev in_run_view : View
    in_run_view = got.searched.view

    -- the bit was clear in its picture, where what it reserved is set
    run_was_free : reserves v (run_at v.lanes c) index ≡ false
    run_was_free = false_from_ne_true (reserves v (run_at v.lanes c) index) (λ had. least.free.clear (can.pictured.taken (run_at v.lanes c) index had))

    module _ (n : NewObject) (is : block_of n ≡ block) where
      own_run : IsReservedInRun in_run_view n
      own_run =
          let still = search_still _ _ got.searched in
          let lanes : in_run_view.lanes ≡ v.lanes = still.lanes in
          let zones = still.zones in let in_zones = least.free.in_zones in
          let place : 4096 * page_of v.lanes c ≡ 8 * chunk_word v.lanes c = omega arith in
          record {
            chunk = c;
            lines = lines;
            index = index;
            in_pool = omega (arith, zones, in_zones);
            low = index_low lines index least.free.in_run;
            described = ap (λ m. slice_index in_run_view.words (descriptor_word m c)) lanes
                ∙ (same_word _ _ got.searched (descriptor_word v.lanes c) ∙ (ap (slice_index v.words) (sym (page_of_chunk v.lanes (page_of v.lanes c) c refl).descriptor) ∙ least.free.is_run));
            reserved = ap (λ m. reserves in_run_view (run_at m c) index) lanes
                ∙ (ap (λ m. reserves in_run_view (run_at v.lanes m) index) (sym chunk_same) ∙ (ap (reserves in_run_view (run_at v.lanes got.chunk)) (sym index_same)
                ∙ reserved_last in_run_view v.reserved (taken_block v.lanes got.chunk got.index) got.searched.reserved got.index (bit_at-pow_same got.index)));
            is_block = is ∙ (least.is_block ∙ (ap (λ p. let b : Block = record { place = block_place p lines index; lines = lines } in b) place ∙ ap (λ m. block_of_run m c lines index) (sym lanes)));
          }

      pub run_gains : Gains v in_run_view n
      unfolding own_run
      run_gains = record {
        still = search_still _ _ got.searched;
        keeps = search_keeps _ _ got.searched;
        own = inl own_run;
        free = run_was_free;
        within = least.free.in_run;
        words = λ i known out. same_word _ _ got.searched i;
        root = same_word _ _ got.searched 64;
      }

    pub run_held : CanHold v.lanes v.zones (Lines lines) (block.place + 64)
    run_held =
        let in_zones = least.free.in_zones in
        let place = ap (λ (b : Block). b.place) least.is_block in
        record {
          zone = c / 64;
          chunk = c % 64;
          zone_in_range = omega (arith, in_zones);
          chunk_in_range = omega arith;
          begins = (index, least.free.in_run, omega (arith, place));
        }

  -- ---- whole chunks

  module _ (count : ℕ) (block : Block) (some : 1 ≤ count) (got : HasGotChunks at v count block) (least : AreLeastFree v count block) where
    abbrev zone : ℕ
    zone = least.zone

    abbrev first : ℕ
    first = least.first

    low : first < 64
    low = let within = least.free.in_zone in omega (arith, within, some)

    zone_same : got.zone ≡ zone
    zone_same =
        let here = ap (λ (b : Block). b.place) got.is_block in let there = ap (λ (b : Block). b.place) least.is_block in
        let within = got.in_zone in let within_too = least.free.in_zone in omega (arith, here, there, within, within_too, some)

    first_same : got.first ≡ first
    first_same =
        let here = ap (λ (b : Block). b.place) got.is_block in let there = ap (λ (b : Block). b.place) least.is_block in
        let within = got.in_zone in let within_too = least.free.in_zone in omega (arith, here, there, within, within_too, some)

    abbrev in_chunks_view : View
    in_chunks_view = got.searched.view

    chunk_clear : (j : ℕ) → j < count → IsUnused v (page_in v.lanes zone (first + j))
    chunk_clear j near =
        let within = least.free.in_zone in
        can.run.unused zone (first + j) least.free.in_zones (omega (arith, within, near)) (least.free.clear (first + j) (omega arith) (omega (arith, near)))

    chunks_were_free : (j : ℕ) → j < count → reserves v (Zone zone) (first + j) ≡ false
    chunks_were_free j near = false_from_ne_true (reserves v (Zone zone) (first + j)) (λ had. least.free.clear (first + j) (omega arith) (omega (arith, near)) (can.pictured.taken (Zone zone) (first + j) had))

    unused_there : (j : ℕ) → j < count → IsUnusedChunk v.lanes in_chunks_view zone (first + j)
    unused_there j near =
        let within = least.free.in_zone in
        let word : lane_descriptor v.lanes (page_in v.lanes zone (first + j)) ≡ descriptor_word v.lanes (64 * zone + (first + j)) = omega (arith, within, near) in
        record {
          reserved = ap (λ m. reserves in_chunks_view (Zone m) (first + j)) (sym zone_same)
              ∙ reserved_last in_chunks_view v.reserved (taken_chunks got.zone got.first count) got.searched.reserved (first + j)
              (let same = first_same in bit_inside got.first count (first + j) (omega (arith, same)) (omega (arith, same, near)));
          undescribed = same_word _ _ got.searched (descriptor_word v.lanes (64 * zone + (first + j))) ∙ (ap (slice_index v.words) (sym word) ∙ (chunk_clear j near).undescribed);
        }

    module _ (n : NewObject) (is : block_of n ≡ block) where
      own_chunks : IsReservedInChunks in_chunks_view n
      own_chunks =
          let still = search_still _ _ got.searched in
          let lanes : in_chunks_view.lanes ≡ v.lanes = still.lanes in
          let zones = still.zones in let in_zones = least.free.in_zones in
          let within = least.free.in_zone in let few = low in
          let place : 4096 * (2 + 2 * v.lanes + 65 * zone + first) ≡ 8 * chunk_word v.lanes (64 * zone + first) = omega (arith, few) in
          record {
            zone = zone;
            first = first;
            count = count;
            in_pool = omega (arith, zones, in_zones);
            low = low;
            fits = within;
            unused = λ j near. subst (λ m. IsUnusedChunk m in_chunks_view zone (first + j)) (sym lanes) (unused_there j near);
            is_block = is ∙ (least.is_block ∙ (ap (λ p. let b : Block = record { place = p; lines = 64 * count } in b) place ∙ ap (λ m. block_of_chunks m (64 * zone + first) count) (sym lanes)));
          }

      pub chunks_gain : Gains v in_chunks_view n
      unfolding own_chunks
      chunks_gain = record {
        still = search_still _ _ got.searched;
        keeps = search_keeps _ _ got.searched;
        own = inr own_chunks;
        free = chunks_were_free;
        within = tt;
        words = λ i known out. same_word _ _ got.searched i;
        root = same_word _ _ got.searched 64;
      }

    pub chunks_held : CanHold v.lanes v.zones (Chunks count) (block.place + 64)
    chunks_held =
        let place = ap (λ (b : Block). b.place) least.is_block in
        let few = low in
        record {
          zone = zone;
          chunk = first;
          zone_in_range = least.free.in_zones;
          chunk_in_range = low;
          begins = (least.free.in_zone, omega (arith, place, few));
        }
