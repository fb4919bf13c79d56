-- Of an object that a lane alone found under a lock, the change of the heap that frees its block; of one whose block lies in what the lane reserved, the change that
-- allocates it. The lane may enter the redo entry of each, which does what the change does.
use Rattle.std.proofs.Common.{◌≡◌, ◌≢◌, inl, inr, ℕ, ◌+◌, ◌-◌, ◌*◌, ◌^◌, ◌<◌, ◌≤◌, All, Contains, List, [], ◌∷◌, map, None, slice_index, refl, sym, ap, ◌∙◌, subst, arith}
use Rattle.std.specs.List.{AllZip}
use Rattle.std.proofs.lemmas.List.Elements.{All-cons, All-nil}
use Rattle.pm_header.specs.declared.header.Header.{Header}
use Rattle.pm_image.specs.declared.block.Block.{Block}
use Rattle.pm_image.specs.Blocks.{chunk_word, descriptor_word}
use Rattle.pm_image.specs.HeapFaults.{heap_fault}
use Rattle.pm_image.proofs.Members.{first_member, later_member}
use Rattle.pm_image.proofs.Rooms.{run_fits}
use Rattle.pm_layout.specs.Sizes.{IfLines, blocks_of, class_of, descriptor_of}
use Rattle.pm_layout.specs.declared.class.Class.{Class}
use Rattle.pm_layout.specs.declared.class.Class.TheVariants.{Chunks, Lines}
use Rattle.pm_objects.specs.declared.pool.PoolView.{PoolView}
use Rattle.pm_record.specs.declared.redo.Op.TheVariants.{And, Or, Set}
use Rattle.solo_redo.specs.Entering.{EntersHeap, final_of}
use Rattle.solo_view.specs.Founds.{IsAlone}
use Rattle.solo_view.specs.Log.{Final}
use Rattle.solo_view.specs.View.{View}
use Rattle.solo_world.specs.Fits.{LaneFits}
use Rattle.solo_world.specs.History.{Flies, settled}
use Rattle.solo_world.specs.Opening.{Opening}
use Rattle.solo_alloc.proofs.Fitting.{class_fits}
use Rattle.solo_crash.proofs.AloneCourse.{StandsAlone}
use Rattle.solo_crash.proofs.AloneMemory.{memory_of}
use Rattle.solo_crash.specs.Lying.{InARun, Lies, OfChunks}
use Rattle.solo_crash.proofs.Continued.{two_same}
use Rattle.solo_crash.specs.CallChanges.{bytes_published}
use Rattle.solo_crash.specs.HeapChanges.{HeapChange, entry_of}
use Rattle.solo_crash.specs.HeapChanges.HeapChange.{AllocatesChunks, AllocatesInRun, FreesChunks, FreesInRun}
use Rattle.solo_crash.specs.NewObjects.{block_of_chunks, block_of_run}
use Rattle.solo_crash.specs.OpenCall.{block_at_line}
use Rattle.solo_crash.specs.Reserved.{IsReservedInChunks, IsReservedInRun}
use Rattle.solo_epoch.proofs.HeldApart.{found_lies, some_count}
use Rattle.solo_epoch.proofs.StandingPools.{own_fits}
use Rattle.solo_epoch.specs.Epochs.{AllocatesIts, FreesIts}
use Rattle.solo_made.specs.declared.objects.Freed.{Freed}
use Rattle.solo_made.specs.declared.objects.Made.{Made}
use Rattle.solo_made.specs.Entries.{IsBlockIn, block_freed, block_made, entry_freeing, entry_making}
use Rattle.solo_made.specs.Made.{new_of}
use Rattle.solo_transaction.proofs.BlockEntries.{bit_fits, entry_at_word, freeing_chunks, freeing_in_run, frees_chunks, frees_in_run, makes_chunks, makes_in_run, making_chunks, making_in_run}
use Rattle.solo_transaction.proofs.EnteredWords.{IsEnterable, bitmap_entered, descriptor_entered, may_be_entered}
use Rattle.solo_transaction.specs.AtWork.{IsUnderLock, LiesInReserved}

-- a class of runs has blocks of less than 64 lines
few_lines : (size n : ℕ) → class_of size ≡ Lines n → n < 64
few_lines size n is =
    let some : 0 < blocks_of n = subst (λ (c : Class). IfLines c (λ lines. 0 < blocks_of lines)) is (class_fits size).lines in
    let fits : 1 + n * 0 + n ≤ 64 = run_fits n 0 some in
    omega (arith, fits)

-- the change frees the object's block, which a pool of this shape has room for, and the object's entry does so, which the lane may enter
pub record FreesSo (v : View) (f : Freed) : Type 0 where
  pub change : HeapChange
  pub frees : FreesIts v change f.off
  pub in_pool : IsBlockIn v.lanes v.zones (block_freed f)
  pub final : final_of (entry_freeing v.lanes f) ≡ entry_of v.lanes change
  pub enters : EntersHeap v (entry_freeing v.lanes f)

-- the change allocates that of the object that was made
pub record AllocatesSo (v : View) (m : Made) : Type 0 where
  pub change : HeapChange
  pub allocates : AllocatesIts v change (new_of m)
  pub in_pool : IsBlockIn v.lanes v.zones (block_made m)
  pub final : final_of (entry_making v.lanes m) ≡ entry_of v.lanes change
  pub enters : EntersHeap v (entry_making v.lanes m)

module _ (o : Opening) (header : Header) (pool : PoolView) (v : View) (s : StandsAlone o header pool v) (alone : IsAlone v) (none : heap_fault (slice_index o.words) o.lanes o.zones ≡ None)
    (no_fault : heap_fault (slice_index v.words) o.lanes o.zones ≡ None) where
  fits : LaneFits o (memory_of v) (settled o s.log s.decided) (Flies s.log s.decided 0) 0 v
  fits = own_fits o header pool v s

  abbrev w : ℕ → ℕ
  w = slice_index v.words

  -- ---- by the lane's own shape

  at_descriptor : (c : ℕ) → c < 64 * v.zones → w (descriptor_word v.lanes c) < 2 ^ 64 → IsEnterable v (descriptor_word v.lanes c)
  at_descriptor c in_pool =
      let zones = fits.lane.zones in
      subst (λ n. w (descriptor_word n c) < 2 ^ 64 → IsEnterable v (descriptor_word n c)) (sym fits.lane.lanes) (descriptor_entered o header pool v s c (omega (arith, in_pool, zones)))

  at_bitmap : (c lines index : ℕ) → c < 64 * v.zones → index < blocks_of lines → w (descriptor_word v.lanes c) ≡ descriptor_of (Lines lines) → IsEnterable v (chunk_word v.lanes c)
  at_bitmap c lines index in_pool low =
      let zones = fits.lane.zones in
      subst (λ n. w (descriptor_word n c) ≡ descriptor_of (Lines lines) → IsEnterable v (chunk_word n c)) (sym fits.lane.lanes) (bitmap_entered o header pool v s c (omega (arith, in_pool, zones)) lines index no_fault low)

  -- ---- what was freed

  module _ (f : Freed) (under : IsUnderLock v f.off f.lines) (not_root : w 64 ≢ f.off) where
    abbrev line : ℕ
    line = under.lock.line

    place_is : 64 * line ≡ f.off - 64
    place_is = let place = under.place in omega (arith, place)

    its_block : block_at_line line f.lines ≡ block_freed f
    its_block = (λ j. let b : Block = record { place = place_is j; lines = f.lines } in b)

    frees_run : (c index : ℕ) → c < 64 * v.zones → index < blocks_of f.lines → w (descriptor_word v.lanes c) ≡ descriptor_of (Lines f.lines) → block_of_run v.lanes c f.lines index ≡ block_at_line line f.lines → FreesSo v f
    frees_run c index in_pool low described is =
        let at : (block_of_run v.lanes c f.lines index).place ≡ 64 * line = ap (λ (b : Block). b.place) is in
        let place = under.place in
        let block : block_of_run v.lanes c f.lines index ≡ block_freed f = is ∙ its_block in
        let e = freeing_in_run v.lanes c index f low block in
        record {
          change = FreesInRun c f.lines index;
          frees = inl (record { chunk = c; lines = f.lines; index = index; in_pool = in_pool; inside = low; described = described; begins = omega (arith, at, place); lock = under.lock; held = under.held; found = under.block; of_line = at; not_root = not_root; is = refl });
          in_pool = inl (record { chunk = c; index = index; in_pool = in_pool; inside = low; is_block = block });
          final = ap final_of e ∙ frees_in_run v.lanes c f.lines index;
          enters = subst (EntersHeap v) (sym e) (may_be_entered v (entry_at_word (chunk_word v.lanes c) And (2 ^ 64 - 1 - 2 ^ index)) (chunk_word v.lanes c) alone refl (omega arith) (at_bitmap c f.lines index in_pool low described));
        }

    frees_whole : (c chunks : ℕ) → c < 64 * v.zones → 1 ≤ chunks → chunks ≤ 64 → w (descriptor_word v.lanes c) ≡ 2 + 256 * chunks → block_of_chunks v.lanes c chunks ≡ block_at_line line f.lines → FreesSo v f
    frees_whole c chunks in_pool some few first is =
        let at : (block_of_chunks v.lanes c chunks).place ≡ 64 * line = ap (λ (b : Block). b.place) is in
        let place = under.place in
        let block : block_of_chunks v.lanes c chunks ≡ block_freed f = is ∙ its_block in
        let e = freeing_chunks v.lanes c chunks f some block in
        record {
          change = FreesChunks c chunks;
          frees = inr (record { chunk = c; count = chunks; in_pool = in_pool; described = first; begins = omega (arith, at, place); not_root = not_root; is = refl });
          in_pool = inr (record { chunk = c; chunks = chunks; in_pool = in_pool; some = some; is_block = block });
          final = ap final_of e ∙ frees_chunks v.lanes c chunks;
          enters = subst (EntersHeap v) (sym e) (may_be_entered v (entry_at_word (descriptor_word v.lanes c) Set 0) (descriptor_word v.lanes c) alone refl (omega arith) (at_descriptor c in_pool (omega (arith, first, few))));
        }

    by_lies : Lies w v.lanes v.zones (block_at_line line f.lines) → FreesSo v f
    by_lies (InARun c lines index in_zones in_run set is) =
        let lines_are : lines ≡ f.lines = ap (λ (b : Block). b.lines) is in
        frees_run c index in_zones (subst (λ n. index < blocks_of n) lines_are in_run.inside) (subst (λ n. w (descriptor_word v.lanes c) ≡ 1 + 256 * n) lines_are in_run.described)
        (subst (λ n. block_of_run v.lanes c n index ≡ block_at_line line f.lines) lines_are is)
    by_lies (OfChunks c chunks in_zones in_chunks first is) = let fits = in_chunks.fits in frees_whole c chunks in_zones in_chunks.some (omega (arith, fits)) first is

    pub frees_so : FreesSo v f
    frees_so = by_lies (two_same (λ (a c : ℕ). Lies w a c (block_at_line line f.lines)) o.lanes v.lanes o.zones v.zones (sym fits.lane.lanes) (sym fits.lane.zones)
        (found_lies o header pool v s none under.lock f.lines under.held under.block))

  -- ---- what was made

  module _ (m : Made) where
    makes_in : (run : IsReservedInRun v (new_of m)) → run.index < blocks_of run.lines → AllocatesSo v m
    makes_in run low =
        let c : ℕ = run.chunk in
        let lines_are : (block_made m).lines ≡ run.lines = ap (λ (b : Block). b.lines) run.is_block in
        let e = making_in_run v.lanes c run.lines run.index m low run.is_block in
        record {
          change = AllocatesInRun c run.lines run.index m.kind (bytes_published v (new_of m));
          allocates = inl (record { reserved = run; is = refl });
          in_pool = inl (record {
            chunk = c;
            index = run.index;
            in_pool = run.in_pool;
            inside = subst (λ n. run.index < blocks_of n) (sym lines_are) low;
            is_block = subst (λ n. block_of_run v.lanes c n run.index ≡ block_made m) (sym lines_are) (sym run.is_block);
          });
          final = ap final_of e ∙ makes_in_run v.lanes c run.lines run.index m.kind (bytes_published v (new_of m));
          enters = subst (EntersHeap v) (sym e) (may_be_entered v (entry_at_word (chunk_word v.lanes c) Or (2 ^ run.index)) (chunk_word v.lanes c) alone refl (bit_fits run.lines run.index low) (at_bitmap c run.lines run.index run.in_pool low run.described));
        }

    makes_whole : IsReservedInChunks v (new_of m) → AllocatesSo v m
    makes_whole has =
        let c : ℕ = 64 * has.zone + has.first in
        let some : 1 ≤ has.count = some_count o header pool v s (new_of m) has in
        let low = has.low in let in_zones = has.in_pool in let within = has.fits in
        let in_pool : c < 64 * v.zones = omega (arith, low, in_zones) in
        let number : 64 * has.zone + (has.first + 0) ≡ c = omega arith in
        let zero : w (descriptor_word v.lanes c) ≡ 0 = ap (λ k. w (descriptor_word v.lanes k)) (sym number) ∙ (has.unused 0 some).undescribed in
        let e = making_chunks v.lanes c has.count m (few_lines m.size) some has.is_block in
        record {
          change = AllocatesChunks c has.count m.kind (bytes_published v (new_of m));
          allocates = inr (record { reserved = has; is = refl });
          in_pool = inr (record { chunk = c; chunks = has.count; in_pool = in_pool; some = some; is_block = sym has.is_block });
          final = ap final_of e ∙ makes_chunks v.lanes c has.count m.kind (bytes_published v (new_of m));
          enters = subst (EntersHeap v) (sym e) (may_be_entered v (entry_at_word (descriptor_word v.lanes c) Set (descriptor_of (Chunks has.count))) (descriptor_word v.lanes c) alone refl (omega (arith, within)) (at_descriptor c in_pool (omega (arith, zero))));
        }

    pub makes_so : LiesInReserved v (new_of m) → AllocatesSo v m
    makes_so (inl run) = makes_in run.0 run.1
    makes_so (inr has) = makes_whole has

-- ---- of lists

-- these changes free the blocks of these objects, whose entries do so
pub record FreesAll (v : View) (fs : List Freed) : Type 0 where
  pub changes : List HeapChange
  pub frees : AllZip (FreesIts v) changes (map (λ (f : Freed). f.off) fs)
  pub in_pool : All (λ (f : Freed). IsBlockIn v.lanes v.zones (block_freed f)) fs
  pub finals : map final_of (map (entry_freeing v.lanes) fs) ≡ map (entry_of v.lanes) changes
  pub enters : All (EntersHeap v) (map (entry_freeing v.lanes) fs)

pub frees_all : (v : View) (fs : List Freed) → ((f : Freed) → Contains fs f → FreesSo v f) → FreesAll v fs
frees_all v [] each = record { changes = []; frees = tt; in_pool = All-nil (λ (f : Freed). IsBlockIn v.lanes v.zones (block_freed f)); finals = refl; enters = All-nil (EntersHeap v) }
frees_all v (f ∷ fs) each =
    let here : FreesSo v f = each f (first_member f fs) in
    let rest : FreesAll v fs = frees_all v fs (λ g there. each g (later_member f fs g there)) in
    record {
      changes = here.change ∷ rest.changes;
      frees = (here.frees, rest.frees);
      in_pool = All-cons (λ (g : Freed). IsBlockIn v.lanes v.zones (block_freed g)) f fs here.in_pool rest.in_pool;
      finals = (λ j. let all : List Final = here.final j ∷ rest.finals j in all);
      enters = All-cons (EntersHeap v) (entry_freeing v.lanes f) (map (entry_freeing v.lanes) fs) here.enters rest.enters;
    }

-- and these allocate those of these
pub record MakesAll (v : View) (ms : List Made) : Type 0 where
  pub changes : List HeapChange
  pub allocates : AllZip (AllocatesIts v) changes (map new_of ms)
  pub in_pool : All (λ (m : Made). IsBlockIn v.lanes v.zones (block_made m)) ms
  pub finals : map final_of (map (entry_making v.lanes) ms) ≡ map (entry_of v.lanes) changes
  pub enters : All (EntersHeap v) (map (entry_making v.lanes) ms)

pub makes_all : (v : View) (ms : List Made) → ((m : Made) → Contains ms m → AllocatesSo v m) → MakesAll v ms
makes_all v [] each = record { changes = []; allocates = tt; in_pool = All-nil (λ (m : Made). IsBlockIn v.lanes v.zones (block_made m)); finals = refl; enters = All-nil (EntersHeap v) }
makes_all v (m ∷ ms) each =
    let here : AllocatesSo v m = each m (first_member m ms) in
    let rest : MakesAll v ms = makes_all v ms (λ n there. each n (later_member m ms n there)) in
    record {
      changes = here.change ∷ rest.changes;
      allocates = (here.allocates, rest.allocates);
      in_pool = All-cons (λ (n : Made). IsBlockIn v.lanes v.zones (block_made n)) m ms here.in_pool rest.in_pool;
      finals = (λ j. let all : List Final = here.final j ∷ rest.finals j in all);
      enters = All-cons (EntersHeap v) (entry_making v.lanes m) (map (entry_making v.lanes) ms) here.enters rest.enters;
    }
