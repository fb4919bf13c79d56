-- The block that a lane reserved for a new object lies apart from those of the objects that it reserved before, which it has still.
use Rattle.std.proofs.Common.{◌≡◌, inl, inr, ℕ, ◌+◌, ◌-◌, ◌*◌, ◌<◌, slice_index, sym, ap, ◌∙◌, subst, arith}
use Rattle.std.proofs.lemmas.Bool.{false≢true}
use Rattle.pm_header.specs.declared.header.Header.{Header}
use Rattle.pm_image.specs.declared.block.Block.{Block}
use Rattle.pm_image.specs.Blocks.{descriptor_word}
use Rattle.pm_objects.specs.declared.pool.PoolView.{PoolView}
use Rattle.solo_view.specs.declared.occ.Occ.TheVariants.{Zone}
use Rattle.solo_view.specs.View.{View}
use Rattle.solo_view.specs.Views.{reserves}
use Rattle.solo_world.specs.Opening.{Opening}
use Rattle.solo_crash.specs.CallBlocks.{NewObject, block_of}
use Rattle.solo_crash.specs.HeapChanges.{AreDisjoint, run_at}
use Rattle.solo_crash.specs.Lying.{InChunks, InRun}
use Rattle.solo_crash.specs.NewObjects.{block_of_chunks, block_of_run}
use Rattle.solo_crash.specs.Reserved.{IsReservedFor, IsReservedInChunks, IsReservedInRun, IsUnusedChunk}
use Rattle.solo_crash.proofs.AloneCourse.{StandsAlone}
use Rattle.solo_crash.proofs.BlocksApart.{chunks_apart, free_in, run_chunks, runs_apart}
use Rattle.solo_epoch.proofs.GainedRooms.{Gains, WasFree}
use Rattle.solo_epoch.proofs.HeldApart.{chunks_block_is, reserved_chunks, reserved_run, run_block_is, some_count}

turned : (a b : Block) → AreDisjoint a b → AreDisjoint b a
turned a b (inl before) = inr before
turned a b (inr behind) = inl behind

module _ (v u : View) (n : NewObject) (g : Gains v u n) where
  -- what it reserved for an object it has for it still
  run_still : (m : NewObject) → IsReservedInRun v m → IsReservedInRun u m
  run_still m run =
      let lanes = g.still.lanes in
      let t = g.keeps.runs run.chunk run.lines run.index run.in_pool run.low run.described run.reserved in
      record {
        chunk = run.chunk;
        lines = run.lines;
        index = run.index;
        in_pool = (let inside = run.in_pool in let zones = g.still.zones in omega (arith, inside, zones));
        low = run.low;
        described = ap (λ k. slice_index u.words (descriptor_word k run.chunk)) lanes ∙ t.0;
        reserved = ap (λ k. reserves u (run_at k run.chunk) run.index) lanes ∙ t.1;
        is_block = run.is_block ∙ ap (λ k. block_of_run k run.chunk run.lines run.index) (sym lanes);
      }

  chunks_still : (m : NewObject) → IsReservedInChunks v m → IsReservedInChunks u m
  chunks_still m has =
      let lanes = g.still.lanes in
      record {
        zone = has.zone;
        first = has.first;
        count = has.count;
        in_pool = (let inside = has.in_pool in let zones = g.still.zones in omega (arith, inside, zones));
        low = has.low;
        fits = has.fits;
        unused = λ j near. subst (λ k. IsUnusedChunk k u has.zone (has.first + j)) (sym lanes)
            (g.keeps.chunks has.zone (has.first + j) has.in_pool (let fits = has.fits in omega (arith, near, fits)) (has.unused j near));
        is_block = has.is_block ∙ ap (λ k. block_of_chunks k (64 * has.zone + has.first) has.count) (sym lanes);
      }

  pub reserved_still : (m : NewObject) → IsReservedFor v m → IsReservedFor u m
  reserved_still m (inl run) = inl (run_still m run)
  reserved_still m (inr has) = inr (chunks_still m has)

  module _ (o : Opening) (header : Header) (pool : PoolView) (s : StandsAlone o header pool u) where
    abbrev w : ℕ → ℕ
    w = slice_index u.words

    in_run : (k : NewObject) (run : IsReservedInRun u k) → InRun w o.lanes run.chunk run.lines run.index
    in_run k run = let free = reserved_run o header pool u s k run in record { inside = free.inside; described = free.is_run }

    in_chunks : (k : NewObject) (has : IsReservedInChunks u k) → InChunks w o.lanes (64 * has.zone + has.first) has.count
    in_chunks k has = free_in w o.lanes o.zones (64 * has.zone + has.first) has.count (some_count o header pool u s k has) (reserved_chunks o header pool u s k has)

    blocks_apart : (k m : NewObject) (a b : Block) → block_of k ≡ a → block_of m ≡ b → AreDisjoint a b → AreDisjoint (block_of k) (block_of m)
    blocks_apart k m a b is is_too apart = subst (λ (x : Block). AreDisjoint x (block_of m)) (sym is) (subst (AreDisjoint a) (sym is_too) apart)

    apart_by : (own : IsReservedFor u n) → WasFree v u n own → (m : NewObject) → IsReservedFor v m → AreDisjoint (block_of n) (block_of m)
    unfolding run_still chunks_still
    apart_by (inl run) free m (inl other) =
        blocks_apart n m (block_of_run o.lanes run.chunk run.lines run.index) (block_of_run o.lanes other.chunk other.lines other.index) (run_block_is o header pool u s n run) (run_block_is o header pool u s m (run_still m other))
        (runs_apart w o.lanes o.zones run.chunk run.lines run.index other.chunk other.lines other.index (in_run n run) (in_run m (run_still m other))
        (λ same equal. false≢true (sym free ∙ ((λ j. reserves v (run_at v.lanes (same j)) (equal j)) ∙ other.reserved))))
    apart_by (inl run) free m (inr other) =
        blocks_apart n m (block_of_run o.lanes run.chunk run.lines run.index) (block_of_chunks o.lanes (64 * other.zone + other.first) other.count) (run_block_is o header pool u s n run) (chunks_block_is o header pool u s m (chunks_still m other))
        (run_chunks w o.lanes o.zones run.chunk run.lines run.index (64 * other.zone + other.first) other.count (in_run n run) (in_chunks m (chunks_still m other)))
    apart_by (inr has) free m (inl other) =
        blocks_apart n m (block_of_chunks o.lanes (64 * has.zone + has.first) has.count) (block_of_run o.lanes other.chunk other.lines other.index) (chunks_block_is o header pool u s n has) (run_block_is o header pool u s m (run_still m other))
        (turned (block_of_run o.lanes other.chunk other.lines other.index) (block_of_chunks o.lanes (64 * has.zone + has.first) has.count)
        (run_chunks w o.lanes o.zones other.chunk other.lines other.index (64 * has.zone + has.first) has.count (in_run m (run_still m other)) (in_chunks n has)))
    apart_by (inr has) free m (inr other) =
        blocks_apart n m (block_of_chunks o.lanes (64 * has.zone + has.first) has.count) (block_of_chunks o.lanes (64 * other.zone + other.first) other.count) (chunks_block_is o header pool u s n has) (chunks_block_is o header pool u s m (chunks_still m other))
        (chunks_apart w o.lanes o.zones (64 * has.zone + has.first) has.count (64 * other.zone + other.first) other.count (in_chunks n has) (in_chunks m (chunks_still m other))
        (λ bit same from to from_too to_too.
        let low = has.low in let low_too = other.low in
        let zone : has.zone ≡ other.zone = omega (arith, same, low, low_too) in
        let near : bit - has.first < has.count = omega (arith, from, to, low) in
        let near_too : bit - other.first < other.count = omega (arith, from_too, to_too, low_too) in
        let bits : has.first + (bit - has.first) ≡ other.first + (bit - other.first) = omega (arith, from, from_too, low, low_too) in
        false≢true (sym (free (bit - has.first) near) ∙ ((λ j. reserves v (Zone (zone j)) (bits j)) ∙ (other.unused (bit - other.first) near_too).reserved))))

    pub made_apart : (m : NewObject) → IsReservedFor v m → AreDisjoint (block_of n) (block_of m)
    made_apart m before = apart_by g.own g.free m before
