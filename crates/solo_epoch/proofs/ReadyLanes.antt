-- A lane that is alone and at work may make objects, as a world says of it.
use Rattle.std.proofs.Common.{◌≡◌, ℕ, ◌-◌, ◌/◌, ◌%◌, ◌<◌, ◌||◌, Bool, true, false, All, Contains, List, None, Option, Some, slice_index, refl, sym, ap, ◌∙◌, subst, arith}
use Rattle.std.specs.Int.{bit_at}
use Rattle.std.specs.List.{list_any}
use Rattle.std.specs.Option.{IfSome}
use Rattle.std.proofs.lemmas.Bool.{and_from, false≢true, false_from_ne_true, or_left}
use Rattle.std.proofs.lemmas.List.Elements.{All-weaker}
use Rattle.std.proofs.lemmas.List.Folds.{Any-from_list_any, list_any-from_Any}
use Rattle.pm_layout.specs.declared.shape.Shape.{Shape}
use Rattle.solo_view.specs.declared.occ.Occ.{Occ}
use Rattle.solo_view.specs.declared.occ.Occ.TheVariants.{Run, Zone}
use Rattle.solo_view.specs.Blocks.{block_at, chunk_of, covers, describes, descriptor_word, is_run, page_told, zone_of}
use Rattle.solo_view.specs.Held.{is_reserved}
use Rattle.solo_view.specs.View.{Lock, Taken, View}
use Rattle.solo_view.specs.Views.{has_bit, has_chunk, occ_in, reserves}
use Rattle.solo_world.specs.Fits.{LaneFits, LockFits}
use Rattle.solo_world.specs.Heap.{IsOcc, has_run_chunk, heap_words}
use Rattle.solo_world.specs.History.{Entry, Flies, settled}
use Rattle.solo_world.specs.Lawful.{IsEarly}
use Rattle.solo_world.specs.Memory.{Memory, occ_at}
use Rattle.solo_world.specs.Memory.Location.{PoolWord}
use Rattle.solo_world.specs.Opening.{Opening}
use Rattle.solo_world.specs.World.{Views, World}
use Rattle.solo_world.proofs.Reserved.{bit_had, in_chunk, in_run, reserved_low, reserved_of_pool, told_here}
use Rattle.solo_fresh.specs.Filled.{HasWholePool}
use Rattle.solo_blocks.specs.NewRuns.{IsThere, MayMakeRun}
use Rattle.solo_alloc.specs.NewObjects.{CanMakeObject}
use Rattle.solo_epoch.specs.Epochs.{IsAtWorkAlone}
use Rattle.solo_epoch.proofs.ClearChunks.{is_unused}
use Rattle.solo_crash.proofs.ReservedBlocks.{found_stands}

module _ (o : Opening) (mem : Memory) (views : Views) (log : List Entry) (decided : ℕ → Bool) (k : ℕ) (world : World o mem views log decided) (inside : k < o.lanes)
    (sees : (i : ℕ) → mem (PoolWord i) ≡ slice_index (views k).words i) (pictures : (at : Occ) → mem (occ_at at) ≡ occ_in (views k) at) (shape : Shape) (work : IsAtWorkAlone (views k) shape) where
  abbrev v : View
  v = views k

  fits : LaneFits o mem (settled o log decided) (Flies log decided k) k v
  fits = world.each_lane k inside

  -- ---- its locks, and its search

  there : All (IsThere v) v.locks
  there = All-weaker (LockFits o mem k) (IsThere v) stands v.locks fits.locks where
    found : (l : Lock) (block : Option ℕ) → IfSome block (λ lines. block_at o.lanes o.words l.line ≡ Some lines) → IfSome block (λ lines. block_at v.lanes v.words l.line ≡ Some lines)
    found l None none = tt
    found l (Some lines) is = ap (λ n. block_at n v.words l.line) fits.lane.lanes ∙ (found_stands o mem views log decided k world inside sees l.line ∙ is)

    stands : (l : Lock) → LockFits o mem k l → IsThere v l
    stands l fit = found l l.block fit.found

  may_run : MayMakeRun v shape
  may_run = record {
    search = record { shape = work.of_shape; early = subst IsEarly (sym work.working.is_open) tt; unlocked = work.unlocked };
    alone = work.alone;
    working = work.working;
    locked = there;
    pictured = work.zones;
    unused = λ zone chunk in_pool low clear. is_unused o mem views log decided k world inside sees pictures work.plain zone chunk (let zones = fits.lane.zones in omega (arith, zones, in_pool)) low clear;
  }

  -- ---- its pool

  no_bitmap : (w : ℕ) → is_reserved v w ≡ true → describes v.lanes w ≡ false → w % 512 ≡ 0 → is_run (slice_index v.words (descriptor_word v.lanes (w / 512))) ≡ false
  no_bitmap w own plain first =
      let t = Any-from_list_any (λ (b : Taken). covers v.lanes v.words b.at b.bits w) v.reserved own in by_occ t.1.at t.1 refl (t.0, t.2, t.3) t.4
    where
      by_occ : (at : Occ) (b : Taken) → b.at ≡ at → Contains v.reserved b → covers v.lanes v.words b.at b.bits w ≡ true → is_run (slice_index v.words (descriptor_word v.lanes (w / 512))) ≡ false
      by_occ (Run place) b is there covered = let c = in_run v.lanes v.words place b.bits w (ap (λ x. covers v.lanes v.words x b.bits w) (sym is) ∙ covered) in let beyond = c.beyond in absurd (omega (arith, beyond, first))
      by_occ (Zone zone) b is there covered =
          let c = in_chunk v.lanes v.words zone b.bits w (ap (λ x. covers v.lanes v.words x b.bits w) (sym is) ∙ covered) in
          let page : ℕ = page_told v.lanes w in
          let at : page ≡ w / 512 = told_here v.lanes w plain in
          let had : has_bit b.at (chunk_of v.lanes page - 1) b ≡ true = bit_had b (chunk_of v.lanes page - 1) c.set in
          let has : has_chunk v page ≡ true =
          list_any-from_Any (has_bit (Zone (zone_of v.lanes page)) (chunk_of v.lanes page - 1)) v.reserved (there.0, b, there.1, there.2, ap (λ x. has_bit x (chunk_of v.lanes page - 1) b) (ap Zone c.zoned ∙ sym is) ∙ had) in
          ap (λ p. is_run (slice_index v.words (descriptor_word v.lanes p))) (sym at)
          ∙ false_from_ne_true (is_run (slice_index v.words (descriptor_word v.lanes page))) (λ run. false≢true (sym (work.no_run page c.chunk) ∙ and_from (has_chunk v page) (is_run (slice_index v.words (descriptor_word v.lanes page))) has run))

  whole : HasWholePool v
  whole = record {
    lane = let lane = fits.lane.lane in let lanes = fits.lane.lanes in omega (arith, lane, lanes, inside);
    size = let long = fits.lane.size in let size = world.sound.size in let lanes = fits.lane.lanes in let zones = fits.lane.zones in omega (arith, long, size, lanes, zones);
    of_pool = subst (λ n. All (λ (t : Taken). IsOcc n v.zones t.at) v.reserved) (sym fits.lane.lanes) (subst (λ n. All (λ (t : Taken). IsOcc o.lanes n t.at) v.reserved) (sym fits.lane.zones) fits.blocks.of_pool);
    no_bitmap = no_bitmap;
  }

  taken : (at : Occ) (bit : ℕ) → reserves v at bit ≡ true → bit_at (occ_in v at) bit ≡ 1
  taken at bit own =
      ap (λ x. bit_at x bit) (sym (pictures at))
      ∙ world.heap.held k at bit inside (reserved_of_pool o (heap_words o mem) v at bit fits.blocks own) (reserved_low o (heap_words o mem) v at bit fits.blocks own)
      (or_left (reserves v at bit || has_run_chunk v at) (list_any (has_bit at bit) v.freed) (or_left (reserves v at bit) (has_run_chunk v at) own))

  pub may_make : CanMakeObject v shape
  may_make = record { run = may_run; pool = whole; pictured = record { runs = work.runs; taken = taken } }
