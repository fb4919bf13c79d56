-- A chunk that was reserved may be made a run.
use Rattle.std.proofs.Common.{◌≡◌, ℕ, ◌+◌, ◌*◌, ◌/◌, ◌<◌, ◌≤◌, ◌||◌, ◌-◌, true, false, List, [], ◌∷◌, length, slice_index, slice_set, ⊎_elim, Result, Ok, Err, IfErr, IsErrAnd, sym, ap, ◌∙◌, subst, arith}
use Rattle.std.specs.Int.{bit_at, bit_not, w64}
use Rattle.std.specs.List.{list_any}
use Rattle.std.proofs.lemmas.Bool.{cases_lt}
use Rattle.std.proofs.lemmas.List.{get_or-set_same, get_or_past}
use Rattle.std.proofs.lemmas.List.Folds.{list_any-append}
use Rattle.std.proofs.lemmas.Nat.Bits.{bit_at-zero, bit_at_mask_below}
use Rattle.pm_image.specs.declared.block.Block.{Block}
use Rattle.pm_layout.specs.Sizes.{blocks_of}
use Rattle.pm_layout.specs.declared.shape.Shape.{Shape}
use Rattle.solo_memory.specs.Runs.{Stops}
use Rattle.solo_memory.specs.declared.lane_mem.Stopped.{Stopped}
use Rattle.solo_view.specs.declared.occ.Occ.TheVariants.{Zone}
use Rattle.solo_view.specs.Blocks.{chunk_of, descriptor_word, zone_of}
use Rattle.solo_view.specs.View.{View}
use Rattle.solo_view.specs.Views.{after_all, has_bit, has_chunk, occ_in, reserves, vacated_word}
use Rattle.solo_world.proofs.Resting.{reserved_last}
use Rattle.solo_world.proofs.Vacated.{and_bit, not_bit}
use Rattle.solo_world.specs.Entries.{is_entered}
use Rattle.solo_world.specs.Records.{is_recorded}
use Rattle.solo_world.specs.Sequences.{IsReady, Ready, Runs, Sequence}
use Rattle.solo_chunks.proofs.ChunkBits.{bit_inside}
use Rattle.solo_chunks.specs.Chunks.{AreFree, AreLeastFree, HasGot, chunk_block, taken_chunks}
use Rattle.solo_fresh.proofs.MakingRuns.{behind_small, make_lawful}
use Rattle.solo_fresh.specs.Made.{CanMakeRun, IsRunMade, touches_chunk}
use Rattle.solo_fresh.specs.Making.{behind_first, makes_run, page_in, run_at}
use Rattle.solo_undo.specs.Working.{IsWorking}
use Rattle.solo_blocks.proofs.Searching.{IsLeft, left_by_search, works_still}
use Rattle.solo_blocks.proofs.SetBits.{all_set}
use Rattle.solo_blocks.specs.NewRuns.{HasNewRun, HasStopped, IsUnused, MayMakeRun, first_block}

pub if_err : {T E : Type 0} (P Q : E → Type 0) (r : Result T E) → IsErrAnd r Q → ((e : E) → Q e → P e) → IfErr r P
if_err P Q (Ok x) is leads = absurd is
if_err P Q (Err e) is leads = leads e is

-- the bit of a run's first block stays as the others are given back
vacated_first : (lines : ℕ) → 0 < blocks_of lines → (x : ℕ) → bit_at x 0 ≡ 1 → bit_at (vacated_word (behind_first lines) x) 0 ≡ 1
vacated_first lines some x set =
    let even : bit_at (behind_first lines) 0 ≡ 0 = bit_at_mask_below 1 (blocks_of lines) 0 (omega arith) in
    and_bit x (bit_not w64 (behind_first lines)) 0 set (not_bit (behind_first lines) 0 (behind_small lines some) (omega arith) (λ one. absurd (omega (arith, even, one))))

-- a chunk's block tells which it is
same_zone : (lanes zone first other place : ℕ) → first < 64 → place < 64 → chunk_block lanes zone first 1 ≡ chunk_block lanes other place 1 → zone ≡ other
same_zone lanes zone first other place low small same = let places = ap (λ (b : Block). b.place) same in omega (arith, places, low, small)

same_first : (lanes zone first other place : ℕ) → first < 64 → place < 64 → chunk_block lanes zone first 1 ≡ chunk_block lanes other place 1 → first ≡ place
same_first lanes zone first other place low small same = let places = ap (λ (b : Block). b.place) same in omega (arith, places, low, small)

-- and the least free chunk is free
pub least_is_free : (v : View) (zone chunk : ℕ) → chunk < 64 → AreLeastFree v 1 (chunk_block v.lanes zone chunk 1) → AreFree v 1 zone chunk
least_is_free v zone chunk low least =
    let small : least.first < 64 = (let within = least.free.in_zone in omega (arith, within)) in
    let same : chunk_block v.lanes least.zone least.first 1 ≡ chunk_block v.lanes zone chunk 1 = sym least.is_block in
    subst (λ z. AreFree v 1 z chunk) (same_zone v.lanes least.zone least.first zone chunk small low same)
    (subst (AreFree v 1 least.zone) (same_first v.lanes least.zone least.first zone chunk small low same) least.free)

module _ (lanes zone chunk : ℕ) (low : chunk < 64) where
  pub zone_is : zone_of lanes (page_in lanes zone chunk) ≡ zone
  zone_is = omega (arith, low)

  pub chunk_is : chunk_of lanes (page_in lanes zone chunk) ≡ chunk + 1
  chunk_is = omega (arith, low)

module _ (v : View) (shape : Shape) (may : MayMakeRun v shape) (lines : ℕ) (class : 0 < blocks_of lines) (at : View → Type 0) (block : Block) (got : HasGot at v 1 block) (least : AreLeastFree v 1 block) where
  abbrev pub zone : ℕ
  zone = got.zone

  abbrev pub chunk : ℕ
  chunk = got.first

  abbrev pub w : View
  w = got.searched.view

  pub below : chunk < 64
  below = let within = got.in_zone in omega (arith, within)

  left : IsLeft v w
  left = left_by_search v w got.searched.steps got.searched.searches may.alone may.locked

  lanes_same : w.lanes ≡ v.lanes
  lanes_same = ap (λ (z : View). z.lanes) got.searched.kept.same

  zones_same : w.zones ≡ v.zones
  zones_same = ap (λ (z : View). z.zones) got.searched.kept.same

  pub works : IsWorking w
  works = works_still v w got.searched.kept left may.working

  free : AreFree v 1 zone chunk
  free = least_is_free v zone chunk below (subst (AreLeastFree v 1) got.is_block least)

  unused : IsUnused v (page_in v.lanes zone chunk)
  unused = may.unused zone chunk got.in_zones below (free.clear chunk (omega arith) (omega arith))

  -- what was reserved is the chunk
  has_it : has_chunk w (page_in v.lanes zone chunk) ≡ true
  has_it = subst (λ lanes. reserves w (Zone (zone_of lanes (page_in v.lanes zone chunk))) (chunk_of lanes (page_in v.lanes zone chunk) - 1) ≡ true) (sym lanes_same)
      (subst (λ z. reserves w (Zone z) (chunk_of v.lanes (page_in v.lanes zone chunk) - 1) ≡ true) (sym (zone_is v.lanes zone chunk below))
      (subst (λ bit. reserves w (Zone zone) bit ≡ true) (let e = chunk_is v.lanes zone chunk below in omega (arith, e))
      (reserved_last w v.reserved (taken_chunks zone chunk 1) got.searched.reserved chunk (bit_inside chunk 1 chunk (omega arith) (omega arith)))))

  none_of_run : (bit : ℕ) → reserves w (run_at (page_in v.lanes zone chunk)) bit ≡ false
  none_of_run bit =
      let has = has_bit (run_at (page_in v.lanes zone chunk)) bit in
      ap (list_any has) got.searched.reserved ∙ list_any-append has v.reserved (taken_chunks zone chunk 1 ∷ []) ∙ ap (λ b. b || false) (unused.no_block bit)

  pub can : CanMakeRun w (page_in v.lanes zone chunk) lines
  can = record {
    of_pool =
        let inside = got.in_zones in let zones = zones_same in let lanes = lanes_same in let low = below in let number = ap (λ n. chunk_of n (page_in v.lanes zone chunk)) lanes_same ∙ chunk_is v.lanes zone chunk below in
        ((omega (arith, lanes), omega (arith, number)), omega (arith, inside, zones, lanes, low));
    size = let size = ap (length {A = ℕ}) left.words in let was = may.search.shape.size in let lanes = may.search.shape.lanes in let zones = may.search.shape.zones in let lanes_now = lanes_same in let zones_now = zones_same in omega (arith, size, was, lanes, zones, lanes_now, zones_now);
    class = class;
    reserved = has_it;
    undescribed = ap (λ ws. slice_index ws (descriptor_word w.lanes (page_in v.lanes zone chunk))) left.words ∙ ap (λ n. slice_index v.words (descriptor_word n (page_in v.lanes zone chunk))) lanes_same ∙ unused.undescribed;
    no_block = none_of_run;
    drained = ap (touches_chunk w.lanes (page_in v.lanes zone chunk)) (ap (λ (z : View). z.changes) got.searched.kept.same) ∙ (ap (λ n. touches_chunk n (page_in v.lanes zone chunk) v.changes) lanes_same ∙ unused.drained);
    unlogged = λ u here.
        let log = ap (λ (z : View). z.log) got.searched.kept.same in
        (ap (λ l. is_recorded l.records u) log ∙ (unused.unlogged u here).0, ap (λ l. is_entered l.entries u) log ∙ (unused.unlogged u here).1);
  }

  pub lawful : Ready w (makes_run w.lanes (page_in w.lanes zone chunk) lines w) × IsRunMade w (page_in w.lanes zone chunk) lines (after_all w (makes_run w.lanes (page_in w.lanes zone chunk) lines w))
  lawful =
      let page : ℕ = page_in w.lanes zone chunk in
      make_lawful w page lines works (subst (λ n. CanMakeRun w (page_in n zone chunk) lines) (sym lanes_same) can)

  -- the bit of the run's first block is set
  first_set : bit_at (occ_in (after_all w (makes_run w.lanes (page_in w.lanes zone chunk) lines w)) (run_at (page_in w.lanes zone chunk))) 0 ≡ 1
  first_set =
      let page : ℕ = page_in w.lanes zone chunk in
      let x : ℕ = slice_index w.run_words page in
      let here : 4096 * page / 4096 ≡ page = omega arith in
      let set : bit_at x 0 ≡ 1 =
      ap (λ n. bit_at (slice_index w.run_words n) 0) (sym here)
      ∙ (ap (λ n. bit_at (occ_in w (run_at (page_in n zone chunk))) 0) lanes_same ∙ all_set v w got.searched.steps got.searched.searches may.alone (run_at (page_in v.lanes zone chunk)) 0 (unused.closed 0 (omega arith))) in
      let left_set = vacated_first lines class x set in
      let inside : page < length w.run_words = ⊎_elim
      (λ (in_it : page < length w.run_words). in_it)
      (λ (past : length w.run_words ≤ page). let none = ap (λ n. bit_at n 0) (get_or_past w.run_words page 0 past) ∙ bit_at-zero 0 in absurd (omega (arith, none, set)))
      (cases_lt page (length w.run_words)) in
      ap (λ (ws : List ℕ). bit_at (slice_index ws (4096 * page / 4096)) 0) lawful.1.occupied
      ∙ (ap (λ n. bit_at (slice_index (slice_set w.run_words page (vacated_word (behind_first lines) x)) n) 0) here ∙ (ap (λ n. bit_at n 0) (get_or-set_same w.run_words page (vacated_word (behind_first lines) x) 0 inside) ∙ left_set))

  -- and by however the sequence is spelled that makes it a run
  module _ (made : Sequence) (same : made ≡ makes_run w.lanes (page_in w.lanes zone chunk) lines) where
    pub is_ready : IsReady at made
    unfolding IsReady
    is_ready = subst (λ s. (u : View) × (at u × Ready u (s u))) (sym same) (w, (got.searched.there, lawful.0))

    least_here : AreLeastFree v 1 (chunk_block v.lanes zone chunk 1)
    least_here = subst (AreLeastFree v 1) got.is_block least

    module _ (new : View → Type 0) where
      pub has_new : Runs {T = Unit {0}} at new made (Ok tt) → (first : Block) → first ≡ first_block v.lanes zone chunk lines → HasNewRun new v lines first
      unfolding Runs
      has_new ran first is = record {
        zone = zone;
        chunk = chunk;
        in_zone = below;
        is_block = is;
        least = least_here;
        made = record {
          view = w;
          steps = got.searched.steps;
          searches = got.searched.searches;
          kept = got.searched.kept;
          there = subst (λ s. (u : View) → at u → Ready u (s u) → new (after_all u (s u))) same ran w got.searched.there lawful.0;
          reserved = got.searched.reserved;
          zones = got.searched.zones;
          holds = (lawful.1, first_set);
        };
      }

      pub has_stopped : (stopped : Stopped) → Runs {T = Unit {0}} at new made (Err stopped) → HasStopped new v lines
      unfolding Runs
      has_stopped stopped ran = record {
        zone = zone;
        chunk = chunk;
        in_zone = below;
        least = least_here;
        made = record {
          view = w;
          steps = got.searched.steps;
          searches = got.searched.searches;
          kept = got.searched.kept;
          there = subst (λ s. (u : View) → at u → Ready u (s u) → Stops new u (s u)) same ran w got.searched.there lawful.0;
          reserved = got.searched.reserved;
          zones = got.searched.zones;
          holds = tt;
        };
      }

  -- the run as the code has it
  module _ (other : Shape) (is_shape : other ≡ shape) where
    lanes_are : other.lanes ≡ v.lanes
    lanes_are = ap (λ (s : Shape). s.lanes) is_shape ∙ sym may.search.shape.lanes

    pub is_chunk : block ≡ chunk_block other.lanes zone chunk 1
    is_chunk = got.is_block ∙ ap (λ lanes. chunk_block lanes zone chunk 1) (sym lanes_are)

    pub zone_inside : zone < other.zones
    zone_inside = let inside = got.in_zones in let zones = may.search.shape.zones in let here = ap (λ (s : Shape). s.zones) is_shape in omega (arith, inside, zones, here)

    pub made_so : (z k n : ℕ) → z ≡ zone → k ≡ chunk → n ≡ lines → makes_run other.lanes (page_in other.lanes z k) n ≡ makes_run w.lanes (page_in w.lanes zone chunk) lines
    made_so z k n zone_here chunk_here lines_here =
        let lanes : other.lanes ≡ w.lanes = lanes_are ∙ sym lanes_same in
        λ i. makes_run (lanes i) (page_in (lanes i) (zone_here i) (chunk_here i)) (lines_here i)

  pub first_so : (let b : Block = record { place = block.place + 64; lines = lines } in b) ≡ first_block v.lanes zone chunk lines
  first_so =
      let places = ap (λ (b : Block). b.place) got.is_block in
      let here : block.place + 64 ≡ 4096 * page_in v.lanes zone chunk + 64 = omega (arith, places) in
      ap (λ place. let b : Block = record { place = place; lines = lines } in b) here
