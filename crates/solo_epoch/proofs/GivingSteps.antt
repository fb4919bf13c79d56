-- The step that gives back a block: the bits that it clears, that a lane alone may make it where it reserved the block and has nothing undrained, and what it leaves.
use Rattle.std.proofs.Common.{◌≡◌, ◌≢◌, ◌⊎◌, ◌↔◌, ⊎_elim, inl, inr, ℕ, ◌+◌, ◌-◌, ◌*◌, ◌/◌, ◌%◌, ◌^◌, ◌<◌, ◌≤◌, ◌++◌, true, false, Bool, ◌&&◌, eqb, leb, All, List, [], ◌∷◌, slice_index, sym, ap, ◌∙◌, subst, arith}
use Rattle.std.specs.Int.{bit_at}
use Rattle.std.specs.List.{list_any}
use Rattle.std.proofs.lemmas.Bool.{and_from, and_parts, cases_eq, cond-false, eq-eqb, eqb-true, false_from_ne_true, false≢true}
use Rattle.std.proofs.lemmas.List.Elements.{All-nil}
use Rattle.std.proofs.lemmas.List.Folds.{Any-from_list_any, list_any-from_Any}
use Rattle.std.proofs.Math.Pow.{pow-lt}
use Rattle.pm_layout.specs.Sizes.{blocks_of}
use Rattle.pm_layout.specs.declared.shape.Shape.{Shape}
use Rattle.pm_image.specs.declared.block.Block.{Block}
use Rattle.pm_image.specs.Blocks.{chunk_word}
use Rattle.solo_view.specs.declared.change.Change.{Change}
use Rattle.solo_view.specs.declared.occ.Occ.{Occ}
use Rattle.solo_view.specs.declared.occ.Occ.TheVariants.{Run, Zone}
use Rattle.solo_view.specs.Blocks.{covers, descriptor_word, is_chunk, is_run, page_told, zone_of}
use Rattle.solo_view.specs.Held.{is_reserved}
use Rattle.solo_view.specs.Log.{Log, Phase, no_log}
use Rattle.solo_view.specs.Log.Phase.{Idle, Open}
use Rattle.solo_view.specs.Steps.Step.{Vacate}
use Rattle.solo_view.specs.View.{Taken, View}
use Rattle.solo_view.specs.Views.{after, all_of_run, chunk_bit, exchanged, has_bit, has_chunk, is_made, is_same_occ, reserves, without_taken, zone_at}
use Rattle.solo_world.specs.Entries.{is_entered}
use Rattle.solo_world.specs.Heap.{IsOcc}
use Rattle.solo_world.specs.Lanes.{IsOfShape}
use Rattle.solo_world.specs.Lawful.{Allowed, IsEarly, IsGivenWhole, LiesInside, MayVacate}
use Rattle.solo_world.specs.Records.{is_recorded}
use Rattle.solo_world.proofs.Reserved.{occ_same, same_occ}
use Rattle.solo_world.proofs.Vacated.{vacated_after, vacated_before, vacated_gone}
use Rattle.solo_chunks.specs.Chunks.{chunk_bits}
use Rattle.solo_chunks.proofs.ChunkBits.{bits_small}
use Rattle.solo_runs.specs.Runs.{page_of, run_of}
use Rattle.solo_blocks.specs.Giving.{MayGiveBackBlock, vacates_block}
use Rattle.solo_blocks.proofs.GivenBack.{run_lines, vacates_its_bit, vacates_its_chunks, vacates_part, vacates_whole}
use Rattle.solo_reclaim.specs.KeptBlocks.{IsBitOf, Keeps, KeepsChunks, KeepsInRun}
use Rattle.solo_reclaim.specs.KnownTaken.{KnowsTaken}
use Rattle.solo_reclaim.proofs.BlockBits.{kept_inside}
use Rattle.solo_reclaim.proofs.GivingBack.{giving_keeps, left_is}
use Rattle.solo_epoch.specs.Epochs.{ReservesNoRun}
use Rattle.solo_epoch.proofs.EntryBits.{pow_bit, row_bit}

-- ---- the bits

-- the step clears bits of one occupancy word, and these are the block's
pub record ClearsBits (lanes : ℕ) (block : Block) : Type 0 where
  pub word : Occ
  pub bits : ℕ
  pub is : vacates_block lanes block ≡ Vacate word bits
  pub its : (at : Occ) (bit : ℕ) → IsBitOf lanes block at bit ↔ ((at ≡ word) × (bit_at bits bit ≡ 1))

module _ (lanes : ℕ) (block : Block) where
  abbrev page : ℕ
  page = block.place / 4096

  abbrev first : ℕ
  first = chunk_bit lanes page

  abbrev count : ℕ
  count = block.lines / 64

  abbrev index : ℕ
  index = (block.place % 4096 / 64 - 1) / block.lines

  clears_chunks : block.lines % 64 ≡ 0 → ClearsBits lanes block
  clears_chunks whole = record { word = zone_at lanes page; bits = chunk_bits first count; is = vacates_whole lanes block whole; its = λ at bit. (forth at bit, λ is. let row = (row_bit first count bit).0 is.1 in inr (whole, is.0, row.0, row.1)) } where
    forth : (at : Occ) (bit : ℕ) → IsBitOf lanes block at bit → (at ≡ zone_at lanes page) × (bit_at (chunk_bits first count) bit ≡ 1)
    forth at bit (inl is) = absurd (is.0 whole)
    forth at bit (inr is) = (is.1, (row_bit first count bit).1 (is.2, is.3))

  clears_in_run : block.lines % 64 ≢ 0 → ClearsBits lanes block
  clears_in_run part = record { word = Run (page * 4096); bits = 2 ^ index; is = vacates_part lanes block part; its = λ at bit. (forth at bit, λ is. inl (part, is.0, (pow_bit index bit).0 is.1)) } where
    forth : (at : Occ) (bit : ℕ) → IsBitOf lanes block at bit → (at ≡ Run (page * 4096)) × (bit_at (2 ^ index) bit ≡ 1)
    forth at bit (inl is) = (is.1, (pow_bit index bit).1 is.2)
    forth at bit (inr is) = absurd (part is.0)

  pub clears : ClearsBits lanes block
  clears = ⊎_elim clears_chunks clears_in_run (cases_eq (block.lines % 64) 0)

-- ---- that it may be made

-- no word of what it reserved is recorded or entered
abbrev pub IsUnlogged : View → Type 0
IsUnlogged v = (i : ℕ) → is_reserved v i ≡ true → (is_recorded v.log.records i ≡ false) × (is_entered v.log.entries i ≡ false)

-- The lane is early in its call, if any is open, in a pool of this shape, with nothing undrained, and logged no word of what it reserved. It knows what is taken, and no
-- chunk that it reserved is a run.
pub record MayGive (v : View) (shape : Shape) : Type 0 where
  pub early : IsEarly v.log.phase
  pub unlogged : IsUnlogged v
  pub drained : v.changes ≡ []
  pub of_shape : IsOfShape v shape
  pub no_run : ReservesNoRun v.lanes v
  pub knows : KnowsTaken v

-- where its log is empty no call is open, or one in which nothing was done
pub early_where_empty : (v : View) → (v.log ≡ no_log Idle) ⊎ (v.log ≡ no_log (Open [] [])) → IsEarly v.log.phase
early_where_empty v = ⊎_elim (early_by Idle tt) (early_by (Open [] []) tt) where
  early_by : (phase : Phase) → IsEarly phase → v.log ≡ no_log phase → IsEarly v.log.phase
  early_by phase early is = subst IsEarly (sym (ap (λ (log : Log). log.phase) is)) early

pub unlogged_where_empty : (v : View) → (v.log ≡ no_log Idle) ⊎ (v.log ≡ no_log (Open [] [])) → IsUnlogged v
unlogged_where_empty v empty i own = ⊎_elim (unlogged_by Idle) (unlogged_by (Open [] [])) empty where
  unlogged_by : (phase : Phase) → v.log ≡ no_log phase → (is_recorded v.log.records i ≡ false) × (is_entered v.log.entries i ≡ false)
  unlogged_by phase is = (ap (λ (log : Log). is_recorded log.records i) is, ap (λ (log : Log). is_entered log.entries i) is)

-- ---- words and bits

-- what covers the word is one bit
pub record HasCoveringBit (lanes : ℕ) (words : List ℕ) (at : Occ) (bits i : ℕ) : Type 0 where
  pub bit : ℕ
  pub set : bit_at bits bit ≡ 1
  pub any : (more : ℕ) → bit_at more bit ≡ 1 → covers lanes words at more i ≡ true

pub covering : (lanes : ℕ) (words : List ℕ) (at : Occ) (bits i : ℕ) → covers lanes words at bits i ≡ true → HasCoveringBit lanes words at bits i
covering lanes words (Run place) bits i covered =
    let bit : ℕ = (i % 512 / 8 - 1) / (slice_index words (descriptor_word lanes (place / 4096)) / 256) in
    let there : Bool = eqb (i / 512) (place / 4096) && leb 8 (i % 512) in
    let both = and_parts there (eqb (bit_at bits bit) 1) covered in
    record { bit = bit; set = eqb-true (bit_at bits bit) 1 both.1; any = λ more set. and_from there (eqb (bit_at more bit) 1) both.0 (eq-eqb (bit_at more bit) 1 set) }
covering lanes words (Zone zone) bits i covered =
    let bit : ℕ = chunk_bit lanes (page_told lanes i) in
    let there : Bool = is_chunk lanes (page_told lanes i) && eqb (zone_of lanes (page_told lanes i)) zone in
    let both = and_parts there (eqb (bit_at bits bit) 1) covered in
    record { bit = bit; set = eqb-true (bit_at bits bit) 1 both.1; any = λ more set. and_from there (eqb (bit_at more bit) 1) both.0 (eq-eqb (bit_at more bit) 1 set) }

-- so it is reserved where that bit is
pub word_reserved : (v : View) (at : Occ) (bit i : ℕ) → reserves v at bit ≡ true → ((more : ℕ) → bit_at more bit ≡ 1 → covers v.lanes v.words at more i ≡ true) → is_reserved v i ≡ true
word_reserved v at bit i own covered =
    let t = Any-from_list_any (has_bit at bit) v.reserved own in
    let both = and_parts (is_same_occ at t.1.at) (eqb (bit_at t.1.bits bit) 1) t.4 in
    list_any-from_Any (λ (b : Taken). covers v.lanes v.words b.at b.bits i) v.reserved
    (t.0, t.1, t.2, t.3, subst (λ (o : Occ). covers v.lanes v.words o t.1.bits i ≡ true) (occ_same at t.1.at both.0) (covered t.1.bits (eqb-true (bit_at t.1.bits bit) 1 both.1)))

-- and is there a bit where it is reserved
pub record HasReservedBit (v : View) (i : ℕ) : Type 0 where
  pub at : Occ
  pub bit : ℕ
  pub reserved : reserves v at bit ≡ true
  pub any : (more : ℕ) → bit_at more bit ≡ 1 → covers v.lanes v.words at more i ≡ true

pub reserved_by_bit : (v : View) (i : ℕ) → is_reserved v i ≡ true → HasReservedBit v i
reserved_by_bit v i own =
    let t = Any-from_list_any (λ (b : Taken). covers v.lanes v.words b.at b.bits i) v.reserved own in
    let c = covering v.lanes v.words t.1.at t.1.bits i t.4 in
    record {
      at = t.1.at;
      bit = c.bit;
      reserved = list_any-from_Any (has_bit t.1.at c.bit) v.reserved (t.0, t.1, t.2, t.3, and_from (is_same_occ t.1.at t.1.at) (eqb (bit_at t.1.bits c.bit) 1) (same_occ t.1.at) (eq-eqb (bit_at t.1.bits c.bit) 1 c.set));
      any = c.any;
    }

module _ (v : View) (shape : Shape) (may : MayGive v shape) where
  inside : (at : Occ) → IsOcc v.lanes v.zones at → LiesInside v at
  inside (Run place) of = let low = of.2 in let size = may.of_shape.size in let lanes = may.of_shape.lanes in let zones = may.of_shape.zones in omega (arith, low, size, lanes, zones)
  inside (Zone zone) of = let low : zone < v.zones = of in let zones = may.of_shape.zones in let few = shape.zones_to in omega (arith, low, zones, few)

  -- what it reserved it has
  has_reserved : (at : Occ) (bit : ℕ) → IsOcc v.lanes v.zones at → reserves v at bit ≡ true → list_any (has_bit at bit) (exchanged v at) ≡ true
  has_reserved (Run place) bit of own = ap (list_any (has_bit (Run place) bit))
      (cond-false (is_made v (place / 4096)) (without_taken (zone_at v.lanes (place / 4096)) (2 ^ chunk_bit v.lanes (place / 4096)) v.reserved ++ all_of_run v place ∷ []) v.reserved (may.no_run (place / 4096) of.1)) ∙ own
  has_reserved (Zone zone) bit of own = own

  given_whole : (at : Occ) (bits : ℕ) → IsOcc v.lanes v.zones at → IsGivenWhole v at bits
  given_whole (Run place) bits of = λ made. absurd (false≢true (sym (may.no_run (place / 4096) of.1) ∙ made))
  given_whole (Zone zone) bits of = λ page chunk same set. may.no_run page chunk

  may_vacate : (at : Occ) (bits : ℕ) → IsOcc v.lanes v.zones at → bits < 2 ^ 64 → ((bit : ℕ) → bit_at bits bit ≡ 1 → reserves v at bit ≡ true) → MayVacate v at bits
  may_vacate at bits of small own = record {
    there = record { of_pool = of; inside = inside at of };
    small = small;
    own = λ bit set. inl (has_reserved at bit of (own bit set));
    whole = given_whole at bits of;
    drained = subst (All (λ (c : Change). covers v.lanes v.words at bits c.word ≡ false)) (sym may.drained) (All-nil (λ (c : Change). covers v.lanes v.words at bits c.word ≡ false));
    unlogged = λ w covered. let c = covering v.lanes v.words at bits w covered in may.unlogged w (word_reserved v at c.bit w (own c.bit c.set) c.any);
    early = may.early;
  }

  -- the block of a run
  give_in_run : (block : Block) → KeepsInRun v block → MayGiveBackBlock v block
  give_in_run block is =
      let lines = ap (λ (b : Block). b.lines) is.is_block in
      let within : is.index < blocks_of is.lines = kept_inside v may.knows block is in
      inr (record {
        chunk = is.chunk;
        index = is.index;
        in_run = subst (λ n. is.index < blocks_of n) (sym lines) within;
        is_block = is.is_block ∙ (λ j. let b : Block = record { place = place_is j + 64 * (1 + sym lines j * is.index); lines = sym lines j } in b);
        may = may_vacate (run_of v.lanes is.chunk) (2 ^ is.index) of_pool small (λ bit set. ap (reserves v (run_of v.lanes is.chunk)) ((pow_bit is.index bit).0 set) ∙ is.reserved);
      }) where
        place_is : 8 * chunk_word v.lanes is.chunk ≡ 4096 * page_of v.lanes is.chunk
        place_is = omega arith

        of_pool : IsOcc v.lanes v.zones (run_of v.lanes is.chunk)
        of_pool = let low = is.in_pool in (omega arith, (omega arith, omega arith), omega (arith, low))

        small : 2 ^ is.index < 2 ^ 64
        small = pow-lt {i = is.index} {j = 64} is.low

  -- whole chunks
  give_chunks : (block : Block) → 1 ≤ block.lines → KeepsChunks v block → MayGiveBackBlock v block
  give_chunks block some is =
      let lines = ap (λ (b : Block). b.lines) is.is_block in
      inl (record {
        zone = is.zone;
        first = is.first;
        count = is.count;
        some = omega (arith, some, lines);
        in_zone = is.fits;
        is_block = is.is_block ∙ (λ j. let b : Block = record { place = place_is j; lines = 64 * is.count } in b);
        may = may_vacate (Zone is.zone) (chunk_bits is.first is.count) is.in_pool (bits_small is.first is.count is.fits) own;
      }) where
        place_is : 8 * chunk_word v.lanes (64 * is.zone + is.first) ≡ 4096 * (2 + 2 * v.lanes + 65 * is.zone + is.first)
        place_is = let low = is.low in omega (arith, low)

        own : (bit : ℕ) → bit_at (chunk_bits is.first is.count) bit ≡ 1 → reserves v (Zone is.zone) bit ≡ true
        own bit set =
            let row = (row_bit is.first is.count bit).0 set in
            let here : is.first + (bit - is.first) ≡ bit = (let from = row.0 in omega (arith, from)) in
            ap (reserves v (Zone is.zone)) (sym here) ∙ (is.unused (bit - is.first) (let from = row.0 in let to = row.1 in omega (arith, from, to))).reserved

  pub may_give : (block : Block) → 1 ≤ block.lines → Keeps v block → MayGiveBackBlock v block
  may_give block some (inl is) = give_in_run block is
  may_give block some (inr is) = give_chunks block some is

-- the lane may make the step
pub allowed : (v : View) (block : Block) → MayGiveBackBlock v block → Allowed v (vacates_block v.lanes block)
allowed v block (inl of) =
    subst (Allowed v) (sym (vacates_whole v.lanes block (let lines = ap (λ (b : Block). b.lines) of.is_block in omega (arith, lines)) ∙ vacates_its_chunks v.lanes of.zone of.first of.count block of.some of.in_zone of.is_block)) of.may
allowed v block (inr of) =
    subst (Allowed v) (sym (vacates_part v.lanes block (run_lines block.lines of.index of.in_run) ∙ vacates_its_bit v.lanes of.chunk of.index block of.in_run of.is_block)) of.may

-- ---- what it leaves

module _ (v : View) (shape : Shape) (may : MayGive v shape) (at : Occ) (bits : ℕ) (vacates : MayVacate v at bits) where
  abbrev w : View
  w = after v (Vacate at bits)

  reserved_before : (other : Occ) (bit : ℕ) → reserves w other bit ≡ true → reserves v other bit ≡ true
  reserved_before other bit has = vacated_before at bits vacates.small other bit v.reserved (sym (left_is v at bits may.knows vacates other bit) ∙ has)

  pub left_reserved : (other : Occ) (bit : ℕ) → bit < 64 → (reserves w other bit ≡ true) ↔ ((reserves v other bit ≡ true) × ((other ≡ at) × (bit_at bits bit ≡ 1) → ⊥))
  left_reserved other bit low = (
    λ has. (
      reserved_before other bit has,
      λ is. vacated_gone at bits vacates.small bit v.reserved low is.1 (ap (λ p. list_any (has_bit p bit) (without_taken at bits v.reserved)) (sym is.0) ∙ (sym (left_is v at bits may.knows vacates other bit) ∙ has)),
    ),
    λ both. left_is v at bits may.knows vacates other bit ∙ vacated_after at bits vacates.small other bit v.reserved low (λ same set. both.1 (same, set)) both.0,
  )

  -- a word that is reserved was
  pub word_before : (i : ℕ) → is_reserved w i ≡ true → is_reserved v i ≡ true
  word_before i own = let b = reserved_by_bit w i own in word_reserved v b.at b.bit i (reserved_before b.at b.bit b.reserved) b.any

  none_made : ReservesNoRun v.lanes w
  none_made page chunk = false_from_ne_true (is_made w page) (λ made.
      let both = and_parts (has_chunk w page) (is_run (slice_index v.words (descriptor_word v.lanes page))) made in
      let before : has_chunk v page ≡ true = reserved_before (zone_at v.lanes page) (chunk_bit v.lanes page) both.0 in
      false≢true (sym (may.no_run page chunk) ∙ and_from (has_chunk v page) (is_run (slice_index v.words (descriptor_word v.lanes page))) before both.1))

  pub gives_still : MayGive w shape
  gives_still = record {
    early = may.early;
    unlogged = λ i own. may.unlogged i (word_before i own);
    drained = may.drained;
    of_shape = record { lanes = may.of_shape.lanes; zones = may.of_shape.zones; size = may.of_shape.size };
    no_run = none_made;
    knows = giving_keeps v (Vacate at bits) may.knows vacates tt;
  }
