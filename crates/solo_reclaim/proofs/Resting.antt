-- A lane that rests alone: one that freed chunks, and as it reserves blocks of a run; for the tests.
use Rattle.std.proofs.Common.{◌≡◌, ◌≢◌, ◌⊎◌, inl, inr, ⊎_elim, ℕ, ◌+◌, ◌*◌, ◌/◌, ◌^◌, ◌<◌, ◌||◌, Bool, true, false, All, bit_and, bit_or, eqb, List, [], ◌∷◌, length, length-set, set, slice_index, None, refl, sym, ap, ◌∙◌, subst, arith}
use Rattle.std.specs.Int.{bit_at, bit_not, w64}
use Rattle.std.specs.List.{list_any}
use Rattle.std.proofs.lemmas.Bool.{and_parts, cases_eq, eqb-true, false_from_ne_true, false≢true, or_cases, or_left, or_right}
use Rattle.std.proofs.lemmas.List.{get_or-set_other, get_or-set_same, set-get_or}
use Rattle.std.proofs.lemmas.List.Folds.{list_any-append}
use Rattle.std.proofs.lemmas.Nat.Bits.{bit_at-zero}
use Rattle.pm_image.specs.declared.block.Block.{Block}
use Rattle.pm_layout.specs.declared.shape.Shape.{Shape}
use Rattle.solo_memory.specs.Solo.{Sees, Solo}
use Rattle.solo_view.specs.declared.occ.Occ.{Occ}
use Rattle.solo_view.specs.declared.occ.Occ.TheVariants.{Run, Zone}
use Rattle.solo_view.specs.Founds.{FoundAlone}
use Rattle.solo_view.specs.Occupancy.{IsOccupancy, is_taken}
use Rattle.solo_view.specs.Blocks.{descriptor_word, is_run}
use Rattle.solo_view.specs.Steps.Step.{Occupy}
use Rattle.solo_view.specs.View.{Taken, View}
use Rattle.solo_view.specs.Views.{after, chunk_bit, has_bit, is_same_occ, occ_in, reserves, zone_at}
use Rattle.solo_world.specs.Heap.{IsOcc, has_run_chunk, has_taken}
use Rattle.solo_world.specs.Lawful.{HasOcc}
use Rattle.solo_world.proofs.HeapWords.{no_run_taken}
use Rattle.solo_world.proofs.Reserved.{bit_had, is_chunk_from, occ_same}
use Rattle.solo_world.proofs.Resting.{first_view}
use Rattle.solo_world.proofs.Vacated.{and_bit, and_bits, not_bit, not_both, or_bit_left, or_bit_right, or_bits}
use Rattle.solo_reclaim.specs.KnownTaken.{IsKept, KnowsTaken}
use Rattle.solo_reclaim.proofs.GivingBack.{IsPictured, chunk_taken, free_no_run, is_pictured, one_or_two}
use Rattle.solo_reclaim.proofs.BlockBits.{kept_reserved}
use Rattle.solo_reclaim.proofs.Keeping.{keeps_by}
use Rattle.solo_reclaim.specs.KeptBlocks.{Keeps}
use Rattle.solo_reclaim.specs.Reclaims.{MayReclaim, RestsAlone}

-- ---- a lane that freed chunks of the first zone

module _ (words runs zone_words : List ℕ) (pool : ℕ) (shape : Shape) (freed : ℕ) (small : freed < 2 ^ 64) (low : slice_index zone_words 0 < 2 ^ 64)
    (is : IsOccupancy runs zone_words (slice_index words) shape.lanes shape.zones) where
  abbrev was : ℕ
  was = slice_index zone_words 0

  abbrev more : List ℕ
  more = set zone_words 0 (bit_or was freed)

  -- it has those that are not taken
  abbrev rest : Taken
  rest = record { at = Zone 0; bits = bit_and freed (bit_not w64 was) }

  abbrev pub freed_view : View
  freed_view = record (first_view words runs more None pool shape.lanes shape.zones) { freed = rest ∷ [] }

  abbrev v : View
  v = freed_view

  abbrev Says : Occ → ℕ → Type 0
  Says at bit = is_taken (slice_index words) shape.lanes at bit ≡ true

  first_told : (bit : ℕ) → bit < 64 → (bit_at was bit ≡ 1) → Says (Zone 0) bit
  first_told bit few = (is.chunks 0 bit (let some = shape.zones_from in omega (arith, some)) few).0

  first_set : slice_index more 0 ≡ bit_or was freed
  first_set = get_or-set_same zone_words 0 (bit_or was freed) 0 (let count = is.zone_count in omega (arith, count))

  other_set : (zone : ℕ) → zone ≢ 0 → slice_index more zone ≡ slice_index zone_words zone
  other_set zone other = get_or-set_other zone_words 0 zone (bit_or was freed) 0 other

  its_bit : (bit : ℕ) → bit_at rest.bits bit ≡ 1 → has_taken v (Zone 0) bit ≡ true
  its_bit bit set = or_left (has_bit (Zone 0) bit rest) false (bit_had rest bit set)

  bit_of_it : (zone bit : ℕ) → list_any (has_bit (Zone zone) bit) (rest ∷ []) ≡ true → (zone ≡ 0) × (bit_at rest.bits bit ≡ 1)
  bit_of_it zone bit has = ⊎_elim
      (λ (mine : has_bit (Zone zone) bit rest ≡ true). let both = and_parts (eqb zone 0) (eqb (bit_at rest.bits bit) 1) mine in (eqb-true zone 0 both.0, eqb-true (bit_at rest.bits bit) 1 both.1))
      (λ (none : false ≡ true). absurd (false≢true none))
      (or_cases (has_bit (Zone zone) bit rest) false has)

  freed_forth : (at : Occ) (bit : ℕ) → IsOcc shape.lanes shape.zones at → bit < 64 → bit_at (occ_in v at) bit ≡ 1 → Says at bit ⊎ (has_taken v at bit ≡ true)
  freed_forth (Run place) bit of few one = inl ((is.blocks (place / 4096) bit (is_chunk_from shape.lanes (place / 4096) of.1) of.2 few).0 one)
  freed_forth (Zone zone) bit of few one = ⊎_elim
      (λ (first : zone ≡ 0). subst (λ z. Says (Zone z) bit ⊎ (has_taken v (Zone z) bit ≡ true)) (sym first) (⊎_elim
      (λ (set : bit_at was bit ≡ 1). inl (first_told bit few set))
      (λ (clear : bit_at was bit ≢ 1). inr (its_bit bit (and_bit freed (bit_not w64 was) bit
      (⊎_elim (λ (set : bit_at was bit ≡ 1). absurd (clear set)) (λ (set : bit_at freed bit ≡ 1). set) (or_bits was freed bit (ap (λ n. bit_at n bit) (sym first_set ∙ ap (slice_index more) (sym first)) ∙ one)))
      (not_bit was bit low few clear))))
      (cases_eq (bit_at was bit) 1)))
      (λ (other : zone ≢ 0). inl ((is.chunks zone bit of few).0 (ap (λ n. bit_at n bit) (sym (other_set zone other)) ∙ one)))
      (cases_eq zone 0)

  freed_back : (at : Occ) (bit : ℕ) → IsOcc shape.lanes shape.zones at → bit < 64 → Says at bit ⊎ (has_taken v at bit ≡ true) → bit_at (occ_in v at) bit ≡ 1
  freed_back (Run place) bit of few so = ⊎_elim
      (λ (taken : Says (Run place) bit). (is.blocks (place / 4096) bit (is_chunk_from shape.lanes (place / 4096) of.1) of.2 few).1 taken)
      (λ (has : has_taken v (Run place) bit ≡ true). absurd (false≢true has)) so
  freed_back (Zone zone) bit of few so = ⊎_elim
      (λ (taken : Says (Zone zone) bit). let set = (is.chunks zone bit of few).1 taken in ⊎_elim
      (λ (first : zone ≡ 0). ap (λ n. bit_at n bit) (ap (slice_index more) first ∙ first_set) ∙ or_bit_left was freed bit (ap (λ z. bit_at (slice_index zone_words z) bit) (sym first) ∙ set))
      (λ (other : zone ≢ 0). ap (λ n. bit_at n bit) (other_set zone other) ∙ set)
      (cases_eq zone 0))
      (λ (has : has_taken v (Zone zone) bit ≡ true). let mine = bit_of_it zone bit has in
      ap (λ n. bit_at n bit) (ap (slice_index more) mine.0 ∙ first_set) ∙ or_bit_right was freed bit (and_bits freed (bit_not w64 was) bit mine.1).0) so

  freed_apart : (at : Occ) (bit : ℕ) → IsOcc shape.lanes shape.zones at → bit < 64 → IsKept v at bit → is_taken (slice_index words) shape.lanes at bit ≡ false
  freed_apart (Run place) bit of few kept = absurd (⊎_elim (λ (none : false ≡ true). false≢true none) (λ (none : false ≡ true). false≢true none) kept)
  freed_apart (Zone zone) bit of few kept = ⊎_elim
      (λ (none : false ≡ true). absurd (false≢true none))
      (λ (has : list_any (has_bit (Zone zone) bit) (rest ∷ []) ≡ true). let mine = bit_of_it zone bit has in
      false_from_ne_true (is_taken (slice_index words) shape.lanes (Zone zone) bit) (λ taken. not_both was bit low few (and_bits freed (bit_not w64 was) bit mine.1).1
      (ap (λ z. bit_at (slice_index zone_words z) bit) (sym mine.0) ∙ (is.chunks zone bit of few).1 taken))) kept

  pub may_reclaim_freed : length words ≡ 512 + 1024 * shape.lanes + 33280 * shape.zones → MayReclaim freed_view shape
  may_reclaim_freed size = record {
    rests = record {
      alone = refl;
      idle = refl;
      drained = refl;
      free = refl;
      taken = record {
        pages = is.pages;
        zone_count = length-set zone_words 0 (bit_or was freed) ∙ is.zone_count;
        bits = λ at bit of few. (freed_forth at bit of few, freed_back at bit of few);
        apart = freed_apart;
        once = λ at bit of few none. absurd (false≢true none);
      };
    };
    of_shape = record { lanes = refl; zones = refl; size = size };
  }

  -- what a lane has freed is no concern of its memory
  pub sees_freed : (m : Solo) → Sees m (first_view words runs more None pool shape.lanes shape.zones) → Sees m freed_view
  sees_freed m sees = record {
    lane = sees.lane;
    words = sees.words;
    changes = sees.changes;
    stop = sees.stop;
    calls = sees.calls;
    within = sees.within;
    numbers = sees.numbers;
    count = sees.count;
    counter = sees.counter;
    lines = sees.lines;
    locks = sees.locks;
    zone_locks = sees.zone_locks;
    runs = sees.runs;
    zones = sees.zones;
    pages = sees.pages;
    zone_count = sees.zone_count;
    zone_lock_count = sees.zone_lock_count;
    alone = sees.alone;
  }

-- ---- a lane that reserves blocks of a run, or chunks of a zone

module _ (v : View) (here : Occ) (bits : ℕ) (rests : RestsAlone v) (given : HasOcc v here) where
  abbrev its : Taken
  its = record { at = here; bits = bits }

  abbrev old_word : ℕ
  old_word = occ_in v here

  abbrev w : View
  w = after v (Occupy here bits true)

  there : IsPictured v here
  there = is_pictured v here rests.taken given

  abbrev Had : Occ → ℕ → Type 0
  Had at bit = (is_taken (slice_index v.words) v.lanes at bit ≡ true) ⊎ (has_taken v at bit ≡ true)

  abbrev Has : Occ → ℕ → Type 0
  Has at bit = (is_taken (slice_index v.words) v.lanes at bit ≡ true) ⊎ (has_taken w at bit ≡ true)

  -- what it reserved it has still, and these
  reserves_before : (at : Occ) (bit : ℕ) → reserves v at bit ≡ true → reserves w at bit ≡ true
  reserves_before at bit has = list_any-append (has_bit at bit) v.reserved (its ∷ []) ∙ or_left (reserves v at bit) (list_any (has_bit at bit) (its ∷ [])) has

  reserves_its : (bit : ℕ) → bit_at bits bit ≡ 1 → reserves w here bit ≡ true
  reserves_its bit set = list_any-append (has_bit here bit) v.reserved (its ∷ []) ∙ or_right (reserves v here bit) (list_any (has_bit here bit) (its ∷ [])) (or_left (has_bit here bit its) false (bit_had its bit set))

  -- and no others
  reserves_then : (at : Occ) (bit : ℕ) → reserves w at bit ≡ true → (reserves v at bit ≡ true) ⊎ ((at ≡ here) × (bit_at bits bit ≡ 1))
  reserves_then at bit has = ⊎_elim
      (λ (before : reserves v at bit ≡ true). inl before)
      (λ (one : list_any (has_bit at bit) (its ∷ []) ≡ true). inr (⊎_elim
      (λ (mine : has_bit at bit its ≡ true). let both = and_parts (is_same_occ at here) (eqb (bit_at bits bit) 1) mine in (occ_same at here both.0, eqb-true (bit_at bits bit) 1 both.1))
      (λ (none : false ≡ true). absurd (false≢true none))
      (or_cases (has_bit at bit its) false one)))
      (or_cases (reserves v at bit) (list_any (has_bit at bit) (its ∷ [])) (sym (list_any-append (has_bit at bit) v.reserved (its ∷ [])) ∙ has))

  chunk_before : (at : Occ) → has_run_chunk v at ≡ true → has_run_chunk w at ≡ true
  chunk_before (Run other) has = reserves_before (zone_at v.lanes (other / 4096)) (chunk_bit v.lanes (other / 4096)) has
  chunk_before (Zone zone) has = has

  has_before : (at : Occ) (bit : ℕ) → has_taken v at bit ≡ true → has_taken w at bit ≡ true
  has_before at bit has = ⊎_elim
      (λ (some : (reserves v at bit || has_run_chunk v at) ≡ true). or_left (reserves w at bit || has_run_chunk w at) (list_any (has_bit at bit) v.freed) (⊎_elim
      (λ (reserved : reserves v at bit ≡ true). or_left (reserves w at bit) (has_run_chunk w at) (reserves_before at bit reserved))
      (λ (chunk : has_run_chunk v at ≡ true). or_right (reserves w at bit) (has_run_chunk w at) (chunk_before at chunk))
      (or_cases (reserves v at bit) (has_run_chunk v at) some)))
      (λ (freed : list_any (has_bit at bit) v.freed ≡ true). or_right (reserves w at bit || has_run_chunk w at) (list_any (has_bit at bit) v.freed) freed)
      (or_cases (reserves v at bit || has_run_chunk v at) (list_any (has_bit at bit) v.freed) has)

  -- ---- its pictures

  here_as : (place : Occ) → IsPictured v place → occ_in (after v (Occupy place bits true)) place ≡ bit_or (occ_in v place) bits
  here_as (Run place) low = get_or-set_same v.run_words (place / 4096) (bit_or (slice_index v.run_words (place / 4096)) bits) 0 low
  here_as (Zone zone) low = get_or-set_same v.zone_words zone (bit_or (slice_index v.zone_words zone) bits) 0 low

  here_now : occ_in w here ≡ bit_or old_word bits
  here_now = here_as here there

  else_as : (place at : Occ) → IsOcc v.lanes v.zones place → IsOcc v.lanes v.zones at → at ≢ place → occ_in (after v (Occupy place bits true)) at ≡ occ_in v at
  else_as (Run place) (Run other) its_own of apart =
      get_or-set_other v.run_words (place / 4096) (other / 4096) (bit_or (slice_index v.run_words (place / 4096)) bits) 0 (λ same. let one = of.0 in let two = its_own.0 in apart (ap Run (omega (arith, same, one, two))))
  else_as (Run place) (Zone other) its_own of apart = refl
  else_as (Zone zone) (Run other) its_own of apart = refl
  else_as (Zone zone) (Zone other) its_own of apart = get_or-set_other v.zone_words zone other (bit_or (slice_index v.zone_words zone) bits) 0 (λ same. apart (ap Zone same))

  else_now : (at : Occ) → IsOcc v.lanes v.zones at → at ≢ here → occ_in w at ≡ occ_in v at
  else_now at of apart = else_as here at given.of_pool of apart

  reserved_forth : (at : Occ) (bit : ℕ) → IsOcc v.lanes v.zones at → bit < 64 → bit_at (occ_in w at) bit ≡ 1 → Has at bit
  reserved_forth at bit of low one = by_word (one_or_two at here) where
    still : Had at bit → Has at bit
    still = ⊎_elim (λ (taken : is_taken (slice_index v.words) v.lanes at bit ≡ true). inl taken) (λ (has : has_taken v at bit ≡ true). inr (has_before at bit has))

    by_word : (at ≡ here) ⊎ (at ≢ here) → Has at bit
    by_word (inl same) = ⊎_elim
        (λ (before : bit_at old_word bit ≡ 1). still ((rests.taken.bits at bit of low).0 (ap (λ p. bit_at (occ_in v p) bit) same ∙ before)))
        (λ (mine : bit_at bits bit ≡ 1). inr (or_left (reserves w at bit || has_run_chunk w at) (list_any (has_bit at bit) v.freed) (or_left (reserves w at bit) (has_run_chunk w at) (ap (λ p. reserves w p bit) same ∙ reserves_its bit mine))))
        (or_bits old_word bits bit (ap (λ n. bit_at n bit) (sym here_now ∙ ap (occ_in w) (sym same)) ∙ one))
    by_word (inr other) = still ((rests.taken.bits at bit of low).0 (ap (λ n. bit_at n bit) (sym (else_now at of other)) ∙ one))

  set_still : (at : Occ) (bit : ℕ) → IsOcc v.lanes v.zones at → bit_at (occ_in v at) bit ≡ 1 → bit_at (occ_in w at) bit ≡ 1
  set_still at bit of one = by_word (one_or_two at here) where
    by_word : (at ≡ here) ⊎ (at ≢ here) → bit_at (occ_in w at) bit ≡ 1
    by_word (inl same) = ap (λ n. bit_at n bit) (ap (occ_in w) same ∙ here_now) ∙ or_bit_left old_word bits bit (ap (λ p. bit_at (occ_in v p) bit) (sym same) ∙ one)
    by_word (inr other) = ap (λ n. bit_at n bit) (else_now at of other) ∙ one

  module _ (clear : bit_and old_word bits ≡ 0) where
    clear_bit : (bit : ℕ) → bit_at bits bit ≡ 1 → bit_at old_word bit ≡ 1 → ⊥
    clear_bit bit set one =
        let off = bit_at-zero bit in
        let on : bit_at 0 bit ≡ 1 = ap (λ n. bit_at n bit) (sym clear) ∙ and_bit old_word bits bit one set in
        omega (arith, off, on)

    -- a chunk that it reserved so is no run
    chunk_clear : (other : ℕ) → IsOcc v.lanes v.zones (Run other) → zone_at v.lanes (other / 4096) ≡ here → bit_at bits (chunk_bit v.lanes (other / 4096)) ≡ 1
        → is_run (slice_index v.words (descriptor_word v.lanes (other / 4096))) ≡ false
    chunk_clear other of same set =
        let chunk = of.1 in
        let low = of.2 in
        free_no_run v (other / 4096) chunk (false_from_ne_true (is_taken (slice_index v.words) v.lanes (zone_at v.lanes (other / 4096)) (chunk_bit v.lanes (other / 4096))) (λ taken.
        clear_bit (chunk_bit v.lanes (other / 4096)) set (ap (λ p. bit_at (occ_in v p) (chunk_bit v.lanes (other / 4096))) (sym same)
        ∙ (rests.taken.bits (zone_at v.lanes (other / 4096)) (chunk_bit v.lanes (other / 4096)) (omega (arith, chunk, low)) (omega (arith, chunk))).1 (inl taken))))

    -- what it has it had, or it is of these, or it is taken
    abbrev IsFrom : Occ → ℕ → Type 0
    IsFrom at bit = Had at bit ⊎ ((at ≡ here) × (bit_at bits bit ≡ 1))

    chunk_from : (at : Occ) (bit : ℕ) → IsOcc v.lanes v.zones at → has_run_chunk w at ≡ true → Had at bit
    chunk_from (Run other) bit of has = ⊎_elim
        (λ (before : reserves v (zone_at v.lanes (other / 4096)) (chunk_bit v.lanes (other / 4096)) ≡ true). inl (chunk_taken v rests.taken (Run other) bit of before))
        (λ (mine : (zone_at v.lanes (other / 4096) ≡ here) × (bit_at bits (chunk_bit v.lanes (other / 4096)) ≡ 1)). inl (no_run_taken (slice_index v.words) v.lanes other bit (chunk_clear other of mine.0 mine.1)))
        (reserves_then (zone_at v.lanes (other / 4096)) (chunk_bit v.lanes (other / 4096)) has)
    chunk_from (Zone zone) bit of has = absurd (false≢true has)

    has_from : (at : Occ) (bit : ℕ) → IsOcc v.lanes v.zones at → has_taken w at bit ≡ true → IsFrom at bit
    has_from at bit of has = ⊎_elim
        (λ (some : (reserves w at bit || has_run_chunk w at) ≡ true). ⊎_elim
        (λ (reserved : reserves w at bit ≡ true). ⊎_elim
        (λ (before : reserves v at bit ≡ true). inl (inr (or_left (reserves v at bit || has_run_chunk v at) (list_any (has_bit at bit) v.freed) (or_left (reserves v at bit) (has_run_chunk v at) before))))
        (λ (mine : (at ≡ here) × (bit_at bits bit ≡ 1)). inr mine)
        (reserves_then at bit reserved))
        (λ (chunk : has_run_chunk w at ≡ true). inl (chunk_from at bit of chunk))
        (or_cases (reserves w at bit) (has_run_chunk w at) some))
        (λ (freed : list_any (has_bit at bit) v.freed ≡ true). inl (inr (or_right (reserves v at bit || has_run_chunk v at) (list_any (has_bit at bit) v.freed) freed)))
        (or_cases (reserves w at bit || has_run_chunk w at) (list_any (has_bit at bit) v.freed) has)

    had_set : (at : Occ) (bit : ℕ) → IsOcc v.lanes v.zones at → bit < 64 → Had at bit → bit_at (occ_in w at) bit ≡ 1
    had_set at bit of low had = set_still at bit of ((rests.taken.bits at bit of low).1 had)

    reserved_back : (at : Occ) (bit : ℕ) → IsOcc v.lanes v.zones at → bit < 64 → Has at bit → bit_at (occ_in w at) bit ≡ 1
    reserved_back at bit of low = ⊎_elim
        (λ (taken : is_taken (slice_index v.words) v.lanes at bit ≡ true). had_set at bit of low (inl taken))
        (λ (has : has_taken w at bit ≡ true). ⊎_elim
        (λ (had : Had at bit). had_set at bit of low had)
        (λ (mine : (at ≡ here) × (bit_at bits bit ≡ 1)). ap (λ n. bit_at n bit) (ap (occ_in w) mine.0 ∙ here_now) ∙ or_bit_right old_word bits bit mine.1)
        (has_from at bit of has))

    reserved_apart : (at : Occ) (bit : ℕ) → IsOcc v.lanes v.zones at → bit < 64 → IsKept w at bit → is_taken (slice_index v.words) v.lanes at bit ≡ false
    reserved_apart at bit of low = ⊎_elim
        (λ (reserved : reserves w at bit ≡ true). ⊎_elim
        (λ (before : reserves v at bit ≡ true). rests.taken.apart at bit of low (inl before))
        (λ (mine : (at ≡ here) × (bit_at bits bit ≡ 1)). false_from_ne_true (is_taken (slice_index v.words) v.lanes at bit) (λ taken.
        clear_bit bit mine.1 (ap (λ p. bit_at (occ_in v p) bit) (sym mine.0) ∙ (rests.taken.bits at bit of low).1 (inl taken))))
        (reserves_then at bit reserved))
        (λ (freed : list_any (has_bit at bit) v.freed ≡ true). rests.taken.apart at bit of low (inr freed))

    reserved_once : (at : Occ) (bit : ℕ) → IsOcc v.lanes v.zones at → bit < 64 → reserves w at bit ≡ true → list_any (has_bit at bit) v.freed ≡ false
    reserved_once at bit of low reserved = ⊎_elim
        (λ (before : reserves v at bit ≡ true). rests.taken.once at bit of low before)
        (λ (mine : (at ≡ here) × (bit_at bits bit ≡ 1)). false_from_ne_true (list_any (has_bit at bit) v.freed) (λ freed.
        clear_bit bit mine.1 (ap (λ p. bit_at (occ_in v p) bit) (sym mine.0)
        ∙ (rests.taken.bits at bit of low).1 (inr (or_right (reserves v at bit || has_run_chunk v at) (list_any (has_bit at bit) v.freed) freed)))))
        (reserves_then at bit reserved)

    many_pages : (place : Occ) → length (after v (Occupy place bits true)).run_words ≡ length v.run_words
    many_pages (Run place) = length-set v.run_words (place / 4096) (bit_or (slice_index v.run_words (place / 4096)) bits)
    many_pages (Zone zone) = refl

    many_zones : (place : Occ) → length (after v (Occupy place bits true)).zone_words ≡ length v.zone_words
    many_zones (Run place) = refl
    many_zones (Zone zone) = length-set v.zone_words zone (bit_or (slice_index v.zone_words zone) bits)

    reserved_knows : KnowsTaken w
    reserved_knows = record {
      pages = many_pages here ∙ rests.taken.pages;
      zone_count = many_zones here ∙ rests.taken.zone_count;
      bits = λ at bit of low. (reserved_forth at bit of low, reserved_back at bit of low);
      apart = reserved_apart;
      once = reserved_once;
    }

  refused_as : (place : Occ) → KnowsTaken (after v (Occupy place bits false))
  refused_as (Run place) = subst (λ (runs : List ℕ). KnowsTaken (record (after v (Occupy (Run place) bits false)) { run_words = runs })) (sym (set-get_or v.run_words (place / 4096) 0))
      (record { pages = rests.taken.pages; zone_count = rests.taken.zone_count; bits = rests.taken.bits; apart = rests.taken.apart; once = rests.taken.once })
  refused_as (Zone zone) = subst (λ (zones : List ℕ). KnowsTaken (record (after v (Occupy (Zone zone) bits false)) { zone_words = zones })) (sym (set-get_or v.zone_words zone 0))
      (record { pages = rests.taken.pages; zone_count = rests.taken.zone_count; bits = rests.taken.bits; apart = rests.taken.apart; once = rests.taken.once })

  knows_then : (won : Bool) → FoundAlone v (Occupy here bits won) → KnowsTaken (after v (Occupy here bits won))
  knows_then true found = reserved_knows ((found rests.alone).0 refl)
  knows_then false found = refused_as here

  pub may_then : (won : Bool) (shape : Shape) → FoundAlone v (Occupy here bits won) → MayReclaim v shape → MayReclaim (after v (Occupy here bits won)) shape
  may_then won shape found may = record {
    rests = record { alone = rests.alone; idle = rests.idle; drained = rests.drained; free = rests.free; taken = knows_then won found };
    of_shape = record { lanes = may.of_shape.lanes; zones = may.of_shape.zones; size = may.of_shape.size };
  }

  reserves_still : (won : Bool) (at : Occ) (bit : ℕ) → reserves v at bit ≡ true → reserves (after v (Occupy here bits won)) at bit ≡ true
  reserves_still true at bit has = reserves_before at bit has
  reserves_still false at bit has = has

  -- the blocks that it keeps it has still
  pub keeps_then : (won : Bool) (kept : List Block) → All (Keeps v) kept → All (Keeps (after v (Occupy here bits won))) kept
  keeps_then won kept keeps = keeps_by v (after v (Occupy here bits won)) rests.taken refl kept keeps
      (λ at bit its. reserves_still won at bit (kept_reserved v rests.taken kept keeps at bit its).reserved)

  -- and these it reserved, where they were free
  pub reserves_these : (won : Bool) → won ≡ true → (bit : ℕ) → bit_at bits bit ≡ 1 → reserves (after v (Occupy here bits won)) here bit ≡ true
  reserves_these true is bit set = reserves_its bit set
  reserves_these false is bit set = absurd (false≢true is)
