-- What a lane gives back behind its log leaves its picture of the occupancy words what its words say is taken, and what it has.
use Rattle.std.proofs.Common.{◌≡◌, ◌≢◌, ◌⊎◌, inl, inr, ⊎_elim, ℕ, ◌+◌, ◌*◌, ◌/◌, ◌^◌, ◌<◌, true, false, ◌||◌, List, [], ◌∷◌, ◌++◌, length, slice_index, length-set, refl, sym, ap, ◌∙◌, arith, set}
use Rattle.std.specs.Int.{bit_at, bit_not, w64}
use Rattle.std.specs.List.{list_any, range_with_len}
use Rattle.std.proofs.lemmas.Bool.{cases_Bool, and_parts, cond-false, false_from_ne_true, false≢true, or_cases, or_left, or_right}
use Rattle.std.proofs.lemmas.List.{get_or-set_other, get_or-set_same}
use Rattle.solo_view.specs.declared.occ.Occ.{Occ}
use Rattle.solo_view.specs.declared.occ.Occ.TheVariants.{Run, Zone}
use Rattle.solo_view.specs.Blocks.{descriptor_word, is_run, zone_of, zone_page}
use Rattle.solo_view.specs.Occupancy.{is_taken, reaches}
use Rattle.solo_view.specs.Steps.{Step}
use Rattle.solo_view.specs.Steps.Step.{Load, Store, Or, And, Flush, Drain, TakeWrite, TakeRead, Raise, Give, ZoneTry, ZoneGive, Occupied, Occupy, Vacate, Draw, NumberSeen, StopSeen, SetStop, Tell}
use Rattle.solo_view.specs.View.{Taken, View}
use Rattle.solo_view.specs.Views.{after, all_of_run, chunk_bit, exchanged, has_bit, has_chunk, is_made, is_same_occ, occ_in, reserves, runs_with, vacated_word, without_taken, zone_at, zones_with}
use Rattle.solo_world.specs.Heap.{IsOcc, has_run_chunk, has_taken}
use Rattle.solo_world.specs.Lawful.{Allowed, HasOcc, MayVacate}
use Rattle.solo_world.specs.Opening.{IsChunk}
use Rattle.solo_world.proofs.HeapWords.{no_run_taken}
use Rattle.solo_world.proofs.Reserved.{occ_same, same_occ}
use Rattle.solo_world.proofs.Vacated.{and_bit, and_bits, not_bit, not_both, vacated_after, vacated_before, vacated_gone}
use Rattle.solo_reclaim.specs.KnownTaken.{IsGiving, IsKept, KnowsTaken}

-- ---- the picture

-- the picture has a place for the word
abbrev pub IsPictured : View → Occ → Type 0
IsPictured v (Run place) = place / 4096 < length v.run_words
IsPictured v (Zone zone) = zone < length v.zone_words

pub is_pictured : (v : View) (at : Occ) → KnowsTaken v → HasOcc v at → IsPictured v at
is_pictured v (Run place) knows has = let low = has.of_pool.2 in let pages = knows.pages in omega (arith, low, pages)
is_pictured v (Zone zone) knows has = let low : zone < 32 = has.inside in let count = knows.zone_count in omega (arith, low, count)

-- the word has what is left, and each other what it had
pub vacated_here : (v : View) (at : Occ) (bits : ℕ) → IsPictured v at → occ_in (after v (Vacate at bits)) at ≡ vacated_word bits (occ_in v at)
vacated_here v (Run place) bits low = get_or-set_same v.run_words (place / 4096) (vacated_word bits (slice_index v.run_words (place / 4096))) 0 low
vacated_here v (Zone zone) bits low = get_or-set_same v.zone_words zone (vacated_word bits (slice_index v.zone_words zone)) 0 low

pub vacated_else : (v : View) (at other : Occ) (bits lanes zones : ℕ) → IsOcc lanes zones at → IsOcc lanes zones other → other ≢ at → occ_in (after v (Vacate at bits)) other ≡ occ_in v other
vacated_else v (Run place) (Run second) bits lanes zones of of' apart =
    get_or-set_other v.run_words (place / 4096) (second / 4096) (vacated_word bits (slice_index v.run_words (place / 4096))) 0 (λ same. let one = of.0 in let two = of'.0 in apart (ap Run (omega (arith, same, one, two))))
vacated_else v (Run place) (Zone second) bits lanes zones of of' apart = refl
vacated_else v (Zone place) (Run second) bits lanes zones of of' apart = refl
vacated_else v (Zone place) (Zone second) bits lanes zones of of' apart = get_or-set_other v.zone_words place second (vacated_word bits (slice_index v.zone_words place)) 0 (λ same. apart (ap Zone same))

-- two words are one, or are not
pub one_or_two : (at other : Occ) → (at ≡ other) ⊎ (at ≢ other)
one_or_two at other = ⊎_elim (λ (same : is_same_occ at other ≡ true). inl (occ_same at other same))
    (λ (apart : is_same_occ at other ≡ false). inr (λ same. false≢true (sym apart ∙ (ap (is_same_occ at) (sym same) ∙ same_occ at))))
    (cases_Bool (is_same_occ at other))

-- ---- what the lane has

-- a chunk that is free is no run
pub free_no_run : (v : View) (page : ℕ) → IsChunk v.lanes page → is_taken (slice_index v.words) v.lanes (zone_at v.lanes page) (chunk_bit v.lanes page) ≡ false → is_run (slice_index v.words (descriptor_word v.lanes page)) ≡ false
free_no_run v page chunk free = false_from_ne_true (is_run (slice_index v.words (descriptor_word v.lanes page))) (λ run.
    let here = chunk.1 in
    let same : descriptor_word v.lanes page ≡ 512 * zone_page v.lanes (zone_of v.lanes page) + chunk_bit v.lanes page = omega (arith, here) in
    let taken = or_left (is_run (slice_index v.words (512 * zone_page v.lanes (zone_of v.lanes page) + chunk_bit v.lanes page))) (list_any (reaches (slice_index v.words) v.lanes (zone_of v.lanes page) (chunk_bit v.lanes page)) (range_with_len 0 (chunk_bit v.lanes page + 1)))
    (ap (λ n. is_run (slice_index v.words n)) (sym same) ∙ run) in
    false≢true (sym free ∙ taken))

-- one that it reserved is
pub chunk_no_run : (v : View) → KnowsTaken v → (page : ℕ) → IsChunk v.lanes page → page < 1 + 2 * v.lanes + 65 * v.zones → has_chunk v page ≡ true → is_run (slice_index v.words (descriptor_word v.lanes page)) ≡ false
chunk_no_run v knows page chunk low has = free_no_run v page chunk (knows.apart (zone_at v.lanes page) (chunk_bit v.lanes page) (omega (arith, chunk, low)) (omega (arith, chunk)) (inl has))

-- a word of a run whose chunk it reserved is taken, since the chunk is no run
pub chunk_taken : (v : View) → KnowsTaken v → (at : Occ) (bit : ℕ) → IsOcc v.lanes v.zones at → has_run_chunk v at ≡ true → is_taken (slice_index v.words) v.lanes at bit ≡ true
chunk_taken v knows (Run place) bit of has = no_run_taken (slice_index v.words) v.lanes place bit (chunk_no_run v knows (place / 4096) of.1 of.2 has)
chunk_taken v knows (Zone zone) bit of has = absurd (false≢true has)

module _ (v : View) (at : Occ) (bits : ℕ) (knows : KnowsTaken v) (may : MayVacate v at bits) where
  abbrev w : View
  w = after v (Vacate at bits)

  abbrev of_pool : IsOcc v.lanes v.zones at
  of_pool = may.there.of_pool

  pub unmade : (place : Occ) → IsOcc v.lanes v.zones place → exchanged v place ≡ v.reserved
  unmade (Run place) of = cond-false (is_made v (place / 4096)) (without_taken (zone_at v.lanes (place / 4096)) (2 ^ chunk_bit v.lanes (place / 4096)) v.reserved ++ all_of_run v place ∷ []) v.reserved
      (false_from_ne_true (is_made v (place / 4096)) (λ made. let both = and_parts (has_chunk v (place / 4096)) (is_run (slice_index v.words (descriptor_word v.lanes (place / 4096)))) made in
      false≢true (sym (chunk_no_run v knows (place / 4096) of.1 of.2 both.0) ∙ both.1)))
  unmade (Zone zone) of = refl

  -- what it may give back it reserved or freed
  own : (bit : ℕ) → bit_at bits bit ≡ 1 → IsKept v at bit
  own bit set = ⊎_elim (λ (has : list_any (has_bit at bit) (exchanged v at) ≡ true). inl (ap (list_any (has_bit at bit)) (sym (unmade at of_pool)) ∙ has)) (λ (freed : list_any (has_bit at bit) v.freed ≡ true). inr freed) (may.own bit set)

  own_free : (bit : ℕ) → bit < 64 → bit_at bits bit ≡ 1 → is_taken (slice_index v.words) v.lanes at bit ≡ false
  own_free bit low set = knows.apart at bit of_pool low (own bit set)

  pub left_is : (other : Occ) (bit : ℕ) → reserves w other bit ≡ list_any (has_bit other bit) (without_taken at bits v.reserved)
  left_is other bit = ap (λ (blocks : List Taken). list_any (has_bit other bit) (without_taken at bits blocks)) (unmade at of_pool)

  reserved_before : (other : Occ) (bit : ℕ) → reserves w other bit ≡ true → reserves v other bit ≡ true
  reserved_before other bit has = vacated_before at bits may.small other bit v.reserved (sym (left_is other bit) ∙ has)

  chunk_before : (other : Occ) → has_run_chunk w other ≡ true → has_run_chunk v other ≡ true
  chunk_before (Run place) has = reserved_before (zone_at v.lanes (place / 4096)) (chunk_bit v.lanes (place / 4096)) has
  chunk_before (Zone zone) has = absurd (false≢true has)

  -- what it has it had before, but for what it gave back; and what it had, but for that, it has, or it is taken
  abbrev HadBefore : Occ → ℕ → Type 0
  HadBefore other bit = (has_taken v other bit ≡ true) × ((other ≡ at) → bit_at bits bit ≡ 1 → ⊥)

  had_before : (other : Occ) (bit : ℕ) → IsOcc v.lanes v.zones other → bit < 64 → has_taken w other bit ≡ true → HadBefore other bit
  had_before other bit of low has = by_kind (or_cases (reserves w other bit || has_run_chunk w other) (list_any (has_bit other bit) w.freed) has) where
    by_kind : ((reserves w other bit || has_run_chunk w other) ≡ true) ⊎ (list_any (has_bit other bit) w.freed ≡ true) → HadBefore other bit
    by_kind (inl some) = ⊎_elim
        (λ (reserved : reserves w other bit ≡ true). (
          or_left (reserves v other bit || has_run_chunk v other) (list_any (has_bit other bit) v.freed) (or_left (reserves v other bit) (has_run_chunk v other) (reserved_before other bit reserved)),
          λ same set. vacated_gone at bits may.small bit v.reserved low set (ap (λ p. list_any (has_bit p bit) (without_taken at bits v.reserved)) (sym same) ∙ (sym (left_is other bit) ∙ reserved)),
        ))
        (λ (chunk : has_run_chunk w other ≡ true). (
          or_left (reserves v other bit || has_run_chunk v other) (list_any (has_bit other bit) v.freed) (or_right (reserves v other bit) (has_run_chunk v other) (chunk_before other chunk)),
          λ same set. false≢true (sym (own_free bit low set) ∙ (ap (λ p. is_taken (slice_index v.words) v.lanes p bit) (sym same) ∙ chunk_taken v knows other bit of (chunk_before other chunk))),
        ))
        (or_cases (reserves w other bit) (has_run_chunk w other) some)
    by_kind (inr freed) = (
      or_right (reserves v other bit || has_run_chunk v other) (list_any (has_bit other bit) v.freed) (vacated_before at bits may.small other bit v.freed freed),
      λ same set. vacated_gone at bits may.small bit v.freed low set (ap (λ p. list_any (has_bit p bit) (without_taken at bits v.freed)) (sym same) ∙ freed),
    )

  abbrev HasStill : Occ → ℕ → Type 0
  HasStill other bit = (is_taken (slice_index v.words) v.lanes other bit ≡ true) ⊎ (has_taken w other bit ≡ true)

  has_still : (other : Occ) (bit : ℕ) → IsOcc v.lanes v.zones other → bit < 64 → (other ≡ at → bit_at bits bit ≢ 1) → has_taken v other bit ≡ true → HasStill other bit
  has_still other bit of low apart has = by_kind (or_cases (reserves v other bit || has_run_chunk v other) (list_any (has_bit other bit) v.freed) has) where
    by_kind : ((reserves v other bit || has_run_chunk v other) ≡ true) ⊎ (list_any (has_bit other bit) v.freed ≡ true) → HasStill other bit
    by_kind (inl some) = ⊎_elim
        (λ (reserved : reserves v other bit ≡ true). inr (or_left (reserves w other bit || has_run_chunk w other) (list_any (has_bit other bit) w.freed) (or_left (reserves w other bit) (has_run_chunk w other)
        (left_is other bit ∙ vacated_after at bits may.small other bit v.reserved low apart reserved))))
        (λ (chunk : has_run_chunk v other ≡ true). inl (chunk_taken v knows other bit of chunk))
        (or_cases (reserves v other bit) (has_run_chunk v other) some)
    by_kind (inr freed) = inr (or_right (reserves w other bit || has_run_chunk w other) (list_any (has_bit other bit) w.freed) (vacated_after at bits may.small other bit v.freed low apart freed))

  -- ---- the picture, and what is taken

  abbrev IsSo : Occ → ℕ → Type 0
  IsSo other bit = (is_taken (slice_index v.words) v.lanes other bit ≡ true) ⊎ (has_taken v other bit ≡ true)

  forth : (other : Occ) (bit : ℕ) → IsOcc v.lanes v.zones other → bit < 64 → bit_at (occ_in w other) bit ≡ 1 → HasStill other bit
  forth other bit of low one = by_word (one_or_two other at) where
    was : bit_at (occ_in v other) bit ≡ 1 → (other ≡ at → bit_at bits bit ≢ 1) → HasStill other bit
    was before apart = ⊎_elim (λ (taken : is_taken (slice_index v.words) v.lanes other bit ≡ true). inl taken) (λ (has : has_taken v other bit ≡ true). has_still other bit of low apart has) ((knows.bits other bit of low).0 before)

    by_word : (other ≡ at) ⊎ (other ≢ at) → HasStill other bit
    by_word (inl same) =
        let both = and_bits (occ_in v at) (bit_not w64 bits) bit (ap (λ n. bit_at n bit) (sym (vacated_here v at bits (is_pictured v at knows may.there)) ∙ ap (occ_in w) (sym same)) ∙ one) in
        was (ap (λ p. bit_at (occ_in v p) bit) same ∙ both.0) (λ here. not_both bits bit may.small low both.1)
    by_word (inr other_word) = was (ap (λ n. bit_at n bit) (sym (vacated_else v at other bits v.lanes v.zones of_pool of other_word)) ∙ one) (λ same. absurd (other_word same))

  back : (other : Occ) (bit : ℕ) → IsOcc v.lanes v.zones other → bit < 64 → HasStill other bit → bit_at (occ_in w other) bit ≡ 1
  back other bit of low is = by_word (one_or_two other at) where
    before : IsSo other bit × (other ≡ at → bit_at bits bit ≢ 1)
    before = ⊎_elim
        (λ (taken : is_taken (slice_index v.words) v.lanes other bit ≡ true). (inl taken, λ same set. false≢true (sym (own_free bit low set) ∙ (ap (λ p. is_taken (slice_index v.words) v.lanes p bit) (sym same) ∙ taken))))
        (λ (has : has_taken w other bit ≡ true). let had = had_before other bit of low has in (inr had.0, had.1)) is

    old_one : bit_at (occ_in v other) bit ≡ 1
    old_one = (knows.bits other bit of low).1 before.0

    by_word : (other ≡ at) ⊎ (other ≢ at) → bit_at (occ_in w other) bit ≡ 1
    by_word (inl same) = ap (λ n. bit_at n bit) (ap (occ_in w) same ∙ vacated_here v at bits (is_pictured v at knows may.there))
        ∙ and_bit (occ_in v at) (bit_not w64 bits) bit (ap (λ p. bit_at (occ_in v p) bit) (sym same) ∙ old_one) (not_bit bits bit may.small low (before.1 same))
    by_word (inr other_word) = ap (λ n. bit_at n bit) (vacated_else v at other bits v.lanes v.zones of_pool of other_word) ∙ old_one

  many_pages : (place : Occ) → length (runs_with place (vacated_word bits (occ_in v place)) v.run_words) ≡ length v.run_words
  many_pages (Run place) = length-set v.run_words (place / 4096) (vacated_word bits (slice_index v.run_words (place / 4096)))
  many_pages (Zone zone) = refl

  many_zones : (place : Occ) → length (zones_with place (vacated_word bits (occ_in v place)) v.zone_words) ≡ length v.zone_words
  many_zones (Run place) = refl
  many_zones (Zone zone) = length-set v.zone_words zone (vacated_word bits (slice_index v.zone_words zone))

  vacated_knows : KnowsTaken w
  vacated_knows = record {
    pages = many_pages at ∙ knows.pages;
    zone_count = many_zones at ∙ knows.zone_count;
    bits = λ other bit of low. (forth other bit of low, back other bit of low);
    apart = λ other bit of low kept. knows.apart other bit of low (⊎_elim (λ (has : reserves w other bit ≡ true). inl (reserved_before other bit has))
        (λ (freed : list_any (has_bit other bit) w.freed ≡ true). inr (vacated_before at bits may.small other bit v.freed freed)) kept);
    once = λ other bit of low has. false_from_ne_true (list_any (has_bit other bit) w.freed) (λ freed.
        false≢true (sym (knows.once other bit of low (reserved_before other bit has)) ∙ vacated_before at bits may.small other bit v.freed freed));
  }

-- the step keeps it
pub giving_keeps : (v : View) (s : Step) → KnowsTaken v → Allowed v s → IsGiving s → KnowsTaken (after v s)
giving_keeps v (Vacate at bits) knows may gives = vacated_knows v at bits knows may
giving_keeps v (Give line) knows may gives = record { pages = knows.pages; zone_count = knows.zone_count; bits = knows.bits; apart = knows.apart; once = knows.once }
giving_keeps v (ZoneGive zone) knows may gives = record { pages = knows.pages; zone_count = knows.zone_count; bits = knows.bits; apart = knows.apart; once = knows.once }
giving_keeps v (Load w x) knows may gives = absurd gives
giving_keeps v (Store w x) knows may gives = absurd gives
giving_keeps v (Or w bits x) knows may gives = absurd gives
giving_keeps v (And w bits x) knows may gives = absurd gives
giving_keeps v (Flush line) knows may gives = absurd gives
giving_keeps v Drain knows may gives = absurd gives
giving_keeps v (TakeWrite line won) knows may gives = absurd gives
giving_keeps v (TakeRead line won) knows may gives = absurd gives
giving_keeps v (Raise line won) knows may gives = absurd gives
giving_keeps v (ZoneTry zone won) knows may gives = absurd gives
giving_keeps v (Occupied at x) knows may gives = absurd gives
giving_keeps v (Occupy at bits won) knows may gives = absurd gives
giving_keeps v (Draw n) knows may gives = absurd gives
giving_keeps v (NumberSeen n) knows may gives = absurd gives
giving_keeps v (StopSeen set) knows may gives = absurd gives
giving_keeps v SetStop knows may gives = absurd gives
giving_keeps v (Tell operation reply) knows may gives = absurd gives
