-- The words that a range of an object covers that the call made: it knows them, may store them, and none of them tells of a block, or is the size of an object found.
use Rattle.std.proofs.Common.{◌≡◌, ◌≢◌, ℕ, ◌+◌, ◌-◌, ◌*◌, ◌/◌, ◌%◌, ◌^◌, ◌<◌, ◌≤◌, ◌&&◌, Bool, true, false, not, cond, eqb, length, slice_index, Contains, None, Some, refl, sym, ap, ◌∙◌, arith, eq-eqb, ne_eqb}
use Rattle.std.proofs.lemmas.Bool.{and_from, and_parts, false≢true, not-true}
use Rattle.solo_model.specs.Bytes.{covered_words}
use Rattle.pm_objects.specs.declared.ids.Oid.{Oid}
use Rattle.solo_view.specs.Area.{is_in_area}
use Rattle.solo_view.specs.Blocks.{bitmap_word, chunk_of, descriptor_word, is_chunk, is_run, is_word, tells_nothing, zone_of}
use Rattle.solo_view.specs.Held.{is_known}
use Rattle.solo_view.specs.View.{View}
use Rattle.solo_undo.specs.Working.{IsPlain, TellsNoBlock}
use Rattle.solo_world.proofs.Chunks.{chunk_here}
use Rattle.solo_world.proofs.HeapWords.{no_chunk_page}
use Rattle.solo_world.specs.Lawful.{MayFill}
use Rattle.solo_world.specs.Opening.{Opening}
use Rattle.solo_world.specs.declared.lane.Lane.{Lane}
use Rattle.solo_crash.specs.Operations.{HasNewRange}
use Rattle.solo_made.specs.Made.{BlockLists}
use Rattle.solo_transaction.proofs.NewWords.{IsInBlock}
use Rattle.solo_transaction.proofs.OwnRangeWords as words
use Rattle.solo_transaction.proofs.OwnRangeWords.{HasOwnRange}
use Rattle.solo_transaction.specs.AtWork.{IsAtWorkWith}

-- what describes a chunk is in the first page of its zone, which is no chunk
first_of_zone : (lanes zone chunk w : ℕ) → 1 ≤ chunk → chunk < 65 → 512 * (1 + 2 * lanes + 65 * zone) + chunk - 1 ≡ w → w / 512 ≡ 1 + 2 * lanes + 65 * zone
first_of_zone lanes zone chunk w some few is = omega (arith, some, few, is)

no_chunk_there : (lanes zone page : ℕ) → page ≡ 1 + 2 * lanes + 65 * zone → chunk_of lanes page ≡ 0
no_chunk_there lanes zone page is = omega (arith, is)

module _ (v : View) (i : ℕ) (tells : tells_nothing v.lanes v.words i ≡ true) where
  parts : (is_chunk v.lanes (i / 512) ≡ true) × (not (eqb (i % 512) 0 && is_run (slice_index v.words (descriptor_word v.lanes (i / 512)))) ≡ true)
  parts = and_parts (is_chunk v.lanes (i / 512)) (not (eqb (i % 512) 0 && is_run (slice_index v.words (descriptor_word v.lanes (i / 512))))) tells

  pub no_descriptor : (page : ℕ) → is_chunk v.lanes page ≡ true → i ≢ descriptor_word v.lanes page
  no_descriptor page chunk is =
      let some = (chunk_here v.lanes page chunk).1 in
      let few : chunk_of v.lanes page < 65 = omega arith in
      let first = no_chunk_there v.lanes (zone_of v.lanes page) (i / 512) (first_of_zone v.lanes (zone_of v.lanes page) (chunk_of v.lanes page) i some few (sym is)) in
      false≢true (sym (no_chunk_page v.lanes (i / 512) first) ∙ parts.0)

  -- nor is it in the pool's header
  pub not_the_roots : i ≢ 64
  not_the_roots is = let low = (chunk_here v.lanes (i / 512) parts.0).0 in omega (arith, is, low)

  pub no_bitmap : (page : ℕ) → is_run (slice_index v.words (descriptor_word v.lanes page)) ≡ true → bitmap_word page ≢ i
  no_bitmap page run is =
      let here : i / 512 ≡ page = omega (arith, is) in
      let first : i % 512 ≡ 0 = omega (arith, is) in
      false≢true (sym (not-true (eqb (i % 512) 0 && is_run (slice_index v.words (descriptor_word v.lanes (i / 512)))) parts.1)
      ∙ and_from (eqb (i % 512) 0) (is_run (slice_index v.words (descriptor_word v.lanes (i / 512)))) (eq-eqb (i % 512) 0 first) (ap (λ p. is_run (slice_index v.words (descriptor_word v.lanes p))) here ∙ run))

  told_of : (page : ℕ) → is_chunk v.lanes page ≡ true → (run : Bool) → is_run (slice_index v.words (descriptor_word v.lanes page)) ≡ run → cond run (bitmap_word page) (descriptor_word v.lanes page) ≢ i
  told_of page chunk true is same = no_bitmap page is same
  told_of page chunk false is same = no_descriptor page chunk (sym same)

  pub quiet_word : TellsNoBlock v i
  quiet_word l there = at (is_chunk v.lanes (l.line / 64)) refl where
    run : Bool
    run = is_run (slice_index v.words (descriptor_word v.lanes (l.line / 64)))

    at : (b : Bool) → is_chunk v.lanes (l.line / 64) ≡ b → is_word (cond (not b) None (Some (cond run (bitmap_word (l.line / 64)) (descriptor_word v.lanes (l.line / 64))))) i ≡ false
    at true chunk = ne_eqb (cond run (bitmap_word (l.line / 64)) (descriptor_word v.lanes (l.line / 64))) i (told_of (l.line / 64) chunk run refl)
    at false chunk = refl

  pub plain_word : IsPlain v i
  plain_word = record { quiet = quiet_word; plain = no_descriptor }

-- the range is one of an object that its call made
module _ {M : Type 0} (o : Opening) (at : M → View → Type 0) (lane : Lane M) (blocks : BlockLists) (v : View) (all : IsAtWorkWith o at lane blocks v) (id : Oid) (off len : ℕ) (range : HasNewRange v id off len) where
  abbrev pub own : HasOwnRange v id off len
  own = record {
    new = range.made.new;
    stands = all.work.under_way.has.each range.made.new range.made.has;
    lies = all.within range.made.new range.made.has;
    apart = λ l lines. all.work.under_way.has.apart_found range.made.new l lines range.made.has;
    place = range.made.place;
    inside = range.inside;
  }

  pub even : id.off % 8 ≡ 0
  even = words.even v (words.works_in_pool o at lane blocks v all) id off len own

  pub new_range_is_low : id.off + off + len < 2 ^ 60
  new_range_is_low = words.range_is_low v (words.works_in_pool o at lane blocks v all) id off len own

  module _ (i : ℕ) (there : Contains (covered_words (id.off + off) len) i) where
    pub covered_in : IsInBlock range.made.new i
    covered_in = words.covered_in v (words.works_in_pool o at lane blocks v all) id off len own i there

    pub covered_is_known : is_known v i ≡ true
    covered_is_known = words.covered_is_known v (words.works_in_pool o at lane blocks v all) id off len own i there

    pub covered_outside : is_in_area v.lane i ≡ false
    covered_outside = words.covered_outside v (words.works_in_pool o at lane blocks v all) id off len own i there

    pub covered_fill : MayFill v i
    covered_fill = words.covered_fill v (words.works_in_pool o at lane blocks v all) id off len own i there

    pub covered_in_pool : i < length v.words
    covered_in_pool = words.covered_in_pool v (words.works_in_pool o at lane blocks v all) id off len own i there
