-- A known word under a lock held for writing may be recorded, where the view finds of blocks what the opening has.
use Rattle.std.proofs.Common.{◌≡◌, ℕ, ◌-◌, ◌/◌, ◌⊎◌, inl, inr, Bool, true, false, not, cond, leb, ◌&&◌, IfSome, IsTrue, Contains, length, ◌<◌, ◌||◌, slice_index, Option, Some, None, is_some, refl, sym, ap, ◌∙◌, subst, arith, ne_eqb}
use Rattle.std.specs.List.{list_any}
use Rattle.std.proofs.lemmas.Bool.{and_from, and_parts, or_left, or_right, leb-true, false≢true, false_from_ne_true}
use Rattle.std.proofs.lemmas.List.Elements.{All-contains}
use Rattle.std.proofs.lemmas.List.Folds.{Any-from_list_any, list_any_at}
use Rattle.solo_view.specs.Area.{is_in_area}
use Rattle.solo_view.specs.Blocks.{bitmap_word, block_at, chunk_of, descriptor_word, is_chunk, is_run, is_word, zone_of, zone_page}
use Rattle.solo_view.specs.Held.{is_held, is_known, is_reserved, is_under, is_under_found}
use Rattle.solo_view.specs.Occupancy.{is_chunk_taken}
use Rattle.solo_view.specs.Rights.{is_written}
use Rattle.solo_view.specs.View.{View, Lock}
use Rattle.solo_world.specs.Opening.{Opening, Guards, IsChunk, IsSound, TellsOfBlocks, is_free_chunk}
use Rattle.solo_world.proofs.Apart.{area_bounds}
use Rattle.solo_undo.specs.Working.{CanSnapshot, FindsOpening, IsPlain, TellsNoBlock}

guards : (o : Opening) (w line : ℕ) (write : Bool) (block : Option ℕ) → IfSome block (λ lines. block_at o.lanes o.words line ≡ Some lines)
    → (write && is_some block && is_under_found line block w) ≡ true → Guards o line w
guards o w line true (Some lines) found e = record { lines = lines; block = found; inside = e }
guards o w line true None found e = absurd (false≢true e)
guards o w line false (Some lines) found e = absurd (false≢true e)
guards o w line false None found e = absurd (false≢true e)

module _ (o : Opening) (sound : IsSound o) (v : View) (finds : FindsOpening o v) (w : ℕ) (guarded : (line : ℕ) × Guards o line w) where
  outside : is_in_area v.lane w ≡ false
  outside =
      let behind = sound.behind_areas guarded.0 w guarded.1 in
      false_from_ne_true (is_in_area v.lane w) (λ area. let high = (area_bounds v.lane w area).1 in let low = finds.lane in let n = finds.lanes in absurd (omega (arith, high, low, n, behind)))

  inside : w < length v.words
  inside = let within = sound.within guarded.0 w guarded.1 in let n = finds.size in omega (arith, within, n)

  chunk_is : (page : ℕ) → is_chunk v.lanes page ≡ true → IsChunk o.lanes page
  chunk_is page chunk =
      let t = and_parts (leb (zone_page v.lanes 0) page) (leb 1 (chunk_of v.lanes page)) chunk in
      subst (λ n. IsChunk n page) finds.lanes (leb-true (zone_page v.lanes 0) page t.0, leb-true 1 (chunk_of v.lanes page) t.1)

  -- it lies in a chunk that was taken
  lies_in_taken : is_free_chunk (slice_index o.words) o.lanes (w / 512) ≡ false
  lies_in_taken =
      let page : ℕ = w / 512 in
      let t = and_parts (is_chunk o.lanes page && is_chunk_taken (slice_index o.words) o.lanes (zone_of o.lanes page) (chunk_of o.lanes page - 1)) _ (sound.in_blocks guarded.0 w guarded.1) in
      ap not (and_parts (is_chunk o.lanes page) (is_chunk_taken (slice_index o.words) o.lanes (zone_of o.lanes page) (chunk_of o.lanes page - 1)) t.0).1

  -- it describes no chunk, and is no run's bitmap
  tells : (page : ℕ) → is_chunk v.lanes page ≡ true → (b : Bool) → is_run (slice_index v.words (descriptor_word v.lanes page)) ≡ b → cond b (bitmap_word page) (descriptor_word v.lanes page) ≡ w → TellsOfBlocks o w
  tells page chunk b run same =
      let is : IsChunk o.lanes page = chunk_is page chunk in
      (page, (is, at is b run same)) where
        at : IsChunk o.lanes page → (b : Bool) → is_run (slice_index v.words (descriptor_word v.lanes page)) ≡ b → cond b (bitmap_word page) (descriptor_word v.lanes page) ≡ w
            → (w ≡ descriptor_word o.lanes page) ⊎ ((w ≡ bitmap_word page) × IsTrue (is_run (slice_index o.words (descriptor_word o.lanes page))))
        at is true run same =
            let taken : is_free_chunk (slice_index o.words) o.lanes page ≡ false = ap (is_free_chunk (slice_index o.words) o.lanes) (let e : page ≡ w / 512 = omega (arith, same) in e) ∙ lies_in_taken in
            inr (sym same, ap is_run (sym (finds.descriptors page is taken)) ∙ (ap (λ n. is_run (slice_index v.words (descriptor_word n page))) (sym finds.lanes) ∙ run))
        at is false run same = inl (sym same ∙ ap (λ n. descriptor_word n page) finds.lanes)

  quiet : TellsNoBlock v w
  quiet l there = at (is_chunk v.lanes (l.line / 64)) refl where
    run : Bool
    run = is_run (slice_index v.words (descriptor_word v.lanes (l.line / 64)))

    at : (b : Bool) → is_chunk v.lanes (l.line / 64) ≡ b → is_word (cond (not b) None (Some (cond run (bitmap_word (l.line / 64)) (descriptor_word v.lanes (l.line / 64))))) w ≡ false
    at true chunk = ne_eqb (cond run (bitmap_word (l.line / 64)) (descriptor_word v.lanes (l.line / 64))) w (λ same. sound.apart guarded.0 w guarded.1 (tells (l.line / 64) chunk run refl same))
    at false chunk = refl

  plain : IsPlain v w
  plain = record {
    quiet = quiet;
    plain = λ page chunk same. sound.apart guarded.0 w guarded.1 (page, (chunk_is page chunk, inl (same ∙ ap (λ n. descriptor_word n page) finds.lanes)));
  }

-- a lock under which the view found a block guards the words under it
pub found_guards : (o : Opening) (v : View) → FindsOpening o v → (l : Lock) (w : ℕ) → Contains v.locks l → (write : Bool) → (write && is_some l.block && is_under w l) ≡ true → Guards o l.line w
found_guards o v finds l w held write under =
    guards o w l.line write l.block (All-contains (λ (m : Lock). IfSome m.block (λ lines. block_at o.lanes o.words m.line ≡ Some lines)) v.locks l finds.locks held) under

-- and so is each word that the lane may write
module _ (o : Opening) (sound : IsSound o) (v : View) (finds : FindsOpening o v) (w : ℕ) (written : is_written v w ≡ true) where
  written_guards : (line : ℕ) × Guards o line w
  written_guards =
      let t = Any-from_list_any (λ (l : Lock). l.write && is_some l.block && is_under_found l.line l.block w) v.locks written in
      let l : Lock = t.1 in
      (l.line, found_guards o v finds l w (t.0, t.2, t.3) l.write t.4)

  pub written_is_plain : IsPlain v w
  written_is_plain = plain o sound v finds w written_guards

  pub locked_may_be_recorded : is_known v w ≡ true → CanSnapshot v w
  locked_may_be_recorded known = record {
    user = record { own = written; known = known; outside = outside o sound v finds w written_guards; inside = inside o sound v finds w written_guards };
    quiet = quiet o sound v finds w written_guards;
  }

pub locked_is_plain : (o : Opening) → IsSound o → (v : View) → FindsOpening o v → (l : Lock) (w : ℕ) → Contains v.locks l → IsTrue (is_some l.block) → is_under w l ≡ true
    → IsPlain v w × (w < length v.words) × (is_in_area v.lane w ≡ false) × (is_held v w ≡ true)
locked_is_plain o sound v finds l w held found under =
    let guarded : (line : ℕ) × Guards o line w = (l.line, found_guards o v finds l w held true (and_from (is_some l.block) (is_under w l) found under)) in (
      plain o sound v finds w guarded,
      inside o sound v finds w guarded,
      outside o sound v finds w guarded,
      or_left (is_in_area v.lane w || list_any (is_under w) v.locks) (is_reserved v w)
          (or_right (is_in_area v.lane w) (list_any (is_under w) v.locks) (list_any_at (is_under w) v.locks held.0 l held.1 (ap (is_under w) held.2 ∙ under))),
    )
