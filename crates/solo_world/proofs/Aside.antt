-- A word in a block that a lane reserved is that lane's alone: it lies in no area, no lock guards it, and no other lane reserved it.
use Rattle.std.proofs.Common.{◌≡◌, ◌≢◌, ℕ, ◌-◌, ◌*◌, ◌/◌, ◌%◌, ◌<◌, inl, inr, ⊎_elim, Bool, true, ◌||◌, eqb, All, IsTrue, IfSome, Option, Some, None, List, slice_index, sym, ap, ◌∙◌, arith}
use Rattle.std.specs.List.{list_any}
use Rattle.std.proofs.lemmas.Bool.{and_parts, eqb-true, or_cases, or_left, or_right}
use Rattle.std.proofs.lemmas.List.Elements.{All-contains}
use Rattle.std.proofs.lemmas.List.Folds.{Any-from_list_any}
use Rattle.solo_view.specs.Area.{is_in_area}
use Rattle.solo_view.specs.declared.occ.Occ.{Occ}
use Rattle.solo_view.specs.declared.occ.Occ.TheVariants.{Run}
use Rattle.solo_view.specs.Blocks.{block_at, descriptor_word, page_told}
use Rattle.solo_view.specs.Held.{is_held, is_reserved, is_under, is_under_found, root_word}
use Rattle.solo_view.specs.Log.{Final}
use Rattle.solo_view.specs.Rights.{is_written}
use Rattle.solo_view.specs.View.{Lock, View}
use Rattle.solo_view.specs.Views.{chunk_bit, has_bit, has_chunk, reserves, zone_at}
use Rattle.solo_world.specs.Fits.{LaneFits, LockFits}
use Rattle.solo_world.specs.Heap.{has_run_chunk, has_taken, heap_words}
use Rattle.solo_world.specs.History.{Entry, settled}
use Rattle.solo_world.specs.Memory.{Memory}
use Rattle.solo_world.specs.Opening.{Guards, IsChunk, IsSound, Opening}
use Rattle.solo_world.specs.World.{Views, World}
use Rattle.solo_world.proofs.Apart.{area_bounds}
use Rattle.solo_world.proofs.Exclusion.{writes_under}
use Rattle.solo_world.proofs.Reserved.{IsApart, IsBitHad, chunk_word_here, reserved_apart, reserved_bit}

-- the word lies apart, and no lane but this one reserved it
pub record IsAside (o : Opening) (views : Views) (k w : ℕ) : Type 0 where
  pub apart : IsApart (slice_index o.words) o.lanes o.zones w
  pub alone : (j : ℕ) → j < o.lanes → is_reserved (views j) w ≡ true → j ≡ k

pub had_reserved : (v : View) (at : Occ) (bit : ℕ) → reserves v at bit ≡ true → has_taken v at bit ≡ true
had_reserved v at bit e = or_left (reserves v at bit || has_run_chunk v at) (list_any (has_bit at bit) v.freed) (or_left (reserves v at bit) (has_run_chunk v at) e)

-- the lane that reserved a chunk has each block of a run there
pub had_chunk : (v : View) (lanes page bit : ℕ) → v.lanes ≡ lanes → reserves v (zone_at lanes page) (chunk_bit lanes page) ≡ true → has_taken v (Run (4096 * page)) bit ≡ true
had_chunk v lanes page bit of e =
    let here : (4096 * page) / 4096 ≡ page = omega arith in
    or_left (reserves v (Run (4096 * page)) bit || has_run_chunk v (Run (4096 * page))) (list_any (has_bit (Run (4096 * page)) bit) v.freed)
    (or_right (reserves v (Run (4096 * page)) bit) (has_run_chunk v (Run (4096 * page))) (ap (has_chunk v) here ∙ (ap (λ n. reserves v (zone_at n page) (chunk_bit n page)) of ∙ e)))

-- which block of a run the word is in, as the words tell now
abbrev block_in : Opening → Memory → ℕ → ℕ
block_in o mem w = (w % 512 / 8 - 1) / (heap_words o mem (descriptor_word o.lanes (w / 512)) / 256)

pub reserved_aside : (o : Opening) (mem : Memory) (views : Views) (log : List Entry) (decided : ℕ → Bool) → World o mem views log decided → (k w : ℕ) → k < o.lanes → is_reserved (views k) w ≡ true → IsAside o views k w
reserved_aside o mem views log decided world k w inside own = record {
  apart = let fits = world.each_lane k inside in reserved_apart o mem (views k) w fits.lane.lanes fits.blocks own;
  alone = λ j low there.
      let fits = world.each_lane k inside in let its = world.each_lane j low in
      both j low (reserved_bit o mem (views j) w its.lane.lanes its.blocks there) (reserved_bit o mem (views k) w fits.lane.lanes fits.blocks own);
}
  where
    -- the bit that stands for the word is of one lane alone
    one_lane : (j : ℕ) (at : Occ) (bit : ℕ) → j < o.lanes → has_taken (views j) at bit ≡ true → has_taken (views k) at bit ≡ true → j ≡ k
    one_lane j at bit low one other = world.heap.apart j k at bit low inside one other

    -- the lane has the chunk of the word, and so each block of a run there
    chunk_had : (j : ℕ) → j < o.lanes → IsChunk o.lanes (w / 512) → reserves (views j) (zone_at o.lanes (page_told o.lanes w)) (chunk_bit o.lanes (page_told o.lanes w)) ≡ true → has_taken (views j) (Run (4096 * (w / 512))) (block_in o mem w) ≡ true
    chunk_had j low chunk one =
        had_chunk (views j) o.lanes (w / 512) (block_in o mem w) (world.each_lane j low).lane.lanes (ap (λ p. reserves (views j) (zone_at o.lanes p) (chunk_bit o.lanes p)) (sym (chunk_word_here o.lanes w chunk.1)) ∙ one)

    both : (j : ℕ) → j < o.lanes → IsBitHad o mem (views j).words w (reserves (views j)) → IsBitHad o mem (views k).words w (reserves (views k)) → j ≡ k
    both j low (inl one) (inl other) = let at : Occ = zone_at o.lanes (page_told o.lanes w) in let bit : ℕ = chunk_bit o.lanes (page_told o.lanes w) in one_lane j at bit low (had_reserved (views j) at bit one) (had_reserved (views k) at bit other)
    both j low (inl one) (inr (chunk, other)) = one_lane j (Run (4096 * (w / 512))) (block_in o mem w) low (chunk_had j low chunk one) (had_reserved (views k) (Run (4096 * (w / 512))) (block_in o mem w) other)
    both j low (inr (chunk, one)) (inl other) = one_lane j (Run (4096 * (w / 512))) (block_in o mem w) low (had_reserved (views j) (Run (4096 * (w / 512))) (block_in o mem w) one) (chunk_had k inside chunk other)
    both j low (inr (chunk, one)) (inr (also, other)) = one_lane j (Run (4096 * (w / 512))) (block_in o mem w) low (had_reserved (views j) (Run (4096 * (w / 512))) (block_in o mem w) one) (had_reserved (views k) (Run (4096 * (w / 512))) (block_in o mem w) other)

module _ (o : Opening) (views : Views) (k w : ℕ) (sound : IsSound o) (aside : IsAside o views k w) where
  pub aside_area : (j : ℕ) → j < o.lanes → is_in_area j w ≡ true → ⊥
  aside_area j low there = let high = (area_bounds j w there).1 in let behind = aside.apart.behind in absurd (omega arith)

  pub aside_guarded : (line : ℕ) → Guards o line w → ⊥
  aside_guarded line guard = aside.apart.outside (sound.in_blocks line w guard)

  under_none : (line : ℕ) (block : Option ℕ) → IfSome block (λ lines. block_at o.lanes o.words line ≡ Some lines) → is_under_found line block w ≡ true → ⊥
  under_none line None found e = let root : w ≡ root_word = eqb-true w root_word (and_parts (eqb line 0) (eqb w root_word) e).1 in let behind = aside.apart.behind in absurd (omega arith)
  under_none line (Some lines) found e = aside_guarded line (record { lines = lines; block = found; inside = e })

  pub aside_locked : (mem : Memory) (j : ℕ) (v : View) → All (LockFits o mem j) v.locks → list_any (is_under w) v.locks ≡ true → ⊥
  aside_locked mem j v fits under =
      let t = Any-from_list_any (is_under w) v.locks under in
      let l : Lock = t.1 in
      under_none l.line l.block (All-contains (LockFits o mem j) v.locks l fits (t.0, t.2, t.3)).found t.4

  pub aside_written : (mem : Memory) (j : ℕ) (v : View) → All (LockFits o mem j) v.locks → IsTrue (is_written v w) → ⊥
  aside_written mem j v fits written = let under = writes_under o mem j v w fits written in aside_guarded under.0 under.1

  pub aside_held : (mem : Memory) (settled : ℕ → ℕ) (flies : ℕ → List Final → Type 0) (j : ℕ) → j < o.lanes → j ≢ k → LaneFits o mem settled flies j (views j) → IsTrue (is_held (views j) w) → ⊥
  aside_held mem settled flies j low other fits e =
      ⊎_elim
      (λ (core : (is_in_area (views j).lane w || list_any (is_under w) (views j).locks) ≡ true). ⊎_elim
      (λ (area : is_in_area (views j).lane w ≡ true). aside_area j low (ap (λ n. is_in_area n w) (sym fits.lane.lane) ∙ area))
      (λ (under : list_any (is_under w) (views j).locks ≡ true). aside_locked mem j (views j) fits.locks under)
      (or_cases (is_in_area (views j).lane w) (list_any (is_under w) (views j).locks) core))
      (λ (reserved : is_reserved (views j) w ≡ true). other (aside.alone j low reserved))
      (or_cases (is_in_area (views j).lane w || list_any (is_under w) (views j).locks) (is_reserved (views j) w) e)
