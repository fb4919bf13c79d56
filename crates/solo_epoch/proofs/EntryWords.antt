-- Which words the entries are of that publish something: an action's word tells of no block, and no entry is of the descriptor of a run.
use Rattle.std.proofs.Common.{◌≡◌, ◌≢◌, ℕ, ◌+◌, ◌*◌, ◌/◌, ◌%◌, ◌<◌, ◌≤◌, ◌&&◌, true, false, eqb, leb, None, sym, ap, ◌∙◌, subst, arith, ne_eqb, ◌⊎◌, inl, inr}
use Rattle.std.specs.List.{list_any, range_with_len}
use Rattle.std.proofs.lemmas.Bool.{and_parts, eqb-true, false_from_ne_true, false≢true, leb-true, or_parts}
use Rattle.pm_image.specs.Blocks.{chunk_word, descriptor_word}
use Rattle.pm_image.specs.Contents.{data_words, size_in}
use Rattle.pm_image.specs.HeapFaults.{bad_chunk, heap_fault}
use Rattle.pm_image.proofs.FaultFree.{block_good}
use Rattle.pm_image.proofs.HeapWords.{object_fits}
use Rattle.solo_view.specs.Blocks.{chunk_of, describes, is_chunk, is_run, zone_page}
use Rattle.solo_view.specs.Blocks.{descriptor_word as lane_descriptor}
use Rattle.solo_view.specs.Bits.{with_bits}
use Rattle.solo_view.specs.Occupancy.{reaches}
use Rattle.solo_model.specs.Actions.Action.{SetWord}
use Rattle.solo_model.specs.Actions.{Action}
use Rattle.solo_world.specs.Opening.{IsChunk}
use Rattle.solo_world.proofs.Differences.{with_all_bits}
use Rattle.solo_world.proofs.HeapWords.{Described, described}
use Rattle.solo_crash.specs.HeapChanges.HeapChange.{AllocatesChunks, AllocatesInRun, FreesChunks, FreesInRun}
use Rattle.solo_crash.specs.Performing.{CanPerform, entry_for, IsUnseen}
use Rattle.solo_crash.specs.Publishing.{CanPublish, Published, entry_published}
use Rattle.solo_crash.specs.Publishing.Published.{Changes, Performs}
use Rattle.solo_crash.proofs.Apart.{IsBehindHeader, IsInZone, good_chunk, in_its_zone, no_bitmap}
use Rattle.solo_crash.proofs.ObjectBytes.{begins_word}
use Rattle.solo_crash.proofs.Standing.{Stands, block_stands}
use Rattle.solo_crash.proofs.TakenChanges.{PageChunk, chunk_in, page_chunk, run_class}

module _ (w : ℕ → ℕ) (lanes zones : ℕ) (none : heap_fault w lanes zones ≡ None) where
  -- the word describes no chunk, and is the bitmap of no run
  pub record TellsOfNone (i : ℕ) : Type 0 where
    pub plain : describes lanes i ≡ false
    pub no_bitmap : (is_chunk lanes (i / 512) && eqb (i % 512) 0 && is_run (w (lane_descriptor lanes (i / 512)))) ≡ false

  module _ (a : Action) (can : CanPerform w lanes zones a) where
    stands : Stands w lanes zones can.block
    stands = block_stands w lanes zones can.block can.is_there

    good : bad_chunk w lanes stands.chunk ≡ false
    good = good_chunk w lanes zones stands.chunk none stands.in_zones

    zone : IsInZone lanes stands.chunk can.block
    zone = in_its_zone w lanes stands.chunk can.block good stands.is

    behind : IsBehindHeader can.block (entry_for a).word
    behind = by_action a can where
      by_action : (a : Action) (can : CanPerform w lanes zones a) → IsBehindHeader can.block (entry_for a).word
      by_action (SetWord id off value) can =
          let fits : 8 + data_words (size_in w can.block) ≤ 8 * can.block.lines = object_fits w can.block (block_good w lanes zones can.block none can.is_there) in
          let word : can.block.place % 8 ≡ 0 = begins_word w lanes zones can.block can.is_there in
          let begins = can.begins in let inside = can.inside in
          record { from = omega (arith, word, begins); to = omega (arith, fits, word, begins, inside) }

    in_chunk : (chunk_word lanes stands.chunk ≤ (entry_for a).word) × ((entry_for a).word < 33792 + 1024 * lanes + 33280 * (stands.chunk / 64))
    in_chunk = let begins = zone.begins in let ends = zone.ends in let from = behind.from in let to = behind.to in (omega (arith, begins, from), omega (arith, ends, to))

    pub action_tells_none : TellsOfNone (entry_for a).word
    action_tells_none =
        let i : ℕ = (entry_for a).word in
        let from = in_chunk.0 in let to = in_chunk.1 in
        let inside = stands.in_zones in
        record {
          plain = false_from_ne_true (describes lanes i) (λ e. let d : Described lanes i = described lanes i e in let first = d.first in omega (arith, first, from, to));
          no_bitmap = false_from_ne_true (is_chunk lanes (i / 512) && eqb (i % 512) 0 && is_run (w (lane_descriptor lanes (i / 512)))) (λ e.
              let run = and_parts (is_chunk lanes (i / 512) && eqb (i % 512) 0) (is_run (w (lane_descriptor lanes (i / 512)))) e in
              let whole = and_parts (is_chunk lanes (i / 512)) (eqb (i % 512) 0) run.0 in
              let chunk = and_parts (leb (zone_page lanes 0) (i / 512)) (leb 1 (chunk_of lanes (i / 512))) whole.0 in
              let first = eqb-true (i % 512) 0 whole.1 in
              let at : PageChunk lanes zones (i / 512) (chunk_in lanes (i / 512)) = page_chunk lanes zones (i / 512) (leb-true (zone_page lanes 0) (i / 512) chunk.0, leb-true 1 (chunk_of lanes (i / 512)) chunk.1) (omega (arith, to, inside)) in
              let k : ℕ = chunk_in lanes (i / 512) in
              let bitmap = at.of.bitmap in
              let here : i ≡ chunk_word lanes k = omega (arith, bitmap, first) in
              no_bitmap w lanes stands.chunk k (w (descriptor_word lanes k) / 256) can.block good stands.is (run_class w w lanes zones none k at.in_zones (ap (λ u. is_run (w u)) (sym at.of.descriptor) ∙ run.1))
              (subst (IsBehindHeader can.block) here behind));
        }

  -- so it is of one on an object that the pool does not have
  unseen_tells_none : (a : Action) → IsUnseen w lanes zones a → TellsOfNone (entry_for a).word
  unseen_tells_none a unseen =
      let i : ℕ = (entry_for a).word in
      let at = unseen.in_chunk in let from = at.from in let to = at.to in let inside = at.in_zones in
      record {
        plain = false_from_ne_true (describes lanes i) (λ e. let d : Described lanes i = described lanes i e in let first = d.first in omega (arith, first, from, to));
        no_bitmap = false_from_ne_true (is_chunk lanes (i / 512) && eqb (i % 512) 0 && is_run (w (lane_descriptor lanes (i / 512)))) (λ e.
            let run = and_parts (is_chunk lanes (i / 512) && eqb (i % 512) 0) (is_run (w (lane_descriptor lanes (i / 512)))) e in
            let whole = and_parts (is_chunk lanes (i / 512)) (eqb (i % 512) 0) run.0 in
            let chunk = and_parts (leb (zone_page lanes 0) (i / 512)) (leb 1 (chunk_of lanes (i / 512))) whole.0 in
            let first = eqb-true (i % 512) 0 whole.1 in
            let page : PageChunk lanes zones (i / 512) (chunk_in lanes (i / 512)) = page_chunk lanes zones (i / 512) (leb-true (zone_page lanes 0) (i / 512) chunk.0, leb-true 1 (chunk_of lanes (i / 512)) chunk.1) (omega (arith, to, inside)) in
            let k : ℕ = chunk_in lanes (i / 512) in
            let bitmap = page.of.bitmap in
            let here : i ≡ chunk_word lanes k = omega (arith, bitmap, first) in
            unseen.unread (inr (inr (inl (record {
              chunk = k;
              lines = w (descriptor_word lanes k) / 256;
              in_range = page.in_zones;
              is_run = run_class w w lanes zones none k page.in_zones (ap (λ u. is_run (w u)) (sym page.of.descriptor) ∙ run.1);
              is_word = here;
            })))));
      }

  pub tells_none : (a : Action) → CanPerform w lanes zones a ⊎ IsUnseen w lanes zones a → TellsOfNone (entry_for a).word
  tells_none a (inl can) = action_tells_none a can
  tells_none a (inr unseen) = unseen_tells_none a unseen

  -- the word lies in a chunk of some zone
  pub in_zone : (a : Action) → CanPerform w lanes zones a ⊎ IsUnseen w lanes zones a → (c : ℕ) × (chunk_word lanes c ≤ (entry_for a).word) × ((entry_for a).word < 33792 + 1024 * lanes + 33280 * (c / 64))
  in_zone a (inl can) = let t = in_chunk a can in ((stands a can).chunk, t.0, t.1)
  in_zone a (inr unseen) = let at = unseen.in_chunk in let to = at.to in (at.chunk, at.from, omega (arith, to))

  -- an entry of a descriptor is of that of a free chunk, or of a block of whole chunks
  pub run_untouched : (s : Published) (page : ℕ) → CanPublish w lanes zones s → IsChunk lanes page → is_run (w (lane_descriptor lanes page)) ≡ true → (entry_published lanes s).word ≢ lane_descriptor lanes page
  run_untouched (Performs a) page can chunk run same =
      let low = chunk.0 in let some = chunk.1 in
      let in_it = in_zone a can in let from = in_it.1 in let to = in_it.2 in
      omega (arith, low, some, from, to, same)
  run_untouched (Changes (AllocatesInRun c lines index kind bytes)) page can chunk run same = let low = chunk.0 in let some = chunk.1 in omega (arith, low, some, same)
  run_untouched (Changes (FreesInRun c lines index)) page can chunk run same = let low = chunk.0 in let some = chunk.1 in omega (arith, low, some, same)
  run_untouched (Changes (AllocatesChunks c chunks kind bytes)) page can chunk run same =
      let first : 512 * zone_page lanes (c / 64) + (c % 64 + 0) ≡ descriptor_word lanes c = omega arith in
      let reached = list_any (reaches w lanes (c / 64) (c % 64 + 0)) (range_with_len 0 (c % 64 + 0 + 1)) in
      false≢true (sym (or_parts (is_run (w (512 * zone_page lanes (c / 64) + (c % 64 + 0)))) reached (can.1.are_free 0 can.0)).0 ∙ (ap (λ u. is_run (w u)) (first ∙ same) ∙ run))
  run_untouched (Changes (FreesChunks c chunks)) page can chunk run same =
      let is : w (descriptor_word lanes c) ≡ 2 + 256 * chunks = can.is_first in
      let one = eqb-true (w (lane_descriptor lanes page) % 256) 1 run in
      let here = ap w same in omega (arith, is, one, here)

  -- and none makes a descriptor that of a run
  pub no_run_made : (s : Published) (page x : ℕ) → CanPublish w lanes zones s → IsChunk lanes page → (entry_published lanes s).word ≡ lane_descriptor lanes page
      → is_run (with_bits (entry_published lanes s).mask (entry_published lanes s).bits x) ≡ false
  no_run_made (Performs a) page x can chunk same =
      let low = chunk.0 in let some = chunk.1 in
      let in_it = in_zone a can in let from = in_it.1 in let to = in_it.2 in
      absurd (omega (arith, low, some, from, to, same))
  no_run_made (Changes (AllocatesInRun c lines index kind bytes)) page x can chunk same = let low = chunk.0 in let some = chunk.1 in absurd (omega (arith, low, some, same))
  no_run_made (Changes (FreesInRun c lines index)) page x can chunk same = let low = chunk.0 in let some = chunk.1 in absurd (omega (arith, low, some, same))
  no_run_made (Changes (AllocatesChunks c chunks kind bytes)) page x can chunk same = ap is_run (with_all_bits x (2 + 256 * chunks)) ∙ ne_eqb ((2 + 256 * chunks) % 256) 1 (λ one. omega (arith, one))
  no_run_made (Changes (FreesChunks c chunks)) page x can chunk same = ap is_run (with_all_bits x 0)
