-- As a lane draws, where no other lane has a call: the words after the whole history are those before its call.
use Rattle.std.proofs.Common.{◌≡◌, ◌≢◌, ⊎_elim, inl, inr, ℕ, ◌+◌, ◌*◌, ◌/◌, ◌<◌, ◌≤◌, true, false, eqb, leb, IfSome, List, [], slice_index, Option, Some, None, refl, sym, ◌∙◌, ap, subst, arith}
use Rattle.std.specs.List.{Contains}
use Rattle.std.proofs.lemmas.Bool.{and_parts, and_right, cases_Bool, cases_eq, eqb-true, false_from_ne_true, leb-true, or_from}
use Rattle.std.proofs.lemmas.List.Elements.{All-contains}
use Rattle.std.proofs.lemmas.List.Folds.{Any-from_list_any}
use Rattle.std.proofs.lemmas.Option.{none-some}
use Rattle.pm_image.specs.Blocks.{blocks}
use Rattle.pm_image.specs.HeapFaults.{heap_fault}
use Rattle.solo_view.specs.Blocks.{bitmap_word, block_at, chunk_of, descriptor_word, is_run, zone_page}
use Rattle.solo_view.specs.Log.{Final, Recorded}
use Rattle.solo_view.specs.Log.Phase.{Open}
use Rattle.solo_view.specs.View.{Lock, View}
use Rattle.solo_world.specs.Course.{flight, flight_in}
use Rattle.solo_world.specs.Entries.{is_entered, is_in_log, is_redoing, is_redone}
use Rattle.solo_world.specs.Fits.{LaneFits, LockFits}
use Rattle.solo_world.specs.History.{Entry, Flies, is_final, settled}
use Rattle.solo_world.specs.Opening.{Guards, IsChunk, Opening, TellsOfBlocks}
use Rattle.solo_world.specs.Records.{is_logged, is_recorded}
use Rattle.solo_world.specs.World.{World}
use Rattle.solo_world.proofs.CrashLogs.{unrecorded_unlogged}
use Rattle.solo_world.proofs.Pairs.{none_redone}
use Rattle.solo_world.proofs.Replays.{replayed-other, replayed-same}
use Rattle.solo_crash.specs.Lines.{AgreeAtLine}
use Rattle.solo_crash.specs.OneLane.{Moment, TellsAsOpening}
use Rattle.solo_crash.specs.OpenCall.{IsBefore, block_at_line}
use Rattle.solo_crash.proofs.FoundBlocks.{block_in_chunk, found_is_block, found_within}
use Rattle.solo_crash.proofs.Continued.{two_same}
use Rattle.solo_crash.proofs.LivingWords.{lies_under, lying_lives, LiesInBlock}
use Rattle.solo_crash.proofs.LongerReplays.{every, words_after}

-- a difference that is of a word has a part of it
final_there : (difference : List Final) (i : ℕ) → is_final difference i ≡ true → (f : Final) × Contains difference f × (f.word ≡ i)
final_there difference i is = let t = Any-from_list_any (λ (f : Final). eqb f.word i) difference is in (t.1, (t.0, t.2, t.3), eqb-true t.1.word i t.4)

module _ (o : Opening) (k : ℕ) (m : Moment) (world : World o m.memory m.views m.log m.decided) (inside : k < o.lanes) where
  abbrev v : View
  v = m.views k

  abbrev own : Type 0
  own = LaneFits o m.memory (settled o m.log m.decided) (Flies m.log m.decided k) k v

  fits : own
  fits = world.each_lane k inside

  -- no entry is of a word that tells of blocks
  pub heads_stay : (i : ℕ) → TellsOfBlocks o i → words_after (slice_index o.words) m.log i ≡ slice_index o.words i
  heads_stay i tells =
      replayed-other every m.log i (slice_index o.words i)
      (λ e there. false_from_ne_true (is_final e.difference i)
      (λ is.
      let f = final_there e.difference i is in
      let guard = (world.each_entry e there).guarded f.0 f.1 in
      world.sound.apart guard.0 i (subst (Guards o guard.0) f.2 guard.1) tells))

  -- nor of the root's word, and so the words tell of both what the opening's do
  root_stays : words_after (slice_index o.words) m.log 64 ≡ slice_index o.words 64
  root_stays =
      replayed-other every m.log 64 (slice_index o.words 64)
      (λ e there. false_from_ne_true (is_final e.difference 64)
      (λ is.
      let f = final_there e.difference 64 is in
      let guard = (world.each_entry e there).guarded f.0 f.1 in
      let behind : 512 + 1024 * o.lanes ≤ 64 = world.sound.behind_areas guard.0 64 (subst (Guards o guard.0) f.2 guard.1) in
      absurd (omega (arith, behind))))

  pub tells_as_opening : TellsAsOpening o (words_after (slice_index o.words) m.log)
  tells_as_opening = record { blocks = heads_stay; root = root_stays }

  -- a block that was found under a lock is one of the words after the history
  found_stays : (line lines : ℕ) → heap_fault (words_after (slice_index o.words) m.log) o.lanes o.zones ≡ None → block_at o.lanes o.words line ≡ Some lines
      → Contains (blocks (words_after (slice_index o.words) m.log) o.lanes o.zones) (block_at_line line lines)
  found_stays line lines none found =
      let page : ℕ = line / 64 in
      let parts = and_parts (leb (zone_page o.lanes 0) page) (leb 1 (chunk_of o.lanes page)) (block_in_chunk o.words o.lanes line lines found) in
      let chunk : IsChunk o.lanes page = (leb-true (zone_page o.lanes 0) page parts.0, leb-true 1 (chunk_of o.lanes page) parts.1) in
      let size = world.sound.size in
      let descriptor : words_after (slice_index o.words) m.log (descriptor_word o.lanes page) ≡ slice_index o.words (descriptor_word o.lanes page) = heads_stay (descriptor_word o.lanes page) (page, (chunk, inl refl)) in
      let agree : AgreeAtLine o.words (words_after (slice_index o.words) m.log) o.lanes line = record {
        descriptor = sym descriptor;
        bitmap = λ run. sym (heads_stay (bitmap_word page) (page, (chunk, inr (refl, sym (ap is_run descriptor) ∙ run))));
      } in
      found_is_block o.words (words_after (slice_index o.words) m.log) o.lanes o.zones line lines none agree
      (found_within o.words o.lanes o.zones line lines (omega arith) found) found

  module _ (alone : (e : Entry) → Contains m.log e → e.lane ≡ k) (others : (j : ℕ) → j < o.lanes → j ≢ k → (m.views j).log.records ≡ []) (unentered : (j : ℕ) → j < o.lanes → j ≢ k → (m.views j).log.entries ≡ []) (is_open : v.log.phase ≡ Open [] []) where
    all_decided : (e : Entry) → Contains m.log e → m.decided e.number ≡ true
    all_decided e there = ⊎_elim
        (λ (yes : m.decided e.number ≡ true). yes)
        (λ (no : m.decided e.number ≡ false).
        let flies : flight v ≡ Some e.number = subst (λ j. flight (m.views j) ≡ Some e.number) (alone e there) ((world.each_entry e there).in_flight no) in
        absurd (none-some e.number (sym (ap (λ p. flight_in p v.number) is_open) ∙ flies)))
        (cases_Bool (m.decided e.number))

    settled_is : (i : ℕ) → settled o m.log m.decided i ≡ words_after (slice_index o.words) m.log i
    settled_is i = replayed-same m.decided every m.log i (slice_index o.words i) (λ e there of. all_decided e there)

    unlogged : (i : ℕ) → is_recorded v.log.records i ≡ false → (j : ℕ) → j < o.lanes → is_in_log (m.views j) i ≡ false
    unlogged i none j low = ⊎_elim
        (λ (same : j ≡ k). subst (λ n. is_in_log (m.views n) i ≡ false) (sym same) (or_from (is_logged v i) (is_redone v i) (unrecorded_unlogged v i none) (none_redone v i (ap is_redoing is_open))))
        (λ (other : j ≢ k). or_from (is_logged (m.views j) i) (is_redone (m.views j) i) (unrecorded_unlogged (m.views j) i (ap (λ (records : List Recorded). is_recorded records i) (others j low other)))
        (and_right (is_redoing (m.views j).log.phase) (is_entered (m.views j).log.entries i) (ap (λ (entries : List Final). is_entered entries i) (unentered j low other))))
        (cases_eq j k)

    found_there : heap_fault (words_after (slice_index o.words) m.log) o.lanes o.zones ≡ None → (l : Lock) (lines : ℕ) → Contains v.locks l → l.block ≡ Some lines
        → Contains (blocks (words_after (slice_index o.words) m.log) v.lanes v.zones) (block_at_line l.line lines)
    found_there none l lines there block =
        let fit : LockFits o m.memory k l = All-contains (LockFits o m.memory k) v.locks l fits.locks there in
        let found : block_at o.lanes o.words l.line ≡ Some lines = subst (λ (b : Option ℕ). IfSome b (λ n. block_at o.lanes o.words l.line ≡ Some n)) block fit.found in
        let at_zones = subst (λ (n : ℕ). Contains (blocks (words_after (slice_index o.words) m.log) o.lanes n) (block_at_line l.line lines)) (sym fits.lane.zones) (found_stays l.line lines none found) in
        subst (λ (n : ℕ). Contains (blocks (words_after (slice_index o.words) m.log) n v.zones) (block_at_line l.line lines)) (sym fits.lane.lanes) at_zones

    pub drawn_before : heap_fault (words_after (slice_index o.words) m.log) o.lanes o.zones ≡ None → IsBefore v (words_after (slice_index o.words) m.log)
    drawn_before none = record {
      recorded = λ slot r i at low. sym (((fits.log.each slot r at).each i low).before ∙ settled_is (r.word + i));
      known = λ i known outside unrecorded under.
          let here : LiesInBlock (words_after (slice_index o.words) m.log) o.lanes o.zones i =
          two_same (λ (n l : ℕ). LiesInBlock (words_after (slice_index o.words) m.log) n l i) v.lanes o.lanes v.zones o.zones fits.lane.lanes fits.lane.zones
          (lies_under v (words_after (slice_index o.words) m.log) i (found_there none) under) in
          sym (settled_is i) ∙ sym (world.each_word i (lying_lives o (words_after (slice_index o.words) m.log) heads_stay world.sound none i here) (unlogged i unrecorded)) ∙ fits.picture.known i known;
      found = found_there none;
    }
