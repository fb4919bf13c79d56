-- What a lane looks at is in no other lane's call in flight, so whichever of these are left out, the words may be those before its open call.
use Rattle.std.proofs.Common.{◌≡◌, ◌≢◌, inl, inr, ⊎_elim, ℕ, ◌+◌, ◌/◌, ◌<◌, Bool, true, false, not, cond, eqb, IsTrue, IfSome, List, [], ◌∷◌, ◌++◌, slice_index, Option, Some, None, refl, sym, ◌∙◌, ap, subst, arith}
use Rattle.std.specs.List.{Contains}
use Rattle.std.proofs.lemmas.Bool.{cases_Bool, cases_eq, cond-true, eqb-true, or_from, false_from_ne_true}
use Rattle.std.proofs.lemmas.List.Elements.{All-contains}
use Rattle.std.proofs.lemmas.List.Folds.{Any-from_list_any}
use Rattle.std.proofs.lemmas.Option.{none-some}
use Rattle.pm_image.specs.Blocks.{blocks}
use Rattle.pm_image.specs.HeapFaults.{heap_fault}
use Rattle.solo_view.specs.Area.{is_in_area}
use Rattle.solo_view.specs.Blocks.{bitmap_word, block_at, descriptor_word, is_chunk, is_run}
use Rattle.solo_view.specs.Held.{is_held}
use Rattle.solo_view.specs.Log.{Final}
use Rattle.solo_view.specs.View.{View, Lock}
use Rattle.solo_world.specs.Course.{entry_of, flight}
use Rattle.solo_world.specs.Entries.{is_in_log, is_redoing, is_redone}
use Rattle.solo_world.specs.Fits.{LaneFits, LockFits, RecordedWordFits}
use Rattle.solo_world.specs.History.{Entry, Flies, is_final, made_final, replayed, settled}
use Rattle.solo_world.specs.Memory.{Memory}
use Rattle.solo_world.specs.Opening.{Guards, IsChunk, IsLivingWord, Opening, TellsOfBlocks}
use Rattle.solo_world.specs.Records.{difference_of, is_logged, is_recorded, records_generation}
use Rattle.solo_world.specs.World.{Views, World}
use Rattle.solo_world.proofs.Plain.{flying_still, plain_still}
use Rattle.solo_world.proofs.Apart.{heap_outside, held_apart}
use Rattle.solo_world.proofs.Chunks.{chunk_here}
use Rattle.solo_world.proofs.CrashReplays.{flies_of}
use Rattle.solo_world.proofs.Pairs.{difference-written, in_log_written, none_redone}
use Rattle.solo_world.proofs.Exclusion.{WritesUnder, writes_under}
use Rattle.solo_world.proofs.Histories.{one_entry}
use Rattle.solo_world.proofs.Replays.{replayed-other, replayed-same}
use Rattle.solo_world.proofs.Slots.{unrecorded}
use Rattle.solo_crash.specs.Draws.{KeepsDecided, kept_words}
use Rattle.solo_crash.specs.Lines.{AgreeAtLine}
use Rattle.solo_crash.specs.OpenCall.{IsBefore, block_at_line, made_words}
use Rattle.solo_crash.proofs.Continued.{two_same}
use Rattle.solo_crash.proofs.LivingWords.{lies_under, lying_lives, LiesInBlock}
use Rattle.solo_crash.proofs.Differing.{difference_makes_call}
use Rattle.solo_crash.proofs.FoundBlocks.{found_is_block, found_within}

-- a call that is drawn makes of the words of those before it what it made of words before it
last_makes : (keep : ℕ → Bool) (log : List Entry) (e : Entry) (i x : ℕ) → keep e.number ≡ true → replayed keep (log ++ e ∷ []) i x ≡ made_final e.difference i (replayed keep log i x)
unfolding replayed
last_makes keep [] e i x kept = cond-true (keep e.number) (made_final e.difference i x) x kept
last_makes keep (d ∷ log) e i x kept = last_makes keep log e i (cond (keep d.number) (made_final d.difference i x) x) kept

pub drawn_makes_words : (keep : ℕ → Bool) (log : List Entry) (v : View) (n i : ℕ) (start : ℕ → ℕ) → keep n ≡ true
    → replayed keep (log ++ entry_of v n ∷ []) i (start i) ≡ made_words v (λ j. replayed keep log j (start j)) i
drawn_makes_words keep log v n i start kept = last_makes keep log (entry_of v n) i (start i) kept ∙ difference_makes_call v (λ j. replayed keep log j (start j)) i

-- a block is found in a chunk alone
found_in_chunk : (in_chunk : Bool) (rest : Option ℕ) (lines : ℕ) → cond (not in_chunk) None rest ≡ Some lines → in_chunk ≡ true
found_in_chunk true rest lines found = refl
found_in_chunk false rest lines found = absurd (none-some lines found)

module _ (o : Opening) (mem : Memory) (views : Views) (log : List Entry) (decided : ℕ → Bool) (x : World o mem views log decided) (keep : ℕ → Bool) where
  abbrev words_kept : ℕ → ℕ
  words_kept = kept_words o keep log

  -- a word that an entry not decided makes final is one that its lane holds for writing
  undecided_writes : (e : Entry) (i : ℕ) → Contains log e → decided e.number ≡ false → is_final e.difference i ≡ true → WritesUnder o mem e.lane i
  undecided_writes e i there undecided final =
      let fit = x.each_entry e there in
      let lane_fits : LaneFits o mem (settled o log decided) (Flies log decided e.lane) e.lane (views e.lane) = x.each_lane e.lane fit.of_lane in
      let f : Flies log decided e.lane e.number (difference_of (views e.lane)) = flies_of (Flies log decided e.lane) (views e.lane) e.number (views e.lane).log.phase lane_fits.phase (fit.in_flight undecided) in
      let same : f.entry ≡ e = one_entry 1 log f.entry e x.numbered f.there there f.has_number in
      let of : is_final (difference_of (views e.lane)) i ≡ true =
      (ap (λ (d : List Final). is_final d i) (sym f.has_difference) ∙ (ap (λ (d : Entry). is_final d.difference i) same ∙ final)) in
      writes_under o mem e.lane (views e.lane) i lane_fits.locks
      (difference-written (settled o log decided) (views e.lane) (records_generation (views e.lane).log.phase (views e.lane)) i lane_fits.log (plain_still (views e.lane) lane_fits.entries (flying_still (views e.lane).log.phase e.number (views e.lane).number (fit.in_flight undecided))) of)

  -- what a lane holds whose own call is not in flight is as it is settled, whatever of those in flight is left out
  held_is_settled : (k i : ℕ) → k < o.lanes → flight (views k) ≡ None → KeepsDecided decided keep → IsTrue (is_held (views k) i) → words_kept i ≡ settled o log decided i
  held_is_settled k i inside idle keeps held =
      replayed-same keep decided log i (slice_index o.words i) (λ e there final. ⊎_elim
      (λ (is_decided : decided e.number ≡ true). keeps e.number is_decided ∙ sym is_decided)
      (λ (undecided : decided e.number ≡ false).
      let fit = x.each_entry e there in
      let writes : WritesUnder o mem e.lane i = undecided_writes e i there undecided final in
      absurd (⊎_elim
      (λ (own : k ≡ e.lane). none-some e.number (sym idle ∙ (ap (λ (j : ℕ). flight (views j)) own ∙ fit.in_flight undecided)))
      (λ (other : k ≢ e.lane).
      held_apart o mem (settled o log decided) (Flies log decided k) k e.lane i (views k) x.sound inside fit.of_lane other (inr writes) (x.each_lane k inside) held)
      (cases_eq k e.lane)))
      (cases_Bool (decided e.number)))

  -- what tells of blocks is as at the opening
  pub tells_as_opening : (i : ℕ) → TellsOfBlocks o i → words_kept i ≡ slice_index o.words i
  tells_as_opening i tells =
      replayed-other keep log i (slice_index o.words i) (λ e there. false_from_ne_true (is_final e.difference i) (λ final.
      let t = Any-from_list_any (λ (f : Final). eqb f.word i) e.difference final in
      let f : Final = t.1 in
      let g = (x.each_entry e there).guarded f (t.0, t.2, t.3) in
      x.sound.apart g.0 i (subst (Guards o g.0) (eqb-true f.word i t.4) g.1) tells))

  -- a known word that the lane did not record has its settled value
  known_is_settled : (k i : ℕ) → k < o.lanes → is_redoing (views k).log.phase ≡ false → Contains (views k).known i → is_in_area (views k).lane i ≡ false → is_recorded (views k).log.records i ≡ false
      → IsLivingWord o i → settled o log decided i ≡ slice_index (views k).words i
  known_is_settled k i inside still known outside none living =
      let fits = x.each_lane k inside in
      let held : IsTrue (is_held (views k) i) = fits.picture.held i known in
      let unlogged : (j : ℕ) → j < o.lanes → is_in_log (views j) i ≡ false = λ j within. ⊎_elim
      (λ (own : k ≡ j). ap (λ (n : ℕ). is_in_log (views n) i) (sym own) ∙ or_from (is_logged (views k) i) (is_redone (views k) i) (unrecorded (views k) i none) (none_redone (views k) i still))
      (λ (other : k ≢ j). false_from_ne_true (is_in_log (views j) i) (λ logged.
      let its = x.each_lane j within in
      let away : is_in_area (views j).lane i ≡ false = ap (λ (n : ℕ). is_in_area n i) its.lane.lane ∙ heap_outside o.lanes o.zones j i within living.heap in
      let writes : WritesUnder o mem j i =
      writes_under o mem j (views j) i its.locks (in_log_written (settled o log decided) (views j) (records_generation (views j).log.phase (views j)) i its.log its.entries away logged) in
      held_apart o mem (settled o log decided) (Flies log decided k) k j i (views k) x.sound inside within other (inr writes) fits held))
      (cases_eq k j) in
      sym (x.each_word i living unlogged) ∙ fits.picture.known i known

  -- the block that was found under a lock is there
  found_is_there : (k : ℕ) (l : Lock) (lines : ℕ) → k < o.lanes → heap_fault words_kept o.lanes o.zones ≡ None → Contains (views k).locks l → l.block ≡ Some lines
      → Contains (blocks words_kept o.lanes o.zones) (block_at_line l.line lines)
  found_is_there k l lines inside none held block =
      let fits = x.each_lane k inside in
      let fit : LockFits o mem k l = All-contains (LockFits o mem k) (views k).locks l fits.locks held in
      let found : block_at o.lanes o.words l.line ≡ Some lines = subst (λ (b : Option ℕ). IfSome b (λ n. block_at o.lanes o.words l.line ≡ Some n)) block fit.found in
      let chunk : IsChunk o.lanes (l.line / 64) = chunk_here o.lanes (l.line / 64) (found_in_chunk (is_chunk o.lanes (l.line / 64)) _ lines found) in
      let size = x.sound.size in
      let descriptor : words_kept (descriptor_word o.lanes (l.line / 64)) ≡ slice_index o.words (descriptor_word o.lanes (l.line / 64)) =
      tells_as_opening (descriptor_word o.lanes (l.line / 64)) (l.line / 64, (chunk, inl refl)) in
      let agree : AgreeAtLine o.words words_kept o.lanes l.line = record {
        descriptor = sym descriptor;
        bitmap = λ run. sym (tells_as_opening (bitmap_word (l.line / 64)) (l.line / 64, (chunk, inr (refl, sym (ap is_run descriptor) ∙ run))));
      } in
      found_is_block o.words words_kept o.lanes o.zones l.line lines none agree (found_within o.words o.lanes o.zones l.line lines (omega arith) found) found

  -- by the lane's count of lanes and zones
  found_where : (k : ℕ) → k < o.lanes → heap_fault words_kept o.lanes o.zones ≡ None → (l : Lock) (lines : ℕ) → Contains (views k).locks l → l.block ≡ Some lines
      → Contains (blocks words_kept (views k).lanes (views k).zones) (block_at_line l.line lines)
  found_where k inside none l lines held block =
      let fits = x.each_lane k inside in
      two_same (λ (n m : ℕ). Contains (blocks words_kept n m) (block_at_line l.line lines)) o.lanes (views k).lanes o.zones (views k).zones (sym fits.lane.lanes) (sym fits.lane.zones)
      (found_is_there k l lines inside none held block)

  pub past_calls_in_flight : (k : ℕ) → k < o.lanes → flight (views k) ≡ None → is_redoing (views k).log.phase ≡ false → KeepsDecided decided keep → heap_fault words_kept o.lanes o.zones ≡ None → IsBefore (views k) words_kept
  past_calls_in_flight k inside idle still keeps none =
      let fits = x.each_lane k inside in
      record {
        recorded = λ slot r i at low.
            let word : RecordedWordFits (settled o log decided) (views k) (r.word + i) (slice_index r.old i) = (fits.log.each slot r at).each i low in
            held_is_settled k (r.word + i) inside idle keeps (fits.picture.held (r.word + i) word.known) ∙ sym word.before;
        known = λ i known outside unrecorded under.
            let here : LiesInBlock words_kept o.lanes o.zones i = two_same (λ (n m : ℕ). LiesInBlock words_kept n m i) (views k).lanes o.lanes (views k).zones o.zones fits.lane.lanes fits.lane.zones
            (lies_under (views k) words_kept i (found_where k inside none) under) in
            held_is_settled k i inside idle keeps (fits.picture.held i known) ∙ known_is_settled k i inside still known outside unrecorded (lying_lives o words_kept tells_as_opening x.sound none i here);
        found = found_where k inside none;
      }
