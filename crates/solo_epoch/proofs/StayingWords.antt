-- While a lane that is alone publishes its log, a word stays that no entry is of; and what was no run at the draw becomes none.
use Rattle.std.proofs.Common.{◌≡◌, ◌≢◌, ⊎_elim, ℕ, zero, suc, ◌+◌, ◌*◌, ◌/◌, ◌<◌, ◌≤◌, true, false, not, cond, eqb, All, List, [], ◌∷◌, length, map, None, Some, slice_index, take, sym, ap, ◌∙◌, subst, arith}
use Rattle.std.proofs.lemmas.Bool.{cases_Bool, cond-false, cond-true, eqb-true, false_from_ne_true, false≢true}
use Rattle.std.proofs.lemmas.List.{take_all}
use Rattle.std.proofs.lemmas.List.Elements.{All-append, All-cons, All-contains, All-head, All-map, All-nil, All-tail, All-weaker}
use Rattle.std.proofs.lemmas.List.Folds.{Any-from_list_any}
use Rattle.pm_header.specs.declared.header.Header.{Header}
use Rattle.pm_objects.specs.declared.pool.PoolView.{PoolView}
use Rattle.solo_view.specs.Bits.{with_bits}
use Rattle.solo_view.specs.Blocks.{allocation_word, bitmap_word, block_at, descriptor_word, is_run, is_word}
use Rattle.solo_view.specs.Log.{Final, Phase}
use Rattle.solo_view.specs.Log.Phase.{Applying, Clearing, Drawn, Idle, Open, Retiring, Sealing}
use Rattle.solo_view.specs.View.{View}
use Rattle.solo_world.specs.Entries.{ends_with, is_entered}
use Rattle.solo_world.specs.History.{made_final}
use Rattle.solo_world.specs.Opening.{IsChunk}
use Rattle.solo_world.specs.Records.{generation_of}
use Rattle.solo_world.proofs.Chunks.{block_same, chunk_is, told_by_bitmap}
use Rattle.solo_world.proofs.CrashLogs.{entered_front}
use Rattle.solo_world.proofs.Replays.{made_final-other}
use Rattle.solo_crash.specs.Publishing.{CanPublish, Published, entry_published}
use Rattle.solo_sealed.proofs.Stages.{IsAtStage, Stage, made, seal_at}
use Rattle.solo_epoch.specs.Epochs.{MayPublish}
use Rattle.solo_epoch.proofs.EntryWords.{no_run_made, run_untouched}

-- ---- what entries make of a word that is no run's descriptor

-- the entry makes the word no descriptor of a run
abbrev MakesNoRun : ℕ → Final → Type 0
MakesNoRun d f = f.word ≡ d → (x : ℕ) → is_run (with_bits f.mask f.bits x) ≡ false

none_made : (n : ℕ) (fs : List Final) (d x : ℕ) → All (MakesNoRun d) fs → is_run x ≡ false → is_run (made_final (take n fs) d x) ≡ false
unfolding made_final
none_made zero fs d x each none = none
none_made (suc n) [] d x each none = none
none_made (suc n) (f ∷ fs) d x each none =
    none_made n fs d (cond (eqb f.word d) (with_bits f.mask f.bits x) x) (All-tail (MakesNoRun d) f fs each)
    (⊎_elim
    (λ (here : eqb f.word d ≡ true). ap is_run (cond-true (eqb f.word d) (with_bits f.mask f.bits x) x here) ∙ All-head (MakesNoRun d) f fs each (eqb-true f.word d here) x)
    (λ (other : eqb f.word d ≡ false). ap is_run (cond-false (eqb f.word d) (with_bits f.mask f.bits x) x other) ∙ none)
    (cases_Bool (eqb f.word d)))

-- where the chunk of the line is no run, its descriptor tells of the line
told_by_descriptor : (lanes : ℕ) (words : List ℕ) (line w : ℕ) → IsChunk lanes (line / 64) → is_run (slice_index words (descriptor_word lanes (line / 64))) ≡ false → is_word (allocation_word lanes words line) w ≡ true
    → w ≡ descriptor_word lanes (line / 64)
told_by_descriptor lanes words line w chunk none e =
    let page : ℕ = line / 64 in
    let word : ℕ = cond (is_run (slice_index words (descriptor_word lanes page))) (bitmap_word page) (descriptor_word lanes page) in
    let told : eqb word w ≡ true = sym (ap (λ b. is_word (cond (not b) None (Some word)) w) (chunk_is lanes page chunk)) ∙ e in
    sym (eqb-true word w told) ∙ cond-false _ (bitmap_word page) (descriptor_word lanes page) none

module _ (b : View) (header : Header) (before now : PoolView) (all : List Published) (may : MayPublish b header before now all) where
  -- ---- the entries, and a chunk's descriptor

  in_lanes : b.lane < b.lanes
  in_lanes = may.seal.in_lanes

  last_aside : (page : ℕ) → IsChunk b.lanes page → (ends_with b (generation_of b + 1)).word ≡ descriptor_word b.lanes page → ⊥
  last_aside page chunk same = let low = chunk.0 in let some = chunk.1 in let inside = in_lanes in omega (arith, low, some, inside, same)

  -- what each entry is, by what each of all is and what the last is
  each_entry : (P : Final → Type 0) → ((s : Published) → CanPublish (slice_index b.words) b.lanes b.zones s → P (entry_published b.lanes s)) → P (ends_with b (generation_of b + 1)) → All P b.log.entries
  each_entry P of last = subst (All P) (sym may.has.entries)
      (All-append P (map (entry_published b.lanes) all) (ends_with b (generation_of b + 1) ∷ [])
      (All-map P (entry_published b.lanes) all (All-weaker (CanPublish (slice_index b.words) b.lanes b.zones) (λ s. P (entry_published b.lanes s)) of all may.has.can))
      (All-cons P (ends_with b (generation_of b + 1)) [] last (All-nil P)))

  pub run_unentered : (page : ℕ) → IsChunk b.lanes page → is_run (slice_index b.words (descriptor_word b.lanes page)) ≡ true → is_entered b.log.entries (descriptor_word b.lanes page) ≡ false
  run_unentered page chunk run =
      let d : ℕ = descriptor_word b.lanes page in
      false_from_ne_true (is_entered b.log.entries d) (λ entered.
      let t = Any-from_list_any (λ (f : Final). eqb f.word d) b.log.entries entered in
      All-contains (λ (f : Final). f.word ≢ d) b.log.entries t.1
      (each_entry (λ (f : Final). f.word ≢ d) (λ s can. run_untouched (slice_index b.words) b.lanes b.zones may.has.holds.no_fault s page can chunk run) (last_aside page chunk))
      (t.0, t.2, t.3) (eqb-true t.1.word d t.4))

  none_run : (page : ℕ) → IsChunk b.lanes page → All (MakesNoRun (descriptor_word b.lanes page)) b.log.entries
  none_run page chunk = each_entry (MakesNoRun (descriptor_word b.lanes page))
      (λ s can same x. no_run_made (slice_index b.words) b.lanes b.zones may.has.holds.no_fault s page x can chunk same) (λ same x. absurd (last_aside page chunk same))

  -- ---- on the way

  module _ (v : View) (at : IsAtStage b v) where
    -- a word that no entry is of, behind the areas, stays
    pub stays : (i : ℕ) → 512 + 1024 * b.lanes ≤ i → is_entered b.log.entries i ≡ false → slice_index v.words i ≡ slice_index b.words i
    stays i behind none = by_phase v.log.phase at.stage where
      other : i ≢ seal_at b
      other same = let inside = in_lanes in omega (arith, behind, same, inside)

      by_phase : (phase : Phase) → Stage b v phase → slice_index v.words i ≡ slice_index b.words i
      by_phase Drawn s = s.words i
      by_phase Sealing s = s.words i other
      by_phase (Applying applied) s = s.words i other ∙ made_final-other (take applied b.log.entries) i (slice_index b.words i)
          (false_from_ne_true (is_entered (take applied b.log.entries) i) (λ e. false≢true (sym none ∙ entered_front applied b.log.entries i e)))
      by_phase Clearing s = s.words i other ∙ made_final-other b.log.entries i (slice_index b.words i) none
      by_phase Idle s = s.words i other ∙ made_final-other b.log.entries i (slice_index b.words i) none
      by_phase (Open slot pair) s = absurd s
      by_phase Retiring s = absurd s

    -- the descriptor of a run does
    pub run_stays : (page : ℕ) → IsChunk b.lanes page → is_run (slice_index b.words (descriptor_word b.lanes page)) ≡ true → slice_index v.words (descriptor_word b.lanes page) ≡ slice_index b.words (descriptor_word b.lanes page)
    run_stays page chunk run = stays (descriptor_word b.lanes page) (let low = chunk.0 in let some = chunk.1 in omega (arith, low, some)) (run_unentered page chunk run)

    -- and no other becomes one
    no_new_run : (page : ℕ) → IsChunk b.lanes page → is_run (slice_index b.words (descriptor_word b.lanes page)) ≡ false → is_run (slice_index v.words (descriptor_word b.lanes page)) ≡ false
    no_new_run page chunk plain = by_phase v.log.phase at.stage where
      other : descriptor_word b.lanes page ≢ seal_at b
      other same = let low = chunk.0 in let some = chunk.1 in let inside = in_lanes in omega (arith, low, some, same, inside)

      none : (applied : ℕ) → is_run (made b applied (descriptor_word b.lanes page)) ≡ false
      none applied = none_made applied b.log.entries (descriptor_word b.lanes page) (slice_index b.words (descriptor_word b.lanes page)) (none_run page chunk) plain

      whole : is_run (made_final b.log.entries (descriptor_word b.lanes page) (slice_index b.words (descriptor_word b.lanes page))) ≡ false
      whole = ap (λ fs. is_run (made_final fs (descriptor_word b.lanes page) (slice_index b.words (descriptor_word b.lanes page)))) (sym (take_all (length b.log.entries) b.log.entries (omega arith))) ∙ none (length b.log.entries)

      by_phase : (phase : Phase) → Stage b v phase → is_run (slice_index v.words (descriptor_word b.lanes page)) ≡ false
      by_phase Drawn s = ap is_run (s.words (descriptor_word b.lanes page)) ∙ plain
      by_phase Sealing s = ap is_run (s.words (descriptor_word b.lanes page) other) ∙ plain
      by_phase (Applying applied) s = ap is_run (s.words (descriptor_word b.lanes page) other) ∙ none applied
      by_phase Clearing s = ap is_run (s.words (descriptor_word b.lanes page) other) ∙ whole
      by_phase Idle s = ap is_run (s.words (descriptor_word b.lanes page) other) ∙ whole
      by_phase (Open slot pair) s = absurd s
      by_phase Retiring s = absurd s

    -- so where no entry is of the word that tells of a line, the same block begins there
    pub same_block : (line i : ℕ) → is_word (allocation_word b.lanes v.words line) i ≡ true → is_entered b.log.entries i ≡ false → block_at b.lanes v.words line ≡ block_at b.lanes b.words line
    same_block line i tells none = block_same b.lanes v.words b.words line
        (λ chunk. ⊎_elim
        (λ (run : is_run (slice_index b.words (descriptor_word b.lanes (line / 64))) ≡ true). run_stays (line / 64) chunk run)
        (λ (plain : is_run (slice_index b.words (descriptor_word b.lanes (line / 64))) ≡ false).
        let here = told_by_descriptor b.lanes v.words line i chunk (no_new_run (line / 64) chunk plain) tells in
        stays (descriptor_word b.lanes (line / 64)) (let low = chunk.0 in let some = chunk.1 in omega (arith, low, some)) (ap (is_entered b.log.entries) (sym here) ∙ none))
        (cases_Bool (is_run (slice_index b.words (descriptor_word b.lanes (line / 64))))))
        (λ chunk run.
        let here = told_by_bitmap b.lanes v.words line i chunk (ap is_run (run_stays (line / 64) chunk run) ∙ run) tells in
        stays (bitmap_word (line / 64)) (let low = chunk.0 in omega (arith, low)) (ap (is_entered b.log.entries) (sym here) ∙ none))
