-- Each chunk that was free at the opening is free in every image that survives, or a run without blocks; so the crash law.
use Rattle.std.proofs.Common.{◌≡◌, ℕ, ◌+◌, ◌-◌, ◌*◌, ◌/◌, ◌%◌, ◌<◌, ◌≤◌, ◌⊎◌, inl, inr, ⊎_elim, Bool, true, not, eqb, ◌&&◌, List, length, slice_index, refl, sym, ap, ◌∙◌, subst, arith, eq-eqb}
use Rattle.std.proofs.lemmas.Bool.{and_from, and_parts, false≢true, not-true, or_left}
use Rattle.solo_view.specs.Bits.{all_bits}
use Rattle.solo_view.specs.Blocks.{bitmap_word, chunk_of, descriptor_word, describes, is_chunk, is_run, tells_nothing, zone_of}
use Rattle.solo_view.specs.Held.{is_reserved}
use Rattle.solo_view.specs.Rights.{is_written}
use Rattle.solo_view.specs.declared.change.Change.{Change}
use Rattle.solo_view.specs.Occupancy.{describes_free, is_chunk_taken, is_idle, is_unread}
use Rattle.pm_image.specs.Logs.{recovered}
use Rattle.solo_world.specs.Crash.{NoneTorn, Survives}
use Rattle.solo_world.specs.Entries.{is_redone}
use Rattle.solo_world.specs.Fits.{ReservedChange}
use Rattle.solo_world.specs.Heap.{HasNoBlock, IsEmptyRun, heap_words}
use Rattle.solo_world.specs.History.{Entry}
use Rattle.solo_world.specs.Laws.{CrashLaw}
use Rattle.solo_world.specs.Memory.{Memory}
use Rattle.solo_world.specs.Memory.Location.{PoolWord}
use Rattle.solo_world.specs.Opening.{IsChunk, IsPoolChunk, Opening, is_free_chunk}
use Rattle.solo_world.specs.Records.{is_logged}
use Rattle.solo_world.specs.World.{Views, World}
use Rattle.solo_world.proofs.CrashEntries.{unentered_word}
use Rattle.solo_world.proofs.CrashLaw.{crash_word, no_other}
use Rattle.solo_world.proofs.CrashRecords.{recovered_unentered}
use Rattle.solo_world.proofs.CrashSays.{slot_writes}
use Rattle.solo_world.proofs.CrashWords.{TakenBack, change_outside, entered_writes, recorded_writes, word_left, written_under}
use Rattle.solo_world.proofs.CrashLogs.{logged_recorded}
use Rattle.solo_world.proofs.Exclusion.{WritesUnder}
use Rattle.solo_world.proofs.HeapWords.{described, describing_free, free_descriptor, free_no_run}
use Rattle.solo_world.proofs.Living.{descriptor_page, guarded_lives}
use Rattle.solo_world.proofs.Reserved.{idle_from, is_chunk_from, reserved_described}

module _ (o : Opening) (mem : Memory) (views : Views) (log : List Entry) (decided : ℕ → Bool) (x : World o mem views log decided) (image : List ℕ) (survives : Survives o mem views image) (whole : NoneTorn o views image) where
  -- a word of the zones that no meaning reads is in no log
  module _ (w : ℕ) (idle : is_idle (slice_index o.words) o.lanes w ≡ true) (behind : 512 + 1024 * o.lanes ≤ w) (within : w < length o.words) where
    nobody_writes : (k : ℕ) → WritesUnder o mem k w → ⊥
    nobody_writes k (line, guard, word) = false≢true (sym (guarded_lives o x.sound line w guard).living ∙ idle)

    recovered_same : recovered image o.lanes w ≡ slice_index image w
    recovered_same = recovered_unentered image o.lanes w (slice_index image w)
        (unentered_word image o.lanes w (λ j low. no_other o mem views log decided x image survives whole w j low (λ still of. nobody_writes j (entered_writes o mem views log decided x j w low (inr behind) still of))))
        (λ k slot u low small valid covering. absurd (nobody_writes k (slot_writes o mem views log decided x image survives whole k slot w u low small valid covering)))
        (λ none. refl)

    -- what is left of it is what the memory has, or a change in a reserved block was taken back
    record IsTakenBack : Type 0 where
      change : Change
      lane : ℕ
      of_lane : lane < o.lanes
      of_word : change.word ≡ w
      reserved : ReservedChange (views lane) change
      is_old : slice_index image w ≡ change.old

    left_over : (slice_index image w ≡ mem (PoolWord w)) ⊎ IsTakenBack
    left_over = ⊎_elim inl (λ (t : TakenBack views o.lanes image w). inr (by_kind t (change_outside o mem views log decided x t.lane t.change t.of_lane t.there (inr (subst (λ u. 512 + 1024 * o.lanes ≤ u) (sym t.of_word) behind)))))
        (word_left o mem views log decided x image survives w within)
      where
        by_kind : (t : TakenBack views o.lanes image w) → (((is_logged (views t.lane) t.change.word ≡ true) ⊎ ((is_redone (views t.lane) t.change.word ≡ true) × (is_written (views t.lane) t.change.word ≡ true))) ⊎ (ReservedChange (views t.lane) t.change × (t.change.mask ≡ all_bits))) → IsTakenBack
        by_kind t (inr (reserved, whole_word)) = record { change = t.change; lane = t.lane; of_lane = t.of_lane; of_word = t.of_word; reserved = reserved; is_old = t.is_old whole_word }
        by_kind t (inl (inl logged)) = absurd (nobody_writes t.lane (subst (WritesUnder o mem t.lane) t.of_word (recorded_writes o mem views log decided x t.lane t.change.word t.of_lane (logged_recorded (views t.lane) t.change.word logged))))
        by_kind t (inl (inr redone)) = absurd (nobody_writes t.lane (subst (WritesUnder o mem t.lane) t.of_word (written_under o mem views log decided x t.lane t.change.word t.of_lane redone.1)))

  module _ (page : ℕ) (in_pool : IsPoolChunk o.lanes o.zones page) (free : is_free_chunk (slice_index o.words) o.lanes page ≡ true) where
    chunk : IsChunk o.lanes page
    chunk = in_pool.0

    abbrev d : ℕ
    d = descriptor_word o.lanes page

    abbrev b : ℕ
    b = bitmap_word page

    descriptor_idle : is_idle (slice_index o.words) o.lanes d ≡ true
    descriptor_idle = or_left (describes_free (slice_index o.words) o.lanes d) (is_unread (slice_index o.words) o.lanes d) (describing_free o page chunk ∙ free)

    here : b / 512 ≡ page
    here = omega arith

    bitmap_idle : is_idle (slice_index o.words) o.lanes b ≡ true
    bitmap_idle = idle_from (slice_index o.words) o.lanes b (ap (is_chunk o.lanes) here ∙ is_chunk_from o.lanes page chunk)
        (λ inside. let taken = (and_parts (is_chunk o.lanes (b / 512)) _ (and_parts _ _ inside).0).1 in false≢true (sym (not-true _ free) ∙ subst (λ p. is_taken_page p ≡ true) here taken))
        (λ first run. false≢true (sym (free_no_run (slice_index o.words) o.lanes page chunk free) ∙ subst (λ p. is_run (slice_index o.words (descriptor_word o.lanes p)) ≡ true) here run))
      where
        is_taken_page : ℕ → Bool
        is_taken_page p = is_chunk_taken (slice_index o.words) o.lanes (zone_of o.lanes p) (chunk_of o.lanes p - 1)

    d_behind : 512 + 1024 * o.lanes ≤ d
    d_behind = let low = chunk.0 in let some = chunk.1 in omega arith

    d_within : d < length o.words
    d_within = let size = x.sound.size in let low = chunk.0 in let some = chunk.1 in let high = in_pool.1 in omega arith

    b_behind : 512 + 1024 * o.lanes ≤ b
    b_behind = let low = chunk.0 in omega arith

    b_within : b < length o.words
    b_within = let size = x.sound.size in let high = in_pool.1 in omega arith

    -- the descriptor is 0 in the image, or as the memory has it
    descriptor_left : (slice_index image d ≡ 0) ⊎ (slice_index image d ≡ mem (PoolWord d))
    descriptor_left = ⊎_elim inr (λ (t : IsTakenBack d descriptor_idle d_behind d_within). inl (by_plain t t.reserved.plain)) (left_over d descriptor_idle d_behind d_within) where
      by_plain : (t : IsTakenBack d descriptor_idle d_behind d_within) → (tells_nothing (views t.lane).lanes (views t.lane).words t.change.word ≡ true) ⊎ ((describes (views t.lane).lanes t.change.word ≡ true) × (t.change.old ≡ 0)) → slice_index image d ≡ 0
      by_plain t (inr found) = t.is_old ∙ found.1
      by_plain t (inl tells) =
          let at : is_chunk (views t.lane).lanes (t.change.word / 512) ≡ true = (and_parts (is_chunk (views t.lane).lanes (t.change.word / 512)) _ tells).0 in
          absurd (false≢true (sym (descriptor_page o.lanes page chunk) ∙ ((λ i. is_chunk ((sym (x.each_lane t.lane t.of_lane).lane.lanes) i) ((sym t.of_word) i / 512)) ∙ at)))

    -- where it is a run's, the bitmap is 0
    bitmap_left : IsEmptyRun (λ u. mem (PoolWord u)) o.lanes page → slice_index image b ≡ 0
    bitmap_left run = ⊎_elim (λ (same : slice_index image b ≡ mem (PoolWord b)). same ∙ run.no_block) (λ (t : IsTakenBack b bitmap_idle b_behind b_within). absurd (by_plain t t.reserved.plain)) (left_over b bitmap_idle b_behind b_within) where
      by_plain : (t : IsTakenBack b bitmap_idle b_behind b_within) → (tells_nothing (views t.lane).lanes (views t.lane).words t.change.word ≡ true) ⊎ ((describes (views t.lane).lanes t.change.word ≡ true) × (t.change.old ≡ 0)) → ⊥
      by_plain t (inr found) =
          let lanes = (x.each_lane t.lane t.of_lane).lane.lanes in
          let so : describes o.lanes b ≡ true = (λ i. describes (sym lanes i) (sym t.of_word i)) ∙ found.0 in
          let first = (described o.lanes b so).first in let some = chunk.1 in omega (arith, first, some)
      by_plain t (inl tells) =
          let fits = x.each_lane t.lane t.of_lane in
          let lanes = fits.lane.lanes in
          let reserved : is_reserved (views t.lane) b ≡ true = ap (is_reserved (views t.lane)) (sym t.of_word) ∙ t.reserved.reserved in
          let silent : (is_chunk o.lanes (b / 512) && not (eqb (b % 512) 0 && is_run (slice_index (views t.lane).words (descriptor_word o.lanes (b / 512))))) ≡ true = (λ i. tells_nothing (sym lanes i) (views t.lane).words (sym t.of_word i)) ∙ tells in
          let at : IsChunk o.lanes (b / 512) = subst (IsChunk o.lanes) (sym here) chunk in
          let seen : slice_index (views t.lane).words (descriptor_word o.lanes (b / 512)) ≡ heap_words o mem (descriptor_word o.lanes (b / 512)) = reserved_described o mem (views t.lane) b lanes fits.blocks reserved at (λ u. slice_index (views t.lane).words u ≡ heap_words o mem u) fits.blocks.described in
          let now : slice_index (views t.lane).words (descriptor_word o.lanes (b / 512)) ≡ 256 * run.lines + 1 = seen ∙ (ap (λ p. heap_words o mem (descriptor_word o.lanes p)) here ∙ (free_descriptor o mem page chunk free ∙ run.described)) in
          let is_so : is_run (slice_index (views t.lane).words (descriptor_word o.lanes (b / 512))) ≡ true = eq-eqb (slice_index (views t.lane).words (descriptor_word o.lanes (b / 512)) % 256) 1 (omega (arith, now)) in
          let none = not-true (eqb (b % 512) 0 && is_run (slice_index (views t.lane).words (descriptor_word o.lanes (b / 512)))) (and_parts (is_chunk o.lanes (b / 512)) _ silent).1 in
          false≢true (sym none ∙ and_from (eqb (b % 512) 0) (is_run (slice_index (views t.lane).words (descriptor_word o.lanes (b / 512)))) (eq-eqb (b % 512) 0 (omega arith)) is_so)

    no_block : HasNoBlock (recovered image o.lanes) o.lanes page
    no_block =
        let same_d = recovered_same d descriptor_idle d_behind d_within in
        let same_b = recovered_same b bitmap_idle b_behind b_within in
        ⊎_elim (λ (zero_word : slice_index image d ≡ 0). inl (same_d ∙ zero_word))
        (λ (same : slice_index image d ≡ mem (PoolWord d)).
        ⊎_elim (λ (zero_word : mem (PoolWord d) ≡ 0). inl (same_d ∙ (same ∙ zero_word)))
        (λ (run : IsEmptyRun (λ u. mem (PoolWord u)) o.lanes page). inr (record { lines = run.lines; some_blocks = run.some_blocks; described = same_d ∙ (same ∙ run.described); no_block = same_b ∙ bitmap_left run }))
        (x.new_runs page in_pool free))
        descriptor_left

pub crash_law : CrashLaw
crash_law o mem views log decided image world survives whole = record {
  words = crash_word o mem views log decided world image survives whole;
  new_runs = no_block o mem views log decided world image survives whole;
}
