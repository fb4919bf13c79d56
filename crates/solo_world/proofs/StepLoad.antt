-- A load keeps the world: what it finds is what the lane's view knows, and of a word that tells of a block what the view's locks then say.
use Rattle.std.proofs.Common.{◌≡◌, ◌≢◌, ℕ, zero, suc, ◌+◌, ◌*◌, ◌/◌, ◌^◌, ◌<◌, ◌≤◌, ◌⊎◌, inl, inr, ⊎_elim, le_refl, Bool, true, false, cond, eqb, leb, ltb, ◌&&◌, ◌||◌, IsTrue, All, Any, Contains, List, [], ◌∷◌, ◌++◌, length, map, set, slice_get, slice_index, get_or, Option, Some, None, is_some, refl, sym, ap, ◌∙◌, subst, arith, length-set, get_or-set_same, get_or-set_other, not, ◌%◌, eq-eqb}
use Rattle.std.specs.Int.{bit_at}
use Rattle.std.specs.List.{list_any}
use Rattle.std.proofs.lemmas.Bool.{cases_eq, cases_lt, cases_Bool, cond-true, cond-false, and_from, and_parts, le-leb, lt-ltb, and_cases, or_cases, or_left, or_right, leb-false, ltb-false, eqb-true}
use Rattle.std.proofs.lemmas.List.{length-map, get_or-map, set-get_or}
use Rattle.std.proofs.lemmas.List.Elements.{All-map, All-weaker, All-head, All-tail}
use Rattle.std.proofs.lemmas.List.Folds.{Any-from_list_any}
use Rattle.std.proofs.lemmas.Option.{slice_get_within}
use Rattle.pm_record.specs.Undo.{undo_of}
use Rattle.solo_view.specs.Area.{area_word, is_in_area}
use Rattle.solo_view.specs.Blocks.{block_at, allocation_word, is_word, descriptor_word, bitmap_word, is_run, is_chunk, tells_nothing}
use Rattle.solo_view.specs.Counts.{IsAtStop}
use Rattle.solo_view.specs.Held.{is_held, is_known, is_under, is_reserved}
use Rattle.solo_view.specs.Log.{Phase, Recorded}
use Rattle.solo_view.specs.Log.Phase.{Idle, Open, Drawn, Sealing, Applying, Clearing, Retiring}
use Rattle.solo_view.specs.Rights.{is_written}
use Rattle.solo_view.specs.Steps.Step.{Load}
use Rattle.solo_view.specs.View.{View, Lock}
use Rattle.solo_view.specs.Views.{with_block, with_seen, loaded, reserves}
use Rattle.pm_image.specs.Logs.{undo_slot}
use Rattle.solo_world.specs.Entries.{AreWhole, entry_word, is_entered, is_redoing, is_redone, KnowsOrs}
use Rattle.solo_world.specs.Fits.{EntriesFit, ShowsHold, LockFits, LaneFits, LogFits, PhaseFits, EndFits, RedoneWord, OpenChange, RetiringChange, SealChange, AppliedChange, IsDescriptorSeen, ReservedChange}
use Rattle.solo_world.specs.History.{Entry, Flies, settled}
use Rattle.solo_world.specs.Laws.{Keeps, with_view}
use Rattle.solo_world.specs.Lawful.{FilledChange, generation_limit}
use Rattle.solo_world.specs.Memory.{Memory, IsSame}
use Rattle.solo_world.specs.Memory.Location.{PoolWord, LockWord, CommitCounter, StopWord}
use Rattle.solo_world.specs.Opening.{Opening, IsChunk, IsPoolChunk, is_free_chunk}
use Rattle.solo_world.specs.Records.{generation_of, slot_word, pool_entries, difference_of, records_generation}
use Rattle.solo_world.specs.World.{Views, World, hold_bit}
use Rattle.solo_world.proofs.Apart.{outside_behind}
use Rattle.solo_world.proofs.Plain.{plain_still, redoing_still}
use Rattle.solo_world.proofs.Chunks.{told_by_bitmap, block_same, under_found, written_found, found_block, opening_word, chunk_here, no_block_here, no_block_outside, told_word}
use Rattle.solo_world.proofs.Exclusion.{writes_under}
use Rattle.solo_world.proofs.Filled.{filled_again}
use Rattle.solo_world.proofs.Frame.{HeapFits, heap_kept, lane_kept}
use Rattle.solo_world.proofs.Pairs.{entries_again, redone_again, redone_kept, whole_again, entered_written}
use Rattle.solo_world.proofs.Recoursed.{open_again, used_again}
use Rattle.solo_world.proofs.Relocked.{generation_same}
use Rattle.solo_world.proofs.Stored.{slot_set_other}
use Rattle.solo_world.proofs.StoreGeneration.{difference_same}
use Rattle.solo_world.proofs.StepTake.{low_before}
use Rattle.solo_world.proofs.Heaps.{all_same}
use Rattle.solo_world.proofs.Reserved.{held_by_parts, reserved_again, describing_chunk, reserved_described}
use Rattle.solo_world.proofs.Worlds.{heap_here, own, quiet, unlogged_before, hold_kept, room_kept, at_stop_kept, stop_kept}
use Rattle.solo_world.proofs.HeapWords.{words_described, free_descriptor, now_no_block, taken_descriptor}
use Rattle.solo_world.specs.Heap.{IsEmptyRun, describing, heap_words}
use Rattle.solo_view.specs.declared.change.Change.{Change}
use Rattle.solo_view.specs.declared.occ.Occ.{Occ}
use Rattle.solo_view.specs.declared.occ.Occ.TheVariants.{Run}

list_any-map : {X : Type 0} (p : X → Bool) (f : X → X) (xs : List X) → All (λ x. p x ≡ true → p (f x) ≡ true) xs → list_any p xs ≡ true → list_any p (map f xs) ≡ true
list_any-map p f [] all e = e
list_any-map p f (x ∷ xs) all e =
    ⊎_elim (λ (here : p x ≡ true). or_left (p (f x)) (list_any p (map f xs)) (All-head (λ y. p y ≡ true → p (f y) ≡ true) x xs all here))
    (λ (later : list_any p xs ≡ true). or_right (p (f x)) (list_any p (map f xs)) (list_any-map p f xs (All-tail (λ y. p y ≡ true → p (f y) ≡ true) x xs all) later))
    (or_cases (p x) (list_any p xs) e)

any-map : {X : Type 0} (P : X → Type 0) (f : X → X) (xs : List X) → ((x : X) → P x → P (f x)) → Any P xs → Any P (map f xs)
any-map P f xs keeps (n, x, low, at, p) = (n, f x, (let e = length-map xs f in omega (arith, e, low)), get_or-map f xs n x (f x) low ∙ ap f at, keeps x p)

pub contains-more : (held : Bool) (w : ℕ) (known : List ℕ) (u : ℕ) → Contains known u → Contains (cond held (w ∷ known) known) u
contains-more true w known u (n, low, at) = (suc n, omega arith, at)
contains-more false w known u there = there

contains-less : (held : Bool) (w : ℕ) (known : List ℕ) (u : ℕ) → Contains (cond held (w ∷ known) known) u → ((u ≡ w) × (held ≡ true)) ⊎ Contains known u
contains-less true w known u (zero, low, at) = inl (sym at, refl)
contains-less true w known u (suc n, low, at) = inr (n, omega arith, at)
contains-less false w known u there = inr there

outside_area : (lane w : ℕ) → is_in_area lane w ≡ false → (w < 512 + 1024 * lane) ⊎ (1536 + 1024 * lane ≤ w)
outside_area lane w e =
    ⊎_elim (λ (low : leb (area_word lane) w ≡ false). let t = leb-false (area_word lane) w low in inl (omega (arith, t)))
    (λ (high : ltb w (area_word lane + 1024) ≡ false). let t = ltb-false w (area_word lane + 1024) high in inr (omega (arith, t)))
    (and_cases (leb (area_word lane) w) (ltb w (area_word lane + 1024)) e)

-- a lock as the load leaves it: as it was, or with the block that begins at its line
lock_cases : (lanes : ℕ) (words : List ℕ) (w : ℕ) (block : Option ℕ) (l : Lock) → (is_word (allocation_word lanes words l.line) w ≡ true → block_at lanes words l.line ≡ block)
    → (with_block lanes words w l ≡ l) ⊎ (with_block lanes words w l ≡ record l { block = block })
lock_cases lanes words w block l found =
    ⊎_elim (λ (tells : is_word (allocation_word lanes words l.line) w ≡ true). inr (cond-true _ (record l { block = block_at lanes words l.line }) l tells ∙ ap (λ b. record l { block = b }) (found tells)))
    (λ (other : is_word (allocation_word lanes words l.line) w ≡ false). inl (cond-false _ (record l { block = block_at lanes words l.line }) l other))
    (cases_Bool (is_word (allocation_word lanes words l.line) w))

module _ (o : Opening) (old : Memory) (views : Views) (log : List Entry) (decided : ℕ → Bool) (world : World o old views log decided) (k : ℕ) (inside : k < o.lanes) (v : View) (is : views k ≡ v)
    (new : Memory) (w x : ℕ) (same : IsSame old new) (here : x ≡ old (PoolWord w)) (in_pool : w < length v.words) where
  mine : LaneFits o old (settled o log decided) (Flies log decided k) k v
  mine = own o old views log decided world k inside v is

  abbrev words' : List ℕ
  words' = set v.words w x

  abbrev f : Lock → Lock
  f = with_block v.lanes words' w

  abbrev known' : List ℕ
  known' = cond (is_held v w) (w ∷ v.known) v.known

  abbrev v' : View
  v' = with_seen (Load w x) (loaded v w x)

  now_word : slice_index words' w ≡ old (PoolWord w)
  now_word = get_or-set_same v.words w x 0 in_pool ∙ here

  other_word : (u : ℕ) → u ≢ w → slice_index words' u ≡ slice_index v.words u
  other_word u differ = get_or-set_other v.words w u x 0 differ

  -- where the view has the memory's word, it has it still
  agrees : (u : ℕ) → old (PoolWord u) ≡ slice_index v.words u → slice_index words' u ≡ slice_index v.words u
  agrees u e = ⊎_elim (λ (this : u ≡ w). ap (slice_index words') this ∙ (now_word ∙ (ap (λ n. old (PoolWord n)) (sym this) ∙ e))) (λ (differ : u ≢ w). other_word u differ) (cases_eq u w)

  word_now : (u : ℕ) → (u ≢ w → old (PoolWord u) ≡ slice_index v.words u) → new (PoolWord u) ≡ slice_index words' u
  word_now u e = same (PoolWord u) ∙ ⊎_elim (λ (this : u ≡ w). ap (λ n. old (PoolWord n)) this ∙ (sym now_word ∙ ap (slice_index words') (sym this))) (λ (differ : u ≢ w). e differ ∙ sym (other_word u differ)) (cases_eq u w)

  in_opening : w < length o.words
  in_opening = subst (λ n. w < n) mine.lane.size in_pool

  -- a descriptor is as it was at the opening, or as it is now
  now_seen : (page : ℕ) → IsChunk o.lanes page → w ≡ descriptor_word o.lanes page → x ≡ heap_words o old w
  now_seen page chunk this =
      ⊎_elim
      (λ (free : is_free_chunk (slice_index o.words) o.lanes page ≡ true). here ∙ (ap (λ u. old (PoolWord u)) this ∙ (sym (free_descriptor o old page chunk free) ∙ ap (heap_words o old) (sym this))))
      (λ (taken : is_free_chunk (slice_index o.words) o.lanes page ≡ false).
      here ∙ (opening_word o old views log decided world page w chunk taken (inl this) in_opening ∙ (ap (slice_index o.words) this ∙ (sym (taken_descriptor o old page chunk taken) ∙ ap (heap_words o old) (sym this)))))
      (cases_Bool (is_free_chunk (slice_index o.words) o.lanes page))

  descriptors_now : (page : ℕ) → IsChunk o.lanes page → IsDescriptorSeen o (heap_words o old) v' (descriptor_word o.lanes page)
  descriptors_now page chunk =
      ⊎_elim (λ (this : descriptor_word o.lanes page ≡ w). inr (ap (slice_index words') this ∙ (now_word ∙ (sym here ∙ (now_seen page chunk (sym this) ∙ ap (heap_words o old) (sym this))))))
      (λ (differ : descriptor_word o.lanes page ≢ w). subst (λ y. (y ≡ slice_index o.words (descriptor_word o.lanes page)) ⊎ (y ≡ heap_words o old (descriptor_word o.lanes page))) (sym (other_word (descriptor_word o.lanes page) differ)) (mine.picture.descriptors page chunk))
      (cases_eq (descriptor_word o.lanes page) w)

  -- what describes what the lane reserved is as it was
  described_still : (at : Occ) (bit : ℕ) → reserves v at bit ≡ true → slice_index words' (describing o.lanes at bit) ≡ slice_index v.words (describing o.lanes at bit)
  described_still at bit has =
      let t = describing_chunk o (heap_words o old) v at bit mine.blocks has in
      ⊎_elim (λ (this : describing o.lanes at bit ≡ w).
      ap (slice_index words') this ∙ (now_word ∙ (sym here ∙ (now_seen t.0 t.1.0 (sym this ∙ sym t.1.1) ∙ (ap (heap_words o old) (sym this) ∙ sym (mine.blocks.described at bit has))))))
      (λ (differ : describing o.lanes at bit ≢ w). other_word (describing o.lanes at bit) differ) (cases_eq (describing o.lanes at bit) w)

  -- in a chunk that was free no block is found, whatever the picture has of its bitmap
  found_none : (line : ℕ) → IsPoolChunk o.lanes o.zones (line / 64) → is_free_chunk (slice_index o.words) o.lanes (line / 64) ≡ true → is_word (allocation_word o.lanes words' line) w ≡ true → block_at o.lanes words' line ≡ block_at o.lanes o.words line
  found_none line chunk free e =
      let page : ℕ = line / 64 in
      let d : ℕ = descriptor_word o.lanes page in
      let was_zero : slice_index o.words d ≡ 0 = world.sound.undescribed page chunk free in
      no_block_here o.lanes words' line (by_seen (descriptors_now page chunk.0)) ∙ sym (no_block_here o.lanes o.words line (inl was_zero))
    where
      by_seen : IsDescriptorSeen o (heap_words o old) v' (descriptor_word o.lanes (line / 64)) → (slice_index words' (descriptor_word o.lanes (line / 64)) ≡ 0) ⊎ ((is_run (slice_index words' (descriptor_word o.lanes (line / 64))) ≡ true) × (slice_index words' (bitmap_word (line / 64)) ≡ 0))
      by_seen (inl was) = inl (was ∙ world.sound.undescribed (line / 64) chunk free)
      by_seen (inr now) = ⊎_elim
          (λ (zero_now : heap_words o old (descriptor_word o.lanes (line / 64)) ≡ 0). inl (now ∙ zero_now))
          (λ run. let is_so : is_run (slice_index words' (descriptor_word o.lanes (line / 64))) ≡ true = ap is_run now ∙ (let is = run.described in eq-eqb (heap_words o old (descriptor_word o.lanes (line / 64)) % 256) 1 (omega (arith, is))) in
          inr (
            is_so,
            let bitmap : w ≡ bitmap_word (line / 64) = told_by_bitmap o.lanes words' line w chunk.0 is_so e in
                ap (slice_index words') (sym bitmap) ∙ (now_word ∙ (ap (λ u. old (PoolWord u)) bitmap ∙ memory_bitmap run now)),
          ))
          (now_no_block o old world.new_runs (line / 64) chunk free)
        where
          memory_bitmap : IsEmptyRun (heap_words o old) o.lanes (line / 64) → slice_index words' (descriptor_word o.lanes (line / 64)) ≡ heap_words o old (descriptor_word o.lanes (line / 64)) → old (PoolWord (bitmap_word (line / 64))) ≡ 0
          memory_bitmap run now = ⊎_elim
              (λ (zero_now : old (PoolWord (descriptor_word o.lanes (line / 64))) ≡ 0). absurd (let is = run.described in let at = free_descriptor o old (line / 64) chunk.0 free in omega (arith, is, at, zero_now)))
              (λ made. made.no_block) (world.new_runs (line / 64) chunk free)

  found_here : (line : ℕ) → is_word (allocation_word o.lanes words' line) w ≡ true → block_at o.lanes words' line ≡ block_at o.lanes o.words line
  found_here line e =
      ⊎_elim
      (λ (free : is_free_chunk (slice_index o.words) o.lanes (line / 64) ≡ true). by_chunk line e free)
      (λ (taken : is_free_chunk (slice_index o.words) o.lanes (line / 64) ≡ false).
      block_same o.lanes words' o.words line (λ chunk. taken_seen (line / 64) chunk taken (descriptors_now (line / 64) chunk))
      (λ chunk run.
      let run_now : is_run (slice_index words' (descriptor_word o.lanes (line / 64))) ≡ true = ap is_run (taken_seen (line / 64) chunk taken (descriptors_now (line / 64) chunk)) ∙ run in
      let bitmap : w ≡ bitmap_word (line / 64) = told_by_bitmap o.lanes words' line w chunk run_now e in
      ap (slice_index words') (sym bitmap) ∙ (now_word ∙ (opening_word o old views log decided world (line / 64) w chunk taken (inr (bitmap, run)) in_opening ∙ ap (slice_index o.words) bitmap))))
      (cases_Bool (is_free_chunk (slice_index o.words) o.lanes (line / 64)))
    where
      -- the descriptor of a chunk that was taken is the opening's
      taken_seen : (page : ℕ) → IsChunk o.lanes page → is_free_chunk (slice_index o.words) o.lanes page ≡ false → IsDescriptorSeen o (heap_words o old) v' (descriptor_word o.lanes page) → slice_index words' (descriptor_word o.lanes page) ≡ slice_index o.words (descriptor_word o.lanes page)
      taken_seen page chunk taken (inl was) = was
      taken_seen page chunk taken (inr now) = now ∙ taken_descriptor o old page chunk taken

      -- a word of the pool that tells of a line is of a chunk of the pool
      in_the_pool : (page : ℕ) → IsChunk o.lanes page → (w ≡ bitmap_word page) ⊎ (w ≡ descriptor_word o.lanes page) → IsPoolChunk o.lanes o.zones page
      in_the_pool page chunk told =
          let size = world.sound.size in let low = chunk.0 in let some = chunk.1 in let high = in_opening in
          (chunk, ⊎_elim (λ (e' : w ≡ bitmap_word page). omega arith) (λ (e' : w ≡ descriptor_word o.lanes page). omega arith) told)

      by_chunk : (l : ℕ) → is_word (allocation_word o.lanes words' l) w ≡ true → is_free_chunk (slice_index o.words) o.lanes (l / 64) ≡ true → block_at o.lanes words' l ≡ block_at o.lanes o.words l
      by_chunk l told free =
          ⊎_elim (λ (chunk : is_chunk o.lanes (l / 64) ≡ true). let c = chunk_here o.lanes (l / 64) chunk in found_none l (in_the_pool (l / 64) c (told_word o.lanes words' l w c told)) free told)
          (λ (none : is_chunk o.lanes (l / 64) ≡ false). no_block_outside o.lanes words' l none ∙ sym (no_block_outside o.lanes o.words l none))
          (cases_Bool (is_chunk o.lanes (l / 64)))

  lock_now : (l : Lock) → (f l ≡ l) ⊎ (f l ≡ record l { block = block_at o.lanes o.words l.line })
  lock_now l = lock_cases v.lanes words' w (block_at o.lanes o.words l.line) l
      (λ e. ap (λ n. block_at n words' l.line) mine.lane.lanes ∙ found_here l.line (ap (λ n. is_word (allocation_word n words' l.line) w) (sym mine.lane.lanes) ∙ e))

  -- what holds of a lock and of it with the block at its line holds of it now
  of_lock : (P : Lock → Type 0) (l : Lock) → P l → P (record l { block = block_at o.lanes o.words l.line }) → P (f l)
  of_lock P l as_was as_found = ⊎_elim (λ (e : f l ≡ l). subst P (sym e) as_was) (λ (e : f l ≡ record l { block = block_at o.lanes o.words l.line }). subst P (sym e) as_found) (lock_now l)

  locks_fit : All (LockFits o new k) (map f v.locks)
  locks_fit = All-map (LockFits o new k) f v.locks (All-weaker (LockFits o old k) (λ l. LockFits o new k (f l))
      (λ l fit. let shows : ShowsHold k l.write (new (LockWord l.line)) = subst (ShowsHold k l.write) (sym (same (LockWord l.line))) fit.shows in
      of_lock (LockFits o new k) l (record { shows = shows; found = fit.found }) (record { shows = shows; found = found_block o.lanes o.words l.line (block_at o.lanes o.words l.line) refl }))
      v.locks mine.locks)

  under_now : (u : ℕ) → list_any (is_under u) v.locks ≡ true → list_any (is_under u) (map f v.locks) ≡ true
  under_now u = list_any-map (is_under u) f v.locks (All-weaker (LockFits o old k) (λ l. is_under u l ≡ true → is_under u (f l) ≡ true)
      (λ l fit e. of_lock (λ m. is_under u m ≡ true) l e (under_found o.lanes o.words l.line l.block u fit.found e)) v.locks mine.locks)

  pub written_now : (u : ℕ) → is_written v u ≡ true → is_written (with_seen (Load w x) (loaded v w x)) u ≡ true
  written_now u = list_any-map (λ (l : Lock). l.write && is_some l.block && is_under u l) f v.locks (All-weaker (LockFits o old k) (λ l. (l.write && is_some l.block && is_under u l) ≡ true → ((f l).write && is_some (f l).block && is_under u (f l)) ≡ true)
      (λ l fit e. of_lock (λ m. (m.write && is_some m.block && is_under u m) ≡ true) l e (written_found o.lanes o.words l.line l.write l.block u fit.found e)) v.locks mine.locks)

  reserved_now : (u : ℕ) → is_reserved v u ≡ true → is_reserved v' u ≡ true
  reserved_now u = reserved_again o v v' u mine.lane.lanes refl refl (λ place bit has. described_still (Run place) bit has)

  -- a word of what the lane reserved that tells of no block tells of none still
  silent_still : (u : ℕ) → is_reserved v u ≡ true → tells_nothing v.lanes v.words u ≡ true → tells_nothing v'.lanes v'.words u ≡ true
  silent_still u own tells =
      let chunk : IsChunk o.lanes (u / 512) = chunk_here o.lanes (u / 512) (ap (λ n. is_chunk n (u / 512)) (sym mine.lane.lanes) ∙ (and_parts (is_chunk v.lanes (u / 512)) _ tells).0) in
      ap (λ z. is_chunk v.lanes (u / 512) && not (eqb (u % 512) 0 && is_run z))
      (subst (λ n. slice_index words' (descriptor_word n (u / 512)) ≡ slice_index v.words (descriptor_word n (u / 512))) (sym mine.lane.lanes)
      (reserved_described o old v u mine.lane.lanes mine.blocks own chunk (λ d. slice_index words' d ≡ slice_index v.words d) described_still)) ∙ tells

  change_still : (d : Change) → ReservedChange v d → ReservedChange v' d
  change_still d of = record {
    reserved = reserved_now d.word of.reserved;
    plain = ⊎_elim (λ (tells : tells_nothing v.lanes v.words d.word ≡ true). inl (silent_still d.word of.reserved tells)) (λ found. inr found) of.plain;
  }

  core_now : (u : ℕ) → is_held v u ≡ true → is_held v' u ≡ true
  core_now u held = held_by_parts (is_in_area v.lane u || list_any (is_under u) v.locks) (is_in_area v.lane u || list_any (is_under u) (map f v.locks)) (is_reserved v u) (is_reserved v' u)
      (held_by_parts (is_in_area v.lane u) (is_in_area v.lane u) (list_any (is_under u) v.locks) (list_any (is_under u) (map f v.locks)) (λ area. area) (under_now u))
      (reserved_now u) held

  -- the area is as it was
  area_same : (u : ℕ) → 512 + 1024 * v.lane ≤ u → u < 1536 + 1024 * v.lane → slice_index words' u ≡ slice_index v.words u
  area_same u low high = agrees u (mine.picture.area u (and_from (leb (area_word v.lane) u) (ltb u (area_word v.lane + 1024)) (le-leb (area_word v.lane) u (omega arith)) (lt-ltb u (area_word v.lane + 1024) (omega arith))))

  slot_same : (s : ℕ) → s < 64 → undo_slot words' v.lane s ≡ undo_slot v.words v.lane s
  slot_same s low =
      ⊎_elim (λ (area : is_in_area v.lane w ≡ true). ap (λ words. undo_slot words v.lane s) (ap (set v.words w) (here ∙ mine.picture.area w area) ∙ set-get_or v.words w 0))
      (λ (outside : is_in_area v.lane w ≡ false). slot_set_other v.words w x v.lane s
      (⊎_elim (λ (below : w < 512 + 1024 * v.lane). inl (omega (arith, below))) (λ (above : 1536 + 1024 * v.lane ≤ w). inr (omega (arith, above, low))) (outside_area v.lane w outside)))
      (cases_Bool (is_in_area v.lane w))

  generation : generation_of v' ≡ generation_of v
  generation = area_same (area_word v.lane) (omega arith) (omega arith)

  recorded_same : (slot : ℕ) (r : Recorded) (i : ℕ) → slice_get v.log.records slot ≡ Some r → i < length r.old → slice_index words' (r.word + i) ≡ slice_index v.words (r.word + i)
  recorded_same slot r i there low = agrees (r.word + i) (mine.picture.known (r.word + i) ((mine.log.each slot r there).each i low).known)

  same_difference : difference_of v' ≡ difference_of v
  same_difference = ap (λ difference. difference ++ pool_entries v) (difference_same v.words words' v.log.records recorded_same)

  log_now : LogFits (settled o log decided) v' (records_generation v.log.phase v)
  log_now = let fits = mine.log in record {
    most = fits.most;
    stored = λ s r there. let low = slice_get_within v.log.records s r there in let most = fits.most in slot_same s (omega (arith, low, most)) ∙ fits.stored s r there;
    each = λ s r there. let g = fits.each s r there in record {
      some = g.some;
      most = g.most;
      each = λ i low. let e = g.each i low in record { own = written_now (r.word + i) e.own; known = contains-more (is_held v w) w v.known (r.word + i) e.known; before = e.before };
    };
    once = fits.once;
    stale = λ s u low high there. fits.stale s u (subst (λ n. n ≤ s) (used_again v.log.phase v v' refl) low) high (ap undo_of (sym (slot_same s high)) ∙ there);
  }

  pairs_same : (u : ℕ) → 520 + 1024 * v.lane ≤ u → u < 648 + 1024 * v.lane → slice_index words' u ≡ slice_index v.words u
  pairs_same u low high = area_same u (omega arith) (omega arith)

  entries_now : EntriesFit v'
  entries_now = entries_again v v' refl refl pairs_same written_now (λ i f at free. inr free) refl (area_same (area_word v.lane + 1) (omega arith) (omega arith)) mine.entries

  whole_now : (g : ℕ) → AreWhole v g → AreWhole v' g
  whole_now g whole = whole_again v v' refl refl pairs_same written_now (λ i f at free. inr free) g whole

  -- what is known stays
  ors_now : KnowsOrs v → KnowsOrs v'
  ors_now knows u or =
      let t = knows u or in
      (record { known = contains-more (is_held v w) w v.known u t.0.known; small = subst (λ n. n < 2 ^ 64) (sym (agrees u (mine.picture.known u t.0.known))) t.0.small }, t.1)

  -- what may be written now and is redone could be written before
  redone_now : (u : ℕ) → IsTrue (is_redone v' u) → IsTrue (is_written v' u) → RedoneWord new (settled o log decided) v' u
  redone_now u again own_word =
      let t = and_parts (is_redoing v.log.phase) (is_entered v.log.entries u) again in
      let under = writes_under o new k v' u locks_fit own_word in
      let out : is_in_area v.lane u ≡ false = ap (λ n. is_in_area n u) mine.lane.lane ∙ outside_behind o.lanes k u inside (world.sound.behind_areas under.0 u under.1) in
      redone_kept old new (settled o log decided) (settled o log decided) v' u (same (PoolWord u)) refl
      (redone_again old (settled o log decided) v v' u refl (mine.redone u again (entered_written v u (plain_still v mine.entries (redoing_still v.log.phase t.0)) t.1 out)))

  ends_now : (number : Option ℕ) → EndFits (Flies log decided k) v number → EndFits (Flies log decided k) v' number
  ends_now None restored = λ slot r i there low. recorded_same slot r i there low ∙ restored slot r i there low
  ends_now (Some n) flying = subst (Flies log decided k n) (sym same_difference) flying

  sealed_now : (before : ℕ) → All (SealChange v before) v.changes → All (SealChange v' before) v.changes
  sealed_now before all = All-weaker (SealChange v before) (SealChange v' before) (λ c of. record { whole = of.whole; of = of.of; before = of.before }) v.changes all

  phase_now : (phase : Phase) → v.log.phase ≡ phase → PhaseFits (Flies log decided k) v phase → PhaseFits (Flies log decided k) v' phase
  phase_now Idle e fits = record { no_records = fits.no_records; changes = All-weaker (FilledChange v) (FilledChange v') (λ c of. filled_again v v' c (reserved_now c.word) (silent_still c.word of.may.reserved) of) v.changes fits.changes }
  phase_now (Open slot pair) e fits = record {
    undrawn = fits.undrawn;
    short = fits.short;
    stands = λ i low. let short = fits.short in let most = mine.log.most in
        ⊎_elim (λ (room : length v.log.records < 64). area_same (slot_word v.lane (length v.log.records) + i) (omega (arith, room, low, short)) (omega (arith, room, low, short)) ∙ fits.stands i low)
        (λ (full : 64 ≤ length v.log.records). area_same (slot_word v.lane (length v.log.records) + i) (omega (arith, full, most, low, short)) (omega (arith, full, most, low, short)) ∙ fits.stands i low)
        (cases_lt (length v.log.records) 64);
    changes = All-weaker (OpenChange v) (OpenChange v') (λ c of. open_again v v' c refl (λ u logged. logged) (change_still c) of) v.changes fits.changes;
    short_pair = fits.short_pair;
    in_pairs = fits.in_pairs;
    pair_stands = λ i low. let room = fits.in_pairs in area_same (entry_word v.lane (length v.log.entries) + i) (omega (arith, room, low)) (omega (arith, room, low)) ∙ fits.pair_stands i low;
  }
  phase_now Drawn e fits = record { number = fits.number; drawn = fits.drawn; flying = subst (Flies log decided k fits.number) (sym same_difference) fits.flying; drained = fits.drained }
  phase_now Sealing e fits = record {
    number = fits.number;
    drawn = fits.drawn;
    flying = subst (Flies log decided k fits.number) (sym same_difference) fits.flying;
    changes = sealed_now 0 fits.changes;
    whole = whole_now (generation_of v' + 1) (subst (λ g. AreWhole v (g + 1)) (sym generation) fits.whole);
    known = ors_now fits.known;
    below = subst (λ g. g < generation_limit) (sym generation) fits.below;
  }
  phase_now (Applying applied) e fits =
      let g : records_generation (Applying applied) v' ≡ records_generation (Applying applied) v = generation_same (Applying applied) v v' generation refl in record {
        no_records = fits.no_records;
        most = fits.most;
        changes = All-weaker (AppliedChange v applied) (AppliedChange v' applied) (λ c of. record { of = of.of; bits = of.bits; next = λ at. let n = of.next at in (n.0, n.1 ∙ sym generation) }) v.changes fits.changes;
        whole = whole_now (records_generation (Applying applied) v') (subst (AreWhole v) (sym g) fits.whole);
        known = ors_now fits.known;
        last = subst (λ n. n ≤ generation_limit) (sym g) fits.last;
      }
  phase_now Clearing e fits = record {
    no_records = fits.no_records;
    changes = sealed_now (length v.log.entries) fits.changes;
    whole = whole_now (generation_of v') (subst (AreWhole v) (sym generation) fits.whole);
    known = ors_now fits.known;
  }
  phase_now Retiring e fits = record {
    changes = All-weaker (RetiringChange v) (RetiringChange v') (λ c of. record { whole = of.whole; of = of.of; before = of.before ∙ sym generation }) v.changes fits.changes;
    ends = ends_now v.number fits.ends;
  }

  heap_now : HeapFits o (heap_words o new) v'
  heap_now = heap_kept o old new v' (words_described o old new (λ u. same (PoolWord u))) (record {
    descriptors = descriptors_now;
    blocks = record { of_pool = mine.blocks.of_pool; small = mine.blocks.small; free = mine.blocks.free; described = λ at bit has. described_still at bit has ∙ mine.blocks.described at bit has; freed = mine.blocks.freed };
  })

  loaded_fits : LaneFits o new (settled o log decided) (Flies log decided k) k v'
  loaded_fits = record {
    lane = record { lanes = mine.lane.lanes; zones = mine.lane.zones; lane = mine.lane.lane; size = length-set v.words w x ∙ mine.lane.size };
    picture = record {
      area = λ u area. word_now u (λ differ. mine.picture.area u area);
      known = λ u there. ⊎_elim (λ (t : (u ≡ w) × (is_held v w ≡ true)). word_now u (λ differ. absurd (differ t.0))) (λ (before : Contains v.known u). word_now u (λ differ. mine.picture.known u before)) (contains-less (is_held v w) w v.known u there);
      held = λ u there. ⊎_elim (λ (t : (u ≡ w) × (is_held v w ≡ true)). core_now u (ap (is_held v) t.0 ∙ t.1)) (λ (before : Contains v.known u). core_now u (mine.picture.held u before)) (contains-less (is_held v w) w v.known u there);
      descriptors = heap_now.descriptors;
    };
    locks = locks_fit;
    log = subst (LogFits (settled o log decided) v') (sym (generation_same v.log.phase v v' generation refl)) log_now;
    entries = entries_now;
    redone = redone_now;
    phase = phase_now v.log.phase refl mine.phase;
    blocks = heap_now.blocks;
    first_generation = subst (λ g. 1 ≤ g) (sym generation) mine.first_generation;
    last_generation = subst (λ g. g ≤ generation_limit) (sym generation) mine.last_generation;
    room = mine.room;
    within = mine.within;
  }

  loads_word : World o new (with_view views k v') log decided
  loads_word =
      quiet o old views log decided world k inside v is v' new
      (λ j low other. lane_kept o old new (settled o log decided) (settled o log decided) (Flies log decided j) (Flies log decided j) j (views j) (words_described o old new (λ u. same (PoolWord u)))
      (λ u area. same (PoolWord u)) (λ u known. same (PoolWord u)) (λ u written. same (PoolWord u)) (λ line write. subst (ShowsHold j write) (sym (same (LockWord line)))) (λ u written. refl) (λ n flies. flies) (world.each_lane j low))
      loaded_fits
      (λ u heap un others. same (PoolWord u) ∙ world.each_word u heap (unlogged_before o old views log decided world k inside v is v' u un others))
      (λ line bit set. hold_kept o old views log decided world k inside v is v' line bit
      (any-map (λ (l : Lock). (l.line ≡ line) × (bit ≡ hold_bit k l.write)) f v.locks (λ l t. of_lock (λ m. (m.line ≡ line) × (bit ≡ hold_bit k m.write)) l t t))
      (world.each_line line bit (subst (λ n. bit_at n bit ≡ 1) (same (LockWord line)) set)))
      (λ n flying. flying) (same CommitCounter) (room_kept o old views log decided world k inside v is v' (low_before v (Load w x) refl)) refl (heap_here o old views log decided world k inside v is v' new (λ w. same (PoolWord w)) (all_same old new same) (record { lanes = refl; reserved = refl; freed = refl; zones = refl }))
      (⊎_elim (λ (unset : old StopWord ≡ 0). inl (same StopWord ∙ unset))
      (λ (t : (j : ℕ) × (j < o.lanes) × IsAtStop (views j)). inr (at_stop_kept o old views log decided world k inside v is v' (stop_kept v v' refl (le_refl v.calls)) t)) world.stop_word)

  finds_known : is_known v w ≡ true → x ≡ slice_index v.words w
  finds_known e =
      ⊎_elim (λ (area : is_in_area v.lane w ≡ true). here ∙ mine.picture.area w area)
      (λ (listed : list_any (λ other. eqb other w) v.known ≡ true).
      let t = Any-from_list_any (λ other. eqb other w) v.known listed in
      here ∙ mine.picture.known w (t.0, t.2, subst (λ y. get_or v.known t.0 y ≡ y) (eqb-true t.1 w t.4) t.3))
      (or_cases (is_in_area v.lane w) (list_any (λ other. eqb other w) v.known) e)

pub loads : (w found : ℕ) → Keeps (Load w found)
loads w found o old new views log decided k v world inside is lawful moves =
    (loads_word o old views log decided world k inside v is new w found moves.0 moves.1 lawful.allowed, finds_known o old views log decided world k inside v is new w found moves.0 moves.1 lawful.allowed)
