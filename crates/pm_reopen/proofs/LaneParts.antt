-- A lane's part of the plan, as what it writes: the log's changes, the cleared words, the end of the log.
use Rattle.std.proofs.Common.{◌≡◌, ◌≢◌, ◌⊎◌, ⊎_elim, inl, inr, ℕ, zero, suc, ◌+◌, ◌-◌, ◌*◌, ◌/◌, ◌%◌, ◌^◌, ◌<◌, ◌≤◌, Bool, true, false, cond, All, List, [], ◌∷◌, ◌++◌, length, map, take, drop, slice_index, Option, Some, None, refl, sym, ◌∙◌, ap, subst, arith}
use Rattle.std.specs.List.{filter, flat_map, range_with_len}
use Rattle.std.specs.Option.{option_to_list}
use Rattle.std.proofs.lemmas.Bool.{cases_Bool}
use Rattle.std.proofs.lemmas.List.{get_or-drop, get_or-take}
use Rattle.std.proofs.lemmas.List.Elements.{All-append, All-cons, All-filter, All-head, All-nil, All-tail, All-weaker}
use Rattle.std.proofs.lemmas.Option.{cond_some}
use Rattle.pm_record.specs.Undo.{is_record, undo_in, undo_of}
use Rattle.pm_record.specs.declared.redo.Redo.{Redo}
use Rattle.pm_record.specs.declared.undo.Undo.{Undo}
use Rattle.pm_objects.specs.declared.pool.PoolView.{PoolView}
use Rattle.pm_image.specs.Logs.{all_applied, area_word, entries, generation, is_sealed, records, slot_line, undo_slot}
use Rattle.pm_image.specs.Means.{IsMeaning}
use Rattle.pm_image.specs.Steps.{valid_record}
use Rattle.pm_image.proofs.Gathering.{record_at, records_by_number}
use Rattle.pm_memory.specs.Solo.{Solo}
use Rattle.pm_recover.specs.Recovery.{is_raised}
use Rattle.pm_recover.specs.Steps.{HasSoundLogs}
use Rattle.pm_recover.proofs.Sound.{lanes_of_meaning}
use Rattle.pm_recover.proofs.Slots.{valid_parts}
use Rattle.pm_recover.proofs.Strays.{slot_word}
use Rattle.pm_reopen.specs.Plan.{MemoryCall, cleared, log_end, persisted, restores, store_of, strays, writes, written_back, zeros}
use Rattle.pm_reopen.specs.Plan.MemoryCall.{Change}
use Rattle.pm_reopen.specs.Premise.{HasTargets, HasWords}
use Rattle.pm_reopen.specs.Running.{after_calls}
use Rattle.pm_reopen.proofs.Again.{IsWord, applied_fits}
use Rattle.pm_reopen.proofs.Draining.{back_drains, cleared_drains}
use Rattle.pm_reopen.proofs.Inside.{all_parts, end_inside, fewer_sound, fewer_targets, words_inside, writes_inside}
use Rattle.pm_reopen.proofs.LogEnds.{ends_nothing, ends_raised, ends_sealed}
use Rattle.pm_reopen.proofs.Phase1.{entry_words, size, sound}
use Rattle.pm_reopen.proofs.Phases.{AreSmall, IsInside}
use Rattle.pm_reopen.proofs.Segments.{after_append, all_made, cleared_part, clears, left_length, left_words, persisted_part, unstopped_after}
use Rattle.pm_reopen.proofs.Surviving.{for_word}
use Rattle.pm_reopen.proofs.Targets.{targets_if_meaning}
use Rattle.pm_reopen.proofs.Unflushed.{changes_unflushed}

-- ---- drains

pub persisted_drains : (m : Solo) (lines : ℕ) (es : List Redo) → m.changes ≡ [] → m.stop ≡ None → All (λ (e : Redo). e.place / 64 < lines) es → (after_calls m (persisted lines es)).changes ≡ []
persisted_drains m lines es none free inside =
    let b : Solo = after_calls m (map Change es) in
    ap (λ (n : Solo). n.changes) (after_append m (map Change es) (written_back lines es))
    ∙ back_drains b (after_calls b (written_back lines es)) lines es (changes_unflushed m b es none (all_made m (map Change es) free)) inside (all_made b (written_back lines es) (unstopped_after m (map Change es) free))

-- ---- values of 64 bits

old_words : (X : List ℕ) (k slot : ℕ) (u : Undo) (j : ℕ) → HasWords X → undo_of (undo_slot X k slot) ≡ Some u → j < 4 → slice_index u.old j < 2 ^ 64
old_words X k slot u j words reads few =
    let parts = cond_some (is_record (undo_slot X k slot)) (undo_in (undo_slot X k slot)) u reads in
    let same : take 4 (drop 3 (undo_slot X k slot)) ≡ u.old = ap (λ (v : Undo). v.old) parts.1 in
    let value : slice_index u.old j ≡ slice_index X (8 * slot_line k slot + (3 + j)) =
    ap (λ (ws : List ℕ). slice_index ws j) (sym same) ∙ get_or-take 4 (drop 3 (undo_slot X k slot)) j 0 few ∙ get_or-drop 3 (undo_slot X k slot) j 0 ∙ slot_word X k slot (3 + j) (omega (arith, few)) in
    subst (λ (n : ℕ). n < 2 ^ 64) (sym value) (words (8 * slot_line k slot + (3 + j)))

restores_words : (u : Undo) (a n : ℕ) → ((j : ℕ) → j < 4 → slice_index u.old j < 2 ^ 64) → a + n ≤ 4 → All IsWord (map (λ j. store_of (u.place / 8 + j) (slice_index u.old j)) (range_with_len a n))
restores_words u a zero each few = All-nil IsWord
restores_words u a (suc n) each few =
    All-cons IsWord (store_of (u.place / 8 + a) (slice_index u.old a)) (map (λ j. store_of (u.place / 8 + j) (slice_index u.old j)) (range_with_len (a + 1) n)) (each a (omega (arith, few))) (restores_words u (a + 1) n each (omega (arith, few)))

records_words : (X : List ℕ) (lanes k : ℕ) → HasWords X → HasSoundLogs X lanes → k < lanes → All IsWord (flat_map restores (records X k))
records_words X lanes k words sound near =
    mapped (records X k) (subst (All (λ (u : Undo). All IsWord (restores u))) (sym (records_by_number X k))
    (all_parts (λ (u : Undo). All IsWord (restores u)) (record_at X k) 0 64 (λ slot from to. one slot (omega (arith, to)) (valid_record X k slot) refl))) where
      mapped : (us : List Undo) → All (λ (u : Undo). All IsWord (restores u)) us → All IsWord (flat_map restores us)
      mapped [] all = All-nil IsWord
      mapped (u ∷ us) all = All-append IsWord (restores u) (flat_map restores us) (All-head (λ (v : Undo). All IsWord (restores v)) u us all) (mapped us (All-tail (λ (v : Undo). All IsWord (restores v)) u us all))

      one : (slot : ℕ) → slot < 64 → (o : Option Undo) → valid_record X k slot ≡ o → All (λ (u : Undo). All IsWord (restores u)) (option_to_list o)
      one slot few None is = All-nil (λ (u : Undo). All IsWord (restores u))
      one slot few (Some u) is =
          let reads = (valid_parts (generation X k) (undo_of (undo_slot X k slot)) u is).0 in
          let count = (sound.restorable k slot u near few is).few in
          All-cons (λ (v : Undo). All IsWord (restores v)) u [] (restores_words u 0 u.count (λ j low. old_words X k slot u j words reads low) (omega (arith, count))) (All-nil (λ (v : Undo). All IsWord (restores v)))

both_all : (n : ℕ) (es : List Redo) → All (λ (e : Redo). e.place / 8 < n) es → All IsWord es → All (IsInside n) es
both_all n [] one two = All-nil (IsInside n)
both_all n (e ∷ es) one two =
    All-cons (IsInside n) e es (All-head (λ (f : Redo). f.place / 8 < n) e es one, All-head IsWord e es two) (both_all n es (All-tail (λ (f : Redo). f.place / 8 < n) e es one) (All-tail IsWord e es two))

zeros_inside : (line n a c : ℕ) → 8 * line + (a + c) ≤ n → All (IsInside n) (map (λ j. store_of (8 * line + j) 0) (range_with_len a c))
zeros_inside line n a zero room = All-nil (IsInside n)
zeros_inside line n a (suc c) room =
    All-cons (IsInside n) (store_of (8 * line + a) 0) (map (λ j. store_of (8 * line + j) 0) (range_with_len (a + 1) c)) (omega (arith, room), omega arith) (zeros_inside line n (a + 1) c (omega (arith, room)))

clears_inside : (k : ℕ) (p : ℕ → Bool) (n a c : ℕ) → a + c ≤ 64 → 8 * slot_line k 64 ≤ n → All (IsInside n) (clears k (filter p (range_with_len a c)))
clears_inside k p n a zero few room = All-nil (IsInside n)
clears_inside k p n a (suc c) few room = one (p a) (clears_inside k p n (a + 1) c (omega (arith, few)) room) where
  one : (b : Bool) → All (IsInside n) (clears k (filter p (range_with_len (a + 1) c))) → All (IsInside n) (clears k (cond b (a ∷ filter p (range_with_len (a + 1) c)) (filter p (range_with_len (a + 1) c))))
  one true rest = All-append (IsInside n) (zeros (slot_line k a)) (clears k (filter p (range_with_len (a + 1) c))) (zeros_inside (slot_line k a) n 0 8 (omega (arith, few, room))) rest
  one false rest = rest

strays_inside : (X : List ℕ) (k n : ℕ) → 8 * slot_line k 64 ≤ n → All (IsInside n) (clears k (strays X k))
unfolding strays
strays_inside X k n room = clears_inside k (λ slot. Rattle.pm_recover.specs.Recovery.is_stray (Rattle.pm_recover.specs.Recovery.generation_after X k) (undo_slot X k slot)) n 0 64 (omega arith) room

one_inside : (n w x : ℕ) → w < n → x < 2 ^ 64 → All (IsInside n) (store_of w x ∷ [])
one_inside n w x near fits = All-cons (IsInside n) (store_of w x) [] (omega (arith, near), fits) (All-nil (IsInside n))

log_end_inside : (X : List ℕ) (k n : ℕ) → area_word (k + 1) ≤ n → generation X k ≤ 4611686018427387904 → All (IsInside n) (log_end X k)
log_end_inside X k n room last = ⊎_elim
    (λ (sealed : is_sealed X k ≡ true). subst (All (IsInside n)) (sym (ends_sealed X k sealed)) (one_inside n (area_word k + 1) 0 (omega (arith, room)) (omega arith)))
    (λ (unsealed : is_sealed X k ≡ false). ⊎_elim
    (λ (raised : is_raised X k ≡ true). subst (All (IsInside n)) (sym (ends_raised X k unsealed raised)) (one_inside n (area_word k) (generation X k + 1) (omega (arith, room)) (omega (arith, last))))
    (λ (kept : is_raised X k ≡ false). subst (All (IsInside n)) (sym (ends_nothing X k unsealed kept)) (All-nil (IsInside n)))
    (cases_Bool (is_raised X k)))
    (cases_Bool (is_sealed X k))

pub small_after : (n w x : ℕ) (es : List Redo) → All (IsInside n) es → x < 2 ^ 64 → all_applied (for_word w es) x < 2 ^ 64
small_after n w x es all fits =
    applied_fits (for_word w es) x (All-filter (λ (e : Redo). Rattle.std.proofs.Common.eqb (e.place / 8) w) IsWord es (All-weaker (IsInside n) IsWord (λ e both. both.1) es all)) fits

-- ---- the three parts, from a memory of these words without undrained changes

module _ (m : Solo) (pool : PoolView) (is : IsMeaning m.words pool) (k : ℕ) (near : k < is.lanes) (none : m.changes ≡ []) (free : m.stop ≡ None) (words : HasWords m.words) where
  abbrev pub X : List ℕ
  X = m.words

  abbrev pub lines : ℕ
  lines = length m.words / 8

  abbrev pub P1 : List MemoryCall
  P1 = persisted lines (writes m.words k)

  abbrev pub P2 : List MemoryCall
  P2 = cleared k (strays m.words k)

  abbrev pub P3 : List MemoryCall
  P3 = persisted lines (log_end m.words k)

  abbrev pub m1 : Solo
  m1 = after_calls m P1

  abbrev pub m2 : Solo
  m2 = after_calls m1 P2

  abbrev pub m3 : Solo
  m3 = after_calls m2 P3

  whole8 : length m.words % 8 ≡ 0
  whole8 = let all = size m.words pool is k near in omega (arith, all)

  sound_k : HasSoundLogs m.words (k + 1)
  sound_k = fewer_sound m.words is.lanes (k + 1) (sound m.words pool is k near) (omega (arith, near))

  targets_k : HasTargets m.words (k + 1)
  targets_k = fewer_targets m.words is.lanes (k + 1) (subst (HasTargets m.words) (sym (lanes_of_meaning m.words pool is)) (targets_if_meaning m.words pool is)) (omega (arith, near))

  pub small : AreSmall m.words
  small = λ w inside. words w

  pub all1 : All (IsInside (length m.words)) (writes m.words k)
  unfolding writes
  all1 =
      both_all (length m.words) (writes m.words k) (words_inside m.words k sound_k targets_k)
      (All-append IsWord (flat_map restores (records m.words k)) (entries m.words k) (records_words m.words is.lanes k words (sound m.words pool is k near) near) (entry_words m.words pool is k near words))

  pub drained1 : m1.changes ≡ []
  drained1 = persisted_drains m lines (writes m.words k) none free (writes_inside m.words k sound_k targets_k whole8)

  pub free1 : m1.stop ≡ None
  free1 = unstopped_after m P1 free

  pub long1 : length m1.words ≡ length m.words
  long1 = left_length m P1 (writes m.words k) (persisted_part lines (writes m.words k)) none small all1

  pub words1 : (w : ℕ) → w < length m.words → slice_index m1.words w ≡ all_applied (for_word w (writes m.words k)) (slice_index m.words w)
  words1 = left_words m P1 (writes m.words k) (persisted_part lines (writes m.words k)) none small all1

  pub small1 : AreSmall m1.words
  small1 w inside =
      let long = long1 in
      let near_w : w < length m.words = omega (arith, inside, long) in
      subst (λ (n : ℕ). n < 2 ^ 64) (sym (words1 w near_w)) (small_after (length m.words) w (slice_index m.words w) (writes m.words k) all1 (words w))

  pub all2 : All (IsInside (length m1.words)) (clears k (strays m.words k))
  all2 = let long = long1 in let all = size m.words pool is k near in strays_inside m.words k (length m1.words) (omega (arith, all, near, long))

  pub drained2 : m2.changes ≡ []
  drained2 = cleared_drains m1 m2 k (strays m.words k) drained1 (all_made m1 P2 free1)

  pub free2 : m2.stop ≡ None
  free2 = unstopped_after m1 P2 free1

  pub long2 : length m2.words ≡ length m.words
  long2 = left_length m1 P2 (clears k (strays m.words k)) (cleared_part k (strays m.words k)) drained1 small1 all2 ∙ long1

  pub words2 : (w : ℕ) → w < length m.words → slice_index m2.words w ≡ all_applied (for_word w (clears k (strays m.words k))) (slice_index m1.words w)
  words2 w inside = let long = long1 in left_words m1 P2 (clears k (strays m.words k)) (cleared_part k (strays m.words k)) drained1 small1 all2 w (omega (arith, inside, long))

  pub small2 : AreSmall m2.words
  small2 w inside =
      let long = long2 in
      let one = long1 in
      let near_w : w < length m.words = omega (arith, inside, long) in
      subst (λ (n : ℕ). n < 2 ^ 64) (sym (words2 w near_w)) (small_after (length m1.words) w (slice_index m1.words w) (clears k (strays m.words k)) all2 (small1 w (omega (arith, near_w, one))))

  pub all3 : All (IsInside (length m2.words)) (log_end m.words k)
  all3 =
      let long = long2 in let all = size m.words pool is k near in
      log_end_inside m.words k (length m2.words) (omega (arith, all, near, long)) ((sound m.words pool is k near).last_generation k near)

  pub drained3 : m3.changes ≡ []
  drained3 = persisted_drains m2 lines (log_end m.words k) drained2 free2 (end_inside m.words k sound_k whole8)

  pub long3 : length m3.words ≡ length m.words
  long3 = left_length m2 P3 (log_end m.words k) (persisted_part lines (log_end m.words k)) drained2 small2 all3 ∙ long2

  pub words3 : (w : ℕ) → w < length m.words → slice_index m3.words w ≡ all_applied (for_word w (log_end m.words k)) (slice_index m2.words w)
  words3 w inside = let long = long2 in left_words m2 P3 (log_end m.words k) (persisted_part lines (log_end m.words k)) drained2 small2 all3 w (omega (arith, inside, long))
