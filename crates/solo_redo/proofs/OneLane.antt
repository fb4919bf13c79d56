-- Lane 0 alone, with the lock of line 193 for writing: what it may do by each of the views that its memory may be seen as. For the tests.
use Rattle.std.proofs.Common.{◌≡◌, ◌≢◌, ⊎_elim, get_or-set_other, ℕ, ◌+◌, ◌/◌, ◌%◌, ◌<◌, true, IsTrue, List, [], ◌∷◌, length, length-set, map, slice_index, replicate, Some, None, refl, sym, ap, ◌∙◌, subst, rules, arith, inl, inr}
use Rattle.std.proofs.lemmas.Bool.{cases_eq}
use Rattle.std.proofs.lemmas.List.Elements.{All-cons, All-nil}
use Rattle.std.proofs.lemmas.Grind.{get_or-set_at}
use Rattle.std.proofs.lemmas.List.{get_or-replicate, length-replicate}
use Rattle.solo_memory.specs.LockWords.{writer_bit}
use Rattle.solo_memory.specs.Solo.{Sees, Solo, lock_word, opened, view_of, with_lock}
use Rattle.solo_memory.proofs.HeldLocks.{lock_word-here, lock_word-there}
use Rattle.solo_memory.proofs.Unlocked.{sees_opened}
use Rattle.pm_record.specs.declared.redo.Op.TheVariants.{Set, Or, And}
use Rattle.pm_record.specs.declared.redo.Redo.{Redo}
use Rattle.solo_view.specs.Area.{is_in_area}
use Rattle.solo_view.specs.Log.{Phase, no_log}
use Rattle.solo_view.specs.Log.Phase.{Applying, Drawn, Open}
use Rattle.solo_view.specs.Rights.{is_written}
use Rattle.solo_view.specs.View.{View, Lock}
use Rattle.solo_world.specs.Entries.{IsEnterable, IsKnownWord}
use Rattle.solo_world.specs.Sequences.{IsReady}
use Rattle.solo_undo.specs.Working.{HasArea, IsSeenWithArea}
use Rattle.solo_redo.specs.Entering.{AreEntered, HasPlace, IsOfPool, IsSeenInPool, final_of, MayEnter}
use Rattle.solo_redo.specs.Sequences.{applies, clears, logs, performs, puts, seals}
use Rattle.solo_redo.proofs.Applied.{apply_lawful}
use Rattle.solo_redo.proofs.Entered.{put_lawful}
use Rattle.solo_redo.proofs.Logged.{log_lawful}
use Rattle.solo_redo.proofs.Performed.{perform_lawful}
use Rattle.solo_redo.proofs.Sealed.{clear_lawful, seal_lawful}

abbrev lock : Lock
lock = record { line = 193; write = true; block = Some 1 }

-- makes word 1544 be 7
abbrev pub heap : Redo
heap = record { place = 12352; op = Set; value = 7 }

-- ends lane 0's generation 1
abbrev pub end : Redo
end = record { place = 4096; op = Set; value = 2 }

abbrev pub both : List Redo
both = heap ∷ end ∷ []

-- sets bit 3 of it, and clears all but bits 2 and 3
abbrev pub sets_bit : Redo
sets_bit = record { place = 12352; op = Or; value = 8 }

abbrev pub clears_bits : Redo
clears_bits = record { place = 12352; op = And; value = 12 }

abbrev pub four : List Redo
four = heap ∷ sets_bit ∷ clears_bits ∷ end ∷ []

module _ (m : Solo) (held : m ≡ with_lock (opened m.words None) 193 (writer_bit 0)) (whole : length m.words ≡ 2048) (generation : slice_index m.words 512 ≡ 1) where
  abbrev words : List ℕ
  words = m.words

  abbrev n : Solo
  n = with_lock (opened words None) 193 (writer_bit 0)

  abbrev v : Phase → List Redo → View
  v phase entries = record (view_of (opened words None)) { lanes = 1; locks = lock ∷ []; log = record (no_log phase) { entries = map final_of entries } }

  lines : length n.locks ≡ 256
  lines = let l = length-set (replicate (length words / 8) 0) 193 (writer_bit 0) ∙ length-replicate (length words / 8) 0 in omega (arith, l, whole)

  lock_words : (line : ℕ) → line < length n.locks → slice_index n.locks line ≡ lock_word (lock ∷ []) line
  lock_words line inside =
      let k : ℕ = length words / 8 in
      let zero : ℕ = 0 in
      let wide = length-replicate k zero in
      let few = lines in
      ⊎_elim
      (λ (same : 193 ≡ line). get_or-set_at (replicate k 0) 193 line (writer_bit 0) 0 (sym same) (omega (arith, wide, few, whole)) ∙ sym (lock_word-here lock [] line same))
      (λ (other : 193 ≢ line). get_or-set_other (replicate k 0) 193 line (writer_bit 0) 0 (λ same. other (sym same)) ∙ (get_or-replicate k line 0 0 (omega (arith, inside, few, whole)) ∙ sym (lock_word-there lock [] line other)))
      (cases_eq 193 line)

  sees : (phase : Phase) (entries : List Redo) → Sees m (v phase entries)
  sees phase entries = subst (λ (s : Solo). Sees s (v phase entries)) (sym held) (let s = sees_opened words None in record {
    lane = s.lane;
    words = s.words;
    changes = s.changes;
    stop = s.stop;
    calls = s.calls;
    within = s.within;
    numbers = s.numbers;
    count = s.count;
    counter = s.counter;
    lines = let l = lines in omega (arith, l, whole);
    locks = lock_words;
    zone_locks = s.zone_locks;
    runs = s.runs;
    zones = s.zones;
    pages = s.pages;
    zone_count = s.zone_count;
    zone_lock_count = s.zone_lock_count;
    alone = s.alone;
  })

  area : (phase : Phase) (entries : List Redo) → HasArea (v phase entries)
  area phase entries = record { lane = omega arith; few = omega arith; inside = omega (arith, whole); below = omega (arith, generation) }

  place : (phase : Phase) (entries : List Redo) → HasPlace (v phase entries)
  place phase entries = record { lane = omega arith; few = omega arith; inside = omega (arith, whole) }

  own : (phase : Phase) (entries : List Redo) → IsTrue (is_written (v phase entries) 1544)
  own phase entries = search rules

  enterable_heap : (phase : Phase) (entries : List Redo) → IsEnterable (v phase entries) Set 1544 7
  enterable_heap phase entries = record { of = inl (own phase entries); word = λ other. omega arith }

  heap_of_pool : (phase : Phase) (entries : List Redo) → IsOfPool (v phase entries) heap
  heap_of_pool phase entries = record {
    entry = record { aligned = refl; word = omega arith };
    own = own phase entries;
    outside = refl;
    inside = omega (arith, whole);
    known = inl refl;
  }

  pub seen_with_area : IsSeenWithArea (Sees m)
  seen_with_area = (v (Open [] []) [], (sees (Open [] []) [], area (Open [] []) []))

  pub seen_in_pool : IsSeenInPool (Sees m)
  seen_in_pool = (v Drawn [], (sees Drawn [], place Drawn []))

  pub may_put_heap : IsReady (Sees m) (puts 0 heap)
  unfolding IsReady
  may_put_heap = (v (Open [] []) [], (sees (Open [] []) [], (put_lawful (v (Open [] []) []) heap (record { is_open = refl; undrawn = refl; area = area (Open [] []) []; few = omega arith }) (omega arith) refl (enterable_heap (Open [] []) [])).0))

  pub may_put_end : IsReady (Sees m) (puts 1 end)
  unfolding IsReady
  may_put_end = let p = Open [] [] in let es = heap ∷ [] in
      (v p es, (sees p es, (put_lawful (v p es) end (record { is_open = refl; undrawn = refl; area = area p es; few = omega arith }) (omega arith) refl (record { of = inr (inl (refl, refl)); word = λ other. omega arith })).0))

  pub may_log : IsReady (Sees m) (logs (heap ∷ []))
  unfolding IsReady
  may_log = let p = Open [] [] in
      (v p [], (sees p [], (log_lawful (v p []) (heap ∷ []) (record { entering = record { is_open = refl; undrawn = refl; area = area p []; few = omega arith }; none = refl }) (omega arith) (All-cons (MayEnter (v p [])) heap [] (inl (heap_of_pool p [])) (All-nil (MayEnter (v p []))))).0))

  entered : (phase : Phase) → AreEntered (v phase both) both
  entered phase = record {
    front = heap ∷ [];
    are = ap (λ (x : ℕ). let e : Redo = record { place = 4096; op = Set; value = x + 1 } in heap ∷ e ∷ []) (sym generation);
    each = All-cons (MayEnter (v phase both)) heap [] (inl (heap_of_pool phase both)) (All-nil (MayEnter (v phase both)));
    logged = refl;
    most = omega arith;
  }

  pub may_seal : IsReady (Sees m) (seals 2)
  unfolding IsReady
  may_seal = (v Drawn both, (sees Drawn both, (seal_lawful (v Drawn both) both (place Drawn both) refl refl (omega (arith, generation)) (entered Drawn)).0))

  pub may_apply : IsReady (Sees m) (applies both)
  unfolding IsReady
  may_apply = let p = Applying 0 in (v p both, (sees p both, (apply_lawful (v p both) (place p both) both (entered p) refl refl).0))

  -- the lane knows word 1544
  abbrev knowing : View
  knowing = record (v (Applying 0) four) { known = 1544 ∷ [] }

  sees_knowing : Sees m knowing
  sees_knowing = let s = sees (Applying 0) four in record {
    lane = s.lane;
    words = s.words;
    changes = s.changes;
    stop = s.stop;
    calls = s.calls;
    within = s.within;
    numbers = s.numbers;
    count = s.count;
    counter = s.counter;
    lines = s.lines;
    locks = s.locks;
    zone_locks = s.zone_locks;
    runs = s.runs;
    zones = s.zones;
    pages = s.pages;
    zone_count = s.zone_count;
    zone_lock_count = s.zone_lock_count;
    alone = s.alone;
  }

  module _ (empty : slice_index m.words 1544 ≡ 0) where
    known : IsKnownWord knowing 1544
    known = record { known = (0, omega arith, refl); small = omega (arith, empty) }

    front_of_pool : (e : Redo) → e.place ≡ 12352 → e.value < 16 → IsOfPool knowing e
    front_of_pool e here low = record {
      entry = record { aligned = ap (λ n. n % 8) here; word = omega (arith, low) };
      own = subst (λ n. IsTrue (is_written knowing (n / 8))) (sym here) (own (Applying 0) four);
      outside = ap (λ n. is_in_area 0 (n / 8)) here;
      inside = omega (arith, whole, here);
      known = inr (subst (λ n. IsKnownWord knowing (n / 8)) (sym here) known);
    }

    pub may_apply_bits : IsReady (Sees m) (applies four)
    unfolding IsReady
    may_apply_bits = (
      knowing,
      (
        sees_knowing,
        (apply_lawful knowing (let p = place (Applying 0) four in record { lane = p.lane; few = p.few; inside = p.inside }) four (record {
          front = heap ∷ sets_bit ∷ clears_bits ∷ [];
          are = ap (λ (x : ℕ). let e : Redo = record { place = 4096; op = Set; value = x + 1 } in heap ∷ sets_bit ∷ clears_bits ∷ e ∷ []) (sym generation);
          each = All-cons (MayEnter knowing) heap (sets_bit ∷ clears_bits ∷ []) (inl (front_of_pool heap refl (omega arith)))
              (All-cons (MayEnter knowing) sets_bit (clears_bits ∷ []) (inl (front_of_pool sets_bit refl (omega arith)))
              (All-cons (MayEnter knowing) clears_bits [] (inl (front_of_pool clears_bits refl (omega arith))) (All-nil (MayEnter knowing))));
          logged = refl;
          most = omega arith;
        }) refl refl).0,
      ),
    )

  pub may_clear : IsReady (Sees m) clears
  unfolding IsReady
  may_clear = let p = Applying 2 in (v p both, (sees p both, (clear_lawful (v p both) (place p both) refl refl).0))

  pub may_perform : IsReady (Sees m) (performs both)
  unfolding IsReady
  may_perform = (v Drawn both, (sees Drawn both, (perform_lawful (v Drawn both) both (record { place = place Drawn both; drawn = refl; drained = refl; below = omega (arith, generation); entered = entered Drawn })).0))
