-- The words that a lane's part of the plan leaves: what is cleared, and how the log ends.
use Rattle.std.proofs.Common.{◌≡◌, ◌≢◌, ◌⊎◌, ⊎_elim, inl, inr, ℕ, ◌+◌, ◌*◌, ◌/◌, ◌^◌, ◌<◌, ◌≤◌, ◌||◌, Bool, true, false, cond, eqb, All, List, [], ◌∷◌, ◌++◌, length, take, slice_index, None, refl, sym, ◌∙◌, ap, subst, arith}
use Rattle.std.proofs.lemmas.Bool.{cases_Bool, cases_eq, cases_lt, eq-eqb, false≢true, ne_eqb}
use Rattle.std.proofs.lemmas.List.{get_or_past, take_all}
use Rattle.std.proofs.lemmas.List.Elements.{All-cons, All-filter, All-nil, All-take, All-weaker}
use Rattle.pm_record.specs.declared.redo.Redo.{Redo}
use Rattle.pm_objects.specs.declared.pool.PoolView.{PoolView}
use Rattle.pm_image.specs.Logs.{all_applied, area_word, generation, generation_word, is_sealed, seal_word, slot_line, undo_slot}
use Rattle.pm_image.specs.Means.{IsMeaning}
use Rattle.pm_memory.specs.Solo.{Solo}
use Rattle.pm_recover.specs.Recovery.{IsOfSlot, generation_after, is_raised, is_stray, without_stray}
use Rattle.pm_recover.proofs.Clean.{after_kept, after_raised}
use Rattle.pm_recover.proofs.Slots.{generation_unsealed}
use Rattle.pm_recover.proofs.Strays.{cleared_slot as stray_gone, kept_slot, slot_cleared, slot_kept}
use Rattle.pm_reopen.specs.Plan.{cleared, lane_plan, log_end, persisted, store_of, strays, writes}
use Rattle.pm_reopen.specs.Premise.{HasWords}
use Rattle.pm_reopen.specs.Running.{after_calls}
use Rattle.pm_reopen.proofs.Again.{IsWord, applied_fits}
use Rattle.pm_reopen.proofs.Beside.{IsBeside}
use Rattle.pm_reopen.proofs.Cleared.{Stores, as_it_was_or, clears_store, is_stored, not_touched, others_missed, stray_touched, touches}
use Rattle.pm_reopen.proofs.LaneParts.{all3, long1, long2, long3, m1, m2, m3, small, small2, words1, words2, words3}
use Rattle.pm_reopen.proofs.LogEnds.{ends_nothing, ends_raised, ends_sealed}
use Rattle.pm_reopen.proofs.LogHead.{log_ends_touch, sealed_not_raised, zero_seal}
use Rattle.pm_reopen.proofs.Phase1.{entry_row, rows, size, targets}
use Rattle.pm_reopen.proofs.Phase2.{IsClearing, IsStraySlot}
use Rattle.pm_reopen.proofs.Phase3.{IsEnded}
use Rattle.pm_reopen.proofs.Phases.{IsInside}
use Rattle.pm_reopen.proofs.Segments.{after_append, clears}
use Rattle.pm_reopen.proofs.Surviving.{IsPartlyWritten, for_word}
use Rattle.pm_reopen.proofs.While.{IsHeap, IsTarget, own_word, untouched}

-- ---- words stay words

pub words_partly : (n : ℕ) (es : List Redo) (ws left : List ℕ) → All (IsInside n) es → ((w : ℕ) → w < length ws → slice_index ws w < 2 ^ 64) → IsPartlyWritten es ws left → HasWords left
words_partly n es ws left all small part i = ⊎_elim
    (λ (inside : i < length ws).
    let some = part.each i inside in
    subst (λ (x : ℕ). x < 2 ^ 64) (sym some.1)
    (applied_fits (take some.0 (for_word i es)) (slice_index ws i) (All-take IsWord some.0 (for_word i es) (All-filter (λ (e : Redo). eqb (e.place / 8) i) IsWord es (All-weaker (IsInside n) IsWord (λ e both. both.1) es all))) (small i inside)))
    (λ (past : length ws ≤ i). let long = part.as_long in subst (λ (x : ℕ). x < 2 ^ 64) (sym (get_or_past left i 0 (omega (arith, past, long)))) (omega arith))
    (cases_lt i (length ws))

module _ (m : Solo) (pool : PoolView) (is : IsMeaning m.words pool) (k : ℕ) (near : k < is.lanes) (none : m.changes ≡ []) (free : m.stop ≡ None) (words : HasWords m.words) where
  all_words : 512 + 1024 * is.lanes + 33280 * is.zones ≡ length m.words
  all_words = size m.words pool is k near

  -- ---- from what is partly written

  abbrev C : List Redo
  C = clears k (strays m.words k)

  pub clearing_from : (J : List ℕ) → IsPartlyWritten C (m1 m pool is k near none free words).words J → IsClearing m.words J k
  clearing_from J part =
      let long = long1 m pool is k near none free words in
      record {
        as_long = part.as_long ∙ long;
        kept = λ w inside out.
            let some = part.each w (omega (arith, inside, long)) in
            let no_clear : for_word w C ≡ [] = not_touched C w (others_missed m.words k w out) in
            some.1 ∙ ap (λ (es : List Redo). all_applied (take some.0 es) (slice_index (m1 m pool is k near none free words).words w)) no_clear
            ∙ ap (λ (es : List Redo). all_applied es (slice_index (m1 m pool is k near none free words).words w)) (take_all some.0 [] (omega arith))
            ∙ words1 m pool is k near none free words w inside;
        either = λ w inside.
            let some = part.each w (omega (arith, inside, long)) in
            ⊎_elim
            (λ (same : all_applied (take some.0 (for_word w C)) (slice_index (m1 m pool is k near none free words).words w) ≡ slice_index (m1 m pool is k near none free words).words w).
            inl (some.1 ∙ same ∙ words1 m pool is k near none free words w inside))
            (λ (zero_is : all_applied (take some.0 (for_word w C)) (slice_index (m1 m pool is k near none free words).words w) ≡ 0). inr (some.1 ∙ zero_is))
            (as_it_was_or C w 0 some.0 (slice_index (m1 m pool is k near none free words).words w) (clears_store k (strays m.words k) w));
      }

  -- the words once all is cleared
  cleared_word : (w : ℕ) → w < length m.words → ((slot : ℕ) → slot < 64 → IsStraySlot m.words k slot → IsOfSlot k slot w → ⊥) → slice_index (m2 m pool is k near none free words).words w ≡ all_applied (for_word w (writes m.words k)) (slice_index m.words w)
  cleared_word w inside out =
      words2 m pool is k near none free words w inside
      ∙ ap (λ (es : List Redo). all_applied es (slice_index (m1 m pool is k near none free words).words w)) (not_touched C w (others_missed m.words k w out))
      ∙ words1 m pool is k near none free words w inside

  zero_word : (w slot : ℕ) → w < length m.words → slot < 64 → IsStraySlot m.words k slot → IsOfSlot k slot w → slice_index (m2 m pool is k near none free words).words w ≡ 0
  zero_word w slot inside few stray of =
      words2 m pool is k near none free words w inside
      ∙ is_stored C w 0 (slice_index (m1 m pool is k near none free words).words w) (clears_store k (strays m.words k) w) (stray_touched m.words k w slot few stray of)

  cleared_either : (w : ℕ) → w < length m.words → (slice_index (m2 m pool is k near none free words).words w ≡ all_applied (for_word w (writes m.words k)) (slice_index m.words w)) ⊎ (slice_index (m2 m pool is k near none free words).words w ≡ 0)
  cleared_either w inside = go (touches w C) refl where
    go : (b : Bool) → touches w C ≡ b → (slice_index (m2 m pool is k near none free words).words w ≡ all_applied (for_word w (writes m.words k)) (slice_index m.words w)) ⊎ (slice_index (m2 m pool is k near none free words).words w ≡ 0)
    go true some = inr (words2 m pool is k near none free words w inside ∙ is_stored C w 0 (slice_index (m1 m pool is k near none free words).words w) (clears_store k (strays m.words k) w) some)
    go false miss = inl (words2 m pool is k near none free words w inside ∙ ap (λ (es : List Redo). all_applied es (slice_index (m1 m pool is k near none free words).words w)) (not_touched C w miss) ∙ words1 m pool is k near none free words w inside)

  -- an image with the words of m2
  clearing_as : (J : List ℕ) → length J ≡ length m.words → ((w : ℕ) → w < length m.words → slice_index J w ≡ slice_index (m2 m pool is k near none free words).words w) → IsClearing m.words J k
  clearing_as J long same = record {
    as_long = long;
    kept = λ w inside out. same w inside ∙ cleared_word w inside out;
    either = λ w inside. ⊎_elim
        (λ (done : slice_index (m2 m pool is k near none free words).words w ≡ all_applied (for_word w (writes m.words k)) (slice_index m.words w)). inl (same w inside ∙ done))
        (λ (gone : slice_index (m2 m pool is k near none free words).words w ≡ 0). inr (same w inside ∙ gone))
        (cleared_either w inside);
  }

  -- and an image with these but for one word of the log's head
  slots_as : (J : List ℕ) (t : ℕ) → t < area_word k + 2 → length J ≡ length m.words → ((w : ℕ) → w < length m.words → w ≢ t → slice_index J w ≡ slice_index (m2 m pool is k near none free words).words w)
      → (slot : ℕ) → slot < 64 → undo_slot J k slot ≡ without_stray (generation_after m.words k) (undo_slot m.words k slot)
  slots_as J t head long same slot few = ⊎_elim
      (λ (stray : is_stray (generation_after m.words k) (undo_slot m.words k slot) ≡ true).
      let all = all_words in
      slot_cleared J k slot (omega (arith, all, near, few, long)) (λ j low.
      same (8 * slot_line k slot + j) (omega (arith, all, near, few, low)) (λ at. omega (arith, at, head)) ∙ zero_word (8 * slot_line k slot + j) slot (omega (arith, all, near, few, low)) few stray (omega arith, omega (arith, low)))
      ∙ sym (stray_gone (generation_after m.words k) (undo_slot m.words k slot) stray))
      (λ (keeps : is_stray (generation_after m.words k) (undo_slot m.words k slot) ≡ false).
      let all = all_words in
      slot_kept m.words J k slot long (omega (arith, all, near, few)) (λ i of.
      let from = of.0 in let to = of.1 in
      same i (omega (arith, all, near, few, to)) (λ at. omega (arith, at, head, from))
      ∙ cleared_word i (omega (arith, all, near, few, to)) (λ other few_other stray at.
      let low = at.0 in let high = at.1 in
      let number : other ≡ slot = omega (arith, from, to, low, high) in
      false≢true (sym keeps ∙ subst (IsStraySlot m.words k) number stray))
      ∙ ap (λ (es : List Redo). all_applied es (slice_index m.words i)) (untouched m.words is.lanes k i (writes m.words k) (targets m.words pool is k near) (λ heap. ⊎_elim (λ (root : i ≡ 64). omega (arith, root, from)) (λ (behind : 512 + 1024 * is.lanes ≤ i). omega (arith, behind, near, to, few)) heap) (λ at. omega (arith, at, from))))
      ∙ sym (kept_slot (generation_after m.words k) (undo_slot m.words k slot) keeps))
      (cases_Bool (is_stray (generation_after m.words k) (undo_slot m.words k slot)))

  -- ---- the end of the log

  one_store : (t v : ℕ) (J : List ℕ) → IsPartlyWritten (store_of t v ∷ []) (m2 m pool is k near none free words).words J → (w : ℕ) → w < length m.words → w ≢ t → slice_index J w ≡ slice_index (m2 m pool is k near none free words).words w
  one_store t v J part w inside other =
      let long = long2 m pool is k near none free words in
      let some = part.each w (omega (arith, inside, long)) in
      let miss : for_word w (store_of t v ∷ []) ≡ [] = ap (λ (b : Bool). cond b (store_of t v ∷ []) []) (ne_eqb (8 * t / 8) w (λ same. other (omega (arith, same)))) in
      some.1 ∙ ap (λ (es : List Redo). all_applied (take some.0 es) (slice_index (m2 m pool is k near none free words).words w)) miss
      ∙ ap (λ (es : List Redo). all_applied es (slice_index (m2 m pool is k near none free words).words w)) (take_all some.0 [] (omega arith))

  at_store : (t v : ℕ) (J : List ℕ) → t < length m.words → IsPartlyWritten (store_of t v ∷ []) (m2 m pool is k near none free words).words J → (slice_index J t ≡ slice_index (m2 m pool is k near none free words).words t) ⊎ (slice_index J t ≡ v)
  at_store t v J inside part =
      let long = long2 m pool is k near none free words in
      let some = part.each t (omega (arith, inside, long)) in
      ⊎_elim
      (λ (same : all_applied (take some.0 (for_word t (store_of t v ∷ []))) (slice_index (m2 m pool is k near none free words).words t) ≡ slice_index (m2 m pool is k near none free words).words t). inl (some.1 ∙ same))
      (λ (last : all_applied (take some.0 (for_word t (store_of t v ∷ []))) (slice_index (m2 m pool is k near none free words).words t) ≡ v). inr (some.1 ∙ last))
      (as_it_was_or (store_of t v ∷ []) t v some.0 (slice_index (m2 m pool is k near none free words).words t) (All-cons (Stores t v) (store_of t v) [] (λ at. (refl, refl)) (All-nil (Stores t v))))

  no_slot_beside : (w : ℕ) → IsBeside k w → (slot : ℕ) → slot < 64 → IsStraySlot m.words k slot → IsOfSlot k slot w → ⊥
  no_slot_beside w (inl low) slot few stray of = let from = of.0 in omega (arith, low, from)
  no_slot_beside w (inr high) slot few stray of = let to = of.1 in omega (arith, high, to, few)

  no_slot_head : (w : ℕ) → w < area_word k + 2 → (slot : ℕ) → slot < 64 → IsStraySlot m.words k slot → IsOfSlot k slot w → ⊥
  no_slot_head w low slot few stray of = let from = of.0 in omega (arith, low, from)

  -- the words of the log's head once all is cleared
  seal_stays : slice_index (m2 m pool is k near none free words).words (area_word k + 1) ≡ seal_word m.words k
  seal_stays =
      let all = all_words in
      cleared_word (area_word k + 1) (omega (arith, all, near)) (no_slot_head (area_word k + 1) (omega arith))
      ∙ ap (λ (es : List Redo). all_applied es (slice_index m.words (area_word k + 1))) (untouched m.words is.lanes k (area_word k + 1) (writes m.words k) (targets m.words pool is k near) (λ heap. ⊎_elim (λ (root : area_word k + 1 ≡ 64). omega (arith, root)) (λ (behind : 512 + 1024 * is.lanes ≤ area_word k + 1). omega (arith, behind, near)) heap) (λ at. omega (arith, at)))

  targets_store : (es : List Redo) → All (IsTarget m.words is.lanes k) es → All (Stores (area_word k) (generation m.words k)) es
  targets_store es all =
      All-weaker (IsTarget m.words is.lanes k) (Stores (area_word k) (generation m.words k)) (λ e target at. ⊎_elim
      (λ (heap : IsHeap is.lanes (e.place / 8)). absurd (not_heap (subst (IsHeap is.lanes) at heap)))
      (λ (own : (e.place / 8 ≡ area_word k) × ((e.op ≡ Rattle.pm_record.specs.declared.redo.Op.TheVariants.Set) × (e.value ≡ generation m.words k))). own.1)
      target) es all where
        not_heap : IsHeap is.lanes (area_word k) → ⊥
        not_heap (inl root) = omega (arith, root)
        not_heap (inr behind) = omega (arith, behind, near)

  generation_ends : is_sealed m.words k ≡ true → slice_index (m2 m pool is k near none free words).words (area_word k) ≡ generation m.words k
  generation_ends sealed =
      let all = all_words in
      cleared_word (area_word k) (omega (arith, all, near)) (no_slot_head (area_word k) (omega arith))
      ∙ is_stored (writes m.words k) (area_word k) (generation m.words k) (slice_index m.words (area_word k)) (targets_store (writes m.words k) (targets m.words pool is k near))
      (log_ends_touch m.words is.lanes is.zones k sealed (entry_row m.words pool is k near))

  ended_each : (J : List ℕ) (t : ℕ) → t < area_word k + 2 → area_word k ≤ t → ((w : ℕ) → w < length m.words → w ≢ t → slice_index J w ≡ slice_index (m2 m pool is k near none free words).words w)
      → (w : ℕ) → w < length m.words → IsBeside k w → slice_index J w ≡ all_applied (for_word w (writes m.words k)) (slice_index m.words w)
  ended_each J t head from same w inside beside =
      same w inside (λ at. ⊎_elim (λ (low : w < area_word k). omega (arith, at, low, from)) (λ (high : area_word (k + 1) ≤ w). omega (arith, at, high, head)) beside)
      ∙ cleared_word w inside (no_slot_beside w beside)

  ended_by : (J : List ℕ) (t : ℕ) → area_word k ≤ t → t < area_word k + 2 → length J ≡ length m.words
      → ((w : ℕ) → w < length m.words → w ≢ t → slice_index J w ≡ slice_index (m2 m pool is k near none free words).words w)
      → generation_word J k ≡ generation_after m.words k → seal_word J k ≡ 0 → IsEnded m.words J k
  ended_by J t from head long others generation_is seal = record {
    as_long = long;
    each = ended_each J t head from others;
    generation_is = generation_is;
    seal = seal;
    slots = slots_as J t head long others;
  }

  pub ended_from : (J : List ℕ) → IsPartlyWritten (log_end m.words k) (m2 m pool is k near none free words).words J → IsClearing m.words J k ⊎ IsEnded m.words J k
  ended_from J part =
      let all = all_words in
      let long : length J ≡ length m.words = part.as_long ∙ long2 m pool is k near none free words in
      ⊎_elim
      (λ (sealed : is_sealed m.words k ≡ true).
      let t : ℕ = area_word k + 1 in
      let one : IsPartlyWritten (store_of (area_word k + 1) 0 ∷ []) (m2 m pool is k near none free words).words J = subst (λ (es : List Redo). IsPartlyWritten es (m2 m pool is k near none free words).words J) (ends_sealed m.words k sealed) part in
      let others = one_store (area_word k + 1) 0 J one in
      ⊎_elim
      (λ (same : slice_index J (area_word k + 1) ≡ slice_index (m2 m pool is k near none free words).words (area_word k + 1)). inl (clearing_as J long (everywhere J (area_word k + 1) others same)))
      (λ (stored : slice_index J (area_word k + 1) ≡ 0). inr (ended_by J (area_word k + 1) (omega arith) (omega arith) long others
      (others (area_word k) (omega (arith, all, near)) (λ at. omega (arith, at)) ∙ generation_ends sealed ∙ sym (after_kept m.words k (sealed_not_raised m.words k sealed))) stored))
      (at_store (area_word k + 1) 0 J (omega (arith, all, near)) one))
      (λ (open_log : is_sealed m.words k ≡ false). ⊎_elim
      (λ (raised : is_raised m.words k ≡ true).
      let one : IsPartlyWritten (store_of (area_word k) (generation m.words k + 1) ∷ []) (m2 m pool is k near none free words).words J = subst (λ (es : List Redo). IsPartlyWritten es (m2 m pool is k near none free words).words J) (ends_raised m.words k open_log raised) part in
      let others = one_store (area_word k) (generation m.words k + 1) J one in
      ⊎_elim
      (λ (same : slice_index J (area_word k) ≡ slice_index (m2 m pool is k near none free words).words (area_word k)). inl (clearing_as J long (everywhere J (area_word k) others same)))
      (λ (stored : slice_index J (area_word k) ≡ generation m.words k + 1). inr (ended_by J (area_word k) (omega arith) (omega arith) long others (stored ∙ sym (after_raised m.words k raised))
      (others (area_word k + 1) (omega (arith, all, near)) (λ at. omega (arith, at)) ∙ seal_stays ∙ zero_seal m.words k open_log ((rows m.words pool is k near).lane_row k near))))
      (at_store (area_word k) (generation m.words k + 1) J (omega (arith, all, near)) one))
      (λ (kept : is_raised m.words k ≡ false).
      let nothing : IsPartlyWritten [] (m2 m pool is k near none free words).words J = subst (λ (es : List Redo). IsPartlyWritten es (m2 m pool is k near none free words).words J) (ends_nothing m.words k open_log kept) part in
      let two = long2 m pool is k near none free words in
      inl (clearing_as J long (λ w inside. let some = nothing.each w (omega (arith, inside, two)) in some.1 ∙ ap (λ (es : List Redo). all_applied es (slice_index (m2 m pool is k near none free words).words w)) (take_all some.0 [] (omega arith)))))
      (cases_Bool (is_raised m.words k)))
      (cases_Bool (is_sealed m.words k)) where
        everywhere : (I : List ℕ) (t : ℕ) → ((w : ℕ) → w < length m.words → w ≢ t → slice_index I w ≡ slice_index (m2 m pool is k near none free words).words w) → slice_index I t ≡ slice_index (m2 m pool is k near none free words).words t
            → (w : ℕ) → w < length m.words → slice_index I w ≡ slice_index (m2 m pool is k near none free words).words w
        everywhere I t others same w inside = ⊎_elim
            (λ (at : w ≡ t). ap (slice_index I) at ∙ same ∙ sym (ap (slice_index (m2 m pool is k near none free words).words) at))
            (λ (other : w ≢ t). others w inside other)
            (cases_eq w t)

  -- ---- the whole part

  abbrev M2 : Solo
  M2 = m2 m pool is k near none free words

  abbrev M3 : Solo
  M3 = m3 m pool is k near none free words

  pub whole_part : after_calls m (lane_plan m.words k) ≡ m3 m pool is k near none free words
  unfolding lane_plan
  whole_part =
      after_append m (persisted (length m.words / 8) (writes m.words k)) (cleared k (strays m.words k) ++ persisted (length m.words / 8) (log_end m.words k))
      ∙ after_append (after_calls m (persisted (length m.words / 8) (writes m.words k))) (cleared k (strays m.words k)) (persisted (length m.words / 8) (log_end m.words k))

  end_written : IsPartlyWritten (log_end m.words k) M2.words M3.words
  end_written =
      let two = long2 m pool is k near none free words in
      record {
        as_long = long3 m pool is k near none free words ∙ sym two;
        each = λ w inside.
            let es : List Redo = for_word w (log_end m.words k) in
            (length es, words3 m pool is k near none free words w (omega (arith, inside, two)) ∙ ap (λ (fs : List Redo). all_applied fs (slice_index M2.words w)) (sym (take_all (length es) es (omega arith))));
      }

  pub words_whole : HasWords (m3 m pool is k near none free words).words
  words_whole = words_partly (length M2.words) (log_end m.words k) M2.words M3.words (all3 m pool is k near none free words) (small2 m pool is k near none free words) end_written

  -- where the log's end is one store
  stored_others : (t v : ℕ) → log_end m.words k ≡ store_of t v ∷ [] → (w : ℕ) → w < length m.words → w ≢ t → slice_index M3.words w ≡ slice_index M2.words w
  stored_others t v end w inside other =
      words3 m pool is k near none free words w inside
      ∙ ap (λ (es : List Redo). all_applied (for_word w es) (slice_index M2.words w)) end
      ∙ ap (λ (b : Bool). all_applied (cond b (store_of t v ∷ []) []) (slice_index M2.words w)) (ne_eqb (8 * t / 8) w (λ same. other (omega (arith, same))))

  stored_there : (t v : ℕ) → log_end m.words k ≡ store_of t v ∷ [] → t < length m.words → slice_index M3.words t ≡ v
  stored_there t v end inside =
      words3 m pool is k near none free words t inside
      ∙ ap (λ (es : List Redo). all_applied (for_word t es) (slice_index M2.words t)) end
      ∙ is_stored (store_of t v ∷ []) t v (slice_index M2.words t) (All-cons (Stores t v) (store_of t v) [] (λ at. (refl, refl)) (All-nil (Stores t v)))
      (ap (λ (b : Bool). b || false) (eq-eqb (8 * t / 8) t (omega arith)))

  -- where it is nothing
  kept_all : log_end m.words k ≡ [] → (w : ℕ) → w < length m.words → slice_index M3.words w ≡ slice_index M2.words w
  kept_all end w inside =
      words3 m pool is k near none free words w inside ∙ ap (λ (es : List Redo). all_applied (for_word w es) (slice_index M2.words w)) end

  -- the words of the log's head, where the lane is not sealed
  open_generation : is_sealed m.words k ≡ false → slice_index M2.words (area_word k) ≡ generation m.words k
  open_generation open_log =
      let all = all_words in
      let es : List Redo = for_word (area_word k) (writes m.words k) in
      let x : ℕ = slice_index m.words (area_word k) in
      cleared_word (area_word k) (omega (arith, all, near)) (no_slot_head (area_word k) (omega arith))
      ∙ ap (λ (fs : List Redo). all_applied fs x) (sym (take_all (length es) es (omega arith)))
      ∙ ⊎_elim
      (λ (same : all_applied (take (length es) es) x ≡ x). same ∙ sym (generation_unsealed m.words k open_log))
      (λ (last : all_applied (take (length es) es) x ≡ generation m.words k). last)
      (own_word m.words is.lanes k (writes m.words k) (length es) x near (targets m.words pool is k near))

  open_seal : is_sealed m.words k ≡ false → slice_index M2.words (area_word k + 1) ≡ 0
  open_seal open_log = seal_stays ∙ zero_seal m.words k open_log ((rows m.words pool is k near).lane_row k near)

  -- the log is ended
  pub ended_whole : IsEnded m.words (m3 m pool is k near none free words).words k
  ended_whole =
      let all = all_words in
      let long = long3 m pool is k near none free words in
      ⊎_elim
      (λ (sealed : is_sealed m.words k ≡ true).
      let others = stored_others (area_word k + 1) 0 (ends_sealed m.words k sealed) in
      ended_by M3.words (area_word k + 1) (omega arith) (omega arith) long others
      (others (area_word k) (omega (arith, all, near)) (λ at. omega (arith, at)) ∙ generation_ends sealed ∙ sym (after_kept m.words k (sealed_not_raised m.words k sealed)))
      (stored_there (area_word k + 1) 0 (ends_sealed m.words k sealed) (omega (arith, all, near))))
      (λ (open_log : is_sealed m.words k ≡ false). ⊎_elim
      (λ (raised : is_raised m.words k ≡ true).
      let others = stored_others (area_word k) (generation m.words k + 1) (ends_raised m.words k open_log raised) in
      ended_by M3.words (area_word k) (omega arith) (omega arith) long others
      (stored_there (area_word k) (generation m.words k + 1) (ends_raised m.words k open_log raised) (omega (arith, all, near)) ∙ sym (after_raised m.words k raised))
      (others (area_word k + 1) (omega (arith, all, near)) (λ at. omega (arith, at)) ∙ open_seal open_log))
      (λ (kept : is_raised m.words k ≡ false).
      let same = kept_all (ends_nothing m.words k open_log kept) in
      ended_by M3.words (area_word k) (omega arith) (omega arith) long (λ w inside other. same w inside)
      (same (area_word k) (omega (arith, all, near)) ∙ open_generation open_log ∙ sym (after_kept m.words k kept))
      (same (area_word k + 1) (omega (arith, all, near)) ∙ open_seal open_log))
      (cases_Bool (is_raised m.words k)))
      (cases_Bool (is_sealed m.words k))

  -- the end of the log changes its head alone
  head_alone : (w : ℕ) → w < length m.words → w ≢ area_word k → w ≢ area_word k + 1 → slice_index M3.words w ≡ slice_index M2.words w
  head_alone w inside one two = ⊎_elim
      (λ (sealed : is_sealed m.words k ≡ true). stored_others (area_word k + 1) 0 (ends_sealed m.words k sealed) w inside two)
      (λ (open_log : is_sealed m.words k ≡ false). ⊎_elim
      (λ (raised : is_raised m.words k ≡ true). stored_others (area_word k) (generation m.words k + 1) (ends_raised m.words k open_log raised) w inside one)
      (λ (kept : is_raised m.words k ≡ false). kept_all (ends_nothing m.words k open_log kept) w inside)
      (cases_Bool (is_raised m.words k)))
      (cases_Bool (is_sealed m.words k))

  -- beside its head and its stray slots the lane's area is as it was
  pub rest_whole : (i : ℕ) → area_word k + 1 < i → i < area_word (k + 1) → ((slot : ℕ) → slot < 64 → IsOfSlot k slot i → ⊥)
      → slice_index (m3 m pool is k near none free words).words i ≡ slice_index m.words i
  rest_whole i from to out =
      let all = all_words in
      head_alone i (omega (arith, all, near, to)) (λ at. omega (arith, at, from)) (λ at. omega (arith, at, from))
      ∙ cleared_word i (omega (arith, all, near, to)) (λ slot few stray of. out slot few of)
      ∙ ap (λ (es : List Redo). all_applied es (slice_index m.words i))
      (untouched m.words is.lanes k i (writes m.words k) (targets m.words pool is k near) (λ heap. ⊎_elim (λ (root : i ≡ 64). omega (arith, root, from)) (λ (behind : 512 + 1024 * is.lanes ≤ i). omega (arith, behind, near, to)) heap) (λ at. omega (arith, at, from)))
