-- What survives anywhere in a recovery means what was meant, and can be recovered again.
use Rattle.std.proofs.Common.{◌≡◌, ⊎_elim, ℕ, zero, suc, ◌+◌, ◌-◌, ◌/◌, ◌<◌, ◌≤◌, ◌&&◌, ◌||◌, Bool, false, cond, not, ltb, List, [], ◌∷◌, ◌++◌, length, take, drop, slice_index, None, refl, sym, ◌∙◌, ap, subst, arith}
use Rattle.std.specs.List.{filter, flat_map, range_with_len}
use Rattle.std.proofs.lemmas.Bool.{cases_lt}
use Rattle.std.proofs.lemmas.List.{ext_get_or, take-append-le, take_all}
use Rattle.std.proofs.Math.Seq.{take-append-add}
use Rattle.pm_record.specs.Undo.{undo_of}
use Rattle.pm_record.specs.declared.undo.Undo.{Undo}
use Rattle.pm_objects.specs.declared.pool.PoolView.{PoolView}
use Rattle.pm_image.specs.Logs.{area_word, generation, is_sealed, records, undo_slot}
use Rattle.pm_image.specs.Means.{IsMeaning}
use Rattle.pm_image.proofs.Unsealed.{not_sealed}
use Rattle.pm_view.specs.declared.change.Change.{Change as ChangeOf}
use Rattle.pm_memory.specs.Changes.{changes_of}
use Rattle.pm_memory.specs.Solo.{Solo, opened}
use Rattle.pm_memory.specs.Survivors.{Survives, all_taken_back}
use Rattle.pm_recover.specs.Recovery.{HasNoStrayRecord, generation_after, has_record, is_raised, is_stray}
use Rattle.pm_recover.proofs.Areas.{SameLane, same_after, same_generation, same_records, same_sealed, same_slot, same_torn}
use Rattle.pm_recover.proofs.Slots.{valid_parts}
use Rattle.pm_recover.proofs.Sound.{lanes_of_meaning}
use Rattle.pm_reopen.specs.Plan.{MemoryCall, cleared, lane_plan, log_end, persisted, plan, restores, store_of, strays, writes}
use Rattle.pm_reopen.specs.Premise.{HasNoTornClearing, HasWords, IsRecoverable}
use Rattle.pm_reopen.specs.Running.{MayRemain, after_calls}
use Rattle.pm_reopen.proofs.LaneParts.{drained3, long3, m3}
use Rattle.pm_reopen.proofs.LaneSurvives.{LaneKept, kept_lane, premise_kept}
use Rattle.pm_reopen.proofs.LaneWords.{ended_whole, whole_part}
use Rattle.pm_reopen.proofs.Less.{same_entries}
use Rattle.pm_reopen.proofs.Segments.{after_append, drained_survives, unstopped_after}

-- ---- lanes that are the same have the same plan

same_raised : (X J : List ℕ) (k : ℕ) → SameLane X J k → is_raised X k ≡ is_raised J k
unfolding is_raised has_record
same_raised X J k same =
    let sealed = same_sealed X J k same in
    let recorded : ltb 0 (length (records X k)) ≡ ltb 0 (length (records J k)) = ap (λ (us : List Undo). ltb 0 (length us)) (same_records X J k same) in
    let torn = same_torn X J k same.log in
    let generations = same_generation X J k same in
    (λ j. not (sealed j) && (recorded j || (ltb (generations j) 4611686018427387904 && torn j)))

same_writes : (X J : List ℕ) (k : ℕ) → SameLane X J k → writes X k ≡ writes J k
unfolding writes
same_writes X J k same = (λ j. flat_map restores (same_records X J k same j) ++ same_entries X J k same j)

filter_same : (p q : ℕ → Bool) (a n : ℕ) → ((s : ℕ) → a ≤ s → s < a + n → p s ≡ q s) → filter p (range_with_len a n) ≡ filter q (range_with_len a n)
filter_same p q a zero same = refl
filter_same p q a (suc n) same =
    let here = same a (omega arith) (omega arith) in
    let rest = filter_same p q (a + 1) n (λ s from to. same s (omega (arith, from)) (omega (arith, to))) in
    (λ j. cond (here j) (a ∷ rest j) (rest j))

same_strays : (X J : List ℕ) (k : ℕ) → SameLane X J k → strays X k ≡ strays J k
unfolding strays
same_strays X J k same =
    filter_same (λ slot. is_stray (generation_after X k) (undo_slot X k slot)) (λ slot. is_stray (generation_after J k) (undo_slot J k slot)) 0 64
    (λ slot from to. let few : slot < 64 = omega (arith, to) in let slots = same_slot X J k slot same.log few in let generations = same_after X J k same in (λ j. is_stray (generations j) (slots j)))

same_log_end : (X J : List ℕ) (k : ℕ) → SameLane X J k → log_end X k ≡ log_end J k
unfolding log_end
same_log_end X J k same =
    let sealed = same_sealed X J k same in
    let raised = same_raised X J k same in
    let generations = same_generation X J k same in
    (λ j. cond (sealed j) (store_of (area_word k + 1) 0 ∷ []) (cond (raised j) (store_of (area_word k) (generations j + 1) ∷ []) []))

pub same_plan : (X J : List ℕ) (k : ℕ) → length X ≡ length J → SameLane X J k → lane_plan X k ≡ lane_plan J k
unfolding lane_plan
same_plan X J k long same =
    (λ j. persisted (long j / 8) (same_writes X J k same j) ++ (cleared k (same_strays X J k same j) ++ persisted (long j / 8) (same_log_end X J k same j)))

pub same_then : (X Y Z : List ℕ) (k : ℕ) → SameLane X Y k → SameLane Y Z k → SameLane X Z k
same_then X Y Z k one two = record {
  log = record { long = one.log.long; as_long = two.log.as_long; same = λ i from to. one.log.same i from to ∙ two.log.same i from to };
  generation = one.generation ∙ two.generation;
  seal = one.seal ∙ two.seal;
}

pub same_itself : (X : List ℕ) (k : ℕ) → area_word (k + 1) ≤ length X → SameLane X X k
same_itself X k long = record { log = record { long = long; as_long = long; same = λ i from to. refl }; generation = refl; seal = refl }

-- ---- a memory without undrained changes

self_survives : (m : Solo) → m.changes ≡ [] → Survives m.words (m.changes ∷ []) m.words
self_survives m none = record {
  choice = λ lane w. 0;
  is = record {
    size = refl;
    each = λ w inside. sym (ap (λ (cs : List ChangeOf). all_taken_back (drop 0 (changes_of w cs)) (slice_index m.words w)) none);
  };
}

drained_image : (m : Solo) (J : List ℕ) → m.changes ≡ [] → Survives m.words (m.changes ∷ []) J → m.words ≡ J
drained_image m J none survives =
    ext_get_or 0 m.words J (sym survives.is.size) (λ i near. sym (drained_survives m J i none survives near))

-- ---- lane after lane

-- so many lanes are recovered, and all is persistent
pub record IsReached (image : List ℕ) (pool : PoolView) (k : ℕ) (m : Solo) : Type 0 where
  pub drained : m.changes ≡ []
  pub free : m.stop ≡ None
  pub long : length image ≡ length m.words
  pub recoverable : IsRecoverable m.words pool
  pub unsealed : (lane : ℕ) → lane < k → is_sealed m.words lane ≡ false
  pub same : (lane : ℕ) → k ≤ lane → lane < pool.lanes → SameLane image m.words lane

module _ (image : List ℕ) (pool : PoolView) (k : ℕ) (m : Solo) (r : IsReached image pool k m) (inside : k < pool.lanes) where
  abbrev is : IsMeaning m.words pool
  is = r.recoverable.means

  lanes : is.lanes ≡ pool.lanes
  lanes = lanes_of_meaning m.words pool r.recoverable.means

  near : k < r.recoverable.means.lanes
  near = let same = lanes in omega (arith, same, inside)

  whole : HasNoTornClearing m.words r.recoverable.means.lanes
  whole = subst (HasNoTornClearing m.words) (sym lanes) r.recoverable.whole

  own_plan : lane_plan image k ≡ lane_plan m.words k
  own_plan = same_plan image m.words k r.long (r.same k (omega arith) inside)

  recovered_if : (J : List ℕ) → LaneKept m.words J pool r.recoverable.means.lanes k × HasWords J → IsRecoverable J pool
  recovered_if J kept = record {
    words = kept.1;
    means = kept.0.meaning;
    whole = subst (HasNoTornClearing J) lanes (premise_kept m.words J r.recoverable.means.lanes kept.0.less whole);
  }

  kept_at : (n : ℕ) (J : List ℕ) → Survives (after_calls m (take n (lane_plan m.words k))).words ((after_calls m (take n (lane_plan m.words k))).changes ∷ []) J → LaneKept m.words J pool r.recoverable.means.lanes k × HasWords J
  unfolding lane_plan
  kept_at n J survives = kept_lane m pool r.recoverable.means k near r.drained r.free r.recoverable.words r.unsealed whole n J survives

  pub survives_in : (n : ℕ) (J : List ℕ) → Survives (after_calls m (take n (lane_plan image k))).words ((after_calls m (take n (lane_plan image k))).changes ∷ []) J → IsRecoverable J pool
  survives_in n J survives =
      recovered_if J (kept_at n J (subst (λ (cs : List MemoryCall). Survives (after_calls m (take n cs)).words ((after_calls m (take n cs)).changes ∷ []) J) own_plan survives))

  abbrev next : Solo
  next = after_calls m (lane_plan m.words k)

  three : after_calls m (lane_plan m.words k) ≡ m3 m pool r.recoverable.means k near r.drained r.free r.recoverable.words
  three = whole_part m pool r.recoverable.means k near r.drained r.free r.recoverable.words

  next_drained : next.changes ≡ []
  next_drained = ap (λ (x : Solo). x.changes) three ∙ drained3 m pool r.recoverable.means k near r.drained r.free r.recoverable.words

  next_kept : LaneKept m.words next.words pool r.recoverable.means.lanes k × HasWords next.words
  next_kept =
      let calls : List MemoryCall = lane_plan m.words k in
      kept_at (length (lane_plan m.words k)) next.words
      (subst (λ (cs : List MemoryCall). Survives (after_calls m cs).words ((after_calls m cs).changes ∷ []) next.words) (sym (take_all (length (lane_plan m.words k)) (lane_plan m.words k) (omega arith)))
      (self_survives next next_drained))

  reached_here : IsReached image pool (k + 1) (after_calls m (lane_plan m.words k))
  reached_here = record {
    drained = next_drained;
    free = unstopped_after m (lane_plan m.words k) r.free;
    long = r.long ∙ sym (ap (λ (x : Solo). length x.words) three ∙ long3 m pool r.recoverable.means k near r.drained r.free r.recoverable.words);
    recoverable = recovered_if next.words next_kept;
    unsealed = λ lane low. ⊎_elim
        (λ (before : lane < k). let same = lanes in sym (same_sealed m.words next.words lane (next_kept.0.others lane (omega (arith, before, near)) (λ at. omega (arith, at, before)))) ∙ r.unsealed lane before)
        (λ (last : k ≤ lane).
        let here : k ≡ lane = omega (arith, low, last) in
        subst (λ (l : ℕ). is_sealed next.words l ≡ false) here
        (ap (λ (x : Solo). is_sealed x.words k) three ∙ not_sealed (m3 m pool r.recoverable.means k near r.drained r.free r.recoverable.words).words k (ended_whole m pool r.recoverable.means k near r.drained r.free r.recoverable.words).seal))
        (cases_lt lane k);
    same = λ lane from to. let same = lanes in
        same_then image m.words next.words lane (r.same lane (omega (arith, from)) to) (next_kept.0.others lane (omega (arith, to, same)) (λ at. omega (arith, at, from)));
  }

  pub reached_next : IsReached image pool (k + 1) (after_calls m (lane_plan image k))
  reached_next = subst (λ (cs : List MemoryCall). IsReached image pool (k + 1) (after_calls m cs)) (sym own_plan) reached_here

survives_from : (image : List ℕ) (pool : PoolView) (k count : ℕ) (m : Solo) → IsReached image pool k m → k + count ≡ pool.lanes → (n : ℕ) (J : List ℕ)
    → Survives (after_calls m (take n (flat_map (lane_plan image) (range_with_len k count)))).words ((after_calls m (take n (flat_map (lane_plan image) (range_with_len k count)))).changes ∷ []) J → IsRecoverable J pool
unfolding after_calls
survives_from image pool k zero m r all n J survives =
    let calls : take n (flat_map (lane_plan image) (range_with_len k 0)) ≡ [] = take_all n [] (omega arith) in
    subst (λ (ws : List ℕ). IsRecoverable ws pool) (drained_image m J r.drained (subst (λ (cs : List MemoryCall). Survives (after_calls m cs).words ((after_calls m cs).changes ∷ []) J) calls survives)) r.recoverable
survives_from image pool k (suc count) m r all n J survives =
    let here : List MemoryCall = lane_plan image k in
    let rest : List MemoryCall = flat_map (lane_plan image) (range_with_len (k + 1) count) in
    let inside : k < pool.lanes = omega (arith, all) in
    ⊎_elim
    (λ (past : length (lane_plan image k) < n).
    let q : ℕ = n - length (lane_plan image k) in
    let whole_n : n ≡ length (lane_plan image k) + (n - length (lane_plan image k)) = omega (arith, past) in
    let calls : take n (lane_plan image k ++ flat_map (lane_plan image) (range_with_len (k + 1) count)) ≡ lane_plan image k ++ take (n - length (lane_plan image k)) (flat_map (lane_plan image) (range_with_len (k + 1) count)) =
    ap (λ (i : ℕ). take i (lane_plan image k ++ flat_map (lane_plan image) (range_with_len (k + 1) count))) whole_n ∙ take-append-add (lane_plan image k) (flat_map (lane_plan image) (range_with_len (k + 1) count)) (n - length (lane_plan image k)) in
    let memory = ap (after_calls m) calls ∙ after_append m (lane_plan image k) (take (n - length (lane_plan image k)) (flat_map (lane_plan image) (range_with_len (k + 1) count))) in
    survives_from image pool (k + 1) count (after_calls m (lane_plan image k)) (reached_next image pool k m r inside) (omega (arith, all)) (n - length (lane_plan image k)) J
    (subst (λ (x : Solo). Survives x.words (x.changes ∷ []) J) memory survives))
    (λ (within : n ≤ length (lane_plan image k)).
    survives_in image pool k m r inside n J
    (subst (λ (cs : List MemoryCall). Survives (after_calls m cs).words ((after_calls m cs).changes ∷ []) J) (take-append-le n (lane_plan image k) (flat_map (lane_plan image) (range_with_len (k + 1) count)) within) survives))
    (cases_lt (length (lane_plan image k)) n)

pub recovered_again : (image left : List ℕ) (pool : PoolView) (made : ℕ) → IsRecoverable image pool → MayRemain image pool.lanes made left → IsRecoverable left pool
unfolding plan
recovered_again image left pool made r survives =
    survives_from image pool 0 pool.lanes (opened image None)
    (record {
      drained = refl;
      free = refl;
      long = refl;
      recoverable = r;
      unsealed = λ lane low. absurd (omega (arith, low));
      same = λ lane from to. same_itself image lane (let long = (Rattle.pm_recover.proofs.Sound.sound_if_meaning image pool r.means).has_lanes.areas in omega (arith, long, to));
    })
    (omega arith) made left survives

-- ---- an image without stray records

pub recoverable_if_none : (image : List ℕ) (pool : PoolView) → HasWords image → IsMeaning image pool → HasNoStrayRecord image pool.lanes → IsRecoverable image pool
recoverable_if_none image pool words means none = record {
  words = words;
  means = means;
  whole = record {
    whole = λ lane slot u left inside few sealed valid partly sum first.
        let parts = valid_parts (generation image lane) (undo_of (undo_slot image lane slot)) u valid in
        let old = none.sealed lane slot u inside few parts.0 sealed in
        let same = parts.1 in
        absurd (omega (arith, old, same));
  };
}
