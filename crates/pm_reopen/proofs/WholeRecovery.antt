-- A recovery that is not stopped leaves the recovered image, whatever torn clearings might say.
use Rattle.std.proofs.Common.{◌≡◌, ◌≢◌, ⊎_elim, inl, inr, ℕ, zero, suc, ◌+◌, ◌-◌, ◌*◌, ◌/◌, ◌%◌, ◌<◌, ◌≤◌, false, List, [], length, slice_index, None, refl, sym, ◌∙◌, ap, subst, arith}
use Rattle.std.specs.List.{flat_map, range_with_len}
use Rattle.std.proofs.lemmas.Bool.{cases_eq, cases_lt}
use Rattle.std.proofs.lemmas.List.{ext_get_or, get_or_past}
use Rattle.pm_record.specs.Undo.{undo_of}
use Rattle.pm_objects.specs.declared.pool.PoolView.{PoolView}
use Rattle.pm_image.specs.Logs.{area_word, generation_word, is_sealed, recovered, recovered_at, seal_word, slot_line, undo_slot}
use Rattle.pm_image.specs.Means.{IsMeaning}
use Rattle.pm_image.proofs.InPlace.{recovered_in_place}
use Rattle.pm_image.proofs.Unsealed.{not_sealed}
use Rattle.pm_memory.specs.Solo.{Solo, opened}
use Rattle.pm_recover.specs.Recovery.{IsCleanLog, IsOfSlot, IsOutside, IsRecovered, generation_after, without_stray}
use Rattle.pm_recover.specs.Steps.{HasSoundLogs}
use Rattle.pm_recover.proofs.Areas.{SameLane, same_after, same_slot}
use Rattle.pm_recover.proofs.Clean.{clean, first_after, last_after, none_to_come}
use Rattle.pm_recover.proofs.Meaning.{HasCleanLogs, as_they_stand, page_stands}
use Rattle.pm_recover.proofs.Recovered.{past_end}
use Rattle.pm_recover.proofs.Sound.{header_if_meaning, lanes_of_meaning, sound_if_meaning}
use Rattle.pm_recover.proofs.Strays.{earlier_without, slot_word}
use Rattle.pm_reopen.specs.Plan.{MemoryCall, lane_plan, plan}
use Rattle.pm_reopen.specs.Premise.{HasWords, IsRecoverable}
use Rattle.pm_reopen.specs.Running.{after_calls, words_left}
use Rattle.pm_reopen.proofs.AllLanes.{recoverable_if_none, same_itself, same_plan, same_then}
use Rattle.pm_reopen.proofs.Beside.{lanes_stay, page_stays}
use Rattle.pm_reopen.proofs.LaneParts.{drained3, long3, m3}
use Rattle.pm_reopen.proofs.LaneWords.{ended_whole, rest_whole, whole_part, words_whole}
use Rattle.pm_reopen.proofs.Phase1.{size}
use Rattle.pm_reopen.proofs.Phase3.{IsEnded, meaning_3, performed_3, words_3}
use Rattle.pm_reopen.proofs.Segments.{after_append, unstopped_after}
use Rattle.pm_reopen.proofs.While.{IsHeap}

-- ---- a lane's area

-- the area is what recovery makes of it
pub record IsAreaRecovered (before after : List ℕ) (lane : ℕ) : Type 0 where
  pub rest : (i : ℕ) → area_word lane + 1 < i → i < area_word (lane + 1) → ((slot : ℕ) → slot < 64 → IsOfSlot lane slot i → ⊥) → slice_index after i ≡ slice_index before i
  pub slots : (slot : ℕ) → slot < 64 → undo_slot after lane slot ≡ without_stray (generation_after before lane) (undo_slot before lane slot)
  pub seal : seal_word after lane ≡ 0
  pub generation : generation_word after lane ≡ generation_after before lane

area_kept : (before X J : List ℕ) (lane : ℕ) → IsAreaRecovered before X lane → SameLane X J lane → IsAreaRecovered before J lane
area_kept before X J lane is same = record {
  rest = λ i from to out. sym (same.log.same i from to) ∙ is.rest i from to out;
  slots = λ slot few. sym (same_slot X J lane slot same.log few) ∙ is.slots slot few;
  seal = sym same.seal ∙ is.seal;
  generation = sym same.generation ∙ is.generation;
}

area_made : (before X J : List ℕ) (lane : ℕ) → SameLane before X lane → IsEnded X J lane
    → ((i : ℕ) → area_word lane + 1 < i → i < area_word (lane + 1) → ((slot : ℕ) → slot < 64 → IsOfSlot lane slot i → ⊥) → slice_index J i ≡ slice_index X i)
    → IsAreaRecovered before J lane
area_made before X J lane same ended rest =
    let goes_on = same_after before X lane same in
    record {
      rest = λ i from to out. rest i from to out ∙ sym (same.log.same i from to);
      slots = λ slot few. let slots = same_slot before X lane slot same.log few in ended.slots slot few ∙ (λ j. without_stray (sym goes_on j) (sym slots j));
      seal = ended.seal;
      generation = ended.generation_is ∙ sym goes_on;
    }

area_clean : (before after : List ℕ) (lanes lane : ℕ) → HasSoundLogs before lanes → lane < lanes → IsAreaRecovered before after lane → IsCleanLog after lane
area_clean before after lanes lane sound inside is =
    let now = is.generation in
    let first = first_after before lanes lane sound inside in
    let last = last_after before lanes lane sound inside in
    record {
      unsealed = is.seal;
      first_generation = omega (arith, first, now);
      last_generation = omega (arith, last, now);
      stale = λ slot u few reads.
          let old = earlier_without (generation_after before lane) (undo_slot before lane slot) u first (ap undo_of (sym (is.slots slot few)) ∙ reads) in
          omega (arith, old, now);
    }

-- ---- lane after lane

-- so many lanes are recovered, and all is persistent
pub record IsRecoveredTo (image : List ℕ) (pool : PoolView) (k : ℕ) (m : Solo) : Type 0 where
  pub drained : m.changes ≡ []
  pub free : m.stop ≡ None
  pub long : length m.words ≡ length image
  pub words : HasWords m.words
  pub means : IsMeaning m.words pool
  pub areas : (lane : ℕ) → lane < k → IsAreaRecovered image m.words lane
  pub same : (lane : ℕ) → k ≤ lane → lane < pool.lanes → SameLane image m.words lane
  pub heap : (i : ℕ) → i < length image → IsHeap pool.lanes i → recovered m.words pool.lanes i ≡ recovered image pool.lanes i
  pub page : (i : ℕ) → i < 512 → i ≢ 64 → slice_index m.words i ≡ slice_index image i

module _ (image : List ℕ) (pool : PoolView) (k : ℕ) (m : Solo) (r : IsRecoveredTo image pool k m) (inside : k < pool.lanes) where
  lanes : r.means.lanes ≡ pool.lanes
  lanes = lanes_of_meaning m.words pool r.means

  near : k < r.means.lanes
  near = let same = lanes in omega (arith, same, inside)

  unsealed : (lane : ℕ) → lane < k → is_sealed m.words lane ≡ false
  unsealed lane low = not_sealed m.words lane (r.areas lane low).seal

  abbrev next : Solo
  next = m3 m pool r.means k near r.drained r.free r.words

  ended : IsEnded m.words next.words k
  ended = ended_whole m pool r.means k near r.drained r.free r.words

  others : (lane : ℕ) → lane < pool.lanes → lane ≢ k → SameLane m.words next.words lane
  others lane low other = let same = lanes in lanes_stay m.words next.words r.means.lanes k (performed_3 m.words next.words pool r.means k near r.words unsealed ended) lane (omega (arith, low, same)) other

  heap_word : (i : ℕ) → i < length image → IsHeap pool.lanes i → recovered next.words pool.lanes i ≡ recovered m.words pool.lanes i
  heap_word i low heap =
      let all = size m.words pool r.means k near in
      let long = r.long in
      let same = lanes in
      subst (λ (n : ℕ). recovered next.words n i ≡ recovered m.words n i) lanes
      (words_3 m.words next.words pool r.means k near r.words unsealed ended i (omega (arith, low, long))
      (⊎_elim (λ (root : i ≡ 64). inl root) (λ (behind : 512 + 1024 * pool.lanes ≤ i). inr (omega (arith, behind, same), omega (arith, low, long, all))) heap))

  areas_next : (lane : ℕ) → lane < k + 1 → IsAreaRecovered image next.words lane
  areas_next lane low = ⊎_elim
      (λ (before : lane < k). area_kept image m.words next.words lane (r.areas lane before) (others lane (omega (arith, before, inside)) (λ at. omega (arith, at, before))))
      (λ (last : k ≤ lane).
      let here : k ≡ lane = omega (arith, low, last) in
      subst (λ (l : ℕ). IsAreaRecovered image next.words l) here
      (area_made image m.words next.words k (r.same k (omega arith) inside) ended (rest_whole m pool r.means k near r.drained r.free r.words)))
      (cases_lt lane k)

  next_reached : IsRecoveredTo image pool (k + 1) next
  next_reached = record {
    drained = drained3 m pool r.means k near r.drained r.free r.words;
    free = sym (ap (λ (x : Solo). x.stop) (whole_part m pool r.means k near r.drained r.free r.words)) ∙ unstopped_after m (lane_plan m.words k) r.free;
    long = long3 m pool r.means k near r.drained r.free r.words ∙ r.long;
    words = words_whole m pool r.means k near r.drained r.free r.words;
    means = meaning_3 m.words next.words pool r.means k near r.words unsealed ended;
    areas = areas_next;
    same = λ lane from to. same_then image m.words next.words lane (r.same lane (omega (arith, from)) to) (others lane to (λ at. omega (arith, at, from)));
    heap = λ i low heap. heap_word i low heap ∙ r.heap i low heap;
    page = λ i low other. page_stays m.words next.words r.means.lanes k (performed_3 m.words next.words pool r.means k near r.words unsealed ended) i low other ∙ r.page i low other;
  }

  pub reached_more : IsRecoveredTo image pool (k + 1) (after_calls m (lane_plan image k))
  reached_more =
      let own : lane_plan image k ≡ lane_plan m.words k = same_plan image m.words k (sym r.long) (r.same k (omega arith) inside) in
      subst (λ (x : Solo). IsRecoveredTo image pool (k + 1) x) (sym (ap (after_calls m) own ∙ whole_part m pool r.means k near r.drained r.free r.words)) next_reached

reached_from : (image : List ℕ) (pool : PoolView) (k count : ℕ) (m : Solo) → IsRecoveredTo image pool k m → k + count ≡ pool.lanes
    → IsRecoveredTo image pool pool.lanes (after_calls m (flat_map (lane_plan image) (range_with_len k count)))
unfolding after_calls
reached_from image pool k zero m r all = subst (λ (n : ℕ). IsRecoveredTo image pool n m) (omega (arith, all)) r
reached_from image pool k (suc count) m r all =
    let rest : List MemoryCall = flat_map (lane_plan image) (range_with_len (k + 1) count) in
    subst (λ (x : Solo). IsRecoveredTo image pool pool.lanes x) (sym (after_append m (lane_plan image k) rest))
    (reached_from image pool (k + 1) count (after_calls m (lane_plan image k)) (reached_more image pool k m r (omega (arith, all))) (omega (arith, all)))

pub reached_all : (image : List ℕ) (pool : PoolView) → HasWords image → IsMeaning image pool → IsRecoveredTo image pool pool.lanes (after_calls (opened image None) (plan image pool.lanes))
unfolding plan
reached_all image pool words means =
    reached_from image pool 0 pool.lanes (opened image None)
    (record {
      drained = refl;
      free = refl;
      long = refl;
      words = words;
      means = means;
      areas = λ lane low. absurd (omega (arith, low));
      same = λ lane from to. same_itself image lane (let long = (sound_if_meaning image pool means).has_lanes.areas in omega (arith, long, to));
      heap = λ i low heap. refl;
      page = λ i low other. refl;
    })
    (omega arith)

-- ---- the whole image

module _ (image : List ℕ) (pool : PoolView) (means : IsMeaning image pool) (m : Solo) (r : IsRecoveredTo image pool pool.lanes m) where
  sound : HasSoundLogs image pool.lanes
  sound = sound_if_meaning image pool means

  clean_all : HasCleanLogs m.words pool.lanes
  clean_all =
      let has = sound.has_lanes in
      let long = r.long in
      let areas = has.areas in
      let small = has.small in
      record {
        has_lanes = record { lanes_fit = has.lanes_fit; areas = omega (arith, areas, long); small = omega (arith, small, long) };
        clean = λ lane low. area_clean image m.words pool.lanes lane sound low (r.areas lane low);
      }

  heap_is : (i : ℕ) → i < length image → IsHeap pool.lanes i → slice_index m.words i ≡ recovered_at image pool.lanes i
  heap_is i low heap =
      let long = r.long in
      sym (as_they_stand m.words pool.lanes i clean_all) ∙ recovered_in_place m.words pool.lanes i (omega (arith, low, long)) ∙ r.heap i low heap ∙ sym (recovered_in_place image pool.lanes i low)

  outside_is : (i : ℕ) → IsOutside pool.lanes i → slice_index m.words i ≡ recovered_at image pool.lanes i
  outside_is i out = ⊎_elim
      (λ (inside : i < length image). ⊎_elim
      (λ (page : i < 512). ⊎_elim
      (λ (root : i ≡ 64). heap_is i inside (inl root))
      (λ (other : i ≢ 64). r.page i page other ∙ sym (page_stands image pool.lanes i sound (header_if_meaning image pool means) page other))
      (cases_eq i 64))
      (λ (behind : area_word pool.lanes ≤ i). heap_is i inside (inr behind))
      out)
      (λ (past : length image ≤ i). let long = r.long in get_or_past m.words i 0 (omega (arith, past, long)) ∙ sym (past_end image pool.lanes i past))
      (cases_lt i (length image))

  pub recovered_so : IsRecovered image m.words pool.lanes
  recovered_so = record {
    as_long = r.long;
    words = outside_is;
    areas = λ lane i low from to out. (r.areas lane low).rest i from to out;
    slots = λ lane slot low few. (r.areas lane low).slots slot few;
    seals = λ lane low. (r.areas lane low).seal;
    generations = λ lane low. (r.areas lane low).generation;
  }

-- the words that the whole plan leaves are recovered
pub whole_recovers : (image : List ℕ) (pool : PoolView) → HasWords image → IsMeaning image pool → IsRecovered image (words_left image pool.lanes) pool.lanes
whole_recovers image pool words means = recovered_so image pool means (after_calls (opened image None) (plan image pool.lanes)) (reached_all image pool words means)

-- and can be recovered again
pub recoverable_again : (image left : List ℕ) (pool : PoolView) → HasWords image → IsMeaning image pool → left ≡ words_left image pool.lanes → IsRecoverable left pool
recoverable_again image left pool words means is =
    let r : IsRecoveredTo image pool pool.lanes (after_calls (opened image None) (plan image pool.lanes)) = reached_all image pool words means in
    let so : IsRecovered image (words_left image pool.lanes) pool.lanes = whole_recovers image pool words means in
    subst (λ (ws : List ℕ). IsRecoverable ws pool) (sym is)
    (recoverable_if_none (words_left image pool.lanes) pool r.words r.means
    (none_to_come (words_left image pool.lanes) pool.lanes (λ lane inside. clean image (words_left image pool.lanes) pool.lanes lane (sound_if_meaning image pool means) so inside)))

-- ---- there is one recovered image

module _ (before one other : List ℕ) (lanes : ℕ) (first : IsRecovered before one lanes) (second : IsRecovered before other lanes) where
  same_in : (lane i : ℕ) → lane < lanes → area_word lane ≤ i → i < area_word (lane + 1) → slice_index one i ≡ slice_index other i
  same_in lane i low from to = ⊎_elim
      (λ (generation : i ≡ area_word lane). ap (slice_index one) generation ∙ first.generations lane low ∙ sym (second.generations lane low) ∙ sym (ap (slice_index other) generation))
      (λ (later : i ≢ area_word lane). ⊎_elim
      (λ (seal : i ≡ area_word lane + 1). ap (slice_index one) seal ∙ first.seals lane low ∙ sym (second.seals lane low) ∙ sym (ap (slice_index other) seal))
      (λ (behind : i ≢ area_word lane + 1). ⊎_elim
      (λ (entries : i < area_word lane + 136). rest (omega (arith, from, later, behind)) (λ slot few of. let at = of.0 in omega (arith, at, entries)))
      (λ (from_slots : area_word lane + 136 ≤ i). ⊎_elim
      (λ (of_slot : i < area_word lane + 648).
      let slot : ℕ = (i - area_word lane - 136) / 8 in
      let j : ℕ = (i - area_word lane - 136) % 8 in
      let here : 8 * slot_line lane slot + j ≡ i = omega (arith, from_slots) in
      let few : slot < 64 = omega (arith, of_slot, from_slots) in
      subst (λ (w : ℕ). slice_index one w ≡ slice_index other w) here
      (sym (slot_word one lane slot j (omega arith)) ∙ ap (λ (ws : List ℕ). slice_index ws j) (first.slots lane slot low few ∙ sym (second.slots lane slot low few)) ∙ slot_word other lane slot j (omega arith)))
      (λ (past : area_word lane + 648 ≤ i). rest (omega (arith, past)) (λ slot few of. let at = of.1 in omega (arith, at, past, few)))
      (cases_lt i (area_word lane + 648)))
      (cases_lt i (area_word lane + 136)))
      (cases_eq i (area_word lane + 1)))
      (cases_eq i (area_word lane)) where
        rest : area_word lane + 1 < i → ((slot : ℕ) → slot < 64 → IsOfSlot lane slot i → ⊥) → slice_index one i ≡ slice_index other i
        rest after out = first.areas lane i low after to out ∙ sym (second.areas lane i low after to out)

  same_at : (i : ℕ) → slice_index one i ≡ slice_index other i
  same_at i = ⊎_elim
      (λ (page : i < area_word 0). outside (inl page))
      (λ (from : area_word 0 ≤ i). ⊎_elim
      (λ (to : i < area_word lanes). same_in ((i - 512) / 1024) i (omega (arith, from, to)) (omega (arith, from)) (omega (arith, from)))
      (λ (behind : area_word lanes ≤ i). outside (inr behind))
      (cases_lt i (area_word lanes)))
      (cases_lt i (area_word 0)) where
        outside : IsOutside lanes i → slice_index one i ≡ slice_index other i
        outside out = first.words i out ∙ sym (second.words i out)

  pub one_recovered : one ≡ other
  one_recovered = ext_get_or 0 one other (first.as_long ∙ sym second.as_long) (λ i near. same_at i)
