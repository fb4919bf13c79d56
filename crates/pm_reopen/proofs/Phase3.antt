-- Once a lane's log is ended, the image means what it meant.
use Rattle.std.proofs.Common.{◌≡◌, inr, ℕ, ◌*◌, ◌<◌, ◌&&◌, false, not, ltb, List, length, slice_index, None, sym, ◌∙◌, ap, arith}
use Rattle.std.specs.List.{filter}
use Rattle.std.proofs.lemmas.Bool.{and_left}
use Rattle.std.proofs.lemmas.List.{take_all}
use Rattle.pm_record.specs.Redo.{redo_of}
use Rattle.pm_record.specs.Undo.{undo_of}
use Rattle.pm_record.specs.declared.redo.Redo.{Redo}
use Rattle.pm_record.specs.declared.undo.Undo.{Undo}
use Rattle.pm_objects.specs.declared.pool.PoolView.{PoolView}
use Rattle.pm_image.specs.Logs.{all_applied, covers, entry_pair, generation, generation_word, is_sealed, seal_word, undo_slot}
use Rattle.pm_image.specs.LogFaults.{bad_entry, good_entry}
use Rattle.pm_image.specs.Means.{IsMeaning}
use Rattle.pm_image.specs.Steps.{valid_record}
use Rattle.pm_image.proofs.Redoing.{entries_unsealed}
use Rattle.pm_image.proofs.Unsealed.{not_sealed}
use Rattle.pm_recover.specs.Recovery.{generation_after, without_stray}
use Rattle.pm_recover.proofs.Clean.{first_after, last_after}
use Rattle.pm_recover.proofs.Slots.{generation_stands, no_records, not_valid}
use Rattle.pm_recover.proofs.Strays.{earlier_without}
use Rattle.pm_reopen.specs.Plan.{writes}
use Rattle.pm_reopen.specs.Premise.{HasWords}
use Rattle.pm_reopen.proofs.Beside.{IsBeside, IsPerformed, lanes_stay, logs_stay, page_stays}
use Rattle.pm_reopen.proofs.Less.{IsLess, SameHeapWords, meaning_less}
use Rattle.pm_reopen.proofs.Phase1.{before_word, good_lane_from, heap_beside, size, sound, targets}
use Rattle.pm_reopen.proofs.SameWords.{same_after}
use Rattle.pm_reopen.proofs.Surviving.{for_word}

-- the log's changes are in it, and the log is ended
pub record IsEnded (X J : List ℕ) (k : ℕ) : Type 0 where
  pub as_long : length J ≡ length X
  pub each : (w : ℕ) → w < length X → IsBeside k w → slice_index J w ≡ all_applied (for_word w (writes X k)) (slice_index X w)
  pub generation_is : generation_word J k ≡ generation_after X k
  pub seal : seal_word J k ≡ 0
  pub slots : (slot : ℕ) → slot < 64 → undo_slot J k slot ≡ without_stray (generation_after X k) (undo_slot X k slot)

module _ (X J : List ℕ) (pool : PoolView) (is : IsMeaning X pool) (k : ℕ) (near : k < is.lanes) (words : HasWords X) (unsealed : (lane : ℕ) → lane < k → is_sealed X lane ≡ false) (part : IsEnded X J k) where
  abbrev pub L : ℕ
  L = is.lanes

  abbrev pub Z : ℕ
  Z = is.zones

  pub performed_3 : IsPerformed X J L k
  performed_3 = record {
    near = near;
    areas = (let all = size X pool is k near in omega (arith, all));
    targets = targets X pool is k near;
    as_long = part.as_long;
    each = λ w inside beside.
        (length (for_word w (writes X k)), part.each w inside beside ∙ ap (λ (es : List Redo). all_applied es (slice_index X w)) (sym (take_all (length (for_word w (writes X k))) (for_word w (writes X k)) (omega arith))));
  }

  pub ended_unsealed : is_sealed J k ≡ false
  ended_unsealed = not_sealed J k part.seal

  pub none_valid : (slot : ℕ) → slot < 64 → valid_record J k slot ≡ None
  none_valid slot few =
      let stands = generation_stands J k part.seal in
      not_valid (generation J k) (undo_of (undo_slot J k slot)) (λ u reads same.
      let old = earlier_without (generation_after X k) (undo_slot X k slot) u (first_after X L k (sound X pool is k near) near) (ap undo_of (sym (part.slots slot few)) ∙ reads) in
      let now = part.generation_is in
      omega (arith, stands, old, now, same))

  bad_row : (i : ℕ) → bad_entry J L Z k i ≡ false
  bad_row i =
      and_left (is_sealed J k && ltb i (seal_word J k)) (not (good_entry J L Z k i (redo_of (entry_pair J k i)))) (and_left (is_sealed J k) (ltb i (seal_word J k)) ended_unsealed)

  pub less_3 : IsLess X J L Z k
  less_3 =
      let first = first_after X L k (sound X pool is k near) near in
      let last = last_after X L k (sound X pool is k near) near in
      let now = part.generation_is in
      let seal = part.seal in
      record {
        as_long = part.as_long;
        page_is = page_stays X J L k performed_3;
        others = lanes_stay X J L k performed_3;
        entries_less = inr (entries_unsealed J k ended_unsealed);
        slots_less = λ slot few. inr (none_valid slot few);
        lane_good = good_lane_from J k (omega (arith, first, now)) (omega (arith, last, now)) (omega (arith, seal));
        entries_good = λ i few. bad_row i;
      }

  pub words_3 : SameHeapWords X J L Z
  words_3 i inside heap =
      same_after X J L k i (before_word X pool is k near words unsealed i inside) (logs_stay X J L k performed_3) (inr (entries_unsealed J k ended_unsealed))
      (inr (ap (filter (λ (u : Undo). covers u (8 * i))) (no_records J k none_valid)))
      (part.each i inside (heap_beside L Z k i near heap))

  pub meaning_3 : IsMeaning J pool
  meaning_3 = meaning_less X J pool k is near less_3 words_3
