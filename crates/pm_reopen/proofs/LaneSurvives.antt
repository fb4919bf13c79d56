-- What survives anywhere in a lane's part of the plan means what was meant, and can be recovered again.
use Rattle.std.proofs.Common.{◌≡◌, ◌≢◌, ⊎_elim, ℕ, ◌+◌, ◌-◌, ◌*◌, ◌<◌, ◌≤◌, true, false, List, [], ◌∷◌, ◌++◌, length, take, Some, None, sym, ◌∙◌, ap, subst, arith}
use Rattle.std.proofs.lemmas.Bool.{cases_eq, cases_lt, false≢true}
use Rattle.std.proofs.lemmas.List.{take-append-le}
use Rattle.std.proofs.Math.Seq.{take-append-add}
use Rattle.pm_record.specs.declared.undo.Undo.{Undo}
use Rattle.pm_objects.specs.declared.pool.PoolView.{PoolView}
use Rattle.pm_image.specs.Logs.{generation, is_sealed, undo_slot}
use Rattle.pm_image.specs.Means.{IsMeaning}
use Rattle.pm_image.specs.Steps.{valid_record}
use Rattle.pm_memory.specs.Solo.{Solo}
use Rattle.pm_memory.specs.Survivors.{Survives}
use Rattle.pm_recover.proofs.Areas.{SameLane, same_generation, same_sealed, same_slot}
use Rattle.pm_reopen.specs.Plan.{MemoryCall, log_end, strays, writes}
use Rattle.pm_reopen.specs.Premise.{HasNoTornClearing, HasWords}
use Rattle.pm_reopen.specs.Running.{after_calls}
use Rattle.pm_reopen.proofs.Beside.{lanes_stay}
use Rattle.pm_reopen.proofs.LaneParts.{P1, P2, P3, all1, all2, all3, drained1, drained2, drained3, lines, m1, m2, small, small1, small2}
use Rattle.pm_reopen.proofs.LaneWords.{clearing_from, ended_from, words_partly}
use Rattle.pm_reopen.proofs.Phase1.{log_1, meaning_1, performed_1, size, still_generation, still_sealed, slot_1}
use Rattle.pm_reopen.proofs.Phase2.{IsClearing, log_2, meaning_2, performed_2, valid_same}
use Rattle.pm_reopen.proofs.Phase3.{IsEnded, ended_unsealed, meaning_3, performed_3}
use Rattle.pm_reopen.proofs.Segments.{after_append, cleared_part, clears, left_partly, persisted_part}
use Rattle.pm_reopen.proofs.Surviving.{IsPartlyWritten}

-- ---- the premise on clearing

pub record SaysLess (X J : List ℕ) (lanes : ℕ) : Type 0 where
  pub sealed : (lane : ℕ) → lane < lanes → is_sealed J lane ≡ true → (is_sealed X lane ≡ true) × (generation J lane ≡ generation X lane)
  pub slots : (lane slot : ℕ) (u : Undo) → lane < lanes → slot < 64 → is_sealed J lane ≡ true → valid_record J lane slot ≡ Some u → undo_slot J lane slot ≡ undo_slot X lane slot

pub premise_kept : (X J : List ℕ) (lanes : ℕ) → SaysLess X J lanes → HasNoTornClearing X lanes → HasNoTornClearing J lanes
premise_kept X J lanes less whole = record {
  whole = λ lane slot u left inside few sealed valid partly sum first.
      let before = less.sealed lane inside sealed in
      let same : undo_slot J lane slot ≡ undo_slot X lane slot = less.slots lane slot u inside few sealed valid in
      let valid_X : valid_record X lane slot ≡ Some u = (λ j. Rattle.pm_recover.proofs.Slots.of_generation (sym before.1 j) (Rattle.pm_record.specs.Undo.undo_of (sym same j))) ∙ valid in
      whole.whole lane slot u left inside few before.0 valid_X (subst (Rattle.pm_reopen.specs.Premise.IsPartlyCleared left) same partly) sum (first ∙ before.1) ∙ sym same;
}

-- ---- one lane

-- what is known of what survives
pub record LaneKept (X J : List ℕ) (pool : PoolView) (lanes k : ℕ) : Type 0 where
  pub meaning : IsMeaning J pool
  pub less : SaysLess X J lanes
  pub others : (lane : ℕ) → lane < lanes → lane ≢ k → SameLane X J lane

others_less : (X J : List ℕ) (lanes k : ℕ) → ((lane : ℕ) → lane < lanes → lane ≢ k → SameLane X J lane) → (is_sealed J k ≡ true → (is_sealed X k ≡ true) × (generation J k ≡ generation X k))
    → ((slot : ℕ) (u : Undo) → slot < 64 → is_sealed J k ≡ true → valid_record J k slot ≡ Some u → undo_slot J k slot ≡ undo_slot X k slot) → SaysLess X J lanes
others_less X J lanes k others own own_slots = record {
  sealed = λ lane inside is. ⊎_elim
      (λ (here : lane ≡ k). subst (λ (l : ℕ). (is_sealed X l ≡ true) × (generation J l ≡ generation X l)) (sym here) (own (sym (ap (is_sealed J) here) ∙ is)))
      (λ (other : lane ≢ k). let same = others lane inside other in (same_sealed X J lane same ∙ is, sym (same_generation X J lane same)))
      (cases_eq lane k);
  slots = λ lane slot u inside few is valid. ⊎_elim
      (λ (here : lane ≡ k).
      subst (λ (l : ℕ). undo_slot J l slot ≡ undo_slot X l slot) (sym here)
      (own_slots slot u few (sym (ap (is_sealed J) here) ∙ is) (sym (ap (λ (l : ℕ). valid_record J l slot) here) ∙ valid)))
      (λ (other : lane ≢ k). sym (same_slot X J lane slot (others lane inside other).log few))
      (cases_eq lane k);
}

module _ (m : Solo) (pool : PoolView) (is : IsMeaning m.words pool) (k : ℕ) (near : k < is.lanes) (none : m.changes ≡ []) (free : m.stop ≡ None) (words : HasWords m.words) (unsealed : (lane : ℕ) → lane < k → is_sealed m.words lane ≡ false) (whole : HasNoTornClearing m.words is.lanes) where
  abbrev pub X : List ℕ
  X = m.words

  abbrev pub L : ℕ
  L = is.lanes

  all_words : 512 + 1024 * is.lanes + 33280 * is.zones ≡ length m.words
  all_words = size m.words pool is k near

  kept_1 : (J : List ℕ) → IsPartlyWritten (writes m.words k) m.words J → LaneKept m.words J pool is.lanes k
  kept_1 J part =
      let log = log_1 m.words J pool is k near words unsealed part in
      let others = lanes_stay m.words J is.lanes k (performed_1 m.words J pool is k near words unsealed part) in
      record {
        meaning = meaning_1 m.words J pool is k near words unsealed part;
        others = others;
        less = others_less m.words J is.lanes k others
            (λ sealed. (sym (still_sealed m.words J k log) ∙ sealed, still_generation m.words J k log))
            (λ slot u few sealed valid. slot_1 m.words J pool is k near words unsealed part slot few);
      }

  kept_2 : (J : List ℕ) → IsClearing m.words J k → LaneKept m.words J pool is.lanes k
  kept_2 J part =
      let log = log_2 m.words J pool is k near words unsealed whole part in
      let others = lanes_stay m.words J is.lanes k (performed_2 m.words J pool is k near words unsealed whole part) in
      record {
        meaning = meaning_2 m.words J pool is k near words unsealed whole part;
        others = others;
        less = others_less m.words J is.lanes k others
            (λ sealed. (sym (still_sealed m.words J k log) ∙ sealed, still_generation m.words J k log))
            (λ slot u few sealed valid. valid_same m.words J pool is k near words unsealed whole part slot u few valid);
      }

  kept_3 : (J : List ℕ) → IsEnded m.words J k → LaneKept m.words J pool is.lanes k
  kept_3 J part =
      let others = lanes_stay m.words J is.lanes k (performed_3 m.words J pool is k near words unsealed part) in
      let open_log = ended_unsealed m.words J pool is k near words unsealed part in
      record {
        meaning = meaning_3 m.words J pool is k near words unsealed part;
        others = others;
        less = others_less m.words J is.lanes k others
            (λ sealed. absurd (false≢true (sym open_log ∙ sealed)))
            (λ slot u few sealed valid. absurd (false≢true (sym open_log ∙ sealed)));
      }

  -- ---- anywhere in the lane's part

  pub kept_lane : (n : ℕ) (J : List ℕ) → Survives (after_calls m (take n (P1 m pool is k near none free words ++ (P2 m pool is k near none free words ++ P3 m pool is k near none free words)))).words
      ((after_calls m (take n (P1 m pool is k near none free words ++ (P2 m pool is k near none free words ++ P3 m pool is k near none free words)))).changes ∷ []) J → LaneKept m.words J pool is.lanes k × HasWords J
  kept_lane n J survives = ⊎_elim
      (λ (past : length A < n).
      let r : ℕ = n - length A in
      let whole_n : n ≡ length A + r = omega (arith, past) in
      let calls : take n (A ++ (B ++ D)) ≡ A ++ take r (B ++ D) = ap (λ (i : ℕ). take i (A ++ (B ++ D))) whole_n ∙ take-append-add A (B ++ D) r in
      let memory : after_calls m (take n (A ++ (B ++ D))) ≡ after_calls M1 (take r (B ++ D)) = ap (after_calls m) calls ∙ after_append m A (take r (B ++ D)) in
      let later : Survives (after_calls M1 (take r (B ++ D))).words ((after_calls M1 (take r (B ++ D))).changes ∷ []) J = subst (λ (x : Solo). Survives x.words (x.changes ∷ []) J) memory survives in
      ⊎_elim
      (λ (beyond : length B < r).
      let q : ℕ = r - length B in
      let whole_r : r ≡ length B + q = omega (arith, beyond) in
      let rest : take r (B ++ D) ≡ B ++ take q D = ap (λ (i : ℕ). take i (B ++ D)) whole_r ∙ take-append-add B D q in
      let last : after_calls M1 (take r (B ++ D)) ≡ after_calls M2 (take q D) = ap (after_calls M1) rest ∙ after_append M1 B (take q D) in
      let part : IsPartlyWritten (log_end m.words k) M2.words J =
      left_partly M2 D (log_end m.words k) (persisted_part (lines m pool is k near none free words) (log_end m.words k)) (drained2 m pool is k near none free words) (small2 m pool is k near none free words) (all3 m pool is k near none free words) q J (drained3 m pool is k near none free words)
      (subst (λ (x : Solo). Survives x.words (x.changes ∷ []) J) last later) in (
        ⊎_elim (λ (clearing : IsClearing m.words J k). kept_2 J clearing) (λ (ended : IsEnded m.words J k). kept_3 J ended) (ended_from m pool is k near none free words J part),
        words_partly (length M2.words) (log_end m.words k) M2.words J (all3 m pool is k near none free words) (small2 m pool is k near none free words) part,
      ))
      (λ (within : r ≤ length B).
      let part : IsPartlyWritten (clears k (strays m.words k)) M1.words J =
      left_partly M1 B (clears k (strays m.words k)) (cleared_part k (strays m.words k)) (drained1 m pool is k near none free words) (small1 m pool is k near none free words) (all2 m pool is k near none free words) r J (drained2 m pool is k near none free words)
      (subst (λ (cs : List MemoryCall). Survives (after_calls M1 cs).words ((after_calls M1 cs).changes ∷ []) J) (take-append-le r B D within) later) in
      (kept_2 J (clearing_from m pool is k near none free words J part), words_partly (length M1.words) (clears k (strays m.words k)) M1.words J (all2 m pool is k near none free words) (small1 m pool is k near none free words) part))
      (cases_lt (length B) r))
      (λ (within : n ≤ length A).
      let part : IsPartlyWritten (writes m.words k) m.words J =
      left_partly m A (writes m.words k) (persisted_part (lines m pool is k near none free words) (writes m.words k)) none (small m pool is k near none free words) (all1 m pool is k near none free words) n J (drained1 m pool is k near none free words)
      (subst (λ (cs : List MemoryCall). Survives (after_calls m cs).words ((after_calls m cs).changes ∷ []) J) (take-append-le n A (B ++ D) within) survives) in
      (kept_1 J part, words_partly (length m.words) (writes m.words k) m.words J (all1 m pool is k near none free words) (small m pool is k near none free words) part))
      (cases_lt (length A) n) where
        A : List MemoryCall
        A = P1 m pool is k near none free words

        B : List MemoryCall
        B = P2 m pool is k near none free words

        D : List MemoryCall
        D = P3 m pool is k near none free words

        M1 : Solo
        M1 = m1 m pool is k near none free words

        M2 : Solo
        M2 = m2 m pool is k near none free words
