-- While the words of a lane are restored and its entries applied, the image means what it meant.
use Rattle.std.proofs.Common.{◌≡◌, ◌≢◌, ◌⊎◌, ⊎_elim, inl, inr, ℕ, zero, suc, ◌+◌, ◌-◌, ◌*◌, ◌/◌, ◌%◌, ◌<◌, ◌≤◌, ◌&&◌, ◌||◌, Bool, true, false, cond, not, eqb, leb, ltb, All, List, [], ◌∷◌, map, take, slice_index, Option, Some, None, refl, sym, ◌∙◌, ap, subst, arith}
use Rattle.std.specs.List.{flat_map, range_with_len}
use Rattle.std.specs.Option.{option_map, option_to_list}
use Rattle.std.proofs.lemmas.Bool.{and_from, and_left, and_parts, cases_Bool, cases_eq, cases_lt, eq-eqb, eqb-true, false≢true, le-leb, leb-true, ne_eqb, not-false, not_from_true, or_from, or_left, or_right}
use Rattle.std.proofs.lemmas.List.Elements.{All-append, All-cons, All-head, All-nil, All-tail}
use Rattle.pm_record.specs.Redo.{applied, op_of, redo_of}
use Rattle.pm_record.specs.declared.redo.Op.{Op}
use Rattle.pm_record.specs.declared.redo.Op.TheVariants as op
use Rattle.pm_record.specs.declared.redo.Redo.{Redo}
use Rattle.pm_record.specs.declared.undo.Undo.{Undo}
use Rattle.pm_image.specs.Logs.{all_applied, area_word, entries, entry_pair, generation, generation_word, is_sealed, records, seal_word}
use Rattle.pm_image.specs.LogFaults.{bad_entry, ends_log, good_entry, in_chunk, in_descriptors, is_set, is_target, zones_word}
use Rattle.pm_image.specs.Steps.{valid_record}
use Rattle.pm_image.proofs.Gathering.{entries_by_number, entry_at, record_at, records_by_number}
use Rattle.pm_image.proofs.Redoing.{entries_unsealed, sealed_few}
use Rattle.pm_recover.specs.Steps.{HasSoundLogs}
use Rattle.pm_recover.proofs.Slots.{generation_sealed}
use Rattle.pm_reopen.specs.Plan.{restores, store_of, writes}
use Rattle.pm_reopen.proofs.Inside.{all_parts}
use Rattle.pm_reopen.proofs.Surviving.{for_word}
use Rattle.pm_reopen.proofs.Targets.{end_place}

-- the root's word, or one behind the lanes
abbrev pub IsHeap : ℕ → ℕ → Type 0
IsHeap lanes w = (w ≡ 64) ⊎ (512 + 1024 * lanes ≤ w)

-- a change of the heap, or a store of the generation that the lane's log ends with
abbrev pub IsTarget : List ℕ → ℕ → ℕ → Redo → Type 0
IsTarget X lanes k e = IsHeap lanes (e.place / 8) ⊎ ((e.place / 8 ≡ area_word k) × ((e.op ≡ op.Set) × (e.value ≡ generation X k)))

target_from : (lanes zones word : ℕ) → is_target lanes zones word ≡ true → IsHeap lanes word
target_from lanes zones word is = ⊎_elim
    (λ (root : eqb word 64 ≡ true). inl (eqb-true word 64 root))
    (λ (other : eqb word 64 ≡ false). ⊎_elim
    (λ (of : in_descriptors lanes zones word ≡ true).
    let first = and_parts (leb (zones_word lanes) word && ltb ((word - zones_word lanes) / 33280) zones) (ltb ((word - zones_word lanes) % 33280) 64) of in
    inr (leb-true (zones_word lanes) word (and_parts (leb (zones_word lanes) word) (ltb ((word - zones_word lanes) / 33280) zones) first.0).0))
    (λ (not_of : in_descriptors lanes zones word ≡ false). ⊎_elim
    (λ (of : in_chunk lanes zones word ≡ true).
    let first = and_parts (leb (zones_word lanes) word && ltb ((word - zones_word lanes) / 33280) zones) (leb 512 ((word - zones_word lanes) % 33280)) of in
    inr (leb-true (zones_word lanes) word (and_parts (leb (zones_word lanes) word) (ltb ((word - zones_word lanes) / 33280) zones) first.0).0))
    (λ (nor : in_chunk lanes zones word ≡ false). absurd (false≢true (sym (or_from (eqb word 64 || in_descriptors lanes zones word) (in_chunk lanes zones word) (or_from (eqb word 64) (in_descriptors lanes zones word) other not_of) nor) ∙ is)))
    (cases_Bool (in_chunk lanes zones word)))
    (cases_Bool (in_descriptors lanes zones word)))
    (cases_Bool (eqb word 64))

set_of : (o : Op) → is_set o ≡ true → o ≡ op.Set
set_of op.Set is = refl
set_of op.Or is = absurd cc
set_of op.And is = absurd cc

pub value_in : (pair : List ℕ) (e : Redo) → redo_of pair ≡ Some e → e.value ≡ slice_index pair 1
value_in pair e is = go (op_of (slice_index pair 0 % 8)) is where
  go : (o : Option Op) → option_map (λ op. record { place = slice_index pair 0 / 8 * 8; op = op; value = slice_index pair 1 }) o ≡ Some e → e.value ≡ slice_index pair 1
  go None none = absurd cc
  go (Some o) some = let same : slice_index pair 1 ≡ e.value = cc in sym same

end_set : (image : List ℕ) (lane : ℕ) (e : Redo) → ends_log image lane e ≡ true → e.op ≡ op.Set
end_set image lane e ends =
    let near : Bool = eqb (generation_word image lane) e.value || eqb (generation_word image lane + 1) e.value in
    let first = and_parts (is_set e.op && eqb e.place (8 * area_word lane) && leb 2 e.value && leb e.value 4611686018427387904) near ends in
    let second = and_parts (is_set e.op && eqb e.place (8 * area_word lane) && leb 2 e.value) (leb e.value 4611686018427387904) first.0 in
    let third = and_parts (is_set e.op && eqb e.place (8 * area_word lane)) (leb 2 e.value) second.0 in
    set_of e.op (and_parts (is_set e.op) (eqb e.place (8 * area_word lane)) third.0).0

entry_target : (X : List ℕ) (lanes zones k i : ℕ) (e : Redo) → is_sealed X k ≡ true → redo_of (entry_pair X k i) ≡ Some e → good_entry X lanes zones k i (Some e) ≡ true → IsTarget X lanes k e
entry_target X lanes zones k i e sealed reads good = go (eqb (i + 1) (seal_word X k)) refl where
  go : (b : Bool) → eqb (i + 1) (seal_word X k) ≡ b → IsTarget X lanes k e
  go true last =
      let ends : ends_log X k e ≡ true = sym (ap (λ (b : Bool). cond b (ends_log X k e) (is_target lanes zones (e.place / 8))) last) ∙ good in
      let place = end_place X k e ends in
      let number : i + 1 ≡ seal_word X k = eqb-true (i + 1) (seal_word X k) last in
      let word : area_word k + 9 + 2 * i ≡ area_word k + 7 + 2 * seal_word X k = omega (arith, number) in
      inr (omega (arith, place), (end_set X k e ends, value_in (entry_pair X k i) e reads ∙ ap (slice_index X) word ∙ sym (generation_sealed X k sealed)))
  go false before = inl (target_from lanes zones (e.place / 8) (sym (ap (λ (b : Bool). cond b (ends_log X k e) (is_target lanes zones (e.place / 8))) before) ∙ good))

entries_targets : (X : List ℕ) (lanes zones k : ℕ) → ((i : ℕ) → i < 64 → bad_entry X lanes zones k i ≡ false) → All (IsTarget X lanes k) (entries X k)
entries_targets X lanes zones k none = ⊎_elim
    (λ (sealed : is_sealed X k ≡ true).
    subst (All (IsTarget X lanes k)) (sym (entries_by_number X k sealed))
    (all_parts (IsTarget X lanes k) (entry_at X k) 0 (seal_word X k) (λ i from to.
    let few = sealed_few X k sealed in
    let below = Rattle.std.proofs.lemmas.Bool.lt-ltb i (seal_word X k) (omega (arith, to)) in
    let good : good_entry X lanes zones k i (redo_of (entry_pair X k i)) ≡ true =
    not-false (good_entry X lanes zones k i (redo_of (entry_pair X k i))) (sym (λ j. (sealed j && below j) && not (good_entry X lanes zones k i (redo_of (entry_pair X k i)))) ∙ none i (omega (arith, to, few))) in
    one i sealed (redo_of (entry_pair X k i)) refl good)))
    (λ (unsealed : is_sealed X k ≡ false). subst (All (IsTarget X lanes k)) (sym (entries_unsealed X k unsealed)) (All-nil (IsTarget X lanes k)))
    (cases_Bool (is_sealed X k)) where
      one : (i : ℕ) → is_sealed X k ≡ true → (o : Option Redo) → redo_of (entry_pair X k i) ≡ o → good_entry X lanes zones k i o ≡ true → All (IsTarget X lanes k) (option_to_list o)
      one i sealed None is good = All-nil (IsTarget X lanes k)
      one i sealed (Some e) is good = All-cons (IsTarget X lanes k) e [] (entry_target X lanes zones k i e sealed is good) (All-nil (IsTarget X lanes k))

restores_heap : (X : List ℕ) (lanes k : ℕ) (u : Undo) (a n : ℕ) → 512 + 1024 * lanes ≤ u.place / 8 → All (IsTarget X lanes k) (map (λ i. store_of (u.place / 8 + i) (slice_index u.old i)) (range_with_len a n))
restores_heap X lanes k u a zero behind = All-nil (IsTarget X lanes k)
restores_heap X lanes k u a (suc n) behind =
    All-cons (IsTarget X lanes k) (store_of (u.place / 8 + a) (slice_index u.old a)) (map (λ i. store_of (u.place / 8 + i) (slice_index u.old i)) (range_with_len (a + 1) n))
    (inl (inr (omega (arith, behind)))) (restores_heap X lanes k u (a + 1) n behind)

records_targets : (X : List ℕ) (lanes k : ℕ) → HasSoundLogs X lanes → k < lanes → All (IsTarget X lanes k) (flat_map restores (records X k))
records_targets X lanes k sound near =
    all_mapped (records X k) (subst (All (λ (u : Undo). All (IsTarget X lanes k) (restores u))) (sym (records_by_number X k))
    (all_parts (λ (u : Undo). All (IsTarget X lanes k) (restores u)) (record_at X k) 0 64 (λ slot from to. one slot (omega (arith, to)) (valid_record X k slot) refl))) where
      all_mapped : (us : List Undo) → All (λ (u : Undo). All (IsTarget X lanes k) (restores u)) us → All (IsTarget X lanes k) (flat_map restores us)
      all_mapped [] all = All-nil (IsTarget X lanes k)
      all_mapped (u ∷ us) all = All-append (IsTarget X lanes k) (restores u) (flat_map restores us) (All-head (λ (v : Undo). All (IsTarget X lanes k) (restores v)) u us all) (all_mapped us (All-tail (λ (v : Undo). All (IsTarget X lanes k) (restores v)) u us all))

      one : (slot : ℕ) → slot < 64 → (o : Option Undo) → valid_record X k slot ≡ o → All (λ (u : Undo). All (IsTarget X lanes k) (restores u)) (option_to_list o)
      one slot few None is = All-nil (λ (u : Undo). All (IsTarget X lanes k) (restores u))
      one slot few (Some u) is =
          let behind = (sound.restorable k slot u near few is).behind in
          All-cons (λ (v : Undo). All (IsTarget X lanes k) (restores v)) u [] (restores_heap X lanes k u 0 u.count (omega (arith, behind))) (All-nil (λ (v : Undo). All (IsTarget X lanes k) (restores v)))

pub writes_targets : (X : List ℕ) (lanes zones k : ℕ) → HasSoundLogs X lanes → k < lanes → ((i : ℕ) → i < 64 → bad_entry X lanes zones k i ≡ false) → All (IsTarget X lanes k) (writes X k)
unfolding writes
writes_targets X lanes zones k sound near none = All-append (IsTarget X lanes k) (flat_map restores (records X k)) (entries X k) (records_targets X lanes k sound near) (entries_targets X lanes zones k none)

-- ---- words that the log does not change

pub untouched : (X : List ℕ) (lanes k w : ℕ) (es : List Redo) → All (IsTarget X lanes k) es → (IsHeap lanes w → ⊥) → w ≢ area_word k → for_word w es ≡ []
untouched X lanes k w [] all heap other = refl
untouched X lanes k w (e ∷ es) all heap other =
    ap (λ (b : Bool). cond b (e ∷ for_word w es) (for_word w es)) (ne_eqb (e.place / 8) w (λ same. ⊎_elim
    (λ (at : IsHeap lanes (e.place / 8)). heap (subst (IsHeap lanes) same at))
    (λ (at : (e.place / 8 ≡ area_word k) × ((e.op ≡ op.Set) × (e.value ≡ generation X k))). other (sym same ∙ at.0))
    (All-head (IsTarget X lanes k) e es all)))
    ∙ untouched X lanes k w es (All-tail (IsTarget X lanes k) e es all) heap other

-- and the generation: as it was, or what the log ends with
pub own_word : (X : List ℕ) (lanes k : ℕ) (es : List Redo) (n x : ℕ) → k < lanes → All (IsTarget X lanes k) es → (all_applied (take n (for_word (area_word k) es)) x ≡ x) ⊎ (all_applied (take n (for_word (area_word k) es)) x ≡ generation X k)
own_word X lanes k [] zero x near all = inl refl
own_word X lanes k [] (suc n) x near all = inl refl
own_word X lanes k (e ∷ es) n x near all = ⊎_elim
    (λ (own : e.place / 8 ≡ area_word k).
    let here : eqb (e.place / 8) (area_word k) ≡ true = eq-eqb (e.place / 8) (area_word k) own in
    let is : for_word (area_word k) (e ∷ es) ≡ e ∷ for_word (area_word k) es = ap (λ (b : Bool). cond b (e ∷ for_word (area_word k) es) (for_word (area_word k) es)) here in
    let goal : List Redo → Type 0 = λ fs. (all_applied (take n fs) x ≡ x) ⊎ (all_applied (take n fs) x ≡ generation X k) in
    subst goal (sym is) (kept (λ m y. own_word X lanes k es m y near (All-tail (IsTarget X lanes k) e es all)) n (⊎_elim
    (λ (at : IsHeap lanes (e.place / 8)). absurd (not_heap (subst (IsHeap lanes) own at)))
    (λ (at : (e.place / 8 ≡ area_word k) × ((e.op ≡ op.Set) × (e.value ≡ generation X k))). at.1)
    (All-head (IsTarget X lanes k) e es all))))
    (λ (other : e.place / 8 ≢ area_word k).
    let is : for_word (area_word k) (e ∷ es) ≡ for_word (area_word k) es = ap (λ (b : Bool). cond b (e ∷ for_word (area_word k) es) (for_word (area_word k) es)) (ne_eqb (e.place / 8) (area_word k) other) in
    subst (λ (fs : List Redo). (all_applied (take n fs) x ≡ x) ⊎ (all_applied (take n fs) x ≡ generation X k)) (sym is) (own_word X lanes k es n x near (All-tail (IsTarget X lanes k) e es all)))
    (cases_eq (e.place / 8) (area_word k)) where
      not_heap : IsHeap lanes (area_word k) → ⊥
      not_heap (inl root) = omega (arith, root)
      not_heap (inr behind) = omega (arith, behind, near)

      value_is : (e.op ≡ op.Set) × (e.value ≡ generation X k) → applied e x ≡ generation X k
      value_is facts = ap (λ (o : Op). Rattle.pm_record.specs.Redo.outcome o e.value x) facts.0 ∙ facts.1

      kept : ((m y : ℕ) → (all_applied (take m (for_word (area_word k) es)) y ≡ y) ⊎ (all_applied (take m (for_word (area_word k) es)) y ≡ generation X k)) → (m : ℕ) → (e.op ≡ op.Set) × (e.value ≡ generation X k) → (all_applied (take m (e ∷ for_word (area_word k) es)) x ≡ x) ⊎ (all_applied (take m (e ∷ for_word (area_word k) es)) x ≡ generation X k)
      kept later zero facts = inl refl
      kept later (suc m) facts = inr (⊎_elim
          (λ (same : all_applied (take m (for_word (area_word k) es)) (applied e x) ≡ applied e x). same ∙ value_is facts)
          (λ (last : all_applied (take m (for_word (area_word k) es)) (applied e x) ≡ generation X k). last)
          (later m (applied e x)))
