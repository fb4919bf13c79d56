-- The words of records, as a list.
use Rattle.std.proofs.Common.{◌≡◌, ◌≢◌, ⊎_elim, ℕ, zero, suc, ◌+◌, ◌<◌, ◌≤◌, ◌&&◌, ◌||◌, true, false, eqb, leb, ltb, List, [], ◌∷◌, length, refl, sym, ◌∙◌, arith}
use Rattle.std.specs.List.{range_with_len}
use Rattle.std.proofs.lemmas.Bool.{and_from, and_parts, cases_Bool, cases_eq, eq-eqb, eqb-true, false_from_ne_true, false≢true, le-leb, leb-true, lt-ltb, ltb-true, or_cases, or_left, or_right}
use Rattle.std.proofs.lemmas.List.Folds.{list_any-append}
use Rattle.solo_model.specs.Bytes.{is_among}
use Rattle.solo_view.specs.Log.{Recorded}
use Rattle.solo_world.specs.Records.{is_recorded}
use Rattle.solo_crash.specs.OpenCall.{words_of_record, words_recorded}

in_run : (from n i : ℕ) → is_among (range_with_len from n) i ≡ true → (from ≤ i) × (i < from + n)
in_run from zero i is = absurd (false≢true is)
in_run from (suc n) i is = ⊎_elim
    (λ (here : eqb from i ≡ true). let same = eqb-true from i here in (omega arith, omega arith))
    (λ (later : is_among (range_with_len (from + 1) n) i ≡ true). let rest = in_run (from + 1) n i later in let low = rest.0 in let high = rest.1 in (omega arith, omega arith))
    (or_cases (eqb from i) (is_among (range_with_len (from + 1) n) i) is)

run_has : (from n i : ℕ) → from ≤ i → i < from + n → is_among (range_with_len from n) i ≡ true
run_has from zero i low high = absurd (omega arith)
run_has from (suc n) i low high = ⊎_elim
    (λ (same : from ≡ i). or_left (eqb from i) (is_among (range_with_len (from + 1) n) i) (eq-eqb from i same))
    (λ (other : from ≢ i). or_right (eqb from i) (is_among (range_with_len (from + 1) n) i) (run_has (from + 1) n i (omega arith) (omega arith)))
    (cases_eq from i)

among_run : (from n i : ℕ) → is_among (range_with_len from n) i ≡ (leb from i && ltb i (from + n))
among_run from n i = ⊎_elim
    (λ (yes : is_among (range_with_len from n) i ≡ true). let t = in_run from n i yes in yes ∙ sym (and_from (leb from i) (ltb i (from + n)) (le-leb from i t.0) (lt-ltb i (from + n) t.1)))
    (λ (no : is_among (range_with_len from n) i ≡ false). no ∙ sym (false_from_ne_true (leb from i && ltb i (from + n)) (λ both.
    let t = and_parts (leb from i) (ltb i (from + n)) both in
    false≢true (sym no ∙ run_has from n i (leb-true from i t.0) (ltb-true i (from + n) t.1)))))
    (cases_Bool (is_among (range_with_len from n) i))

-- a word is among those of the records where one of them covers it
pub among_recorded : (records : List Recorded) (i : ℕ) → is_among (words_recorded records) i ≡ is_recorded records i
among_recorded [] i = refl
among_recorded (r ∷ records) i =
    list_any-append (λ (other : ℕ). eqb other i) (words_of_record r) (words_recorded records)
    ∙ (λ j. among_run r.word (length r.old) i j || among_recorded records i j)
