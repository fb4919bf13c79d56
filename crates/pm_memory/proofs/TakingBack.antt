-- The changes of a word that are not kept, taken back from the last change to the first.
use Rattle.std.proofs.Common.{◌≡◌, ◌≢◌, ℕ, suc, ◌+◌, ◌-◌, ◌<◌, cond, eqb, Bool, true, false, List, [], ◌∷◌, ◌++◌, take, drop, length, get_or, sym, ap, ◌∙◌, arith, eq-eqb, ne_eqb, length-append}
use Rattle.std.proofs.lemmas.List.{drop_more, drop_all, take_all, append-nil}
use Rattle.std.proofs.lemmas.List.Elements.{filter_more}
use Rattle.pm_view.specs.declared.change.Change.{Change}
use Rattle.pm_view.specs.Changes.{taken_back}
use Rattle.pm_memory.specs.Changes.{changes_of}
use Rattle.pm_memory.specs.Survivors.{all_taken_back, survivor}

-- of the changes from place i on those of the word were taken back that are not kept, and so many
-- are left to take
pub record IsTakenTo (kept w value : ℕ) (changes : List Change) (i left to_take : ℕ) : Type 0 where
  pub count : to_take ≡ length (changes_of w (take i changes)) - kept
  pub taken : left ≡ all_taken_back (drop (kept - length (changes_of w (take i changes))) (changes_of w (drop i changes))) value

pub taken_none : (kept w value : ℕ) (changes : List Change) (to_take : ℕ) → to_take ≡ length (changes_of w changes) - kept → IsTakenTo kept w value changes (length changes) value to_take
taken_none kept w value changes to_take count =
    let all : take (length changes) changes ≡ changes = take_all (length changes) changes (omega arith) in
    let nothing : drop (length changes) changes ≡ [] = drop_all (length changes) changes (omega arith) in
    let more : ℕ = kept - length (changes_of w (take (length changes) changes)) in
    record {
      count = count ∙ ap (λ (cs : List Change). length (changes_of w cs) - kept) (sym all);
      taken = sym (ap (λ (cs : List Change). all_taken_back (drop more (changes_of w cs)) value) nothing ∙ ap (λ (cs : List Change). all_taken_back cs value) (drop_all more [] (omega arith)));
    }

pub taken_all : (kept w value : ℕ) (changes : List Change) (left to_take : ℕ) → IsTakenTo kept w value changes 0 left to_take → left ≡ survivor kept changes w value
taken_all kept w value changes left to_take is = let e : kept - 0 ≡ kept = omega arith in is.taken ∙ ap (λ n. all_taken_back (drop n (changes_of w changes)) value) e

-- one change earlier
module _ (kept w value : ℕ) (changes : List Change) (j : ℕ) (d : Change) (within : j < length changes) (left to_take : ℕ) (is : IsTakenTo kept w value changes (j + 1) left to_take) where
  abbrev change : Change
  change = get_or changes j d

  abbrev before : ℕ
  before = length (changes_of w (take j changes))

  abbrev later : List Change
  later = changes_of w (drop (j + 1) changes)

  front : (b : Bool) → eqb change.word w ≡ b → length (changes_of w (take (j + 1) changes)) ≡ length (changes_of w (take j changes) ++ cond b (change ∷ []) [])
  front b is_of = ap length (filter_more (λ (c : Change). eqb c.word w) changes j d within) ∙ ap (λ e. length (changes_of w (take j changes) ++ cond e (change ∷ []) [])) is_of

  back : (b : Bool) → eqb change.word w ≡ b → changes_of w (drop j changes) ≡ cond b (change ∷ later) later
  back b is_of = ap (changes_of w) (drop_more changes j d within) ∙ ap (λ e. cond e (change ∷ later) later) is_of

  of_other : change.word ≢ w → length (changes_of w (take (j + 1) changes)) ≡ before
  of_other differ = front false (ne_eqb change.word w differ) ∙ ap length (append-nil (changes_of w (take j changes)))

  of_same : change.word ≡ w → length (changes_of w (take (j + 1) changes)) ≡ before + 1
  of_same same = front true (eq-eqb change.word w same) ∙ length-append (changes_of w (take j changes)) (change ∷ [])

  pub taken-other : change.word ≢ w → IsTakenTo kept w value changes j left to_take
  taken-other differ =
      let count = of_other differ in
      record {
        count = is.count ∙ ap (λ n. n - kept) count;
        taken = is.taken ∙ (ap (λ n. all_taken_back (drop (kept - n) later) value) count ∙ ap (λ (cs : List Change). all_taken_back (drop (kept - before) cs) value) (sym (back false (ne_eqb change.word w differ))));
      }

  pub taken-more : change.word ≡ w → 0 < to_take → IsTakenTo kept w value changes j (taken_back change left) (to_take - 1)
  taken-more same some =
      let count = of_same same in
      let so_far : kept - length (changes_of w (take (j + 1) changes)) ≡ 0 = omega (arith, is.count) in
      let now : kept - before ≡ 0 = omega (arith, is.count) in
      record {
        count = omega (arith, is.count, count);
        taken =
            ap (taken_back change) (is.taken ∙ ap (λ n. all_taken_back (drop n later) value) so_far)
            ∙ sym (ap (λ (cs : List Change). all_taken_back (drop (kept - before) cs) value) (back true (eq-eqb change.word w same)) ∙ ap (λ n. all_taken_back (drop n (change ∷ later)) value) now);
      }

  pub taken-kept : change.word ≡ w → to_take ≡ 0 → IsTakenTo kept w value changes j left to_take
  taken-kept same none =
      let count = of_same same in
      let so_far : kept - before ≡ suc (kept - length (changes_of w (take (j + 1) changes))) = omega (arith, is.count, count) in
      record {
        count = omega (arith, is.count, count);
        taken =
            is.taken
            ∙ sym (ap (λ (cs : List Change). all_taken_back (drop (kept - before) cs) value) (back true (eq-eqb change.word w same)) ∙ ap (λ n. all_taken_back (drop n (change ∷ later)) value) so_far);
      }
