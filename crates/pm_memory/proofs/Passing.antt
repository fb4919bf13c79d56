-- The words of a lane's changes, taken back one after the other.
use Rattle.std.proofs.Common.{◌≡◌, ◌≢◌, ◌⊎◌, inl, inr, ⊎_elim, ℕ, ◌+◌, ◌<◌, ◌≤◌, cond, Bool, true, false, List, length, slice_index, set, refl, sym, ap, ◌∙◌, subst, arith, length-set, get_or-set_same, get_or-set_other}
use Rattle.std.specs.List.{All, Any}
use Rattle.std.proofs.lemmas.Bool.{cases_eq, cases_lt}
use Rattle.pm_view.specs.declared.change.Change.{Change}
use Rattle.pm_memory.specs.Changes.{changes_of}
use Rattle.pm_memory.specs.declared.survivors.Kept.{Kept}
use Rattle.pm_memory.specs.Keep.{kept_of, touched_below}
use Rattle.pm_memory.specs.Keeping.{kept_after, kept_by, IsTakenBack}
use Rattle.pm_memory.specs.Survivors.{survivor}
use Rattle.pm_memory.proofs.Touching.{is_touched, touched_below-none, touched_below-next, touched_below-gap, untouched, is_touched-changed, survivor-untouched}

-- the words below this one are done, and as many pairs drawn; it is the next that is touched, or
-- the end
pub record IsPassed (changes : List Change) (words left : List ℕ) (old new : Kept) (word : ℕ) : Type 0 where
  pub within : word ≤ length words
  pub size : length left ≡ length words
  pub touched : word < length words → is_touched word changes ≡ true
  pub rest : (w : ℕ) → word ≤ w → slice_index left w ≡ slice_index words w
  pub drawn : (keep draws : ℕ) → old ≡ kept_after keep draws → new ≡ kept_after keep (draws + touched_below word changes)
  pub each : (keep draws : ℕ) → old ≡ kept_after keep draws → (w : ℕ) → w < word → slice_index left w ≡ survivor (kept_by keep draws changes w) changes w (slice_index words w)

pub passed_none : (changes : List Change) (words : List ℕ) (old : Kept) (word : ℕ) → word ≤ length words → (word < length words → Any (λ (c : Change). c.word ≡ word) changes) → All (λ (c : Change). 0 ≤ c.word → word ≤ c.word) changes → IsPassed changes words words old old word
passed_none changes words old word within changed above =
    let none : (u : ℕ) → 0 ≤ u → u < word → is_touched u changes ≡ false = untouched 0 word changes above in
    let count : touched_below word changes ≡ 0 = touched_below-gap 0 word changes (omega arith) none ∙ touched_below-none changes in
    record {
      within = within;
      size = refl;
      touched = λ inside. is_touched-changed word changes (changed inside);
      rest = λ w low. refl;
      drawn = λ keep draws is. let e : draws ≡ draws + touched_below word changes = omega arith in is ∙ ap (kept_after keep) e;
      each = λ keep draws is w low. sym (survivor-untouched (kept_by keep draws changes w) w (slice_index words w) changes (none w (omega arith) low));
    }

apart : (w word : ℕ) → w ≢ word → (w < word) ⊎ (word < w)
apart w word differ = ⊎_elim (λ (low : w < word). inl low) (λ (high : word ≤ w). inr (omega arith)) (cases_lt w word)

-- one word more
module _ (changes : List Change) (words left : List ℕ) (old new newer : Kept) (word next first x : ℕ) (is : IsPassed changes words left old new word) (inside : word < length words) where
  pub passed_more :
      ((keep draws : ℕ) → new ≡ kept_after keep draws → first ≡ kept_of keep draws (length (changes_of word changes)))
      → ((keep draws : ℕ) → new ≡ kept_after keep draws → newer ≡ kept_after keep (draws + 1))
      → x ≡ survivor first changes word (slice_index left word)
      → word + 1 ≤ next → next ≤ length words → (next < length words → Any (λ (c : Change). c.word ≡ next) changes) → All (λ (c : Change). word + 1 ≤ c.word → next ≤ c.word) changes
      → IsPassed changes words (set left word x) old newer next
  passed_more kept moved leaves low within changed above =
      let none : (u : ℕ) → word + 1 ≤ u → u < next → is_touched u changes ≡ false = untouched (word + 1) next changes above in
      let count : touched_below next changes ≡ touched_below word changes + 1 =
      touched_below-gap (word + 1) next changes low none ∙ (touched_below-next word changes ∙ ap (λ (b : Bool). touched_below word changes + cond b 1 0) (is.touched inside)) in
      let there : (w : ℕ) → w ≢ word → slice_index (set left word x) w ≡ slice_index left w = λ w differ. get_or-set_other left word w x 0 differ in
      record {
        within = within;
        size = length-set left word x ∙ is.size;
        touched = λ more. is_touched-changed next changes (changed more);
        rest = λ w high. there w (omega arith) ∙ is.rest w (omega arith);
        drawn = λ keep draws was. let e : draws + touched_below word changes + 1 ≡ draws + touched_below next changes = omega arith in moved keep (draws + touched_below word changes) (is.drawn keep draws was) ∙ ap (kept_after keep) e;
        each = λ keep draws was w below. ⊎_elim
            (λ (same : w ≡ word).
            let here : slice_index (set left word x) word ≡ x = get_or-set_same left word x 0 (omega (arith, is.size)) in
            let old_word : slice_index left word ≡ slice_index words word = is.rest word (omega arith) in
            let so : x ≡ survivor (kept_by keep draws changes word) changes word (slice_index words word) =
            leaves ∙ (ap (λ n. survivor n changes word (slice_index left word)) (kept keep (draws + touched_below word changes) (is.drawn keep draws was)) ∙ ap (survivor (kept_by keep draws changes word) changes word) old_word) in
            subst (λ u. slice_index (set left word x) u ≡ survivor (kept_by keep draws changes u) changes u (slice_index words u)) (sym same) (here ∙ so))
            (λ (differ : w ≢ word). there w differ ∙ ⊎_elim
            (λ (before : w < word). is.each keep draws was w before)
            (λ (behind : word < w). is.rest w (omega arith) ∙ sym (survivor-untouched (kept_by keep draws changes w) w (slice_index words w) changes (none w (omega arith) below)))
            (apart w word differ))
            (cases_eq w word);
      }

pub passed_all : (changes : List Change) (words left : List ℕ) (old new : Kept) (word keep draws : ℕ) → IsPassed changes words left old new word → length words ≤ word → old ≡ kept_after keep draws → IsTakenBack keep draws changes words left
passed_all changes words left old new word keep draws is end was = record { size = is.size; each = λ w inside. is.each keep draws was w (omega arith) }

pub drawn_all : (changes : List Change) (words left : List ℕ) (old new : Kept) (word keep draws : ℕ) → IsPassed changes words left old new word → length words ≤ word → old ≡ kept_after keep draws → new ≡ kept_after keep (draws + touched_below (length words) changes)
drawn_all changes words left old new word keep draws is end was =
    let e : word ≡ length words = omega (arith, is.within) in
    is.drawn keep draws was ∙ ap (λ w. kept_after keep (draws + touched_below w changes)) e
