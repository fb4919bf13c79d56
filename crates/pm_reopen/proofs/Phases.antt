-- What survives in each part of the plan: changes, flushes, and at the end a drain.
use Rattle.std.proofs.Common.{◌≡◌, ⊎_elim, ℕ, zero, suc, ◌/◌, ◌^◌, ◌<◌, ◌≤◌, eqb, All, List, [], ◌∷◌, ◌++◌, length, take, slice_index, refl, sym, ◌∙◌, ap, subst, arith}
use Rattle.std.proofs.lemmas.Bool.{cases_lt}
use Rattle.std.proofs.lemmas.List.{append-nil, append_assoc, take-append-le, take_all}
use Rattle.std.proofs.lemmas.List.Elements.{All-head, All-tail, filter-append}
use Rattle.pm_record.specs.declared.redo.Redo.{Redo}
use Rattle.pm_image.specs.Logs.{all_applied}
use Rattle.pm_memory.specs.Solo.{Solo}
use Rattle.pm_memory.specs.Survivors.{Survives}
use Rattle.pm_reopen.specs.Plan.{MemoryCall}
use Rattle.pm_reopen.specs.Plan.MemoryCall.{Change, Drain, Flush}
use Rattle.pm_reopen.specs.Running.{after_call, after_calls}
use Rattle.pm_reopen.proofs.Surviving.{IsPartlyWritten, IsWriting, flush_written, for_word, nothing_written, one_written, survivor_written}

-- the changes among these calls
unfoldable pub changes_among : List MemoryCall → List Redo
changes_among [] = []
changes_among (Change e ∷ calls) = e ∷ changes_among calls
changes_among (Flush line ∷ calls) = changes_among calls
changes_among (Drain ∷ calls) = changes_among calls

-- no call is a drain
unfoldable pub HasNoDrain : List MemoryCall → Type 0
HasNoDrain [] = Unit {0}
HasNoDrain (Change e ∷ calls) = HasNoDrain calls
HasNoDrain (Flush line ∷ calls) = HasNoDrain calls
HasNoDrain (Drain ∷ calls) = ⊥

-- the change is of one of so many words, and of 64 bits
abbrev pub IsInside : ℕ → Redo → Type 0
IsInside n e = (e.place / 8 < n) × (e.value < 2 ^ 64)

pub calls_write : (es : List Redo) (words : List ℕ) (m : Solo) (calls : List MemoryCall) → IsWriting es words m → HasNoDrain calls → All (IsInside (length words)) (changes_among calls)
    → IsWriting (es ++ changes_among calls) words (after_calls m calls)
unfolding changes_among HasNoDrain after_calls
calls_write es words m [] before none all = subst (λ (fs : List Redo). IsWriting fs words m) (sym (append-nil es)) before
calls_write es words m (Change e ∷ calls) before none all =
    let here : IsInside (length words) e = All-head (IsInside (length words)) e (changes_among calls) all in
    subst (λ (fs : List Redo). IsWriting fs words (after_calls (after_call m (Change e)) calls)) (append_assoc es (e ∷ []) (changes_among calls))
    (calls_write (es ++ e ∷ []) words (after_call m (Change e)) calls (one_written es words m e before here.0 here.1) none (All-tail (IsInside (length words)) e (changes_among calls) all))
calls_write es words m (Flush line ∷ calls) before none all = calls_write es words (after_call m (Flush line)) calls (flush_written es words m line before) none all
calls_write es words m (Drain ∷ calls) before none all = absurd none

-- ---- the first calls

first_among : (calls : List MemoryCall) (n : ℕ) → (rest : List Redo) × (changes_among calls ≡ changes_among (take n calls) ++ rest)
unfolding changes_among
first_among [] zero = ([], refl)
first_among [] (suc n) = ([], refl)
first_among (c ∷ calls) zero = (changes_among (c ∷ calls), refl)
first_among (Change e ∷ calls) (suc n) = let more = first_among calls n in (more.0, ap (λ (es : List Redo). e ∷ es) more.1)
first_among (Flush line ∷ calls) (suc n) = first_among calls n
first_among (Drain ∷ calls) (suc n) = first_among calls n

first_no_drain : (calls : List MemoryCall) (n : ℕ) → HasNoDrain calls → HasNoDrain (take n calls)
unfolding HasNoDrain
first_no_drain [] zero none = none
first_no_drain [] (suc n) none = none
first_no_drain (c ∷ calls) zero none = tt
first_no_drain (Change e ∷ calls) (suc n) none = first_no_drain calls n none
first_no_drain (Flush line ∷ calls) (suc n) none = first_no_drain calls n none
first_no_drain (Drain ∷ calls) (suc n) none = absurd none

-- what is written of the first changes is written of all
pub more_written : (es rest : List Redo) (words left : List ℕ) → IsPartlyWritten es words left → IsPartlyWritten (es ++ rest) words left
more_written es rest words left part = record {
  as_long = part.as_long;
  each = λ w inside.
      let some = part.each w inside in
      let split : for_word w (es ++ rest) ≡ for_word w es ++ for_word w rest = filter-append (λ (e : Redo). eqb (e.place / 8) w) es rest in
      ⊎_elim
      (λ (few : some.0 < length (for_word w es)).
      (some.0, some.1 ∙ ap (λ (fs : List Redo). all_applied fs (slice_index words w)) (sym (ap (take some.0) split ∙ take-append-le some.0 (for_word w es) (for_word w rest) (omega (arith, few))))))
      (λ (all : length (for_word w es) ≤ some.0). (
        length (for_word w es),
        some.1 ∙ ap (λ (fs : List Redo). all_applied fs (slice_index words w))
            (take_all some.0 (for_word w es) all ∙ sym (take_all (length (for_word w es)) (for_word w es) (omega arith)) ∙ sym (ap (take (length (for_word w es))) split ∙ take-append-le (length (for_word w es)) (for_word w es) (for_word w rest) (omega arith))),
      ))
      (cases_lt some.0 (length (for_word w es)));
}

abbrev pub AreSmall : List ℕ → Type 0
AreSmall words = (w : ℕ) → w < length words → slice_index words w < 2 ^ 64

-- among the changes and flushes of a part
pub part_survives : (m : Solo) (calls : List MemoryCall) (n : ℕ) (left : List ℕ) → m.changes ≡ [] → AreSmall m.words → HasNoDrain calls → All (IsInside (length m.words)) (changes_among calls)
    → Survives (after_calls m (take n calls)).words ((after_calls m (take n calls)).changes ∷ []) left → IsPartlyWritten (changes_among calls) m.words left
part_survives m calls n left none small no_drain all survives =
    let firsts = first_among calls n in
    let inside : All (IsInside (length m.words)) (changes_among (take n calls)) = All-before (IsInside (length m.words)) (changes_among (take n calls)) firsts.0 (subst (All (IsInside (length m.words))) firsts.1 all) in
    let writing : IsWriting (changes_among (take n calls)) m.words (after_calls m (take n calls)) =
    calls_write [] m.words m (take n calls) (nothing_written m none small) (first_no_drain calls n no_drain) inside in
    subst (λ (es : List Redo). IsPartlyWritten es m.words left) (sym firsts.1)
    (more_written (changes_among (take n calls)) firsts.0 m.words left (survivor_written (changes_among (take n calls)) m.words left (after_calls m (take n calls)) writing survives))
  where
    All-before : (P : Redo → Type 0) (xs ys : List Redo) → All P (xs ++ ys) → All P xs
    All-before P xs ys both = Rattle.pm_reopen.proofs.Parts.All-first P xs ys both
