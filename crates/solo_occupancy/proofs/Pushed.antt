-- A word more behind those that were found.
use Rattle.std.proofs.Common.{◌≡◌, ℕ, ◌+◌, ◌<◌, List, [], ◌∷◌, ◌++◌, length, slice_index, sym, ap, ◌∙◌, subst, arith, below_more}
use Rattle.std.proofs.lemmas.List.{get_or_append_left}
use Rattle.std.proofs.Math.Seq.{get_or-append_seam}

-- what holds of each word, and of one more at the end, holds of all
pub pushed_holds : (P : ℕ → ℕ → Type 0) (words all : List ℕ) (word n : ℕ) → all ≡ words ++ word ∷ [] → length words ≡ n → ((k : ℕ) → k < n → P k (slice_index words k)) → P n word → (k : ℕ) → k < n + 1 → P k (slice_index all k)
pushed_holds P words all word n is count before here =
    below_more (λ k. P k (slice_index all k)) n
    (λ k low. let inside : k < length words = omega arith in subst (P k) (sym (ap (λ xs. slice_index xs k) is ∙ get_or_append_left words (word ∷ []) 0 k inside)) (before k low))
    (subst (P n) (sym (ap (λ xs. slice_index xs n) is ∙ ap (slice_index (words ++ word ∷ [])) (sym count) ∙ get_or-append_seam words word [] 0)) here)
