-- Words that entries are applied to one after the other.
use Rattle.std.proofs.Common.{◌≡◌, ℕ, ◌*◌, ◌<◌, Bool, eqb, List, [], ◌∷◌, ◌++◌, slice_index, refl, sym, ◌∙◌, ap, subst}
use Rattle.std.specs.List.{filter}
use Rattle.std.proofs.lemmas.List.Elements.{filter-append}
use Rattle.pm_record.specs.Redo.{applied}
use Rattle.pm_record.specs.declared.redo.Redo.{Redo}
use Rattle.pm_image.specs.Logs.{all_applied}
use Rattle.pm_recover.specs.Steps.{AreApplied}

all_applied-append : (xs ys : List Redo) (word : ℕ) → all_applied (xs ++ ys) word ≡ all_applied ys (all_applied xs word)
all_applied-append [] ys word = refl
all_applied-append (x ∷ xs) ys word = all_applied-append xs ys (applied x word)

-- further entries
pub applied_then : (es fs : List Redo) (lanes : ℕ) (old now new : List ℕ) → AreApplied es lanes old now → AreApplied fs lanes now new → AreApplied (es ++ fs) lanes old new
applied_then es fs lanes old now new before is = record {
  as_long = is.as_long ∙ before.as_long;
  outside = λ i inside outside.
      let here : Redo → Bool = λ (e : Redo). eqb e.place (8 * i) in
      is.outside i (subst (λ (n : ℕ). i < n) (sym before.as_long) inside) outside
      ∙ ap (all_applied (filter here fs)) (before.outside i inside outside)
      ∙ sym (ap (λ (xs : List Redo). all_applied xs (slice_index old i)) (filter-append here es fs) ∙ all_applied-append (filter here es) (filter here fs) (slice_index old i));
  inside = λ i from to. is.inside i from to ∙ before.inside i from to;
}
