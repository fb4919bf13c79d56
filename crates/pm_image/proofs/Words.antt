-- The recovered word by its three cases.
use Rattle.std.proofs.Common.{◌≡◌, ℕ, List, [], ◌∷◌, Option, Some, None, refl, sym, ◌∙◌}
use Rattle.std.specs.Option.{option_map}
use Rattle.pm_record.specs.declared.redo.Redo.{Redo}
use Rattle.pm_record.specs.declared.undo.Undo.{Undo}
use Rattle.pm_image.specs.Logs.{old_word, recovered_by, all_applied}
use Rattle.pm_image.specs.Steps.{made}
use Rattle.pm_image.proofs.Redoing.{made_none, made_all}

-- entries of sealed lanes made it
pub by_entries : (es : List Redo) (record_there : Option Undo) (place word value : ℕ) → made None es word ≡ Some value → value ≡ recovered_by es record_there place word
by_entries [] record_there place word value is = absurd (let clash : None ≡ Some value = sym (made_none None word) ∙ is in cc)
by_entries (e ∷ es) record_there place word value is = let same : Some (all_applied (e ∷ es) word) ≡ Some value = sym (made_all e es word) ∙ is in sym cc

-- a record restores it
pub by_record : (es : List Redo) (record_there : Option Undo) (place word old : ℕ) → made None es word ≡ None → option_map (λ u. old_word u place) record_there ≡ Some old
    → old ≡ recovered_by es record_there place word
by_record (e ∷ es) record_there place word old none is = absurd (let clash : Some (all_applied (e ∷ es) word) ≡ None = sym (made_all e es word) ∙ none in cc)
by_record [] None place word old none is = absurd cc
by_record [] (Some u) place word old none is = let same : Some (old_word u place) ≡ Some old = is in sym cc

-- neither
pub as_it_stands : (es : List Redo) (record_there : Option Undo) (place word : ℕ) → made None es word ≡ None → option_map (λ u. old_word u place) record_there ≡ None
    → word ≡ recovered_by es record_there place word
as_it_stands (e ∷ es) record_there place word none is = absurd (let clash : Some (all_applied (e ∷ es) word) ≡ None = sym (made_all e es word) ∙ none in cc)
as_it_stands [] None place word none is = refl
as_it_stands [] (Some u) place word none is = absurd cc
