-- The words of a whole image as its logs leave them are its recovered words.
use Rattle.std.proofs.Common.{◌≡◌, ℕ, ◌*◌, ◌<◌, eqb, List, length, get_or, ◌∙◌}
use Rattle.std.specs.List.{filter, find, flat_map, range_with_len}
use Rattle.std.proofs.lemmas.List.FromFn.{fill_by_all, length-map-range_with_len}
use Rattle.pm_record.specs.declared.redo.Redo.{Redo}
use Rattle.pm_record.specs.declared.undo.Undo.{Undo}
use Rattle.pm_image.specs.Logs.{covers, entries, records, entries_for, record_for, recovered, recovered_by, recovered_words}
use Rattle.pm_image.specs.Steps.{logged}

logged_is_recovered : (image : List ℕ) (lanes i : ℕ) (es : List Redo) (us : List Undo) → es ≡ flat_map (entries image) (range_with_len 0 lanes) → us ≡ flat_map (records image) (range_with_len 0 lanes)
    → logged es us image i ≡ recovered image lanes i
unfolding recovered entries_for record_for
logged_is_recovered image lanes i es us entries_are records_are =
    (λ k. recovered_by (filter (λ e. eqb e.place (8 * i)) (entries_are k)) (find (λ u. covers u (8 * i)) (records_are k)) (8 * i) (get_or image i 0))

pub all_recovered : (image words : List ℕ) (lanes : ℕ) (es : List Redo) (us : List Undo) → es ≡ flat_map (entries image) (range_with_len 0 lanes) → us ≡ flat_map (records image) (range_with_len 0 lanes)
    → length words ≡ length image → ((i : ℕ) → i < length image → get_or words i 0 ≡ logged es us image i) → words ≡ recovered_words image lanes
unfolding recovered_words
all_recovered image words lanes es us entries_are records_are long each =
    fill_by_all (recovered image lanes) words (length image) 0 long (λ i inside. each i inside ∙ logged_is_recovered image lanes i es us entries_are records_are)

pub length-recovered_words : (image : List ℕ) (lanes : ℕ) → length (recovered_words image lanes) ≡ length image
unfolding recovered_words
length-recovered_words image lanes = length-map-range_with_len (recovered image lanes) 0 (length image)
