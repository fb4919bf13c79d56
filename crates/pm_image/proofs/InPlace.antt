-- The list of recovered words has each in its place.
use Rattle.std.proofs.Common.{◌≡◌, ℕ, ◌<◌, List, length, zero-add}
use Rattle.std.proofs.lemmas.List.FromFn.{get_or-map-range_with_len}
use Rattle.pm_image.specs.Logs.{recovered, recovered_words, recovered_at}

pub recovered_in_place : (image : List ℕ) (lanes i : ℕ) → i < length image → recovered_at image lanes i ≡ recovered image lanes i
unfolding recovered_words
recovered_in_place image lanes i inside = get_or-map-range_with_len (recovered image lanes) 0 (length image) i i 0 inside (zero-add i)
