use Rattle.std.proofs.Common.{List, ℕ, slice_index, sym, subst}
use Rattle.solo_view.specs.Occupancy.{IsOccupancy}
use Rattle.solo_occupancy.specs.Words.{run_words_of}
use Rattle.solo_occupancy.proofs.Words.{words_are_occupancy}
use Rattle.solo_occupancy.proofs.occupancy.occupancy_of.Goals as goal

pub returns-clause-occupied : goal.returns-clause-occupied
returns-clause-occupied c =
    let words = slice_index c.args.words.now in
    let lanes = c.args.shape.lanes in
    let zones = c.args.shape.zones in
    subst (λ (runs : List ℕ). IsOccupancy runs c.in_ok-zones.zones.items words lanes zones) (sym c.in_ok-runs.ensures)
    (subst (λ (all : List ℕ). IsOccupancy (run_words_of words lanes zones) all words lanes zones) (sym c.in_ok-zones.ensures) (words_are_occupancy words lanes zones c.args.shape.zones_to))
