use Rattle.std.proofs.Common.{◌≡◌, ◌*◌, ℕ, refl, sym, ◌∙◌, ap, arith}
use Rattle.std.specs.Option.{option_map}
use Rattle.std.specs.List.{find, flat_map, range_with_len}
use Rattle.pm_image.specs.Logs.{covers, old_word, records, record_for}
use Rattle.pm_image.proofs.Finding.{find_there_made, find_nowhere, found_nothing}
use Rattle.pm_image.proofs.recovering.undone.Goals as goal

pub loop-lane-init : goal.loop-lane-init
loop-lane-init c = refl

pub returns-in-Some : goal.returns-in-Some
unfolding record_for
returns-in-Some c =
    sym (find_there_made (λ u. covers u (8 * c.args.word)) (records c.args.image.now) (λ u. old_word u (8 * c.args.word)) c.args.lanes c.loop-lane.lane c.in-Some.old c.loop-lane-test.true c.loop-lane.invariant
    (sym c.undone_by.ensures ∙ c.in-Some.is))

pub loop-lane-preserved : goal.loop-lane-preserved
loop-lane-preserved c =
    find_nowhere (λ u. covers u (8 * c.args.word)) (records c.args.image.now) c.loop-lane.lane c.loop-lane.invariant
    (found_nothing (λ u. old_word u (8 * c.args.word)) _ (sym c.undone_by.ensures ∙ c.in_default.is))

pub returns : goal.returns
unfolding record_for
returns c =
    let all : c.loop-lane.lane ≡ c.args.lanes = omega arith in
    sym (ap (option_map (λ u. old_word u (8 * c.args.word)))
    (ap (λ (n : ℕ). find (λ u. covers u (8 * c.args.word)) (flat_map (records c.args.image.now) (range_with_len 0 n))) (sym all) ∙ c.loop-lane.invariant))
