use Rattle.std.proofs.Common.{◌*◌, slice_index, sym, ◌∙◌}
use Rattle.pm_image.specs.Logs.{entries_for, record_for, recovered}
use Rattle.pm_image.proofs.Words.{by_entries, by_record, as_it_stands}
use Rattle.pm_image.proofs.recovering.recovered_in.Goals as goal

pub returns-in-Some : goal.returns-in-Some
unfolding recovered
returns-in-Some c =
    by_entries (entries_for c.args.image.now c.args.lanes (8 * c.args.word)) (record_for c.args.image.now c.args.lanes (8 * c.args.word)) (8 * c.args.word) (slice_index c.args.image.now c.args.word) _
    (sym c.redone.ensures ∙ c.in-Some.is)

pub returns-in-Some-undone : goal.returns-in-Some-undone
unfolding recovered
returns-in-Some-undone c =
    by_record (entries_for c.args.image.now c.args.lanes (8 * c.args.word)) (record_for c.args.image.now c.args.lanes (8 * c.args.word)) (8 * c.args.word) (slice_index c.args.image.now c.args.word) _
    (sym c.redone.ensures ∙ c.in_default.is) (sym c.undone.ensures ∙ c.in-Some-undone.is)

pub returns-in-None : goal.returns-in-None
unfolding recovered
returns-in-None c =
    c.word.ensures
    ∙ as_it_stands (entries_for c.args.image.now c.args.lanes (8 * c.args.word)) (record_for c.args.image.now c.args.lanes (8 * c.args.word)) (8 * c.args.word) (slice_index c.args.image.now c.args.word)
    (sym c.redone.ensures ∙ c.in_default.is) (sym c.undone.ensures ∙ c.in-None.is)
