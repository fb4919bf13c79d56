use Rattle.std.proofs.Common.{◌≡◌, ◌*◌, ◌&&◌, ◌||◌, Bool, false, ltb, sym, ◌∙◌}
use Rattle.std.proofs.lemmas.Bool.{le-ltb, lt-ltb}
use Rattle.pm_image.specs.LogFaults.{lanes_clash}
use Rattle.pm_image.proofs.Masks.{clash_by_counts, entries_are, marks_are, or_first}
use Rattle.pm_image.proofs.clashes.is_clash.Goals as goal

pub returns-then-do_records_clash : goal.returns-then-do_records_clash
returns-then-do_records_clash c =
    let place = 8 * c.args.word in
    let lanes_do : Bool = ltb 1 c.word-entries.result && lanes_clash c.args.image.now c.args.lanes place in
    let whole = clash_by_counts c.args.image.now c.args.lanes place c.word-records.result c.word-entries.result
    (c.word-records.ensures ∙ marks_are c.args.image.now c.args.lanes c.args.word c.args.marks.now.records c.args.marks.now.entries c.requires.marks c.requires.word)
    (c.word-entries.ensures ∙ entries_are c.args.image.now c.args.lanes c.args.word c.args.marks.now.records c.args.marks.now.entries c.requires.marks c.requires.word) in
    or_first c.do_records_clash.result lanes_do c.if-do_records_clash.true ∙ (λ j. c.do_records_clash.ensures j || lanes_do) ∙ whole

pub returns-then-entries-gt1 : goal.returns-then-entries-gt1
returns-then-entries-gt1 c =
    let place = 8 * c.args.word in
    let whole = clash_by_counts c.args.image.now c.args.lanes place c.word-records.result c.word-entries.result
    (c.word-records.ensures ∙ marks_are c.args.image.now c.args.lanes c.args.word c.args.marks.now.records c.args.marks.now.entries c.requires.marks c.requires.word)
    (c.word-entries.ensures ∙ entries_are c.args.image.now c.args.lanes c.args.word c.args.marks.now.records c.args.marks.now.entries c.requires.marks c.requires.word) in
    c.do_lanes_clash.ensures
    ∙ (λ j. sym c.if-do_records_clash.false j || (sym (lt-ltb 1 c.word-entries.result c.if-entries-gt1.true) j && lanes_clash c.args.image.now c.args.lanes place))
    ∙ (λ j. c.do_records_clash.ensures j || (ltb 1 c.word-entries.result && lanes_clash c.args.image.now c.args.lanes place))
    ∙ whole

pub returns-else-entries-gt1 : goal.returns-else-entries-gt1
returns-else-entries-gt1 c =
    let place = 8 * c.args.word in
    let whole = clash_by_counts c.args.image.now c.args.lanes place c.word-records.result c.word-entries.result
    (c.word-records.ensures ∙ marks_are c.args.image.now c.args.lanes c.args.word c.args.marks.now.records c.args.marks.now.entries c.requires.marks c.requires.word)
    (c.word-entries.ensures ∙ entries_are c.args.image.now c.args.lanes c.args.word c.args.marks.now.records c.args.marks.now.entries c.requires.marks c.requires.word) in
    let few : ltb 1 c.word-entries.result ≡ false = le-ltb 1 c.word-entries.result c.if-entries-gt1.false in
    few
    ∙ (λ j. sym c.if-do_records_clash.false j || (sym few j && lanes_clash c.args.image.now c.args.lanes place))
    ∙ (λ j. c.do_records_clash.ensures j || (ltb 1 c.word-entries.result && lanes_clash c.args.image.now c.args.lanes place))
    ∙ whole
