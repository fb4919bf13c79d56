use Rattle.std.proofs.Common.{◌≡◌, false, List, take, get_or, sym, subst, rules}
use Rattle.std.proofs.lemmas.List.{take_more}
use Rattle.pm_model.specs.Items.{is_among}
use Rattle.pm_world.specs.declared.lane.KeptRecord.{KeptRecord}
use Rattle.pm_undo.specs.Records.{no_record}
use Rattle.pm_undo.specs.Spans.{words_in}
use Rattle.pm_undo.proofs.Planning.{none_recorded, one_record_more, in_a_record}
use Rattle.pm_undo.proofs.spans.is_recorded.Goals as goal

pub loop-kept-init : goal.loop-kept-init
loop-kept-init c = none_recorded c.args.word

pub returns-then-has : goal.returns-then-has
returns-then-has c = let yes = c.has.ensures.yes (search rules) in sym (in_a_record c.args.records.now c.loop-kept.kept-index c.args.word no_record c.loop-kept-test.true yes.0 yes.1)

pub loop-kept-preserved : goal.loop-kept-preserved
loop-kept-preserved c =
    subst (λ (records : List KeptRecord). is_among (words_in records) c.args.word ≡ false) (sym (take_more c.args.records.now c.loop-kept.kept-index no_record c.loop-kept-test.true))
    (one_record_more (take c.loop-kept.kept-index c.args.records.now) (get_or c.args.records.now c.loop-kept.kept-index no_record) c.args.word c.loop-kept.invariant (c.has.ensures.no_ (search rules)))
