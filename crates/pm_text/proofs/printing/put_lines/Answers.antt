use Rattle.std.proofs.Common.{Err, sym, ◌∙◌, ap, subst, rules}
use Rattle.std.proofs.lemmas.Result.{err_from_is_err_and}
use Rattle.pm_text.proofs.Putting.{put_more, part_of_line, part_of_put, on_err, whole_lines, line_and_others}
use Rattle.pm_text.proofs.LineStarts.{IsFirstLineLength}
use Rattle.pm_text.proofs.printing.put_lines.Goals as goal

pub returns-in_err-put-clause-part : goal.returns-in_err-put-clause-part
returns-in_err-put-clause-part g c =
    on_err c.from_residual.result
    (part_of_line c.args.text.now c.loop-rest.rest.now c.split_at.result.0.now c.split_at.result.1.now _ (g.K.Sink.told c.loop-rest.out) _ _ _ c.loop-rest.invariant
    (line_and_others _ _ _ _ c.split_at.ensures.front c.split_at.ensures.back) (part_of_put _ _ _ c.put.result c.in_err-put.field-0.0 c.in_err-put.was c.put.ensures.part c.put.ensures.memory))

pub returns-in_err-put-clause-lines : goal.returns-in_err-put-clause-lines
returns-in_err-put-clause-lines g c =
    let given = err_from_is_err_and c.from_residual.result c.from_residual.ensures.1 in
    whole_lines c.args.text.now c.loop-rest.rest.now _ (g.K.Sink.told c.loop-rest.out) _ _ _ c.put.result c.from_residual.result c.loop-rest.invariant (search rules) (c.in_err-put.was ∙ ap Err (sym given.2) ∙ sym given.1) c.put.ensures.memory

pub loop-rest-preserved : goal.loop-rest-preserved
loop-rest-preserved g c =
    put_more c.args.text.now c.loop-rest.rest.now c.split_at.result.0.now c.split_at.result.1.now _ (g.K.Sink.told c.loop-rest.out) _ _ (g.K.Sink.faults c.loop-rest.out) _ c.loop-rest.invariant
    (line_and_others _ _ _ _ c.split_at.ensures.front c.split_at.ensures.back) (subst (IsFirstLineLength c.loop-rest.rest.now) (sym c.split_at.ensures.front_len) c.line_length.ensures.line) c.in_ok-put.ensures.ok c.put.ensures.count
