use Rattle.std.proofs.Common.{All, ◌∙◌, sym, subst}
use Rattle.solo_crash.specs.Pending.{pending_before}
use Rattle.solo_reclaim.specs.KeptBlocks.{Keeps}
use Rattle.solo_transaction.proofs.RestsBehindEnd.{reserved_kept}
use Rattle.solo_exec.proofs.Closed.{answered, may_end}
use Rattle.solo_exec.proofs.ending.answer.Goals as goal

pub blocks_reserved-requires : goal.blocks_reserved-requires
blocks_reserved-requires c = let t = c.requires in let r = t.1.1 in let over = r.1.1.1.1.1 in (over.view, over.stands, over.pending)

pub end-requires : goal.end-requires
end-requires c = record {
  may = λ open_ level.
      let t = c.requires in
      let r = t.1.1 in
      let over = r.1.1.1.1.1 in
      let kept = c.as_slice.ensures.value ∙ c.in_ok-kept.ensures (pending_before over.view) over.pending in (
        over.view,
        (
          may_end t.0 t.1.0 c.args.lane.now c.args.lane.now r.0 c.args.pending.now r.1.0 r.1.1.0 r.1.1.1.0 r.1.1.1.1.0 over,
          subst (All (Keeps over.view)) (sym kept) (reserved_kept over.view over.stands),
        ),
      );
}

pub returns-clause-made : goal.returns-clause-made
returns-clause-made c o first blocks names lines told error over so =
    let kept = c.as_slice.ensures.value ∙ c.in_ok-kept.ensures (pending_before over.view) over.pending in
    let pending = c.args.pending.now in
    answered o first c.args.lane.now c.end.new.lane blocks pending names lines told error over c.as_slice.result.now kept
    (c.in-Ok.ensures.ended over.view (may_end o first c.args.lane.now c.end.new.lane blocks pending names lines told error over) (subst (All (Keeps over.view)) (sym kept) (reserved_kept over.view over.stands)) over.level)
    c.in-Ok.error c.args.reply c.in-Ok.ensures.error so
