use Rattle.std.proofs.Common.{◌≡◌, ◌++◌, List, ℕ, sym, ◌∙◌, ap, arith}
use Rattle.std.specs.List.{flat_map, range_with_len}
use Rattle.pm_record.specs.declared.undo.Undo.{Undo}
use Rattle.pm_image.proofs.Gathering.{record_at, gathered_more, records_by_number}
use Rattle.pm_image.proofs.restoring.push_records.Goals as goal

pub loop-i-preserved : goal.loop-i-preserved
loop-i-preserved c = gathered_more (record_at c.args.image.now c.args.lane) c.args.found.now.items _ _ c.loop-i.i c.loop-i.invariant c.in_ok-push_record.ensures

pub returns : goal.returns
returns c =
    let end : c.loop-i.i ≡ 64 = omega arith in
    c.loop-i.invariant ∙ ap (λ (n : ℕ). c.args.found.now.items ++ flat_map (record_at c.args.image.now c.args.lane) (range_with_len 0 n)) end
    ∙ ap (λ (us : List Undo). c.args.found.now.items ++ us) (sym (records_by_number c.args.image.now c.args.lane))
