use Rattle.std.proofs.Common.{◌≡◌, is_some, sym, ◌∙◌, ap, arith, length}
use Rattle.std.specs.List.{flat_map, range_with_len}
use Rattle.pm_image.specs.Steps.{valid_record}
use Rattle.pm_image.proofs.Gathering.{record_at, records_by_number}
use Rattle.pm_info.proofs.Sums.{gathered_more}
use Rattle.pm_info.proofs.counts.lane_records.Goals as goal

pub loop-slot-preserved : goal.loop-slot-preserved
loop-slot-preserved c =
    gathered_more (valid_record c.args.image.now c.args.lane) c.loop-slot.slot c.loop-slot.count c.from-count.result c.is_some.result c.loop-slot.invariant.0 c.loop-slot.invariant.1 c.from-count.ensures
    (c.is_some.ensures ∙ ap is_some c.valid_record.ensures)

pub returns-clause-value : goal.returns-clause-value
returns-clause-value c =
    let end : c.loop-slot.slot ≡ 64 = omega arith in
    c.loop-slot.invariant.0 ∙ ap (λ n. length (flat_map (record_at c.args.image.now c.args.lane) (range_with_len 0 n))) end ∙ ap length (sym (records_by_number c.args.image.now c.args.lane))
