use Rattle.std.proofs.Common.{◌≡◌, ◌+◌, ◌^◌, ◌<◌, ◌≤◌, List, ℕ, length, sum_by, sym, ap, ◌∙◌, subst, arith, rules}
use Rattle.std.specs.List.{All}
use Rattle.pm_world.specs.declared.lane.KeptRecord.{KeptRecord}
use Rattle.pm_undo.specs.Spans.{IsSpan, plan_of}
use Rattle.pm_undo.specs.declared.spans.Span.{Span}
use Rattle.pm_undo.proofs.Fitting.{counts_words, plan_fits}
use Rattle.pm_undo.proofs.Snapped.{refused, snapped_err, snapped_ok, spans_stand}
use Rattle.pm_undo.proofs.snapshots.snapshot.Goals as goal

-- what is planned, and that it has room
planned : (records as_slice : List KeptRecord) (spans two : List Span) (place len : ℕ)
    → as_slice ≡ records → spans ≡ plan_of as_slice place len → two ≡ spans
    → two ≡ plan_of records place len
planned records as_slice spans two place len a b c = c
    ∙ (b ∙ ap (λ (rs : List KeptRecord). plan_of rs place len) a)

has_room : (records as_slice : List KeptRecord) (spans two : List Span) → as_slice ≡ records
    → length as_slice + length spans ≤ 64 → two ≡ spans → length records + length two ≤ 64
has_room records as_slice spans two a room c = let x = ap length a in let y = ap length c in
    omega (arith, room, x, y)

fits : (spans : List Span) (records : List KeptRecord) (place len : ℕ)
    → spans ≡ plan_of records place len → place + len < 2 ^ 60 → All IsSpan spans
fits spans records place len is range = subst (λ (ss : List Span). All IsSpan ss) (sym is)
    (plan_fits records place len range)

pub returns-in_default : goal.returns-in_default
returns-in_default g c = refused g.M.LaneMem.at c.args.lane.now c.args.place c.args.len
    (let none = c.in_default.ensures.none (search rules) in let a = ap length
    c.as_slice.ensures.value in let b =
    ap (λ (rs : List KeptRecord). length (plan_of rs c.args.place c.args.len))
    c.as_slice.ensures.value in omega (arith, none, a, b))

pub log_spans-requires-clause-room : goal.log_spans-requires-clause-room
log_spans-requires-clause-room g c = has_room c.args.lane.now.log.records.items
    c.as_slice.result.now c.in-Some.spans.items c.as_slice-2.result.now c.as_slice.ensures.value
    c.in-Some.ensures.room c.as_slice-2.ensures.value

pub log_spans-requires-clause-spans : goal.log_spans-requires-clause-spans
log_spans-requires-clause-spans g c = fits c.as_slice-2.result.now c.args.lane.now.log.records.items
    c.args.place c.args.len (planned c.args.lane.now.log.records.items c.as_slice.result.now
    c.in-Some.spans.items c.as_slice-2.result.now c.args.place c.args.len c.as_slice.ensures.value
    c.in-Some.ensures.some c.as_slice-2.ensures.value) c.requires.range

pub log_spans-requires-clause-stands : goal.log_spans-requires-clause-stands
log_spans-requires-clause-stands g c = spans_stand g.M.LaneMem.at c.args.lane.now c.args.place
    c.args.len c.as_slice-2.result.now (planned c.args.lane.now.log.records.items
    c.as_slice.result.now c.in-Some.spans.items c.as_slice-2.result.now c.args.place c.args.len
    c.as_slice.ensures.value c.in-Some.ensures.some c.as_slice-2.ensures.value)
    (has_room c.args.lane.now.log.records.items c.as_slice.result.now c.in-Some.spans.items
    c.as_slice-2.result.now c.as_slice.ensures.value c.in-Some.ensures.room
    c.as_slice-2.ensures.value) c.requires.stands

pub count-requires-clause-spans : goal.count-requires-clause-spans
count-requires-clause-spans g c = fits c.as_slice-in-Ok.result.now c.args.lane.now.log.records.items
    c.args.place c.args.len (planned c.args.lane.now.log.records.items c.as_slice.result.now
    c.in-Some.spans.items c.as_slice-in-Ok.result.now c.args.place c.args.len
    c.as_slice.ensures.value c.in-Some.ensures.some c.as_slice-in-Ok.ensures.value) c.requires.range

pub returns-in-Err : goal.returns-in-Err
returns-in-Err g c = snapped_err g.M.LaneMem.at c.args.lane.now c.args.place c.args.len
    c.as_slice-2.result.now (planned c.args.lane.now.log.records.items c.as_slice.result.now
    c.in-Some.spans.items c.as_slice-2.result.now c.args.place c.args.len c.as_slice.ensures.value
    c.in-Some.ensures.some c.as_slice-2.ensures.value) (has_room c.args.lane.now.log.records.items
    c.as_slice.result.now c.in-Some.spans.items c.as_slice-2.result.now c.as_slice.ensures.value
    c.in-Some.ensures.room c.as_slice-2.ensures.value) c.log_spans.new.lane c.in-Err.field-0
    c.in-Err.ensures

pub returns-in-Ok : goal.returns-in-Ok
returns-in-Ok g c = snapped_ok g.M.LaneMem.at c.args.lane.now c.args.place c.args.len
    c.as_slice-2.result.now (planned c.args.lane.now.log.records.items c.as_slice.result.now
    c.in-Some.spans.items c.as_slice-2.result.now c.args.place c.args.len c.as_slice.ensures.value
    c.in-Some.ensures.some c.as_slice-2.ensures.value) (has_room c.args.lane.now.log.records.items
    c.as_slice.result.now c.in-Some.spans.items c.as_slice-2.result.now c.as_slice.ensures.value
    c.in-Some.ensures.room c.as_slice-2.ensures.value) c.log_spans.new.lane c.count.result
    c.in-Ok.ensures
    (c.count.ensures
    ∙ (ap (sum_by (λ (s : Span). s.count)) (planned c.args.lane.now.log.records.items
    c.as_slice.result.now c.in-Some.spans.items c.as_slice-in-Ok.result.now c.args.place
    c.args.len c.as_slice.ensures.value c.in-Some.ensures.some c.as_slice-in-Ok.ensures.value)
    ∙ counts_words c.args.lane.now.log.records.items c.args.place c.args.len))
