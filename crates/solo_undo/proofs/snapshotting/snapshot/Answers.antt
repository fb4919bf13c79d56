use Rattle.std.proofs.Common.{◌≡◌, ◌+◌, ◌≤◌, List, length, sum_by, Err, ap, sym, ◌∙◌, subst, arith}
use Rattle.std.specs.List.{All}
use Rattle.solo_world.specs.Sequences.{IsReady, IsMade, Runs}
use Rattle.solo_world.specs.declared.lane.Span.{Span}
use Rattle.solo_undo.specs.Sequences.{logs_any, snapshots}
use Rattle.solo_undo.specs.Spans.{IsSpan, plan_of}
use Rattle.solo_undo.proofs.Fitting.{plan_fits, counts_words}
use Rattle.solo_undo.proofs.snapshotting.snapshot.Goals as goal

pub log_any-requires-clause-spans : goal.log_any-requires-clause-spans
log_any-requires-clause-spans g c =
    let is : c.as_slice-2.result.now ≡ plan_of c.args.lane.now.records.items c.args.place c.args.len =
    c.as_slice-2.ensures.value ∙ (c.in-Some.ensures.some ∙ ap (λ (spans : List Span). plan_of spans c.args.place c.args.len) c.as_slice.ensures.value) in
    subst (λ (spans : List Span). All IsSpan spans) (sym is) (plan_fits c.args.lane.now.records.items c.args.place c.args.len c.requires.range)

pub log_any-requires-clause-ready : goal.log_any-requires-clause-ready
unfolding snapshots
log_any-requires-clause-ready g c =
    let is : c.as_slice-2.result.now ≡ plan_of c.args.lane.now.records.items c.args.place c.args.len =
    c.as_slice-2.ensures.value ∙ (c.in-Some.ensures.some ∙ ap (λ (spans : List Span). plan_of spans c.args.place c.args.len) c.as_slice.ensures.value) in
    let few : length c.args.lane.now.records.items + length (plan_of c.args.lane.now.records.items c.args.place c.args.len) ≤ 64 =
    (let room = c.in-Some.ensures.room in let a = ap length c.as_slice.ensures.value in let b = ap length is in let d = ap length c.as_slice-2.ensures.value in omega (arith, room, a, b, d)) in
    subst (λ slot. IsReady (g.M.LaneMem.at c.args.lane.now.memory) (logs_any slot c.as_slice-2.result.now)) (sym c.len-slot.ensures.value)
    (subst (λ (spans : List Span). IsReady (g.M.LaneMem.at c.args.lane.now.memory) (logs_any (length c.args.lane.now.records.items) spans)) (sym is) (c.requires.ready few))

pub keep-requires-clause-spans : goal.keep-requires-clause-spans
keep-requires-clause-spans g c =
    let is : c.as_slice-in-Ok.result.now ≡ plan_of c.args.lane.now.records.items c.args.place c.args.len =
    c.as_slice-in-Ok.ensures.value ∙ (c.in-Some.ensures.some ∙ ap (λ (spans : List Span). plan_of spans c.args.place c.args.len) c.as_slice.ensures.value) in
    subst (λ (spans : List Span). All IsSpan spans) (sym is) (plan_fits c.args.lane.now.records.items c.args.place c.args.len c.requires.range)

pub returns-in-Ok-clause-made : goal.returns-in-Ok-clause-made
unfolding snapshots
returns-in-Ok-clause-made g c =
    let is : c.as_slice-2.result.now ≡ plan_of c.args.lane.now.records.items c.args.place c.args.len =
    c.as_slice-2.ensures.value ∙ (c.in-Some.ensures.some ∙ ap (λ (spans : List Span). plan_of spans c.args.place c.args.len) c.as_slice.ensures.value) in
    subst (λ slot. IsMade (g.M.LaneMem.at c.args.lane.now.memory) (g.M.LaneMem.at c.log_any.new.mem) (logs_any slot (plan_of c.args.lane.now.records.items c.args.place c.args.len))) c.len-slot.ensures.value
    (subst (λ (spans : List Span). IsMade (g.M.LaneMem.at c.args.lane.now.memory) (g.M.LaneMem.at c.log_any.new.mem) (logs_any c.len-slot.result spans)) is c.in-Ok.ensures)

pub returns-in-Ok-clause-words : goal.returns-in-Ok-clause-words
returns-in-Ok-clause-words g c =
    let is : c.as_slice-in-Ok.result.now ≡ plan_of c.args.lane.now.records.items c.args.place c.args.len =
    c.as_slice-in-Ok.ensures.value ∙ (c.in-Some.ensures.some ∙ ap (λ (spans : List Span). plan_of spans c.args.place c.args.len) c.as_slice.ensures.value) in
    c.keep.ensures.count ∙ (ap (sum_by (λ (s : Span). s.count)) is ∙ counts_words c.args.lane.now.records.items c.args.place c.args.len)

pub returns-in-Err-clause-stopped : goal.returns-in-Err-clause-stopped
unfolding snapshots
returns-in-Err-clause-stopped g c e =
    let is : c.as_slice-2.result.now ≡ plan_of c.args.lane.now.records.items c.args.place c.args.len =
    c.as_slice-2.ensures.value ∙ (c.in-Some.ensures.some ∙ ap (λ (spans : List Span). plan_of spans c.args.place c.args.len) c.as_slice.ensures.value) in (
      c.in-Err.field-0,
      subst (λ slot. Runs {T = Unit {0}} (g.M.LaneMem.at c.args.lane.now.memory) (g.M.LaneMem.at c.log_any.new.mem) (logs_any slot (plan_of c.args.lane.now.records.items c.args.place c.args.len)) (Err c.in-Err.field-0)) c.len-slot.ensures.value
          (subst (λ (spans : List Span). Runs {T = Unit {0}} (g.M.LaneMem.at c.args.lane.now.memory) (g.M.LaneMem.at c.log_any.new.mem) (logs_any c.len-slot.result spans) (Err c.in-Err.field-0)) is c.in-Err.ensures),
    )

pub returns-in-Ok-clause-room : goal.returns-in-Ok-clause-room
returns-in-Ok-clause-room g c =
    let is : c.as_slice-2.result.now ≡ plan_of c.args.lane.now.records.items c.args.place c.args.len =
    c.as_slice-2.ensures.value ∙ (c.in-Some.ensures.some ∙ ap (λ (spans : List Span). plan_of spans c.args.place c.args.len) c.as_slice.ensures.value) in
    let room = c.in-Some.ensures.room in let a = ap length c.as_slice.ensures.value in let b = ap length is in let d = ap length c.as_slice-2.ensures.value in omega (arith, room, a, b, d)

pub returns-in-Err-clause-stopped_room : goal.returns-in-Err-clause-stopped_room
returns-in-Err-clause-stopped_room g c e =
    let is : c.as_slice-2.result.now ≡ plan_of c.args.lane.now.records.items c.args.place c.args.len =
    c.as_slice-2.ensures.value ∙ (c.in-Some.ensures.some ∙ ap (λ (spans : List Span). plan_of spans c.args.place c.args.len) c.as_slice.ensures.value) in
    let room = c.in-Some.ensures.room in let a = ap length c.as_slice.ensures.value in let b = ap length is in let d = ap length c.as_slice-2.ensures.value in omega (arith, room, a, b, d)
