use Rattle.std.proofs.Common.{◌≡◌, ◌+◌, ◌/◌, ◌<◌, ◌∙◌, subst, arith, rules}
use Rattle.pm_view.specs.Steps.Step.{Load}
use Rattle.pm_view.specs.Views.{after}
use Rattle.pm_world.specs.LaneFields.{Standing, Works, moved}
use Rattle.pm_call.proofs.LockedRanges.{range_low}
use Rattle.pm_call.proofs.RangeLooks.{all_seen, none_seen, see_more, word_inside}
use Rattle.pm_call.proofs.RangeWrites.{one_covered}
use Rattle.pm_call.proofs.WriteLanes.{covered_bounds}
use Rattle.pm_call.proofs.checking.look_words.Goals as goal

pub overflow_add-place : goal.overflow_add-place
overflow_add-place g c = let r = c.requires in let l = range_low r.standing r.stands c.args.id c.args.off c.args.len r.holds.0 r.holds.1 in omega (arith, l)

pub count_words-i-end-requires : goal.count_words-i-end-requires
count_words-i-end-requires g c = let r = c.requires in range_low r.standing r.stands c.args.id c.args.off c.args.len r.holds.0 r.holds.1

pub loop-i-init : goal.loop-i-init
loop-i-init g c write s works stands range = none_seen g.M.LaneMem.at c.args.lane.now c.args.id c.args.off c.args.len write s works stands range

pub overflow_add-place-in-loop-i : goal.overflow_add-place-in-loop-i
overflow_add-place-in-loop-i g c = let r = c.requires in
    let l = range_low r.standing r.stands c.args.id c.args.off c.args.len r.holds.0 r.holds.1 in
    let b = covered_bounds (c.args.id.off + c.args.off) c.args.len c.loop-i.i (subst (λ n. c.loop-i.i < n) c.count_words-i-end.ensures c.loop-i-test.true) in
    let low = b.1 in omega (arith, l, low)

pub see-found-requires : goal.see-found-requires
see-found-requires g c =
    let r = c.requires in
    let a = c.loop-i.invariant r.holds.0 r.standing r.works r.stands r.holds.1 in
    let t : Standing = moved r.standing a.view in
    let there = one_covered (c.args.id.off + c.args.off) c.args.len c.loop-i.i (subst (λ n. c.loop-i.i < n) c.count_words-i-end.ensures c.loop-i-test.true) in λ found.
    g.met.M.LawfulMem.meets c.loop-i.lane.memory a.view (Load ((c.args.id.off + c.args.off) / 8 + c.loop-i.i) found) a.holds.works.memory
    (word_inside t a.holds.stands c.args.id c.args.off c.args.len r.holds.0 a.holds.range ((c.args.id.off + c.args.off) / 8 + c.loop-i.i) there)

pub loop-i-preserved : goal.loop-i-preserved
loop-i-preserved g c write s works stands range =
    let a = c.loop-i.invariant write s works stands range in
    let t : Standing = moved s a.view in
    let there = one_covered (c.args.id.off + c.args.off) c.args.len c.loop-i.i (subst (λ n. c.loop-i.i < n) c.count_words-i-end.ensures c.loop-i-test.true) in
    let may = g.met.M.LawfulMem.grants a.view (Load ((c.args.id.off + c.args.off) / 8 + c.loop-i.i) c.see-found.result)
    (word_inside t a.holds.stands c.args.id c.args.off c.args.len write a.holds.range ((c.args.id.off + c.args.off) / 8 + c.loop-i.i) there) in
    let made = c.see-found.ensures.made a.view a.holds.works.memory may in
    let next : Standing = moved s (after a.view (Load ((c.args.id.off + c.args.off) / 8 + c.loop-i.i) c.see-found.result)) in
    let works_ : Works g.M.LaneMem.at _ next = record { memory = made.0; fields = a.holds.works.fields } in
    see_more g.M.LaneMem.at c.loop-i.lane _ c.args.id c.args.off c.args.len write c.loop-i.i c.see-found.result s a there c.see-found.type_inv (c.see-found.ensures.world a.view a.holds.works.memory may) works_

pub returns : goal.returns
returns g c write s works stands range =
    all_seen g.M.LaneMem.at c.loop-i.lane c.args.id c.args.off c.args.len write c.loop-i.i s (let e : c.loop-i.i ≡ c.count_words-i-end.result = search rules in e ∙ c.count_words-i-end.ensures)
    (c.loop-i.invariant write s works stands range)
