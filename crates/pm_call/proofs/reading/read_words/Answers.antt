use Rattle.std.proofs.Common.{◌≡◌, ◌+◌, ◌/◌, ◌<◌, ◌∙◌, ℕ, false, length, refl, sym, subst, arith, rules}
use Rattle.pm_view.specs.Steps.Step.{Load}
use Rattle.pm_view.specs.Views.{after}
use Rattle.pm_world.specs.LaneFields.{Standing, Works, moved}
use Rattle.pm_call.proofs.LockedRanges.{range_low}
use Rattle.pm_call.proofs.RangeLooks.{word_inside}
use Rattle.pm_call.proofs.ReadBytes.{all_read, none_read, read_more}
use Rattle.pm_call.proofs.RangeWrites.{one_covered}
use Rattle.pm_call.proofs.WriteLanes.{covered_bounds}
use Rattle.pm_call.proofs.reading.read_words.Goals as goal

pub overflow_add-place : goal.overflow_add-place
overflow_add-place g c = let r = c.requires in let l = range_low r.standing r.stands c.args.id c.args.off (length c.args.into.now) false r.holds in omega (arith, l)

pub count_words-i-end-requires : goal.count_words-i-end-requires
count_words-i-end-requires g c = let r = c.requires in range_low r.standing r.stands c.args.id c.args.off (length c.args.into.now) false r.holds

pub loop-i-init : goal.loop-i-init
loop-i-init g c = record { as_long = refl; read = λ s works stands range. none_read g.M.LaneMem.at c.args.lane.now c.args.id c.args.off (length c.args.into.now) c.args.into.now s works stands range }

pub overflow_add-word : goal.overflow_add-word
overflow_add-word g c =
    let r = c.requires in
    let l = range_low r.standing r.stands c.args.id c.args.off (length c.args.into.now) false r.holds in
    let b = covered_bounds (c.args.id.off + c.args.off) (length c.args.into.now) c.loop-i.i (subst (λ n. c.loop-i.i < n) c.count_words-i-end.ensures c.loop-i-test.true) in
    let low = b.1 in omega (arith, l, low)

pub see-x-requires : goal.see-x-requires
see-x-requires g c =
    let r = c.requires in
    let a = c.loop-i.invariant.read r.standing r.works r.stands r.holds in
    let h = a.holds.seen in
    let there = one_covered (c.args.id.off + c.args.off) (length c.args.into.now) c.loop-i.i (subst (λ n. c.loop-i.i < n) c.count_words-i-end.ensures c.loop-i-test.true) in
    λ found.
    g.met.M.LawfulMem.meets c.loop-i.lane.memory a.view (Load ((c.args.id.off + c.args.off) / 8 + c.loop-i.i) found) h.works.memory
    (word_inside (moved r.standing a.view) h.stands c.args.id c.args.off (length c.args.into.now) false h.range ((c.args.id.off + c.args.off) / 8 + c.loop-i.i) there)

pub copy_bytes-requires-clause-range : goal.copy_bytes-requires-clause-range
copy_bytes-requires-clause-range g c =
    let r = c.requires in
    let l = range_low r.standing r.stands c.args.id c.args.off (length c.args.into.now) false r.holds in
    let long = c.loop-i.invariant.as_long in omega (arith, l, long)

pub copy_bytes-requires-clause-below : goal.copy_bytes-requires-clause-below
copy_bytes-requires-clause-below g c =
    let b = covered_bounds (c.args.id.off + c.args.off) (length c.args.into.now) c.loop-i.i (subst (λ n. c.loop-i.i < n) c.count_words-i-end.ensures c.loop-i-test.true) in
    let low = b.1 in let long = c.loop-i.invariant.as_long in omega (arith, low, long)

pub loop-i-preserved : goal.loop-i-preserved
loop-i-preserved g c = record {
  as_long = c.copy_bytes.ensures.as_long ∙ c.loop-i.invariant.as_long;
  read = λ s works stands range.
      let a = c.loop-i.invariant.read s works stands range in
      let h = a.holds.seen in
      let w : ℕ = (c.args.id.off + c.args.off) / 8 + c.loop-i.i in
      let there = one_covered (c.args.id.off + c.args.off) (length c.args.into.now) c.loop-i.i (subst (λ n. c.loop-i.i < n) c.count_words-i-end.ensures c.loop-i-test.true) in
      let may = g.met.M.LawfulMem.grants a.view (Load w c.see-x.result) (word_inside (moved s a.view) h.stands c.args.id c.args.off (length c.args.into.now) false h.range w there) in
      let made = c.see-x.ensures.made a.view h.works.memory may in
      let next : Standing = moved s (after a.view (Load w c.see-x.result)) in
      let works_ : Works g.M.LaneMem.at _ next = record { memory = made.0; fields = h.works.fields } in
      let long = c.loop-i.invariant.as_long in
      read_more g.M.LaneMem.at c.loop-i.lane _ c.args.id c.args.off (length c.args.into.now) c.loop-i.i c.see-x.result c.loop-i.into c.copy_bytes.new.into s a there c.see-x.type_inv (c.see-x.ensures.world a.view h.works.memory may) works_
      (λ k low same. c.copy_bytes.ensures.inside k (subst (λ n. k < n) (sym long) low) same) (λ k low. c.copy_bytes.ensures.before k low);
}

pub returns-clause-read : goal.returns-clause-read
returns-clause-read g c s works stands range =
    all_read g.M.LaneMem.at c.loop-i.lane c.args.id c.args.off (length c.args.into.now) c.loop-i.i c.loop-i.into s c.loop-i.invariant.as_long (let e : c.loop-i.i ≡ c.count_words-i-end.result = search rules in e ∙ c.count_words-i-end.ensures)
    (c.loop-i.invariant.read s works stands range)
