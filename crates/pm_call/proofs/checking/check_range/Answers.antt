use Rattle.std.proofs.Common.{◌==◌, ◌/◌, ◌-◌, false, sym, ◌∙◌}
use Rattle.std.proofs.lemmas.Bool.{and_parts}
use Rattle.pm_view.specs.Steps.Step.{Load}
use Rattle.pm_view.specs.Views.{after}
use Rattle.pm_world.specs.LaneFields.{Standing, Works, moved}
use Rattle.pm_call.specs.Did.{Checked}
use Rattle.pm_call.specs.Held.{is_in_locks}
use Rattle.pm_call.specs.Ranges.{HasRange}
use Rattle.pm_call.proofs.Checks.{judged, not_held_at_all, size_inside}
use Rattle.pm_call.proofs.checking.check_range.Goals as goal

pub returns-then-not-holds : goal.returns-then-not-holds
unfolding Checked
returns-then-not-holds g c = λ op is s works stands. not_held_at_all g.M.LaneMem.at c.args.lane.now s op c.args.id c.args.off c.args.len c.args.write (λ s done. HasRange s c.args.id c.args.off c.args.len c.args.write) works stands is
    (sym (c.holds.ensures.held s works) ∙ c.if-not-holds.true)

pub see-size-requires : goal.see-size-requires
see-size-requires g c = let r = c.requires in let s = r.standing in λ found. g.met.M.LawfulMem.meets c.args.lane.now.memory s.view (Load (c.args.id.off / 8 - 7) found) r.works.memory
    (size_inside s r.stands c.args.id (and_parts (c.args.id.pool == s.view.fixed.pool) (is_in_locks s.locks c.args.id.off false) (sym (c.holds.ensures.held s r.works) ∙ c.if-not-holds.false)).1)

pub returns : goal.returns
unfolding Checked
returns g c = λ op is s works stands. let held = (and_parts (c.args.id.pool == s.view.fixed.pool) (is_in_locks s.locks c.args.id.off false) (sym (c.holds.ensures.held s works) ∙ c.if-not-holds.false)).1 in
    let may = g.met.M.LawfulMem.grants s.view (Load (c.args.id.off / 8 - 7) c.see-size.result) (size_inside s stands c.args.id held) in
    let made = c.see-size.ensures.made s.view works.memory may in
    let t : Standing = moved s (after s.view (Load (c.args.id.off / 8 - 7) c.see-size.result)) in
    let works_ : Works g.M.LaneMem.at _ t = record { memory = made.0; fields = works.fields } in
    judged s stands c.args.id held c.see-size.result c.see-size.type_inv (c.see-size.ensures.world s.view works.memory may) g.M.LaneMem.at _ works_ op c.args.off c.args.len c.args.write
    (λ s done. HasRange s c.args.id c.args.off c.args.len c.args.write) is c.judge.result c.holds-2.result (c.holds-2.ensures.held t works_) c.judge.ensures (λ r. r)
