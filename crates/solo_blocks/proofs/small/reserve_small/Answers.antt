use Rattle.std.proofs.Common.{◌≡◌, [], sym, ap, subst, inl, inr, refl}
use Rattle.pm_layout.specs.declared.shape.Shape.{Shape}
use Rattle.solo_runs.specs.Runs.{MaySearch}
use Rattle.solo_view.specs.View.{View}
use Rattle.solo_blocks.proofs.Again.{err_leads, new_run_then, none_then, ok_leads}
use Rattle.solo_blocks.proofs.StillMay.{may_still}
use Rattle.solo_blocks.specs.NewRuns.{MayGoOn, MayMakeRun}
use Rattle.solo_blocks.proofs.small.reserve_small.Goals as goal

may_search : (v : View) (shape : Shape) → MayMakeRun v shape → MaySearch v shape
may_search v shape may = record { of_shape = may.search.shape; early = may.search.early }

pub new_run-requires-clause-may : goal.new_run-requires-clause-may
new_run-requires-clause-may g c =
    let v = c.requires.may.0 in
    let there = c.requires.may.1.0 in
    let may = c.requires.may.1.1 in
    let old = c.args.lane.now in
    let mid = c.reserve_small.new.lane in
    let searched = c.in-None.ensures.none refl v there (may_search v old.shape may) in
    let same : old.shape ≡ mid.shape = sym (ap (λ l. l.shape) c.in-None.ensures.else_same) in
    (searched.view, (searched.there, subst (MayMakeRun searched.view) same (may_still v old.shape may (g.M.LaneMem.at mid.memory) [] _ searched)))

pub returns-in-Some-clause-got : goal.returns-in-Some-clause-got
returns-in-Some-clause-got g c v there may =
    let search = may_search v c.args.lane.now.shape may in
    inl ((c.in-Some.ensures.got v there search).0, c.in-Some.ensures.least v there search may.alone)

pub returns-in-None-clause-got : goal.returns-in-None-clause-got
returns-in-None-clause-got g c =
    ok_leads _ _ c.new_run.result (λ block made v there may.
    let old = c.args.lane.now in
    let mid = c.reserve_small.new.lane in
    let at = g.M.LaneMem.at mid.memory in
    let searched = c.in-None.ensures.none refl v there (may_search v old.shape may) in
    let same : old.shape ≡ mid.shape = sym (ap (λ l. l.shape) c.in-None.ensures.else_same) in
    inr (
      c.in-None.ensures.least v there (may_search v old.shape may) may.alone,
      new_run_then v old.shape may at _ searched (g.M.LaneMem.at c.new_run.new.lane.memory) c.args.lines block
          (made searched.view searched.there (subst (MayMakeRun searched.view) same (may_still v old.shape may at [] _ searched))),
    ))
    c.new_run.ensures.got

pub returns-in-None-clause-none : goal.returns-in-None-clause-none
returns-in-None-clause-none g c =
    err_leads _ _ c.new_run.result (λ why none v there may.
    let old = c.args.lane.now in
    let mid = c.reserve_small.new.lane in
    let at = g.M.LaneMem.at mid.memory in
    let searched = c.in-None.ensures.none refl v there (may_search v old.shape may) in
    let same : old.shape ≡ mid.shape = sym (ap (λ l. l.shape) c.in-None.ensures.else_same) in (
      c.in-None.ensures.least v there (may_search v old.shape may) may.alone,
      none_then v old.shape may at _ searched (g.M.LaneMem.at c.new_run.new.lane.memory) c.args.lines why
          (none searched.view searched.there (subst (MayMakeRun searched.view) same (may_still v old.shape may at [] _ searched))),
    ))
    c.new_run.ensures.none

pub returns-in-Some-clause-next : goal.returns-in-Some-clause-next
returns-in-Some-clause-next g c v there may =
    let shape = c.args.lane.now.shape in
    let searched = (c.in-Some.ensures.got v there (may_search v shape may)).0.searched in
    (searched.view, (searched.there, may_still v shape may (g.M.LaneMem.at c.reserve_small.new.lane.memory) _ _ searched))

pub returns-in-None-clause-next : goal.returns-in-None-clause-next
returns-in-None-clause-next g c v there may =
    let old = c.args.lane.now in
    let mid = c.reserve_small.new.lane in
    let at = g.M.LaneMem.at mid.memory in
    let searched = c.in-None.ensures.none refl v there (may_search v old.shape may) in
    let same : old.shape ≡ mid.shape = sym (ap (λ l. l.shape) c.in-None.ensures.else_same) in
    subst (λ (s : Shape). MayGoOn (g.M.LaneMem.at c.new_run.new.lane.memory) s c.new_run.result) (sym same)
    (c.new_run.ensures.next searched.view searched.there (subst (MayMakeRun searched.view) same (may_still v old.shape may at [] _ searched)))
