use Rattle.std.proofs.Common.{◌≡◌, List, length, drop, sym, subst, arith}
use Rattle.std.proofs.lemmas.List.{take_at}
use Rattle.pm_run.specs.Jobs.{AllRan}
use Rattle.pm_run.specs.declared.job.Job.{Job}
use Rattle.pm_run.proofs.pool.run_all.Goals as goal

pub returns-clause-ran : goal.returns-clause-ran
returns-clause-ran g c =
    let items = c.args.jobs.now.items in
    let new = c.run_jobs.new.jobs in
    let same : length new ≡ c.args.jobs.now.len =
    let a = c.run_jobs.auto.jobs in let v = c.as_mut_slice.ensures.len in
    let o = c.args.jobs.now.ok.0 in omega (arith, a, v, o) in
    subst (λ (js : List (Job g.row.N.Denot g.row.W.Denot)). AllRan g.W.Work.left items js)
    (sym (take_at new (drop (length new) items) c.args.jobs.now.len same))
    (subst (λ (js : List (Job g.row.N.Denot g.row.W.Denot)). AllRan g.W.Work.left js new)
    c.as_mut_slice.ensures.value c.run_jobs.ensures)
