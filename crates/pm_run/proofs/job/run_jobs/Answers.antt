use Rattle.std.proofs.Common.{slice_index_or, subst}
use Rattle.pm_run.specs.Jobs.{IsDone}
use Rattle.pm_run.specs.declared.job.Job.{Job}
use Rattle.pm_run.proofs.job.run_jobs.Goals as goal

pub returns : goal.returns
returns g c k job l =
    let at = (c.for_each_mut.ensures k job l).1 in
    let old = slice_index_or c.args.jobs.now k job in
    subst (λ (j : Job g.row.N.Denot g.row.W.Denot). IsDone g.W.Work.left old.number old.work j)
    at.left
    (subst (λ (j : Job g.row.N.Denot g.row.W.Denot).
    IsDone g.W.Work.left j.number j.work at.after_call.now) at.argument_is at.call)
