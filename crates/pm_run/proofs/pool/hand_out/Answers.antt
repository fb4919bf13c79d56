use Rattle.std.proofs.Common.{◌≡◌, ℕ, ◌+◌, ◌++◌, List, [], ◌∷◌, length, refl, sym, ap, ◌∙◌}
use Rattle.std.proofs.Common.{subst, arith, append_assoc}
use Rattle.std.proofs.lemmas.List.{length_push}
use Rattle.pm_shared.specs.declared.rule.Beginning.{Beginning}
use Rattle.pm_shared.specs.Openings.{pool_of}
use Rattle.pm_run.specs.Jobs.{AreReady}
use Rattle.pm_run.specs.declared.job.Job.{Job}
use Rattle.pm_run.proofs.Jobs.{one_more_ready, whole}
use Rattle.pm_run.proofs.pool.hand_out.Goals as goal

pub loop-work-preserved : goal.loop-work-preserved
loop-work-preserved g c =
    let i = c.loop-work.invariant in
    let key : Beginning = c.args.pool.now.memory.table.shared.key in
    let yielded = c.loop-work.yielded in
    let work = c.in-Some.work in
    let jobs = c.loop-work.jobs.items in
    let n : ℕ = c.len-number.result in
    let at : n ≡ length yielded =
    let e = c.len-number.ensures in let o = c.loop-work.jobs.ok.0 in let m = i.ready.count in
    omega (arith, e, o, m) in
    let next : n + 1 ≡ length (yielded ++ work ∷ []) =
    let m = length_push yielded work in omega (arith, at, m) in
    let job : Job g.row.N.Denot g.row.W.Denot =
    record { number = n; lane = c.in_ok-lane.lane; work = work } in record {
      table = c.next_lane.ensures.table ∙ i.table;
      seat = c.in_ok-lane.ensures.seat ∙ ap (λ m. pool_of key m []) next;
      ready = subst (λ (js : List (Job g.row.N.Denot g.row.W.Denot)).
          AreReady (yielded ++ work ∷ []) js) (sym c.in_ok-push.ensures.items)
          (one_more_ready yielded jobs work job i.ready
          (record { number_is = at; work_is = refl; is_new = c.in_ok-lane.ensures.lane }));
      all = append_assoc yielded (work ∷ []) c.next.new.self.rest.items
          ∙ (ap (λ (l : List g.row.W.Denot). yielded ++ l) (sym c.in-Some.ensures.steps.0) ∙ i.all);
    }

pub returns-clause-jobs : goal.returns-clause-jobs
returns-clause-jobs g c =
    let i = c.loop-work.invariant in
    subst (λ (ws : List g.row.W.Denot). AreReady ws c.loop-work.jobs.items)
    (whole c.loop-work.yielded c.loop-work.work-iterator.rest.items c.args.works.items i.all
    (sym c.loop-work.work-iterator.rest.ok.0 ∙ c.in-None.ensures.steps.0)) i.ready
