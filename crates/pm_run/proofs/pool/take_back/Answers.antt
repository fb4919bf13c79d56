use Rattle.std.proofs.Common.{◌≡◌, ◌+◌, ◌++◌, List, [], ◌∷◌, length, map, sym, ap, ◌∙◌}
use Rattle.std.proofs.Common.{subst, append_assoc}
use Rattle.std.proofs.lemmas.List.{length_push, map-append}
use Rattle.pm_view.specs.declared.change.Change.{Change}
use Rattle.pm_run.specs.Jobs.{AreBack, items_of}
use Rattle.pm_run.specs.declared.job.Job.{Job}
use Rattle.pm_run.proofs.Jobs.{next_back, next_done}
use Rattle.pm_run.proofs.pool.take_back.Goals as goal

pub join-changes-requires-clause-pool : goal.join-changes-requires-clause-pool
join-changes-requires-clause-pool g c =
    let jobs = c.requires.jobs in
    let b = c.loop-job.invariant.back jobs.0 jobs.1 in
    (b.0, b.1)

pub join-changes-requires-clause-lane : goal.join-changes-requires-clause-lane
join-changes-requires-clause-lane g c =
    let jobs = c.requires.jobs in
    let is = next_done g.W.Work.left jobs.0 c.args.jobs.items c.loop-job.yielded
    c.next.new.self.rest.items c.in-Some.job jobs.1
    (ap (λ (l : List (Job g.row.N.Denot g.row.W.Denot)). c.loop-job.yielded ++ l)
    (sym c.in-Some.ensures.steps.0) ∙ c.loop-job.invariant.all) in
    (is.view, is.seen)

pub loop-job-preserved : goal.loop-job-preserved
loop-job-preserved g c =
    let i = c.loop-job.invariant in
    let yielded = c.loop-job.yielded in
    let job = c.in-Some.job in
    let rest = c.next.new.self.rest.items in
    let lists = c.loop-job.undrained.items in
    let changes = c.join-changes.result in
    let works = c.loop-job.works.items in
    let one = c.push_reserved.ensures in
    let two = c.push_reserved-in-loop-job.ensures in
    let all : yielded ++ job ∷ rest ≡ c.args.jobs.items =
    ap (λ (l : List (Job g.row.N.Denot g.row.W.Denot)). yielded ++ l)
    (sym c.in-Some.ensures.steps.0) ∙ i.all in record {
      table = c.join-changes.ensures.table ∙ i.table;
      all = append_assoc yielded (job ∷ []) rest ∙ all;
      lists = ap length one.items ∙ (length_push lists changes
          ∙ (ap (λ n. n + 1) i.lists ∙ sym (length_push yielded job)));
      list_room = one.capacity ∙ i.list_room;
      count = ap length two.items ∙ (length_push works job.work
          ∙ (ap (λ n. n + 1) i.count ∙ sym (length_push yielded job)));
      work_room = two.capacity ∙ i.work_room;
      back = λ before done.
          let b = i.back before done in
          let is = next_done g.W.Work.left before c.args.jobs.items yielded rest job done all in (
            b.0 ++ is.view ∷ [],
            c.join-changes.ensures.pool b.0 is.view b.1 is.seen,
            subst (λ (l : List (List Change)). AreBack g.W.Work.left before (b.0 ++ is.view ∷ []) l
                c.push_reserved-in-loop-job.new.self.items)
                (sym (ap (map items_of) one.items ∙ map-append items_of lists (changes ∷ [])))
                (subst (λ (ws : List g.row.W.Denot). AreBack g.W.Work.left before
                (b.0 ++ is.view ∷ []) (map items_of lists ++ changes.items ∷ []) ws) (sym two.items)
                (next_back g.W.Work.left before c.args.jobs.items yielded rest job done all b.0
                (map items_of lists) works changes.items b.2 i.count
                (c.join-changes.ensures.changes is.view is.seen) c.join-changes.ensures.formed)),
          );
    }
