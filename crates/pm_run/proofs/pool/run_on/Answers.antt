use Rattle.std.proofs.Common.{List, length, map, ap, sym, ◌∙◌, subst, arith}
use Rattle.std.proofs.lemmas.List.{length-map}
use Rattle.pm_layout.specs.Chunks.{words_of}
use Rattle.pm_layout.specs.declared.shape.Shape.{Shape}
use Rattle.pm_memory.specs.Keep.{IsKeptImage}
use Rattle.pm_shared.specs.declared.rule.Beginning.{Beginning}
use Rattle.pm_run.specs.Fates.{AreJudged}
use Rattle.pm_run.specs.Jobs.{items_of}
use Rattle.pm_run.proofs.Jobs.{all_can_run, all_done}
use Rattle.pm_run.proofs.Runs.{have_run}
use Rattle.pm_run.proofs.pool.run_on.Goals as goal

pub run_all-requires-clause-ready : goal.run_all-requires-clause-ready
run_all-requires-clause-ready g c κs within =
    all_can_run g.W.Work.can c.args.works.items c.in_ok-jobs.jobs.items c.requires.can
    c.in_ok-jobs.ensures.jobs

pub take_back-requires-clause-jobs : goal.take_back-requires-clause-jobs
take_back-requires-clause-jobs g c = (
  c.args.works.items,
  all_done g.W.Work.left c.args.works.items c.in_ok-jobs.jobs.items c.run_all.new.jobs.items
      c.in_ok-jobs.ensures.jobs c.run_all.ensures.count c.run_all.ensures.ran,
)

pub crash_judged-image-requires-clause-lanes : goal.crash_judged-image-requires-clause-lanes
crash_judged-image-requires-clause-lanes g c =
    let key : Beginning = c.args.pool.memory.table.shared.key in
    let done = all_done g.W.Work.left c.args.works.items c.in_ok-jobs.jobs.items
    c.run_all.new.jobs.items c.in_ok-jobs.ensures.jobs c.run_all.ensures.count
    c.run_all.ensures.ran in
    let came = c.take_back.ensures.back c.args.works.items done in
    let lists = came.2.lists in
    let mapped = length-map c.take_back.new.undrained.items items_of in
    let seen = ap length c.as_slice.ensures.value in
    let after = c.take_back.ensures.count in
    let ran = c.run_all.ensures.count in
    let ready = c.in_ok-jobs.ensures.jobs.count in
    let works = c.requires.works in
    let few = c.args.pool.memory.lanes_in in
    let same = ap (λ (s : Shape). s.lanes) (sym c.args.pool.memory.shaped ∙ c.args.pool.shaped) in
    omega (arith, lists, mapped, seen, after, ran, ready, works, few, same)

pub crash_judged-image-requires-clause-size : goal.crash_judged-image-requires-clause-size
crash_judged-image-requires-clause-size g c =
    let done = all_done g.W.Work.left c.args.works.items c.in_ok-jobs.jobs.items
    c.run_all.new.jobs.items c.in_ok-jobs.ensures.jobs c.run_all.ensures.count
    c.run_all.ensures.ran in
    let came = c.take_back.ensures.back c.args.works.items done in
    (c.close-words.ensures came.0 came.1).size ∙ ap words_of c.args.pool.shaped

pub crash_judged-image-requires-clause-room : goal.crash_judged-image-requires-clause-room
crash_judged-image-requires-clause-room g c =
    let done = all_done g.W.Work.left c.args.works.items c.in_ok-jobs.jobs.items
    c.run_all.new.jobs.items c.in_ok-jobs.ensures.jobs c.run_all.ensures.count
    c.run_all.ensures.ran in
    let came = c.take_back.ensures.back c.args.works.items done in
    let lists = came.2.lists in
    let mapped = length-map c.take_back.new.undrained.items items_of in
    let seen = ap length c.as_slice.ensures.value in
    let after = c.take_back.ensures.count in
    let ran = c.run_all.ensures.count in
    let ready = c.in_ok-jobs.ensures.jobs.count in
    let works = c.args.works.ok.0 in
    let logs = c.in_ok-logs.ensures.exact in
    let flags = c.in_ok-kept.ensures.exact in
    let one = c.len-3.ensures in
    let other = c.len-4.ensures in (
      omega (arith, lists, mapped, seen, after, ran, ready, works, logs, one),
      omega (arith, lists, mapped, seen, after, ran, ready, works, flags, other),
    )

pub returns : goal.returns
returns g c =
    let key : Beginning = c.args.pool.memory.table.shared.key in
    let ready = c.in_ok-jobs.ensures.jobs in
    let done = all_done g.W.Work.left c.args.works.items c.in_ok-jobs.jobs.items
    c.run_all.new.jobs.items ready c.run_all.ensures.count c.run_all.ensures.ran in
    let came = c.take_back.ensures.back c.args.works.items done in
    let words = c.close-words.result.items in
    let image = c.crash_judged-image.result.items in
    let flags = c.crash_judged-image.new.kept.items in
    have_run g.W.Work.left c.args.works.items came.0 (map items_of c.take_back.new.undrained.items)
    c.take_back.new.works.items came.2 c.closed_pools_mean_their_histories.ensures.kept key words
    image c.args.keep flags
    (c.take_back.ensures.count ∙ (c.run_all.ensures.count ∙ (ready.count ∙ c.requires.works)))
    (c.close-words.ensures came.0 came.1)
    (subst (λ (l : List _). IsKeptImage c.args.keep words (map items_of l) image)
    c.as_slice.ensures.value c.crash_judged-image.ensures.image)
    (subst (λ (s : Shape). AreJudged s words (map items_of c.take_back.new.undrained.items) image
    flags) (sym c.args.pool.shaped)
    (subst (λ (l : List _). AreJudged c.args.pool.shape words (map items_of l) image flags)
    c.as_slice.ensures.value c.crash_judged-image.ensures.kept))
