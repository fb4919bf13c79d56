use Rattle.std.proofs.Common.{ℕ, ◌∙◌, sym, subst}
use Rattle.pm_image.specs.declared.block.Block.{Block}
use Rattle.solo_memory.specs.Runs.{Made}
use Rattle.solo_view.specs.Steps.Step.{Load}
use Rattle.solo_view.specs.View.{View}
use Rattle.solo_view.specs.Views.{after}
use Rattle.solo_runs.specs.Looking.{HasGotIn, HasGotOf, IsRunOf}
use Rattle.solo_runs.specs.Runs.{MaySearch, descriptor_at}
use Rattle.solo_runs.proofs.SearchedRuns.{got_of_run, if_some_weaker, looked_at_chunk, may_still, none_of_other, none_of_run, run_now}
use Rattle.solo_runs.proofs.reserving.reserve_in_chunk.Goals as goal

pub returns-then-descriptor-descriptor_of-clause-none : goal.returns-then-descriptor-descriptor_of-clause-none
returns-then-descriptor-descriptor_of-clause-none g c none v there may =
    let d = c.load-descriptor.result in
    let new = g.M.LaneMem.at c.load-descriptor.new.self in
    let made = subst (λ (w : ℕ). Made (g.M.LaneMem.at c.args.mem.now) new (Load w d)) c.descriptor_at.ensures c.load-descriptor.ensures v there in
    none_of_other v c.args.shape may c.args.chunk c.requires.inside c.args.class d made.1 made.2 (λ run. c.if-descriptor-descriptor_of.true (run ∙ sym c.descriptor_of.ensures)) new made.0

pub returns-clause-got : goal.returns-clause-got
returns-clause-got g c =
    let shape = c.args.shape in
    let d = c.load-descriptor.result in
    let old = g.M.LaneMem.at c.args.mem.now in
    let mid = g.M.LaneMem.at c.load-descriptor.new.self in
    let new = g.M.LaneMem.at c.reserve_in_run.new.mem in
    let w = λ (v : View). after v (Load (descriptor_at shape.lanes c.args.chunk) d) in
    if_some_weaker (λ (block : Block). (v : View) → mid v → MaySearch v shape → IsRunOf v shape.lanes c.args.class c.args.chunk → HasGotIn new v shape.lanes c.args.class c.args.chunk block)
    (λ block. (v : View) → old v → MaySearch v shape → HasGotOf new v shape.lanes c.args.class c.args.chunk block)
    (λ block got v there may.
    let made = subst (λ (n : ℕ). Made old mid (Load n d)) c.descriptor_at.ensures c.load-descriptor.ensures v there in
    let run = c.if-descriptor-descriptor_of.false ∙ c.descriptor_of.ensures in
    got_of_run v shape may c.args.chunk c.requires.inside c.args.class d made.1 made.2 run new block
    (got (w v) made.0 (may_still v (w v) shape (looked_at_chunk v shape may c.args.chunk c.requires.inside c.args.class d made.1 made.2) may)
    (run_now v shape may c.args.chunk c.requires.inside c.args.class d made.1 made.2 run)))
    c.reserve_in_run.result c.reserve_in_run.ensures.got

pub returns-clause-none : goal.returns-clause-none
returns-clause-none g c none v there may =
    let shape = c.args.shape in
    let d = c.load-descriptor.result in
    let old = g.M.LaneMem.at c.args.mem.now in
    let mid = g.M.LaneMem.at c.load-descriptor.new.self in
    let new = g.M.LaneMem.at c.reserve_in_run.new.mem in
    let w = after v (Load (descriptor_at shape.lanes c.args.chunk) d) in
    let made = subst (λ (n : ℕ). Made old mid (Load n d)) c.descriptor_at.ensures c.load-descriptor.ensures v there in
    none_of_run v shape may c.args.chunk c.requires.inside c.args.class d made.1 made.2 new
    (c.reserve_in_run.ensures.none none w made.0 (may_still v w shape (looked_at_chunk v shape may c.args.chunk c.requires.inside c.args.class d made.1 made.2) may)
    (run_now v shape may c.args.chunk c.requires.inside c.args.class d made.1 made.2 (c.if-descriptor-descriptor_of.false ∙ c.descriptor_of.ensures)))
