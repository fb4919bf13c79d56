use Rattle.std.proofs.Common.{◌%◌, eq-eqb, ne_eqb, ℕ, refl, subst}
use Rattle.solo_memory.specs.Runs.{Made}
use Rattle.solo_view.specs.Steps.Step.{Load}
use Rattle.solo_lock.proofs.FoundUnder.{bitmap_looked, chunk_looked, marked_items, run_looked}
use Rattle.solo_lock.proofs.finding.look_at_chunk.Goals as goal

pub returns-then-descriptor-ne-RUN-clause-looked : goal.returns-then-descriptor-ne-RUN-clause-looked
returns-then-descriptor-ne-RUN-clause-looked g c v is =
    let d = c.load-descriptor.result in
    let made = subst (λ (w : ℕ). Made (g.M.LaneMem.at c.args.lane.now.memory) (g.M.LaneMem.at c.load-descriptor.new.self) (Load w d)) c.descriptor_word.ensures c.load-descriptor.ensures v is.seen.memory in
    chunk_looked g.M.LaneMem.at c.args.lane.now v is c.args.page c.requires.chunk c.requires.inside d made.2 0 (ne_eqb (d % 256) 1 c.if-descriptor-ne-RUN.true) _ made.0
    (marked_items c.args.page d 0 c.args.lane.now.locks.items c.as_mut_slice.result.now c.mark.new.locks c.as_mut_slice.ensures.value c.mark.ensures) refl

pub returns-then-descriptor-ne0-clause-looked : goal.returns-then-descriptor-ne0-clause-looked
returns-then-descriptor-ne0-clause-looked g c v is =
    let d = c.load-descriptor.result in
    let b = c.load-bitmap.result in
    let made = subst (λ (w : ℕ). Made (g.M.LaneMem.at c.args.lane.now.memory) (g.M.LaneMem.at c.load-descriptor.new.self) (Load w d)) c.descriptor_word.ensures c.load-descriptor.ensures v is.seen.memory in
    let also = c.load-bitmap.ensures _ made.0 in
    bitmap_looked g.M.LaneMem.at c.args.lane.now v is c.args.page c.requires.chunk c.requires.inside d made.2 (eq-eqb (d % 256) 1 c.if-descriptor-ne-RUN.false) b also.2 _ also.0
    (marked_items c.args.page d b c.args.lane.now.locks.items c.as_mut_slice-then-descriptor-ne0.result.now c.mark-then-descriptor-ne0.new.locks c.as_mut_slice-then-descriptor-ne0.ensures.value c.mark-then-descriptor-ne0.ensures) refl

pub returns-else-descriptor-ne0-clause-looked : goal.returns-else-descriptor-ne0-clause-looked
returns-else-descriptor-ne0-clause-looked g c v is =
    let d = c.load-descriptor.result in
    let made = subst (λ (w : ℕ). Made (g.M.LaneMem.at c.args.lane.now.memory) (g.M.LaneMem.at c.load-descriptor.new.self) (Load w d)) c.descriptor_word.ensures c.load-descriptor.ensures v is.seen.memory in
    run_looked g.M.LaneMem.at c.args.lane.now v is c.args.page c.requires.chunk c.requires.inside d made.2 (eq-eqb (d % 256) 1 c.if-descriptor-ne-RUN.false) c.if-descriptor-ne0.false _ made.0 refl refl
