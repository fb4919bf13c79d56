use Rattle.std.proofs.Common.{◌≡◌, ◌∙◌, ℕ, sym, subst}
use Rattle.solo_memory.specs.Runs.{Made}
use Rattle.solo_view.specs.Steps.{Step}
use Rattle.solo_runs.specs.Runs.{run_block}
use Rattle.solo_blocks.proofs.GivenBack.{given_in_run, vacates_its_bit, vacates_part}
use Rattle.solo_blocks.proofs.giving.give_back.Goals as goal

pub give_back-requires-else-block-eq0 : goal.give_back-requires-else-block-eq0
give_back-requires-else-block-eq0 g c =
    let r = c.requires in
    (r.0, (r.1.0, given_in_run r.0 c.args.block r.1.2 c.if-block-eq0.false))

pub returns-else-block-eq0-clause-given : goal.returns-else-block-eq0-clause-given
returns-else-block-eq0-clause-given g c =
    let r = c.requires in
    let block = c.args.block in
    let lanes : ℕ = c.args.lane.now.shape.lanes in
    let run = given_in_run r.0 block r.1.2 c.if-block-eq0.false in
    let here : block ≡ run_block lanes run.chunk block.lines run.index = subst (λ n. block ≡ run_block n run.chunk block.lines run.index) r.1.1.lanes run.is_block in
    subst (λ (s : Step). Made (g.M.LaneMem.at c.args.lane.now.memory) (g.M.LaneMem.at c.give_back-else-block-eq0.new.lane.memory) s)
    (sym (vacates_part lanes block c.if-block-eq0.false ∙ vacates_its_bit lanes run.chunk run.index block run.in_run here))
    (c.give_back-else-block-eq0.ensures.given run.chunk run.index run.in_run here)
