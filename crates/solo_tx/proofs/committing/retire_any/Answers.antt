use Rattle.std.proofs.Common.{Ok, sym, subst, rules}
use Rattle.solo_world.specs.Sequences.{Sequence, IsReady, Runs}
use Rattle.solo_world.proofs.Sequencing.{runs_nothing}
use Rattle.solo_tx.proofs.Deciding.{retires_none, retires_some}
use Rattle.solo_tx.proofs.committing.retire_any.Goals as goal

pub retire-requires-clause-ready : goal.retire-requires-clause-ready
retire-requires-clause-ready g c = subst (IsReady (g.M.LaneMem.at c.args.lane.now.memory)) (retires_some c.args.lane.now.records.items (search rules)) c.requires.ready

pub returns-then-is_empty-clause-ran : goal.returns-then-is_empty-clause-ran
returns-then-is_empty-clause-ran g c =
    subst (λ (s : Sequence). Runs {T = Unit {0}} (g.M.LaneMem.at c.args.lane.now.memory) (g.M.LaneMem.at c.args.lane.now.memory) s (Ok tt)) (sym (retires_none c.args.lane.now.records.items (search rules)))
    (runs_nothing (g.M.LaneMem.at c.args.lane.now.memory) tt)

pub returns-else-is_empty-clause-ran : goal.returns-else-is_empty-clause-ran
returns-else-is_empty-clause-ran g c =
    subst (λ (s : Sequence). Runs (g.M.LaneMem.at c.args.lane.now.memory) (g.M.LaneMem.at c.retire.new.lane.memory) s c.retire.result) (sym (retires_some c.args.lane.now.records.items (search rules))) c.retire.ensures.ran
