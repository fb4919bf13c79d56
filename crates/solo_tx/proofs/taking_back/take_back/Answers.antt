use Rattle.std.proofs.Common.{sym, subst, rules}
use Rattle.solo_world.specs.Sequences.{Sequence, Runs}
use Rattle.solo_tx.proofs.Undoing.{settle_ready, takes_none, takes_some}
use Rattle.solo_tx.proofs.taking_back.take_back.Goals as goal

pub settle-requires : goal.settle-requires
settle-requires g c = let is = c.requires.working in settle_ready (g.M.LaneMem.at c.args.lane.now.memory) is.0 is.1.0.memory

pub returns-then-is_empty-clause-ran : goal.returns-then-is_empty-clause-ran
returns-then-is_empty-clause-ran g c =
    subst (λ (s : Sequence). Runs (g.M.LaneMem.at c.args.lane.now.memory) (g.M.LaneMem.at c.settle.new.mem) s c.settle.result) (sym (takes_none c.args.lane.now.records.items (search rules))) c.settle.ensures

pub returns-else-is_empty-clause-ran : goal.returns-else-is_empty-clause-ran
returns-else-is_empty-clause-ran g c =
    subst (λ (s : Sequence). Runs (g.M.LaneMem.at c.args.lane.now.memory) (g.M.LaneMem.at c.undo.new.lane.memory) s c.undo.result) (sym (takes_some c.args.lane.now.records.items (search rules))) c.undo.ensures.ran
