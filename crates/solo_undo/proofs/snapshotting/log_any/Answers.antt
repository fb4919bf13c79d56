use Rattle.std.proofs.Common.{Ok, sym, subst, rules}
use Rattle.solo_world.specs.Sequences.{Sequence, IsReady, Runs}
use Rattle.solo_world.proofs.Sequencing.{runs_nothing}
use Rattle.solo_undo.proofs.Fitting.{no_logs, some_logs}
use Rattle.solo_undo.proofs.snapshotting.log_any.Goals as goal

pub log-requires-clause-ready : goal.log-requires-clause-ready
log-requires-clause-ready g c = subst (IsReady (g.M.LaneMem.at c.args.mem.now)) (some_logs c.args.slot c.args.spans.now (search rules)) c.requires.ready

pub returns-then-is_empty : goal.returns-then-is_empty
returns-then-is_empty g c =
    subst (λ (s : Sequence). Runs {T = Unit {0}} (g.M.LaneMem.at c.args.mem.now) (g.M.LaneMem.at c.args.mem.now) s (Ok tt)) (sym (no_logs c.args.slot c.args.spans.now (search rules)))
    (runs_nothing (g.M.LaneMem.at c.args.mem.now) tt)

pub returns-else-is_empty : goal.returns-else-is_empty
returns-else-is_empty g c =
    subst (λ (s : Sequence). Runs (g.M.LaneMem.at c.args.mem.now) (g.M.LaneMem.at c.log.new.mem) s c.log.result) (sym (some_logs c.args.slot c.args.spans.now (search rules))) c.log.ensures
