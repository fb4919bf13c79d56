use Rattle.std.proofs.Common.{Ok, sym, subst, rules}
use Rattle.pm_plan.specs.Plans.{Plan, IsReady, Runs}
use Rattle.pm_plan.proofs.Plans.{runs_nothing}
use Rattle.pm_undo.proofs.Snapped.{no_logs, some_logs}
use Rattle.pm_undo.proofs.recording.log_in.Goals as goal

pub write_all-requires-clause-ready : goal.write_all-requires-clause-ready
write_all-requires-clause-ready g c = subst (IsReady (g.M.LaneMem.at c.args.mem.now)) (some_logs c.args.shape c.args.lane c.args.generation c.args.slot c.args.records.now (search rules)) c.requires.ready

pub returns-then-is_empty : goal.returns-then-is_empty
returns-then-is_empty g c =
    subst (λ (s : Plan). Runs {T = Unit {0}} (g.M.LaneMem.at c.args.mem.now) (g.M.LaneMem.at c.args.mem.now) s (Ok tt)) (sym (no_logs c.args.shape c.args.lane c.args.generation c.args.slot c.args.records.now (search rules)))
    (runs_nothing (g.M.LaneMem.at c.args.mem.now) tt)

pub returns-else-is_empty : goal.returns-else-is_empty
returns-else-is_empty g c =
    subst (λ (s : Plan). Runs (g.M.LaneMem.at c.args.mem.now) (g.M.LaneMem.at c.write_all.new.mem) s c.write_all.result) (sym (some_logs c.args.shape c.args.lane c.args.generation c.args.slot c.args.records.now (search rules))) c.write_all.ensures
