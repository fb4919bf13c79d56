use Rattle.std.proofs.Common.{◌≡◌, length, rules, subst, Ok}
use Rattle.pm_plan.proofs.Plans.{repeated_none, repeated_next, repeated_more, repeated_err}
use Rattle.pm_plan.specs.Plans.{Runs, repeated}
use Rattle.pm_undo.specs.Plans.{puts_back, restores_record}
use Rattle.pm_undo.specs.Records.{record_at}
use Rattle.pm_undo.proofs.restoring.put_back.Goals as goal

pub loop-kept-init : goal.loop-kept-init
loop-kept-init g c = repeated_none (g.M.LaneMem.at c.args.mem.now) (λ i. restores_record (record_at c.args.records.now i))

pub restore_record-requires-clause-ready : goal.restore_record-requires-clause-ready
unfolding puts_back
restore_record-requires-clause-ready g c =
    repeated_next (g.M.LaneMem.at c.args.mem.now) (λ i. restores_record (record_at c.args.records.now i)) (length c.args.records.now) c.loop-kept.kept-index (g.M.LaneMem.at c.loop-kept.mem) tt c.loop-kept-test.true c.requires.ready c.loop-kept.invariant

pub returns-in_err-restore_record : goal.returns-in_err-restore_record
unfolding puts_back
returns-in_err-restore_record g c =
    repeated_err (g.M.LaneMem.at c.args.mem.now) (λ i. restores_record (record_at c.args.records.now i)) (Unit {0}) (Unit {0}) (length c.args.records.now) c.loop-kept.kept-index (g.M.LaneMem.at c.loop-kept.mem) (g.M.LaneMem.at c.restore_record.new.mem) tt
    c.in_err-restore_record.field-0.0 c.from_residual.result c.loop-kept-test.true c.loop-kept.invariant c.in_err-restore_record.ensures c.from_residual.ensures.0

pub loop-kept-preserved : goal.loop-kept-preserved
loop-kept-preserved g c =
    repeated_more (g.M.LaneMem.at c.args.mem.now) (λ i. restores_record (record_at c.args.records.now i)) c.loop-kept.kept-index (g.M.LaneMem.at c.loop-kept.mem) (g.M.LaneMem.at c.restore_record.new.mem) tt tt c.loop-kept.invariant c.in_ok-restore_record.ensures

pub returns : goal.returns
unfolding puts_back
returns g c =
    subst (λ n. Runs {T = Unit {0}} (g.M.LaneMem.at c.args.mem.now) (g.M.LaneMem.at c.loop-kept.mem) (repeated (λ i. restores_record (record_at c.args.records.now i)) n) (Ok tt))
    (let e : c.loop-kept.kept-index ≡ length c.args.records.now = search rules in e) c.loop-kept.invariant
