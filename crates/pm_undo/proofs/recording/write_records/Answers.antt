use Rattle.std.proofs.Common.{◌≡◌, ◌+◌, length, rules, subst, Ok}
use Rattle.pm_plan.proofs.Plans.{repeated_none, repeated_next, repeated_more, repeated_err}
use Rattle.pm_plan.specs.Plans.{Runs, repeated}
use Rattle.pm_undo.specs.Plans.{writes_record, writes_records}
use Rattle.pm_undo.specs.Records.{record_at}
use Rattle.pm_undo.proofs.recording.write_records.Goals as goal

pub loop-i-init : goal.loop-i-init
loop-i-init g c = repeated_none (g.M.LaneMem.at c.args.mem.now) (λ i. writes_record c.args.shape c.args.lane c.args.generation (c.args.slot + i) (record_at c.args.records.now i))

pub write_record-requires-clause-ready : goal.write_record-requires-clause-ready
unfolding writes_records
write_record-requires-clause-ready g c =
    repeated_next (g.M.LaneMem.at c.args.mem.now) (λ i. writes_record c.args.shape c.args.lane c.args.generation (c.args.slot + i) (record_at c.args.records.now i)) (length c.args.records.now) c.loop-i.i
    (g.M.LaneMem.at c.loop-i.mem) tt c.loop-i-test.true c.requires.ready c.loop-i.invariant

pub returns-in_err-write_record : goal.returns-in_err-write_record
unfolding writes_records
returns-in_err-write_record g c =
    repeated_err (g.M.LaneMem.at c.args.mem.now) (λ i. writes_record c.args.shape c.args.lane c.args.generation (c.args.slot + i) (record_at c.args.records.now i)) (Unit {0}) (Unit {0}) (length c.args.records.now) c.loop-i.i
    (g.M.LaneMem.at c.loop-i.mem) (g.M.LaneMem.at c.write_record.new.mem) tt c.in_err-write_record.field-0.0 c.from_residual.result c.loop-i-test.true c.loop-i.invariant
    c.in_err-write_record.ensures c.from_residual.ensures.0

pub loop-i-preserved : goal.loop-i-preserved
loop-i-preserved g c =
    repeated_more (g.M.LaneMem.at c.args.mem.now) (λ i. writes_record c.args.shape c.args.lane c.args.generation (c.args.slot + i) (record_at c.args.records.now i)) c.loop-i.i (g.M.LaneMem.at c.loop-i.mem)
    (g.M.LaneMem.at c.write_record.new.mem) tt tt c.loop-i.invariant c.in_ok-write_record.ensures

pub returns : goal.returns
unfolding writes_records
returns g c =
    subst (λ n. Runs {T = Unit {0}} (g.M.LaneMem.at c.args.mem.now) (g.M.LaneMem.at c.loop-i.mem)
    (repeated (λ i. writes_record c.args.shape c.args.lane c.args.generation (c.args.slot + i) (record_at c.args.records.now i)) n) (Ok tt))
    (let e : c.loop-i.i ≡ length c.args.records.now = search rules in e) c.loop-i.invariant
