use Rattle.std.proofs.Common.{◌≡◌, length, rules, subst, Ok}
use Rattle.solo_world.proofs.Sequencing.{counted_none, counted_next, counted_more, counted_err}
use Rattle.solo_world.specs.Sequences.{Runs, counted}
use Rattle.solo_undo.specs.Sequences.{restores_record, span_at}
use Rattle.solo_undo.specs.Sequences.{puts_back}
use Rattle.solo_undo.proofs.restoring.put_back.Goals as goal

pub loop-slot-init : goal.loop-slot-init
loop-slot-init g c = counted_none (g.M.LaneMem.at c.args.mem.now) (λ slot. restores_record c.args.lane slot (span_at c.args.spans.now slot))

pub restore_record-requires-clause-ready : goal.restore_record-requires-clause-ready
unfolding puts_back
restore_record-requires-clause-ready g c =
    counted_next (g.M.LaneMem.at c.args.mem.now) (λ slot. restores_record c.args.lane slot (span_at c.args.spans.now slot)) (length c.args.spans.now) c.loop-slot.slot (g.M.LaneMem.at c.loop-slot.mem) tt c.loop-slot-test.true c.requires.ready c.loop-slot.invariant

pub returns-in_err-restore_record : goal.returns-in_err-restore_record
unfolding puts_back
returns-in_err-restore_record g c =
    counted_err (g.M.LaneMem.at c.args.mem.now) (λ slot. restores_record c.args.lane slot (span_at c.args.spans.now slot)) (Unit {0}) (Unit {0}) (length c.args.spans.now) c.loop-slot.slot (g.M.LaneMem.at c.loop-slot.mem) (g.M.LaneMem.at c.restore_record.new.mem) tt
    c.in_err-restore_record.field-0.0 c.from_residual.result c.loop-slot-test.true c.loop-slot.invariant c.in_err-restore_record.ensures c.from_residual.ensures.0

pub loop-slot-preserved : goal.loop-slot-preserved
loop-slot-preserved g c =
    counted_more (g.M.LaneMem.at c.args.mem.now) (λ slot. restores_record c.args.lane slot (span_at c.args.spans.now slot)) c.loop-slot.slot (g.M.LaneMem.at c.loop-slot.mem) (g.M.LaneMem.at c.restore_record.new.mem) tt tt c.loop-slot.invariant c.in_ok-restore_record.ensures

pub returns : goal.returns
unfolding puts_back
returns g c =
    subst (λ n. Runs {T = Unit {0}} (g.M.LaneMem.at c.args.mem.now) (g.M.LaneMem.at c.loop-slot.mem) (counted (λ slot. restores_record c.args.lane slot (span_at c.args.spans.now slot)) n) (Ok tt))
    (let e : c.loop-slot.slot ≡ (length c.args.spans.now) = search rules in e) c.loop-slot.invariant
