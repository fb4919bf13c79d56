use Rattle.std.proofs.Common.{map, arith}
use Rattle.pm_reopen.specs.Plan.{lines_of}
use Rattle.pm_reopen.specs.Plan.MemoryCall.{Flush}
use Rattle.pm_reopen.proofs.Flushing.{all_flushed, flush_halts, flushed_more, none_flushed}
use Rattle.pm_reopen.proofs.Making.{ran_error}
use Rattle.pm_reopen.proofs.writing.flush_all.Goals as goal

pub loop-line-init : goal.loop-line-init
loop-line-init c = none_flushed c.args.mem.now

pub flush_changed-requires : goal.flush_changed-requires
flush_changed-requires c = c.loop-line.invariant.below

pub returns-in_err-flush_changed-clause-made : goal.returns-in_err-flush_changed-clause-made
returns-in_err-flush_changed-clause-made c = λ es is.
    ran_error c.args.mem.now c.flush_changed.new.mem (map Flush (lines_of c.args.lines es)) c.from_residual.result c.from_residual.ensures.0
    (flush_halts c.args.mem.now c.loop-line.mem c.flush_changed.new.mem c.args.lines c.loop-line.line es c.loop-line-test.true is c.loop-line.invariant c.in_err-flush_changed.ensures)

pub loop-line-preserved : goal.loop-line-preserved
loop-line-preserved c = flushed_more c.args.mem.now c.loop-line.mem c.flush_changed.new.mem c.loop-line.line c.loop-line.invariant c.in_ok-flush_changed.ensures

pub returns-clause-as_many : goal.returns-clause-as_many
returns-clause-as_many c = c.loop-line.invariant.many

pub returns-clause-made : goal.returns-clause-made
returns-clause-made c = λ es is. all_flushed c.args.mem.now c.loop-line.mem c.args.lines c.loop-line.line es (omega arith) is c.loop-line.invariant
