use Rattle.std.proofs.Common.{inr}
use Rattle.pm_options.specs.Asked.{exec_asked}
use Rattle.pm_commands.specs.Failures.{IsExecCause}
use Rattle.pm_commands.proofs.Causes.{exec_unwritten, passed}
use Rattle.pm_commands.proofs.NewNames.{adds_run}
use Rattle.pm_commands.proofs.exec_command.run_exec.Goals as goal

pub returns-clause-part : goal.returns-clause-part
returns-clause-part g c =
    inr (adds_run _ _ _ (exec_asked c.args.words.now) c.in_ok-left.left.bytes.items c.in_ok-left.left.report.items c.run_files.ensures.kept c.in_ok-left.ensures.ran (rw c.deref.ensures.value at c.in_ok-put.ensures.added))

pub returns-in_err-put-clause-cause : goal.returns-in_err-put-clause-cause
returns-in_err-put-clause-cause g c =
    passed c.from_residual-in_err-put.result c.in_err-put.field-0.0
    (IsExecCause (exec_asked c.args.words.now) (g.S.Shelf.content c.args.shelf.now) (g.S.Shelf.content c.put.new.shelf) (g.S.Shelf.faults c.args.shelf.now) (g.S.Shelf.faults c.put.new.shelf))
    c.from_residual-in_err-put.ensures.1
    (exec_unwritten (exec_asked c.args.words.now) (g.S.Shelf.content c.args.shelf.now) (g.S.Shelf.content c.run_files.new.shelf) (g.S.Shelf.content c.put.new.shelf) (g.S.Shelf.faults c.args.shelf.now)
    (g.S.Shelf.faults c.run_files.new.shelf) (g.S.Shelf.faults c.put.new.shelf) c.in_ok-left.left.bytes.items c.in_ok-left.left.report.items c.run_files.ensures.kept c.run_files.ensures.faults
    c.in_ok-left.ensures.ran c.in_err-put.field-0.0 c.in_err-put.ensures.cause)
