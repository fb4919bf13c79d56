use Rattle.std.proofs.Common.{inr}
use Rattle.pm_options.specs.Asked.{recover_asked}
use Rattle.pm_commands.specs.Failures.{IsRecoverCause}
use Rattle.pm_commands.proofs.Causes.{passed, recover_unwritten}
use Rattle.pm_commands.proofs.NewNames.{adds_recovery}
use Rattle.pm_commands.proofs.recover_command.run_recover.Goals as goal

pub returns-clause-part : goal.returns-clause-part
returns-clause-part g c =
    inr (adds_recovery _ _ _ (recover_asked c.args.words.now) c.in_ok-left.left.bytes.items c.in_ok-left.left.line.items c.recover_file.ensures.kept c.in_ok-left.ensures.left (rw c.deref.ensures.value at c.in_ok-put.ensures.added))

pub returns-in_err-put-clause-cause : goal.returns-in_err-put-clause-cause
returns-in_err-put-clause-cause g c =
    passed c.from_residual-in_err-put.result c.in_err-put.field-0.0
    (IsRecoverCause (recover_asked c.args.words.now) (g.S.Shelf.content c.args.shelf.now) (g.S.Shelf.content c.put.new.shelf) (g.S.Shelf.faults c.args.shelf.now) (g.S.Shelf.faults c.put.new.shelf))
    c.from_residual-in_err-put.ensures.1
    (recover_unwritten (recover_asked c.args.words.now) (g.S.Shelf.content c.args.shelf.now) (g.S.Shelf.content c.recover_file.new.shelf) (g.S.Shelf.content c.put.new.shelf) (g.S.Shelf.faults c.args.shelf.now)
    (g.S.Shelf.faults c.recover_file.new.shelf) (g.S.Shelf.faults c.put.new.shelf) c.in_ok-left.left.bytes.items c.in_ok-left.left.line.items c.recover_file.ensures.kept c.recover_file.ensures.faults
    c.in_ok-left.ensures.left c.in_err-put.field-0.0 c.in_err-put.ensures.cause)
