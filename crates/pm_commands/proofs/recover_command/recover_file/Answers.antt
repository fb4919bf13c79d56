use Rattle.pm_image.specs.Steps.{IfImage}
use Rattle.pm_commands.specs.PoolFiles.{BytesFail}
use Rattle.pm_commands.proofs.Causes.{show_faulty}
use Rattle.pm_commands.proofs.recover_command.recover_file.Goals as goal

pub returns-clause-cause : goal.returns-clause-cause
returns-clause-cause g c =
    let fails : IfImage c.in-Err.fault (BytesFail c.in_ok-source.source.items) = rw c.deref.ensures.value at c.in-Err.ensures.fault in
    rw c.failure_of.ensures (show_faulty _ _ _ _ _ _ c.in_ok-source.ensures.whole fails)
