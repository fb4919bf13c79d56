use Rattle.pm_world.proofs.BlockLines as block_lines
use Rattle.pm_world.proofs.block_laws.a_run_stays_a_run.Goals as goal

pub returns-clause-run : goal.returns-clause-run
returns-clause-run _ = λ g v s c r. block_lines.runs_stay g v s c r

pub returns-clause-class : goal.returns-clause-class
returns-clause-class _ = λ o mem views g x k s law c r. block_lines.classes_stay o mem views g x k s law c r
