use Rattle.std.proofs.lemmas.Bool.{or_left}
use Rattle.pm_world.specs.Crash.{is_decided_in}
use Rattle.pm_world.proofs.CrashClashes as crash_clashes
use Rattle.pm_world.proofs.CrashDescriptors as crash_descriptors
use Rattle.pm_world.proofs.crash_laws.crash_keeps_decided_calls.Goals as goal

pub returns-clause-means : goal.returns-clause-means
returns-clause-means _ = λ o mem views g image x sv torn. crash_descriptors.crash_law o mem views g image x sv torn

pub returns-clause-logs : goal.returns-clause-logs
returns-clause-logs _ = λ o mem views g image x sv torn. crash_clashes.no_log_fault o mem views g x image sv torn

pub returns-clause-decided : goal.returns-clause-decided
returns-clause-decided _ = λ o views g image n e. or_left (g.decided n) (is_decided_in image views o.lanes n) e
