-- Exit statuses: docs/COMMANDS.md.
use Rattle.std.specs.Prelude.{ℕ}
use Rattle.pm_commands.specs.declared.status.Status.{Status}
use Rattle.pm_commands.specs.declared.status.Status.TheVariants.{Done, Refused, Usage, ReadFault, WriteFault, NoMemory, BadScript}

abbrev pub code : Status → ℕ
code Done = 0
code Refused = 1
code Usage = 2
code ReadFault = 3
code WriteFault = 4
code NoMemory = 5
code BadScript = 6
