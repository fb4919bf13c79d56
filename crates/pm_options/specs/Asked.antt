-- What was read of the words, as definitions see it.
use Rattle.std.specs.Prelude.{◌≡◌, ◌≢◌, ◌⊎◌, List, [], ⊤, option_map}
use Rattle.clap.specs.Words.{Text, fault_of, subcommand_of, subcommand_rows_of}
use Rattle.clap.specs.declared.error.kind.ErrorKind.{ErrorKind}
use Rattle.clap.specs.declared.error.kind.ErrorKind.TheVariants.{DisplayHelp, DisplayVersion, OutOfMemory}
use Rattle.clap.specs.declared.parser.matches.ArgMatches.{ArgMatches}
use Rattle.pm_options.specs.Program.{program}
use Rattle.pm_options.specs.Words.{Check, Create, Exec, IsCheck, IsCreate, IsDump, IsExec, IsHelp, IsInfo, IsRecover, Recover}
use Rattle.pm_options.specs.declared.command.CreateWords.{CreateWords}
use Rattle.pm_options.specs.declared.command.ExecWords.{ExecWords}
use Rattle.pm_options.specs.declared.command.CheckWords.{CheckWords}
use Rattle.pm_options.specs.declared.command.RecoverWords.{RecoverWords}
use Rattle.pm_options.specs.declared.command.Command.{Command}
use Rattle.pm_options.specs.declared.command.Command.TheVariants as command
use Rattle.pm_options.specs.declared.fault.OptionsFault.{OptionsFault}
use Rattle.pm_options.specs.declared.fault.OptionsFault.TheVariants.{Usage, Memory}

abbrev pub create_asked : CreateWords → Create
create_asked c = record { pool = c.pool.now; wanted = record { lanes = c.lanes; zones = c.zones; id = c.id; layout = c.layout.now; root = c.root } }

abbrev pub exec_asked : ExecWords → Exec
exec_asked e = record { pool = e.pool.now; script = e.script.now; out = e.out.now; layout = e.layout.now; stops = e.stops.items; keep = e.keep }

abbrev pub recover_asked : RecoverWords → Recover
recover_asked r = record { pool = r.pool.now; out = r.out.now; stop = r.stop; keep = r.keep }

abbrev pub check_asked : CheckWords → Check
check_asked c = record { pool = c.pool.now; repair = option_map (λ name. name.now) c.repair }

-- the words ask for this
abbrev pub IsAsked : List Text → Command → Type 0
IsAsked words (command.Create create) = IsCreate words (create_asked create)
IsAsked words (command.Exec e) = IsExec words (exec_asked e)
IsAsked words (command.Recover r) = IsRecover words (recover_asked r)
IsAsked words (command.Check check) = IsCheck words (check_asked check)
IsAsked words (command.Info pool) = IsInfo words pool.now
IsAsked words (command.Dump pool) = IsDump words pool.now
IsAsked words (command.Help text) = IsHelp words

-- `clap` found this command of the words, with these values
abbrev pub HasFound : List Text → ArgMatches → Type 0
HasFound words matches = (fault_of program words ≡ []) × (subcommand_rows_of matches ≡ subcommand_of program words)

-- the kind is that of help or of the version, which are no fault
abbrev pub IsRequest : ErrorKind → Type 0
IsRequest kind = (kind ≡ DisplayHelp) ⊎ (kind ≡ DisplayVersion)

-- the answer is a text of help or of the version, and that was asked for
abbrev pub IsHelpOf : ErrorKind → Command → Type 0
IsHelpOf kind (command.Create create) = ⊥
IsHelpOf kind (command.Exec e) = ⊥
IsHelpOf kind (command.Recover r) = ⊥
IsHelpOf kind (command.Check check) = ⊥
IsHelpOf kind (command.Info pool) = ⊥
IsHelpOf kind (command.Dump pool) = ⊥
IsHelpOf kind (command.Help text) = IsRequest kind

-- the kind is a fault
abbrev pub IsFault : ErrorKind → Type 0
IsFault kind = (kind ≢ DisplayHelp) × (kind ≢ DisplayVersion) × (kind ≢ OutOfMemory)

-- the fact where the words are faulty
abbrev pub IfUsage : OptionsFault → Type 0 → Type 0
IfUsage (Usage text) P = P
IfUsage Memory P = ⊤
