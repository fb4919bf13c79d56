-- What a command of the command line comes to: the text that it prints, its status, and what it leaves on the shelf. `held` and `after` are
-- what the shelf held before and after, `faults` and `faults_after` how often it had failed, `told` and `told_after` what the sink had been told.
use Rattle.std.specs.Prelude.{◌≡◌, ◌⊎◌, ℕ, List, Option, string_bytes, ⊤}
use Rattle.pm_options.specs.Asked.{IsAsked, check_asked, create_asked, exec_asked, recover_asked}
use Rattle.pm_options.specs.Words.{IsFaulty}
use Rattle.pm_options.specs.declared.command.Command.{Command}
use Rattle.pm_options.specs.declared.command.Command.TheVariants as command
use Rattle.pm_shelf.specs.Outside.{Held, Rose, MayAddPart, gained, GainedPart}
use Rattle.pm_text.specs.Lines.{GainedLines}
use Rattle.pm_commands.specs.Checked.{IsChecked, MayAddMended}
use Rattle.pm_commands.specs.Created.{IsCreated, pool_bytes}
use Rattle.pm_commands.specs.Executed.{IsExecuted, MayAddRun}
use Rattle.pm_commands.specs.Failures.{IsCheckCause, IsCreateCause, IsExecCause, IsRecoverCause, IsShowCause}
use Rattle.pm_commands.specs.Lines.{failure_line, failure_status}
use Rattle.pm_commands.specs.PoolFiles.{AreFactsIn, IsDumpOf}
use Rattle.pm_commands.specs.Recovered.{IsPoolRecovered, MayAddRecovery}
use Rattle.pm_commands.specs.declared.failure.Failure.{Failure}
use Rattle.pm_commands.specs.declared.failure.Failure.TheVariants.{Usage, NoMemory}
use Rattle.pm_commands.specs.declared.status.Status.{Status}
use Rattle.pm_commands.specs.declared.status.Status.TheVariants.{Done}

-- the command was done, and this is its text. Of help and of the version no definition says what it is
abbrev pub Does : Command → Option Held → Option Held → List ℕ → Type 0
Does (command.Create c) held after text = IsCreated (create_asked c) held after text
Does (command.Exec e) held after text = IsExecuted (exec_asked e) held after text
Does (command.Recover r) held after text = IsPoolRecovered (recover_asked r) held after text
Does (command.Check c) held after text = IsChecked (check_asked c) held after text
Does (command.Info pool) held after text = AreFactsIn held pool.now text × (after ≡ held)
Does (command.Dump pool) held after text = IsDumpOf held pool.now text × (after ≡ held)
Does (command.Help help) held after text = (text ≡ string_bytes help) × (after ≡ held)

-- the command failed, and this is why
abbrev pub IsCauseOf : Command → Option Held → Option Held → ℕ → ℕ → Failure → Type 0
IsCauseOf (command.Create c) held after faults faults_after failure = IsCreateCause (create_asked c) held after faults faults_after failure
IsCauseOf (command.Exec e) held after faults faults_after failure = IsExecCause (exec_asked e) held after faults faults_after failure
IsCauseOf (command.Recover r) held after faults faults_after failure = IsRecoverCause (recover_asked r) held after faults faults_after failure
IsCauseOf (command.Check c) held after faults faults_after failure = IsCheckCause (check_asked c) held after faults faults_after failure
IsCauseOf (command.Info pool) held after faults faults_after failure = IsShowCause pool.now held faults faults_after failure × (after ≡ held)
IsCauseOf (command.Dump pool) held after faults faults_after failure = IsShowCause pool.now held faults faults_after failure × (after ≡ held)
IsCauseOf (command.Help help) held after faults faults_after failure = ⊥

-- what the command may change of the shelf, whatever it comes to
abbrev pub MayChange : Command → Option Held → Option Held → Type 0
MayChange (command.Create c) held after = MayAddPart held after c.pool.now (pool_bytes (create_asked c))
MayChange (command.Exec e) held after = MayAddRun (exec_asked e) held after
MayChange (command.Recover r) held after = MayAddRecovery (recover_asked r) held after
MayChange (command.Check c) held after = MayAddMended (check_asked c) held after
MayChange (command.Info pool) held after = after ≡ held
MayChange (command.Dump pool) held after = after ≡ held
MayChange (command.Help help) held after = after ≡ held

-- the words ask for a command that was done
abbrev pub Did : List (List ℕ) → Option Held → Option Held → List ℕ → Type 0
Did words held after text = (asked : Command) × IsAsked words asked × Does asked held after text

-- the words are faulty, or ask for a command that failed, or there was no memory
abbrev pub DidFail : List (List ℕ) → Option Held → Option Held → ℕ → ℕ → Failure → Type 0
DidFail words held after faults faults_after (Usage more) = IsFaulty words × (after ≡ held)
DidFail words held after faults faults_after NoMemory = ⊤
DidFail words held after faults faults_after failure = (asked : Command) × IsAsked words asked × IsCauseOf asked held after faults faults_after failure

-- what the words ask for, if there was memory to read them, changed no more than it may
abbrev pub DidChange : List (List ℕ) → Option Held → Option Held → Type 0
DidChange words held after = (after ≡ held) ⊎ ((asked : Command) × IsAsked words asked × MayChange asked held after)

-- the words came to this status with this text: done, or a failure with its status and its line
abbrev pub CameTo : List (List ℕ) → Option Held → Option Held → ℕ → ℕ → Status → List ℕ → Type 0
CameTo words held after faults faults_after status text =
    ((status ≡ Done) × Did words held after text)
    ⊎ ((failure : Failure) × DidFail words held after faults faults_after failure × (status ≡ failure_status failure) × (text ≡ failure_line failure))

-- such a text was printed
abbrev pub Printed : Option (List ℕ) → Option (List ℕ) → (List ℕ → Type 0) → Type 0
Printed told told_after Text = (text : List ℕ) × Text text × (told_after ≡ gained told text)

-- the sink failed in this run, in the middle of the text of whatever status the words came to
pub record IsNotPrinted (words : List (List ℕ)) (held after : Option Held) (faults faults_after sink_faults sink_faults_after : ℕ) (told told_after : Option (List ℕ)) : Type 0 where
  pub cause : Rose sink_faults sink_faults_after
  pub status : Status
  pub text : List ℕ
  pub came_to : CameTo words held after faults faults_after status text
  pub part : GainedPart told told_after text

-- the sink had no memory in the middle of such a text, of which it has whole lines
pub record IsCutShort (words : List (List ℕ)) (held after : Option Held) (faults faults_after : ℕ) (told told_after : Option (List ℕ)) : Type 0 where
  pub status : Status
  pub text : List ℕ
  pub came_to : CameTo words held after faults faults_after status text
  pub lines : GainedLines told told_after text
