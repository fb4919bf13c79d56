-- Why a command ends with another status than 0. The causes of a command have an order: one that lies later in it comes only where the
-- earlier ones do not apply.
use Rattle.std.specs.Prelude.{◌≡◌, ◌⊎◌, ℕ, List, Option, ⊤}
use Rattle.pm_image.specs.declared.fault.ImageFault.{ImageFault}
use Rattle.pm_image.specs.declared.fault.MeansFault.{MeansFault}
use Rattle.pm_image.specs.declared.fault.MeansFault.TheVariants.{Image, Memory}
use Rattle.pm_options.specs.Words.{Check, Create, Exec, Recover}
use Rattle.pm_shelf.specs.Outside.{Held, Rose, IsThere, IsMissing, IsFront, IsWhole}
use Rattle.pm_commands.specs.Checked.{HasFaultLeft, IsRepair}
use Rattle.pm_commands.specs.Created.{HasGoodValues, IsValueCause}
use Rattle.pm_commands.specs.Executed.{IsRunFault, IsRunOf, script_limit}
use Rattle.pm_commands.specs.PoolFiles.{HasFault, limit}
use Rattle.pm_commands.specs.Recovered.{IsRecoveryOf}
use Rattle.pm_commands.specs.declared.failure.Failure.{Failure}
use Rattle.pm_commands.specs.declared.failure.Failure.TheVariants.{Faulty, Fault, NotRead, TooLong, NotWritten, NoMemory}

-- why a name was not read that may have so many bytes: the shelf failed in this run, or the name was not there, or it has more bytes
abbrev pub IsReadCause : List ℕ → ℕ → Option Held → ℕ → ℕ → Failure → Type 0
IsReadCause name most held faults faults_after (NotRead failed) = (failed.now ≡ name) × (Rose faults faults_after ⊎ IsMissing held name)
IsReadCause name most held faults faults_after (TooLong failed) = (failed.now ≡ name) × ((front : List ℕ) × IsFront held name most front)
IsReadCause name most held faults faults_after NoMemory = ⊤
IsReadCause name most held faults faults_after failure = ⊥

-- why a name was not written: the shelf failed in this run, or the name was there
abbrev pub IsWriteCause : List ℕ → Option Held → ℕ → ℕ → Failure → Type 0
IsWriteCause name held faults faults_after (NotWritten failed) = (failed.now ≡ name) × (Rose faults faults_after ⊎ IsThere held name)
IsWriteCause name held faults faults_after NoMemory = ⊤
IsWriteCause name held faults faults_after failure = ⊥

-- of `create`: a value is refused, the first that is to be; else the pool was not written
abbrev pub IsCreateCause : Create → Option Held → Option Held → ℕ → ℕ → Failure → Type 0
IsCreateCause c held after faults faults_after (NotWritten name) = HasGoodValues c.wanted × IsWriteCause c.pool held faults faults_after (NotWritten name)
IsCreateCause c held after faults faults_after NoMemory = ⊤
IsCreateCause c held after faults faults_after failure = IsValueCause c.wanted failure × (after ≡ held)

-- of `dump` and `info`: the pool was not read; else it has a fault
abbrev pub IsShowCause : List ℕ → Option Held → ℕ → ℕ → Failure → Type 0
IsShowCause pool held faults faults_after (Faulty found) = HasFault held pool found
IsShowCause pool held faults faults_after failure = IsReadCause pool limit held faults faults_after failure

-- of `check`: the pool was not read; else it has a fault and was not mended; else it was mended and not written
abbrev pub IsCheckCause : Check → Option Held → Option Held → ℕ → ℕ → Failure → Type 0
IsCheckCause c held after faults faults_after (Fault found) = HasFaultLeft c held found × (after ≡ held)
IsCheckCause c held after faults faults_after (NotWritten name) =
    (found : ImageFault) × (mended : List ℕ) × IsRepair c held found name.now mended × IsWriteCause name.now held faults faults_after (NotWritten name)
IsCheckCause c held after faults faults_after NoMemory = ⊤
IsCheckCause c held after faults faults_after failure = IsReadCause c.pool limit held faults faults_after failure × (after ≡ held)

-- of `exec`, before it writes: the pool was not read; else the script was not read; else it was not run
abbrev pub IsCauseBefore : Exec → Option Held → ℕ → ℕ → Failure → Type 0
IsCauseBefore e held faults faults_after failure =
    IsReadCause e.pool limit held faults faults_after failure
    ⊎ ((source : List ℕ) × IsWhole held e.pool limit source × IsReadCause e.script script_limit held faults faults_after failure)
    ⊎ ((source script_text : List ℕ) × IsWhole held e.pool limit source × IsWhole held e.script script_limit script_text × IsRunFault source script_text e failure)

-- of `exec`: one of these; else the run was made, and what it leaves was not written
abbrev pub IsExecCause : Exec → Option Held → Option Held → ℕ → ℕ → Failure → Type 0
IsExecCause e held after faults faults_after (NotWritten name) =
    (written text : List ℕ) × IsRunOf held e written text × IsWriteCause e.out held faults faults_after (NotWritten name)
IsExecCause e held after faults faults_after NoMemory = ⊤
IsExecCause e held after faults faults_after failure = IsCauseBefore e held faults faults_after failure × (after ≡ held)

-- of `recover`: the pool was not read; else it has a fault; else it was recovered, and what is left was not written
abbrev pub IsRecoverCause : Recover → Option Held → Option Held → ℕ → ℕ → Failure → Type 0
IsRecoverCause r held after faults faults_after (NotWritten name) =
    (written text : List ℕ) × IsRecoveryOf held r written text × IsWriteCause r.out held faults faults_after (NotWritten name)
IsRecoverCause r held after faults faults_after NoMemory = ⊤
IsRecoverCause r held after faults faults_after failure = IsShowCause r.pool held faults faults_after failure × (after ≡ held)

-- the failure that an image without a meaning is
abbrev pub failure_of : MeansFault → Failure
failure_of (Image found) = Faulty found
failure_of Memory = NoMemory
