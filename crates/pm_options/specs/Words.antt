-- What the words of the command line ask for, behind the program's name: docs/COMMANDS.md.
use Rattle.std.specs.Prelude.{◌≡◌, ◌≢◌, ◌⊎◌, ℕ, List, [], Option, None, Some, codes, map, string_bytes, String}
use Rattle.std.specs.declared.alloc.Global.{Global}
use Rattle.clap.specs.Words.{IsAmong, Row, Text, fault_of, first_of, subcommand_of}
use Rattle.clap.specs.declared.error.kind.ErrorKind.{ErrorKind}
use Rattle.clap.specs.declared.error.kind.ErrorKind.TheVariants.{DisplayHelp, DisplayVersion}
use Rattle.pm_pool.specs.Created.{Wanted}
use Rattle.pm_script.specs.Numbers.{number_of}
use Rattle.pm_script.specs.Stops.{AreStops}
use Rattle.pm_options.specs.Program.{program}

-- the bytes of each word
abbrev pub texts : List (String Global) → List Text
texts words = map string_bytes words

-- the words name this command and have what it wants, and its options and words have these values
pub record IsGiven (words : List Text) (name : Text) (rows : List Row) : Type 0 where
  pub no_fault : fault_of program words ≡ []
  pub command : subcommand_of program words ≡ Some (name, rows)

-- an option or word has this value
abbrev pub HasValue : List Row → Text → Text → Type 0
HasValue rows name text = first_of name rows ≡ Some text

-- it has a number for its value
abbrev pub HasNumber : List Row → Text → ℕ → Type 0
HasNumber rows name number = (text : Text) × HasValue rows name text × (number_of text ≡ Some number)

-- it has this number for its value, or 0 where it is left out
abbrev pub HasNumberOrZero : List Row → Text → ℕ → Type 0
HasNumberOrZero rows name number = ((first_of name rows ≡ None) × (number ≡ 0)) ⊎ HasNumber rows name number

-- it has this number for its value, or is left out, for none
abbrev pub HasNumberIfThere : List Row → Text → Option ℕ → Type 0
HasNumberIfThere rows name None = first_of name rows ≡ None
HasNumberIfThere rows name (Some number) = HasNumber rows name number

-- `--stops` has a list of these stops, each a lane and its stop number, or is left out, for none
abbrev pub HasStops : List Row → List (ℕ × ℕ) → Type 0
HasStops rows stops =
    ((first_of (codes "stops") rows ≡ None) × (stops ≡ []))
    ⊎ ((text : Text) × HasValue rows (codes "stops") text × AreStops text stops)

-- what `create` is asked for: a pool's name, and what is to be in it
pub record Create : Type 0 where
  pub pool : Text
  pub wanted : Wanted

-- what `exec` is asked for: the names of the pool, the script and the new pool, the layout name, after how many counted calls lanes stop, and
-- what survives
pub record Exec : Type 0 where
  pub pool : Text
  pub script : Text
  pub out : Text
  pub layout : Text
  pub stops : List (ℕ × ℕ)
  pub keep : ℕ

-- what `recover` is asked for: the names of the pool and of the recovered one, after how many counted calls it stops, if it does, and what
-- survives
pub record Recover : Type 0 where
  pub pool : Text
  pub out : Text
  pub stop : Option ℕ
  pub keep : ℕ

-- what `check` is asked for: the name of the pool, and the one that a mended pool gets, if it is to be mended
pub record Check : Type 0 where
  pub pool : Text
  pub repair : Option Text

-- the values of `create`'s words and options
pub record HasCreate (rows : List Row) (c : Create) : Type 0 where
  pub pool : HasValue rows (codes "POOL") c.pool
  pub lanes : HasNumber rows (codes "lanes") c.wanted.lanes
  pub zones : HasNumber rows (codes "zones") c.wanted.zones
  pub id : HasNumber rows (codes "id") c.wanted.id
  pub layout : HasValue rows (codes "layout") c.wanted.layout
  pub root : HasNumber rows (codes "root") c.wanted.root

-- of `exec`'s
pub record HasExec (rows : List Row) (e : Exec) : Type 0 where
  pub pool : HasValue rows (codes "POOL") e.pool
  pub script : HasValue rows (codes "script") e.script
  pub out : HasValue rows (codes "out") e.out
  pub layout : HasValue rows (codes "layout") e.layout
  pub stops : HasStops rows e.stops
  pub keep : HasNumberOrZero rows (codes "keep") e.keep

-- of `recover`'s
pub record HasRecover (rows : List Row) (r : Recover) : Type 0 where
  pub pool : HasValue rows (codes "POOL") r.pool
  pub out : HasValue rows (codes "out") r.out
  pub stop : HasNumberIfThere rows (codes "stop") r.stop
  pub keep : HasNumberOrZero rows (codes "keep") r.keep

-- of `check`'s
pub record HasCheck (rows : List Row) (c : Check) : Type 0 where
  pub pool : HasValue rows (codes "POOL") c.pool
  pub repair : first_of (codes "repair") rows ≡ c.repair

-- the words are `create POOL --lanes L --zones Z --id N --layout NAME --root SIZE`, the options in any order
abbrev pub IsCreate : List Text → Create → Type 0
IsCreate words c = (rows : List Row) × IsGiven words (codes "create") rows × HasCreate rows c

-- the words are `exec POOL --script FILE --out POOL2 --layout NAME [--stops LIST] [--keep K]`, the options in any order
abbrev pub IsExec : List Text → Exec → Type 0
IsExec words e = (rows : List Row) × IsGiven words (codes "exec") rows × HasExec rows e

-- the words are `recover POOL --out POOL2 [--stop N] [--keep K]`, the options in any order
abbrev pub IsRecover : List Text → Recover → Type 0
IsRecover words r = (rows : List Row) × IsGiven words (codes "recover") rows × HasRecover rows r

-- the words are `check POOL [--repair POOL2]`
abbrev pub IsCheck : List Text → Check → Type 0
IsCheck words c = (rows : List Row) × IsGiven words (codes "check") rows × HasCheck rows c

-- the words are `info POOL`
abbrev pub IsInfo : List Text → Text → Type 0
IsInfo words pool = (rows : List Row) × IsGiven words (codes "info") rows × HasValue rows (codes "POOL") pool

-- the words are `dump POOL`
abbrev pub IsDump : List Text → Text → Type 0
IsDump words pool = (rows : List Row) × IsGiven words (codes "dump") rows × HasValue rows (codes "POOL") pool

-- the words ask for help or for the version, of the program or of a command, before anything is wrong with them
abbrev pub IsHelp : List Text → Type 0
IsHelp words = IsAmong DisplayHelp (fault_of program words) ⊎ IsAmong DisplayVersion (fault_of program words)

-- the words are none of the commands
pub record IsNoCommand (words : List Text) : Type 0 where
  pub no_create : (c : Create) → ¬ IsCreate words c
  pub no_exec : (e : Exec) → ¬ IsExec words e
  pub no_recover : (r : Recover) → ¬ IsRecover words r
  pub no_check : (c : Check) → ¬ IsCheck words c
  pub no_info : (pool : Text) → ¬ IsInfo words pool
  pub no_dump : (pool : Text) → ¬ IsDump words pool

-- something is wrong with the words other than that they ask for help or for the version: a fault that `clap` finds, or else a number or a
-- list out of form
pub record IsFaulty (words : List Text) : Type 0 where
  pub no_command : IsNoCommand words
  pub cause : ((kind : ErrorKind) × IsAmong kind (fault_of program words) × (kind ≢ DisplayHelp) × (kind ≢ DisplayVersion))
      ⊎ (fault_of program words ≡ [])
