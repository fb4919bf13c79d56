-- The program's commands and their options, as `clap` reads them: docs/COMMANDS.md.
use Rattle.std.specs.Prelude.{◌≡◌, Bool, true, false, List, [], ◌∷◌, Some, codes}
use Rattle.clap.specs.Words.{App, Rule, Shape, Text, app_of, new_rule}
use Rattle.clap.specs.Simple.{new_shape}
use Rattle.clap.specs.declared.builder.action.ArgAction.TheVariants.{Set}
use Rattle.clap.specs.declared.builder.command.Command.{Command}
use Rattle.clap.specs.declared.builder.command.Command.TheViews.{out-Command}

-- a word that is known by its place, and has to be there
abbrev pub positional : Text → Rule
positional name = record (new_rule name) { action = Some Set; required = true }

-- an option with one value: `--NAME VALUE` or `--NAME=VALUE`
abbrev pub option : Text → Bool → Rule
option name needed = record (new_rule name) { long = Some name; action = Some Set; value_names = 1; required = needed }

-- a command with these options and words
abbrev pub command : Text → List Rule → Shape
command name rules = record (new_shape name) { rules = rules }

-- the same, as it stands by itself
abbrev pub command_app : Text → List Rule → App
command_app name rules = record { top = command name rules; subs = [] }

abbrev pub create_rules : List Rule
create_rules =
    positional (codes "POOL") ∷ option (codes "lanes") true ∷ option (codes "zones") true ∷ option (codes "id") true
    ∷ option (codes "layout") true ∷ option (codes "root") true ∷ []

abbrev pub exec_rules : List Rule
exec_rules =
    positional (codes "POOL") ∷ option (codes "script") true ∷ option (codes "out") true ∷ option (codes "layout") true
    ∷ option (codes "stops") false ∷ option (codes "keep") false ∷ []

abbrev pub recover_rules : List Rule
recover_rules =
    positional (codes "POOL") ∷ option (codes "out") true ∷ option (codes "stop") false ∷ option (codes "keep") false ∷ []

abbrev pub check_rules : List Rule
check_rules = positional (codes "POOL") ∷ option (codes "repair") false ∷ []

-- a command that takes a pool's name alone
abbrev pub pool_rules : List Rule
pool_rules = positional (codes "POOL") ∷ []

abbrev pub commands : List Shape
commands =
    command (codes "create") create_rules ∷ command (codes "exec") exec_rules ∷ command (codes "recover") recover_rules
    ∷ command (codes "check") check_rules ∷ command (codes "info") pool_rules ∷ command (codes "dump") pool_rules ∷ []

-- the program: one of its commands has to be named, and each of them answers `--version`
abbrev pub program : App
program = record {
  top = record (new_shape (codes "pmempool")) {
    is_leaf = false;
    has_version = true;
    propagate_version = true;
    subcommand_required = true;
    disable_help_subcommand = true;
  };
  subs = commands;
}

-- a command of `clap`, none of whose arguments is global, is read as this one
pub record IsApp (built : Command) (app : App) : Type 0 where
  pub is_app : app_of built ≡ app
  pub local : (out-Command built).has_globals ≡ false
