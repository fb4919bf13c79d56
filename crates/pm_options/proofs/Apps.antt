-- How a command of `clap` is read while words and commands are added to it.
use Rattle.std.proofs.Common.{◌≡◌, ◌||◌, false, ◌∙◌, ap, ap₂}
use Rattle.clap.specs.Words.{AddsArg, AddsSubcommand, App, Rule, rule_of, with_rule, with_subcommand}
use Rattle.clap.specs.declared.builder.arg.Arg.{Arg}
use Rattle.clap.specs.declared.builder.command.Command.{Command}
use Rattle.pm_options.specs.Program.{IsApp}

pub arg_added : (old new : Command) (a : Arg) (app : App) (rule : Rule) → AddsArg old a new → IsApp old app → a.global ≡ false → rule_of a ≡ rule → IsApp new (with_rule app rule)
arg_added old new a app rule adds is local same = record {
  is_app = adds.shape local ∙ ap₂ with_rule is.is_app same;
  local = adds.globals ∙ (λ i. is.local i || local i);
}

pub command_added : (old new sub : Command) (app leaf : App) → AddsSubcommand old sub new → IsApp old app → IsApp sub leaf → IsApp new (with_subcommand app leaf.top)
command_added old new sub app leaf adds is below = record {
  is_app = adds.shape below.local ∙ ap₂ with_subcommand is.is_app (ap (λ (a : App). a.top) below.is_app);
  local = adds.globals ∙ (λ i. is.local i || below.local i);
}
