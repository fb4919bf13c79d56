use Rattle.std.proofs.Common.{true, ◌∙◌, ap, codes}
use Rattle.clap.specs.Words.{App, new_app}
use Rattle.clap.specs.Simple.{app_of_fields, on_top}
use Rattle.clap.specs.declared.builder.command.Command.{Command}
use Rattle.clap.specs.declared.builder.command.Command.TheOpen.{Command-F}
use Rattle.pm_options.specs.Program.{IsApp}
use Rattle.pm_options.proofs.Apps.{command_added}
use Rattle.pm_options.proofs.program.program.Goals as goal

-- the program before its commands
abbrev top : App
top = on_top (λ s. record s { has_version = true; propagate_version = true; subcommand_required = true; disable_help_subcommand = true }) (new_app (codes "pmempool"))

pub returns : goal.returns
returns c =
    let set : IsApp c.disable_help_subcommand-top.result top = record {
      is_app = ap app_of_fields c.disable_help_subcommand-top.ensures
          ∙ ap (λ (f : Command-F Command). app_of_fields (record f { disable_help_subcommand = true }))
          (c.subcommand_required.ensures ∙ ap (λ (f : Command-F Command). record f { subcommand_required = true })
          (c.propagate_version.ensures ∙ ap (λ (f : Command-F Command). record f { propagate_version = true }) c.version.ensures))
          ∙ ap (on_top (λ s. record s { has_version = true; propagate_version = true; subcommand_required = true; disable_help_subcommand = true })) c.named.ensures.is_app;
      local = ap (λ (f : Command-F Command). f.has_globals) c.disable_help_subcommand-top.ensures ∙ ap (λ (f : Command-F Command). f.has_globals) c.subcommand_required.ensures
          ∙ ap (λ (f : Command-F Command). f.has_globals) c.propagate_version.ensures ∙ ap (λ (f : Command-F Command). f.has_globals) c.version.ensures ∙ c.named.ensures.local;
    } in
    let create = command_added _ _ _ _ _ c.in_ok-with_create.ensures set c.in_ok-create.ensures in
    let exec = command_added _ _ _ _ _ c.in_ok-with_exec.ensures create c.in_ok-exec.ensures in
    let recover = command_added _ _ _ _ _ c.in_ok-with_recover.ensures exec c.in_ok-recover.ensures in
    let check = command_added _ _ _ _ _ c.in_ok-with_check.ensures recover c.in_ok-check.ensures in
    let info = command_added _ _ _ _ _ c.in_ok-with_info.ensures check c.in_ok-info.ensures in
    command_added _ _ _ _ _ c.in_ok-with_dump.ensures info c.in_ok-dump.ensures
