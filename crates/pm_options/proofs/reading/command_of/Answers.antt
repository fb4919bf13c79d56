use Rattle.std.proofs.Common.{inr, ◌⊎◌, ◌≡◌, List}
use Rattle.std.proofs.lemmas.Result.{IfErr-weaker, IfOk-weaker}
use Rattle.clap.specs.Words.{IsAmong, Text, fault_of, kind_of}
use Rattle.clap.specs.declared.error.kind.ErrorKind.TheVariants.{OutOfMemory}
use Rattle.pm_options.specs.Asked.{HasFound}
use Rattle.pm_options.specs.Program.{program}
use Rattle.pm_options.specs.Words.{texts}
use Rattle.pm_options.proofs.Commands.{faulty, found, help_asked, told_kind}
use Rattle.pm_options.proofs.Usages.{usage_map}
use Rattle.pm_options.proofs.reading.command_of.Goals as goal

pub returns-in-Ok-clause-asked : goal.returns-in-Ok-clause-asked
returns-in-Ok-clause-asked c =
    let words : List Text = texts c.args.words.now in
    let has : HasFound words c.in-Ok.matches = found c.in_ok-program.program words c.in-Ok.matches c.in_ok-program.ensures c.in-Ok.ensures.kinds c.in-Ok.ensures.matches in
    IfOk-weaker c.command_in.result _ _ (λ command asked. asked words has) c.command_in.ensures.asked

pub returns-in-Ok-clause-faulty : goal.returns-in-Ok-clause-faulty
returns-in-Ok-clause-faulty c =
    let words : List Text = texts c.args.words.now in
    let has : HasFound words c.in-Ok.matches = found c.in_ok-program.program words c.in-Ok.matches c.in_ok-program.ensures c.in-Ok.ensures.kinds c.in-Ok.ensures.matches in
    IfErr-weaker c.command_in.result _ _ (λ e holds. usage_map e _ _ (λ none. record { no_command = none words has; cause = inr has.0 }) holds) c.command_in.ensures.faulty

pub returns-in-Err-clause-asked : goal.returns-in-Err-clause-asked
returns-in-Err-clause-asked c =
    let words : List Text = texts c.args.words.now in
    let told : (kind_of c.in-Err.error ≡ OutOfMemory) ⊎ IsAmong (kind_of c.in-Err.error) (fault_of program words) = told_kind c.in_ok-program.program words (kind_of c.in-Err.error) c.in_ok-program.ensures c.in-Err.ensures.kinds in
    IfOk-weaker c.told_by.result _ _ (λ command is. help_asked words (kind_of c.in-Err.error) command told is) c.told_by.ensures.asked

pub returns-in-Err-clause-faulty : goal.returns-in-Err-clause-faulty
returns-in-Err-clause-faulty c =
    let words : List Text = texts c.args.words.now in
    let told : (kind_of c.in-Err.error ≡ OutOfMemory) ⊎ IsAmong (kind_of c.in-Err.error) (fault_of program words) = told_kind c.in_ok-program.program words (kind_of c.in-Err.error) c.in_ok-program.ensures c.in-Err.ensures.kinds in
    IfErr-weaker c.told_by.result _ _ (λ e holds. usage_map e _ _ (λ is. faulty words (kind_of c.in-Err.error) told is) holds) c.told_by.ensures.faulty
