-- What a status says of what was printed.
use Rattle.std.specs.Prelude.{String}
use Rattle.std.specs.declared.alloc.Global.{Global}
use Rattle.std.proofs.Common.{◌≡◌, ◌⊎◌, ℕ, List, Option, inl, inr, refl, sym, ◌∙◌, subst}
use Rattle.pm_options.specs.Asked.{IsAsked, exec_asked}
use Rattle.pm_options.specs.Words.{Exec}
use Rattle.pm_options.specs.declared.command.Command.{Command}
use Rattle.pm_options.specs.declared.command.Command.TheVariants as command
use Rattle.pm_shelf.specs.Outside.{Held}
use Rattle.pm_commands.specs.Answers.{CameTo, Did, DidFail, IsCauseOf, IsCutShort, IsNotPrinted, Printed}
use Rattle.pm_commands.specs.Failures.{IsCauseBefore}
use Rattle.pm_commands.specs.Lines.{failure_line, failure_status, no_memory_line}
use Rattle.pm_commands.specs.Saying.{IsAnswered, Said}
use Rattle.pm_commands.specs.declared.failure.Failure.{Failure}
use Rattle.pm_commands.specs.declared.failure.Failure.TheVariants.{Usage, NoMemory}
use Rattle.pm_commands.specs.declared.status.Status.{Status}
use Rattle.pm_commands.specs.declared.status.Status.TheVariants as status

-- no command that was read fails for faulty words
no_usage_before : (e : Exec) (held : Option Held) (faults faults_after : ℕ) (more : String Global) → IsCauseBefore e held faults faults_after (Usage more) → ⊥
no_usage_before e held faults faults_after more (inl read) = read
no_usage_before e held faults faults_after more (inr (inl read)) = read.2
no_usage_before e held faults faults_after more (inr (inr run)) = run.4

no_usage : (asked : Command) (held after : Option Held) (faults faults_after : ℕ) (more : String Global) → IsCauseOf asked held after faults faults_after (Usage more) → ⊥
no_usage (command.Create c) held after faults faults_after more cause = cause.0
no_usage (command.Exec e) held after faults faults_after more cause = no_usage_before (exec_asked e) held faults faults_after more cause.0
no_usage (command.Recover r) held after faults faults_after more cause = cause.0
no_usage (command.Check c) held after faults faults_after more cause = cause.0
no_usage (command.Info pool) held after faults faults_after more cause = cause.0
no_usage (command.Dump pool) held after faults faults_after more cause = cause.0
no_usage (command.Help help) held after faults faults_after more cause = cause

-- why a command failed that was asked for
pub command_failed : (words : List (List ℕ)) (asked : Command) → IsAsked words asked → (held after : Option Held) (faults faults_after : ℕ) (failure : Failure)
    → IsCauseOf asked held after faults faults_after failure → DidFail words held after faults faults_after failure
command_failed words asked is held after faults faults_after (Usage more) cause = absurd (no_usage asked held after faults faults_after more cause)
command_failed words asked is held after faults faults_after NoMemory cause = tt
command_failed words asked is held after faults faults_after failure cause = (asked, is, cause)

module _ (words : List (List ℕ)) (held after : Option Held) (faults faults_after sink sink_after : ℕ) (told told_after : Option (List ℕ)) (result : Status) where
  -- a command that was done, whose text was printed, or not
  pub answered_done : (text printed : List ℕ) → Did words held after text → printed ≡ text → Said told told_after sink sink_after printed status.Done result
      → IsAnswered words held after faults faults_after sink sink_after told told_after result
  answered_done text printed did same said = record {
    wanted = status.Done;
    text = printed;
    came_to = inl (refl, subst (Did words held after) (sym same) did);
    said = said;
  }

  -- so one that failed
  pub answered_failed : (failure : Failure) → DidFail words held after faults faults_after failure
      → Said told told_after sink sink_after (failure_line failure) (failure_status failure) result ⊎ Said told told_after sink sink_after no_memory_line status.NoMemory result
      → IsAnswered words held after faults faults_after sink sink_after told told_after result
  answered_failed failure did (inl said) = record {
    wanted = failure_status failure;
    text = failure_line failure;
    came_to = inr (failure, did, refl, refl);
    said = said;
  }
  answered_failed failure did (inr said) = record {
    wanted = status.NoMemory;
    text = no_memory_line;
    came_to = inr (NoMemory, tt, refl, refl);
    said = said;
  }

  -- where the status tells neither of the sink nor of memory, it is what the words came to, and its text was printed
  pub printed_so : IsAnswered words held after faults faults_after sink sink_after told told_after result → (wanted : Status) → (wanted ≡ status.WriteFault → ⊥) → (wanted ≡ status.NoMemory → ⊥)
      → result ≡ wanted → Printed told told_after (CameTo words held after faults faults_after wanted)
  printed_so answered wanted not_write not_memory is = go answered.said where
    go : Said told told_after sink sink_after answered.text answered.wanted result → Printed told told_after (CameTo words held after faults faults_after wanted)
    go (inl said) = (answered.text, subst (λ (s : Status). CameTo words held after faults faults_after s answered.text) (sym said.0 ∙ is) answered.came_to, said.1)
    go (inr (inl failed)) = absurd (not_write (sym is ∙ failed.0))
    go (inr (inr full)) = absurd (not_memory (sym is ∙ full.0))

  pub printed_or_failed : IsAnswered words held after faults faults_after sink sink_after told told_after result → result ≡ status.WriteFault
      → Printed told told_after (CameTo words held after faults faults_after status.WriteFault) ⊎ IsNotPrinted words held after faults faults_after sink sink_after told told_after
  printed_or_failed answered is = go answered.said where
    go : Said told told_after sink sink_after answered.text answered.wanted result
        → Printed told told_after (CameTo words held after faults faults_after status.WriteFault) ⊎ IsNotPrinted words held after faults faults_after sink sink_after told told_after
    go (inl said) = inl (answered.text, subst (λ (s : Status). CameTo words held after faults faults_after s answered.text) (sym said.0 ∙ is) answered.came_to, said.1)
    go (inr (inl failed)) = inr (record { cause = failed.1; status = answered.wanted; text = answered.text; came_to = answered.came_to; part = failed.2 })
    go (inr (inr full)) = absurd (let clash : status.WriteFault ≡ status.NoMemory = sym is ∙ full.0 in cc)

  pub printed_or_cut : IsAnswered words held after faults faults_after sink sink_after told told_after result → result ≡ status.NoMemory
      → Printed told told_after (CameTo words held after faults faults_after status.NoMemory) ⊎ IsCutShort words held after faults faults_after told told_after
  printed_or_cut answered is = go answered.said where
    go : Said told told_after sink sink_after answered.text answered.wanted result
        → Printed told told_after (CameTo words held after faults faults_after status.NoMemory) ⊎ IsCutShort words held after faults faults_after told told_after
    go (inl said) = inl (answered.text, subst (λ (s : Status). CameTo words held after faults faults_after s answered.text) (sym said.0 ∙ is) answered.came_to, said.1)
    go (inr (inl failed)) = absurd (let clash : status.NoMemory ≡ status.WriteFault = sym is ∙ failed.0 in cc)
    go (inr (inr full)) = inr (record { status = answered.wanted; text = answered.text; came_to = answered.came_to; lines = full.1 })
