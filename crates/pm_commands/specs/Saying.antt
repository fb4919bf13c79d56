-- What came of printing a text.
use Rattle.std.specs.Prelude.{◌≡◌, ◌⊎◌, ℕ, List, Option}
use Rattle.pm_shelf.specs.Outside.{Held, Rose, gained, GainedPart}
use Rattle.pm_text.specs.Lines.{GainedLines}
use Rattle.pm_commands.specs.Answers.{CameTo}
use Rattle.pm_commands.specs.declared.status.Status.{Status}
use Rattle.pm_commands.specs.declared.status.Status.TheVariants as status

-- the text was printed and the status stands, or the sink failed in it, or had no memory after whole lines of it
abbrev pub Said : Option (List ℕ) → Option (List ℕ) → ℕ → ℕ → List ℕ → Status → Status → Type 0
Said told after faults faults_after text wanted result =
    ((result ≡ wanted) × (after ≡ gained told text))
    ⊎ (((result ≡ status.WriteFault) × Rose faults faults_after × GainedPart told after text)
    ⊎ ((result ≡ status.NoMemory) × GainedLines told after text))

-- the words came to a status and a text, and what came of printing the text is the result
pub record IsAnswered (words : List (List ℕ)) (held after : Option Held) (faults faults_after sink_faults sink_faults_after : ℕ) (told told_after : Option (List ℕ)) (result : Status) : Type 0 where
  pub wanted : Status
  pub text : List ℕ
  pub came_to : CameTo words held after faults faults_after wanted text
  pub said : Said told told_after sink_faults sink_faults_after text wanted result
