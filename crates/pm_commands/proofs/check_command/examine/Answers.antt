use Rattle.std.proofs.Common.{◌≡◌, List, ℕ, inr, subst}
use Rattle.pm_words.specs.Words.{words_of}
use Rattle.pm_image.specs.Means.{IsImageFault}
use Rattle.pm_check.specs.Verdicts.{DidCheck}
use Rattle.pm_check.specs.declared.verdict.Verdict.TheVariants.{Fault}
use Rattle.pm_commands.proofs.Checking.{image_unmended}
use Rattle.pm_commands.proofs.check_command.examine.Goals as goal

pub returns-in-Fault : goal.returns-in-Fault
returns-in-Fault c =
    let did : DidCheck c.in_ok-image.image c.check.new.image c.args.repair (Fault c.in-Fault.found) = rw c.in-Fault.is at c.in_ok-check.ensures.verdict in
    let same : c.in_ok-image.image ≡ words_of c.args.bytes.now = c.in_ok-image.ensures in
    (inr (c.if-bytes-ne0.false, subst (λ (words : List ℕ). IsImageFault words c.in-Fault.found) same did.0), image_unmended c.args.bytes.now c.in_ok-image.image c.in-Fault.found c.args.repair same did.2)
