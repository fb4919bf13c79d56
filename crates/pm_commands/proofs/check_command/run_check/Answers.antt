use Rattle.std.proofs.Common.{List, ℕ, ap, option_map}
use Rattle.std.specs.Borrow.{Bor}
use Rattle.std.proofs.lemmas.Result.{IfErr-weaker}
use Rattle.pm_options.specs.Asked.{check_asked}
use Rattle.pm_commands.specs.Checked.{IsFinding}
use Rattle.pm_commands.specs.PoolFiles.{Mends}
use Rattle.pm_commands.specs.declared.check_command.Finding.TheVariants as finding
use Rattle.pm_commands.proofs.Causes.{check_unwritten}
use Rattle.pm_commands.proofs.Checking.{asked_for, fault_left, is_repair, repaired_if}
use Rattle.pm_commands.proofs.check_command.run_check.Goals as goal

pub returns-in-Ok-Fault-clause-cause : goal.returns-in-Ok-Fault-clause-cause
returns-in-Ok-Fault-clause-cause g c =
    let seen : IsFinding c.deref.result.now c.is_some.result (finding.Fault c.in-Ok-Fault.found) = rw c.in-Ok-Fault.field-0-is at c.in-Ok-Fault.ensures in
    let found : IsFinding c.in_ok-bytes.bytes.items c.is_some.result (finding.Fault c.in-Ok-Fault.found) = rw c.deref.ensures.value at seen in (
      fault_left (check_asked c.args.words.now) (g.S.Shelf.content c.args.shelf.now) (g.S.Shelf.content c.read.new.shelf) (g.S.Shelf.content c.read.new.shelf) c.in_ok-bytes.bytes.items
          c.in_ok-bytes.ensures.kept c.in_ok-bytes.ensures.whole c.in-Ok-Fault.found found.0 c.is_some.result (asked_for c.args.words.now.repair c.is_some.result c.is_some.ensures) found.1,
      c.in_ok-bytes.ensures.kept,
    )

pub returns-in-Some-clause-checked : goal.returns-in-Some-clause-checked
returns-in-Some-clause-checked g c =
    let seen : IsFinding c.deref.result.now c.is_some.result (finding.Mended c.in-Ok-Mended.found c.in-Ok-Mended.bytes) = rw c.in-Ok-Mended.field-0-is at c.in-Ok-Mended.ensures in
    let mends : Mends c.in_ok-bytes.bytes.items c.in-Ok-Mended.found c.in-Ok-Mended.bytes.items = rw c.deref.ensures.value at seen.1 in
    repaired_if (check_asked c.args.words.now) (g.S.Shelf.content c.args.shelf.now) (g.S.Shelf.content c.read.new.shelf) (g.S.Shelf.content c.put_mended.new.shelf) c.in_ok-bytes.bytes.items
    c.in_ok-bytes.ensures.kept c.in_ok-bytes.ensures.whole c.in-Ok-Mended.found c.in-Some.name.now c.in-Ok-Mended.bytes.items
    (ap (option_map (λ (given : Bor (List ℕ)). given.now)) c.in-Some.is) mends c.put_mended.result (λ text. text.items) c.put_mended.ensures.text
    (rw c.deref-in-Some.ensures.value at c.put_mended.ensures.added)

pub returns-in-Some-clause-cause : goal.returns-in-Some-clause-cause
returns-in-Some-clause-cause g c =
    let seen : IsFinding c.deref.result.now c.is_some.result (finding.Mended c.in-Ok-Mended.found c.in-Ok-Mended.bytes) = rw c.in-Ok-Mended.field-0-is at c.in-Ok-Mended.ensures in
    let mends : Mends c.in_ok-bytes.bytes.items c.in-Ok-Mended.found c.in-Ok-Mended.bytes.items = rw c.deref.ensures.value at seen.1 in
    IfErr-weaker c.put_mended.result _ _ (λ failure cause. check_unwritten (check_asked c.args.words.now) (g.S.Shelf.content c.args.shelf.now) (g.S.Shelf.content c.read.new.shelf)
    (g.S.Shelf.content c.put_mended.new.shelf) (g.S.Shelf.faults c.args.shelf.now) (g.S.Shelf.faults c.read.new.shelf) (g.S.Shelf.faults c.put_mended.new.shelf)
    c.in-Ok-Mended.found c.in-Some.name.now c.in-Ok-Mended.bytes.items c.in_ok-bytes.ensures.kept c.in_ok-bytes.ensures.faults
    (is_repair (check_asked c.args.words.now) (g.S.Shelf.content c.args.shelf.now) (g.S.Shelf.content c.read.new.shelf) (g.S.Shelf.content c.put_mended.new.shelf) c.in_ok-bytes.bytes.items
    c.in_ok-bytes.ensures.kept c.in_ok-bytes.ensures.whole c.in-Ok-Mended.found c.in-Some.name.now c.in-Ok-Mended.bytes.items
    (ap (option_map (λ (given : Bor (List ℕ)). given.now)) c.in-Some.is) mends)
    failure cause) c.put_mended.ensures.cause
