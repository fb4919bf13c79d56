use Rattle.std.proofs.Common.{Global, Vec, map}
use Rattle.pm_view.specs.declared.change.Change.{Change}
use Rattle.pm_memory.proofs.Imaging.{IsImageOfFirst}
use Rattle.pm_memory.proofs.image.crash.Given as goal

abbrev pub invariant-loop-changes : goal.invariant-loop-changes
invariant-loop-changes l = IsImageOfFirst l.keep l.fn.words.items l.left.items
    (map (λ (changes : Vec Change Global). changes.items) l.undrained) l.changes-index l.kept
