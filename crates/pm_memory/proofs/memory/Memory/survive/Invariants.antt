use Rattle.pm_memory.proofs.Imaging.{IsImageOfFirst}
use Rattle.pm_memory.proofs.memory.Memory.survive.Given as goal

abbrev pub invariant-loop-changes : goal.invariant-loop-changes
invariant-loop-changes l = IsImageOfFirst l.keep l.self.words l.left.items l.changes-items l.changes-index l.kept
