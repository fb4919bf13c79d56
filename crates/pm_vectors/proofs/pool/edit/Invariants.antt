use Rattle.std.proofs.Common.{◌≡◌, drop}
use Rattle.pm_vectors.specs.Damages.{edited}
use Rattle.pm_vectors.proofs.pool.edit.Given as goal

abbrev pub invariant-loop-edit : goal.invariant-loop-edit
invariant-loop-edit l = edited l.image (drop l.edit-index l.edits) ≡ edited l.initial.image l.edits
