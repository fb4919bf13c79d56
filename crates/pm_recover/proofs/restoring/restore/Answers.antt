use Rattle.std.proofs.Common.{◌≡◌, ℕ, ◌/◌, subst, arith}
use Rattle.pm_recover.specs.Steps.{AreWritten}
use Rattle.pm_recover.proofs.PutBack.{record_written}
use Rattle.pm_recover.proofs.restoring.restore.Goals as goal

pub returns : goal.returns
returns c =
    let u = c.args.one.now in
    let end : c.loop-k.k ≡ u.count = omega arith in
    record_written u c.args.image.now c.loop-k.image c.requires.aligned c.requires.few (subst (λ (n : ℕ). AreWritten u.old (u.place / 8) n c.args.image.now c.loop-k.image) end c.loop-k.invariant)
