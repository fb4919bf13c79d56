use Rattle.std.proofs.Common.{◌≡◌, ◌+◌, ◌-◌, ◌*◌, ◌/◌, sym, ◌∙◌, arith, rules}
use Rattle.solo_tx.proofs.HeldLocks.{line_locked, no_line}
use Rattle.solo_tx.proofs.checking.held_line.Goals.{then-id-pool-via-then-id-pool, then-id-pool-via-else-id-pool+then-id-lt-LINE_BYTES, then-id-pool-via-else-id-pool+else-id-lt-LINE_BYTES+then-id-ne0}
use Rattle.solo_tx.proofs.checking.held_line.Goals as goal

pub returns-then-id-pool-clause-none : goal.returns-then-id-pool-clause-none
returns-then-id-pool-clause-none c e same =
    elim c.then-id-pool.branch [
      | then-id-pool-via-then-id-pool w ↦ absurd (search rules)
      | then-id-pool-via-else-id-pool+then-id-lt-LINE_BYTES w ↦
          no_line c.args.locks.now c.args.id.off c.args.write (λ line is. let low = w.if-id-lt-LINE_BYTES.true in omega (arith, is, low))
      | then-id-pool-via-else-id-pool+else-id-lt-LINE_BYTES+then-id-ne0 w ↦
          no_line c.args.locks.now c.args.id.off c.args.write (λ line is. let odd = w.if-id-ne0.true in omega (arith, is, odd))
    ]

pub returns-else-holds-clause-none : goal.returns-else-holds-clause-none
returns-else-holds-clause-none c e same =
    let some = c.if-id-lt-LINE_BYTES.false in
    let even = c.if-id-ne0.false in
    let at : c.args.id.off ≡ 64 * (c.args.id.off / 64 - 1) + 64 = omega (arith, some, even) in
    line_locked c.args.locks.now (c.args.id.off / 64 - 1) c.args.id.off c.args.write at ∙ (sym c.holds.ensures ∙ c.if-holds.false)
