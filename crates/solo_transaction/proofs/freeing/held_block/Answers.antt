use Rattle.std.proofs.Common.{◌-◌, ◌/◌, true, refl, sym, ◌∙◌, arith}
use Rattle.solo_transaction.proofs.HeldBlocks.{block_is_held, no_lock, none_clashes, some_block}
use Rattle.solo_tx.proofs.HeldLocks.{no_line}
use Rattle.solo_transaction.proofs.freeing.held_block.Goals.{then-off-lt-LINE_BYTES-via-then-off-lt-LINE_BYTES, then-off-lt-LINE_BYTES-via-else-off-lt-LINE_BYTES+then-off-ne0}
use Rattle.solo_transaction.proofs.freeing.held_block.Goals as goal

pub returns-then-off-lt-LINE_BYTES-clause-none : goal.returns-then-off-lt-LINE_BYTES-clause-none
returns-then-off-lt-LINE_BYTES-clause-none c is blocks =
    no_line c.args.locks.now c.args.off true
    (λ line same.
    elim c.then-off-lt-LINE_BYTES.branch [
      | then-off-lt-LINE_BYTES-via-then-off-lt-LINE_BYTES w ↦ (let low = w.if-off-lt-LINE_BYTES.true in omega (arith, low, same))
      | then-off-lt-LINE_BYTES-via-else-off-lt-LINE_BYTES+then-off-ne0 w ↦ (let odd = w.if-off-ne0.true in omega (arith, odd, same))
    ])

pub returns-in_err-lock-clause-none : goal.returns-in_err-lock-clause-none
returns-in_err-lock-clause-none c is blocks = no_lock c.args.locks.now c.args.off (let high = c.if-off-lt-LINE_BYTES.false in omega (arith, high)) c.if-off-ne0.false (sym c.lock_at.ensures ∙ c.in_err-lock.was)

pub returns-clause-some : goal.returns-clause-some
returns-clause-some c = block_is_held c.args.locks.now c.args.off (let high = c.if-off-lt-LINE_BYTES.false in omega (arith, high)) c.if-off-ne0.false c.in_ok-lock.lock c.in_ok-lock.lock.block (sym c.lock_at.ensures ∙ c.in_ok-lock.was) refl

pub returns-clause-none : goal.returns-clause-none
returns-clause-none c is blocks = none_clashes c.in_ok-lock.lock.block (some_block c.args.locks.now (c.args.off / 64 - 1) c.in_ok-lock.lock (sym c.lock_at.ensures ∙ c.in_ok-lock.was) blocks) is
