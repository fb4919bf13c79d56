use Rattle.std.proofs.Common.{ℕ, ◌+◌, ◌≤◌, get_or, sym, subst, arith, false}
use Rattle.pm_view.specs.declared.change.Change.{Change}
use Rattle.pm_memory.proofs.Leasts.{IsLeast, least-stays, least-falls, least_all}
use Rattle.pm_memory.proofs.survivors.next_changed.Goals as goal
use Rattle.pm_memory.proofs.survivors.next_changed.Goals.{then-from-change+then-change-least, else-from-change, else-from-change-via-then-from-change+else-change-least, else-from-change-via-else-from-change}

abbrev nothing : Change
nothing = record { word = 0; mask = 0; old = 0; new = 0; flushed = false }

pub loop-change-preserved : goal.loop-change-preserved
loop-change-preserved c =
    let so_far : IsLeast c.args.changes.now c.args.from c.args.end c.loop-change.change-index c.loop-change.least = c.loop-change.invariant in
    let change : Change = get_or c.args.changes.now c.loop-change.change-index nothing in
    let P : ℕ → Type 0 = λ n. IsLeast c.args.changes.now c.args.from c.args.end (c.loop-change.change-index + 1) n in
    elim c.if-from-change.branch [
      | then-from-change+then-change-least w ↦ subst P (sym w.least-is) (least-falls c.args.changes.now c.args.from c.args.end c.loop-change.change-index c.loop-change.least nothing so_far (omega arith) w.if-from-change.true w.if-change-least.true)
      | else-from-change w ↦
          let above : c.args.from ≤ change.word → c.loop-change.least ≤ change.word = λ low. elim w.else-from-change.branch [
            | else-from-change-via-then-from-change+else-change-least u ↦ omega arith
            | else-from-change-via-else-from-change u ↦ omega arith
          ] in
          subst P (sym w.least-is) (least-stays c.args.changes.now c.args.from c.args.end c.loop-change.change-index c.loop-change.least nothing so_far (omega arith) above)
    ]

pub returns-clause-least : goal.returns-clause-least
returns-clause-least c = least_all c.args.changes.now c.args.from c.args.end c.loop-change.change-index c.loop-change.least (omega arith) c.loop-change.invariant
