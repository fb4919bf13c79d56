use Rattle.std.proofs.Common.{arith}
use Rattle.pm_tx.proofs.PublishedLanes.{check_err, check_full, check_ok}
use Rattle.pm_tx.proofs.publishing.check_publish.Goals as goal

pub returns-in-Err : goal.returns-in-Err
returns-in-Err g c =
    check_err g.M.LaneMem.at c.args.lane.now c.check_actions.new.lane c.in-Err.why c.in-Err.ensures

pub returns-then-entries-lt-REDO_ENTRIES : goal.returns-then-entries-lt-REDO_ENTRIES
returns-then-entries-lt-REDO_ENTRIES g c =
    let low = c.if-entries-lt-REDO_ENTRIES.true in
    let e = c.len.ensures.value in
    let p = c.len-2.ensures.value in
    check_ok g.M.LaneMem.at c.args.lane.now c.check_actions.new.lane (omega (arith, low, e, p))
    c.in_default.ensures

pub returns-else-entries-lt-REDO_ENTRIES : goal.returns-else-entries-lt-REDO_ENTRIES
returns-else-entries-lt-REDO_ENTRIES g c =
    let high = c.if-entries-lt-REDO_ENTRIES.false in
    let e = c.len.ensures.value in
    let p = c.len-2.ensures.value in
    check_full g.M.LaneMem.at c.args.lane.now c.check_actions.new.lane (omega (arith, high, e, p))
    c.in_default.ensures
