use Rattle.std.proofs.Common.{arith}
use Rattle.pm_text.proofs.Objects.{dump_whole}
use Rattle.pm_text.proofs.dump.dump_text.Goals as goal

pub returns : goal.returns
returns c =
    dump_whole c.args.pool.now c.new-out.result.items c.push_root_line.new.out.items _ c.as_slice-off-items.result.now c.loop-off.off-index c.new-out.ensures.items c.in_ok-push_root_line.ensures c.loop-off.invariant
    c.as_slice-off-items.ensures (omega arith)
