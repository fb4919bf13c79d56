use Rattle.std.proofs.Common.{◌≡◌, length, rules}
use Rattle.pm_plan.proofs.Plans.{repeated_none}
use Rattle.pm_redo.specs.Entries.{entry_at}
use Rattle.pm_redo.specs.Plans.{applies_entry}
use Rattle.pm_redo.proofs.Finds.{all_made, next_err, next_made, next_ready}
use Rattle.pm_redo.proofs.effects.apply_each.Goals as goal

pub loop-entry-init : goal.loop-entry-init
loop-entry-init g c = (
  (λ i. 0),
  repeated_none (g.M.LaneMem.at c.args.mem.now)
      (λ i. applies_entry (entry_at c.args.entries.now i) 0),
)

pub apply-requires : goal.apply-requires
apply-requires g c = next_ready (g.M.LaneMem.at c.args.mem.now) c.args.entries.now
    c.loop-entry.invariant.0 c.loop-entry.entry-index (g.M.LaneMem.at c.loop-entry.mem) c.requires
    c.loop-entry-test.true c.loop-entry.invariant.1

pub returns-in_err-apply : goal.returns-in_err-apply
returns-in_err-apply g c = next_err (g.M.LaneMem.at c.args.mem.now) c.args.entries.now
    c.loop-entry.invariant.0 c.loop-entry.entry-index (g.M.LaneMem.at c.loop-entry.mem)
    (g.M.LaneMem.at c.apply.new.mem) c.in_err-apply.field-0.0 c.from_residual.result
    c.loop-entry-test.true c.loop-entry.invariant.1 c.in_err-apply.ensures c.from_residual.ensures.0

pub loop-entry-preserved : goal.loop-entry-preserved
loop-entry-preserved g c = next_made (g.M.LaneMem.at c.args.mem.now) c.args.entries.now
    c.loop-entry.invariant.0 c.loop-entry.entry-index c.in_ok-apply.field-0
    (g.M.LaneMem.at c.loop-entry.mem) (g.M.LaneMem.at c.apply.new.mem) c.loop-entry.invariant.1
    c.in_ok-apply.ensures

pub returns : goal.returns
returns g c = all_made (g.M.LaneMem.at c.args.mem.now) c.args.entries.now c.loop-entry.invariant.0
    c.loop-entry.entry-index (g.M.LaneMem.at c.loop-entry.mem)
    (let e : c.loop-entry.entry-index ≡ length c.args.entries.now = search rules in e)
    c.loop-entry.invariant.1
