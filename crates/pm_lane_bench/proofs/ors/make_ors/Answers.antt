use Rattle.std.proofs.Common.{◌≡◌, ℕ, length, sym, subst, rules, Ok, Err}
use Rattle.pm_plan.specs.Plans.{IsReady, Plan, Runs}
use Rattle.pm_plan.proofs.Plans.{repeated_none}
use Rattle.pm_redo.specs.Entries.{entry_at}
use Rattle.pm_redo.specs.Plans.{applies_entry}
use Rattle.pm_redo.proofs.Finds.{all_made, next_err, next_made, next_ready}
use Rattle.pm_lane_bench.specs.Calls.{ors_listed}
use Rattle.pm_lane_bench.proofs.Timed.{or_here}
use Rattle.pm_lane_bench.proofs.ors.make_ors.Goals as goal

pub loop-init : goal.loop-init
loop-init g c = (
  (λ i. 0),
  repeated_none (g.M.LaneMem.at c.args.mem.now) (λ i. applies_entry
      (entry_at ors_listed i) 0),
)

pub or-requires : goal.or-requires
or-requires g c x = subst (IsReady (g.M.LaneMem.at c.loop.mem)) (or_here c.loop.counter x
    c.loop-test.true)
    (next_ready (g.M.LaneMem.at c.args.mem.now) ors_listed c.loop.invariant.0 c.loop.counter
    (g.M.LaneMem.at c.loop.mem) c.requires c.loop-test.true c.loop.invariant.1 x)

pub returns-in_err-or : goal.returns-in_err-or
returns-in_err-or g c = next_err (g.M.LaneMem.at c.args.mem.now) ors_listed c.loop.invariant.0
    c.loop.counter (g.M.LaneMem.at c.loop.mem) (g.M.LaneMem.at c.or.new.mem)
    c.in_err-or.field-0.0 c.from_residual.result c.loop-test.true c.loop.invariant.1
    (λ x. subst (λ (s : Plan). Runs {T = ℕ} (g.M.LaneMem.at c.loop.mem) (g.M.LaneMem.at
    c.or.new.mem) s (Err c.in_err-or.field-0.0)) (sym (or_here c.loop.counter x
    c.loop-test.true)) (c.in_err-or.ensures x))
    c.from_residual.ensures.0

pub loop-preserved : goal.loop-preserved
loop-preserved g c = next_made (g.M.LaneMem.at c.args.mem.now) ors_listed c.loop.invariant.0
    c.loop.counter c.in_ok-or.field-0 (g.M.LaneMem.at c.loop.mem) (g.M.LaneMem.at c.or.new.mem)
    c.loop.invariant.1
    (subst (λ (s : Plan). Runs {T = ℕ} (g.M.LaneMem.at c.loop.mem) (g.M.LaneMem.at c.or.new.mem)
    s (Ok c.in_ok-or.field-0)) (sym (or_here c.loop.counter c.in_ok-or.field-0
    c.loop-test.true)) c.in_ok-or.ensures)

pub returns : goal.returns
returns g c = all_made (g.M.LaneMem.at c.args.mem.now) ors_listed c.loop.invariant.0
    c.loop.counter (g.M.LaneMem.at c.loop.mem)
    (let e : c.loop.counter ≡ length ors_listed = search rules in e) c.loop.invariant.1
