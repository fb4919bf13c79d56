use Rattle.std.proofs.Common.{◌≡◌, length, rules, subst, Ok}
use Rattle.pm_plan.proofs.Plans.{repeated_none, repeated_next, repeated_more, repeated_err}
use Rattle.pm_plan.specs.Plans.{Runs, repeated}
use Rattle.pm_redo.specs.Entries.{entry_at}
use Rattle.pm_redo.specs.Plans.{writes_pair, writes_pairs}
use Rattle.pm_redo.proofs.pairs.write_pairs.Goals as goal

pub loop-i-init : goal.loop-i-init
loop-i-init g c = repeated_none (g.M.LaneMem.at c.args.mem.now)
    (λ i. writes_pair c.args.shape c.args.lane i (entry_at c.args.entries.now i))

pub write_pair-requires-clause-ready : goal.write_pair-requires-clause-ready
unfolding writes_pairs
write_pair-requires-clause-ready g c =
    repeated_next (g.M.LaneMem.at c.args.mem.now) (λ i. writes_pair c.args.shape c.args.lane i
    (entry_at c.args.entries.now i)) (length c.args.entries.now) c.loop-i.i
    (g.M.LaneMem.at c.loop-i.mem) tt c.loop-i-test.true c.requires.ready c.loop-i.invariant

pub returns-in_err-write_pair : goal.returns-in_err-write_pair
unfolding writes_pairs
returns-in_err-write_pair g c =
    repeated_err (g.M.LaneMem.at c.args.mem.now) (λ i. writes_pair c.args.shape c.args.lane i
    (entry_at c.args.entries.now i)) (Unit {0}) (Unit {0}) (length c.args.entries.now)
    c.loop-i.i (g.M.LaneMem.at c.loop-i.mem) (g.M.LaneMem.at c.write_pair.new.mem) tt
    c.in_err-write_pair.field-0.0 c.from_residual.result c.loop-i-test.true c.loop-i.invariant
    c.in_err-write_pair.ensures c.from_residual.ensures.0

pub loop-i-preserved : goal.loop-i-preserved
loop-i-preserved g c =
    repeated_more (g.M.LaneMem.at c.args.mem.now) (λ i. writes_pair c.args.shape c.args.lane i
    (entry_at c.args.entries.now i)) c.loop-i.i (g.M.LaneMem.at c.loop-i.mem)
    (g.M.LaneMem.at c.write_pair.new.mem) tt tt c.loop-i.invariant c.in_ok-write_pair.ensures

pub returns : goal.returns
unfolding writes_pairs
returns g c =
    subst (λ n. Runs {T = Unit {0}} (g.M.LaneMem.at c.args.mem.now) (g.M.LaneMem.at c.loop-i.mem)
    (repeated (λ i. writes_pair c.args.shape c.args.lane i (entry_at c.args.entries.now i)) n)
    (Ok tt))
    (let e : c.loop-i.i ≡ length c.args.entries.now = search rules in e) c.loop-i.invariant
