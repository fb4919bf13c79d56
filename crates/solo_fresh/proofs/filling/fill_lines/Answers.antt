use Rattle.std.proofs.Common.{◌≡◌, rules, subst, Ok}
use Rattle.solo_world.proofs.Sequencing.{counted_none, counted_next, counted_more, counted_err}
use Rattle.solo_world.specs.Sequences.{Runs, counted}
use Rattle.solo_fresh.specs.Filling.{fills_line, fills_lines}
use Rattle.solo_fresh.proofs.filling.fill_lines.Goals as goal

pub loop-i-init : goal.loop-i-init
loop-i-init g c = counted_none (g.M.LaneMem.at c.args.mem.now) (fills_line c.args.line c.args.header.kind c.args.header.size)

pub fill_line-requires-clause-ready : goal.fill_line-requires-clause-ready
unfolding fills_lines
fill_line-requires-clause-ready g c =
    counted_next (g.M.LaneMem.at c.args.mem.now) (fills_line c.args.line c.args.header.kind c.args.header.size) c.args.lines c.loop-i.i (g.M.LaneMem.at c.loop-i.mem) tt c.loop-i-test.true c.requires.ready c.loop-i.invariant

pub returns-in_err-fill_line : goal.returns-in_err-fill_line
unfolding fills_lines
returns-in_err-fill_line g c =
    counted_err (g.M.LaneMem.at c.args.mem.now) (fills_line c.args.line c.args.header.kind c.args.header.size) (Unit {0}) (Unit {0}) c.args.lines c.loop-i.i (g.M.LaneMem.at c.loop-i.mem) (g.M.LaneMem.at c.fill_line.new.mem) tt
    c.in_err-fill_line.field-0.0 c.from_residual.result c.loop-i-test.true c.loop-i.invariant c.in_err-fill_line.ensures c.from_residual.ensures.0

pub loop-i-preserved : goal.loop-i-preserved
loop-i-preserved g c =
    counted_more (g.M.LaneMem.at c.args.mem.now) (fills_line c.args.line c.args.header.kind c.args.header.size) c.loop-i.i (g.M.LaneMem.at c.loop-i.mem) (g.M.LaneMem.at c.fill_line.new.mem) tt tt c.loop-i.invariant c.in_ok-fill_line.ensures

pub returns : goal.returns
unfolding fills_lines
returns g c =
    subst (λ n. Runs {T = Unit {0}} (g.M.LaneMem.at c.args.mem.now) (g.M.LaneMem.at c.loop-i.mem) (counted (fills_line c.args.line c.args.header.kind c.args.header.size) n) (Ok tt))
    (let e : c.loop-i.i ≡ c.args.lines = search rules in e) c.loop-i.invariant
